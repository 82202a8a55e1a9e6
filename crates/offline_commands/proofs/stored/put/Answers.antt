use Rattle.std.proofs.Common.{rules}
use Rattle.offline_commands.proofs.stored.put.Goals as goal

pub returns-clause-ok : goal.returns-clause-ok
returns-clause-ok c =
    (record { name = c.in_ok-clone.field-0; bytes = c.in_ok-to_vec.field-0 }, search rules, search rules, c.in_ok-insert.ensures.items)
