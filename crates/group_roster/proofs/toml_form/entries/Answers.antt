use Rattle.std.proofs.Common.{sym, ◌∙◌}
use Rattle.group_roster.proofs.TomlLemmas.{group-some, group-none}
use Rattle.group_roster.proofs.toml_form.entries.Goals as goal

pub returns-then-is_group-clause-entries : goal.returns-then-is_group-clause-entries
returns-then-is_group-clause-entries c =
    group-some c.in_ok-entries.entries.now.items _ c.in_ok-entries.ensures (sym c.is_group.ensures ∙ c.if-is_group.true)

pub returns-else-is_group-clause-entries : goal.returns-else-is_group-clause-entries
returns-else-is_group-clause-entries c =
    group-none c.in_ok-entries.entries.now.items _ c.in_ok-entries.ensures (sym c.is_group.ensures ∙ c.if-is_group.false)
