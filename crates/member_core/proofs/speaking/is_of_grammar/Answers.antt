use Rattle.std.proofs.Common.{arith}
use Rattle.member_core.proofs.speaking.is_of_grammar.Goals as goal

pub returns-clause-bytes : goal.returns-clause-bytes
returns-clause-bytes c = λ i. omega (arith, c.type_inv.bytes i)
