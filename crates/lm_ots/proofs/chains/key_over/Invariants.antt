use Rattle.sha2.specs.Hashers.{Holds256}
use Rattle.lm_ots.specs.OneTime.{key_string}
use Rattle.lm_ots.specs.Walks.{values}
use Rattle.lm_ots.proofs.chains.key_over.Given as goal

-- the hasher has taken in the values so far
abbrev pub invariant-loop-i : goal.invariant-loop-i
invariant-loop-i l = Holds256 l.hasher (key_string l.identifier l.q (values l.walks l.i))
