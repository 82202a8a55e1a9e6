use Rattle.std.proofs.Common.{◌≡◌, ℕ, ◌<◌, false}
use Rattle.std.specs.Prelude.{bytes_eq}
use Rattle.group_roster.specs.Binary.{key_at}
use Rattle.group_roster.proofs.binary.repeats.Given as goal

abbrev pub invariant-loop-j : goal.invariant-loop-j
invariant-loop-j l = (i : ℕ) → i < l.j → bytes_eq (key_at l.bytes i) (key_at l.bytes l.k) ≡ false
