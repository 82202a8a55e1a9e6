use Rattle.std.proofs.Common.{◌≡◌, ◌+◌, ◌*◌, length, take, ◌++◌, ◌∷◌}
use Rattle.std.specs.List.{concat}
use Rattle.group_roster.specs.Roster.{roster_magic}
use Rattle.group_roster.proofs.spelling.spelled.Given as goal

abbrev pub invariant-loop-k : goal.invariant-loop-k
invariant-loop-k l =
    take (6 + 56 * l.k) l.bytes ≡ roster_magic ++ (l.version ∷ length l.keys ∷ concat (take l.k l.keys))
