use Rattle.std.proofs.Common.{◌≡◌, ◌+◌, ◌*◌, ◌-◌, ◌<◌, ◌++◌, ◌∷◌, [], length, get_or, arith}
use Rattle.std.proofs.lemmas.Grind.{common_steps}
use Rattle.group_roster.specs.Roster.{roster_magic}
use Rattle.group_roster.proofs.Spelled.{spelled-more}
use Rattle.group_roster.proofs.spelling.spelled.Goals as goal

pub loop-k-preserved : goal.loop-k-preserved
loop-k-preserved c =
    let keys = c.args.keys.now in
    let k = c.loop-k.k in
    let a = 6 + 56 * k in
    let lt : k < length keys = grind arith in
    let part : c.copy_from_slice-in-loop-k.new.self ≡ get_or keys k [] = grind (arith, common_steps) in
    spelled-more (roster_magic ++ (c.args.version ∷ length keys ∷ [])) keys k c.loop-k.bytes c.copy_from_slice-in-loop-k.new.self a
    ((a + 56) - a) (6 + 56 * (k + 1)) (omega arith) part (omega (arith, c.copy_from_slice-in-loop-k.ensures.len)) lt c.loop-k.invariant
