use Rattle.std.proofs.Common.{◌≡◌, false, get_or, arith, sym}
use Rattle.std.proofs.lemmas.Grind.{common_steps}
use Rattle.wire_core.specs.Places.{has_byte}
use Rattle.wire_core.proofs.PlaceLemmas.{first_unlike-none, first_unlike-some}
use Rattle.wire_core.proofs.places.first_unlike.Goals as goal

pub returns-then-ne : goal.returns-then-ne
returns-then-ne c =
    let other : has_byte c.args.bytes.now c.loop-p.p (get_or c.args.front.now c.loop-p.p 0) ≡ false = grind (arith, common_steps) in
    sym (first_unlike-some c.args.front.now c.args.bytes.now c.loop-p.p (omega arith) c.loop-p.invariant other)

pub returns : goal.returns
returns c = sym (first_unlike-none c.args.front.now c.args.bytes.now (λ p lt. c.loop-p.invariant p (omega arith)))
