use Rattle.std.proofs.Common.{◌≡◌, ◌+◌, ◌-◌, length, take, drop, ap, ◌∙◌, ℕ, arith}
use Rattle.wire_core.specs.Places.{part}
use Rattle.wire_core.proofs.places.copy_part.Goals as goal

pub returns : goal.returns
unfolding part
returns c =
    let n : c.args.at + length c.args.into.now - c.args.at ≡ length c.args.into.now = omega arith in
    c.copy_from_slice.ensures.after ∙ ap (λ (k : ℕ). take k (drop c.args.at c.args.bytes.now)) n
