use Rattle.std.proofs.Common.{◌≡◌, ℕ, List, length, drop, ap, ◌∙◌}
use Rattle.std.proofs.lemmas.List.{take_at}
use Rattle.std.proofs.lemmas.List.Sorted.{length_permutation}
use Rattle.rand_core.specs.Stream.{Stream}
use Rattle.shuffle_core.proofs.Drawn.{in_drawn_order-shuffled}
use Rattle.shuffle_core.proofs.turn.shuffle.Goals as goal

pub returns : goal.returns
returns c =
    let bodies = c.args.bodies.items in
    let now = c.shuffle.new.self in
    let drawn = ap (λ (p : List (List ℕ) × Stream). p.0) c.shuffle.ensures.drawn in
    let long : length now ≡ c.args.bodies.len = length_permutation c.deref_mut.result.now now c.shuffle.ensures.permutation
    ∙ c.deref_mut.ensures.len in
    take_at now (drop (length now) bodies) c.args.bodies.len long
    ∙ drawn
    ∙ rw (c.deref_mut.ensures.value, c.from_seed.ensures) (in_drawn_order-shuffled c.args.order_seed.now bodies)
