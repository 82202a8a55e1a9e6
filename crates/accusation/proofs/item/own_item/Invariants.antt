use Rattle.std.proofs.Common.{◌≡◌, ℕ, ◌<◌, None}
use Rattle.accusation.specs.Item.{accusation_by}
use Rattle.accusation.proofs.item.own_item.Given as goal

-- the slots so far accuse nobody
abbrev pub invariant-loop-place : goal.invariant-loop-place
invariant-loop-place l = (k : ℕ) → k < l.place → accusation_by l.own l.opened.items l.states.items l.seeds.items k ≡ None
