use Rattle.std.proofs.Common.{◌≡◌, ℕ, ◌<◌, length}
use Rattle.lm_ots.specs.Walks.{SameEnds, walk_at}
use Rattle.lm_ots.proofs.walks.walk_lanes.Given as goal

-- no chain's end has changed
abbrev pub invariant-loop-k : goal.invariant-loop-k
invariant-loop-k l = record {
  size : length l.walks ≡ 268;
  values : SameEnds l.identifier l.q l.fn.walks l.walks;
  ends : (i : ℕ) → i < 268 → (walk_at l.walks i).end ≡ (walk_at l.fn.walks i).end;
}
