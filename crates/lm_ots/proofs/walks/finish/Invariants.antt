use Rattle.std.proofs.Common.{◌≡◌, ℕ, ◌≤◌, ◌<◌, length}
use Rattle.lm_ots.specs.Walks.{end_of, walk_at}
use Rattle.lm_ots.proofs.walks.finish.Given as goal

-- the chains before i are at their ends, the others are as they were
abbrev pub invariant-loop-i : goal.invariant-loop-i
invariant-loop-i l = record {
  size : length l.walks ≡ 268;
  done : (k : ℕ) → k < l.i → (walk_at l.walks k).value ≡ end_of l.identifier l.q k (walk_at l.fn.walks k);
  others : (k : ℕ) → l.i ≤ k → walk_at l.walks k ≡ walk_at l.fn.walks k;
}
