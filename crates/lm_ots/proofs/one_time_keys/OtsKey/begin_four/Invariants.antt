use Rattle.std.proofs.Common.{◌≡◌, ℕ, ◌≤◌, ◌<◌, length}
use Rattle.lm_ots.specs.Signing.{parts_of}
use Rattle.lm_ots.specs.Walks.{own_walk, walk_at}
use Rattle.lm_ots.proofs.one_time_keys.OtsKey.begin_four.Given as goal

-- the chains from first up to i are at their starts, the others are as they were
abbrev pub invariant-loop-i : goal.invariant-loop-i
invariant-loop-i l = record {
  size : length l.walks ≡ 268;
  before : (k : ℕ) → k < l.first → walk_at l.walks k ≡ walk_at l.fn.walks k;
  begun : (k : ℕ) → l.first ≤ k → k < l.i → walk_at l.walks k ≡ own_walk (parts_of l.self) (walk_at l.fn.walks k).end k;
  behind : (k : ℕ) → l.i ≤ k → walk_at l.walks k ≡ walk_at l.fn.walks k;
}
