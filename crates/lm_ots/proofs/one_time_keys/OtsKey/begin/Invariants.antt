use Rattle.std.proofs.Common.{◌≡◌, ℕ, ◌*◌, ◌≤◌, ◌<◌}
use Rattle.lm_ots.specs.Signing.{parts_of}
use Rattle.lm_ots.specs.Walks.{own_walk, walk_at}
use Rattle.lm_ots.proofs.one_time_keys.OtsKey.begin.Given as goal

-- the chains of the groups so far are at their starts, the others are as they were
abbrev pub invariant-loop-group : goal.invariant-loop-group
invariant-loop-group l = record {
  begun : (k : ℕ) → k < 4 * l.group → walk_at l.walks k ≡ own_walk (parts_of l.self) (walk_at l.fn.walks k).end k;
  behind : (k : ℕ) → 4 * l.group ≤ k → walk_at l.walks k ≡ walk_at l.fn.walks k;
}
