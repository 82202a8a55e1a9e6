use Rattle.std.proofs.Common.{◌≡◌, ℕ, ◌<◌, length}
use Rattle.lm_ots.specs.Walks.{signature_walk, walk_at}
use Rattle.lm_ots.proofs.chains.walks_of_signature.Given as goal

-- the values so far
abbrev pub invariant-loop-i : goal.invariant-loop-i
invariant-loop-i l = record {
  size : length l.walks ≡ 268;
  taken : (k : ℕ) → k < l.i → walk_at l.walks k ≡ signature_walk l.fn.width l.signed l.sig k;
}
