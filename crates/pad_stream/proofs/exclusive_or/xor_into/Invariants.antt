use Rattle.std.proofs.Common.{◌≡◌, ℕ, ◌<◌, ◌≤◌, get_or}
use Rattle.std.specs.Prelude.{bit_xor}
use Rattle.pad_stream.proofs.exclusive_or.xor_into.Given as goal

-- the bytes before the index are done, and those from it on are as they were
abbrev pub invariant-loop-i : goal.invariant-loop-i
invariant-loop-i l = record {
  done : (k : ℕ) → k < l.i → get_or l.into k 0 ≡ bit_xor (get_or l.fn.into k 0) (get_or l.from k 0);
  kept : (k : ℕ) → l.i ≤ k → get_or l.into k 0 ≡ get_or l.fn.into k 0;
}
