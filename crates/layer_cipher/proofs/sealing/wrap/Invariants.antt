use Rattle.std.proofs.Common.{◌≡◌, ◌≤◌, drop, vec_len}
use Rattle.layer_cipher.specs.Layer.{wrapping_of}
use Rattle.layer_cipher.proofs.sealing.wrap.Given as goal

-- the layers from the innermost out to layer k
abbrev pub invariant-loop-k : goal.invariant-loop-k
invariant-loop-k l = record {
  within : l.k ≤ vec_len l.keys;
  wrapped : l.layers.items ≡ wrapping_of (drop l.k l.keys.items) (drop l.k l.seeds.items) l.blob;
}

abbrev pub decreases-loop-k : goal.decreases-loop-k
decreases-loop-k l = l.k
