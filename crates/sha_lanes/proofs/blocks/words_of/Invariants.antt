use Rattle.std.proofs.Common.{◌≡◌, ℕ, ◌*◌, ◌<◌, [], length, slice_index, slice_index_or}
use Rattle.sha2.specs.Sha256.{word_at}
use Rattle.sha_lanes.specs.Lanes.{lane}
use Rattle.sha_lanes.proofs.blocks.words_of.Given as goal

abbrev pub invariant-words : goal.invariant-words
invariant-words l =
    (length l.words ≡ 16)
    × ((j k : ℕ) → j < 4 → k < l.k → slice_index (lane j l.words) k ≡ word_at (slice_index_or l.blocks j []) (4 * k))
