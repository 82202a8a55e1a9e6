-- The rounds in each lane, by what sha2 shows of the rounds on one block.
use Rattle.std.proofs.Common.{◌≡◌, ℕ, List, [], slice_index, slice_index_or, slice_set, length}
use Rattle.std.proofs.Math.ListN.{get_or-map}
use Rattle.std.proofs.lemmas.List.{length-map, map-set}
use Rattle.sha_lanes.specs.Lanes.{lane}

pub length-lane : (words : List (List ℕ)) (j : ℕ) → length (lane j words) ≡ length words
length-lane words j = length-map words (λ (w : List ℕ). slice_index w j)

-- word k of lane j
pub slice_index-lane : (words : List (List ℕ)) (j k : ℕ) → slice_index (lane j words) k ≡ slice_index (slice_index_or words k []) j
slice_index-lane words j k = get_or-map (λ (w : List ℕ). slice_index w j) words k []

-- a vector that is put among others is a word in each lane
pub lane-set : (words : List (List ℕ)) (j k : ℕ) (word : List ℕ) → lane j (slice_set words k word) ≡ slice_set (lane j words) k (slice_index word j)
lane-set words j k word = map-set (λ (w : List ℕ). slice_index w j) words k word
