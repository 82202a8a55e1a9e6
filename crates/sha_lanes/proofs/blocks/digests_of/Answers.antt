use Rattle.std.proofs.Common.{ℕ, List, [], ◌∷◌, ◌++◌, ◌∙◌, ap, slice_index_or}
use Rattle.sha2.specs.Sha256.{digest_bytes}
use Rattle.sha_lanes.proofs.FourLanes.{halves-lane}
use Rattle.sha_lanes.proofs.blocks.digests_of.Goals as goal

pub returns : goal.returns
returns c =
    let after = λ (words : List ℕ). digest_bytes words 8 in
    let front = c.transposed-front.ensures in
    let back = c.transposed-back.ensures in
    let digest = λ (j : ℕ). ap after (λ i. slice_index_or (front i) j [] ++ slice_index_or (back i) j []) in
    let lane_of = λ (j : ℕ). ap after (halves-lane c.args.hash.now c.told-hash j) in
    let first = c.digest_of.ensures ∙ digest 0 ∙ lane_of 0 in
    let second = c.digest_of-2.ensures ∙ digest 1 ∙ lane_of 1 in
    let third = c.digest_of-3.ensures ∙ digest 2 ∙ lane_of 2 in
    let fourth = c.digest_of-4.ensures ∙ digest 3 ∙ lane_of 3 in
    (λ i. first i ∷ second i ∷ third i ∷ fourth i ∷ [])
