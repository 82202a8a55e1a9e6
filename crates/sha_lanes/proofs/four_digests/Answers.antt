use Rattle.std.proofs.Common.{◌<◌, ◌∙◌, ℕ, List, [], ◌∷◌, ap, arith, map, sym}
use Rattle.sha2.specs.Sha256.{digest_bytes, sha256}
use Rattle.sha_lanes.proofs.FourLanes.{four_items}
use Rattle.sha_lanes.proofs.four_digests.Goals as goal

pub returns : goal.returns
returns c =
    let after = λ (h : List ℕ). digest_bytes h 8 in
    let digest = λ (j : ℕ) (below : j < 4). ap after (c.compress-hash.ensures j _ below (c.words_of.ensures j below)) in
    let first = digest 0 (omega arith) ∙ sym c.padded_block.ensures.digest in
    let second = digest 1 (omega arith) ∙ sym c.padded_block-2.ensures.digest in
    let third = digest 2 (omega arith) ∙ sym c.padded_block-3.ensures.digest in
    let fourth = digest 3 (omega arith) ∙ sym c.padded_block-4.ensures.digest in
    c.digests_of.ensures ∙ (λ i. first i ∷ second i ∷ third i ∷ fourth i ∷ []) ∙ ap (map sha256) (sym (four_items c.args.strings.now c.told-strings))
