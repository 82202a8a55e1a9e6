use Rattle.std.proofs.Common.{◌≡◌, ◌∙◌, length, ap, arith, refl, sym}
use Rattle.sha2.specs.Sha256.{compress, digest_bytes, initial_hash_256}
use Rattle.sha_lanes.proofs.OneBlock.{overwritten_tail, padded_55, sha256_55}
use Rattle.sha_lanes.proofs.blocks.padded_block.Goals as goal

pub returns : goal.returns
returns c =
    let s = c.args.string.now in
    let front = c.copy_from_slice.ensures.after in
    let long : length s ≡ 55 = omega arith in
    let block = overwritten_tail c.copy_from_slice.new.self s _ _ _ front long refl c.copy_from_slice-2.ensures.after ∙ sym (padded_55 s long) in
    record { block = block; digest = sha256_55 s long ∙ ap (λ b. digest_bytes (compress initial_hash_256 b) 8) (sym block) }
