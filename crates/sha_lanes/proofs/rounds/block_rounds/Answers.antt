use Rattle.std.proofs.Common.{refl}
use Rattle.sha2.specs.Sha256.{rounds}
use Rattle.sha_lanes.specs.Lanes.{lane}
use Rattle.sha_lanes.proofs.rounds.block_rounds.Goals as goal

pub returns : goal.returns
unfolding rounds
returns c j b below window =
    let h = lane j c.args.h in
    let four = c.four_block_rounds-v.ensures j b h below window refl in
    let eight = c.four_block_rounds-v-2.ensures j b h below window four in
    let twelve = c.four_block_rounds-v-3.ensures j b h below window eight in
    c.four_block_rounds.ensures j b h below window twelve
