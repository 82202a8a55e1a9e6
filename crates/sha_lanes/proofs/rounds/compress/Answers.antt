use Rattle.std.proofs.Common.{◌∙◌, refl}
use Rattle.sha2.specs.Sha256.{compress}
use Rattle.sha_lanes.proofs.rounds.compress.Goals as goal

pub returns : goal.returns
unfolding compress
returns c j b below window =
    let h = c.initial_hash-initial.ensures j below in
    let first = c.block_rounds-v.ensures j b below window in
    let one = c.schedule_rounds-v.ensures j b _ below (window, first) in
    let two = c.schedule_rounds-v-2.ensures j b _ below one in
    let three = c.schedule_rounds-v-3.ensures j b _ below two in
    c.add_state.ensures j below ∙ rw (three.1, h) refl
