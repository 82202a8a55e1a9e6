use Rattle.std.proofs.Common.{refl, sym}
use Rattle.sha2.proofs.Schedule256.{rounds_first}
use Rattle.sha_lanes.proofs.Schedules.{slice_index-lane}
use Rattle.sha_lanes.proofs.rounds.block_round.Goals as goal

pub returns : goal.returns
returns c j b h below window held =
    rounds_first b h _ _ c.args.t _ _ _ c.requires window held refl (sym (slice_index-lane c.args.w.now j c.args.t)) (c.round.ensures j below)
