use Rattle.std.proofs.Common.{arith}
use Rattle.sha2.proofs.Schedule256.{IsRoundsAt_at}
use Rattle.sha_lanes.proofs.rounds.schedule_rounds.Goals as goal

pub returns : goal.returns
returns c j b h below held =
    let four = c.four_schedule_rounds-v.ensures j b h below (IsRoundsAt_at b h _ _ _ _ (omega arith) held) in
    let eight = c.four_schedule_rounds-v-2.ensures j b h below four in
    let twelve = c.four_schedule_rounds-v-3.ensures j b h below eight in
    let sixteen = c.four_schedule_rounds.ensures j b h below twelve in
    IsRoundsAt_at b h _ _ _ _ (omega arith) sixteen
