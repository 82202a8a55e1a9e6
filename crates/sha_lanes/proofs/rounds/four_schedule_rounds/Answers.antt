use Rattle.std.proofs.Common.{arith}
use Rattle.sha2.proofs.Schedule256.{IsRoundsAt_at}
use Rattle.sha_lanes.proofs.rounds.four_schedule_rounds.Goals as goal

pub returns : goal.returns
returns c j b h below held =
    let one = c.schedule_round-v.ensures j b h below held in
    let two = c.schedule_round-v-2.ensures j b h below one in
    let three = c.schedule_round-v-3.ensures j b h below (IsRoundsAt_at b h _ _ _ _ (omega arith) two) in
    let four = c.schedule_round.ensures j b h below (IsRoundsAt_at b h _ _ _ _ (omega arith) three) in
    IsRoundsAt_at b h _ _ _ _ (omega arith) four
