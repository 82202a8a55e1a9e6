use Rattle.stage_log.specs.Table.{missing_bit}
use Rattle.stage_log.proofs.Missing.{bits-next, bits-below}
use Rattle.stage_log.proofs.log.StageLog.missing.Goals as goal

pub loop-sender-preserved : goal.loop-sender-preserved
loop-sender-preserved c =
    let bit = missing_bit c.args.self.now c.args.stage in
    let next = bits-next bit c.loop-sender.sender c.loop-sender.bits c.loop-sender.auto.sender c.loop-sender.invariant.0 in (
      rw c.missing_bit-bits.ensures.bit next,
      bits-below c.loop-sender.sender c.loop-sender.bits c.missing_bit-bits.result c.loop-sender.auto.sender c.loop-sender.invariant.1
          c.missing_bit-bits.ensures.most,
    )
