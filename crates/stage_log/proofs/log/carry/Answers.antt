use Rattle.std.proofs.Common.{take}
use Rattle.stage_log.specs.Log.{contents_in}
use Rattle.stage_log.proofs.Steps.{contents_in-next}
use Rattle.stage_log.proofs.log.carry.Goals as goal

pub loop-kept-preserved : goal.loop-kept-preserved
loop-kept-preserved c = λ view before.
    rw (contents_in-next c.args.places.now c.loop-kept.kept-index c.kept-item.result c.loop-kept-test.true c.kept-item.is)
    (c.say.ensures view (contents_in (take c.loop-kept.kept-index c.args.places.now)) (c.loop-kept.invariant view before))
