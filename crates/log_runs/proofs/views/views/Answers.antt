use Rattle.stage_log.specs.Log.{before}
use Rattle.stage_log.proofs.Fronts.{before-complete, some_is}
use Rattle.log_runs.proofs.views.views.Goals as goal

pub view-requires : goal.view-requires
view-requires c =
    let past = before-complete c.args.log.now c.args.stage (c.is_whole.ensures c.if-not-is_whole.false) in
    some_is (before c.args.log.now c.args.stage) past.0 past.1
