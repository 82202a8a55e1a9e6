use Rattle.std.proofs.Common.{◌+◌, arith}
use Rattle.stage_log.specs.Log.{before}
use Rattle.stage_log.proofs.Fronts.{before-complete, some_is}
use Rattle.log_runs.proofs.views.seen.Goals as goal

pub pass-requires : goal.pass-requires
pass-requires c =
    let past = before-complete c.args.log.now (c.loop-stage.stage + 1) (λ earlier lt. c.is_whole.ensures c.if-not-is_whole.false earlier (omega arith)) in
    some_is (before c.args.log.now (c.loop-stage.stage + 1)) past.0 past.1
