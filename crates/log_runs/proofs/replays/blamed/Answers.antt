use Rattle.stage_log.specs.Log.{before}
use Rattle.stage_log.proofs.Fronts.{before-complete, some_is}
use Rattle.log_runs.proofs.replays.blamed.Goals as goal

pub replay-requires-clause-complete : goal.replay-requires-clause-complete
replay-requires-clause-complete c =
    let past = before-complete c.args.log.now 5 (λ earlier lt. c.is_whole.ensures c.if-not-is_whole.false earlier lt) in
    some_is (before c.args.log.now 5) past.0 past.1
