use Rattle.std.proofs.Common.{subst}
use Rattle.phase_message.specs.Shape.{Shape}
use Rattle.go_nogo.specs.Closing.{IsClosing}
use Rattle.go_nogo.proofs.Justification.{holds-whole}
use Rattle.log_runs.proofs.closings.answer.Goals as goal

pub justified-requires-clause-holds : goal.justified-requires-clause-holds
justified-requires-clause-holds c =
    let closing = subst (λ (shape : Shape). IsClosing shape c.args.content.now) c.shape.ensures.shape (c.closes.ensures c.if-closes.true) in
    holds-whole c.args.content.now c.args.log.now closing (c.is_whole.ensures c.if-is_whole.true)
