use Rattle.std.proofs.Common.{sym, ◌∙◌, arith}
use Rattle.phase_message.specs.Stages.{shape_of}
use Rattle.phase_message.proofs.Counts.{slots_next}
use Rattle.phase_message.proofs.slots.senders.Goals as goal

pub returns-in-Some-clause-next : goal.returns-in-Some-clause-next
returns-in-Some-clause-next c =
    let next = slots_next (shape_of c.args.shape) c.args.stage c.in-Some.kind (sym c.stage_kind.ensures.kind ∙ c.in-Some.is) in
    omega (arith, next, c.senders_of_kind.ensures.value)
