use Rattle.std.proofs.Common.{◌+◌, arith}
use Rattle.phase_message.specs.Shape.{Shape}
use Rattle.phase_message.specs.Stages.{shape_of}
use Rattle.judge_core.specs.PadLog.{contents_said}
use Rattle.judge_core.proofs.PadReadings.{last-list, list-entries}
use Rattle.judge_core.proofs.PadSlots.{last_turn-slot, slot-within}
use Rattle.judge_core.proofs.listed_log.last_list.Goals as goal

pub read_slot-requires-clause-there : goal.read_slot-requires-clause-there
read_slot-requires-clause-there c = last_turn-slot (shape_of c.args.shape) (omega (arith, c.args.shape.form.least))

pub read_slot-requires-clause-earlier : goal.read_slot-requires-clause-earlier
read_slot-requires-clause-earlier c =
    let shape : Shape = shape_of c.args.shape in
    omega (
      arith,
      c.requires.whole,
      slot-within shape (shape.members + 1) shape.members
          (last_turn-slot shape (omega (arith, c.args.shape.form.least))) (omega arith),
    )

pub returns-clause-value : goal.returns-clause-value
returns-clause-value c =
    last-list (shape_of c.args.shape) (contents_said c.args.log.now) c.in_ok-body.body c.list_in.result
    (omega (arith, c.args.shape.form.least))
    c.in_ok-body.ensures.value c.list_in.ensures

pub returns-clause-entries : goal.returns-clause-entries
returns-clause-entries c = list-entries (shape_of c.args.shape) c.in_ok-body.body c.list_in.result c.args.shape.form
    c.in_ok-body.ensures.grammar c.list_in.ensures
