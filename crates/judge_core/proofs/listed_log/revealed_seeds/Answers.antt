use Rattle.std.proofs.Common.{◌+◌, arith}
use Rattle.phase_message.specs.Shape.{Shape}
use Rattle.phase_message.specs.Stages.{shape_of}
use Rattle.judge_core.specs.PadLog.{contents_said}
use Rattle.judge_core.proofs.PadReadings.{revealed-all, revealed-next, revealed-none, revealed-not}
use Rattle.judge_core.proofs.PadSlots.{final-slot, slot-within}
use Rattle.judge_core.proofs.listed_log.revealed_seeds.Goals as goal

pub read_slot-requires-clause-there : goal.read_slot-requires-clause-there
read_slot-requires-clause-there c = final-slot (shape_of c.args.shape) (c.args.shape.members + 3) c.loop-sender.sender (omega arith)
    (omega arith) (omega arith)

pub read_slot-requires-clause-earlier : goal.read_slot-requires-clause-earlier
read_slot-requires-clause-earlier c =
    let shape : Shape = shape_of c.args.shape in
    let there = final-slot shape (shape.members + 3) c.loop-sender.sender (omega arith) (omega arith) (omega arith) in
    omega (arith, c.requires.whole, slot-within shape (shape.members + 3) c.loop-sender.sender there (omega arith))

pub loop-sender-init : goal.loop-sender-init
loop-sender-init c = revealed-none (shape_of c.args.shape) (contents_said c.args.log.now) c.in_ok-seeds.seeds.items
    c.in_ok-seeds.ensures.items

pub returns-in_default : goal.returns-in_default
returns-in_default c =
    revealed-not (shape_of c.args.shape) (contents_said c.args.log.now) c.loop-sender.sender c.in_ok-body.body (omega arith) (omega arith)
    c.in_ok-body.ensures.value (rw c.in_default.is at c.seed_in.ensures)

pub loop-sender-preserved : goal.loop-sender-preserved
loop-sender-preserved c =
    revealed-next (shape_of c.args.shape) (contents_said c.args.log.now) c.loop-sender.sender c.loop-sender.seeds.items
    c.push.new.self.items
    c.in_ok-body.body c.in-Some.seed (omega arith) c.loop-sender.invariant c.in_ok-body.ensures.value (rw c.in-Some.is at c.seed_in.ensures)
    c.in_ok-push.ensures.items

pub returns : goal.returns
returns c = revealed-all (shape_of c.args.shape) (contents_said c.args.log.now) c.loop-sender.sender c.loop-sender.seeds.items c.of.result
    (omega arith) c.loop-sender.invariant c.of.ensures
