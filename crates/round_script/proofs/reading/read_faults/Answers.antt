use Rattle.std.proofs.Common.{◌∙◌, ◌+◌, Option, sym, ap}
use Rattle.round_script.specs.declared.script.FaultLine.{FaultLine}
use Rattle.round_script.specs.Forms.{fault_line_of}
use Rattle.round_script.proofs.OptionalLemmas.{loop_takes, loop_leaves, loop_is_done}
use Rattle.round_script.proofs.reading.read_faults.Goals.{in-Some+in_ok-push, in_default}
use Rattle.round_script.proofs.reading.read_faults.Goals as goal

pub loop-i-preserved : goal.loop-i-preserved
loop-i-preserved c =
    elim c.match-read_fault.branch [
      | in-Some+in_ok-push w ↦
          let read = ap (λ (one : Option FaultLine). (one, c.read_fault.new.lines)) (sym w.in-Some.is) ∙ c.read_fault.ensures in
          rw (w.faults-is, w.in_ok-push.ensures.items)
          (loop_takes fault_line_of c.loop-i.faults.items (c.loop-i.i + 1) c.args.shape.members c.loop-i.i c.loop-i.lines
          c.read_fault.new.lines w.in-Some.fault _ c.loop-i-test.true read c.loop-i.invariant)
      | in_default w ↦
          let read = ap (λ (one : Option FaultLine). (one, c.read_fault.new.lines)) (sym w.in_default.is) ∙ c.read_fault.ensures in
          rw w.faults-is
          (loop_leaves fault_line_of c.loop-i.faults.items (c.loop-i.i + 1) c.args.shape.members c.loop-i.i c.loop-i.lines
          c.read_fault.new.lines _ c.loop-i-test.true read c.loop-i.invariant)
    ]

pub returns : goal.returns
returns c = loop_is_done fault_line_of c.loop-i.faults.items (c.loop-i.i + 1) c.args.shape.members c.loop-i.i c.loop-i.lines _
    c.loop-i-test.false c.loop-i.invariant
