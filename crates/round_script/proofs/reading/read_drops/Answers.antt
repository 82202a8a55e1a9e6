use Rattle.std.proofs.Common.{◌∙◌, ◌*◌, ◌+◌, Option, sym, ap}
use Rattle.phase_message.specs.declared.stage.Slot.{Slot}
use Rattle.phase_message.specs.Stages.{shape_of}
use Rattle.round_script.specs.Forms.{slot_dropped}
use Rattle.round_script.proofs.OptionalLemmas.{loop_takes, loop_leaves, loop_is_done}
use Rattle.round_script.proofs.reading.read_drops.Goals.{in-Some+in_ok-push, in_default}
use Rattle.round_script.proofs.reading.read_drops.Goals as goal

pub loop-rank-preserved : goal.loop-rank-preserved
loop-rank-preserved c =
    let count = 8 * (2 * c.args.shape.members + 10) in
    elim c.match-read_drop.branch [
      | in-Some+in_ok-push w ↦
          let read = ap (λ (one : Option Slot). (one, c.read_drop.new.lines)) (sym w.in-Some.is) ∙ c.read_drop.ensures in
          rw (w.drops-is, w.in_ok-push.ensures.items)
          (loop_takes (slot_dropped (shape_of c.args.shape)) c.loop-rank.drops.items c.loop-rank.rank count c.loop-rank.rank
          c.loop-rank.lines c.read_drop.new.lines w.in-Some.slot _ c.loop-rank-test.true read c.loop-rank.invariant)
      | in_default w ↦
          let read = ap (λ (one : Option Slot). (one, c.read_drop.new.lines)) (sym w.in_default.is) ∙ c.read_drop.ensures in
          rw w.drops-is
          (loop_leaves (slot_dropped (shape_of c.args.shape)) c.loop-rank.drops.items c.loop-rank.rank count c.loop-rank.rank
          c.loop-rank.lines c.read_drop.new.lines _ c.loop-rank-test.true read c.loop-rank.invariant)
    ]

pub returns : goal.returns
returns c = loop_is_done (slot_dropped (shape_of c.args.shape)) c.loop-rank.drops.items c.loop-rank.rank
    (8 * (2 * c.args.shape.members + 10)) c.loop-rank.rank c.loop-rank.lines _ c.loop-rank-test.false c.loop-rank.invariant
