use Rattle.std.proofs.Common.{◌+◌, ◌<◌, ◌^◌, List, All, length, sym, ap, subst, arith}
use Rattle.phase_message.specs.Shape.{Shape}
use Rattle.phase_message.specs.Slots.{slots_before}
use Rattle.phase_message.specs.Stages.{shape_of}
use Rattle.stage_log.specs.Log.{view_of}
use Rattle.judge_core.specs.declared.hearing.Said.{Said as GivenSaid}
use Rattle.judge_core.specs.PadLog.{contents_said}
use Rattle.judge_core.proofs.PadReadings.{range-some, seen-next, short-range}
use Rattle.judge_core.proofs.listed_log.view_behind.Goals as goal

pub carry-requires-clause-some : goal.carry-requires-clause-some
carry-requires-clause-some c =
    omega (
      arith,
      ap (λ (posts : List GivenSaid). length posts) c.posts_at.ensures,
      range-some (shape_of c.args.shape) c.args.log.now
          c.loop-stage.stage c.args.shape.form c.requires (omega arith),
    )

pub carry-requires-clause-short : goal.carry-requires-clause-short
carry-requires-clause-short c =
    let shape : Shape = shape_of c.args.shape in
    subst (All (λ (one : GivenSaid). length one.content.now < 2 ^ 32)) (sym c.posts_at.ensures)
    (short-range shape c.args.log.now (slots_before shape c.loop-stage.stage) (slots_before shape (c.loop-stage.stage + 1)) c.requires)

pub loop-stage-preserved : goal.loop-stage-preserved
loop-stage-preserved c =
    seen-next (shape_of c.args.shape) c.args.log.now c.loop-stage.stage c.posts_at.result.now c.carry.new.running c.posts_at.ensures
    (c.carry.ensures (view_of (shape_of c.args.shape) (contents_said c.args.log.now) c.loop-stage.stage) c.loop-stage.invariant)
