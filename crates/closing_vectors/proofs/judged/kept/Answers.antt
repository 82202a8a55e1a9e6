use Rattle.std.proofs.Common.{◌≡◌, ◌∙◌, sym, subst}
use Rattle.phase_message.specs.Stages.{shape_of}
use Rattle.stage_log.specs.Table.{Log}
use Rattle.go_nogo.specs.Stands.{StandAll}
use Rattle.closing_verdict.specs.Shorts.{KeepsShort}
use Rattle.closing_vectors.proofs.judged.kept.Goals.{then-place-slot+in_ok-keep, else-place-slot+in_ok-keep-2}
use Rattle.closing_vectors.proofs.judged.kept.Goals as goal

pub loop-place-preserved : goal.loop-place-preserved
loop-place-preserved c = elim c.if-place-slot.branch [
  | then-place-slot+in_ok-keep w ↦ subst (λ (l : Log). (l.shape ≡ shape_of c.args.shape) × StandAll l × KeepsShort l) (sym w.log-is)
      (w.in_ok-keep.ensures.shape ∙ c.loop-place.invariant.0, w.in_ok-keep.ensures.stand, w.in_ok-keep.ensures.short)
  | else-place-slot+in_ok-keep-2 w ↦ subst (λ (l : Log). (l.shape ≡ shape_of c.args.shape) × StandAll l × KeepsShort l) (sym w.log-is)
      (w.in_ok-keep-2.ensures.shape ∙ c.loop-place.invariant.0, w.in_ok-keep-2.ensures.stand, w.in_ok-keep-2.ensures.short)
]
