use Rattle.std.proofs.Common.{ℕ, ap, ◌∙◌}
use Rattle.std.specs.Prelude.{option_map}
use Rattle.judge_core.specs.declared.failed_check.FailedCheck.TheVariants.{LogsDiffer}
use Rattle.judge_core.proofs.replaying.unlike_log.Goals as goal

pub returns-in_err-slot : goal.returns-in_err-slot
returns-in_err-slot c = λ stage past others k k'.
    c.from_residual.ensures ∙ ap (option_map (λ (slot : ℕ). LogsDiffer c.args.post slot)) (c.in_err-slot.ensures stage past others k k')

pub returns : goal.returns
returns c = λ stage past others k k'.
    ap (option_map (λ (slot : ℕ). LogsDiffer c.args.post slot)) (c.in_ok-slot.ensures stage past others k k')
