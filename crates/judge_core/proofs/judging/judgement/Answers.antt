use Rattle.std.proofs.Common.{◌≡◌, ap, sym, ◌∙◌, Result, Err}
use Rattle.judge_core.specs.declared.failed_check.Unjudged.{Unjudged}
use Rattle.judge_core.specs.declared.failed_check.Unjudged.TheVariants.{Memory}
use Rattle.judge_core.specs.declared.judging.Accepted.{Accepted}
use Rattle.std.proofs.lemmas.Result.{err_from_is_err_and}
use Rattle.phase_message.specs.Shape.{Shape}
use Rattle.transcript_form.specs.Form.{transcript_read}
use Rattle.judge_core.proofs.judging.judgement.Goals as goal

abbrev unjudged : Unjudged → Result Accepted Unjudged
unjudged e = Err e

abbrev unconvicted : Unjudged → Result (Unit {0}) Unjudged
unconvicted e = Err e

memory_is : (e : Unjudged) → unjudged e ≡ unjudged Memory → unconvicted e ≡ unconvicted Memory
memory_is e same = cc

pub returns-in_err-convict-clause-memory : goal.returns-in_err-convict-clause-memory
returns-in_err-convict-clause-memory c = λ e.
    let p = err_from_is_err_and c.from_residual-in_err-convict.result c.from_residual-in_err-convict.ensures.1 in
    let memory = memory_is c.in_err-convict.field-0.0 (rw (p.1, p.2) at e) in (
      _,
      ap (λ (shape : Shape). transcript_read shape c.args.bytes.now) (sym c.shape.ensures)
          ∙ c.in_ok-listed.ensures.exact,
      c.in_err-convict.ensures.memory memory,
    )
