use Rattle.std.proofs.Common.{◌≡◌, ◌++◌, ◌∷◌, ◌-◌, ℕ, List, [], Some, arith}
use Rattle.std.proofs.lemmas.Result.{err_from_is_err_and}
use Rattle.wire_core.proofs.Readings.{with_front-nil, loop-goes_on, loop-ends, loop-is_done}
use Rattle.transcript_form.specs.declared.refusal.FailedForm.{FailedForm}
use Rattle.transcript_form.specs.Form.{listed_at}
use Rattle.transcript_form.proofs.listed.pass_posts.Goals as goal

pub loop-init : goal.loop-init
loop-init c =
    let all : c.args.count - 0 ≡ c.args.count = omega arith in
    ([], rw all (with_front-nil _))

pub returns-in_err-read_post : goal.returns-in_err-read_post
returns-in_err-read_post c =
    let p = err_from_is_err_and c.from_residual.result c.from_residual.ensures.1 in
    rw (p.1, p.2) (loop-ends (λ (e : FailedForm). Some e) c.in_err-read_post.field-0.0 c.loop.invariant.0 c.args.count c.loop.counter
    (listed_at c.args.size) c.loop.cursor _ c.loop-test.true c.in_err-read_post.ensures c.loop.invariant.1)

pub loop-preserved : goal.loop-preserved
loop-preserved c = (
  c.loop.invariant.0 ++ c.in_ok-read_post.field-0.now ∷ [],
  loop-goes_on c.loop.invariant.0 c.args.count c.loop.counter (listed_at c.args.size) c.loop.cursor c.in_ok-read_post.field-0.now
      c.read_post.new.cursor _ c.loop-test.true c.in_ok-read_post.ensures c.loop.invariant.1,
)

pub returns : goal.returns
returns c = (
  c.loop.invariant.0,
  loop-is_done c.loop.invariant.0 c.args.count c.loop.counter (listed_at c.args.size) c.loop.cursor _
      c.loop-test.false c.loop.invariant.1,
)
