use Rattle.std.proofs.lemmas.Result.{err_from_is_err_and}
use Rattle.phase_message.specs.Offence.{item_at}
use Rattle.phase_message.proofs.Passing.{passing-goes_on, passing-ends, passing-is_done}
use Rattle.phase_message.proofs.field.pass_items.Goals as goal

pub returns-in_err-_bytes : goal.returns-in_err-_bytes
returns-in_err-_bytes c =
    let p = err_from_is_err_and c.from_residual.result c.from_residual.ensures.1 in
    rw (p.1, p.2) (passing-ends c.args.count c.loop.counter (item_at c.args.form) c.loop.cursor _ _ c.loop-test.true c.in_err-_bytes.ensures
    c.loop.invariant)

pub loop-preserved : goal.loop-preserved
loop-preserved c = passing-goes_on c.args.count c.loop.counter (item_at c.args.form) c.loop.cursor c.item_bytes.new.cursor _ _
    c.loop-test.true c.in_ok-_bytes.ensures c.loop.invariant

pub returns : goal.returns
returns c = passing-is_done c.args.count c.loop.counter (item_at c.args.form) c.loop.cursor _ c.loop-test.false c.loop.invariant
