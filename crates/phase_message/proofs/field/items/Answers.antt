use Rattle.std.proofs.lemmas.Result.{err_from_is_err_and}
use Rattle.wire_core.proofs.Readings.{loop-goes_on, loop-ends, loop-is_done}
use Rattle.phase_message.specs.Offence.{fault, item_at}
use Rattle.phase_message.proofs.field.items.Goals as goal

pub returns-in_err-item : goal.returns-in_err-item
returns-in_err-item c =
    let p = err_from_is_err_and c.from_residual.result c.from_residual.ensures.1 in
    rw (p.1, p.2) (loop-ends fault c.in_err-item.field-0.0 c.loop.items.items c.args.count c.loop.counter (item_at c.args.form)
    c.loop.cursor _ c.loop-test.true c.in_err-item.ensures c.loop.invariant)

pub loop-preserved : goal.loop-preserved
loop-preserved c =
    rw c.in_ok-push.ensures.items
    (loop-goes_on c.loop.items.items c.args.count c.loop.counter (item_at c.args.form) c.loop.cursor c.in_ok-item.field-0 c.item.new.cursor
    _ c.loop-test.true c.in_ok-item.ensures c.loop.invariant)

pub returns : goal.returns
returns c = rw c.of.ensures (loop-is_done c.loop.items.items c.args.count c.loop.counter (item_at c.args.form) c.loop.cursor _
    c.loop-test.false c.loop.invariant)
