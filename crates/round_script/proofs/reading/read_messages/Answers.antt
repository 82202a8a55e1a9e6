use Rattle.std.proofs.Common.{arith}
use Rattle.std.proofs.lemmas.Result.{err_from_is_err_and}
use Rattle.wire_core.proofs.Readings.{loop-goes_on, loop-ends, loop-is_done}
use Rattle.round_script.specs.Lines.{bad_line}
use Rattle.round_script.specs.Read.{message_at}
use Rattle.round_script.proofs.reading.read_messages.Goals as goal

pub returns-in_err-message : goal.returns-in_err-message
returns-in_err-message c =
    let p = err_from_is_err_and c.from_residual.result c.from_residual.ensures.1 in
    rw (p.1, p.2) (loop-ends bad_line c.in_err-message.field-0.0 c.loop-i.messages.items c.args.members c.loop-i.i message_at c.loop-i.lines
    _ c.loop-i-test.true c.in_err-message.ensures.read c.loop-i.invariant.0)

pub loop-i-preserved : goal.loop-i-preserved
loop-i-preserved c = (
  rw c.in_ok-push.ensures.items
      (loop-goes_on c.loop-i.messages.items c.args.members c.loop-i.i message_at c.loop-i.lines c.in_ok-message.message
      c.read_message.new.lines _ c.loop-i-test.true c.in_ok-message.ensures.read c.loop-i.invariant.0),
  omega (arith, c.in_ok-message.ensures.next, c.loop-i.invariant.1),
)

pub returns : goal.returns
returns c = loop-is_done c.loop-i.messages.items c.args.members c.loop-i.i message_at c.loop-i.lines _ c.loop-i-test.false
    c.loop-i.invariant.0
