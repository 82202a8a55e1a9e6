use Rattle.std.proofs.Common.{arith}
use Rattle.std.proofs.lemmas.Result.{err_from_is_err_and}
use Rattle.group_roster.proofs.Keys.{keys-stop, keys-go_on, keys-done}
use Rattle.group_roster.proofs.binary.check_keys.Goals as goal

pub returns-in_err-check_key : goal.returns-in_err-check_key
returns-in_err-check_key c =
    let p = err_from_is_err_and c.from_residual.result c.from_residual.ensures.1 in
    rw (p.1, p.2) (keys-stop c.args.bytes.now c.loop-k.k c.args.size c.in_err-check_key.field-0.0 (omega arith) c.loop-k.invariant
    c.in_err-check_key.ensures)

pub loop-k-preserved : goal.loop-k-preserved
loop-k-preserved c = keys-go_on c.args.bytes.now c.loop-k.k c.in_ok-check_key.field-0 c.loop-k.invariant c.in_ok-check_key.ensures

pub returns : goal.returns
returns c = keys-done c.args.bytes.now c.loop-k.k c.args.size c.loop-k-test.false c.loop-k.invariant
