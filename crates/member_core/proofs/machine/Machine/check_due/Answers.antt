use Rattle.member_core.proofs.Due.{check-due, seen-right}
use Rattle.member_core.proofs.machine.Machine.check_due.Goals as goal

pub check_body-requires : goal.check_body-requires
check_body-requires c = record { right = seen-right c.args.self.now c.all_right.result c.requires.ready c.all_right.ensures }

pub returns : goal.returns
returns c = λ now. check-due now c.args.self.now c.check_body.result c.requires.formed c.requires.asked c.requires.kind c.check_body.ensures
