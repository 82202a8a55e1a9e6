use Rattle.member_core.proofs.Seeing.{seen-next}
use Rattle.member_core.proofs.machine.Machine.go_on.Goals as goal

pub returns-clause-seen : goal.returns-clause-seen
returns-clause-seen c = seen-next c.args.self.now.log c.args.self.now.stage c.args.self.now.seen c.pass.new.self c.requires.there
    c.pass.ensures
