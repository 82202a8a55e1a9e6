use Rattle.std.proofs.Common.{[]}
use Rattle.member_spec.specs.Actor.{first_actor}
use Rattle.member_core.specs.Membership.{holdings_of}
use Rattle.member_core.specs.Stands.{configuration_of}
use Rattle.member_core.proofs.Delivering.{started-stands}
use Rattle.member_core.proofs.Promised.{plain-run, plain-start}
use Rattle.member_core.proofs.member.Member.start.Goals as goal

pub returns-in-Ok-clause-stands : goal.returns-in-Ok-clause-stands
returns-in-Ok-clause-stands g c =
    let config = configuration_of c.args.config c.args.leaves in
    let start = g.C.Conduct.replies c.args.conduct in
    started-stands g.C.Conduct.replies start config (record { holds = holdings_of c.advance.new.self; conduct = c.advance.new.conduct })
    (c.in-Ok.ensures.stands start config (first_actor config) (c.in_ok-machine.ensures.stands start))

pub returns-in-Ok-clause-plain_member : goal.returns-in-Ok-clause-plain_member
returns-in-Ok-clause-plain_member g c plain =
    plain-start g.C.Conduct.replies (g.C.Conduct.replies c.args.conduct) (configuration_of c.args.config c.args.leaves)
    (record { holds = holdings_of c.advance.new.self; conduct = c.advance.new.conduct }) plain (returns-in-Ok-clause-stands g c)

pub returns-in-Ok-clause-run : goal.returns-in-Ok-clause-run
returns-in-Ok-clause-run g c plain =
    plain-run g.C.Conduct.replies (configuration_of c.args.config c.args.leaves) []
    (record { holds = holdings_of c.advance.new.self; conduct = c.advance.new.conduct }) (returns-in-Ok-clause-plain_member g c plain)
