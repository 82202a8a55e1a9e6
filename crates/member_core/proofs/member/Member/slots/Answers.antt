use Rattle.std.proofs.Common.{ap, ◌∙◌}
use Rattle.member_parts.specs.Endings.{slots_held}
use Rattle.member_core.specs.Membership.{Membership}
use Rattle.member_core.proofs.Shown.{plain-slots}
use Rattle.round_spec.specs.Result.{result_of}
use Rattle.member_spec.specs.Outcomes.{slots_shown}
use Rattle.member_core.specs.Promises.{HoldsMessages, IsOneList}
use Rattle.member_core.proofs.Promised.{holds-messages, if-shown, one-list}
use Rattle.member_core.proofs.member.Member.slots.Goals as goal

pub returns-clause-plain : goal.returns-clause-plain
returns-clause-plain g c start c' delivered stands plain =
    c.slots.ensures ∙ ap (λ (m : Membership g.row.C.Denot). slots_held m.holds.ending) c.self.view_is
    ∙ plain-slots g.C.Conduct.replies start c' delivered c.args.self.now stands plain

pub returns-clause-messages : goal.returns-clause-messages
returns-clause-messages g c c' delivered is =
    if-shown _ c.slots.result (slots_shown (result_of c' delivered)) (HoldsMessages c' delivered)
    (returns-clause-plain g c is.start c' delivered is.stands is.plain) (holds-messages c' delivered)

pub returns-clause-one_list : goal.returns-clause-one_list
returns-clause-one_list g c c' delivered is =
    if-shown _ c.slots.result (slots_shown (result_of c' delivered)) (IsOneList c' delivered)
    (returns-clause-plain g c is.start c' delivered is.stands is.plain) (one-list c' delivered)
