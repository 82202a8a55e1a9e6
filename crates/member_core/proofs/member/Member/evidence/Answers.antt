use Rattle.std.proofs.Common.{ap, ◌∙◌}
use Rattle.member_parts.specs.Endings.{evidence_held}
use Rattle.member_core.specs.Membership.{Membership}
use Rattle.member_core.proofs.Shown.{plain-evidence}
use Rattle.round_spec.specs.Result.{result_of}
use Rattle.member_spec.specs.Outcomes.{evidence_shown}
use Rattle.member_core.specs.Promises.{IsEvidence}
use Rattle.member_core.proofs.Promised.{configured, if-shown, shown-evidence, state-is}
use Rattle.member_core.proofs.member.Member.evidence.Goals as goal

pub returns-clause-plain : goal.returns-clause-plain
returns-clause-plain g c start c' delivered stands plain =
    c.evidence.ensures ∙ ap (λ (m : Membership g.row.C.Denot). evidence_held m.holds.ending) c.self.view_is
    ∙ plain-evidence g.C.Conduct.replies start c' delivered c.args.self.now stands plain

pub returns-clause-convicts : goal.returns-clause-convicts
returns-clause-convicts g c c' delivered is key =
    if-shown _ c.evidence.result (evidence_shown (result_of c' delivered)) (IsEvidence c' delivered _)
    (returns-clause-plain g c is.start c' delivered is.stands is.plain)
    (λ bytes shown. shown-evidence c' delivered _ bytes (configured c' is.stands.stands.can_enter key) is.stands.strings
    (state-is g.C.Conduct.replies c' delivered c.args.self.now is) shown)
