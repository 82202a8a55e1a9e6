use Rattle.std.proofs.Common.{ap, ◌∙◌}
use Rattle.std.specs.Prelude.{option_and_then}
use Rattle.group_spec.specs.declared.ending.MemberEnd.{MemberEnd}
use Rattle.group_report.proofs.report.evidence.Goals as goal

pub returns-in-Some : goal.returns-in-Some
returns-in-Some c = c.evidence_of.ensures ∙ ap (option_and_then (λ (member : MemberEnd). member.evidence)) c.in-Some.ensures

pub returns-in-None : goal.returns-in-None
returns-in-None c = ap (option_and_then (λ (member : MemberEnd). member.evidence)) c.in-None.ensures
