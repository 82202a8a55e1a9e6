use Rattle.std.proofs.Common.{ap, sym, ◌∙◌, subst}
use Rattle.member_core.specs.Membership.{Membership, state_by}
use Rattle.member_core.proofs.Shown.{plain-state, state-shown}
use Rattle.member_core.specs.Promises.{KeepsPromise, WaitsIfOpen}
use Rattle.member_core.proofs.Promised.{all-done, configured, promised, waits}
use Rattle.member_core.proofs.member.Member.state.Goals as goal

pub returns-clause-stands : goal.returns-clause-stands
returns-clause-stands g c start c' delivered stands =
    c.state.ensures ∙ ap (λ (m : Membership g.row.C.Denot). state_by m.holds m.holds.ending) c.self.view_is
    ∙ state-shown start c' delivered c.args.self.now.holds stands.stands.at

pub returns-clause-plain : goal.returns-clause-plain
returns-clause-plain g c start c' delivered stands plain =
    c.state.ensures ∙ ap (λ (m : Membership g.row.C.Denot). state_by m.holds m.holds.ending) c.self.view_is
    ∙ plain-state g.C.Conduct.replies start c' delivered c.args.self.now stands plain

pub returns-clause-promise : goal.returns-clause-promise
returns-clause-promise g c c' delivered is key =
    subst (KeepsPromise c' delivered) (sym (returns-clause-plain g c is.start c' delivered is.stands is.plain))
    (promised c' delivered (configured c' is.stands.stands.can_enter key) is.stands.strings)

pub returns-clause-waits : goal.returns-clause-waits
returns-clause-waits g c c' delivered is =
    subst (WaitsIfOpen c' delivered) (sym (returns-clause-plain g c is.start c' delivered is.stands is.plain))
    (waits c' delivered is.stands.stands.can_enter is.stands.strings)

pub returns-clause-all_honest : goal.returns-clause-all_honest
returns-clause-all_honest g c c' delivered runs is honest =
    returns-clause-plain g c is.start c' delivered is.stands is.plain ∙ all-done c' delivered runs honest
