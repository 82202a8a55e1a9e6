use Rattle.std.proofs.Common.{[], ◌++◌, ◌∷◌, Ok, ap, sym, ◌∙◌, refl, subst, arith}
use Rattle.member_parts.specs.Endings.{HasBlamed, HasEnded, IsOpen, IsOutOfMemory}
use Rattle.member_core.specs.declared.machine.Machine.{Machine}
use Rattle.member_core.specs.Membership.{Membership, holdings_of}
use Rattle.member_core.specs.Needs.{HoldsNeeded}
use Rattle.member_core.specs.Sound.{IsSound}
use Rattle.member_core.specs.Stands.{Stands}
use Rattle.member_core.proofs.Delivering.{ended-answer, ended-open, ended-runs, ended-stands, ended-stops, has-ended, ok-same, open-stops, stopped-ended, stopped-stands, taken-stands}
use Rattle.member_core.proofs.Handing.{stopped-sound}
use Rattle.member_core.proofs.Promised.{plain-run}
use Rattle.member_core.proofs.member.Member.deliver.Goals as goal

-- ---- a member that is stopped

pub same-self : goal.same-self
same-self g c = refl

stopped-now : (g : Rattle.member_core.proofs.member.Member.deliver.Given.Over) (c : goal.In-Stopped g)
    → IsOutOfMemory c.args.self.now.holds.ending
stopped-now g c =
    subst (λ (m : Membership g.row.C.Denot). IsOutOfMemory m.holds.ending) c.self.view_is (subst IsOutOfMemory (sym c.in-Stopped.is) tt)

pub returns-in-Stopped-clause-idle : goal.returns-in-Stopped-clause-idle
returns-in-Stopped-clause-idle g c start c' delivered stands leaves =
    absurd (stopped-stands g.C.Conduct.replies start c' delivered c.args.self.now stands (stopped-now g c))

pub returns-in-Stopped-clause-finished : goal.returns-in-Stopped-clause-finished
returns-in-Stopped-clause-finished g c = (
  λ e. absurd cc,
  λ ended. absurd
      (stopped-ended c.args.self.now.holds.ending (stopped-now g c) ended),
)

pub returns-in-Stopped-clause-evidence : goal.returns-in-Stopped-clause-evidence
returns-in-Stopped-clause-evidence g c = (λ e. absurd cc, λ both. absurd (open-stops c.args.self.now.holds.ending both.0 (stopped-now g c)))

pub returns-in-Stopped-clause-secrets : goal.returns-in-Stopped-clause-secrets
returns-in-Stopped-clause-secrets g c = subst (λ (m : Membership g.row.C.Denot). HoldsNeeded m.holds) c.self.view_is c.self.invariant.needed

pub returns-in-Stopped-clause-stopped : goal.returns-in-Stopped-clause-stopped
returns-in-Stopped-clause-stopped g c err = stopped-now g c

pub returns-in-Stopped-clause-stays : goal.returns-in-Stopped-clause-stays
returns-in-Stopped-clause-stays g c stopped = refl

-- ---- a member whose round has ended

pub same-self-in-Done : goal.same-self-in-Done
same-self-in-Done g c = refl

ended-now : (g : Rattle.member_core.proofs.member.Member.deliver.Given.Over) (c : goal.In-Done g) → HasEnded c.args.self.now.holds.ending
ended-now g c =
    subst (λ (m : Membership g.row.C.Denot). HasEnded m.holds.ending) c.self.view_is (has-ended c.self.inside.machine.ending c.in-Done.is)

pub returns-in-Done-clause-stands : goal.returns-in-Done-clause-stands
returns-in-Done-clause-stands g c start c' delivered stands =
    ended-stands g.C.Conduct.replies start c' delivered c.args.bytes.now c.args.self.now (λ i. omega (arith, c.type_inv.bytes i))
    (ended-now g c)
    stands

pub returns-in-Done-clause-plain_member : goal.returns-in-Done-clause-plain_member
returns-in-Done-clause-plain_member g c c' delivered is =
    record { start = is.start; plain = is.plain; stands = returns-in-Done-clause-stands g c is.start c' delivered is.stands }

pub returns-in-Done-clause-run : goal.returns-in-Done-clause-run
returns-in-Done-clause-run g c c' delivered is =
    plain-run g.C.Conduct.replies c' (delivered ++ c.args.bytes.now ∷ []) c.args.self.now
    (returns-in-Done-clause-plain_member g c c' delivered is)

pub returns-in-Done-clause-answer : goal.returns-in-Done-clause-answer
returns-in-Done-clause-answer g c start c' delivered stands =
    ended-answer g.C.Conduct.replies start c' delivered c.args.bytes.now c.args.self.now (ended-now g c) stands

pub returns-in-Done-clause-leaves : goal.returns-in-Done-clause-leaves
returns-in-Done-clause-leaves g c leaves = refl

pub returns-in-Done-clause-handed : goal.returns-in-Done-clause-handed
returns-in-Done-clause-handed g c = refl

pub returns-in-Done-clause-idle : goal.returns-in-Done-clause-idle
returns-in-Done-clause-idle g c start c' delivered stands leaves = refl

pub returns-in-Done-clause-finished : goal.returns-in-Done-clause-finished
returns-in-Done-clause-finished g c = (λ e. ended-now g c, λ ended. refl)

pub returns-in-Done-clause-evidence : goal.returns-in-Done-clause-evidence
returns-in-Done-clause-evidence g c = (λ e. absurd cc, λ both. absurd (ended-open c.args.self.now.holds.ending (ended-now g c) both.0))

pub returns-in-Done-clause-secrets : goal.returns-in-Done-clause-secrets
returns-in-Done-clause-secrets g c = subst (λ (m : Membership g.row.C.Denot). HoldsNeeded m.holds) c.self.view_is c.self.invariant.needed

pub returns-in-Done-clause-runs : goal.returns-in-Done-clause-runs
returns-in-Done-clause-runs g c = ended-runs c.args.self.now.holds.ending (ended-now g c)

pub returns-in-Done-clause-stopped : goal.returns-in-Done-clause-stopped
returns-in-Done-clause-stopped g c err = absurd cc

pub returns-in-Done-clause-stays : goal.returns-in-Done-clause-stays
returns-in-Done-clause-stays g c stopped = absurd (ended-stops c.args.self.now.holds.ending (ended-now g c) stopped)

-- ---- a member that takes it

pub take-requires-clause-sound : goal.take-requires-clause-sound
take-requires-clause-sound g c = c.self.invariant

pub take-requires-clause-going : goal.take-requires-clause-going
take-requires-clause-going g c = subst IsOpen (sym c.in-Open.is) tt

pub invariant_of-self : goal.invariant_of-self
invariant_of-self g c = c.in-Ok.ensures.sound

open-now : (g : Rattle.member_core.proofs.member.Member.deliver.Given.Over) (c : goal.In-Ok g) → IsOpen c.args.self.now.holds.ending
open-now g c = subst (λ (m : Membership g.row.C.Denot). IsOpen m.holds.ending) c.self.view_is (subst IsOpen (sym c.in-Open.is) tt)

pub returns-in-Ok-clause-stands : goal.returns-in-Ok-clause-stands
returns-in-Ok-clause-stands g c start c' delivered stands =
    let old = subst (Stands g.C.Conduct.replies start c' delivered) (sym c.self.view_is) stands in
    taken-stands g.C.Conduct.replies start c' delivered c.args.bytes.now c.in-Ok.taken
    (record { holds = holdings_of c.take.new.self; conduct = c.take.new.conduct })
    stands.strings (λ i. omega (arith, c.type_inv.bytes i)) (c.in-Ok.ensures.takes start c' delivered old.stands)

pub returns-in-Ok-clause-plain_member : goal.returns-in-Ok-clause-plain_member
returns-in-Ok-clause-plain_member g c c' delivered is =
    record { start = is.start; plain = is.plain; stands = returns-in-Ok-clause-stands g c is.start c' delivered is.stands }

pub returns-in-Ok-clause-run : goal.returns-in-Ok-clause-run
returns-in-Ok-clause-run g c c' delivered is =
    plain-run g.C.Conduct.replies c' (delivered ++ c.args.bytes.now ∷ [])
    (record { holds = holdings_of c.take.new.self; conduct = c.take.new.conduct })
    (returns-in-Ok-clause-plain_member g c c' delivered is)

pub returns-in-Ok-clause-answer : goal.returns-in-Ok-clause-answer
returns-in-Ok-clause-answer g c start c' delivered stands =
    let old = subst (Stands g.C.Conduct.replies start c' delivered) (sym c.self.view_is) stands in
    (c.in-Ok.ensures.takes start c' delivered old.stands).answer

pub returns-in-Ok-clause-leaves : goal.returns-in-Ok-clause-leaves
returns-in-Ok-clause-leaves g c leaves =
    let machine = c.in-Ok.ensures.leaves leaves in
    let conduct = c.in-Ok.ensures.conduct leaves in
    let first : Machine → Membership g.row.C.Denot = λ x. record { holds = holdings_of x; conduct = c.take.new.conduct } in
    let second : g.row.C.Denot → Membership g.row.C.Denot = λ x. record { holds = holdings_of c.self.inside.machine; conduct = x } in
    ap first machine ∙ ap second conduct ∙ c.self.view_is

pub returns-in-Ok-clause-handed : goal.returns-in-Ok-clause-handed
returns-in-Ok-clause-handed g c = c.in-Ok.ensures.handed ∙ ap (λ (m : Membership g.row.C.Denot). m.holds.handed) c.self.view_is

pub returns-in-Ok-clause-idle : goal.returns-in-Ok-clause-idle
returns-in-Ok-clause-idle g c start c' delivered stands leaves = refl

pub returns-in-Ok-clause-finished : goal.returns-in-Ok-clause-finished
returns-in-Ok-clause-finished g c = (
  λ e. absurd (c.in-Ok.ensures.ending.going (ok-same _ _ e)),
  λ ended. absurd (ended-open c.args.self.now.holds.ending ended (open-now g c)),
)

pub returns-in-Ok-clause-evidence : goal.returns-in-Ok-clause-evidence
returns-in-Ok-clause-evidence g c = (
  λ e. (open-now g c, c.in-Ok.ensures.ending.evidence.0 (ok-same _ _ e)),
  λ both. ap (λ taken. Ok taken) (c.in-Ok.ensures.ending.evidence.1 both.1),
)

pub returns-in-Ok-clause-secrets : goal.returns-in-Ok-clause-secrets
returns-in-Ok-clause-secrets g c = c.in-Ok.ensures.sound.needed

pub returns-in-Ok-clause-runs : goal.returns-in-Ok-clause-runs
returns-in-Ok-clause-runs g c = c.in-Ok.ensures.runs

pub returns-in-Ok-clause-stopped : goal.returns-in-Ok-clause-stopped
returns-in-Ok-clause-stopped g c err = absurd cc

pub returns-in-Ok-clause-stays : goal.returns-in-Ok-clause-stays
returns-in-Ok-clause-stays g c stopped = absurd (open-stops c.args.self.now.holds.ending (open-now g c) stopped)

-- ---- a member that runs out of memory

pub invariant_of-self-in-Err : goal.invariant_of-self-in-Err
invariant_of-self-in-Err g c = subst IsSound (sym c.stop.ensures) (stopped-sound c.take.new.self c.take.ensures.formed)

going-still : (g : Rattle.member_core.proofs.member.Member.deliver.Given.Over) (c : goal.After-stop g) → IsOpen c.args.self.now.holds.ending
going-still g c = subst (λ (m : Membership g.row.C.Denot). IsOpen m.holds.ending) c.self.view_is (subst IsOpen (sym c.in-Open.is) tt)

pub returns-in-Err-clause-idle : goal.returns-in-Err-clause-idle
returns-in-Err-clause-idle g c start c' delivered stands leaves =
    let old = subst (Stands g.C.Conduct.replies start c' delivered) (sym c.self.view_is) stands in
    c.in-Err.ensures.idle start c' delivered old.stands leaves

pub returns-in-Err-clause-finished : goal.returns-in-Err-clause-finished
returns-in-Err-clause-finished g c = (λ e. absurd cc, λ ended. absurd (ended-open c.args.self.now.holds.ending ended (going-still g c)))

pub returns-in-Err-clause-evidence : goal.returns-in-Err-clause-evidence
returns-in-Err-clause-evidence g c = (λ e. absurd cc, λ both. absurd (subst (λ (m : Machine). HasBlamed m.ending) c.stop.ensures both.1))

pub returns-in-Err-clause-secrets : goal.returns-in-Err-clause-secrets
returns-in-Err-clause-secrets g c = (invariant_of-self-in-Err g c).needed

pub returns-in-Err-clause-stopped : goal.returns-in-Err-clause-stopped
returns-in-Err-clause-stopped g c err = subst (λ (m : Machine). IsOutOfMemory m.ending) (sym c.stop.ensures) tt

pub returns-in-Err-clause-stays : goal.returns-in-Err-clause-stays
returns-in-Err-clause-stays g c stopped = refl
