-- The body that is due is spelled, and the conduct is asked about the bytes.
use Rattle.std.proofs.Common.{◌≤◌, List, ℕ, length, arith, ap, ◌∙◌, subst}
use Rattle.std.proofs.lemmas.Result.{IfOk-from_err, IfOk-weaker}
use Rattle.std.specs.Prelude.{IsTrue}
use Rattle.phase_message.specs.Grammar.{IsBody, content_text}
use Rattle.phase_message.specs.Stages.{is_slot, kind_of_stage}
use Rattle.member_spec.specs.Actor.{actor_behind_question}
use Rattle.member_core.specs.declared.machine.Machine.{Machine}
use Rattle.member_core.specs.Asking.{IsDue, content_here}
use Rattle.member_core.specs.Membership.{holdings_of}
use Rattle.member_core.specs.Shorts.{own_limit}
use Rattle.member_core.specs.Stands.{StandsFor}
use Rattle.member_core.proofs.Dispatch.{asked-left, content-is, kind-here, left-so, ready-left}
use Rattle.member_core.proofs.machine.Machine.speak.Goals as goal
use Rattle.member_core.proofs.machine.Machine.speak.Goals.{After-ask}

-- ---- the body

pub body_due-requires-clause-formed : goal.body_due-requires-clause-formed
body_due-requires-clause-formed g c = c.requires.formed

pub body_due-requires-clause-ready : goal.body_due-requires-clause-ready
body_due-requires-clause-ready g c = c.requires.ready

pub body_due-requires-clause-needed : goal.body_due-requires-clause-needed
body_due-requires-clause-needed g c = c.requires.needed

pub body_due-requires-clause-asked : goal.body_due-requires-clause-asked
body_due-requires-clause-asked g c = c.requires.asked

pub returns-in_err-body-clause-formed : goal.returns-in_err-body-clause-formed
returns-in_err-body-clause-formed g c = c.body_due.ensures.formed

pub returns-in_err-body-clause-sound : goal.returns-in_err-body-clause-sound
returns-in_err-body-clause-sound g c = IfOk-from_err c.from_residual.result _ c.from_residual.ensures.0

pub returns-in_err-body-clause-going : goal.returns-in_err-body-clause-going
returns-in_err-body-clause-going g c = IfOk-from_err c.from_residual.result _ c.from_residual.ensures.0

pub returns-in_err-body-clause-handed : goal.returns-in_err-body-clause-handed
returns-in_err-body-clause-handed g c = IfOk-from_err c.from_residual.result _ c.from_residual.ensures.0

pub returns-in_err-body-clause-stands : goal.returns-in_err-body-clause-stands
returns-in_err-body-clause-stands g c = IfOk-from_err c.from_residual.result _ c.from_residual.ensures.0

-- ---- its bytes

pub content_of-requires-clause-formed : goal.content_of-requires-clause-formed
content_of-requires-clause-formed g c = c.body_due.ensures.formed

pub content_of-requires-clause-ready : goal.content_of-requires-clause-ready
content_of-requires-clause-ready g c = ready-left c.args.self.now c.body_due.new.self c.in_ok-body.ensures.same c.requires.ready

pub content_of-requires-clause-speaks : goal.content_of-requires-clause-speaks
content_of-requires-clause-speaks g c =
    left-so (λ (x : Machine). IsTrue (is_slot x.log.shape x.stage x.seat.number)) c.args.self.now c.body_due.new.self
    c.in_ok-body.ensures.same c.requires.asked.speaks

pub content_of-requires-clause-fits : goal.content_of-requires-clause-fits
content_of-requires-clause-fits g c =
    let kind = kind-here c.args.self.now c.requires.asked in
    left-so (λ (x : Machine). IsBody x.log.shape x.stage c.in_ok-body.body) c.args.self.now c.body_due.new.self c.in_ok-body.ensures.same
    (c.in_ok-body.ensures.due kind.0 kind.1).fits

pub returns-in_err-bytes-clause-formed : goal.returns-in_err-bytes-clause-formed
returns-in_err-bytes-clause-formed g c = c.body_due.ensures.formed

pub returns-in_err-bytes-clause-sound : goal.returns-in_err-bytes-clause-sound
returns-in_err-bytes-clause-sound g c = IfOk-from_err c.from_residual-in_err-bytes.result _ c.from_residual-in_err-bytes.ensures.0

pub returns-in_err-bytes-clause-going : goal.returns-in_err-bytes-clause-going
returns-in_err-bytes-clause-going g c = IfOk-from_err c.from_residual-in_err-bytes.result _ c.from_residual-in_err-bytes.ensures.0

pub returns-in_err-bytes-clause-handed : goal.returns-in_err-bytes-clause-handed
returns-in_err-bytes-clause-handed g c = IfOk-from_err c.from_residual-in_err-bytes.result _ c.from_residual-in_err-bytes.ensures.0

pub returns-in_err-bytes-clause-stands : goal.returns-in_err-bytes-clause-stands
returns-in_err-bytes-clause-stands g c = IfOk-from_err c.from_residual-in_err-bytes.result _ c.from_residual-in_err-bytes.ensures.0

-- ---- the question

pub ask-requires-clause-formed : goal.ask-requires-clause-formed
ask-requires-clause-formed g c = c.body_due.ensures.formed

pub ask-requires-clause-ready : goal.ask-requires-clause-ready
ask-requires-clause-ready g c = ready-left c.args.self.now c.body_due.new.self c.in_ok-body.ensures.same c.requires.ready

pub ask-requires-clause-speakable : goal.ask-requires-clause-speakable
ask-requires-clause-speakable g c = record {
  to_be_asked = asked-left c.args.self.now c.body_due.new.self c.in_ok-body.ensures.same c.requires.asked;
  needed = c.in_ok-body.ensures.needed;
}

pub ask-requires-clause-question : goal.ask-requires-clause-question
ask-requires-clause-question g c =
    let m = c.args.self.now in
    let kind = kind-here m c.requires.asked in
    let due : IsDue (g.C.Conduct.replies c.args.conduct.now) m kind.0 c.in_ok-body.body = c.in_ok-body.ensures.due kind.0 kind.1 in
    let long = c.in_ok-bytes.ensures.long in
    let short = due.short in
    let limit = ap own_limit kind.1 in
    record {
      speaks = left-so (λ (x : Machine). IsTrue (is_slot x.log.shape x.stage x.seat.number)) m c.body_due.new.self c.in_ok-body.ensures.same
          c.requires.asked.speaks;
      slot = c.in_ok-bytes.ensures.slot;
      short = left-so (λ (x : Machine). length c.in_ok-bytes.bytes.items ≤ own_limit (kind_of_stage x.log.shape x.stage)) m
          c.body_due.new.self c.in_ok-body.ensures.same
          (omega (arith, long, short, limit));
    }

-- ---- the answer

pub returns-clause-formed : goal.returns-clause-formed
returns-clause-formed g c = c.ask.ensures.formed

pub returns-clause-sound : goal.returns-clause-sound
returns-clause-sound g c = c.ask.ensures.sound

pub returns-clause-going : goal.returns-clause-going
returns-clause-going g c = c.ask.ensures.going

pub returns-clause-handed : goal.returns-clause-handed
returns-clause-handed g c =
    IfOk-weaker c.ask.result _ _ (λ _ same. same ∙ ap (λ (x : Machine). x.handed) c.in_ok-body.ensures.same) c.ask.ensures.handed

pub returns-clause-stands : goal.returns-clause-stands
returns-clause-stands g c = IfOk-weaker c.ask.result _ _ (λ _ so start conf a s.
    let m = c.args.self.now in
    let kind = kind-here m c.requires.asked in
    let due : IsDue (g.C.Conduct.replies c.args.conduct.now) m kind.0 c.in_ok-body.body = c.in_ok-body.ensures.due kind.0 kind.1 in
    let said = c.in_ok-bytes.ensures.spelled ∙ ap (λ (x : Machine). content_text (content_here x c.in_ok-body.body))
    c.in_ok-body.ensures.same
    ∙ content-is (g.C.Conduct.replies c.args.conduct.now) start conf a m kind.0 c.in_ok-body.body c.requires.formed kind.1 s
    (due.told start conf a s) in
    subst (λ (bytes : List ℕ). StandsFor (g.C.Conduct.replies c.ask.new.conduct) start conf (actor_behind_question start conf a bytes)
    (holdings_of c.ask.new.self)) said
    (so start conf a (c.in_ok-body.ensures.stands start conf a s))) c.ask.ensures.stands
