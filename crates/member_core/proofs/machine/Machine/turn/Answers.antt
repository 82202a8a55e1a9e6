use Rattle.std.proofs.Common.{sym, ◌∙◌, subst}
use Rattle.std.proofs.lemmas.Result.{IfOk-weaker}
use Rattle.round_spec.specs.Say.{Configuration}
use Rattle.member_spec.specs.Actor.{Actor, actor_behind_question, actor_behind_step, content_to_say}
use Rattle.member_spec.specs.Replies.{Replies}
use Rattle.member_core.specs.Membership.{holdings_of}
use Rattle.member_core.specs.Stands.{StandsFor}
use Rattle.member_core.proofs.TurnSteps.{ended-stays, step-rests, step-speaks}
use Rattle.member_core.proofs.machine.Machine.turn.Goals as goal

pub returns-then-not-is_open-clause-stands : goal.returns-then-not-is_open-clause-stands
returns-then-not-is_open-clause-stands g c start c' a is =
    ended-stays c.args.self.now (g.C.Conduct.replies c.args.conduct.now) start c' a (sym c.is_open.ensures ∙ c.if-not-is_open.true) is

pub returns-then-is_stage_complete-clause-stands : goal.returns-then-is_stage_complete-clause-stands
returns-then-is_stage_complete-clause-stands g c =
    IfOk-weaker c.pass.result (λ _. (now start : Replies) (c' : Configuration) (a : Actor) → StandsFor now start c' a (holdings_of c.args.self.now)
    → StandsFor now start c' (actor_behind_step start c' a) (holdings_of c.pass.new.self))
    (λ _. (start : Replies) (c' : Configuration) (a : Actor) → StandsFor (g.C.Conduct.replies c.args.conduct.now) start c' a
    (holdings_of c.args.self.now)
    → StandsFor (g.C.Conduct.replies c.args.conduct.now) start c' (actor_behind_step start c' a) (holdings_of c.pass.new.self))
    (λ _ stands. stands (g.C.Conduct.replies c.args.conduct.now)) c.pass.ensures.stands

pub returns-then-is_due-clause-stands : goal.returns-then-is_due-clause-stands
returns-then-is_due-clause-stands g c =
    IfOk-weaker c.speak.result (λ _. (start : Replies) (c' : Configuration) (a : Actor)
    → StandsFor (g.C.Conduct.replies c.args.conduct.now) start c' a (holdings_of c.args.self.now)
    → StandsFor (g.C.Conduct.replies c.speak.new.conduct) start c' (actor_behind_question start c' a (content_to_say start c' a.stand))
    (holdings_of c.speak.new.self))
    (λ _. (start : Replies) (c' : Configuration) (a : Actor) → StandsFor (g.C.Conduct.replies c.args.conduct.now) start c' a
    (holdings_of c.args.self.now)
    → StandsFor (g.C.Conduct.replies c.speak.new.conduct) start c' (actor_behind_step start c' a) (holdings_of c.speak.new.self))
    (λ _ stands start c' a is. subst (λ (b : Actor). StandsFor (g.C.Conduct.replies c.speak.new.conduct) start c' b
    (holdings_of c.speak.new.self))
    (sym (step-speaks c.args.self.now (g.C.Conduct.replies c.args.conduct.now) start c' a c.requires.sound.formed
    (sym c.is_open.ensures ∙ c.if-not-is_open.false)
    (sym c.is_stage_complete.ensures ∙ c.if-is_stage_complete.false) (sym c.is_due.ensures ∙ c.if-is_due.true) is)) (stands start c' a is))
    c.speak.ensures.stands

pub returns-clause-stands : goal.returns-clause-stands
returns-clause-stands g c start c' a is =
    subst (λ (b : Actor). StandsFor (g.C.Conduct.replies c.args.conduct.now) start c' b (holdings_of c.args.self.now))
    (sym (step-rests c.args.self.now (g.C.Conduct.replies c.args.conduct.now) start c' a c.requires.sound.formed
    (sym c.is_open.ensures ∙ c.if-not-is_open.false)
    (sym c.is_stage_complete.ensures ∙ c.if-is_stage_complete.false) (sym c.is_due.ensures ∙ c.if-is_due.false) is)) is
