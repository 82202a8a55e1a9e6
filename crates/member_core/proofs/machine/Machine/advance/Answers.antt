use Rattle.std.proofs.Common.{◌≡◌, ℕ, ◌*◌, ap, sym, ◌∙◌, subst, arith}
use Rattle.std.specs.Fn.{iterate}
use Rattle.phase_message.specs.Slots.{stage_count}
use Rattle.round_spec.specs.Say.{shape_in}
use Rattle.member_spec.specs.Actor.{Actor, actor_behind_step}
use Rattle.member_core.specs.Membership.{holdings_of}
use Rattle.member_core.specs.Stands.{StandsFor}
use Rattle.member_core.proofs.Advancing.{iterate-more}
use Rattle.member_core.proofs.Belonging.{seat-of}
use Rattle.member_core.proofs.machine.Machine.advance.Goals as goal

pub loop-preserved : goal.loop-preserved
loop-preserved g c = (
  c.in_ok-turn.ensures.sound,
  c.in_ok-turn.ensures.runs,
  c.in_ok-turn.ensures.handed ∙ c.loop.invariant.2,
  λ start c' a is. subst (λ (b : Actor). StandsFor (g.C.Conduct.replies c.turn.new.conduct) start c' b (holdings_of c.turn.new.self))
      (sym (iterate-more (actor_behind_step start c') c.loop.counter a))
      (c.in_ok-turn.ensures.stands start c' (iterate (actor_behind_step start c') c.loop.counter a) (c.loop.invariant.3 start c' a is)),
)

pub returns-clause-stands : goal.returns-clause-stands
returns-clause-stands g c start c' a is =
    let seat = seat-of c' c.args.self.now c.requires.sound.formed is.entered in
    let count = c.stage_count-end.ensures ∙ ap stage_count seat.shape in
    let all : c.loop.counter ≡ 2 * stage_count (shape_in c') = omega (arith, count, c.loop-test.false, c.loop.auto.counter-end) in
    subst (λ (n : ℕ). StandsFor (g.C.Conduct.replies c.loop.conduct) start c' (iterate (actor_behind_step start c') n a)
    (holdings_of c.loop.self)) all
    (c.loop.invariant.3 start c' a is)
