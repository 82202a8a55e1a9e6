use Rattle.std.proofs.Common.{◌≡◌, ◌∙◌, sym, subst}
use Rattle.group_spec.specs.World.{Seat}
use Rattle.group_threads.specs.Playing.{Plays}
use Rattle.group_threads.proofs.Members.{behind-not, held-for, ok-so, took}
use Rattle.group_threads.proofs.player.Player.take.Goals as goal

pub returns-then-is_for : goal.returns-then-is_for
returns-then-is_for c = ok-so c.receive.result _ _ c.receive.ensures (λ ok given carriage onway seat count repeat is p.
    took carriage c.receive.new.self seat count c.args.times c.args.entry.now onway repeat is
    (sym (held-for c.args.self.now seat count c.args.entry.now onway p is) ∙ sym c.is_for.ensures ∙ c.if-is_for.true) (given seat count p))

pub returns : goal.returns
returns c = λ carriage onway seat count repeat is p.
    subst (λ (s : Seat). Plays c.args.self.now s count)
    (sym (behind-not carriage onway seat (sym (held-for c.args.self.now seat count c.args.entry.now onway p is) ∙ sym c.is_for.ensures ∙ c.if-is_for.false))) p
