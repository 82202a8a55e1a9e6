use Rattle.std.proofs.Common.{◌≡◌, ℕ, ◌+◌, refl, ap, sym, ◌∙◌, subst, arith}
use Rattle.std.specs.Prelude.{IsSome}
use Rattle.phase_message.specs.Shape.{Shape}
use Rattle.stage_log.specs.Log.{before}
use Rattle.closing_vectors.proofs.Reached.{closes, reached, reached-earlier}
use Rattle.closing_vectors.proofs.judged.ended_log.Goals as goal

pub said-requires-clause-complete : goal.said-requires-clause-complete
said-requires-clause-complete c =
    reached-earlier c.args.log 1 c.in-Some.next (reached c.args.log c.in-Some.next (sym c.first_incomplete.ensures ∙ c.in-Some.is))
    (omega (arith, c.if-next-shape.false))

pub returns-clause-complete : goal.returns-clause-complete
returns-clause-complete c =
    let members = ap (λ (s : Shape). s.members) c.shape.ensures.shape in
    let next : c.in-Some.next ≡ c.args.log.shape.members + 3 + 1 = omega (arith, c.if-next-shape.false, members) in
    record {
      shape = c.requires.shape;
      form = c.shape.ensures.form;
      stand = c.requires.stand;
      short = c.requires.short;
      closing = closes c.args.log.shape (c.args.log.shape.members + 3) refl;
      there = subst (λ (k : ℕ). IsSome (before c.args.log k)) next
          (reached c.args.log c.in-Some.next (sym c.first_incomplete.ensures ∙ c.in-Some.is));
    }
