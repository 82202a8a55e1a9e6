use Rattle.std.proofs.Common.{◌≡◌, ℕ, List, [], ◌∷◌, ◌++◌, ap, ◌∙◌, refl, arith}
use Rattle.transcript_form.specs.declared.claim.Claim.TheVariants.{Malformed}
use Rattle.closing_verdict.proofs.Charges.{one-charge}
use Rattle.closing_verdict.proofs.convicting.malformed.Goals as goal

pub shown_by-requires : goal.shown_by-requires
shown_by-requires c =
    let pushed : c.push.new.self.items ≡ c.args.bytes.now ∷ []
    = c.in_ok-push.ensures.items ∙ ap (λ (front : List (List ℕ)). front ++ c.in_ok-copied.field-0 ∷ []) c.in_ok-posts.ensures.items
    ∙ ap (λ (post : List ℕ). post ∷ []) c.in_ok-copied.ensures in
    one-charge Malformed c.args.accused c.args.round c.of.result c.push.new.self.items c.args.bytes.now c.of.ensures pushed refl tt
    c.requires.least c.requires.most (omega (arith, c.ranges.round.fits)) c.requires.short
