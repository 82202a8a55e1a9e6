use Rattle.std.proofs.Common.{◌≡◌, ℕ, List, [], ◌∷◌, ◌++◌, ap, ◌∙◌, refl, arith}
use Rattle.transcript_form.specs.declared.claim.Claim.TheVariants.{Equivocation}
use Rattle.phase_message.specs.Post.{post_spelling}
use Rattle.closing_verdict.proofs.Charges.{two-charge}
use Rattle.closing_verdict.proofs.convicting.contradicted.Goals as goal

pub shown_by-requires : goal.shown_by-requires
shown_by-requires c =
    let first : List ℕ = post_spelling c.args.kept.now in
    let one : c.push.new.self.items ≡ first ∷ []
    = c.in_ok-push.ensures.items ∙ ap (λ (front : List (List ℕ)). front ++ c.of.result ∷ []) c.in_ok-posts.ensures.items
    ∙ ap (λ (post : List ℕ). post ∷ []) (c.of.ensures ∙ c.in_ok-write.ensures.text) in
    let both : c.push-2.new.self.items ≡ first ∷ c.args.other.now ∷ []
    = c.in_ok-push-2.ensures.items ∙ ap (λ (front : List (List ℕ)). front ++ c.in_ok-copied.field-0 ∷ []) one
    ∙ ap (λ (post : List ℕ). first ∷ post ∷ []) c.in_ok-copied.ensures in
    two-charge Equivocation c.args.accused c.args.round c.of-2.result c.push-2.new.self.items first c.args.other.now c.of-2.ensures both
    refl tt
    c.requires.least c.requires.most (omega (arith, c.ranges.round.fits)) c.requires.kept c.requires.short
