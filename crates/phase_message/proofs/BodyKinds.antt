-- The bodies of the grammar at a stage are exactly those of its kind.
use Rattle.std.proofs.Common.{◌≡◌, ℕ, Option, Some, ap, sym, ◌∙◌, refl, subst, inl, inr}
use Rattle.std.specs.Prelude.{◌⊎◌}
use Rattle.phase_message.specs.declared.form.BodyForm.{BodyForm}
use Rattle.phase_message.specs.declared.form.BodyForm.TheVariants.{Keys as OfKeys, Submit as OfSubmit, Shuffled as OfShuffled, Abort as OfAbort, Go as OfGo, Reveal as OfReveal, Dispute as OfDispute, Pads as OfPads, Check as OfCheck, Confirm as OfConfirm, Differ as OfDiffer}
use Rattle.phase_message.specs.declared.content.Body.{Body}
use Rattle.phase_message.specs.declared.content.Body.TheVariants.{Keys, Submit, Shuffled, Abort, Go, Reveal, Dispute, Pads, Check, Confirm, Differ}
use Rattle.phase_message.specs.declared.stage.StageKind.{StageKind}
use Rattle.phase_message.specs.declared.stage.StageKind.TheVariants.{Keys as AtKeys, Submit as AtSubmit, Shuffle as AtShuffle, Go as AtGo, Final as AtFinal, Pad as AtPad, Check as AtCheck, Confirm as AtConfirm}
use Rattle.phase_message.specs.Body.{body_form, form_in, form_of, level}
use Rattle.phase_message.specs.Grammar.{Fits, kind_number}
use Rattle.phase_message.specs.Kinds.{BodiesAreOfKinds, IsBodyAt}
use Rattle.phase_message.specs.Shape.{Shape}
use Rattle.phase_message.specs.Slots.{slots_before}
use Rattle.phase_message.proofs.Read.{either-form, only-form}

-- a form of a kind, which a body fits
abbrev HasForm : Shape → ℕ → StageKind → Body → Type 0
HasForm shape before kind body = (form : BodyForm) × (form_in shape before kind (kind_number body) ≡ Some form) × Fits form body

-- ---- what fits a form

fits-at : (shape : Shape) (before : ℕ) (kind : StageKind) (form found : BodyForm) (body : Body) → found ≡ form → Fits found body
    → (Fits form body → IsBodyAt shape before kind body) → IsBodyAt shape before kind body
fits-at shape before kind form found body is fits held = held (subst (λ (f : BodyForm). Fits f body) is fits)

fits-keys : (shape : Shape) (before : ℕ) (body : Body) → Fits OfKeys body → IsBodyAt shape before AtKeys body
fits-keys shape before (Keys keys) fits = fits
fits-keys shape before _ fits = absurd fits

fits-submit : (shape : Shape) (before shuffle : ℕ) (body : Body) → Fits (OfSubmit (level shape.members shuffle 0)) body
    → IsBodyAt shape before (AtSubmit shuffle) body
fits-submit shape before shuffle (Submit ciphertext) fits = fits
fits-submit shape before shuffle _ fits = absurd fits

fits-shuffled : (shape : Shape) (before shuffle k : ℕ) (body : Body) → Fits (OfShuffled shape.members (level shape.members shuffle k)) body
    → IsBodyAt shape before (AtShuffle shuffle k) body
fits-shuffled shape before shuffle k (Shuffled list) fits = fits
fits-shuffled shape before shuffle k _ fits = absurd fits

fits-abort : (shape : Shape) (before shuffle k : ℕ) (body : Body) → Fits OfAbort body → IsBodyAt shape before (AtShuffle shuffle k) body
fits-abort shape before shuffle k Abort fits = fits
fits-abort shape before shuffle k _ fits = absurd fits

fits-go : (shape : Shape) (before shuffle : ℕ) (body : Body) → Fits OfGo body → IsBodyAt shape before (AtGo shuffle) body
fits-go shape before shuffle (Go vote) fits = fits
fits-go shape before shuffle _ fits = absurd fits

fits-reveal : (shape : Shape) (before shuffle : ℕ) (body : Body) → Fits (OfReveal shape.members) body
    → IsBodyAt shape before (AtFinal shuffle) body
fits-reveal shape before shuffle (Reveal votes seed) fits = fits
fits-reveal shape before shuffle _ fits = absurd fits

fits-dispute : (shape : Shape) (before shuffle : ℕ) (body : Body) → Fits (OfDispute before) body
    → IsBodyAt shape before (AtFinal shuffle) body
fits-dispute shape before shuffle (Dispute posts seed opening) fits = fits
fits-dispute shape before shuffle _ fits = absurd fits

fits-pads : (shape : Shape) (before : ℕ) (body : Body) → Fits (OfPads shape.members) body → IsBodyAt shape before AtPad body
fits-pads shape before (Pads pads) fits = fits
fits-pads shape before _ fits = absurd fits

fits-check : (shape : Shape) (before : ℕ) (body : Body) → Fits OfCheck body → IsBodyAt shape before AtCheck body
fits-check shape before (Check vote) fits = fits
fits-check shape before _ fits = absurd fits

fits-confirm : (shape : Shape) (before : ℕ) (body : Body) → Fits (OfConfirm shape.members) body → IsBodyAt shape before AtConfirm body
fits-confirm shape before (Confirm votes) fits = fits
fits-confirm shape before _ fits = absurd fits

fits-differ : (shape : Shape) (before : ℕ) (body : Body) → Fits (OfDiffer before) body → IsBodyAt shape before AtConfirm body
fits-differ shape before (Differ posts) fits = fits
fits-differ shape before _ fits = absurd fits

-- one of two
either-at : (shape : Shape) (before : ℕ) (kind : StageKind) (form other found : BodyForm) (body : Body) → (found ≡ form) ⊎ (found ≡ other)
    → Fits found body
    → (Fits form body → IsBodyAt shape before kind body) → (Fits other body → IsBodyAt shape before kind body)
    → IsBodyAt shape before kind body
either-at shape before kind form other found body (inl is) fits held held_other = fits-at shape before kind form found body is fits held
either-at shape before kind form other found body (inr is) fits held held_other = fits-at shape before kind other found body is fits
    held_other

held-at : (shape : Shape) (before : ℕ) (kind : StageKind) (body : Body) → HasForm shape before kind body → IsBodyAt shape before kind body
held-at shape before AtKeys body has = fits-at shape before AtKeys OfKeys has.0 body (only-form 1 OfKeys (kind_number body) has.0 has.1)
    has.2 (fits-keys shape before body)
held-at shape before (AtSubmit shuffle) body has =
    let form = OfSubmit (level shape.members shuffle 0) in
    fits-at shape before (AtSubmit shuffle) form has.0 body (only-form 2 form (kind_number body) has.0 has.1) has.2
    (fits-submit shape before shuffle body)
held-at shape before (AtShuffle shuffle k) body has =
    let form = OfShuffled shape.members (level shape.members shuffle k) in
    either-at shape before (AtShuffle shuffle k) form OfAbort has.0 body (either-form 3 form 4 OfAbort (kind_number body) has.0 has.1) has.2
    (fits-shuffled shape before shuffle k body) (fits-abort shape before shuffle k body)
held-at shape before (AtGo shuffle) body has = fits-at shape before (AtGo shuffle) OfGo has.0 body
    (only-form 5 OfGo (kind_number body) has.0 has.1) has.2 (fits-go shape before shuffle body)
held-at shape before (AtFinal shuffle) body has =
    either-at shape before (AtFinal shuffle) (OfReveal shape.members) (OfDispute before) has.0 body
    (either-form 6 (OfReveal shape.members) 7 (OfDispute before) (kind_number body) has.0 has.1) has.2
    (fits-reveal shape before shuffle body) (fits-dispute shape before shuffle body)
held-at shape before AtPad body has =
    fits-at shape before AtPad (OfPads shape.members) has.0 body (only-form 8 (OfPads shape.members) (kind_number body) has.0 has.1) has.2
    (fits-pads shape before body)
held-at shape before AtCheck body has = fits-at shape before AtCheck OfCheck has.0 body (only-form 9 OfCheck (kind_number body) has.0 has.1)
    has.2 (fits-check shape before body)
held-at shape before AtConfirm body has =
    either-at shape before AtConfirm (OfConfirm shape.members) (OfDiffer before) has.0 body
    (either-form 10 (OfConfirm shape.members) 11 (OfDiffer before) (kind_number body) has.0 has.1) has.2
    (fits-confirm shape before body) (fits-differ shape before body)

-- ---- and back

has-form : (shape : Shape) (before : ℕ) (kind : StageKind) (body : Body) → IsBodyAt shape before kind body → HasForm shape before kind body
has-form shape before AtKeys (Keys keys) is = (OfKeys, refl, is)
has-form shape before (AtSubmit shuffle) (Submit ciphertext) is = (OfSubmit (level shape.members shuffle 0), refl, is)
has-form shape before (AtShuffle shuffle k) (Shuffled list) is = (OfShuffled shape.members (level shape.members shuffle k), refl, is)
has-form shape before (AtShuffle shuffle k) Abort is = (OfAbort, refl, is)
has-form shape before (AtGo shuffle) (Go vote) is = (OfGo, refl, is)
has-form shape before (AtFinal shuffle) (Reveal votes seed) is = (OfReveal shape.members, refl, is)
has-form shape before (AtFinal shuffle) (Dispute posts seed opening) is = (OfDispute before, refl, is)
has-form shape before AtPad (Pads pads) is = (OfPads shape.members, refl, is)
has-form shape before AtCheck (Check vote) is = (OfCheck, refl, is)
has-form shape before AtConfirm (Confirm votes) is = (OfConfirm shape.members, refl, is)
has-form shape before AtConfirm (Differ posts) is = (OfDiffer before, refl, is)
has-form shape before _ _ is = absurd is

pub bodies_are_of_kinds : BodiesAreOfKinds
unfolding body_form
bodies_are_of_kinds shape stage kind body at =
    let same = ap (λ (o : Option StageKind). form_of shape (slots_before shape stage) o (kind_number body)) at in (
      λ is. held-at shape (slots_before shape stage) kind body (is.0, sym same ∙ is.1, is.2),
      λ is. let has = has-form shape (slots_before shape stage) kind body is in (has.0, same ∙ has.1, has.2),
    )
