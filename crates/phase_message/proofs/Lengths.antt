-- How many bytes a content has, by its stage and its kind.
use Rattle.std.proofs.Common.{◌≡◌, true, false, ℕ, ◌+◌, ◌*◌, ◌<◌, ◌≤◌, List, [], ◌∷◌, length, Some, None, refl, ap, sym, ◌∙◌, subst, arith, inl, inr, length-append, zero-mul}
use Rattle.std.specs.Prelude.{Option, ◌==◌, ◌⊎◌}
use Rattle.std.specs.Int.{w32, to_be_bytes}
use Rattle.std.specs.List.{flat_map, AllByRecursion}
use Rattle.wire_core.proofs.Readings.{chosen}
use Rattle.phase_message.specs.declared.stage.StageKind.{StageKind}
use Rattle.phase_message.specs.declared.stage.StageKind.TheVariants.{Keys as AtKeys, Submit as AtSubmit, Shuffle as AtShuffle, Go as AtGo, Pad as AtPad, Check as AtCheck}
use Rattle.phase_message.specs.declared.form.ItemForm.TheVariants.{Entry, Pad}
use Rattle.phase_message.specs.declared.form.BodyForm.{BodyForm}
use Rattle.phase_message.specs.declared.form.BodyForm.TheVariants.{Keys as OfKeys, Submit as OfSubmit, Shuffled as OfShuffled, Abort as OfAbort, Go as OfGo, Pads as OfPads, Check as OfCheck}
use Rattle.phase_message.specs.declared.content.Body.{Body}
use Rattle.phase_message.specs.declared.content.Body.TheVariants.{Keys, Submit, Shuffled, Abort, Go, Pads, Check}
use Rattle.phase_message.specs.declared.content.Content.{Content}
use Rattle.ring_poly.specs.PublicKey.{IsPublicKey}
use Rattle.phase_message.specs.Shape.{Shape}
use Rattle.phase_message.specs.Stages.{kind_of_stage}
use Rattle.phase_message.specs.Slots.{slots_before}
use Rattle.phase_message.specs.Body.{only, either, form_in, form_of, body_form, level, length_rule}
use Rattle.phase_message.specs.Grammar.{prefixed, IsItem, kind_number, header_text, body_text, content_text, Fits, OfGrammar}
use Rattle.phase_message.proofs.Whole.{length-header_text}

-- ---- lists of items

keys_long : (keys : List (List ℕ)) → AllByRecursion IsPublicKey keys → length (flat_map (λ key. key) keys) ≡ length keys * 1824
keys_long [] all = refl
keys_long (key ∷ keys) all = omega (arith, length-append key (flat_map (λ key. key) keys), all.0.length, keys_long keys all.1)

entries_long : (n : ℕ) (entries : List (List ℕ)) → AllByRecursion (IsItem (Entry n)) entries
    → length (flat_map (λ entry. entry) entries) ≡ length entries * n
entries_long n [] all = sym (zero-mul n)
entries_long n (entry ∷ entries) all = grind (arith, length-append entry (flat_map (λ entry. entry) entries), entries_long n entries all.1)

pads_long : (pads : List (List ℕ)) → AllByRecursion (IsItem Pad) pads → length (flat_map prefixed pads) ≤ length pads * 65540
pads_long [] all = omega arith
pads_long (pad ∷ pads) all =
    let few : length pad ≤ 65536 = all.0 in
    omega (
      arith,
      length-append (prefixed pad) (flat_map prefixed pads),
      length-append (to_be_bytes w32 (length pad)) pad,
      pads_long pads
          all.1,
    )

-- ---- bodies by their form

keys_body : (body : Body) → Fits OfKeys body → length (body_text body) ≡ 9120
keys_body (Keys keys) fits = omega (arith, keys_long keys fits.0, fits.1)
keys_body _ fits = absurd fits

submit_body : (n : ℕ) (body : Body) → Fits (OfSubmit n) body → length (body_text body) ≡ n
submit_body n (Submit ciphertext) fits = fits
submit_body n _ fits = absurd fits

go_body : (body : Body) → Fits OfGo body → length (body_text body) ≡ 1
go_body (Go true) fits = refl
go_body (Go false) fits = refl
go_body _ fits = absurd fits

check_body : (body : Body) → Fits OfCheck body → length (body_text body) ≡ 1
check_body (Check true) fits = refl
check_body (Check false) fits = refl
check_body _ fits = absurd fits

abort_body : (body : Body) → Fits OfAbort body → length (body_text body) ≡ 0
abort_body Abort fits = refl
abort_body _ fits = absurd fits

shuffled_body : (count n : ℕ) (body : Body) → Fits (OfShuffled count n) body → length (body_text body) ≡ count * n
shuffled_body count n (Shuffled list) fits = entries_long n list fits.0 ∙ ap (λ (k : ℕ). k * n) fits.1
shuffled_body count n _ fits = absurd fits

pads_body : (count : ℕ) (body : Body) → Fits (OfPads count) body → length (body_text body) ≤ count * 65540
pads_body count (Pads pads) fits = omega (arith, pads_long pads fits.0, fits.1)
pads_body count _ fits = absurd fits

-- ---- the forms of a stage

only-is : (number kind : ℕ) (form f : BodyForm) → only number form kind ≡ Some f → form ≡ f
only-is number kind form f e =
    elim (chosen (kind == number) (Some form) None (Some f) e) [
      | inl here ↦ (let e : Some form ≡ Some f = here.1 in cc)
      | inr next ↦ absurd (let e : None ≡ Some f = next.1 in cc)
    ]

either-is : (number other_number kind : ℕ) (form other f : BodyForm) → either number form other_number other kind ≡ Some f → (form ≡ f)
    ⊎ (other ≡ f)
either-is number other_number kind form other f e =
    elim (chosen (kind == number) (Some form) (only other_number other kind) (Some f) e) [
      | inl here ↦ inl (let e : Some form ≡ Some f = here.1 in cc)
      | inr next ↦ inr (only-is other_number kind other f next.1)
    ]

form-in : (shape : Shape) (stage number : ℕ) (kind : StageKind) (form : BodyForm) → kind_of_stage shape stage ≡ Some kind
    → body_form shape stage number ≡ Some form
    → form_in shape (slots_before shape stage) kind number ≡ Some form
unfolding body_form
form-in shape stage number kind form at e = sym (ap (λ (o : Option StageKind). form_of shape (slots_before shape stage) o number) at) ∙ e

fixed_body : (shape : Shape) (before number : ℕ) (kind : StageKind) (form : BodyForm) (body : Body)
    → form_in shape before kind number ≡ Some form → Fits form body → 0 < length_rule shape kind
    → length (body_text body) ≡ length_rule shape kind
fixed_body shape before number AtKeys form body e fits some = keys_body body
    (subst (λ (f : BodyForm). Fits f body) (sym (only-is 1 number OfKeys form e)) fits)
fixed_body shape before number (AtSubmit shuffle) form body e fits some =
    let n : ℕ = level shape.members shuffle 0 in
    submit_body n body (subst (λ (f : BodyForm). Fits f body) (sym (only-is 2 number (OfSubmit n) form e)) fits)
fixed_body shape before number (AtGo shuffle) form body e fits some = go_body body
    (subst (λ (f : BodyForm). Fits f body) (sym (only-is 5 number OfGo form e)) fits)
fixed_body shape before number AtCheck form body e fits some = check_body body
    (subst (λ (f : BodyForm). Fits f body) (sym (only-is 9 number OfCheck form e)) fits)
fixed_body shape before number _ form body e fits some = absurd (omega arith)

-- ---- contents

content_long : (shape : Shape) (c : Content) → OfGrammar shape c → length (content_text c) ≡ 76 + length (body_text c.body)
content_long shape c is = omega (
  arith,
  length-append (header_text c.header) (kind_number c.body ∷ body_text c.body),
  length-header_text
      shape c.header is.0,
)

pub fixed-length : (shape : Shape) (c : Content) (kind : StageKind) → OfGrammar shape c → kind_of_stage shape c.header.stage ≡ Some kind
    → 0 < length_rule shape kind
    → length (content_text c) ≡ 76 + length_rule shape kind
fixed-length shape c kind is at some =
    omega (
      arith,
      content_long shape c is,
      fixed_body shape (slots_before shape c.header.stage) (kind_number c.body) kind is.1.0 c.body
          (form-in shape c.header.stage (kind_number c.body) kind is.1.0 at is.1.1) is.1.2 some,
    )

-- a turn of a shuffle has all entries, or an Abort has no body
pub turn-length : (shape : Shape) (c : Content) (shuffle k : ℕ) → OfGrammar shape c
    → kind_of_stage shape c.header.stage ≡ Some (AtShuffle shuffle k)
    → ((c.body ≡ Abort) × (length (content_text c) ≡ 76)) ⊎ (length (content_text c) ≡ 76 + shape.members * level shape.members shuffle k)
turn-length shape c shuffle k is at =
    let n : ℕ = level shape.members shuffle k in
    let form = form-in shape c.header.stage (kind_number c.body) (AtShuffle shuffle k) is.1.0 at is.1.1 in
    elim (either-is 3 4 (kind_number c.body) (OfShuffled shape.members n) OfAbort is.1.0 form) [
      | inl list ↦ inr (omega (
        arith,
        content_long shape c is,
        shuffled_body shape.members n c.body
            (subst (λ (f : BodyForm). Fits f c.body) (sym list) is.1.2),
      ))
      | inr abort ↦
          let fits = subst (λ (f : BodyForm). Fits f c.body) (sym abort) is.1.2 in
          inl (is_abort c.body fits, omega (arith, content_long shape c is, abort_body c.body fits))
    ]
  where
    is_abort : (body : Body) → Fits OfAbort body → body ≡ Abort
    is_abort Abort fits = refl
    is_abort _ fits = absurd fits

pub pads-length : (shape : Shape) (c : Content) → OfGrammar shape c → kind_of_stage shape c.header.stage ≡ Some AtPad
    → length (content_text c) ≤ 76 + shape.members * 65540
pads-length shape c is at =
    let form = form-in shape c.header.stage (kind_number c.body) AtPad is.1.0 at is.1.1 in
    omega (
      arith,
      content_long shape c is,
      pads_body shape.members c.body
          (subst (λ (f : BodyForm). Fits f c.body) (sym (only-is 8 (kind_number c.body) (OfPads shape.members) is.1.0 form)) is.1.2),
    )
