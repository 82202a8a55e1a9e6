-- What is read as a content, whatever its bytes are: a body of a kind that the stage has, with as many posts in it.
use Rattle.std.proofs.Common.{◌≡◌, ℕ, zero, suc, Bool, true, false, List, [], ◌∷◌, length, Option, Some, None, Result, Ok, ap, sym, ◌∙◌, subst, arith, inl, inr}
use Rattle.std.specs.Prelude.{◌⊎◌, ◌==◌, if◌then◌else◌}
use Rattle.std.proofs.lemmas.Bool.{cases_Bool, cond-true, cond-false}
use Rattle.wire_core.specs.Answers.{◌>>=◌}
use Rattle.wire_core.specs.Reading.{Reading, reading_of, repeated}
use Rattle.wire_core.proofs.Readings.{bind_ok}
use Rattle.phase_message.specs.declared.header.Header.{Header}
use Rattle.phase_message.specs.declared.form.ItemForm.TheVariants.{Entry, Post, Pad}
use Rattle.phase_message.specs.declared.form.BodyForm.{BodyForm}
use Rattle.phase_message.specs.declared.form.BodyForm.TheVariants.{Keys as OfKeys, Submit as OfSubmit, Shuffled as OfShuffled, Abort as OfAbort, Go as OfGo, Reveal as OfReveal, Dispute as OfDispute, Pads as OfPads, Check as OfCheck, Confirm as OfConfirm, Differ as OfDiffer}
use Rattle.phase_message.specs.declared.content.Body.{Body}
use Rattle.phase_message.specs.declared.content.Body.TheVariants.{Keys, Submit, Shuffled, Abort, Go, Reveal, Dispute, Pads, Check, Confirm, Differ}
use Rattle.phase_message.specs.declared.content.Content.{Content}
use Rattle.phase_message.specs.declared.stage.StageKind.{StageKind}
use Rattle.phase_message.specs.declared.stage.StageKind.TheVariants.{Keys as AtKeys, Submit as AtSubmit, Shuffle as AtShuffle, Go as AtGo, Final as AtFinal, Pad as AtPad, Check as AtCheck, Confirm as AtConfirm}
use Rattle.phase_message.specs.Body.{body_form, form_of, only, either}
use Rattle.phase_message.specs.declared.offence.Offence.{Offence}
use Rattle.phase_message.specs.Offence.{body_at, content_read, field_at, flag_at, held_in, item_at, items_at, key_at}
use Rattle.phase_message.specs.Shape.{Shape}
use Rattle.phase_message.specs.Slots.{slots_before}
use Rattle.phase_message.specs.Stages.{is_slot, kind_of_stage, vote_of}
use Rattle.phase_message.specs.Closing.{ClosingsAreRead, IsClosingBody}
use Rattle.phase_message.proofs.Parts.{given, content-parts, head-parts}

-- ---- counts

-- so many values are read
repeated-count : {A : Type 0} (count : ℕ) (read : Reading → Result (A × Reading) Offence) (r : Reading) (x : List A × Reading)
    → repeated count read r ≡ Ok x → length x.0 ≡ count
unfolding repeated
repeated-count {A} zero read r x e = ap (λ (y : List A × Reading). length y.0) (sym (given ([], r) x e))
repeated-count {A} (suc count) read r x e =
    let first = bind_ok (read r) (λ first. repeated count read first.1 >>= λ others. Ok (first.0 ∷ others.0, others.1)) x e in
    let others = bind_ok (repeated count read first.0.1) (λ others. Ok (first.0.0 ∷ others.0, others.1)) x first.2 in
    let counted = repeated-count count read first.0.1 others.0 others.1 in
    sym (ap (λ (y : List A × Reading). length y.0) (given (first.0.0 ∷ others.0.0, others.0.1) x others.2)) ∙ omega (arith, counted)

-- a body of a form has as many posts as the form says
abbrev pub HasCount : BodyForm → Body → Type 0
HasCount OfKeys (Keys keys) = Unit {0}
HasCount (OfSubmit n) (Submit ciphertext) = Unit {0}
HasCount (OfShuffled count n) (Shuffled list) = Unit {0}
HasCount OfAbort Abort = Unit {0}
HasCount OfGo (Go vote) = Unit {0}
HasCount (OfReveal count) (Reveal votes seed) = length votes ≡ count
HasCount (OfDispute count) (Dispute posts seed opening) = length posts ≡ count
HasCount (OfPads count) (Pads pads) = Unit {0}
HasCount OfCheck (Check vote) = Unit {0}
HasCount (OfConfirm count) (Confirm votes) = length votes ≡ count
HasCount (OfDiffer count) (Differ posts) = length posts ≡ count
HasCount _ _ = ⊥

held-count : {A : Type 0} (body : A → Body) (form : BodyForm) (read : Result (A × Reading) Offence) (x : Body × Reading)
    → ((y : A × Reading) → read ≡ Ok y → HasCount form (body y.0)) → held_in body read ≡ Ok x → HasCount form x.0
held-count body form read x each e =
    let y = bind_ok read (λ y. Ok (body y.0, y.1)) x e in
    subst (λ (x : Body × Reading). HasCount form x.0) (given (body y.0.0, y.0.1) x y.2) (each y.0 y.1)

reveal-count : (count : ℕ) (r : Reading) (x : Body × Reading) → body_at (OfReveal count) r ≡ Ok x → HasCount (OfReveal count) x.0
unfolding body_at
reveal-count count r x e =
    let votes = bind_ok (items_at Post count r) (λ votes. field_at 32 votes.1 >>= λ seed. Ok (Reveal votes.0 seed.0, seed.1)) x e in
    let seed = bind_ok (field_at 32 votes.0.1) (λ seed. Ok (Reveal votes.0.0 seed.0, seed.1)) x votes.2 in
    subst (λ (x : Body × Reading). HasCount (OfReveal count) x.0) (given (Reveal votes.0.0 seed.0.0, seed.0.1) x seed.2)
    (repeated-count count (item_at Post) r votes.0 votes.1)

dispute-count : (count : ℕ) (r : Reading) (x : Body × Reading) → body_at (OfDispute count) r ≡ Ok x → HasCount (OfDispute count) x.0
unfolding body_at
dispute-count count r x e =
    let posts = bind_ok (items_at Post count r) (λ posts. field_at 32 posts.1 >>= λ seed. field_at 32 seed.1 >>= λ opening. Ok
    (Dispute posts.0 seed.0 opening.0, opening.1)) x e in
    let seed = bind_ok (field_at 32 posts.0.1) (λ seed. field_at 32 seed.1 >>= λ opening. Ok
    (Dispute posts.0.0 seed.0 opening.0, opening.1)) x posts.2 in
    let opening = bind_ok (field_at 32 seed.0.1) (λ opening. Ok (Dispute posts.0.0 seed.0.0 opening.0, opening.1)) x seed.2 in
    subst (λ (x : Body × Reading). HasCount (OfDispute count) x.0) (given (Dispute posts.0.0 seed.0.0 opening.0.0, opening.0.1) x opening.2)
    (repeated-count count (item_at Post) r posts.0 posts.1)

body-count : (form : BodyForm) (r : Reading) (x : Body × Reading) → body_at form r ≡ Ok x → HasCount form x.0
unfolding body_at
body-count OfKeys r x e = held-count Keys OfKeys (repeated 5 key_at r) x (λ y is. tt) e
body-count (OfSubmit n) r x e = held-count Submit (OfSubmit n) (item_at (Entry n) r) x (λ y is. tt) e
body-count (OfShuffled count n) r x e = held-count Shuffled (OfShuffled count n) (items_at (Entry n) count r) x (λ y is. tt) e
body-count OfAbort r x e = subst (λ (x : Body × Reading). HasCount OfAbort x.0) (given (Abort, r) x e) tt
body-count OfGo r x e = held-count Go OfGo (flag_at r) x (λ y is. tt) e
body-count (OfReveal count) r x e = reveal-count count r x e
body-count (OfDispute count) r x e = dispute-count count r x e
body-count (OfPads count) r x e = held-count Pads (OfPads count) (items_at Pad count r) x (λ y is. tt) e
body-count OfCheck r x e = held-count Check OfCheck (flag_at r) x (λ y is. tt) e
body-count (OfConfirm count) r x e = held-count Confirm (OfConfirm count) (items_at Post count r) x
    (λ y is. repeated-count count (item_at Post) r y is) e
body-count (OfDiffer count) r x e = held-count Differ (OfDiffer count) (items_at Post count r) x
    (λ y is. repeated-count count (item_at Post) r y is) e

-- ---- forms

-- a content has a slot, and a body of a form that its stage has
pub record IsReadAs (shape : Shape) (c : Content) : Type 0 where
  pub form : BodyForm
  pub kind : ℕ
  pub slot : is_slot shape c.header.stage c.header.sender ≡ true
  pub form_is : body_form shape c.header.stage kind ≡ Some form
  pub counts : HasCount form c.body

pub content-form : (shape : Shape) (bytes : List ℕ) (c : Content) → content_read shape bytes ≡ Ok c → IsReadAs shape c
content-form shape bytes c e =
    let p = content-parts shape bytes c e in
    let h = head-parts shape (reading_of bytes) p.head p.head_read in
    let counts = body-count p.head.0.1 p.head.1 p.body p.body_read in
    subst (IsReadAs shape) p.whole
    (subst (λ (x : (Header × BodyForm) × Reading). HasCount x.0.1 p.body.0 → IsReadAs shape (record { header = x.0.0; body = p.body.0 }))
    h.whole (λ counts. record {
      form = h.form;
      kind = h.kind.0;
      slot = h.slot_is;
      form_is = h.form_is;
      counts = counts;
    }) counts)

-- ---- closing stages

-- the form under one number
pub only-form : (number : ℕ) (form : BodyForm) (kind : ℕ) (found : BodyForm) → only number form kind ≡ Some found → found ≡ form
only-form number form kind found e = by-test (kind == number) e
  where
    by-test : (b : Bool) → (if b then Some form else None) ≡ Some found → found ≡ form
    by-test true e = cc
    by-test false e = absurd cc

-- one of two forms
pub either-form : (number : ℕ) (form : BodyForm) (other_number : ℕ) (other : BodyForm) (kind : ℕ) (found : BodyForm)
    → either number form other_number other kind ≡ Some found → (found ≡ form) ⊎ (found ≡ other)
either-form number form other_number other kind found e = elim (cases_Bool (kind == number)) [
  | inl is ↦ inl (same _ _ (sym e ∙ cond-true (kind == number) (Some form) (only other_number other kind) is))
  | inr not_it ↦ inr (only-form other_number other kind found (sym
      (cond-false (kind == number) (Some form) (only other_number other kind) not_it) ∙ e))
]
  where
    same : (x y : BodyForm) → (let told : BodyForm → Option BodyForm = λ z. Some z in told x ≡ told y) → x ≡ y
    same x y e = cc

-- what stands at the end of a shuffle, and what stands behind the checks
final-forms : (shape : Shape) (stage shuffle kind : ℕ) (form : BodyForm) → kind_of_stage shape stage ≡ Some (AtFinal shuffle)
    → body_form shape stage kind ≡ Some form
    → (form ≡ OfReveal shape.members) ⊎ (form ≡ OfDispute (slots_before shape stage))
unfolding body_form
final-forms shape stage shuffle kind form is e =
    either-form 6 (OfReveal shape.members) 7 (OfDispute (slots_before shape stage)) kind form
    (sym (ap (λ (o : Option StageKind). form_of shape (slots_before shape stage) o kind) is) ∙ e)

confirm-forms : (shape : Shape) (stage kind : ℕ) (form : BodyForm) → kind_of_stage shape stage ≡ Some AtConfirm
    → body_form shape stage kind ≡ Some form
    → (form ≡ OfConfirm shape.members) ⊎ (form ≡ OfDiffer (slots_before shape stage))
unfolding body_form
confirm-forms shape stage kind form is e =
    either-form 10 (OfConfirm shape.members) 11 (OfDiffer (slots_before shape stage)) kind form
    (sym (ap (λ (o : Option StageKind). form_of shape (slots_before shape stage) o kind) is) ∙ e)

reveals : (shape : Shape) (stage shuffle : ℕ) (form : BodyForm) (body : Body) → HasCount form body → (form ≡ OfReveal shape.members)
    ⊎ (form ≡ OfDispute (slots_before shape stage)) → IsClosingBody shape stage (AtFinal shuffle) body
reveals shape stage shuffle form body counts (inl is) = reveal_is body (subst (λ (f : BodyForm). HasCount f body) is counts)
  where
    reveal_is : (body : Body) → HasCount (OfReveal shape.members) body → IsClosingBody shape stage (AtFinal shuffle) body
    reveal_is (Reveal votes seed) counts = counts
    reveal_is _ counts = absurd counts
reveals shape stage shuffle form body counts (inr is) = dispute_is body (subst (λ (f : BodyForm). HasCount f body) is counts)
  where
    dispute_is : (body : Body) → HasCount (OfDispute (slots_before shape stage)) body → IsClosingBody shape stage (AtFinal shuffle) body
    dispute_is (Dispute posts seed opening) counts = counts
    dispute_is _ counts = absurd counts

confirms : (shape : Shape) (stage : ℕ) (form : BodyForm) (body : Body) → HasCount form body → (form ≡ OfConfirm shape.members)
    ⊎ (form ≡ OfDiffer (slots_before shape stage)) → IsClosingBody shape stage AtConfirm body
confirms shape stage form body counts (inl is) = confirm_is body (subst (λ (f : BodyForm). HasCount f body) is counts)
  where
    confirm_is : (body : Body) → HasCount (OfConfirm shape.members) body → IsClosingBody shape stage AtConfirm body
    confirm_is (Confirm votes) counts = counts
    confirm_is _ counts = absurd counts
confirms shape stage form body counts (inr is) = differ_is body (subst (λ (f : BodyForm). HasCount f body) is counts)
  where
    differ_is : (body : Body) → HasCount (OfDiffer (slots_before shape stage)) body → IsClosingBody shape stage AtConfirm body
    differ_is (Differ posts) counts = counts
    differ_is _ counts = absurd counts

pub closings_are_read : ClosingsAreRead
closings_are_read shape bytes c kind vote e is closes = by_kind kind is closes
  where
    read : IsReadAs shape c
    read = content-form shape bytes c e

    by_kind : (kind : StageKind) → kind_of_stage shape c.header.stage ≡ Some kind → vote_of kind ≡ Some vote
        → IsClosingBody shape c.header.stage kind c.body
    by_kind (AtFinal shuffle) is closes = reveals shape c.header.stage shuffle read.form c.body read.counts
        (final-forms shape c.header.stage shuffle read.kind read.form is read.form_is)
    by_kind AtConfirm is closes = confirms shape c.header.stage read.form c.body read.counts
        (confirm-forms shape c.header.stage read.kind read.form is read.form_is)
    by_kind AtKeys is closes = absurd cc
    by_kind (AtSubmit shuffle) is closes = absurd cc
    by_kind (AtShuffle shuffle k) is closes = absurd cc
    by_kind (AtGo shuffle) is closes = absurd cc
    by_kind AtPad is closes = absurd cc
    by_kind AtCheck is closes = absurd cc
