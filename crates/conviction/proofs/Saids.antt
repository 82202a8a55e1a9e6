-- What stands in the slots of a past of an honest run, whoever said it: bodies of the grammar.
use Rattle.std.proofs.Common.{◌≡◌, ℕ, ◌+◌, ◌<◌, true, List, [], length, get_or, Option, Some, None, ap, sym, ◌∙◌, subst, arith}
use Rattle.std.specs.Prelude.{option_map, slice_index_or}
use Rattle.std.specs.List.{AllByRecursion}
use Rattle.std.proofs.lemmas.Option.{get_or_from_slice_get, slice_get-map}
use Rattle.phase_message.specs.declared.content.Body.{Body}
use Rattle.phase_message.specs.declared.content.Body.TheVariants.{Keys, Submit, Shuffled, Abort, Go, Reveal, Dispute, Pads, Check, Confirm, Differ}
use Rattle.phase_message.specs.declared.post.Post.{Post}
use Rattle.phase_message.specs.declared.stage.Slot.{Slot}
use Rattle.phase_message.specs.declared.stage.StageKind.{StageKind}
use Rattle.phase_message.specs.declared.stage.StageKind.TheVariants.{Submit as AtSubmit, Shuffle as AtShuffle}
use Rattle.phase_message.specs.Body.{body_form, form_of, level}
use Rattle.phase_message.specs.Grammar.{Fits, IsBody}
use Rattle.phase_message.specs.Offence.{content_read}
use Rattle.phase_message.specs.Shape.{Shape}
use Rattle.phase_message.specs.Slots.{slot_number, slots_before}
use Rattle.phase_message.specs.Stages.{is_slot, kind_of_stage}
use Rattle.phase_message.proofs.SlotLists.{slot_at-number, slot_number-within, slots_before-rises}
use Rattle.phase_message.proofs.Whole.{content-is_spelled}
use Rattle.stage_log.specs.Log.{contents_of}
use Rattle.shuffle_blame.specs.Replay.{body_of, ciphertext_of, list_of}
use Rattle.round_spec.specs.Say.{shape_in}
use Rattle.round_spec.specs.Runs.{Run}
use Rattle.round_spec.proofs.Rows.{checks-parts}
use Rattle.conviction.proofs.Closings.{IsPast}
use Rattle.conviction.proofs.Pasts.{there}

-- what was said in a slot is of the grammar
pub record IsSaid (run : Run) (posts : List Post) (stage member : ℕ) : Type 0 where
  pub body : Body
  pub said : body_of (content_read (shape_in run.config) (slice_index_or (contents_of posts)
      (slot_number (shape_in run.config) stage member) [])) ≡ body
  pub grammar : IsBody (shape_in run.config) stage body

pub past-said : (run : Run) (later stage member : ℕ) (posts : List Post) → IsPast run later posts
    → is_slot (shape_in run.config) stage member ≡ true
    → stage < later → IsSaid run posts stage member
past-said run later stage member posts is speaks lt =
    let shape = shape_in run.config in
    let number : ℕ = slot_number shape stage member in
    let long = is.long in
    let within = (slot_number-within shape stage member speaks).1 in
    let found = there posts number (omega (arith, long, within, slots_before-rises shape (stage + 1) later (omega arith))) in
    let checks = is.checks number (record { stage = stage; sender = member }) found.0 (slot_at-number shape stage member speaks) found.1 in
    let parts = checks-parts run.config.roster run.config.round found.0 checks.content checks.checks in
    let spelled = content-is_spelled shape found.0.content checks.content checks.content_bytes parts.2 in
    let text : get_or (contents_of posts) number [] ≡ found.0.content =
    get_or_from_slice_get (contents_of posts) number found.0.content []
    (slice_get-map (λ (p : Post). p.content) posts number ∙ ap (option_map (λ (p : Post). p.content)) found.1) in
    record {
      body = checks.content.body;
      said = ap (λ (bytes : List ℕ). body_of (content_read shape bytes)) text ∙ ap body_of parts.2;
      grammar = subst (λ (s : ℕ). IsBody shape s checks.content.body) (ap (λ (s : Slot). s.stage) checks.named) spelled.1.1;
    }

-- ---- lengths

some-same : {A : Type 0} (a b : A) → (let told : A → Option A = λ x. Some x in told a ≡ told b) → a ≡ b
some-same a b e = cc

some-none : {A : Type 0} (o : Option A) (a : A) → o ≡ None → o ≡ Some a → ⊥
some-none o a none some = absurd (let both = sym none ∙ some in cc)

-- a list of the grammar has an entry of one length for each member
pub list-long : (shape : Shape) (stage shuffle turn : ℕ) (list : List (List ℕ)) → kind_of_stage shape stage ≡ Some (AtShuffle shuffle turn)
    → IsBody shape stage (Shuffled list)
    → AllByRecursion (λ entry. length entry ≡ level shape.members shuffle turn) list × (length list ≡ shape.members)
unfolding body_form
list-long shape stage shuffle turn list kind is =
    subst (λ form. Fits form (Shuffled list)) (some-same _ _ (sym is.1
    ∙ ap (λ (o : Option StageKind). form_of shape (slots_before shape stage) o 3) kind)) is.2

-- and is of it where it has
pub list-body : (shape : Shape) (stage shuffle turn : ℕ) (list : List (List ℕ)) → kind_of_stage shape stage ≡ Some (AtShuffle shuffle turn)
    → AllByRecursion (λ entry. length entry ≡ level shape.members shuffle turn) list → length list ≡ shape.members
    → IsBody shape stage (Shuffled list)
unfolding body_form
list-body shape stage shuffle turn list kind long count = (
  _,
  ap (λ (o : Option StageKind). form_of shape (slots_before shape stage) o 3)
      kind,
  (long, count),
)

-- a submission of the grammar has its length
pub submission-long : (shape : Shape) (stage shuffle : ℕ) (body : Body) → kind_of_stage shape stage ≡ Some (AtSubmit shuffle)
    → IsBody shape stage body
    → length (ciphertext_of body) ≡ level shape.members shuffle 0
unfolding body_form
submission-long shape stage shuffle (Submit c) kind is =
    subst (λ form. Fits form (Submit c)) (some-same _ _ (sym is.1
    ∙ ap (λ (o : Option StageKind). form_of shape (slots_before shape stage) o 2) kind)) is.2
submission-long shape stage shuffle (Keys keys) kind is =
    absurd (some-none _ is.0 (ap (λ (o : Option StageKind). form_of shape (slots_before shape stage) o 1) kind) is.1)
submission-long shape stage shuffle (Shuffled list) kind is =
    absurd (some-none _ is.0 (ap (λ (o : Option StageKind). form_of shape (slots_before shape stage) o 3) kind) is.1)
submission-long shape stage shuffle Abort kind is =
    absurd (some-none _ is.0 (ap (λ (o : Option StageKind). form_of shape (slots_before shape stage) o 4) kind) is.1)
submission-long shape stage shuffle (Go vote) kind is =
    absurd (some-none _ is.0 (ap (λ (o : Option StageKind). form_of shape (slots_before shape stage) o 5) kind) is.1)
submission-long shape stage shuffle (Reveal votes seed) kind is =
    absurd (some-none _ is.0 (ap (λ (o : Option StageKind). form_of shape (slots_before shape stage) o 6) kind) is.1)
submission-long shape stage shuffle (Dispute posts seed opening) kind is =
    absurd (some-none _ is.0 (ap (λ (o : Option StageKind). form_of shape (slots_before shape stage) o 7) kind) is.1)
submission-long shape stage shuffle (Pads pads) kind is =
    absurd (some-none _ is.0 (ap (λ (o : Option StageKind). form_of shape (slots_before shape stage) o 8) kind) is.1)
submission-long shape stage shuffle (Check vote) kind is =
    absurd (some-none _ is.0 (ap (λ (o : Option StageKind). form_of shape (slots_before shape stage) o 9) kind) is.1)
submission-long shape stage shuffle (Confirm votes) kind is =
    absurd (some-none _ is.0 (ap (λ (o : Option StageKind). form_of shape (slots_before shape stage) o 10) kind) is.1)
submission-long shape stage shuffle (Differ posts) kind is =
    absurd (some-none _ is.0 (ap (λ (o : Option StageKind). form_of shape (slots_before shape stage) o 11) kind) is.1)

-- a body that has a list is it
pub list-told : (body : Body) (list : List (List ℕ)) → list_of body ≡ Some list → body ≡ Shuffled list
list-told (Shuffled l) list e = ap (λ (x : List (List ℕ)). Shuffled x) (some-same l list e)
list-told (Keys keys) list e = absurd cc
list-told (Submit ciphertext) list e = absurd cc
list-told Abort list e = absurd cc
list-told (Go vote) list e = absurd cc
list-told (Reveal votes seed) list e = absurd cc
list-told (Dispute posts seed opening) list e = absurd cc
list-told (Pads pads) list e = absurd cc
list-told (Check vote) list e = absurd cc
list-told (Confirm votes) list e = absurd cc
list-told (Differ posts) list e = absurd cc
