-- An embedded post: what its bytes come to, alone and as the post of a slot.
use Rattle.std.proofs.Common.{◌≡◌, ◌≢◌, ℕ, true, false, not, List, ◌++◌, length, Option, Some, Result, Ok, Err, refl, sym, ap, subst, ◌∙◌, arith}
use Rattle.std.specs.Int.{w32, to_be_bytes}
use Rattle.std.specs.Prelude.{◌==◌, IsErr, is_some}
use Rattle.std.specs.Result.{result_err}
use Rattle.std.proofs.lemmas.Bool.{and_parts, eqb-true, eq-eqb, false_from_ne_true}
use Rattle.wire_core.specs.declared.cursor.Short.{Short}
use Rattle.wire_core.specs.Bytes.{IsBytes}
use Rattle.wire_core.proofs.ByteLists.{IsBytes-back, IsBytes-front}
use Rattle.wire_core.specs.Answers.{◌>>=◌, Gives, fault_as, unless}
use Rattle.phase_message.specs.declared.content.Content.{Content}
use Rattle.phase_message.specs.declared.header.Header.{Header}
use Rattle.phase_message.specs.declared.offence.Offence.{Offence}
use Rattle.phase_message.specs.declared.post.Post.{Post}
use Rattle.phase_message.specs.declared.stage.Slot.{Slot}
use Rattle.phase_message.specs.Offence.{content_read}
use Rattle.phase_message.specs.Shape.{Shape}
use Rattle.phase_message.specs.Slots.{slot_at, slot_number}
use Rattle.phase_message.specs.Stages.{is_slot}
use Rattle.phase_message.proofs.SlotLists.{slot_at-is, slot_at-number}
use Rattle.phase_message.proofs.Whole.{content-header}
use Rattle.group_roster.specs.Roster.{Roster, shape_of_roster}
use Rattle.signed_post.specs.declared.post.PostRefusal.{PostRefusal}
use Rattle.signed_post.specs.declared.post.PostRefusal.TheVariants.{Body as RefusedBody}
use Rattle.signed_post.specs.Admission.{Admitted, admission_of, check_of, framed_admission_of}
use Rattle.signed_post.specs.Frame.{frame_of}
use Rattle.signed_post.proofs.Admits.{admit-again, admit-found, admits_exactly}
use Rattle.signed_post.proofs.Frames.{framed-bytes, framed-fits, framed-found}
use Rattle.go_nogo.specs.Stands.{StandsIn}
use Rattle.go_nogo.proofs.Standing.{stand-read}
use Rattle.round_spec.specs.Embedded.{Misplaced, Refused, checked_post, names_slot, post_for_slot, slot_named}
use Rattle.embedded_log.specs.Embedding.{StandsThere}

-- ---- what a call answered

-- a call that answered no value found a fault
pub not_given : {X Y E : Type 0} (view : X → Y) (r : Result X E) (expected : Result Y E) → Gives (λ e. Some e) view r expected
    → ((x : X) → r ≡ Ok x → ⊥) → (e : E) × (expected ≡ Err e)
not_given view (Ok x) expected gives never = absurd (never x refl)
not_given view (Err e) expected gives never = (e, gives)

pub not_ok : {X E : Type 0} (r : Result X E) → ((x : X) → r ≡ Ok x → ⊥) → (e : E) × (r ≡ Err e)
not_ok (Ok x) never = absurd (never x refl)
not_ok (Err e) never = (e, refl)

-- ---- one post

abbrev post_ok : Post × Content → Result (Post × Content) PostRefusal
post_ok x = Ok x

-- bytes in no frame are no post
pub checked-unframed : (roster : Roster) (round : ℕ) (bytes : List ℕ) (at : ℕ) → frame_of bytes ≡ Err at
    → IsErr (checked_post roster round bytes)
unfolding checked_post
checked-unframed roster round bytes at e = rw e refl

-- a post in the frame is admitted by its header
pub admitted : (roster : Roster) (round : ℕ) (bytes : List ℕ) (post : Post) (header : Header) → IsBytes bytes → frame_of bytes ≡ Ok post
    → framed_admission_of roster round post ≡ Ok header → Admitted roster round post header
admitted roster round bytes post header fits framed e = admit-found roster round post header (framed-fits bytes post framed)
    (framed-bytes bytes post fits framed) e

-- and else it is none
pub checked-refused : (roster : Roster) (round : ℕ) (bytes : List ℕ) (post : Post) (refusal : PostRefusal) → IsBytes bytes
    → frame_of bytes ≡ Ok post → framed_admission_of roster round post ≡ Err refusal → IsErr (checked_post roster round bytes)
unfolding checked_post check_of
checked-refused roster round bytes post refusal fits framed e = rw framed (by_admission (admission_of roster round post) refl)
  where
    by_admission : (r : Result Header PostRefusal) → admission_of roster round post ≡ r
        → IsErr ((r >>= λ header. fault_as (λ offence. RefusedBody offence.at offence.rule)
        (content_read (shape_of_roster roster) post.content)) >>= λ content. post_ok (post, content))
    by_admission (Err refused) is = refl
    by_admission (Ok header) is =
        let there = (admits_exactly roster round post header (framed-bytes bytes post fits framed)).0 is in
        absurd (let ok : framed_admission_of roster round post ≡ Ok header = admit-again roster round post header there in cc)

-- a content outside the grammar is none
pub checked-offends : (roster : Roster) (round : ℕ) (bytes : List ℕ) (post : Post) (header : Header) (offence : Offence) → IsBytes bytes
    → frame_of bytes ≡ Ok post → framed_admission_of roster round post ≡ Ok header
    → content_read (shape_of_roster roster) post.content ≡ Err offence → IsErr (checked_post roster round bytes)
unfolding checked_post check_of
checked-offends roster round bytes post header offence fits framed e read =
    let is : admission_of roster round post ≡ Ok header = (admits_exactly roster round post header (framed-bytes bytes post fits framed)).1
    (admitted roster round bytes post header fits framed e) in
    rw (framed, is, read) refl

-- and one of the grammar is one
pub checked-found : (roster : Roster) (round : ℕ) (bytes : List ℕ) (post : Post) (header : Header) (content : Content) → IsBytes bytes
    → frame_of bytes ≡ Ok post → framed_admission_of roster round post ≡ Ok header
    → content_read (shape_of_roster roster) post.content ≡ Ok content → checked_post roster round bytes ≡ Ok (post, content)
unfolding checked_post check_of
checked-found roster round bytes post header content fits framed e read =
    let is : admission_of roster round post ≡ Ok header = (admits_exactly roster round post header (framed-bytes bytes post fits framed)).1
    (admitted roster round bytes post header fits framed e) in
    rw (framed, is, read) refl

abbrev header_ok : Header → Result Header Short
header_ok header = Ok header

-- the header is that of the content
pub header-same : (roster : Roster) (round : ℕ) (post : Post) (header : Header) (content : Content) → Admitted roster round post header
    → content_read (shape_of_roster roster) post.content ≡ Ok content → content.header ≡ header
header-same roster round post header content there read =
    let same : header_ok content.header ≡ header_ok header = sym (content-header (shape_of_roster roster) post.content content read)
    ∙ there.reads in
    cc

-- such a content stands in the slot of its header
pub stands-there : (roster : Roster) (round : ℕ) (post : Post) (header : Header) (content : Content) → IsBytes post.content
    → Admitted roster round post header → content_read (shape_of_roster roster) post.content ≡ Ok content
    → StandsThere (shape_of_roster roster) header.stage header.sender post.content
stands-there roster round post header content fits there read =
    let stands = stand-read (shape_of_roster roster) post.content content fits read in
    record {
      there = there.slot;
      kept = record { least = there.frame.least; most = omega (arith, there.frame.most) };
      stands = subst (λ (h : Header). StandsIn (shape_of_roster roster) (record { stage = h.stage; sender = h.sender }) post.content)
          (header-same roster round post header content there read) stands;
    }

-- ---- the post of a slot

pub placed-unchecked : (roster : Roster) (round : ℕ) (slot : Slot) (bytes : List ℕ) → IsErr (checked_post roster round bytes)
    → IsErr (post_for_slot roster round slot bytes)
unfolding post_for_slot
placed-unchecked roster round slot bytes e = unchecked (checked_post roster round bytes) e
  where
    unchecked : (r : Result (Post × Content) PostRefusal) → IsErr r
        → IsErr (fault_as Refused r >>= λ checked. unless (not (names_slot slot checked.1.header)) (Misplaced (slot_named checked.1.header))
        checked.0)
    unchecked (Ok x) e = absurd cc
    unchecked (Err refusal) e = refl

pub placed-elsewhere : (roster : Roster) (round number : ℕ) (slot : Slot) (bytes : List ℕ) (post : Post) (content : Content)
    (header : Header) → checked_post roster round bytes ≡ Ok (post, content) → content.header ≡ header
    → slot_at (shape_of_roster roster) number ≡ Some slot → slot_number (shape_of_roster roster) header.stage header.sender ≢ number
    → IsErr (post_for_slot roster round slot bytes)
unfolding post_for_slot
placed-elsewhere roster round number slot bytes post content header checked same at other =
    let shape : Shape = shape_of_roster roster in
    let names : names_slot slot content.header ≡ false = false_from_ne_true (names_slot slot content.header) (λ e.
    let parts = and_parts (content.header.stage == slot.stage) (content.header.sender == slot.sender) e in
    let stage : header.stage ≡ slot.stage = sym (ap (λ (h : Header). h.stage) same) ∙ eqb-true _ _ parts.0 in
    let sender : header.sender ≡ slot.sender = sym (ap (λ (h : Header). h.sender) same) ∙ eqb-true _ _ parts.1 in
    other (ap (λ (t : ℕ). slot_number shape t header.sender) stage ∙ ap (λ (m : ℕ). slot_number shape slot.stage m) sender
    ∙ (slot_at-is shape number slot at).1)) in
    rw (checked, names) refl

pub placed-there : (roster : Roster) (round number : ℕ) (slot : Slot) (bytes : List ℕ) (post : Post) (content : Content) (header : Header)
    → checked_post roster round bytes ≡ Ok (post, content) → content.header ≡ header
    → is_slot (shape_of_roster roster) header.stage header.sender ≡ true → slot_at (shape_of_roster roster) number ≡ Some slot
    → slot_number (shape_of_roster roster) header.stage header.sender ≡ number → post_for_slot roster round slot bytes ≡ Ok post
unfolding post_for_slot
placed-there roster round number slot bytes post content header checked same there at is =
    let shape : Shape = shape_of_roster roster in
    let here : Slot = record { stage = header.stage; sender = header.sender } in
    let both : slot_some slot ≡ slot_some here = sym at ∙ ap (slot_at shape) (sym is)
    ∙ slot_at-number shape header.stage header.sender there in
    let one : slot ≡ here = cc in
    let stage : (content.header.stage == slot.stage) ≡ true = eq-eqb _ _
    (ap (λ (h : Header). h.stage) same ∙ sym (ap (λ (s : Slot). s.stage) one)) in
    let sender : (content.header.sender == slot.sender) ≡ true = eq-eqb _ _
    (ap (λ (h : Header). h.sender) same ∙ sym (ap (λ (s : Slot). s.sender) one)) in
    rw (checked, stage, sender) refl
  where
    slot_some : Slot → Option Slot
    slot_some s = Some s

-- ---- what a look found

-- an offence that was found is the one of the reading, and none is a content
pub read_by : (read : Result Content Offence) (found : Option Offence) → found ≡ result_err read
    → (is_some found ≡ true → (o : Offence) × (read ≡ Err o)) × (is_some found ≡ false → (c : Content) × (read ≡ Ok c))
read_by (Ok c) found e = (λ some. absurd (let none = ap (λ (o : Option Offence). is_some o) e in cc), λ none. (c, refl))
read_by (Err o) found e = (λ some. (o, refl), λ none. absurd (let some = ap (λ (o : Option Offence). is_some o) e in cc))

-- the content of a post in the frame are bytes
pub framed_content : (bytes : List ℕ) (post : Post) → IsBytes bytes → frame_of bytes ≡ Ok post → IsBytes post.content
framed_content bytes post fits framed =
    let spelled = (framed-found bytes post fits framed).1 in
    let whole : IsBytes (to_be_bytes w32 (length post.content) ++ post.content ++ post.signature) = subst (λ (x : List ℕ). IsBytes x)
    spelled fits in
    IsBytes-back (to_be_bytes w32 (length post.content)) post.content
    (IsBytes-front (to_be_bytes w32 (length post.content) ++ post.content) post.signature whole)
