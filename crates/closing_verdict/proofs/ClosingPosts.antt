-- What a log keeps to the end of a closing stage, and what was sent.
use Rattle.std.proofs.Common.{◌≡◌, ℕ, ◌+◌, ◌<◌, ◌≤◌, ◌^◌, true, List, length, get_or, Option, Some, None, Result, Ok, Err, refl, sym, ap, ◌∙◌, subst, arith}
use Rattle.std.specs.Prelude.{IfOk, IsSome, is_some, option_and_then}
use Rattle.std.specs.Option.{option_map}
use Rattle.std.proofs.lemmas.Option.{slice_get-get_or}
use Rattle.phase_message.specs.declared.post.Post.{Post}
use Rattle.phase_message.specs.declared.stage.Slot.{Slot}
use Rattle.phase_message.specs.declared.stage.StageKind.{StageKind}
use Rattle.phase_message.specs.declared.stage.StageKind.TheVariants.{Keys, Submit, Shuffle, Go, Final, Pad, Check, Confirm}
use Rattle.phase_message.specs.Post.{post_spelling}
use Rattle.phase_message.specs.Shape.{Shape}
use Rattle.phase_message.specs.Slots.{slot_number, slots_before}
use Rattle.phase_message.specs.Stages.{is_slot, kind_of_stage, speaks, vote_of}
use Rattle.phase_message.proofs.SlotLists.{slot_number-within, slots_before-rises}
use Rattle.stage_log.specs.Table.{kept_in}
use Rattle.stage_log.proofs.Fronts.{some_is}
use Rattle.honest_say.specs.Pasts.{posts_before}
use Rattle.honest_say.proofs.PastLemmas.{complete-posts, kept-at, past-length}
use Rattle.honest_say.proofs.StageLemmas.{member-there}
use Rattle.round_spec.specs.Verdict.{is_closing, no_post, post_in, sent_in}
use Rattle.closing_verdict.specs.Judgement.{Completed, IsComplete, stage_closed}

-- there is a post for each slot to the end of the stage
pub closed-long : (c : Completed) → IsComplete c → length (posts_before c.log (c.stage + 1)) ≡ slots_before c.log.shape (c.stage + 1)
closed-long c is = past-length c.log (c.stage + 1) (posts_before c.log (c.stage + 1)) is.form (complete-posts c.log (c.stage + 1) is.there)

-- all members speak at a closing stage
pub closing-slot : (shape : Shape) (stage member : ℕ) → is_closing shape stage ≡ true → 1 ≤ member → member ≤ shape.members
    → is_slot shape stage member ≡ true
closing-slot shape stage member closing least most = by_kind (kind_of_stage shape stage) refl closing
  where
    by_kind : (o : Option StageKind) → kind_of_stage shape stage ≡ o → is_some (option_and_then vote_of o) ≡ true
        → is_slot shape stage member ≡ true
    by_kind None e is = absurd cc
    by_kind (Some (Final shuffle)) e is = ap (λ (o : Option StageKind). speaks shape o member) e
        ∙ member-there shape.members member least most
    by_kind (Some Confirm) e is = ap (λ (o : Option StageKind). speaks shape o member) e ∙ member-there shape.members member least most
    by_kind (Some Keys) e is = absurd cc
    by_kind (Some (Submit shuffle)) e is = absurd cc
    by_kind (Some (Shuffle shuffle k)) e is = absurd cc
    by_kind (Some (Go shuffle)) e is = absurd cc
    by_kind (Some Pad) e is = absurd cc
    by_kind (Some Check) e is = absurd cc

-- what is kept in a slot to the end of the stage
pub closed-kept : (c : Completed) → IsComplete c → (slot : Slot) → is_slot c.log.shape slot.stage slot.sender ≡ true → slot.stage ≤ c.stage
    → kept_in c.log slot ≡ Some (post_in (stage_closed c) slot.stage slot.sender)
closed-kept c is slot there le =
    let posts : List Post = posts_before c.log (c.stage + 1) in
    let number : ℕ = slot_number c.log.shape slot.stage slot.sender in
    let within = slot_number-within c.log.shape slot.stage slot.sender there in
    let rises = slots_before-rises c.log.shape (slot.stage + 1) (c.stage + 1) (omega (arith, le)) in
    kept-at c.log (c.stage + 1) slot posts (complete-posts c.log (c.stage + 1) is.there) there (omega (arith, le))
    ∙ slice_get-get_or posts number no_post (omega (arith, within.1, rises, closed-long c is))
    ∙ ap (λ (shape : Shape). Some (get_or posts (slot_number shape slot.stage slot.sender) no_post)) is.shape

pub closed-there : (c : Completed) → IsComplete c → (slot : Slot) → is_slot c.log.shape slot.stage slot.sender ≡ true → slot.stage ≤ c.stage
    → IsSome (kept_in c.log slot)
closed-there c is slot there le = some_is (kept_in c.log slot) (post_in (stage_closed c) slot.stage slot.sender)
    (closed-kept c is slot there le)

some-same : {A : Type 0} (x y : A) → (let some : A → Option A = λ z. Some z in some x ≡ some y) → x ≡ y
some-same {A} x y e = cc

-- what is written of it was sent
pub closed-sent : (c : Completed) → IsComplete c → (slot : Slot) (bytes : List ℕ) → is_slot c.log.shape slot.stage slot.sender ≡ true
    → slot.stage ≤ c.stage
    → option_map post_spelling (kept_in c.log slot) ≡ Some bytes → bytes ≡ sent_in (stage_closed c) slot.stage slot.sender
closed-sent c is slot bytes there le e =
    some-same bytes (sent_in (stage_closed c) slot.stage slot.sender)
    (sym e ∙ ap (option_map post_spelling) (closed-kept c is slot there le))

pub closed-short : (c : Completed) → IsComplete c → (slot : Slot) → is_slot c.log.shape slot.stage slot.sender ≡ true → slot.stage ≤ c.stage
    → length (sent_in (stage_closed c) slot.stage slot.sender) < 2 ^ 32
closed-short c is slot there le = is.short slot.stage slot.sender (post_in (stage_closed c) slot.stage slot.sender)
    (closed-kept c is slot there le)

-- what follows of an answer that is told
pub if-ok : {A E : Type 0} (P Q : A → Type 0) (r : Result A E) → ((x : A) → P x → Q x) → IfOk r P → IfOk r Q
if-ok P Q (Ok x) step p = step x p
if-ok P Q (Err e) step p = p

pub if-sent : {E : Type 0} (c : Completed) → IsComplete c → (slot : Slot) → is_slot c.log.shape slot.stage slot.sender ≡ true
    → slot.stage ≤ c.stage
    → (r : Result (List ℕ) E) → IfOk r (λ bytes. option_map post_spelling (kept_in c.log slot) ≡ Some bytes)
    → IfOk r (λ bytes. bytes ≡ sent_in (stage_closed c) slot.stage slot.sender)
if-sent c is slot there le r e =
    if-ok (λ bytes. option_map post_spelling (kept_in c.log slot) ≡ Some bytes)
    (λ bytes. bytes ≡ sent_in (stage_closed c) slot.stage slot.sender) r (λ bytes e. closed-sent c is slot bytes there le e) e

pub if-short : {E : Type 0} (c : Completed) → IsComplete c → (slot : Slot) → is_slot c.log.shape slot.stage slot.sender ≡ true
    → slot.stage ≤ c.stage
    → (r : Result (List ℕ) E) → IfOk r (λ bytes. option_map post_spelling (kept_in c.log slot) ≡ Some bytes)
    → IfOk r (λ bytes. length bytes < 2 ^ 32)
if-short c is slot there le r e =
    if-ok (λ bytes. option_map post_spelling (kept_in c.log slot) ≡ Some bytes) (λ bytes. length bytes < 2 ^ 32) r
    (λ bytes e. subst (λ (b : List ℕ). length b < 2 ^ 32) (sym (closed-sent c is slot bytes there le e)) (closed-short c is slot there le))
    e
