-- What a member has to say, whatever the bytes of its own descriptor: bytes, short enough, and what is embedded is of its past.
use Rattle.std.proofs.Common.{◌≡◌, ℕ, zero, suc, ◌+◌, ◌*◌, ◌<◌, ◌≤◌, true, false, List, [], ◌∷◌, Option, Some, None, length, take, drop, map, ap, sym, ◌∙◌, refl, subst, arith, inl, inr}
use Rattle.std.specs.Prelude.{◌-◌, Bool, ◌==◌, Contains, IsSome, option_and_then, if◌then◌else◌}
use Rattle.std.proofs.lemmas.Bool.{cases_Bool, cond-false, cond-true}
use Rattle.std.proofs.lemmas.Nat.{mul-le}
use Rattle.std.proofs.lemmas.Option.{none-some}
use Rattle.wire_core.specs.Bytes.{IsBytes}
use Rattle.wire_core.proofs.ByteLists.{IsBytes-cons, IsBytes-nil}
use Rattle.phase_message.specs.declared.content.Body.{Body}
use Rattle.phase_message.specs.declared.content.Body.TheVariants.{Confirm as ConfirmBody, Differ, Dispute, Reveal}
use Rattle.phase_message.specs.declared.content.Content.{Content}
use Rattle.phase_message.specs.declared.header.Header.{Header}
use Rattle.phase_message.specs.declared.post.Post.{Post}
use Rattle.phase_message.specs.declared.stage.StageKind.{StageKind}
use Rattle.phase_message.specs.declared.stage.StageKind.TheVariants.{Keys, Submit, Shuffle, Go, Final, Pad, Check, Confirm}
use Rattle.phase_message.specs.Body.{level}
use Rattle.phase_message.specs.Grammar.{OfGrammar, body_text, content_text, flag_text, header_text}
use Rattle.phase_message.specs.Post.{post_spelling}
use Rattle.phase_message.specs.Shape.{Shape}
use Rattle.phase_message.specs.Slots.{slots_before}
use Rattle.phase_message.specs.Stages.{kind_of_stage, speaks, vote_of}
use Rattle.phase_message.proofs.Lengths.{fixed-length, pads-length, turn-length}
use Rattle.stage_log.specs.Log.{contents_of}
use Rattle.stage_log.proofs.Pasts.{some_of}
use Rattle.go_nogo.specs.Closing.{posts_embedded}
use Rattle.go_nogo.specs.Rows.{confirm_row, final_row, go_row, posts_at, written}
use Rattle.go_nogo.specs.Votes.{votes_agree}
use Rattle.shuffle_blame.specs.Replay.{outer_place}
use Rattle.round_spec.specs.OwnRows.{CanSay, content_due}
use Rattle.round_spec.specs.Runs.{AllGo}
use Rattle.round_spec.specs.Say.{Configuration, content_with, own_body_at, own_body_if, own_content, own_descriptor, own_header, own_key_seed, own_opening, own_submission, pad_for, pads_row, shape_in}
use Rattle.round_spec.specs.Slots.{inner_place, items_opened}
use Rattle.round_spec.proofs.Contained.{contains-cases, contains-here, contains-later, contains-map, contains-nothing}
use Rattle.round_spec.proofs.OwnGrammar.{own-content-bytes, row_of_grammar}
use Rattle.round_spec.proofs.OwnItems.{IsItem, is-member, own-submission, sent-pad}
use Rattle.round_spec.proofs.OwnLengths.{own_content_is_short}
use Rattle.round_spec.proofs.SealedBytes.{all-map, prefixed-bytes}
use Rattle.round_spec.proofs.Turns.{submit-late}
use Rattle.group_laws.proofs.Changes.{head-bytes, rest-bytes}

-- bytes that are as many as in a descriptor of the group
abbrev pub IsOwn : Configuration → List ℕ → Type 0
IsOwn c own = IsItem (36 + 2272 * (shape_in c).members) own

-- ---- kinds

-- a stage of a kind that closes nothing is not closed
pub not-closed : (shape : Shape) (stage : ℕ) (kind : StageKind) → kind_of_stage shape stage ≡ Some kind → vote_of kind ≡ None
    → IsSome (option_and_then vote_of (kind_of_stage shape stage)) → ⊥
not-closed shape stage kind at none is =
    let vote = some_of (option_and_then vote_of (kind_of_stage shape stage)) is in
    none-some vote.0 (sym (ap (option_and_then vote_of) at ∙ none) ∙ vote.1)

-- each stage at which a member speaks has a kind
pub kind-there : (c : Configuration) (stage : ℕ) (past : List Post) → CanSay c stage past
    → (kind : StageKind) × (kind_of_stage (shape_in c) stage ≡ Some kind)
kind-there c stage past can = by_kind (kind_of_stage (shape_in c) stage) refl
  where
    by_kind : (o : Option StageKind) → kind_of_stage (shape_in c) stage ≡ o → (kind : StageKind) × (kind_of_stage (shape_in c) stage ≡ Some kind)
    by_kind None e = absurd (let silent = sym (ap (λ (o : Option StageKind). speaks (shape_in c) o c.number) e) ∙ can.speaks in cc)
    by_kind (Some kind) e = (kind, e)

-- ---- bytes

flag-small : (vote : Bool) → IsBytes (flag_text vote)
flag-small true = IsBytes-cons 1 [] (omega arith) IsBytes-nil
flag-small false = IsBytes-cons 0 [] (omega arith) IsBytes-nil

go-bytes : (shape : Shape) (past : List (List ℕ)) (stage : ℕ) (inner : List ℕ) → IsBytes (body_text (go_row shape past stage inner))
unfolding go_row
go-bytes shape past stage inner = flag-small _

sent-bytes : (c : Configuration) (own : List ℕ) (stage : ℕ) (past : List Post) → CanSay c stage past
    → IsBytes (body_text (pads_row c own (contents_of past)))
unfolding pads_row
sent-bytes c own stage past can =
    let opened : List (Option (List ℕ)) = items_opened (shape_in c) (contents_of past) 1 in
    prefixed-bytes (map (pad_for c own) opened) (all-map IsBytes (pad_for c own) opened (λ entry. (sent-pad c own entry can.enter).bytes))

-- with its own descriptor
due-bytes : (c : Configuration) (stage : ℕ) (past : List Post) → CanSay c stage past → IsBytes (content_text (content_due c past stage))
unfolding own_content
due-bytes c stage past can = own-content-bytes c stage past can

due-body : (c : Configuration) (stage : ℕ) (past : List Post) (kind : StageKind) → CanSay c stage past
    → kind_of_stage (shape_in c) stage ≡ Some kind
    → IsBytes (body_text (own_body_at c (own_descriptor c (contents_of past)) past stage kind))
unfolding content_with
due-body c stage past kind can at =
    let own : List ℕ = own_descriptor c (contents_of past) in
    subst (λ (o : Option StageKind). IsBytes (body_text (own_body_if c own past stage o))) at
    (rest-bytes (own_header c past stage) (own_body_if c own past stage (kind_of_stage (shape_in c) stage)) (due-bytes c stage past can))

body-bytes : (c : Configuration) (own : List ℕ) (stage : ℕ) (past : List Post) (kind : StageKind) → CanSay c stage past → IsOwn c own
    → kind_of_stage (shape_in c) stage ≡ Some kind → IsBytes (body_text (own_body_at c own past stage kind))
body-bytes c own stage past Keys can is at = due-body c stage past Keys can at
body-bytes c own stage past (Submit shuffle) can is at =
    (own-submission c own stage past shuffle can is (submit-late (shape_in c) stage shuffle at)).bytes
body-bytes c own stage past (Shuffle shuffle k) can is at = due-body c stage past (Shuffle shuffle k) can at
body-bytes c own stage past (Go shuffle) can is at =
    go-bytes (shape_in c) (contents_of past) stage (own_submission c own (contents_of past) shuffle).inner_ciphertext
body-bytes c own stage past (Final shuffle) can is at = due-body c stage past (Final shuffle) can at
body-bytes c own stage past Pad can is at = sent-bytes c own stage past can
body-bytes c own stage past Check can is at = due-body c stage past Check can at
body-bytes c own stage past Confirm can is at = due-body c stage past Confirm can at

pub row-head : (c : Configuration) (stage : ℕ) (past : List Post) → CanSay c stage past → IsBytes (header_text (own_header c past stage))
unfolding content_with
row-head c stage past can = head-bytes (own_header c past stage)
    (own_body_if c (own_descriptor c (contents_of past)) past stage (kind_of_stage (shape_in c) stage)) (due-bytes c stage past can)

pub row-body : (c : Configuration) (own : List ℕ) (stage : ℕ) (past : List Post) → CanSay c stage past → IsOwn c own
    → IsBytes (body_text (content_with c own past stage).body)
unfolding content_with
row-body c own stage past can is =
    let kind = kind-there c stage past can in
    subst (λ (o : Option StageKind). IsBytes (body_text (own_body_if c own past stage o))) (sym kind.1)
    (body-bytes c own stage past kind.0 can is kind.1)

pub row-header : (c : Configuration) (own : List ℕ) (stage : ℕ) (past : List Post)
    → (content_with c own past stage).header ≡ own_header c past stage
unfolding content_with
row-header c own stage past = refl

-- ---- lengths

level-small : (n shuffle k : ℕ) → n ≤ 8 → level n shuffle k ≤ 60000
level-small n shuffle k few =
    by_item (if shuffle == 1 then 36 + 2272 * n else 34) (by_shuffle (shuffle == 1))
  where
    by_shuffle : (b : Bool) → (if b then 36 + 2272 * n else 34) ≤ 20000
    by_shuffle true = omega (arith, few)
    by_shuffle false = omega arith

    by_item : (item : ℕ) → item ≤ 20000 → item + 2272 * (2 * n - k) ≤ 60000
    by_item item small = omega (arith, few, small)

least-level : (n shuffle : ℕ) → 1 ≤ n → 0 < level n shuffle 0
least-level n shuffle some = by_item (if shuffle == 1 then 36 + 2272 * n else 34)
  where
    by_item : (item : ℕ) → 0 < item + 2272 * (2 * n - 0)
    by_item item = omega (arith, some)

-- a content of the grammar at a stage that closes nothing is short
pub open-short : (shape : Shape) (x : Content) (kind : StageKind) → 1 ≤ shape.members → shape.members ≤ 8 → OfGrammar shape x
    → kind_of_stage shape x.header.stage ≡ Some kind → vote_of kind ≡ None → length (content_text x) ≤ 11539924
open-short shape x Keys some few is at none = (let long = fixed-length shape x Keys is at (omega arith) in omega (arith, long))
open-short shape x (Submit shuffle) some few is at none =
    let long = fixed-length shape x (Submit shuffle) is at (least-level shape.members shuffle some) in
    let small = level-small shape.members shuffle 0 few in
    omega (arith, long, small)
open-short shape x (Shuffle shuffle k) some few is at none = elim (turn-length shape x shuffle k is at) [
  | inl abort ↦ (let long = abort.1 in omega (arith, long))
  | inr list ↦
      let small = level-small shape.members shuffle k few in
      let all : shape.members * level shape.members shuffle k ≤ 8 * 60000 = mul-le shape.members (level shape.members shuffle k) 8 60000 few small in
      omega (arith, list, all)
]
open-short shape x (Go shuffle) some few is at none = (let long = fixed-length shape x (Go shuffle) is at (omega arith) in omega (arith, long))
open-short shape x Pad some few is at none = (let long = pads-length shape x is at in omega (arith, long, few))
open-short shape x Check some few is at none = (let long = fixed-length shape x Check is at (omega arith) in omega (arith, long))
open-short shape x (Final shuffle) some few is at none = absurd (none-some (Go shuffle) (sym none))
open-short shape x Confirm some few is at none = absurd (none-some Check (sym none))

due-short : (c : Configuration) (stage : ℕ) (past : List Post) → CanSay c stage past → AllGo c past stage
    → length (content_text (content_due c past stage)) ≤ 11539924
unfolding own_content
due-short c stage past can goes = own_content_is_short c stage past can goes

-- a closing content does not look at the own descriptor
closing-row : (c : Configuration) (own : List ℕ) (stage : ℕ) (past : List Post) (kind : StageKind)
    → own_body_at c own past stage kind ≡ own_body_at c (own_descriptor c (contents_of past)) past stage kind
    → kind_of_stage (shape_in c) stage ≡ Some kind → content_with c own past stage ≡ content_due c past stage
unfolding content_with
closing-row c own stage past kind same at =
    ap (λ (body : Body). record { header = own_header c past stage; body = body })
    (ap (own_body_if c own past stage) at ∙ same
    ∙ sym (ap (own_body_if c (own_descriptor c (contents_of past)) past stage) at))

pub row-short : (c : Configuration) (own : List ℕ) (stage : ℕ) (past : List Post) → CanSay c stage past → AllGo c past stage → IsOwn c own
    → length (content_text (content_with c own past stage)) ≤ 11539924
row-short c own stage past can goes is = (let kind = kind-there c stage past can in by_kind kind.0 kind.1)
  where
    member : 1 ≤ (shape_in c).members
    member = (let two = (is-member c stage past can).least in omega (arith, two))

    closing : (kind : StageKind) → own_body_at c own past stage kind ≡ own_body_at c (own_descriptor c (contents_of past)) past stage kind
        → kind_of_stage (shape_in c) stage ≡ Some kind → length (content_text (content_with c own past stage)) ≤ 11539924
    closing kind same at = subst (λ (x : Content). length (content_text x) ≤ 11539924) (sym (closing-row c own stage past kind same at))
        (due-short c stage past can goes)

    plain : (kind : StageKind) → vote_of kind ≡ None → kind_of_stage (shape_in c) stage ≡ Some kind
        → length (content_text (content_with c own past stage)) ≤ 11539924
    plain kind none at = open-short (shape_in c) (content_with c own past stage) kind member (is-member c stage past can).most
        (row_of_grammar c own stage past can is.long is.bytes)
        (ap (λ (h : Header). kind_of_stage (shape_in c) h.stage) (row-header c own stage past) ∙ at) none

    by_kind : (kind : StageKind) → kind_of_stage (shape_in c) stage ≡ Some kind
        → length (content_text (content_with c own past stage)) ≤ 11539924
    by_kind (Final shuffle) at = closing (Final shuffle) refl at
    by_kind Confirm at = closing Confirm refl at
    by_kind Keys at = plain Keys refl at
    by_kind (Submit shuffle) at = plain (Submit shuffle) refl at
    by_kind (Shuffle shuffle k) at = plain (Shuffle shuffle k) refl at
    by_kind (Go shuffle) at = plain (Go shuffle) refl at
    by_kind Pad at = plain Pad refl at
    by_kind Check at = plain Check refl at

-- ---- what is embedded

-- bytes are a post of a past, as it is sent
abbrev IsWritten : List Post → List ℕ → Type 0
IsWritten past item = (post : Post) × Contains past post × (item ≡ post_spelling post)

contains-drop : {A : Type 0} (n : ℕ) (xs : List A) (x : A) → Contains (drop n xs) x → Contains xs x
contains-drop zero xs x there = there
contains-drop (suc n) [] x there = there
contains-drop (suc n) (y ∷ ys) x there = contains-later y ys x (contains-drop n ys x there)

pub contains-take : {A : Type 0} (n : ℕ) (xs : List A) (x : A) → Contains (take n xs) x → Contains xs x
contains-take zero xs x there = absurd (contains-nothing x there)
contains-take (suc n) [] x there = there
contains-take (suc n) (y ∷ ys) x there = elim (contains-cases y (take n ys) x there) [
  | inl here ↦ subst (λ (z : _). Contains (y ∷ ys) z) here (contains-here y ys)
  | inr later ↦ contains-later y ys x (contains-take n ys x later)
]

from-written : (posts : List Post) (item : List ℕ) → Contains (written posts) item → IsWritten posts item
from-written posts item there = (let found = contains-map post_spelling posts item there in (found.0, found.1, sym found.2))

from-stage : (shape : Shape) (past : List Post) (stage : ℕ) (item : List ℕ) → Contains (written (posts_at shape past stage)) item
    → IsWritten past item
from-stage shape past stage item there =
    let found = from-written (posts_at shape past stage) item there in
    let a : ℕ = slots_before shape stage in
    let b : ℕ = slots_before shape (stage + 1) in (
      found.0,
      contains-drop a past found.0 (contains-take (b - a) (drop a past) found.0 found.1),
      found.2,
    )

final-embeds : (shape : Shape) (past : List Post) (stage : ℕ) (inner outer opening item : List ℕ)
    → Contains (posts_embedded (final_row shape past stage inner outer opening)) item → IsWritten past item
unfolding final_row
final-embeds shape past stage inner outer opening item = elim (cases_Bool (votes_agree shape (contents_of past) stage)) [
  | inl agree ↦ subst (λ (b : Body). Contains (posts_embedded b) item → IsWritten past item)
      (sym (cond-true (votes_agree shape (contents_of past) stage) (Reveal (written (posts_at shape past (stage - 1))) inner)
      (Dispute (written past) outer opening) agree)) (from-stage shape past (stage - 1) item)
  | inr differ ↦ subst (λ (b : Body). Contains (posts_embedded b) item → IsWritten past item)
      (sym (cond-false (votes_agree shape (contents_of past) stage) (Reveal (written (posts_at shape past (stage - 1))) inner)
      (Dispute (written past) outer opening) differ)) (from-written past item)
]

confirm-embeds : (shape : Shape) (past : List Post) (stage : ℕ) (item : List ℕ)
    → Contains (posts_embedded (confirm_row shape past stage)) item → IsWritten past item
unfolding confirm_row
confirm-embeds shape past stage item = elim (cases_Bool (votes_agree shape (contents_of past) stage)) [
  | inl agree ↦ subst (λ (b : Body). Contains (posts_embedded b) item → IsWritten past item)
      (sym (cond-true (votes_agree shape (contents_of past) stage) (ConfirmBody (written (posts_at shape past (stage - 1))))
      (Differ (written past)) agree)) (from-stage shape past (stage - 1) item)
  | inr differ ↦ subst (λ (b : Body). Contains (posts_embedded b) item → IsWritten past item)
      (sym (cond-false (votes_agree shape (contents_of past) stage) (ConfirmBody (written (posts_at shape past (stage - 1))))
      (Differ (written past)) differ)) (from-written past item)
]

-- what a closing content embeds is of the past
pub row-embeds : (c : Configuration) (own : List ℕ) (stage : ℕ) (past : List Post) (item : List ℕ) → CanSay c stage past
    → IsSome (option_and_then vote_of (kind_of_stage (shape_in c) stage))
    → Contains (posts_embedded (content_with c own past stage).body) item → (post : Post) × Contains past post × (item ≡ post_spelling post)
unfolding content_with
row-embeds c own stage past item can closes there =
    let kind = kind-there c stage past can in
    by_kind kind.0 kind.1 (subst (λ (o : Option StageKind). Contains (posts_embedded (own_body_if c own past stage o)) item) kind.1 there)
  where
    by_kind : (kind : StageKind) → kind_of_stage (shape_in c) stage ≡ Some kind
        → Contains (posts_embedded (own_body_at c own past stage kind)) item → (post : Post) × Contains past post × (item ≡ post_spelling post)
    by_kind (Final shuffle) at within = final-embeds (shape_in c) past stage (own_key_seed c (inner_place shuffle))
        (own_key_seed c (outer_place shuffle)) (own_opening c shuffle 2) item within
    by_kind Confirm at within = confirm-embeds (shape_in c) past stage item within
    by_kind Keys at within = absurd (not-closed (shape_in c) stage Keys at refl closes)
    by_kind (Submit shuffle) at within = absurd (not-closed (shape_in c) stage (Submit shuffle) at refl closes)
    by_kind (Shuffle shuffle k) at within = absurd (not-closed (shape_in c) stage (Shuffle shuffle k) at refl closes)
    by_kind (Go shuffle) at within = absurd (not-closed (shape_in c) stage (Go shuffle) at refl closes)
    by_kind Pad at within = absurd (not-closed (shape_in c) stage Pad at refl closes)
    by_kind Check at within = absurd (not-closed (shape_in c) stage Check at refl closes)
