-- How much a plain member keeps, at most.
use Rattle.std.proofs.Common.{◌≡◌, ℕ, suc, ◌+◌, ◌*◌, ◌≤◌, ◌<◌, true, List, [], ◌∷◌, length, map, Option, Some, None, ap, sym, ◌∙◌, refl, subst, arith, inl, inr}
use Rattle.std.specs.Prelude.{◌-◌, ◌==◌, if◌then◌else◌}
use Rattle.std.specs.List.{slice_get, sum_by}
use Rattle.std.specs.Option.{option_flatten, option_map_or}
use Rattle.std.proofs.lemmas.Bool.{cond-true}
use Rattle.std.proofs.lemmas.List.Sums.{sum_by-append, sum_by-cons}
use Rattle.phase_message.specs.declared.content.Content.{Content}
use Rattle.phase_message.specs.declared.post.Post.{Post}
use Rattle.phase_message.specs.declared.stage.Slot.{Slot}
use Rattle.phase_message.specs.declared.stage.StageKind.{StageKind}
use Rattle.phase_message.specs.declared.stage.StageKind.TheVariants.{Keys, Submit, Shuffle, Go, Final, Pad, Check, Confirm}
use Rattle.phase_message.specs.Grammar.{OfGrammar, content_text}
use Rattle.phase_message.specs.Post.{post_spelling}
use Rattle.phase_message.specs.Shape.{Shape}
use Rattle.phase_message.specs.Slots.{senders_in, senders_of, slot_count, slot_number, slots_from, slots_of}
use Rattle.phase_message.specs.Stages.{is_slot, kind_of_stage, speaks as speaks_in, stages}
use Rattle.phase_message.proofs.Lengths.{fixed-length, pads-length, turn-length}
use Rattle.phase_message.proofs.SlotLists.{length-senders_in, length-slots_of, slot_at-is}
use Rattle.stage_log.specs.Table.{IsLog, Log, kept_in}
use Rattle.round_spec.specs.Course.{Others, settled_log}
use Rattle.round_spec.specs.Honesty.{OthersCheck}
use Rattle.round_spec.specs.Result.{delivered_counted, first_posts, log_after}
use Rattle.round_spec.specs.Say.{Configuration, shape_in}
use Rattle.round_spec.specs.Runs.{CanEnter, ReadsIn}
use Rattle.round_spec.proofs.Courses.{cases_Some}
use Rattle.round_spec.proofs.Given.{first_posts_delivered}
use Rattle.round_spec.proofs.Honesty.{members-least, settled_is_log, settled_posts_read}
use Rattle.round_spec.proofs.PastForms.{said-there, spelled-long}
use Rattle.member_spec.specs.Actor.{Actor, actor_after}
use Rattle.member_spec.specs.Plain.{KeepsAtMost, PlainKeepsAtMost}
use Rattle.member_spec.specs.Sizes.{bytes_at, bytes_kept, greatest_body, greatest_log, greatest_post}
use Rattle.member_spec.proofs.PlainLaws.{counted-bytes, plain_comes_to_result}

-- ---- one post

-- a stage whose posts embed others
abbrev IsClosing : StageKind → Type 0
IsClosing (Final shuffle) = Unit {0}
IsClosing Confirm = Unit {0}
IsClosing kind = ⊥

open-room : (shape : Shape) (x : Content) (kind : StageKind) → 1 ≤ shape.members → OfGrammar shape x
    → kind_of_stage shape x.header.stage ≡ Some kind
    → (IsClosing kind → ⊥)
    → length (content_text x) ≤ 76 + greatest_body shape kind
open-room shape x Keys some is at open_kind = omega (arith, fixed-length shape x Keys is at (omega arith))
open-room shape x (Submit shuffle) some is at open_kind = omega
    (arith, fixed-length shape x (Submit shuffle) is at (layers (if shuffle == 1 then 36 + 2272 * shape.members else 34)))
  where
    layers : (item : ℕ) → 0 < item + 2272 * (2 * shape.members - 0)
    layers item = omega (arith, some)
open-room shape x (Shuffle shuffle k) some is at open_kind = elim (turn-length shape x shuffle k is at) [
  | inl abort ↦ omega (arith, abort.1)
  | inr list ↦ omega (arith, list)
]
open-room shape x (Go shuffle) some is at open_kind = omega (arith, fixed-length shape x (Go shuffle) is at (omega arith))
open-room shape x Pad some is at open_kind = pads-length shape x is at
open-room shape x Check some is at open_kind = omega (arith, fixed-length shape x Check is at (omega arith))
open-room shape x (Final shuffle) some is at open_kind = absurd (open_kind tt)
open-room shape x Confirm some is at open_kind = absurd (open_kind tt)

-- a post that reads in its slot is no longer than the greatest one of its stage
post-room : (c : Configuration) (slot : Slot) (post : Post) (kind : StageKind) → 1 ≤ (shape_in c).members → ReadsIn c slot post
    → kind_of_stage (shape_in c) slot.stage ≡ Some kind
    → length (post_spelling post) ≤ greatest_post (shape_in c) kind
post-room c slot post kind some reads kind_is = by_kind kind kind_is
  where
    limit : length (post_spelling post) ≤ 16777216
    limit = (let most = reads.frame.most in omega (arith, spelled-long post, most))

    open_kind : (k : StageKind) → kind_of_stage (shape_in c) slot.stage ≡ Some k → (IsClosing k → ⊥)
        → length (post_spelling post) ≤ 4 + 76 + greatest_body (shape_in c) k + 9324
    open_kind k e not_closing =
        let said = said-there c slot post reads in
        let short = reads.short in
        let content = open-room (shape_in c) said.content k some said.grammar (ap (kind_of_stage (shape_in c)) said.stage ∙ e) not_closing
        in
        omega (arith, content, ap length said.spelled, short, spelled-long post)

    by_kind : (k : StageKind) → kind_of_stage (shape_in c) slot.stage ≡ Some k → length (post_spelling post) ≤ greatest_post (shape_in c) k
    by_kind (Final shuffle) e = limit
    by_kind Confirm e = limit
    by_kind Keys e = open_kind Keys e (λ never. never)
    by_kind (Submit shuffle) e = open_kind (Submit shuffle) e (λ never. never)
    by_kind (Shuffle shuffle k) e = open_kind (Shuffle shuffle k) e (λ never. never)
    by_kind (Go shuffle) e = open_kind (Go shuffle) e (λ never. never)
    by_kind Pad e = open_kind Pad e (λ never. never)
    by_kind Check e = open_kind Check e (λ never. never)

-- ---- all posts

-- the bytes of the greatest post of a slot
abbrev slot_room : Shape → Slot → ℕ
slot_room shape slot = option_map_or (greatest_post shape) (kind_of_stage shape slot.stage) 0

-- one bound a place bounds the sum
sum-bounded : (shape : Shape) (places : List (Option Post)) (slots : List Slot) → length places ≡ length slots
    → ((i : ℕ) (place : Option Post) (slot : Slot) → slice_get places i ≡ Some place → slice_get slots i ≡ Some slot
    → bytes_at place ≤ slot_room shape slot)
    → sum_by bytes_at places ≤ sum_by (slot_room shape) slots
sum-bounded shape [] [] same each = omega arith
sum-bounded shape [] (slot ∷ slots) same each = absurd (omega (arith, same))
sum-bounded shape (place ∷ places) [] same each = absurd (omega (arith, same))
sum-bounded shape (place ∷ places) (slot ∷ slots) same each =
    let here = each 0 place slot refl refl in
    let rest = sum-bounded shape places slots (omega (arith, same)) (λ i p s e f. each (suc i) p s e f) in
    omega (arith, here, rest, sum_by-cons bytes_at place places, sum_by-cons (slot_room shape) slot slots)

-- the slots of one stage together
stage-sum : (shape : Shape) (stage : ℕ) (kind : StageKind) (senders : List ℕ) → kind_of_stage shape stage ≡ Some kind
    → sum_by (slot_room shape) (map (λ sender. record { stage = stage; sender = sender }) senders) ≡ length senders * greatest_post shape
    kind
stage-sum shape stage kind [] e = (let none : 0 ≡ 0 * greatest_post shape kind = omega arith in none)
stage-sum shape stage kind (sender ∷ senders) e =
    let room : slot_room shape (record { stage = stage; sender = sender }) ≡ greatest_post shape kind = ap
    (λ (o : Option StageKind). option_map_or (greatest_post shape) o 0) e in
    let rest = stage-sum shape stage kind senders e in
    let cons = sum_by-cons (slot_room shape) (record { stage = stage; sender = sender })
    (map (λ sender. record { stage = stage; sender = sender }) senders) in
    cons ∙ ap (λ (n : ℕ). n + sum_by (slot_room shape) (map (λ sender. record { stage = stage; sender = sender }) senders)) room
    ∙ ap (λ (n : ℕ). greatest_post shape kind + n) rest ∙ one-more (length senders) (greatest_post shape kind)
  where
    one-more : (n w : ℕ) → w + n * w ≡ suc n * w
    one-more n w = omega arith

-- the slots of all stages from one on
slots-sum : (shape : Shape) (first : ℕ) (kinds : List StageKind)
    → ((i : ℕ) (kind : StageKind) → slice_get kinds i ≡ Some kind → kind_of_stage shape (first + i) ≡ Some kind)
    → sum_by (slot_room shape) (slots_from shape first kinds) ≡ sum_by (λ kind. senders_of shape kind * greatest_post shape kind) kinds
slots-sum shape first [] are = refl
slots-sum shape first (kind ∷ kinds) are =
    let here : kind_of_stage shape first ≡ Some kind = (let start : first ≡ first + 0 = omega arith in ap (kind_of_stage shape) start
    ∙ are 0 kind refl) in
    let rest = slots-sum shape (first + 1) kinds (λ i k e. (let next : first + 1 + i ≡ first + suc i = omega arith in ap
    (kind_of_stage shape) next ∙ are (suc i) k e)) in
    let now : List Slot = map (λ sender. record { stage = first; sender = sender }) (senders_in shape kind) in
    sum_by-append (slot_room shape) now (slots_from shape (first + 1) kinds)
    ∙ ap (λ (n : ℕ). n + sum_by (slot_room shape) (slots_from shape (first + 1) kinds))
    (stage-sum shape first kind (senders_in shape kind) here
    ∙ ap (λ (n : ℕ). n * greatest_post shape kind) (length-senders_in shape kind))
    ∙ ap (λ (n : ℕ). senders_of shape kind * greatest_post shape kind + n) rest
    ∙ sym (sum_by-cons (λ kind. senders_of shape kind * greatest_post shape kind) kind kinds)

places-room : (c : Configuration) (places : List (Option Post)) → 1 ≤ (shape_in c).members → length places ≡ slot_count (shape_in c)
    → ((slot : Slot) (post : Post) → kept_in (record { shape = shape_in c; posts = places }) slot ≡ Some post → ReadsIn c slot post)
    → sum_by bytes_at places ≤ greatest_log (shape_in c)
unfolding greatest_log
places-room c places some whole reads =
    let shape : Shape = shape_in c in
    let bounded = sum-bounded shape places (slots_of shape) (whole ∙ sym (length-slots_of shape)) each in
    let sum = slots-sum shape 0 (stages shape) (λ i kind e. (let start : 0 + i ≡ i = omega arith in ap (kind_of_stage (shape_in c)) start
    ∙ e)) in
    omega (arith, bounded, sum)
  where
    by_kind : (slot : Slot) (post : Post) → is_slot (shape_in c) slot.stage slot.sender ≡ true → ReadsIn c slot post → (kind : StageKind)
        → kind_of_stage (shape_in c) slot.stage ≡ Some kind
        → length (post_spelling post) ≤ slot_room (shape_in c) slot
    by_kind slot post speaks read kind e =
        subst (λ (n : ℕ). length (post_spelling post) ≤ n) (sym
        (ap (λ (o : Option StageKind). option_map_or (greatest_post (shape_in c)) o 0) e)) (post-room c slot post kind some read e)

    each : (i : ℕ) (place : Option Post) (slot : Slot) → slice_get places i ≡ Some place → slice_get (slots_of (shape_in c)) i ≡ Some slot
        → bytes_at place ≤ slot_room (shape_in c) slot
    each i None slot at there = omega arith
    each i (Some post) slot at there =
        let is = slot_at-is (shape_in c) i slot there in
        let kept : kept_in (record { shape = shape_in c; posts = places }) slot ≡ Some post =
        cond-true (is_slot (shape_in c) slot.stage slot.sender)
        (option_flatten (slice_get places (slot_number (shape_in c) slot.stage slot.sender))) None is.0
        ∙ ap (λ (k : ℕ). option_flatten (slice_get places k)) is.1 ∙ ap option_flatten at in
        elim (cases_Some (kind_of_stage (shape_in c) slot.stage)) [
          | inl none ↦ absurd (let silent = ap (λ (o : Option StageKind). speaks_in (shape_in c) o slot.sender) none in let never = sym is.0
              ∙ silent in cc)
          | inr kind ↦ by_kind slot post is.0 (reads slot post kept) kind.0 kind.1
        ]

-- ---- the law

-- what a log of the round keeps has room, if it reads in its slots
log-room : (c : Configuration) (log : Log) → CanEnter c → IsLog log → log.shape ≡ shape_in c
    → ((slot : Slot) (post : Post) → kept_in log slot ≡ Some post → ReadsIn c slot post) → KeepsAtMost c log
unfolding bytes_kept
log-room c log is form shape reads = record {
  each = λ slot post kind e kind_is. post-room c slot post kind (members-least c is) (reads slot post e) kind_is;
  all = places-room c log.posts (members-least c is) (form.places ∙ ap slot_count shape)
      (λ slot post e. reads slot post (ap (λ (s : Shape). kept_in (record { shape = s; posts = log.posts }) slot) shape ∙ e));
}

settled-shape : (c : Configuration) (others : Others) → (settled_log c others).shape ≡ shape_in c
unfolding settled_log
settled-shape c others = refl

pub plain_keeps_at_most : PlainKeepsAtMost
unfolding log_after
plain_keeps_at_most replies c delivered plain is are =
    let a : Actor = actor_after replies c delivered in
    let others : Others = first_posts c (delivered_counted c delivered) in
    let log : a.log ≡ settled_log c others = (plain_comes_to_result replies c delivered plain is are).log in
    let check : OthersCheck c others = λ slot post e. (first_posts_delivered c (delivered_counted c delivered) slot post
    (counted-bytes c delivered are) e).checks in
    log-room c a.log is (subst IsLog (sym log) (settled_is_log c others is check)) (ap (λ (l : Log). l.shape) log ∙ settled-shape c others)
    (λ slot post e. settled_posts_read c others is check slot post (sym (ap (λ (l : Log). kept_in l slot) log) ∙ e))
