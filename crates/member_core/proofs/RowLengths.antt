-- What a member says has room, whatever its conduct.
use Rattle.std.proofs.Common.{◌≡◌, ℕ, zero, suc, ◌+◌, ◌-◌, ◌*◌, ◌<◌, ◌≤◌, ◌^◌, true, List, [], ◌∷◌, ◌++◌, length, length-append, replicate, take, drop, Option, Some, None, ap, sym, ◌∙◌, refl, subst, arith, rules, inl, inr}
use Rattle.std.specs.Prelude.{◌==◌, IsSome, option_map, if◌then◌else◌}
use Rattle.std.specs.Int.{to_be_bytes, w32}
use Rattle.std.specs.List.{flat_map, slice_get}
use Rattle.std.proofs.lemmas.Bool.{cases_Bool, cases_eq, cases_lt, cond-false, cond-true, eq-eqb}
use Rattle.std.proofs.lemmas.List.{drop-map, length-map, length-replicate, take-map}
use Rattle.std.proofs.lemmas.Option.{slice_get-map, slice_get_within}
use Rattle.wire_core.specs.Bytes.{prefixed}
use Rattle.phase_message.specs.declared.content.Body.{Body}
use Rattle.phase_message.specs.declared.content.Body.TheVariants.{Reveal, Dispute, Confirm as ConfirmBody, Differ}
use Rattle.phase_message.specs.declared.content.Content.{Content}
use Rattle.phase_message.specs.declared.header.Header.{Header}
use Rattle.phase_message.specs.declared.post.Post.{Post}
use Rattle.phase_message.specs.declared.post.TheConstants.{POST_LIMIT}
use Rattle.phase_message.specs.declared.stage.Slot.{Slot}
use Rattle.phase_message.specs.declared.stage.StageKind.{StageKind}
use Rattle.phase_message.specs.declared.stage.StageKind.TheVariants.{Keys, Submit, Shuffle, Go, Final, Pad, Check, Confirm}
use Rattle.phase_message.specs.Grammar.{IsBody, OfGrammar, body_text, content_text}
use Rattle.phase_message.specs.Post.{post_spelling}
use Rattle.phase_message.specs.Shape.{Shape}
use Rattle.phase_message.specs.Slots.{slot_at, slot_number, slots_before, slots_of}
use Rattle.phase_message.specs.Stages.{is_slot, kind_of_stage, speaks}
use Rattle.phase_message.proofs.Counts.{slots_next}
use Rattle.phase_message.proofs.StageCounts.{before-confirm, before-end}
use Rattle.phase_message.proofs.SlotLists.{length-slots_of, slot_at-is, slot_number-within, slots_before-most, slots_before-past, slots_before-rises}
use Rattle.phase_message.proofs.Table.{confirm_is, final_b_is}
use Rattle.signed_post.specs.declared.post.TheConstants.{LONGEST_SIGNATURE}
use Rattle.stage_log.specs.Log.{before, contents_of}
use Rattle.stage_log.specs.Table.{IsLog, Log, kept_in}
use Rattle.go_nogo.specs.Rows.{confirm_row, final_row, posts_at, written}
use Rattle.go_nogo.specs.Votes.{votes_agree}
use Rattle.round_spec.specs.Slots.{final_stage}
use Rattle.round_spec.proofs.GoLists.{there}
use Rattle.round_spec.proofs.OwnLengths.{IsClosingKind, content-long, open-length, open-most, take-less}
use Rattle.honest_say.specs.Pasts.{posts_before}
use Rattle.honest_say.proofs.PastLemmas.{complete-posts, kept-at, past-length}
use Rattle.honest_say.proofs.StageLemmas.{final-slot, member-there}
use Rattle.member_core.specs.Shorts.{IsShortLog, most_in, own_limit}
use Rattle.member_core.proofs.StageKinds.{IsPlaced, kind-place}

-- ---- contents that embed nothing

-- a stage of a kind that closes nothing
abbrev pub IsPlain : StageKind → Type 0
IsPlain (Final shuffle) = ⊥
IsPlain Confirm = ⊥
IsPlain _ = Unit {0}

plain-open : (kind : StageKind) → IsPlain kind → IsClosingKind kind → ⊥
plain-open (Final shuffle) plain closing = plain
plain-open Confirm plain closing = plain
plain-open Keys plain closing = closing
plain-open (Submit shuffle) plain closing = closing
plain-open (Shuffle shuffle k) plain closing = closing
plain-open (Go shuffle) plain closing = closing
plain-open Pad plain closing = closing
plain-open Check plain closing = closing

open-long : (shape : Shape) (x : Content) (kind : StageKind) → 1 ≤ shape.members → shape.members ≤ 8 → OfGrammar shape x
    → kind_of_stage shape x.header.stage ≡ Some kind → IsPlain kind
    → length (content_text x) ≤ POST_LIMIT
open-long shape x kind some few is at plain = omega (
  arith,
  open-length shape x kind some is at (plain-open kind plain),
  open-most shape kind few (plain-open kind plain),
)

-- a body of such a stage leaves room for its content
pub plain-short : (shape : Shape) (stage sender : ℕ) (kind : StageKind) (body : Body) → 1 ≤ shape.members → shape.members ≤ 8
    → is_slot shape stage sender ≡ true
    → kind_of_stage shape stage ≡ Some kind → IsPlain kind → IsBody shape stage body → 76 + length (body_text body) ≤ POST_LIMIT
plain-short shape stage sender kind body some few speaks at plain is =
    let nothing : ℕ = 0 in
    let header : Header = record {
      version = shape.version;
      group = replicate 32 nothing;
      round = 0;
      stage = stage;
      sender = sender;
      view =
          replicate 32 nothing;
    } in
    let long : length (replicate 32 nothing) ≡ 32 = length-replicate 32 nothing in
    let x : Content = record { header = header; body = body } in
    let grammar : OfGrammar shape x = (
      record {
        version_is = refl;
        group_long = long;
        round_small = omega arith;
        slot_is = speaks;
        view_long
            = long;
      },
      is,
    ) in
    omega (arith, content-long shape x grammar, open-long shape x kind some few grammar at plain)

-- ---- a list of which a few places are long

-- so much at one place, and nothing at any other
abbrev at_place : ℕ → ℕ → ℕ → ℕ
at_place place size k = if k == place then size else 0

-- the sum of a number for each of n places from a place on
sum_to : (ℕ → ℕ) → ℕ → ℕ → ℕ
sum_to f a zero = 0
sum_to f a (suc n) = f a + sum_to f (a + 1) n

here : (place size k : ℕ) → k ≡ place → at_place place size k ≡ size
here place size k e = cond-true (k == place) size 0 (eq-eqb k place e)

elsewhere : (place size k : ℕ) → (k ≡ place → ⊥) → at_place place size k ≡ 0
elsewhere place size k never = search rules

sum-before : (place size a n : ℕ) → place < a → sum_to (at_place place size) a n ≡ 0
unfolding sum_to
sum-before place size a zero lt = refl
sum-before place size a (suc n) lt = omega (
  arith,
  elsewhere place size a (λ (e : a ≡ place). omega (arith, e, lt)),
  sum-before place size
      (a + 1) n (omega arith),
)

sum-behind : (place size a n : ℕ) → a + n ≤ place → sum_to (at_place place size) a n ≡ 0
unfolding sum_to
sum-behind place size a zero le = refl
sum-behind place size a (suc n) le = omega (
  arith,
  elsewhere place size a (λ (e : a ≡ place). omega (arith, e, le)),
  sum-behind place size
      (a + 1) n (omega (arith, le)),
)

sum-most : (place size a n : ℕ) → sum_to (at_place place size) a n ≤ size
unfolding sum_to
sum-most place size a zero = omega arith
sum-most place size a (suc n) = elim (cases_eq a place) [
  | inl is ↦ omega (arith, here place size a is, sum-before place size (a + 1) n (omega arith))
  | inr other ↦ omega (arith, elsewhere place size a other, sum-most place size (a + 1) n)
]

-- of a number for each place, and more at two places
sum-parts : (w p q x y a n : ℕ) → sum_to (λ k. w + at_place p x k + at_place q y k) a n ≡ n * w + sum_to (at_place p x) a n + sum_to
    (at_place q y) a n
unfolding sum_to
sum-parts w p q x y a zero = omega arith
sum-parts w p q x y a (suc n) = (let e : suc n * w ≡ w + n * w = grind arith in omega (arith, e, sum-parts w p q x y (a + 1) n))

-- so long are items with their lengths, of which each has at most so many bytes with its own
items-most : (f : ℕ → ℕ) (a : ℕ) (items : List (List ℕ)) → ((k : ℕ) (item : List ℕ) → slice_get items k ≡ Some item
    → 4 + length item ≤ f (a + k))
    → length (flat_map prefixed items) ≤ sum_to f a (length items)
unfolding sum_to
items-most f a [] each = omega arith
items-most f a (item ∷ items) each =
    let first : 4 + length item ≤ f (a + 0) = each 0 item refl in
    let same : a + 0 ≡ a = omega arith in
    let rest = items-most f (a + 1) items (λ k x at. (let e : a + suc k ≡ a + 1 + k = omega arith in subst (λ (j : ℕ). 4 + length x ≤ f j) e
    (each (suc k) x at))) in
    omega (
      arith,
      first,
      ap f same,
      length-append (prefixed item) (flat_map prefixed items),
      length-append (to_be_bytes w32 (length item))
          item,
      rest,
    )

-- ---- the posts before a stage

-- what stands at a place of them is what the log keeps in the slot of that place
record StandsAt (log : Log) (stage number : ℕ) (post : Post) : Type 0 where
  pub slot : Slot
  pub at : slot_at log.shape number ≡ Some slot
  pub earlier : slot.stage < stage
  pub kept : kept_in log slot ≡ Some post

stands-at : (log : Log) (stage number : ℕ) (post : Post) → IsLog log → IsSome (before log stage)
    → slice_get (posts_before log stage) number ≡ Some post → StandsAt log stage number post
stands-at log stage number post is complete at =
    let past : List Post = posts_before log stage in
    let whole = complete-posts log stage complete in
    let within = slice_get_within past number post at in
    let long = past-length log stage past is whole in
    let slot = there (slots_of log.shape) number (omega (arith, within, long, slots_before-most log.shape stage, length-slots_of log.shape))
    in
    let is_there = slot_at-is log.shape number slot.0 slot.1 in
    let inside = slot_number-within log.shape slot.0.stage slot.0.sender is_there.0 in
    let number_is = is_there.1 in
    let earlier : slot.0.stage < stage = elim (cases_lt slot.0.stage stage) [
      | inl lt ↦ lt
      | inr le ↦ absurd (omega (arith, inside, number_is, within, long, slots_before-rises log.shape stage slot.0.stage le))
    ] in
    record {
      slot = slot.0;
      at = slot.1;
      earlier = earlier;
      kept = kept-at log stage slot.0 past whole is_there.0 earlier ∙ ap (slice_get past) number_is ∙ at;
    }

-- where the own closing contents stand that are before the end of shuffle B
abbrev first_end : Shape → ℕ → ℕ
first_end shape number = slot_number shape (final_stage shape 1) number

abbrev checks_end : Shape → ℕ → ℕ
checks_end shape number = slot_number shape (shape.members + 6) number

-- how many bytes the post of a place has at most, with its length in four
abbrev room_at : Shape → ℕ → ℕ → ℕ
room_at shape number k =
    16786548 + at_place (first_end shape number) 536870912 k + at_place (checks_end shape number) 1476395008 k

limit-at : (log : Log) (stage k number : ℕ) (post : Post) → stage ≤ final_stage log.shape 2 → IsShortLog number log
    → StandsAt log stage k post
    → 4 + length (post_spelling post) ≤ room_at log.shape number k
limit-at log stage k number post most short stands =
    let slot : Slot = stands.slot in
    let few : length (post_spelling post) ≤ most_in log.shape number slot.stage slot.sender = short slot.stage slot.sender post stands.kept
    in
    let number_is : slot_number log.shape slot.stage slot.sender ≡ k = (slot_at-is log.shape k slot stands.at).1 in
    elim (cases_eq slot.sender number) [
      | inl own ↦
          let limit : most_in log.shape number slot.stage slot.sender ≡ own_limit (kind_of_stage log.shape slot.stage) +
          (4 + LONGEST_SIGNATURE)
          = cond-true (slot.sender == number) (own_limit (kind_of_stage log.shape slot.stage) + (4 + LONGEST_SIGNATURE)) POST_LIMIT
          (eq-eqb slot.sender number own) in
          let same : slot_number log.shape slot.stage number ≡ k = ap (slot_number log.shape slot.stage) (sym own) ∙ number_is in
          by_kind (kind_of_stage log.shape slot.stage) slot.stage (length (post_spelling post)) refl (omega (arith, few, limit))
          stands.earlier same
      | inr other ↦
          let limit : most_in log.shape number slot.stage slot.sender ≡ POST_LIMIT = others
          (own_limit (kind_of_stage log.shape slot.stage) + (4 + LONGEST_SIGNATURE)) slot.sender other in
          omega (arith, few, limit)
    ]
  where
    others : (size sender : ℕ) → (sender ≡ number → ⊥) → (if sender == number then size else POST_LIMIT) ≡ POST_LIMIT
    others size sender never = search rules

    by_kind : (o : Option StageKind) (at long : ℕ) → kind_of_stage log.shape at ≡ o → long ≤ own_limit o + (4 + LONGEST_SIGNATURE)
        → at < stage → slot_number log.shape at number ≡ k
        → 4 + long ≤ room_at log.shape number k
    by_kind None at long e less lt same = omega (arith, less)
    by_kind (Some Keys) at long e less lt same = omega (arith, less)
    by_kind (Some (Submit shuffle)) at long e less lt same = omega (arith, less)
    by_kind (Some (Shuffle shuffle j)) at long e less lt same = omega (arith, less)
    by_kind (Some (Go shuffle)) at long e less lt same = omega (arith, less)
    by_kind (Some Pad) at long e less lt same = omega (arith, less)
    by_kind (Some Check) at long e less lt same = omega (arith, less)
    by_kind (Some Confirm) at long e less lt same =
        let placed : IsPlaced log.shape at Confirm = kind-place log.shape at Confirm e in
        let number_is : k ≡ checks_end log.shape number = sym same ∙ ap (λ (s : ℕ). slot_number log.shape s number) placed.at in
        omega (arith, less, here (checks_end log.shape number) 1476395008 k number_is)
    by_kind (Some (Final shuffle)) at long e less lt same =
        let placed : IsPlaced log.shape at (Final shuffle) = kind-place log.shape at (Final shuffle) e in
        elim (cases_eq shuffle 1) [
          | inl is ↦
              let limit : own_limit (Some (Final shuffle)) ≡ 33 * POST_LIMIT = cond-true (shuffle == 1) (33 * POST_LIMIT) (209 * POST_LIMIT)
              (eq-eqb shuffle 1 is) in
              let stage_is : at ≡ final_stage log.shape 1 = placed.at ∙ ap (final_stage log.shape) is in
              let number_is : k ≡ first_end log.shape number = sym same ∙ ap (λ (s : ℕ). slot_number log.shape s number) stage_is in
              omega (arith, less, limit, here (first_end log.shape number) 536870912 k number_is)
          | inr other ↦
              let within = placed.kind_in in
              let is : shuffle ≡ 2 = omega (arith, within.0, within.1) in
              let stage_is : at ≡ final_stage log.shape 2 = placed.at ∙ ap (final_stage log.shape) is in
              absurd (omega (arith, stage_is, lt, most))
        ]

-- the same as a sum
past-long : (log : Log) (stage number : ℕ) → IsLog log → IsSome (before log stage) → stage ≤ final_stage log.shape 2 → IsShortLog number log
    → length (flat_map prefixed (written (posts_before log stage))) ≤ sum_to (room_at log.shape number) 0 (slots_before log.shape stage)
past-long log stage number is complete most short =
    let past : List Post = posts_before log stage in
    let count : length (written past) ≡ slots_before log.shape stage = length-map past post_spelling
    ∙ past-length log stage past is (complete-posts log stage complete) in
    subst (λ (n : ℕ). length (flat_map prefixed (written past)) ≤ sum_to (room_at log.shape number) 0 n) count
    (items-most (room_at log.shape number) 0 (written past) (λ k item at. (
    let within = slice_get_within (written past) k item at in
    let post = there past k (omega (arith, within, length-map past post_spelling)) in
    let same : item ≡ post_spelling post.0 = item-same item (post_spelling post.0)
    (sym at ∙ slice_get-map post_spelling past k ∙ ap (option_map post_spelling) post.1) in
    let place : k ≡ 0 + k = omega arith in
    let few = limit-at log stage k number post.0 most short (stands-at log stage k post.0 is complete post.1) in
    subst (λ (j : ℕ). 4 + length item ≤ room_at log.shape number j) place (omega (arith, few, ap length same)))))
  where
    item-same : (a b : List ℕ) → (let told : List ℕ → Option (List ℕ) = λ z. Some z in told a ≡ told b) → a ≡ b
    item-same a b e = cc

-- posts before a stage, each with its length in four bytes
pub record AreShort (shape : Shape) (stage : ℕ) (posts : List Post) : Type 0 where
  pub whole : length posts ≡ slots_before shape stage
  pub short : (k : ℕ) (post : Post) → slice_get posts k ≡ Some post → length (post_spelling post) < 2 ^ 32

pub posts-short : (log : Log) (stage number : ℕ) → IsLog log → IsSome (before log stage) → stage ≤ final_stage log.shape 2
    → IsShortLog number log → AreShort log.shape stage (posts_before log stage)
posts-short log stage number is complete most short = record {
  whole = past-length log stage (posts_before log stage) is (complete-posts log stage complete);
  short = λ k post at. (
      let few = limit-at log stage k number post most short (stands-at log stage k post is complete at) in
      omega (arith, few, one-most (first_end log.shape number) 536870912 k, one-most (checks_end log.shape number) 1476395008 k));
}
  where
    one-most : (place size k : ℕ) → at_place place size k ≤ size
    one-most place size k = elim (cases_eq k place) [
      | inl is ↦ omega (arith, here place size k is)
      | inr other ↦ omega (arith, elsewhere place size k other)
    ]

-- ---- how many posts stand before a closing stage

before-second : (shape : Shape) → slots_before shape (final_stage shape 2) ≡ 11 * shape.members
before-second shape =
    let at : final_stage shape 2 ≡ shape.members + shape.members + 9 = omega arith in
    let next = slots_next shape (final_stage shape 2) (Final 2) (final_b_is shape (final_stage shape 2) at) in
    omega (arith, next, slots_before-past shape (final_stage shape 2 + 1) (omega arith))

-- ---- closing contents

-- a log before a closing stage, of a group of at most eight, in which the member has this number
pub record IsClosedBy (log : Log) (stage number : ℕ) : Type 0 where
  pub form : IsLog log
  pub complete : IsSome (before log stage)
  pub short : IsShortLog number log
  pub few : log.shape.members ≤ 8
  pub first : 1 ≤ number
  pub last : number ≤ log.shape.members

sum-first : (w p q x y n : ℕ) → n ≤ p → n ≤ q → sum_to (λ k. w + at_place p x k + at_place q y k) 0 n ≤ n * w
sum-first w p q x y n before_p before_q = omega (
  arith,
  sum-parts w p q x y 0 n,
  sum-behind p x 0 n (omega (arith, before_p)),
  sum-behind q
      y 0 n (omega (arith, before_q)),
)

sum-checks : (w p q x y n : ℕ) → n ≤ q → sum_to (λ k. w + at_place p x k + at_place q y k) 0 n ≤ n * w + x
sum-checks w p q x y n before_q = omega (arith, sum-parts w p q x y 0 n, sum-most p x 0 n, sum-behind q y 0 n (omega (arith, before_q)))

sum-second : (w p q x y n : ℕ) → sum_to (λ k. w + at_place p x k + at_place q y k) 0 n ≤ n * w + x + y
sum-second w p q x y n = omega (arith, sum-parts w p q x y 0 n, sum-most p x 0 n, sum-most q y 0 n)

first-behind : (shape : Shape) (number : ℕ) → 1 ≤ number → number ≤ shape.members
    → slots_before shape (final_stage shape 1) ≤ first_end shape number
first-behind shape number first last = (slot_number-within shape (final_stage shape 1) number
    (final-slot shape 1 number (omega arith) (omega arith) first last)).0

checks-behind : (shape : Shape) (number : ℕ) → 1 ≤ number → number ≤ shape.members
    → slots_before shape (shape.members + 6) ≤ checks_end shape number
checks-behind shape number first last =
    (slot_number-within shape (shape.members + 6) number (ap (λ (o : Option StageKind). speaks shape o number)
    (confirm_is shape (shape.members + 6) refl) ∙ member-there shape.members number first last)).0

-- so long are all posts before it, as they are embedded
posts-first : (log : Log) (stage number : ℕ) → IsClosedBy log stage number → stage ≡ final_stage log.shape 1
    → length (flat_map prefixed (written (posts_before log stage))) + 140 ≤ 33 * POST_LIMIT
posts-first log stage number is at =
    let n : ℕ = slots_before log.shape stage in
    let few = is.few in
    let ends : final_stage log.shape 1 ≡ log.shape.members + 3 = omega arith in
    let count : n ≡ 4 * log.shape.members = ap (slots_before log.shape) at ∙ ap (slots_before log.shape) ends ∙ before-end log.shape in
    let same = ap (slots_before log.shape) at in
    let own = first-behind log.shape number is.first is.last in
    let later = checks-behind log.shape number is.first is.last in
    let rises = slots_before-rises log.shape (final_stage log.shape 1) (log.shape.members + 6) (omega arith) in
    let whole = sum-first 16786548 (first_end log.shape number) (checks_end log.shape number) 536870912 1476395008 n
    (omega (arith, same, own)) (omega (arith, same, rises, later)) in
    omega (arith, whole, count, few, past-long log stage number is.form is.complete (omega (arith, at)) is.short)

posts-checks : (log : Log) (stage number : ℕ) → IsClosedBy log stage number → stage ≡ log.shape.members + 6
    → length (flat_map prefixed (written (posts_before log stage))) + 140 ≤ 89 * POST_LIMIT
posts-checks log stage number is at =
    let n : ℕ = slots_before log.shape stage in
    let few = is.few in
    let count : n ≡ 7 * log.shape.members = ap (slots_before log.shape) at ∙ before-confirm log.shape in
    let same = ap (slots_before log.shape) at in
    let later = checks-behind log.shape number is.first is.last in
    let whole = sum-checks 16786548 (first_end log.shape number) (checks_end log.shape number) 536870912 1476395008 n
    (omega (arith, same, later)) in
    omega (arith, whole, count, few, past-long log stage number is.form is.complete (omega (arith, at)) is.short)

posts-second : (log : Log) (stage number : ℕ) → IsClosedBy log stage number → stage ≡ final_stage log.shape 2
    → length (flat_map prefixed (written (posts_before log stage))) + 140 ≤ 209 * POST_LIMIT
posts-second log stage number is at =
    let n : ℕ = slots_before log.shape stage in
    let few = is.few in
    let count : n ≡ 11 * log.shape.members = ap (slots_before log.shape) at ∙ before-second log.shape in
    let whole = sum-second 16786548 (first_end log.shape number) (checks_end log.shape number) 536870912 1476395008 n in
    omega (arith, whole, count, few, past-long log stage number is.form is.complete (omega (arith, at)) is.short)

drop-less : (n : ℕ) (items : List (List ℕ)) → length (flat_map prefixed (drop n items)) ≤ length (flat_map prefixed items)
drop-less zero items = omega arith
drop-less (suc n) [] = omega arith
drop-less (suc n) (item ∷ items) = omega (arith, length-append (prefixed item) (flat_map prefixed items), drop-less n items)

part-less : (shape : Shape) (posts : List Post) (stage : ℕ) → length (flat_map prefixed (written (posts_at shape posts stage))) ≤ length
    (flat_map prefixed (written posts))
part-less shape posts stage =
    let a : ℕ = slots_before shape stage in
    let b : ℕ = slots_before shape (stage + 1) in
    let same : written (posts_at shape posts stage) ≡ take (b - a) (drop a (written posts)) = sym
    (ap (take (b - a)) (drop-map post_spelling a posts) ∙ take-map post_spelling (b - a) (drop a posts)) in
    omega (
      arith,
      ap (λ (items : List (List ℕ)). length (flat_map prefixed items)) same,
      take-less (b - a) (drop a (written posts)),
      drop-less a (written posts),
    )

-- what a body that embeds posts has besides
final-extra : (shape : Shape) (past : List Post) (stage : ℕ) (inner outer opening : List ℕ) → length inner ≡ 32 → length outer ≡ 32
    → length opening ≡ 32
    → length (body_text (final_row shape past stage inner outer opening)) ≤ length (flat_map prefixed (written past)) + 64
unfolding final_row
final-extra shape past stage inner outer opening i o p = elim (cases_Bool (votes_agree shape (contents_of past) stage)) [
  | inl agree ↦
      let row = cond-true (votes_agree shape (contents_of past) stage) (Reveal (written (posts_at shape past (stage - 1))) inner)
      (Dispute (written past) outer opening) agree in
      omega (
        arith,
        ap (λ (b : Body). length (body_text b)) row,
        length-append
            (flat_map prefixed (written (posts_at shape past (stage - 1)))) inner,
        i,
        part-less shape past (stage - 1),
      )
  | inr differ ↦
      let row = cond-false (votes_agree shape (contents_of past) stage) (Reveal (written (posts_at shape past (stage - 1))) inner)
      (Dispute (written past) outer opening) differ in
      omega (
        arith,
        ap (λ (b : Body). length (body_text b)) row,
        length-append (flat_map prefixed (written past)) (outer ++ opening),
        length-append outer opening,
        o,
        p,
      )
]

confirm-extra : (shape : Shape) (past : List Post) (stage : ℕ) → length (body_text (confirm_row shape past stage)) ≤ length
    (flat_map prefixed (written past)) + 64
unfolding confirm_row
confirm-extra shape past stage = elim (cases_Bool (votes_agree shape (contents_of past) stage)) [
  | inl agree ↦
      let row = cond-true (votes_agree shape (contents_of past) stage) (ConfirmBody (written (posts_at shape past (stage - 1))))
      (Differ (written past)) agree in
      omega (arith, ap (λ (b : Body). length (body_text b)) row, part-less shape past (stage - 1))
  | inr differ ↦
      let row = cond-false (votes_agree shape (contents_of past) stage) (ConfirmBody (written (posts_at shape past (stage - 1))))
      (Differ (written past)) differ in
      omega (arith, ap (λ (b : Body). length (body_text b)) row)
]

pub final-short : (log : Log) (stage shuffle number : ℕ) (inner outer opening : List ℕ) → IsClosedBy log stage number
    → IsPlaced log.shape stage (Final shuffle)
    → length inner ≡ 32 → length outer ≡ 32 → length opening ≡ 32
    → 76 + length (body_text (final_row log.shape (posts_before log stage) stage inner outer opening)) ≤ own_limit (Some (Final shuffle))
final-short log stage shuffle number inner outer opening is placed i o p =
    let extra = final-extra log.shape (posts_before log stage) stage inner outer opening i o p in
    elim (cases_eq shuffle 1) [
      | inl first ↦
          let limit : own_limit (Some (Final shuffle)) ≡ 33 * POST_LIMIT = cond-true (shuffle == 1) (33 * POST_LIMIT) (209 * POST_LIMIT)
          (eq-eqb shuffle 1 first) in
          omega (arith, extra, limit, posts-first log stage number is (placed.at ∙ ap (final_stage log.shape) first))
      | inr other ↦
          let within = placed.kind_in in
          let second : shuffle ≡ 2 = omega (arith, within.0, within.1) in
          let limit : own_limit (Some (Final shuffle)) ≡ 209 * POST_LIMIT = cond-false (shuffle == 1) (33 * POST_LIMIT) (209 * POST_LIMIT)
          (ap (λ (s : ℕ). s == 1) second) in
          omega (arith, extra, limit, posts-second log stage number is (placed.at ∙ ap (final_stage log.shape) second))
    ]

pub confirm-short : (log : Log) (stage number : ℕ) → IsClosedBy log stage number → stage ≡ log.shape.members + 6
    → 76 + length (body_text (confirm_row log.shape (posts_before log stage) stage)) ≤ own_limit (Some Confirm)
confirm-short log stage number is at = omega (
  arith,
  confirm-extra log.shape (posts_before log stage) stage,
  posts-checks log stage number
      is at,
)
