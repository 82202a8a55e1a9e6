-- What an honest run kept was said by its member or delivered to it, and it embeds nothing else.
use Rattle.std.proofs.Common.{◌≡◌, ◌≢◌, ◌⊎◌, ℕ, true, false, List, Option, Some, None, length, take, map, ap, sym, ◌∙◌, refl, subst, arith, inl, inr}
use Rattle.std.specs.Prelude.{All, ◌==◌, Contains, IsSome, Ok, option_and_then, option_map, if◌then◌else◌}
use Rattle.std.specs.List.{range_with_len, slice_get}
use Rattle.std.specs.Option.{option_flatten}
use Rattle.std.proofs.lemmas.Bool.{cases_Bool, cond-false, cond-true, eqb-true, false_from_ne_true}
use Rattle.std.proofs.lemmas.List.{length-map, length-take-le}
use Rattle.std.proofs.lemmas.Option.{none-some, slice_get-map, slice_get_within}
use Rattle.wire_core.specs.Bytes.{IsBytes}
use Rattle.phase_message.specs.declared.content.Content.{Content}
use Rattle.phase_message.specs.declared.post.Post.{Post}
use Rattle.phase_message.specs.declared.stage.Slot.{Slot}
use Rattle.phase_message.specs.Offence.{content_read}
use Rattle.phase_message.specs.Post.{post_spelling}
use Rattle.phase_message.specs.Shape.{Shape}
use Rattle.phase_message.specs.Slots.{slot_at, slot_number, slots_before, slots_of, stage_count}
use Rattle.phase_message.specs.declared.header.Header.{Header}
use Rattle.phase_message.specs.Stages.{is_slot, kind_of_stage, vote_of}
use Rattle.phase_message.proofs.SlotBounds.{slot-bounds}
use Rattle.phase_message.proofs.SlotLists.{length-slots_of, slot_at-is, slots_before-most}
use Rattle.phase_message.proofs.Whole.{content-is_read}
use Rattle.stage_log.specs.Log.{before, contents_of}
use Rattle.stage_log.specs.Table.{IsLog, Log, kept_in}
use Rattle.stage_log.proofs.Pasts.{all_some-is}
use Rattle.go_nogo.specs.Closing.{IsClosing, posts_embedded}
use Rattle.signed_post.specs.Frame.{frame_of}
use Rattle.conviction.proofs.OwnRows.{in-range}
use Rattle.round_spec.specs.Course.{Others, course_of, own_post_at, settled_log}
use Rattle.round_spec.specs.OwnRows.{CanSay, IsPastAt, content_due}
use Rattle.round_spec.specs.Result.{delivered_counted, counted_part, first_posts, least_ending, log_after}
use Rattle.round_spec.specs.Runs.{HonestRun, IsConfiguration, Run, own_slot, posts_said, run_after}
use Rattle.round_spec.specs.Say.{Configuration, own_content, own_descriptor, own_post, shape_in}
use Rattle.round_spec.specs.Verdict.{Verdict}
use Rattle.round_spec.proofs.Contained.{contains-filter_map, contains-filter_map-from}
use Rattle.round_spec.proofs.Given.{first_posts_delivered}
use Rattle.round_spec.proofs.GoLists.{there as slot-there}
use Rattle.round_spec.proofs.Honesty.{run_after_is_honest}
use Rattle.round_spec.proofs.OwnGrammar.{own_row_of_grammar}
use Rattle.round_spec.proofs.OwnLengths.{take-get}
use Rattle.round_spec.proofs.PastForms.{checks-read}
use Rattle.round_spec.proofs.Settling.{settled-kept}
use Rattle.round_spec.specs.Course.{post_settled}
use Rattle.member_spec.proofs.PlainLaws.{counted-bytes}
use Rattle.group_laws.proofs.Actors.{contains-place}
use Rattle.group_laws.proofs.Rows.{contains-take, row-embeds, row-header}
use Rattle.group_laws.proofs.Speeches.{content-same}

-- ---- a kept post

-- a kept post is in a slot of the round
kept-speaks : (log : Log) (slot : Slot) (post : Post) → kept_in log slot ≡ Some post → is_slot log.shape slot.stage slot.sender ≡ true
kept-speaks log slot post e = elim (cases_Bool (is_slot log.shape slot.stage slot.sender)) [
  | inl speaks ↦ speaks
  | inr silent ↦ absurd (none-some post (sym (cond-false (is_slot log.shape slot.stage slot.sender)
      (option_flatten (slice_get log.posts (slot_number log.shape slot.stage slot.sender))) None silent) ∙ e))
]

-- an own one was said
pub said-own : (run : Run) (stage : ℕ) (post : Post) → kept_in run.log (own_slot run stage) ≡ Some post → Contains (posts_said run) post
said-own run stage post e =
    let speaks = kept-speaks run.log (own_slot run stage) post e in
    let bounds = slot-bounds run.log.shape stage run.config.number speaks in
    contains-filter_map-from (λ (s : ℕ). kept_in run.log (own_slot run s)) (range_with_len 0 (stage_count run.log.shape)) stage post
    (in-range 0 (stage_count run.log.shape) stage (omega arith) (let lt = bounds.0 in omega (arith, lt))) e

counted-listed : (delivered : List (List ℕ)) (o : Option (ℕ × Verdict)) (bytes : List ℕ) → Contains (counted_part delivered o) bytes
    → Contains delivered bytes
counted-listed delivered None bytes there = there
counted-listed delivered (Some ending) bytes there = contains-take ending.0 delivered bytes there

log-shape : (c : Configuration) (delivered : List (List ℕ)) → (log_after c delivered).shape ≡ shape_in c
unfolding log_after settled_log
log-shape c delivered = refl

-- what it kept it said, or it was delivered
kept-cases : (c : Configuration) (delivered : List (List ℕ)) (slot : Slot) (post : Post) → All IsBytes delivered
    → kept_in (log_after c delivered) slot ≡ Some post
    → Contains (posts_said (run_after c delivered)) post
    ⊎ ((bytes : List ℕ) × Contains delivered bytes × (frame_of bytes ≡ Ok post))
unfolding log_after post_settled
kept-cases c delivered slot post are e =
    let part : List (List ℕ) = delivered_counted c delivered in
    let others : Others = first_posts c part in
    let speaks : is_slot (shape_in c) slot.stage slot.sender ≡ true
    = sym (ap (λ (s : Shape). is_slot s slot.stage slot.sender) (log-shape c delivered)) ∙ kept-speaks (log_after c delivered) slot post e in
    let settled : (if slot.sender == c.number then own_post_at c (course_of c others) slot.stage else others slot) ≡ Some post
    = sym (settled-kept c others slot speaks) ∙ e in
    elim (cases_Bool (slot.sender == c.number)) [
      | inl own ↦
          let number = eqb-true slot.sender c.number own in
          let at : kept_in (log_after c delivered) (record { stage = slot.stage; sender = c.number }) ≡ Some post
          = ap (λ (s : ℕ). kept_in (log_after c delivered) (record { stage = slot.stage; sender = s })) (sym number) ∙ e in
          inl (said-own (run_after c delivered) slot.stage post at)
      | inr other ↦
          let given = first_posts_delivered c part slot post (counted-bytes c delivered are)
          (sym (cond-false (slot.sender == c.number) (own_post_at c (course_of c others) slot.stage) (others slot) other) ∙ settled) in
          inr (given.bytes, counted-listed delivered (least_ending c delivered) given.bytes given.listed, given.spelled)
    ]

-- what it kept of another was delivered
pub kept-delivered : (c : Configuration) (delivered : List (List ℕ)) (slot : Slot) (post : Post) → All IsBytes delivered
    → slot.sender ≢ c.number → kept_in (log_after c delivered) slot ≡ Some post
    → (bytes : List ℕ) × Contains delivered bytes × (frame_of bytes ≡ Ok post)
unfolding log_after post_settled
kept-delivered c delivered slot post are apart e =
    let part : List (List ℕ) = delivered_counted c delivered in
    let others : Others = first_posts c part in
    let speaks : is_slot (shape_in c) slot.stage slot.sender ≡ true
    = sym (ap (λ (s : Shape). is_slot s slot.stage slot.sender) (log-shape c delivered)) ∙ kept-speaks (log_after c delivered) slot post e in
    let settled : (if slot.sender == c.number then own_post_at c (course_of c others) slot.stage else others slot) ≡ Some post
    = sym (settled-kept c others slot speaks) ∙ e in
    let other : (slot.sender == c.number) ≡ false
    = false_from_ne_true (slot.sender == c.number) (λ same. apart (eqb-true slot.sender c.number same)) in
    let given = first_posts_delivered c part slot post (counted-bytes c delivered are)
    (sym (cond-false (slot.sender == c.number) (own_post_at c (course_of c others) slot.stage) (others slot) other) ∙ settled) in
    (given.bytes, counted-listed delivered (least_ending c delivered) given.bytes given.listed, given.spelled)

-- ---- a past

-- what stands at a number of the posts before a stage is kept in the slot of the number
pub past-kept : (log : Log) (stage number : ℕ) (past : List Post) (slot : Slot) (post : Post) → before log stage ≡ Some past
    → slot_at log.shape number ≡ Some slot → slice_get past number ≡ Some post → kept_in log slot ≡ Some post
past-kept log stage number past slot post e at stands =
    let n : ℕ = slots_before log.shape stage in
    let some : Post → Option Post = λ p. Some p in
    let all : take n log.posts ≡ map some past = all_some-is (take n log.posts) past e in
    let mapped : slice_get (take n log.posts) number ≡ Some (Some post)
    = ap (λ (l : List (Option Post)). slice_get l number) all ∙ slice_get-map some past number ∙ ap (option_map some) stands in
    let entry = (take-get log.posts n number (Some post) mapped).1 in
    let its = slot_at-is log.shape number slot at in
    cond-true (is_slot log.shape slot.stage slot.sender) (option_flatten (slice_get log.posts (slot_number log.shape slot.stage slot.sender)))
    None its.0
    ∙ ap (λ (k : ℕ). option_flatten (slice_get log.posts k)) its.1 ∙ ap option_flatten entry

pub past-long : (log : Log) (stage : ℕ) (past : List Post) → IsLog log → before log stage ≡ Some past → length past ≡ slots_before log.shape stage
past-long log stage past form e =
    let n : ℕ = slots_before log.shape stage in
    let some : Post → Option Post = λ p. Some p in
    let all : take n log.posts ≡ map some past = all_some-is (take n log.posts) past e in
    let places = form.places in
    sym (length-map past some) ∙ ap (λ (l : List (Option Post)). length l) (sym all)
    ∙ length-take-le n log.posts (omega (arith, places, slots_before-most log.shape stage))

-- each post of a past is kept in a slot
kept-past : (log : Log) (stage : ℕ) (past : List Post) (post : Post) → IsLog log → before log stage ≡ Some past → Contains past post
    → (slot : Slot) × (kept_in log slot ≡ Some post)
kept-past log stage past post form e there =
    let at = contains-place past post there in
    let within = slice_get_within past at.0 post at.1 in
    let long = past-long log stage past form e in
    let slot = slot-there (slots_of log.shape) at.0 (omega (arith, within, long, slots_before-most log.shape stage, length-slots_of log.shape)) in
    (slot.0, past-kept log stage at.0 past slot.0 post e slot.1 at.1)

run-past : (run : Run) (stage : ℕ) (past : List Post) → HonestRun run → before run.log stage ≡ Some past → IsPastAt run.config stage past
run-past run stage past is e = record {
  whole = past-long run.log stage past is.log e ∙ ap (λ (s : Shape). slots_before s stage) is.shape;
  reads = λ number slot post at stands. checks-read run.config slot post (is.posts slot post
      (past-kept run.log stage number past slot post e (ap (λ (s : Shape). slot_at s number) is.shape ∙ at) stands));
}

-- ---- what it embeds

own-reads : (c : Configuration) (stage : ℕ) (past : List Post) → CanSay c stage past
    → content_read (shape_in c) (own_post c past stage).content ≡ Ok (content_due c past stage)
unfolding own_post own_content
own-reads c stage past can = content-is_read (shape_in c) (content_due c past stage) (own_row_of_grammar c stage past can)

-- a post that is embedded in one that it said was kept before
pub said-embeds : (c : Configuration) (delivered : List (List ℕ)) (post : Post) (content : Content) (item : List ℕ) → IsConfiguration c
    → All IsBytes delivered → Contains (posts_said (run_after c delivered)) post → content_read (shape_in c) post.content ≡ Ok content
    → IsClosing (shape_in c) content → Contains (posts_embedded content.body) item
    → (inner : Post) × (item ≡ post_spelling inner)
    × (Contains (posts_said (run_after c delivered)) inner ⊎ ((bytes : List ℕ) × Contains delivered bytes × (frame_of bytes ≡ Ok inner)))
said-embeds c delivered post content item is are said reads closing within =
    let run : Run = run_after c delivered in
    let honest = run_after_is_honest c delivered is are in
    let found = contains-filter_map (λ (s : ℕ). kept_in run.log (own_slot run s)) (range_with_len 0 (stage_count run.log.shape)) post said in
    let stage : ℕ = found.0 in
    let own = honest.own stage post found.2 in
    let speaks : is_slot (shape_in c) stage c.number ≡ true
    = sym (ap (λ (s : Shape). is_slot s stage c.number) honest.shape) ∙ kept-speaks run.log (own_slot run stage) post found.2 in
    let can : CanSay c stage own.past
    = record { enter = is.enter; speaks = speaks; past_is = run-past run stage own.past honest own.before } in
    let same : content ≡ content_due c own.past stage
    = content-same content (content_due c own.past stage) (content_read (shape_in c) post.content) reads
    (ap (λ (p : Post). content_read (shape_in c) p.content) own.said ∙ own-reads c stage own.past can) in
    let closes = subst (λ (x : Content). IsClosing (shape_in c) x) same closing in
    let inner = row-embeds c (own_descriptor c (contents_of own.past)) stage own.past item can
    (due-closes c stage own.past closes)
    (subst (λ (x : Content). Contains (posts_embedded x.body) item) same within) in
    let kept = kept-past run.log stage own.past inner.0 honest.log own.before inner.1 in
    (inner.0, inner.2, kept-cases c delivered kept.0 inner.0 are kept.1)
  where
    due-closes : (c : Configuration) (stage : ℕ) (past : List Post) → IsClosing (shape_in c) (content_due c past stage)
        → IsSome (option_and_then vote_of (kind_of_stage (shape_in c) stage))
    due-closes c stage past closes = subst (λ (h : Header). IsSome (option_and_then vote_of (kind_of_stage (shape_in c) h.stage)))
        (row-header c (own_descriptor c (contents_of past)) stage past) closes
