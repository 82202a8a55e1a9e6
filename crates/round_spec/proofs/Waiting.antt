-- For whom a member waits, and what a replay looks at.
use Rattle.std.proofs.Common.{◌≡◌, ◌⊎◌, ℕ, ◌+◌, ◌<◌, ◌≤◌, Bool, true, false, List, [], take, Option, Some, ap, sym, ◌∙◌, arith, inl, inr}
use Rattle.std.specs.Prelude.{◌&&◌, ◌==◌, not, is_none, unwrap_or}
use Rattle.std.proofs.lemmas.Bool.{cases_Bool, cases_lt, cond-false, cond-true, false_from_ne_true}
use Rattle.std.proofs.lemmas.List.{take-map}
use Rattle.std.proofs.lemmas.Option.{none-some}
use Rattle.wire_core.proofs.AnswerLemmas.{first_below-some}
use Rattle.phase_message.specs.declared.post.Post.{Post}
use Rattle.phase_message.specs.declared.stage.Slot.{Slot}
use Rattle.phase_message.specs.declared.stage.StageKind.{StageKind}
use Rattle.phase_message.specs.Shape.{Shape}
use Rattle.phase_message.specs.Slots.{slots_before, stage_count}
use Rattle.phase_message.specs.Stages.{is_slot, kind_of_stage}
use Rattle.phase_message.proofs.SlotLists.{stage-past}
use Rattle.stage_log.specs.Log.{before, contents_of}
use Rattle.stage_log.specs.Table.{first_incomplete_of, incomplete_stage, is_complete, is_missing, kept_in}
use Rattle.stage_log.proofs.Fronts.{before-complete, complete-before, some_is}
use Rattle.stage_log.proofs.Missing.{complete-none, incomplete-some}
use Rattle.shuffle_blame.specs.Replay.{Inquiry}
use Rattle.round_spec.specs.Say.{Configuration, own_post, shape_in}
use Rattle.round_spec.specs.Verdict.{ClosedStage, past_at, shape_at, shown_at}
use Rattle.round_spec.specs.Course.{Others, course_of, is_open, post_of, settled_log}
use Rattle.round_spec.specs.Reached.{IsReached, IsStopped}
use Rattle.round_spec.specs.Result.{is_awaited}
use Rattle.round_spec.specs.Waiting.{InquiryIsOfLog, OpenRoundsWait}
use Rattle.round_spec.proofs.Settling.{before-settled, filled-if, reached-end, settled-kept, settled-now}
use Rattle.round_spec.proofs.Stopping.{course_stops}

-- each stage before the one that is being filled is complete
earlier-complete : (c : Configuration) (others : Others) (stage : ℕ) → IsReached c others (course_of c others)
    → stage < (course_of c others).at → is_complete (settled_log c others) stage ≡ true
earlier-complete c others stage is lt =
    complete-before (settled_log c others) (course_of c others).at stage
    (some_is (before (settled_log c others) (course_of c others).at) _ (before-settled c others (course_of c others).at is (omega arith)))
    lt

-- and that one is not, where the round is open
here-incomplete : (c : Configuration) (others : Others) → IsReached c others (course_of c others) → IsStopped c others (course_of c others)
    → is_open (course_of c others).verdict ≡ true
    → is_complete (settled_log c others) (course_of c others).at ≡ false
here-incomplete c others is stops still = false_from_ne_true _ (λ complete.
    let kind = stops.stage still in
    let there = before-complete (settled_log c others) ((course_of c others).at + 1)
    (λ earlier lt. each earlier lt complete (cases_lt earlier (course_of c others).at)) in
    none-some _ (sym (stops.unfilled still) ∙ filled-if c others kind.0 there.0 is still kind.1 there.1))
  where
    each : (earlier : ℕ) → earlier < (course_of c others).at + 1 → is_complete (settled_log c others) (course_of c others).at ≡ true
        → (earlier < (course_of c others).at) ⊎ ((course_of c others).at ≤ earlier)
        → is_complete (settled_log c others) earlier ≡ true
    each earlier lt complete (inl before_it) = earlier-complete c others earlier is before_it
    each earlier lt complete (inr now) = (let same : (course_of c others).at ≡ earlier = omega arith in ap
        (is_complete (settled_log c others)) (sym same) ∙ complete)

within-round : (c : Configuration) (stage : ℕ) (kind : StageKind) → kind_of_stage (shape_in c) stage ≡ Some kind
    → stage < stage_count (shape_in c)
within-round c stage kind e = elim (cases_lt stage (stage_count (shape_in c))) [
  | inl lt ↦ lt
  | inr le ↦ absurd (none-some kind (sym (stage-past (shape_in c) stage le) ∙ e))
]

shape-same : (c : Configuration) (others : Others) (n : ℕ) → n < stage_count (shape_in c) → n < stage_count (settled_log c others).shape
unfolding settled_log
shape-same c others n lt = lt

missing-is : (c : Configuration) (others : Others) (member : ℕ) → is_slot (shape_in c) (course_of c others).at member ≡ true
    → is_missing (settled_log c others) (course_of c others).at member ≡ is_none
    (kept_in (settled_log c others) (record { stage = (course_of c others).at; sender = member }))
unfolding settled_log
missing-is c others member speaks = ap (λ (b : Bool). b && is_none
    (kept_in (settled_log c others) (record { stage = (course_of c others).at; sender = member }))) speaks

first-incomplete : (c : Configuration) (others : Others) (kind : StageKind) → IsReached c others (course_of c others)
    → IsStopped c others (course_of c others) → is_open (course_of c others).verdict ≡ true
    → kind_of_stage (shape_in c) (course_of c others).at ≡ Some kind
    → first_incomplete_of (settled_log c others) ≡ Some (course_of c others).at
first-incomplete c others kind is stops still e =
    first_below-some (incomplete_stage (settled_log c others)) (stage_count (settled_log c others).shape) (course_of c others).at
    (course_of c others).at (shape-same c others (course_of c others).at (within-round c (course_of c others).at kind e))
    (λ j lt. complete-none (settled_log c others) j (earlier-complete c others j is lt))
    (incomplete-some (settled_log c others) (course_of c others).at (here-incomplete c others is stops still))

-- a member's post is missing in the log exactly where it is awaited
missing-awaited : (c : Configuration) (others : Others) (member : ℕ) → IsReached c others (course_of c others)
    → is_open (course_of c others).verdict ≡ true → is_slot (shape_in c) (course_of c others).at member ≡ true
    → is_missing (settled_log c others) (course_of c others).at member ≡ is_awaited c others (course_of c others).at member
missing-awaited c others member is still speaks =
    missing-is c others member speaks
    ∙ ap is_none (settled-kept c others slot speaks ∙ settled-now c others (course_of c others) member is still speaks)
    ∙ by_sender (cases_Bool (member == c.number))
  where
    slot : Slot
    slot = record { stage = (course_of c others).at; sender = member }

    own : Option Post
    own = Some (own_post c (course_of c others).past (course_of c others).at)

    by_sender : (member == c.number ≡ true) ⊎ (member == c.number ≡ false)
        → is_none (post_of c others (course_of c others) member) ≡ is_awaited c others (course_of c others).at member
    by_sender (inl is_own) = ap is_none (cond-true (member == c.number)
        (Some (own_post c (course_of c others).past (course_of c others).at)) (others slot) is_own)
        ∙ sym (ap (λ (b : Bool). not b && is_none (others slot)) is_own)
    by_sender (inr other) = ap is_none (cond-false (member == c.number)
        (Some (own_post c (course_of c others).past (course_of c others).at)) (others slot) other)
        ∙ sym (ap (λ (b : Bool). not b && is_none (others slot)) other)

pub open_rounds_wait : OpenRoundsWait
open_rounds_wait c others small least names still =
    let is = reached-end c others in
    let stops = course_stops c others small least names in
    let kind = stops.stage still in record {
      stage = first-incomplete c others kind.0 is stops still kind.1;
      missing = λ member speaks. missing-awaited c others member is still speaks;
    }

-- an inquiry of a verdict with another shape and another past
inquiry_with : ClosedStage → Shape → List (List ℕ) → Inquiry
inquiry_with v shape past = record {
  shape = shape;
  past = past;
  stage = v.stage;
  round = v.round;
  shown = shown_at v
      (kind_of_stage (shape_at v) v.stage);
}

pub inquiry_is_of_log : InquiryIsOfLog
unfolding inquiry_with
inquiry_is_of_log v log shape_is e =
    let n : ℕ = slots_before (shape_at v) v.stage in
    let past : take n (past_at v) ≡ contents_of (unwrap_or (before log v.stage) []) =
    take-map (λ (post : Post). post.content) n v.posts ∙ sym (ap (λ (o : Option (List Post)). contents_of (unwrap_or o [])) e) in
    ap (λ (shape : Shape). inquiry_with v shape (take n (past_at v))) (sym shape_is) ∙ ap (inquiry_with v log.shape) past
