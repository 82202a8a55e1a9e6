-- Where a course has come to: what its stands have in common, and where it waits.
use Rattle.std.specs.Prelude.{◌≡◌, ℕ, ◌+◌, ◌<◌, ◌≤◌, ◌^◌, List, length, take, true, IsTrue, ◌==◌, Option, Some, None, Ok, slice_get, if◌then◌else◌}
use Rattle.phase_message.specs.declared.content.Content.{Content}
use Rattle.phase_message.specs.declared.post.Post.{Post}
use Rattle.phase_message.specs.declared.stage.Slot.{Slot}
use Rattle.phase_message.specs.declared.stage.StageKind.{StageKind}
use Rattle.phase_message.specs.Offence.{content_read}
use Rattle.phase_message.specs.Slots.{slot_number, slots_before, stage_count}
use Rattle.phase_message.specs.Stages.{is_slot, kind_of_stage}
use Rattle.round_spec.specs.Embedded.{slot_named}
use Rattle.round_spec.specs.Say.{Configuration, own_post, shape_in}
use Rattle.round_spec.specs.Verdict.{Goes, verdict_of}
use Rattle.round_spec.specs.Course.{Others, Stand, closing_of, course_from, course_of, first_stand, is_open, next_stand, stage_filled}

-- what stands in a slot of a past: of the member's own what it says there by the posts before, and of another the
-- other's post
abbrev pub post_due : Configuration → Others → List Post → ℕ → ℕ → Option Post
post_due c others past stage sender =
    if sender == c.number then Some (own_post c (take (slots_before (shape_in c) stage) past) stage)
    else others (record { stage = stage; sender = sender })

-- a stand that a course reaches: it has the post of each slot before its stage, the verdict is that of the last stage
-- that was passed, and those of all before let the round go on
pub record IsReached (c : Configuration) (others : Others) (stand : Stand) : Type 0 where
  pub within : stand.at ≤ stage_count (shape_in c)
  pub whole : length stand.past ≡ slots_before (shape_in c) stand.at
  pub posts : (stage sender : ℕ) → IsTrue (is_slot (shape_in c) stage sender) → stage < stand.at →
      slice_get stand.past (slot_number (shape_in c) stage sender) ≡ post_due c others stand.past stage sender
  pub goes : (stage : ℕ) → stage + 1 < stand.at →
      verdict_of (closing_of c (take (slots_before (shape_in c) (stage + 1)) stand.past) stage) ≡ Goes
  pub last : (stage : ℕ) → stage + 1 ≡ stand.at → verdict_of (closing_of c stand.past stage) ≡ stand.verdict
  pub first : stand.at ≡ 0 → stand.verdict ≡ Goes

-- each stand of a course is one
abbrev pub StandsAreReached : Type 0
StandsAreReached = (c : Configuration) (others : Others) (stages : ℕ) → IsReached c others (course_from c others stages first_stand)

-- the others' posts name the slots that they stand in, as far as they are contents
abbrev pub NameSlots : Configuration → Others → Type 0
NameSlots c others = (slot : Slot) (post : Post) (content : Content) → others slot ≡ Some post →
    content_read (shape_in c) post.content ≡ Ok content → slot_named content.header ≡ slot

-- the course of a whole round has ended, or it waits at a stage of the round that is not filled
pub record IsStopped (c : Configuration) (others : Others) (stand : Stand) : Type 0 where
  pub no_next : next_stand c others stand ≡ None
  pub stage : is_open stand.verdict ≡ true → (kind : StageKind) × (kind_of_stage (shape_in c) stand.at ≡ Some kind)
  pub unfilled : is_open stand.verdict ≡ true → stage_filled c others stand ≡ None

-- so it is with every course, where the round is a number of eight bytes
abbrev pub CourseStops : Type 0
CourseStops = (c : Configuration) (others : Others) → c.round < 2 ^ 64 → 1 ≤ (shape_in c).members → NameSlots c others →
    IsStopped c others (course_of c others)
