-- For whom a member waits, and what a replay looks at, in the words of its log.
use Rattle.std.specs.Prelude.{◌≡◌, ℕ, ◌<◌, ◌≤◌, ◌^◌, take, true, IsTrue, Some}
use Rattle.phase_message.specs.Slots.{slots_before}
use Rattle.phase_message.specs.Stages.{is_slot, kind_of_stage}
use Rattle.stage_log.specs.Log.{before}
use Rattle.stage_log.specs.Table.{Log, first_incomplete_of, is_missing}
use Rattle.shuffle_blame.specs.Asked.{inquiry_of}
use Rattle.round_spec.specs.Say.{Configuration, shape_in}
use Rattle.round_spec.specs.Verdict.{ClosedStage, inquiry_into, shape_at, shown_at}
use Rattle.round_spec.specs.Course.{Others, course_of, is_open, settled_log}
use Rattle.round_spec.specs.Reached.{NameSlots}
use Rattle.round_spec.specs.Result.{is_awaited}

-- where a round is open, the stage at which the member waits is the first of its log that is not complete, and those for
-- whom it waits are just the members whose posts are missing there
pub record WaitsAtFirst (c : Configuration) (others : Others) : Type 0 where
  pub stage : first_incomplete_of (settled_log c others) ≡ Some (course_of c others).at
  pub missing : (member : ℕ) → IsTrue (is_slot (shape_in c) (course_of c others).at member) →
      is_missing (settled_log c others) (course_of c others).at member ≡ is_awaited c others (course_of c others).at member

abbrev pub OpenRoundsWait : Type 0
OpenRoundsWait = (c : Configuration) (others : Others) → c.round < 2 ^ 64 → 1 ≤ (shape_in c).members → NameSlots c others →
    is_open (course_of c others).verdict ≡ true → WaitsAtFirst c others

-- what a verdict replays is what a replay of a log looks at that has the posts before the closing stage
abbrev pub InquiryIsOfLog : Type 0
InquiryIsOfLog = (v : ClosedStage) (log : Log) → log.shape ≡ shape_at v →
    before log v.stage ≡ Some (take (slots_before (shape_at v) v.stage) v.posts) →
    inquiry_into v ≡ inquiry_of log v.stage v.round (shown_at v (kind_of_stage (shape_at v) v.stage))
