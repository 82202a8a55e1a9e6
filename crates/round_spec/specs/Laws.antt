-- What holds of rounds.
use Rattle.std.specs.Prelude.{IsSome, IsTrue, length, ◌≡◌, ℕ, ◌+◌, ◌≤◌, false, Some}
use Rattle.phase_message.specs.declared.post.Post.{Post}
use Rattle.phase_message.specs.declared.stage.Slot.{Slot}
use Rattle.phase_message.specs.Slots.{slots_before}
use Rattle.go_nogo.specs.Votes.{votes_agree}
use Rattle.shuffle_blame.specs.Replay.{Inquiry, culprit_of}
use Rattle.round_spec.specs.Verdict.{is_closing}
use Rattle.round_spec.specs.Say.{Configuration}
use Rattle.round_spec.specs.Course.{Others, Stand, course_from, is_open}

-- ---- the course

-- what has come of one is there of the other too
abbrev pub IsContained : Others → Others → Type 0
IsContained others more = (slot : Slot) (post : Post) → others slot ≡ Some post → more slot ≡ Some post

-- the course comes through a stand, after at most so many stages
pub record ComesThrough (c : Configuration) (others : Others) (stages : ℕ) (stand later : Stand) : Type 0 where
  pub count : ℕ
  pub most : count ≤ stages
  pub goes_on : (more : ℕ) → course_from c others (count + more) stand ≡ course_from c others more later

-- some stages and then others are all of them in one
abbrev pub CourseAdds : Type 0
CourseAdds = (c : Configuration) (others : Others) (stages more : ℕ) (stand : Stand) →
    course_from c others (stages + more) stand ≡ course_from c others more (course_from c others stages stand)

-- with more posts the course comes through each stand that it reaches with fewer
abbrev pub CourseGrows : Type 0
CourseGrows = (c : Configuration) (others more : Others) (stages : ℕ) (stand : Stand) → IsContained others more →
    ComesThrough c more stages stand (course_from c others stages stand)

-- a stand that is not open is where every longer course ends, also with more posts
abbrev pub CourseEndUnique : Type 0
CourseEndUnique = (c : Configuration) (others more : Others) (stages longer : ℕ) (stand : Stand) → IsContained others more →
    is_open (course_from c others stages stand).verdict ≡ false → stages ≤ longer →
    course_from c more longer stand ≡ course_from c others stages stand

-- ---- verdicts

-- where the votes before a closing stage are not unanimous, the replay of what was said before it blames somebody
abbrev pub NotUnanimousBlames : Type 0
NotUnanimousBlames = (q : Inquiry) → IsTrue (is_closing q.shape q.stage) → slots_before q.shape q.stage ≤ length q.past →
    votes_agree q.shape q.past q.stage ≡ false → IsSome (culprit_of q)
