-- Why the replay of what an honest member kept does not blame the member.
use Rattle.std.specs.Prelude.{◌≡◌, ◌≢◌, ℕ, List, Contains, length, Some, None}
use Rattle.wire_core.specs.Bytes.{IsBytes}
use Rattle.phase_message.specs.declared.post.Post.{Post}
use Rattle.phase_message.specs.declared.stage.StageKind.TheVariants.{Final}
use Rattle.phase_message.specs.Closing.{ClosesVotes}
use Rattle.phase_message.specs.Stages.{kind_of_stage}
use Rattle.stage_log.specs.Log.{before, contents_of}
use Rattle.transcript_form.specs.declared.transcript.Transcript.{Transcript}
use Rattle.transcript_form.specs.Transcript.{IsTranscript, transcript_spelling}
use Rattle.shuffle_blame.specs.declared.fault.Fault.{Fault}
use Rattle.shuffle_blame.specs.Replay.{Inquiry, culprit_of, outer_opening, outer_place, outer_seed, seed_fault, submission_fault, turn_fault, view_fault, vote_fault}
use Rattle.shuffle_blame.specs.Laws.{HasShownStrings}
use Rattle.round_spec.specs.Premises.{NoneCollide}
use Rattle.round_spec.specs.Slots.{pad_stage}
use Rattle.round_spec.specs.Say.{own_key_seed, own_opening, shape_in}
use Rattle.round_spec.specs.Runs.{HonestRun, Run}
use Rattle.conviction.specs.Accepts.{ReplaysFault, ShowsBadPad, inquiry_by}
use Rattle.conviction.specs.Framing.{OneRun}

-- at the end of a shuffle each member shows its part, and the member of the run shows what makes its own outer layers
pub record ShowsOwn (run : Run) (q : Inquiry) (shuffle : ℕ) : Type 0 where
  pub many : length q.shown ≡ q.shape.members
  pub seed : outer_seed q run.config.number ≡ own_key_seed run.config (outer_place shuffle)
  pub opening : outer_opening q run.config.number ≡ own_opening run.config shuffle 2

-- what is replayed is what the run kept before a closing stage
pub record IsOwnInquiry (run : Run) (q : Inquiry) : Type 0 where
  pub shape : q.shape ≡ shape_in run.config
  pub round : q.round ≡ run.config.round
  pub posts : List Post
  pub kept : before run.log q.stage ≡ Some posts
  pub past : q.past ≡ contents_of posts
  pub shows : (shuffle : ℕ) → kind_of_stage q.shape q.stage ≡ Some (Final shuffle) → ShowsOwn run q shuffle

-- the log that the posts of a replay embed is what the run of the accused kept, and the accused shows its own part
abbrev pub CommonLogIsOwn : Type 0
CommonLogIsOwn = (run : Run) (t : Transcript) → OneRun t run → IsTranscript (shape_in run.config) t →
    (shown : ReplaysFault run.config.roster t) →
    IsOwnInquiry run (inquiry_by (shape_in run.config) t.round shown.stage shown.past shown.said)

-- its own contents carry the views of their stages
abbrev pub ViewNotOwn : Type 0
ViewNotOwn = (run : Run) (q : Inquiry) (fault : Fault) → HonestRun run → IsOwnInquiry run q → view_fault q ≡ Some fault →
    fault.member ≢ run.config.number

-- the outer seed that it shows is that of its outer key
abbrev pub SeedNotOwn : Type 0
SeedNotOwn = (run : Run) (q : Inquiry) (shuffle : ℕ) (fault : Fault) → HonestRun run → IsOwnInquiry run q →
    kind_of_stage q.shape q.stage ≡ Some (Final shuffle) → seed_fault q shuffle ≡ Some fault → fault.member ≢ run.config.number

-- where all members show the seeds of their outer keys, its own submission opens through all outer layers, and each
-- carries the seed that its shown opening gives
abbrev pub SubmissionNotOwn : Type 0
SubmissionNotOwn = (run : Run) (q : Inquiry) (shuffle : ℕ) (fault : Fault) → HonestRun run → IsOwnInquiry run q →
    kind_of_stage q.shape q.stage ≡ Some (Final shuffle) → seed_fault q shuffle ≡ None → submission_fault q shuffle ≡ Some fault →
    fault.member ≢ run.config.number

-- where besides no submission is at fault, its own turn says the list before it with a layer off, in another order; for
-- that, no two of the strings of the layer seeds that are shown have one hash
abbrev pub ShuffleNotOwn : Type 0
ShuffleNotOwn = (run : Run) (q : Inquiry) (shuffle : ℕ) (fault : Fault) (strings : List (List ℕ)) → HonestRun run → IsOwnInquiry run q →
    kind_of_stage q.shape q.stage ≡ Some (Final shuffle) → submission_fault q shuffle ≡ None → HasShownStrings q shuffle strings →
    turn_fault q ≡ Some fault → fault.member ≢ run.config.number

-- where no view is at fault, and at the end of a shuffle neither an outer seed, nor a submission, nor a turn, its own vote
-- is yes
abbrev pub NoGoNotOwn : Type 0
NoGoNotOwn = (run : Run) (q : Inquiry) (fault : Fault) → HonestRun run → IsOwnInquiry run q →
    ClosesVotes q.shape q.stage → view_fault q ≡ None →
    ((shuffle : ℕ) → kind_of_stage q.shape q.stage ≡ Some (Final shuffle) →
    (seed_fault q shuffle ≡ None) × (submission_fault q shuffle ≡ None) × (turn_fault q ≡ None)) →
    vote_fault q ≡ Some fault → fault.member ≢ run.config.number

-- so the replay of what an honest member kept does not blame the member, whichever rule answers; for that, the strings of
-- the layer seeds that are shown are among some of which no two have one hash
abbrev pub ReplayNotOwn : Type 0
ReplayNotOwn = (run : Run) (q : Inquiry) (strings : List (List ℕ)) (fault : Fault) → HonestRun run → IsOwnInquiry run q →
    ClosesVotes q.shape q.stage →
    ((shuffle : ℕ) → kind_of_stage q.shape q.stage ≡ Some (Final shuffle) → HasShownStrings q shuffle strings) →
    culprit_of q ≡ Some fault → fault.member ≢ run.config.number

-- ---- a bad pad

-- the posts that are listed of the slots before the pads have the contents that the run of the accused kept there
abbrev pub PadSameLog : Type 0
PadSameLog = (run : Run) (runs : List Run) (t : Transcript) → Contains runs run → OneRun t run → IsTranscript (shape_in run.config) t →
    IsBytes (transcript_spelling t) → NoneCollide run.config.roster runs (transcript_spelling t)
    → (shown : ShowsBadPad run.config.roster t) →
    (posts : List Post) × (before run.log (pad_stage (shape_in run.config)) ≡ Some posts) × (contents_of shown.log ≡ contents_of posts)
