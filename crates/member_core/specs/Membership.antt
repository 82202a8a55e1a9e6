-- What a member holds, as its calls see it. What it only carries forward, so that nothing is read twice, is left out.
use Rattle.std.specs.Prelude.{ℕ, ◌+◌, List, ◌++◌, Option, Some, None, filter_map}
use Rattle.std.specs.List.{range_with_len}
use Rattle.std.specs.Option.{option_to_list}
use Rattle.lms_tree.specs.States.{RunState}
use Rattle.phase_message.specs.declared.post.Post.{Post}
use Rattle.phase_message.specs.Slots.{stage_count}
use Rattle.group_roster.specs.Given.{roster_of}
use Rattle.group_roster.specs.Roster.{Roster}
use Rattle.stage_log.specs.Table.{Log, kept_in, missing_bits}
use Rattle.bulk_descriptor.specs.declared.slot_state.SlotState.{SlotState}
use Rattle.closing_verdict.specs.Judgement.{Completed}
use Rattle.member_spec.specs.declared.mood.Mood.{Mood}
use Rattle.member_spec.specs.declared.state.State.{State}
use Rattle.member_spec.specs.declared.state.State.TheVariants.{Waiting as StateWaiting, Done as StateDone, Blamed as StateBlamed, Stopped as StateStopped}
use Rattle.member_parts.specs.declared.ending.Ending.{Ending}
use Rattle.member_parts.specs.declared.ending.Ending.TheVariants.{Open, Done, Blamed, Stopped}
use Rattle.member_parts.specs.declared.own.Own.{Own}
use Rattle.member_parts.specs.declared.secrets.Secrets.{Secrets}
use Rattle.member_core.specs.declared.machine.Machine.{Machine}

-- the group, its number, the round and its message; the leaves that are left; the posts that it keeps; the stage that is
-- being filled, and whether it has spoken there; the post that it made and did not keep; how many of its posts were
-- handed out; the secrets that it still needs; what it made of its own; and what has ended the round
pub record Holdings : Type 0 where
  pub roster : Roster
  pub number : ℕ
  pub round : ℕ
  pub message : List ℕ
  pub leaves : RunState
  pub log : Log
  pub stage : ℕ
  pub mood : Mood
  pub stray : Option Post
  pub handed : ℕ
  pub secrets : Secrets
  pub own : Own
  pub ending : Ending

-- those of what the code holds
abbrev pub holdings_of : Machine → Holdings
holdings_of m = record {
  roster = roster_of m.roster;
  number = m.seat.number;
  round = m.seat.round;
  message = m.message;
  leaves = m.leaves;
  log = m.log;
  stage = m.stage;
  mood = m.mood;
  stray = m.stray;
  handed = m.handed;
  secrets = m.secrets;
  own = m.own;
  ending = m.ending;
}

-- a member: what it holds, and its conduct
pub record Membership (A : Type 0) : Type 0 where
  pub holds : Holdings
  pub conduct : A

-- the posts of a member that a log keeps, by stage
unfoldable pub own_posts_kept : Log → ℕ → List Post
own_posts_kept log number =
    filter_map (λ stage. kept_in log (record { stage = stage; sender = number })) (range_with_len 0 (stage_count log.shape))

-- the posts that it made: those of its own that it keeps, and behind them the one that it did not keep
abbrev pub posts_made : Holdings → List Post
posts_made h = own_posts_kept h.log h.number ++ option_to_list h.stray

-- the stage that is being filled, as one that is complete
abbrev pub completed_of : Holdings → Completed
completed_of h = record { roster = h.roster; round = h.round; log = h.log; stage = h.stage }

-- ---- what is shown

-- the state by what has ended the round
abbrev pub state_by : Holdings → Ending → State
state_by h Open = StateWaiting h.stage (missing_bits h.log h.stage)
state_by h (Done slots) = StateDone
state_by h (Blamed conviction) = StateBlamed conviction.accused conviction.claim
state_by h Stopped = StateStopped

-- one post more was handed out, if there was one
abbrev pub handed_next : {A B : Type 0} → Membership A → Option B → Membership A
handed_next m None = m
handed_next m (Some post) = record { holds = record m.holds { handed = m.holds.handed + 1 }; conduct = m.conduct }
