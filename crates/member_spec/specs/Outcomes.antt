-- What a member shows of a round: for whom it waits, that it is done, with the slots of the list, or that it blames
-- somebody, with a transcript; and the posts that it made.
use Rattle.std.specs.Prelude.{ℕ, ◌-◌, ◌^◌, List, filter, Option, Some, None, sum_by, if◌then◌else◌}
use Rattle.stage_log.specs.Table.{is_missing}
use Rattle.transcript_form.specs.Transcript.{transcript_spelling}
use Rattle.bulk_descriptor.specs.declared.slot_state.SlotState.{SlotState}
use Rattle.round_spec.specs.Say.{Configuration}
use Rattle.round_spec.specs.Course.{is_open}
use Rattle.round_spec.specs.Result.{Outcome, Waiting as WaitingFor, Blamed as BlamedBy, DoneWith, outcome_ended, senders_at}
use Rattle.member_spec.specs.declared.state.State.{State}
use Rattle.member_spec.specs.declared.state.State.TheVariants.{Waiting, Done, Blamed}
use Rattle.member_spec.specs.Actor.{Actor}

-- the members whose posts are missing in its log where it stands
abbrev pub members_missing : Configuration → Actor → List ℕ
members_missing c a = filter (is_missing a.log a.stand.at) (senders_at c a.stand.at)

-- how the round stands for it: it waits at a stage for the members whose posts are missing, or it has ended
abbrev pub outcome_of : Configuration → Actor → Outcome
outcome_of c a =
    if is_open a.ending then WaitingFor a.stand.at (members_missing c a) else outcome_ended c a.stand a.ending

-- bit i - 1 for each member i of a list
abbrev pub bits_of : List ℕ → ℕ
bits_of members = sum_by (λ member. 2 ^ (member - 1)) members

-- the state that a call shows of an outcome
abbrev pub state_of : Outcome → State
state_of (WaitingFor stage members) = Waiting stage (bits_of members)
state_of (BlamedBy transcript) = Blamed transcript.accused transcript.claim
state_of (DoneWith slots) = Done

-- the slots of the list, exactly where it is done
abbrev pub slots_shown : Outcome → Option (List SlotState)
slots_shown (WaitingFor stage members) = None
slots_shown (BlamedBy transcript) = None
slots_shown (DoneWith slots) = Some slots

-- the bytes of the transcript, exactly where it blames somebody
abbrev pub evidence_shown : Outcome → Option (List ℕ)
evidence_shown (WaitingFor stage members) = None
evidence_shown (BlamedBy transcript) = Some (transcript_spelling transcript)
evidence_shown (DoneWith slots) = None
