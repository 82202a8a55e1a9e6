-- Rounds in which all members are honest.
use Rattle.std.specs.Prelude.{◌≡◌, ◌≢◌, ◌≤◌, ℕ, ◌+◌, List, Contains, IsTrue}
use Rattle.phase_message.specs.declared.post.Post.{Post}
use Rattle.phase_message.specs.Stages.{is_slot}
use Rattle.bulk_descriptor.specs.declared.slot_state.SlotState.{SlotState}
use Rattle.round_spec.specs.Justified.{IsPostOf}
use Rattle.transcript_form.specs.declared.claim.Claim.TheVariants.{Pad}
use Rattle.transcript_form.specs.declared.transcript.Transcript.{Transcript}
use Rattle.round_spec.specs.Premises.{NoRunsCollide}
use Rattle.round_spec.specs.Result.{Blamed, DoneWith, result_of}
use Rattle.round_spec.specs.Rows.{IsRunOf}
use Rattle.round_spec.specs.Runs.{Run}
use Rattle.round_spec.specs.Say.{Configuration, shape_in}
use Rattle.accountability.specs.Faulty.{IsAmong}
use Rattle.accountability.specs.Messages.{HasEachMessage}

-- each member of the group has a run of the round
abbrev pub AllHaveRuns : Configuration → List Run → Type 0
AllHaveRuns c runs = (member : ℕ) → 1 ≤ member → member ≤ (shape_in c).members → (run : Run) × IsRunOf runs member c.round run

-- where they all have, nothing but a bad pad is shown of any of them, unless two of the strings of the runs have one hash
abbrev pub NothingButPads : Type 0
NothingButPads = (c : Configuration) (delivered : List (List ℕ)) (runs : List Run) (t : Transcript) → IsAmong c delivered runs →
    NoRunsCollide runs → AllHaveRuns c runs → result_of c delivered ≡ Blamed t → t.claim ≡ Pad

-- a string was delivered that is the post file of each slot of another member up to the stage where the checks are closed
abbrev pub AllDelivered : Configuration → List (List ℕ) → Type 0
AllDelivered c delivered = (stage member : ℕ) → IsTrue (is_slot (shape_in c) stage member) → stage ≤ (shape_in c).members + 6
    → member ≢ c.number →
    (bytes : List ℕ) × (post : Post) × Contains delivered bytes
    × IsPostOf c.roster c.round (record { stage = stage; sender = member }) bytes post

-- where all members have runs and all this was delivered, the round is done, with the message of each of them
abbrev pub AllHonest : Type 0
AllHonest = (c : Configuration) (delivered : List (List ℕ)) (runs : List Run) → IsAmong c delivered runs → NoRunsCollide runs →
    AllHaveRuns c runs → AllDelivered c delivered →
    (slots : List SlotState) × (result_of c delivered ≡ DoneWith slots) × HasEachMessage runs c.round slots
