-- Nobody honest is convicted, claim by claim.
use Rattle.std.proofs.Common.{List, sym, subst, ℕ}
use Rattle.wire_core.specs.Bytes.{IsBytes}
use Rattle.group_roster.specs.Roster.{Roster, shape_of_roster}
use Rattle.transcript_form.specs.declared.claim.Claim.{Claim}
use Rattle.transcript_form.specs.declared.claim.Claim.TheVariants.{Equivocation, Malformed, WrongSeed, BadLog, Replay, Pad}
use Rattle.transcript_form.specs.declared.transcript.Transcript.{Transcript}
use Rattle.transcript_form.specs.Transcript.{IsTranscript, transcript_spelling}
use Rattle.round_spec.specs.Premises.{NoneCollide}
use Rattle.round_spec.specs.Runs.{AreHonest, Run, SaidBy}
use Rattle.round_spec.proofs.Honesty.{unforged_is_said}
use Rattle.conviction.specs.Accepts.{Convicts}
use Rattle.conviction.specs.Framing.{NobodyHonestIsConvicted, NoFraming}
use Rattle.conviction.proofs.BadPads.{frame_pad}
use Rattle.conviction.proofs.OnePost.{frame_bad_log, frame_wrong_seed}
use Rattle.conviction.proofs.Posts.{frame_equivocation, frame_malformed}
use Rattle.conviction.proofs.ReplayStrings.{frame_replay}

-- what a claim asks of the listed posts is not shown
not-shown : (roster : Roster) (runs : List Run) (t : Transcript) (claim : Claim) → AreHonest roster runs
    → IsTranscript (shape_of_roster roster) t
    → IsBytes (transcript_spelling t) → NoneCollide roster runs (transcript_spelling t)
    → SaidBy roster runs t.accused t.round t.posts → Convicts roster t claim → ⊥
not-shown roster runs t Equivocation honest form bytes none said shows = frame_equivocation roster runs t honest said shows
not-shown roster runs t Malformed honest form bytes none said shows = frame_malformed roster runs t honest said shows
not-shown roster runs t WrongSeed honest form bytes none said shows = frame_wrong_seed roster runs t honest said shows
not-shown roster runs t BadLog honest form bytes none said shows = frame_bad_log roster runs t honest said shows
not-shown roster runs t Replay honest form bytes none said shows = frame_replay roster runs t honest form bytes none said shows
not-shown roster runs t Pad honest form bytes none said shows = frame_pad roster runs t honest form bytes none said shows

pub no_framing : NoFraming
no_framing roster bytes accused claim is accepts runs honest none said =
    let t = accepts.transcript in
    not-shown roster runs t claim honest accepts.form (subst IsBytes accepts.spelled is)
    (subst (NoneCollide roster runs) accepts.spelled none)
    (subst (λ (number : ℕ). SaidBy roster runs number t.round t.posts) (sym accepts.accused_is) (said t accepts.form accepts.spelled))
    accepts.convicts

pub nobody_honest_is_convicted : NobodyHonestIsConvicted
nobody_honest_is_convicted roster bytes accused claim is accepts runs honest none unforged has =
    no_framing roster bytes accused claim is accepts runs honest none
    (λ t form spelled. unforged_is_said roster runs accused t.round t.posts (unforged t form spelled) has)
