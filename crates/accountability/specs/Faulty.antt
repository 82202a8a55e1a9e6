-- That whoever is accused by the member of an honest run is faulty.
use Rattle.std.specs.Prelude.{◌≡◌, ℕ, List, All, Contains}
use Rattle.wire_core.specs.Bytes.{IsBytes}
use Rattle.transcript_form.specs.declared.transcript.Transcript.{Transcript}
use Rattle.transcript_form.specs.Transcript.{transcript_spelling}
use Rattle.round_spec.specs.Premises.{NoneCollide}
use Rattle.round_spec.specs.Result.{Blamed, result_of}
use Rattle.round_spec.specs.Runs.{AreHonest, IsConfiguration, IsFaulty, NoForgery, Run, run_after}
use Rattle.round_spec.specs.Say.{Configuration}

-- A member with these deliveries stands among honest runs: its own run is one of them, and no signature of any of them
-- was forged in what was delivered.
pub record IsAmong (c : Configuration) (delivered : List (List ℕ)) (runs : List Run) : Type 0 where
  pub config : IsConfiguration c
  pub bytes : All IsBytes delivered
  pub honest : AreHonest c.roster runs
  pub own : Contains runs (run_after c delivered)
  pub unforged : NoForgery c.roster delivered runs

-- where the round of such a member ends by a conviction, the accused has no run in the round, unless two of the strings of
-- the runs and of the transcript have one hash
abbrev pub AccusedFaulty : Type 0
AccusedFaulty = (c : Configuration) (delivered : List (List ℕ)) (runs : List Run) (t : Transcript) → IsAmong c delivered runs →
    result_of c delivered ≡ Blamed t → NoneCollide c.roster runs (transcript_spelling t) → IsFaulty runs c.round t.accused
