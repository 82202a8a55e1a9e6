-- Answers by what has ended a round.
use Rattle.std.proofs.Common.{◌≡◌, refl}
use Rattle.std.specs.Prelude.{if◌then◌else◌}
use Rattle.closing_verdict.specs.declared.convicting.Conviction.{Conviction}
use Rattle.round_spec.specs.Say.{Configuration}
use Rattle.round_spec.specs.Verdict.{Convicts, Done as DoneVerdict, Goes, Verdict}
use Rattle.round_spec.specs.Course.{is_open}
use Rattle.round_spec.specs.Result.{Waiting, outcome_ended}
use Rattle.member_spec.specs.declared.taken.Taken.{Taken}
use Rattle.member_spec.specs.declared.taken.Taken.TheVariants.{Evidence, Finished, Stored}
use Rattle.member_spec.specs.Actor.{Actor}
use Rattle.member_spec.specs.Outcomes.{members_missing, outcome_of}
use Rattle.member_spec.specs.Taking.{LeavesAll, answer_by_end}
use Rattle.member_parts.specs.declared.ending.Ending.{Ending}
use Rattle.member_parts.specs.declared.ending.Ending.TheVariants.{Blamed, Done, Open, Stopped}
use Rattle.member_parts.specs.Endings.{HasBlamed, IsOpen, IsOutOfMemory, IsRunning}
use Rattle.member_core.specs.Found.{TellsEnding, answer_behind}
use Rattle.member_core.specs.Stands.{ShowsOutcome}

-- an open round runs
pub open-runs : (ending : Ending) → IsOpen ending → IsRunning ending
open-runs Open still = tt
open-runs (Done slots) still = absurd still
open-runs (Blamed conviction) still = absurd still
open-runs Stopped still = absurd still

-- and a member that runs is not stopped
pub runs-still : (ending : Ending) → IsRunning ending → IsOutOfMemory ending → ⊥
runs-still Open runs stopped = stopped
runs-still (Done slots) runs stopped = stopped
runs-still (Blamed conviction) runs stopped = stopped
runs-still Stopped runs stopped = runs

pub open-blamed : (ending : Ending) → IsOpen ending → HasBlamed ending → ⊥
open-blamed Open still blamed = blamed
open-blamed (Done slots) still blamed = still
open-blamed (Blamed conviction) still blamed = still
open-blamed Stopped still blamed = still

-- where nobody is blamed a post was stored
pub answer-stored : (ending : Ending) → ((conviction : Conviction) → ending ≡ Blamed conviction → ⊥) → Stored ≡ answer_behind ending
answer-stored Open nobody = refl
answer-stored (Done slots) nobody = refl
answer-stored (Blamed conviction) nobody = absurd (nobody conviction refl)
answer-stored Stopped nobody = refl

-- such an answer tells the ending
pub answer-tells : (ending : Ending) → TellsEnding (answer_behind ending) ending
answer-tells Open = record { evidence = (λ e. absurd cc, λ blamed. absurd blamed); going = λ e. cc }
answer-tells (Done slots) = record { evidence = (λ e. absurd cc, λ blamed. absurd blamed); going = λ e. cc }
answer-tells (Blamed conviction) = record { evidence = (λ e. tt, λ blamed. refl); going = λ e. cc }
answer-tells Stopped = record { evidence = (λ e. absurd cc, λ blamed. absurd blamed); going = λ e. cc }

-- it is of no idle delivery
pub answer-busy : (ending : Ending) → LeavesAll (answer_behind ending) → ⊥
answer-busy Open leaves = leaves
answer-busy (Done slots) leaves = leaves
answer-busy (Blamed conviction) leaves = leaves
answer-busy Stopped leaves = leaves

-- that of an idle one tells an open round
pub idle-tells : (taken : Taken) (ending : Ending) → IsOpen ending → (taken ≡ Evidence → ⊥) → (taken ≡ Finished → ⊥)
    → TellsEnding taken ending
idle-tells taken ending still nobody going = record {
  evidence = (λ e. absurd (nobody e), λ blamed. absurd (open-blamed ending still blamed));
  going = going;
}

-- and is that of the pure machine
pub answer-same : (c : Configuration) (a : Actor) (ending : Ending) → IsRunning ending → ShowsOutcome ending (outcome_of c a)
    → answer_behind ending ≡ answer_by_end a.ending
answer-same c a ending runs shows = by_verdict a.ending ending runs shows
  where
    by_verdict : (v : Verdict) (e : Ending) → IsRunning e
        → ShowsOutcome e (if is_open v then Waiting a.stand.at (members_missing c a) else outcome_ended c a.stand v)
        → answer_behind e ≡ answer_by_end v
    by_verdict Goes Open runs shows = refl
    by_verdict Goes (Done slots) runs shows = absurd shows
    by_verdict Goes (Blamed conviction) runs shows = absurd shows
    by_verdict Goes Stopped runs shows = absurd runs
    by_verdict DoneVerdict Open runs shows = absurd shows
    by_verdict DoneVerdict (Done slots) runs shows = refl
    by_verdict DoneVerdict (Blamed conviction) runs shows = absurd shows
    by_verdict DoneVerdict Stopped runs shows = absurd runs
    by_verdict (Convicts t) Open runs shows = absurd shows
    by_verdict (Convicts t) (Done slots) runs shows = absurd shows
    by_verdict (Convicts t) (Blamed conviction) runs shows = refl
    by_verdict (Convicts t) Stopped runs shows = absurd runs
