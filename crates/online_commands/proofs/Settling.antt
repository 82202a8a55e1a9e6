-- Whether a round waits, by what the member holds of it.
use Rattle.std.proofs.Common.{◌≡◌, refl}
use Rattle.round_spec.specs.Result.{Blamed as BlamedBy, DoneWith, Outcome, Waiting}
use Rattle.member_spec.specs.Outcomes.{state_of}
use Rattle.member_parts.specs.declared.ending.Ending.{Ending}
use Rattle.member_parts.specs.declared.ending.Ending.TheVariants.{Blamed, Done, Open, Stopped}
use Rattle.member_parts.specs.Endings.{HasEnded, IsOpen}
use Rattle.member_core.specs.Membership.{Holdings, state_by}
use Rattle.online_commands.specs.TakingPart.{IsWaiting, WaitsOnlyIf}

-- a round that has ended for the member does not wait
pub ended-settled : (P : Type 0) (h : Holdings) (ending : Ending) (o : Outcome) → HasEnded ending → state_by h ending ≡ state_of o
    → WaitsOnlyIf P o
ended-settled P h ending (BlamedBy t) ended is = tt
ended-settled P h ending (DoneWith slots) ended is = tt
ended-settled P h (Done slots) (Waiting stage members) ended is = absurd cc
ended-settled P h (Blamed conviction) (Waiting stage members) ended is = absurd cc
ended-settled P h Open (Waiting stage members) ended is = absurd ended
ended-settled P h Stopped (Waiting stage members) ended is = absurd ended

-- and one that has not waits
pub open-waits : (h : Holdings) (ending : Ending) (o : Outcome) → IsOpen ending → state_by h ending ≡ state_of o → IsWaiting o
open-waits h Open (Waiting stage members) going is = (stage, members, refl)
open-waits h Open (BlamedBy t) going is = absurd cc
open-waits h Open (DoneWith slots) going is = absurd cc
open-waits h (Done slots) o going is = absurd going
open-waits h (Blamed conviction) o going is = absurd going
open-waits h Stopped o going is = absurd going

-- whatever may wait may wait where P
pub waits-if : (P : Type 0) (o : Outcome) → P → WaitsOnlyIf P o
waits-if P (Waiting stage members) p = p
waits-if P (BlamedBy t) p = tt
waits-if P (DoneWith slots) p = tt
