-- That the transcript which is written of a script's group convicts under its roster.
use Rattle.std.proofs.Common.{◌≡◌, refl, ℕ, Bool, true, false, List, [], ◌∷◌, Option, Some, None}
use Rattle.std.specs.Prelude.{Contains, IfSome, map}
use Rattle.bulk_descriptor.specs.declared.slot_state.SlotState.{SlotState}
use Rattle.round_spec.proofs.Contained.{contains-here, contains-later}
use Rattle.member_spec.specs.declared.state.State.{State}
use Rattle.member_core.specs.Promises.{IsEvidence}
use Rattle.round_script.specs.declared.script.Script.{Script}
use Rattle.group_spec.specs.declared.ending.MemberEnd.{MemberEnd}
use Rattle.group_spec.specs.Driver.{MemberShown}
use Rattle.group_spec.specs.Scripts.{script_end}
use Rattle.group_threads.specs.Given.{end_shown}
use Rattle.group_report.specs.Report.{evidence_seen}
use Rattle.group_laws.specs.Accountable.{IsAccountable}
use Rattle.group_laws.specs.Promises.{config_shown}
use Rattle.offline_commands.specs.Outcome.{members_seen}
use Rattle.offline_commands.specs.Promise.{ConvictsIn}

-- what a member shows at the end
abbrev end_of : ℕ → Bool → State → Option (List SlotState) → Option (List ℕ) → MemberEnd
end_of number faulty state slots evidence =
    record { number = number; faulty = faulty; state = state; slots = slots; evidence = evidence }

-- the transcript of the first member, or of another, is the one that is found
found-of : (P : List ℕ → Type 0) (number : ℕ) (faulty : Bool) (state : State) (slots : Option (List SlotState))
    (evidence : Option (List ℕ)) (members : List MemberEnd) → (faulty ≡ false → IfSome evidence P) → IfSome (evidence_seen members) P
    → IfSome (evidence_seen (end_of number faulty state slots evidence ∷ members)) P
found-of P number true state slots evidence members own later = later
found-of P number false state slots None members own later = later
found-of P number false state slots (Some bytes) members own later = own refl

-- what all honest members' transcripts have, the one that is found has
found-has : (P : List ℕ → Type 0) (shown : List MemberShown)
    → ((member : MemberShown) → Contains shown member → member.faulty ≡ false → IfSome member.evidence P)
    → IfSome (evidence_seen (map end_shown shown)) P
found-has P [] each = tt
found-has P (member ∷ members) each =
    found-of P member.number member.faulty member.state member.slots member.evidence (map end_shown members)
    (each member (contains-here member members))
    (found-has P members (λ other there. each other (contains-later member members other there)))

-- evidence of a member is one under the roster of the script
convicts-in : (script : Script) (member : MemberShown) (evidence : Option (List ℕ))
    → IfSome evidence (IsEvidence (config_shown script member) member.delivered member.state) → IfSome evidence (ConvictsIn script)
convicts-in script member None is = tt
convicts-in script member (Some bytes) is = (is.accused, is.claim, is.convicts.accepts)

pub transcript_convicts : (script : Script) → IsAccountable script → IfSome (evidence_seen (members_seen script)) (ConvictsIn script)
transcript_convicts script accountable = found-has (ConvictsIn script) (script_end script) (λ member there honest.
    convicts-in script member member.evidence (accountable.promise member (record { listed = there; honest = honest })).convicts)
