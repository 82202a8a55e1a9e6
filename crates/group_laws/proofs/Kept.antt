-- What is shown of an honest member of a script's group keeps its promise.
use Rattle.std.proofs.Common.{◌≡◌, ℕ, false, List, Option, Some, None, ap, sym, ◌∙◌, refl, subst}
use Rattle.std.specs.Prelude.{◌↔◌, All, IfSome, IsSome}
use Rattle.std.proofs.lemmas.Bool.{false≢true}
use Rattle.wire_core.specs.Bytes.{IsBytes}
use Rattle.round_spec.specs.Result.{Outcome, Waiting as WaitingFor, Blamed as BlamedBy, DoneWith, result_of}
use Rattle.round_spec.specs.Say.{Configuration}
use Rattle.round_spec.proofs.SealedBytes.{all-places}
use Rattle.member_spec.specs.declared.state.State.TheVariants.{Done, Stopped}
use Rattle.member_spec.specs.Outcomes.{evidence_shown, outcome_of, slots_shown, state_of}
use Rattle.member_spec.specs.Replies.{IsPlain}
use Rattle.member_spec.proofs.PlainLaws.{plain_comes_to_result}
use Rattle.member_core.specs.Promises.{HoldsMessages, IsEvidence, IsOneList, KeepsPromise}
use Rattle.member_core.proofs.Promised.{holds-messages, one-list, promised, shown-evidence}
use Rattle.round_script.specs.declared.fault.Fault.{Fault}
use Rattle.round_script.specs.declared.fault.Fault.TheVariants.{None as Honest}
use Rattle.round_script.specs.declared.script.Script.{Script}
use Rattle.round_script.specs.Script.{IsScript}
use Rattle.group_spec.specs.Driver.{MemberShown, is_faulty, shown_of}
use Rattle.group_spec.specs.Faulty.{faulty_member, faulty_replies}
use Rattle.group_spec.specs.Scripts.{fault_in, script_configuration, script_seat}
use Rattle.group_spec.specs.World.{Seat, actor_of}
use Rattle.group_spec.proofs.Plainness.{honest-plain}
use Rattle.group_laws.specs.Entering.{IsMemberOf}
use Rattle.group_laws.specs.Promises.{IsHonestIn, KeepsItsPromise, MembersKeepTheirPromise}
use Rattle.group_laws.proofs.Entering.{can-enter, configured}
use Rattle.group_laws.proofs.Worlds.{shown-at}

-- ---- results

never-stopped : (o : Outcome) → state_of o ≡ Stopped → ⊥
never-stopped (WaitingFor stage named) e = cc
never-stopped (DoneWith slots) e = cc
never-stopped (BlamedBy t) e = cc

done-slots : (o : Outcome) → (state_of o ≡ Done) ↔ IsSome (slots_shown o)
done-slots (WaitingFor stage named) = (λ e. absurd cc, λ e. absurd cc)
done-slots (DoneWith slots) = (λ e. refl, λ e. refl)
done-slots (BlamedBy t) = (λ e. absurd cc, λ e. absurd cc)

-- what holds of each value that is there
if-there : {X : Type 0} (o : Option X) (P : X → Type 0) → ((x : X) → Some x ≡ o → P x) → IfSome o P
if-there None P each = tt
if-there (Some x) P each = each x refl

-- ---- an honest member

pub honest-fault : (fault : Fault) → is_faulty fault ≡ false → fault ≡ Honest
honest-fault Honest e = refl
honest-fault _ e = absurd (false≢true (sym e))

-- a member of a script behind deliveries
abbrev pub seat_with : Script → ℕ → List (List ℕ) → Seat
seat_with script member delivered = record (script_seat script member) { delivered = delivered }

pub plain-member : (script : Script) (member : ℕ) → fault_in script.faults member ≡ Honest
    → IsPlain (faulty_replies (faulty_member (fault_in script.faults member) member))
plain-member script member honest =
    subst (λ (f : Fault). IsPlain (faulty_replies (faulty_member f member))) (sym honest) (honest-plain member None)

pub outcome-is : (script : Script) (member : ℕ) (delivered : List (List ℕ)) → IsScript script → IsMemberOf script member
    → fault_in script.faults member ≡ Honest → All IsBytes delivered
    → outcome_of (script_configuration script member) (actor_of (seat_with script member delivered))
    ≡ result_of (script_configuration script member) delivered
outcome-is script member delivered is of honest are =
    (plain_comes_to_result (faulty_replies (faulty_member (fault_in script.faults member) member)) (script_configuration script member)
    delivered (plain-member script member honest) (can-enter script member is of) are).outcome

kept-at : (script : Script) (member : ℕ) (delivered : List (List ℕ)) → IsScript script → IsMemberOf script member
    → fault_in script.faults member ≡ Honest → All IsBytes delivered → KeepsItsPromise script (shown_of (seat_with script member delivered))
unfolding shown_of
kept-at script member delivered is of honest are =
    let c : Configuration = script_configuration script member in
    let out : Outcome = outcome_of c (actor_of (seat_with script member delivered)) in
    let same : out ≡ result_of c delivered = outcome-is script member delivered is of honest are in
    let enters = configured script member is of in
    record {
      member = of;
      bytes = are;
      result = ap state_of same;
      slots_are = ap slots_shown same;
      evidence_is = ap evidence_shown same;
      runs = never-stopped out;
      done = done-slots out;
      promise = subst (KeepsPromise c delivered) (sym (ap state_of same)) (promised c delivered enters are);
      messages = if-there (slots_shown out) (HoldsMessages c delivered)
          (λ slots e. holds-messages c delivered slots (e ∙ ap slots_shown same));
      one_list = if-there (slots_shown out) (IsOneList c delivered) (λ slots e. one-list c delivered slots (e ∙ ap slots_shown same));
      convicts = if-there (evidence_shown out) (IsEvidence c delivered (state_of out))
          (λ bytes e. shown-evidence c delivered (state_of out) bytes enters are (ap state_of same) (e ∙ ap evidence_shown same));
    }

pub shown-faulty : (seat : Seat) → (shown_of seat).faulty ≡ is_faulty seat.fault
unfolding shown_of
shown-faulty seat = refl

-- an honest member that is shown, with its number and what was delivered to it
pub record IsHonestAt (script : Script) (shown : MemberShown) : Type 0 where
  pub member : ℕ
  pub of : IsMemberOf script member
  pub delivered : List (List ℕ)
  pub are : All IsBytes delivered
  pub honest : fault_in script.faults member ≡ Honest
  pub is : shown_of (seat_with script member delivered) ≡ shown

pub honest-at : (script : Script) (shown : MemberShown) → IsScript script → IsHonestIn script shown → IsHonestAt script shown
honest-at script shown is in_it =
    let at = shown-at script shown is in_it.listed in
    let same = at.of.same in
    record {
      member = at.of.member;
      of = at.of.is;
      delivered = at.seat.delivered;
      are = all-places IsBytes at.seat.delivered at.bytes;
      honest = sym (ap (λ (s : Seat). s.fault) same) ∙ honest-fault at.seat.fault
          (sym (shown-faulty at.seat) ∙ ap (λ (s : MemberShown). s.faulty) at.is ∙ in_it.honest);
      is = ap shown_of (sym same) ∙ at.is;
    }

pub members_keep_their_promise : MembersKeepTheirPromise
members_keep_their_promise script shown is in_it =
    let at = honest-at script shown is in_it in
    subst (KeepsItsPromise script) at.is (kept-at script at.member at.delivered is at.of at.honest at.are)
