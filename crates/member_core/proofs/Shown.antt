-- What a member shows is what the pure machine comes to.
use Rattle.std.proofs.Common.{◌≡◌, ℕ, List, true, Some, ap, sym, ◌∙◌, refl}
use Rattle.std.specs.Prelude.{if◌then◌else◌}
use Rattle.std.proofs.lemmas.Bool.{cond-true}
use Rattle.stage_log.specs.Table.{Log, missing_bits}
use Rattle.bulk_descriptor.specs.declared.slot_state.SlotState.{SlotState}
use Rattle.closing_verdict.specs.declared.convicting.Conviction.{Conviction}
use Rattle.round_spec.specs.Course.{is_open}
use Rattle.round_spec.specs.Result.{Outcome, Waiting as WaitingFor, Blamed as BlamedBy, DoneWith, outcome_ended, posts_of, result_of}
use Rattle.round_spec.specs.Say.{Configuration}
use Rattle.round_spec.specs.Verdict.{Verdict, Goes, Done as DoneVerdict, Convicts}
use Rattle.member_spec.specs.declared.state.State.TheVariants.{Waiting, Done as StateDone, Blamed as StateBlamed}
use Rattle.member_spec.specs.Actor.{Actor, actor_after}
use Rattle.member_spec.specs.Outcomes.{evidence_shown, members_missing, outcome_of, slots_shown, state_of}
use Rattle.member_spec.specs.Plain.{ComesTo}
use Rattle.member_spec.specs.Replies.{IsPlain, Replies}
use Rattle.member_spec.proofs.PlainLaws.{plain_comes_to_result}
use Rattle.member_spec.proofs.Standing.{open_stand_at_first}
use Rattle.member_parts.specs.declared.ending.Ending.{Ending}
use Rattle.member_parts.specs.declared.ending.Ending.TheVariants.{Open, Done, Blamed, Stopped}
use Rattle.member_parts.specs.Endings.{IsOpen, evidence_held, slots_held}
use Rattle.member_core.specs.Membership.{Holdings, Membership, posts_made, state_by}
use Rattle.member_core.specs.Stands.{IsAt, ShowsOutcome, Stands}

-- ---- open

-- the outcome by a verdict
abbrev outcome_when : Configuration → Actor → Verdict → Outcome
outcome_when c a v = if is_open v then WaitingFor a.stand.at (members_missing c a) else outcome_ended c a.stand v

open-by : (c : Configuration) (a : Actor) (v : Verdict) → ShowsOutcome Open (outcome_when c a v) → is_open v ≡ true
open-by c a Goes shows = refl
open-by c a DoneVerdict shows = absurd shows
open-by c a (Convicts transcript) shows = absurd shows

open-shown : (ending : Ending) (c : Configuration) (a : Actor) → IsOpen ending → ShowsOutcome ending (outcome_of c a)
    → is_open a.ending ≡ true
open-shown Open c a going shows = open-by c a a.ending shows
open-shown (Done slots) c a going shows = absurd going
open-shown (Blamed conviction) c a going shows = absurd going
open-shown Stopped c a going shows = absurd going

-- where nothing has ended the round, the pure machine goes on
pub goes-on : (c : Configuration) (a : Actor) (h : Holdings) → IsAt c a h → IsOpen h.ending → is_open a.ending ≡ true
goes-on c a h at going = open-shown h.ending c a going at.ending

-- and shows that it waits
pub open-outcome : (c : Configuration) (a : Actor) → is_open a.ending ≡ true → outcome_of c a ≡ WaitingFor a.stand.at (members_missing c a)
open-outcome c a still = cond-true (is_open a.ending) (WaitingFor a.stand.at (members_missing c a)) (outcome_ended c a.stand a.ending) still

pub shows-open : (c : Configuration) (a : Actor) → is_open a.ending ≡ true → ShowsOutcome Open (outcome_of c a)
shows-open c a still = open-waits a.ending still
  where
    open-waits : (v : Verdict) → is_open v ≡ true → ShowsOutcome Open (outcome_when c a v)
    open-waits Goes e = tt
    open-waits DoneVerdict e = absurd cc
    open-waits (Convicts transcript) e = absurd cc

-- ---- the state

done-shown : (slots : List SlotState) (o : Outcome) → ShowsOutcome (Done slots) o → StateDone ≡ state_of o
done-shown slots (WaitingFor stage members) shows = absurd shows
done-shown slots (BlamedBy transcript) shows = absurd shows
done-shown slots (DoneWith states) shows = refl

blamed-shown : (conviction : Conviction) (o : Outcome) → ShowsOutcome (Blamed conviction) o
    → StateBlamed conviction.accused conviction.claim ≡ state_of o
blamed-shown conviction (WaitingFor stage members) shows = absurd shows
blamed-shown conviction (BlamedBy transcript) shows =
    ap (λ (n : ℕ). StateBlamed n conviction.claim) shows.0 ∙ ap (StateBlamed transcript.accused) shows.1
blamed-shown conviction (DoneWith states) shows = absurd shows

stopped-shown : (o : Outcome) → ShowsOutcome Stopped o → ⊥
stopped-shown (WaitingFor stage members) shows = shows
stopped-shown (BlamedBy transcript) shows = shows
stopped-shown (DoneWith states) shows = shows

pub state-shown : (start : Replies) (c : Configuration) (delivered : List (List ℕ)) (h : Holdings)
    → IsAt c (actor_after start c delivered) h → state_by h h.ending ≡ state_of (outcome_of c (actor_after start c delivered))
state-shown start c delivered h at = by_end h.ending at.ending
  where
    a : Actor
    a = actor_after start c delivered

    by_end : (ending : Ending) → ShowsOutcome ending (outcome_of c (actor_after start c delivered))
        → state_by h ending ≡ state_of (outcome_of c (actor_after start c delivered))
    by_end Open shows =
        let still = open-shown Open c (actor_after start c delivered) tt shows in
        let bits = (open_stand_at_first start c delivered still).bits in
        ap (λ (n : ℕ). Waiting n (missing_bits h.log n)) at.stage
        ∙ ap (λ (log : Log). Waiting a.stand.at (missing_bits log a.stand.at)) at.log
        ∙ sym (ap (Waiting a.stand.at) bits) ∙ sym (ap state_of (open-outcome c (actor_after start c delivered) still))
    by_end (Done slots) shows = done-shown slots (outcome_of c (actor_after start c delivered)) shows
    by_end (Blamed conviction) shows = blamed-shown conviction (outcome_of c (actor_after start c delivered)) shows
    by_end Stopped shows = absurd (stopped-shown (outcome_of c (actor_after start c delivered)) shows)

-- ---- the slots and the transcript

slots-when : (ending : Ending) (o : Outcome) → ShowsOutcome ending o → slots_held ending ≡ slots_shown o
slots-when Open (WaitingFor stage members) shows = refl
slots-when Open (BlamedBy transcript) shows = absurd shows
slots-when Open (DoneWith states) shows = absurd shows
slots-when (Done slots) (WaitingFor stage members) shows = absurd shows
slots-when (Done slots) (BlamedBy transcript) shows = absurd shows
slots-when (Done slots) (DoneWith states) shows = ap (λ (xs : List SlotState). Some xs) shows
slots-when (Blamed conviction) (WaitingFor stage members) shows = absurd shows
slots-when (Blamed conviction) (BlamedBy transcript) shows = refl
slots-when (Blamed conviction) (DoneWith states) shows = absurd shows
slots-when Stopped o shows = absurd (stopped-shown o shows)

evidence-when : (ending : Ending) (o : Outcome) → ShowsOutcome ending o → evidence_held ending ≡ evidence_shown o
evidence-when Open (WaitingFor stage members) shows = refl
evidence-when Open (BlamedBy transcript) shows = absurd shows
evidence-when Open (DoneWith states) shows = absurd shows
evidence-when (Done slots) (WaitingFor stage members) shows = absurd shows
evidence-when (Done slots) (BlamedBy transcript) shows = absurd shows
evidence-when (Done slots) (DoneWith states) shows = refl
evidence-when (Blamed conviction) (WaitingFor stage members) shows = absurd shows
evidence-when (Blamed conviction) (BlamedBy transcript) shows = ap (λ (xs : List ℕ). Some xs) shows.2
evidence-when (Blamed conviction) (DoneWith states) shows = absurd shows
evidence-when Stopped o shows = absurd (stopped-shown o shows)

-- ---- of a plain conduct

-- what a member comes to that stands for deliveries with a plain conduct
pub stands-comes : {A : Type 0} (replies_of : A → Replies) (start : Replies) (c : Configuration) (delivered : List (List ℕ))
    (m : Membership A)
    → Stands replies_of start c delivered m → IsPlain start → ComesTo c delivered (actor_after start c delivered)
stands-comes replies_of start c delivered m is plain = plain_comes_to_result start c delivered plain is.stands.can_enter is.strings

pub plain-state : {A : Type 0} (replies_of : A → Replies) (start : Replies) (c : Configuration) (delivered : List (List ℕ))
    (m : Membership A)
    → Stands replies_of start c delivered m → IsPlain start → state_by m.holds m.holds.ending ≡ state_of (result_of c delivered)
plain-state replies_of start c delivered m is plain =
    state-shown start c delivered m.holds is.stands.at ∙ ap state_of (stands-comes replies_of start c delivered m is plain).outcome

pub plain-slots : {A : Type 0} (replies_of : A → Replies) (start : Replies) (c : Configuration) (delivered : List (List ℕ))
    (m : Membership A)
    → Stands replies_of start c delivered m → IsPlain start → slots_held m.holds.ending ≡ slots_shown (result_of c delivered)
plain-slots replies_of start c delivered m is plain =
    slots-when m.holds.ending (outcome_of c (actor_after start c delivered)) is.stands.at.ending
    ∙ ap slots_shown (stands-comes replies_of start c delivered m is plain).outcome

pub plain-evidence : {A : Type 0} (replies_of : A → Replies) (start : Replies) (c : Configuration) (delivered : List (List ℕ))
    (m : Membership A)
    → Stands replies_of start c delivered m → IsPlain start → evidence_held m.holds.ending ≡ evidence_shown (result_of c delivered)
plain-evidence replies_of start c delivered m is plain =
    evidence-when m.holds.ending (outcome_of c (actor_after start c delivered)) is.stands.at.ending
    ∙ ap evidence_shown (stands-comes replies_of start c delivered m is plain).outcome

pub plain-made : {A : Type 0} (replies_of : A → Replies) (start : Replies) (c : Configuration) (delivered : List (List ℕ))
    (m : Membership A)
    → Stands replies_of start c delivered m → IsPlain start → posts_made m.holds ≡ posts_of c delivered
plain-made replies_of start c delivered m is plain = is.stands.at.made ∙ (stands-comes replies_of start c delivered m is plain).posts
