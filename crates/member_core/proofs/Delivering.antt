-- A delivery to a member whose round has ended, and for what a member stands behind one that it took.
use Rattle.std.proofs.Common.{[], ◌≡◌, ◌⊎◌, ℕ, zero, suc, false, List, ◌∷◌, ◌++◌, inl, inr, sym, ◌∙◌, refl, subst, arith}
use Rattle.std.specs.Prelude.{All, Result, Ok, if◌then◌else◌}
use Rattle.std.proofs.lemmas.Bool.{cond-false}
use Rattle.std.proofs.lemmas.List.Elements.{All-append}
use Rattle.std.proofs.lemmas.List.Sums.{fold-append}
use Rattle.std.specs.declared.alloc.AllocError.{AllocError}
use Rattle.wire_core.specs.Bytes.{IsBytes}
use Rattle.bulk_descriptor.specs.declared.slot_state.SlotState.{SlotState}
use Rattle.closing_verdict.specs.declared.convicting.Conviction.{Conviction}
use Rattle.round_spec.specs.Course.{is_open}
use Rattle.round_spec.specs.Result.{Outcome, Waiting as WaitingFor, Blamed as BlamedBy, DoneWith, outcome_ended}
use Rattle.round_spec.specs.Say.{Configuration}
use Rattle.round_spec.specs.Verdict.{Verdict, Goes, Done as DoneVerdict, Convicts}
use Rattle.member_spec.specs.declared.taken.Taken.{Taken}
use Rattle.member_spec.specs.declared.taken.Taken.TheVariants.{Evidence, Finished}
use Rattle.member_spec.specs.Actor.{Actor, actor_after, actor_at_start, actor_behind_delivery, actor_behind_steps, first_actor}
use Rattle.member_spec.specs.Outcomes.{members_missing, outcome_of}
use Rattle.member_spec.specs.Replies.{Replies}
use Rattle.member_spec.specs.Taking.{answer_to}
use Rattle.member_spec.proofs.Idle.{ended-delivery}
use Rattle.member_parts.specs.declared.ending.Ending.{Ending}
use Rattle.member_parts.specs.declared.ending.Ending.TheVariants.{Open, Done, Blamed, Stopped}
use Rattle.member_parts.specs.Endings.{HasEnded, IsOpen, IsOutOfMemory, IsRunning}
use Rattle.member_core.specs.Found.{TakesAs}
use Rattle.member_core.specs.Membership.{Membership}
use Rattle.member_core.specs.Stands.{ShowsOutcome, Stands, StandsFor}
use Rattle.member_core.proofs.Answering.{open-runs, runs-still}

-- ---- what has ended the round

pub has-ended : (ending : Ending) → ((slots : List SlotState) × (ending ≡ Done slots))
    ⊎ ((conviction : Conviction) × (ending ≡ Blamed conviction))
    → HasEnded ending
has-ended ending (inl done) = subst HasEnded (sym done.1) tt
has-ended ending (inr blamed) = subst HasEnded (sym blamed.1) tt

pub ended-runs : (ending : Ending) → HasEnded ending → IsRunning ending
ended-runs Open is = absurd is
ended-runs (Done slots) is = tt
ended-runs (Blamed conviction) is = tt
ended-runs Stopped is = absurd is

pub ended-stops : (ending : Ending) → HasEnded ending → IsOutOfMemory ending → ⊥
ended-stops ending is = runs-still ending (ended-runs ending is)

pub ended-open : (ending : Ending) → HasEnded ending → IsOpen ending → ⊥
ended-open Open is going = is
ended-open (Done slots) is going = going
ended-open (Blamed conviction) is going = going
ended-open Stopped is going = is

pub open-stops : (ending : Ending) → IsOpen ending → IsOutOfMemory ending → ⊥
open-stops ending going = runs-still ending (open-runs ending going)

pub stopped-ended : (ending : Ending) → IsOutOfMemory ending → HasEnded ending → ⊥
stopped-ended ending stopped is = ended-stops ending is stopped

-- the outcome by a verdict
abbrev outcome_when : Configuration → Actor → Verdict → Outcome
outcome_when c a v = if is_open v then WaitingFor a.stand.at (members_missing c a) else outcome_ended c a.stand v

closed-by : (ending : Ending) (c : Configuration) (a : Actor) (v : Verdict) → HasEnded ending → ShowsOutcome ending (outcome_when c a v)
    → is_open v ≡ false
closed-by ending c a DoneVerdict is shows = refl
closed-by ending c a (Convicts transcript) is shows = refl
closed-by Open c a Goes is shows = absurd is
closed-by (Done slots) c a Goes is shows = absurd shows
closed-by (Blamed conviction) c a Goes is shows = absurd shows
closed-by Stopped c a Goes is shows = absurd is

-- where it has ended, so has that of the pure machine
pub ended-closed : {A : Type 0} (replies_of : A → Replies) (start : Replies) (c : Configuration) (delivered : List (List ℕ))
    (m : Membership A)
    → Stands replies_of start c delivered m → HasEnded m.holds.ending → is_open (actor_after start c delivered).ending ≡ false
ended-closed replies_of start c delivered m stands is =
    closed-by m.holds.ending c (actor_after start c delivered) (actor_after start c delivered).ending is stands.stands.at.ending

stopped-shows : (o : Outcome) → ShowsOutcome Stopped o → ⊥
stopped-shows (WaitingFor stage members) shows = shows
stopped-shows (BlamedBy transcript) shows = shows
stopped-shows (DoneWith states) shows = shows

-- a member that is stopped stands for nothing
pub stopped-stands : {A : Type 0} (replies_of : A → Replies) (start : Replies) (c : Configuration) (delivered : List (List ℕ))
    (m : Membership A)
    → Stands replies_of start c delivered m → IsOutOfMemory m.holds.ending → ⊥
stopped-stands replies_of start c delivered m stands is = by_ending m.holds.ending is stands.stands.at.ending
  where
    by_ending : (ending : Ending) → IsOutOfMemory ending → ShowsOutcome ending (outcome_of c (actor_after start c delivered)) → ⊥
    by_ending Open is shows = is
    by_ending (Done slots) is shows = is
    by_ending (Blamed conviction) is shows = is
    by_ending Stopped is shows = stopped-shows (outcome_of c (actor_after start c delivered)) shows

-- ---- one delivery more

one-more : (start : Replies) (c : Configuration) (delivered : List (List ℕ)) (bytes : List ℕ)
    → actor_after start c (delivered ++ bytes ∷ []) ≡ actor_behind_delivery start c (actor_after start c delivered) bytes
unfolding actor_after
one-more start c delivered bytes = fold-append (actor_behind_delivery start c) (actor_at_start start c) delivered (bytes ∷ [])

one-bytes : (bytes : List ℕ) → IsBytes bytes → All IsBytes (bytes ∷ [])
one-bytes bytes are zero d lt = are
one-bytes bytes are (suc k) d lt = absurd (omega (arith, lt))

more-bytes : (delivered : List (List ℕ)) (bytes : List ℕ) → All IsBytes delivered → IsBytes bytes → All IsBytes (delivered ++ bytes ∷ [])
more-bytes delivered bytes all are = All-append IsBytes delivered (bytes ∷ []) all (one-bytes bytes are)

-- behind a delivery that was taken a member stands for the deliveries with this one
pub taken-stands : {A : Type 0} (replies_of : A → Replies) (start : Replies) (c : Configuration) (delivered : List (List ℕ))
    (bytes : List ℕ)
    (taken : Taken) (new : Membership A)
    → All IsBytes delivered → IsBytes bytes → TakesAs (replies_of new.conduct) start c delivered bytes new.holds taken
    → Stands replies_of start c (delivered ++ bytes ∷ []) new
taken-stands replies_of start c delivered bytes taken new all are takes = record {
  strings = more-bytes delivered bytes all are;
  stands = subst (λ (a : Actor). StandsFor (replies_of new.conduct) start c a new.holds) (sym (one-more start c delivered bytes))
      takes.stands;
}

-- and so it does where its round had ended, which changes nothing
pub ended-stands : {A : Type 0} (replies_of : A → Replies) (start : Replies) (c : Configuration) (delivered : List (List ℕ))
    (bytes : List ℕ)
    (m : Membership A)
    → IsBytes bytes → HasEnded m.holds.ending → Stands replies_of start c delivered m
    → Stands replies_of start c (delivered ++ bytes ∷ []) m
ended-stands replies_of start c delivered bytes m are is stands = record {
  strings = more-bytes delivered bytes stands.strings are;
  stands = subst (λ (a : Actor). StandsFor (replies_of m.conduct) start c a m.holds)
      (sym (one-more start c delivered bytes ∙ ended-delivery start c (actor_after start c delivered) bytes
      (ended-closed replies_of start c delivered m stands is))) stands.stands;
}

pub ended-answer : {A : Type 0} (replies_of : A → Replies) (start : Replies) (c : Configuration) (delivered : List (List ℕ))
    (bytes : List ℕ)
    (m : Membership A)
    → HasEnded m.holds.ending → Stands replies_of start c delivered m → Finished ≡ answer_to start c (actor_after start c delivered) bytes
unfolding answer_to
ended-answer replies_of start c delivered bytes m is stands =
    sym (cond-false (is_open (actor_after start c delivered).ending) _ Finished (ended-closed replies_of start c delivered m stands is))

-- ---- results

pub ok-same : (a b : Taken) → (let told : Taken → Result Taken AllocError = λ z. Ok z in told a ≡ told b) → a ≡ b
ok-same a b e = cc

pub ended-not-evidence : Finished ≡ Evidence → ⊥
ended-not-evidence e = cc

-- ---- the start

no-strings : All IsBytes []
no-strings k d lt = absurd (omega (arith, lt))

at-start : (start : Replies) (c : Configuration) → actor_after start c [] ≡ actor_behind_steps start c (first_actor c)
unfolding actor_after
at-start start c = refl

-- a member that has entered and gone on stands for no deliveries
pub started-stands : {A : Type 0} (replies_of : A → Replies) (start : Replies) (c : Configuration) (m : Membership A)
    → StandsFor (replies_of m.conduct) start c (actor_behind_steps start c (first_actor c)) m.holds → Stands replies_of start c [] m
started-stands replies_of start c m is = record {
  strings = no-strings;
  stands = subst (λ (a : Actor). StandsFor (replies_of m.conduct) start c a m.holds) (sym (at-start start c)) is;
}
