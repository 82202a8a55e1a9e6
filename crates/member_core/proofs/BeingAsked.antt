-- A member that is being asked: what becomes of its secrets and of its own by that.
use Rattle.std.proofs.Common.{◌≡◌, ℕ, ◌+◌, ◌≤◌, true, false, Bool, None, ap, sym, ◌∙◌, refl, subst, arith, rules, inl, inr}
use Rattle.std.specs.Prelude.{nat_lt, not, ◌&&◌, ◌==◌, if◌then◌else◌}
use Rattle.std.proofs.lemmas.Bool.{cases_eq, cond-false, cond-true, eq-eqb}
use Rattle.shuffle_blame.specs.Asked.{past_of}
use Rattle.round_spec.specs.Slots.{final_stage, submit_stage}
use Rattle.round_spec.specs.Say.{Configuration}
use Rattle.member_spec.specs.declared.mood.Mood.{Mood}
use Rattle.member_spec.specs.declared.mood.Mood.TheVariants.{Unasked, Spoken}
use Rattle.member_spec.specs.Actor.{Actor}
use Rattle.member_spec.specs.Replies.{Replies}
use Rattle.member_parts.specs.declared.own.Own.{Own}
use Rattle.member_parts.specs.declared.secrets.Secrets.{Secrets}
use Rattle.member_parts.specs.Endings.{is_going}
use Rattle.member_parts.specs.Secrets.{AreSecretsOf, without_bulk, without_shuffle}
use Rattle.member_core.specs.declared.machine.Machine.{Machine}
use Rattle.member_core.specs.Asking.{IsToBeAsked, StandsAsked, asked_at}
use Rattle.member_core.specs.Membership.{holdings_of}
use Rattle.member_core.specs.Needs.{HoldsNeeded, is_mute, needs, was_asked}
use Rattle.member_core.specs.Stands.{AnswersBy, GoesOn, IsOwnOf, KeepsOwn, StandsFor}
use Rattle.member_core.proofs.Changes.{at-mood, entry-with}

-- ---- what it was asked about

-- being asked at a stage changes nothing of the other stages
asked-other : (stage other : ℕ) → (other ≡ stage → ⊥) → was_asked stage Spoken other ≡ was_asked stage Unasked other
asked-other stage other apart = less stage other apart
  where
    less : (a b : ℕ) → (b ≡ a → ⊥) → nat_lt b (a + 1) ≡ nat_lt b a
    less a b apart = search rules

pub asked-here : (stage : ℕ) → was_asked stage Spoken stage ≡ true
asked-here stage = search rules

pub asked-same : (m : Machine) (other : ℕ) → IsToBeAsked m → (other ≡ m.stage → ⊥)
    → was_asked m.stage Spoken other ≡ was_asked m.stage m.mood other
asked-same m other asked apart = asked-other m.stage other apart ∙ ap (λ (mood : Mood). was_asked m.stage mood other) (sym asked.unasked)

-- ---- its secrets

-- so what other stages take is needed as before
pub needs-other : (m : Machine) (stage : ℕ) → IsToBeAsked m → (stage ≡ m.stage → ⊥)
    → needs (asked_at (holdings_of m) Spoken) stage ≡ needs (holdings_of m) stage
needs-other m stage asked apart =
    ap (λ (b : Bool). is_going m.ending && (not false && not b)) (asked-same m stage asked apart)
    ∙ ap (λ (mood : Mood). is_going m.ending && (not (is_mute mood) && not (was_asked m.stage m.mood stage))) (sym asked.unasked)

-- and what its stage takes is needed no more
pub needs-no_more : (m : Machine) → needs (asked_at (holdings_of m) Spoken) m.stage ≡ false
needs-no_more m = ap (λ (b : Bool). is_going m.ending && (not false && not b)) (asked-here m.stage) ∙ neither (is_going m.ending)
  where
    neither : (b : Bool) → (b && (not false && not true)) ≡ false
    neither true = refl
    neither false = refl

-- where no secret is taken, the same secrets are needed
pub needed-asked : (m : Machine) (own : Own) → IsToBeAsked m → HoldsNeeded (holdings_of m) → (final_stage m.log.shape 1 ≡ m.stage → ⊥)
    → (submit_stage m.log.shape 2 ≡ m.stage → ⊥) → (final_stage m.log.shape 2 ≡ m.stage → ⊥)
    → HoldsNeeded (asked_at (holdings_of (record m { own = own })) Spoken)
needed-asked m own asked needed first bulk second = record {
  first = needed.first ∙ sym (needs-other m (final_stage m.log.shape 1) asked first);
  bulk = needed.bulk ∙ sym (needs-other m (submit_stage m.log.shape 2) asked bulk);
  second = needed.second ∙ sym (needs-other m (final_stage m.log.shape 2) asked second);
}

-- the secrets of the messages are given up where they are needed no more
pub needed-bulk : (m : Machine) (own : Own) → IsToBeAsked m → HoldsNeeded (holdings_of m) → m.stage ≡ submit_stage m.log.shape 2
    → HoldsNeeded (asked_at (holdings_of (record m { secrets = without_bulk m.secrets; own = own })) Spoken)
needed-bulk m own asked needed at = record {
  first = needed.first ∙ sym (needs-other m (final_stage m.log.shape 1) asked (λ e. omega (arith, e, at)));
  bulk = sym (subst (λ (s : ℕ). needs (asked_at (holdings_of m) Spoken) s ≡ false) at (needs-no_more m));
  second = needed.second ∙ sym (needs-other m (final_stage m.log.shape 2) asked (λ e. omega (arith, e, at)));
}

-- and those of a shuffle
pub needed-shuffle : (m : Machine) (shuffle : ℕ) → IsToBeAsked m → HoldsNeeded (holdings_of m) → 1 ≤ shuffle → shuffle ≤ 2
    → m.stage ≡ final_stage m.log.shape shuffle
    → HoldsNeeded (asked_at (holdings_of (record m { secrets = without_shuffle m.secrets shuffle })) Spoken)
needed-shuffle m shuffle asked needed first last at = elim (cases_eq shuffle 1) [
  | inl one ↦
      let here : m.stage ≡ final_stage m.log.shape 1 = at ∙ ap (final_stage m.log.shape) one in
      subst (λ (s : Secrets). HoldsNeeded (asked_at (holdings_of (record m { secrets = s })) Spoken))
      (sym (cond-true (shuffle == 1) (record m.secrets { first = None }) (record m.secrets { second = None }) (eq-eqb shuffle 1 one)))
      (record {
        first = sym (subst (λ (s : ℕ). needs (asked_at (holdings_of m) Spoken) s ≡ false) here (needs-no_more m));
        bulk = needed.bulk ∙ sym (needs-other m (submit_stage m.log.shape 2) asked (λ e. omega (arith, e, here)));
        second = needed.second ∙ sym (needs-other m (final_stage m.log.shape 2) asked (λ e. omega (arith, e, here)));
      })
  | inr other ↦
      let two : shuffle ≡ 2 = omega arith in
      let here : m.stage ≡ final_stage m.log.shape 2 = at ∙ ap (final_stage m.log.shape) two in
      subst (λ (s : Secrets). HoldsNeeded (asked_at (holdings_of (record m { secrets = s })) Spoken))
      (sym (cond-false (shuffle == 1) (record m.secrets { first = None }) (record m.secrets { second = None })
      (ap (λ (s : ℕ). s == 1) two)))
      (record {
        first = needed.first ∙ sym (needs-other m (final_stage m.log.shape 1) asked (λ e. omega (arith, e, here)));
        bulk = needed.bulk ∙ sym (needs-other m (submit_stage m.log.shape 2) asked (λ e. omega (arith, e, here)));
        second = sym (subst (λ (s : ℕ). needs (asked_at (holdings_of m) Spoken) s ≡ false) here (needs-no_more m));
      })
]

-- what is left is of the same fresh bytes
pub secrets-bulk : (c : Configuration) (secrets : Secrets) → AreSecretsOf c secrets → AreSecretsOf c (without_bulk secrets)
secrets-bulk c secrets are = record { first = are.first; bulk = tt; second = are.second }

pub secrets-shuffle : (c : Configuration) (secrets : Secrets) (shuffle : ℕ) → AreSecretsOf c secrets
    → AreSecretsOf c (without_shuffle secrets shuffle)
secrets-shuffle c secrets shuffle are = by_case (shuffle == 1)
  where
    by_case : (b : Bool) → AreSecretsOf c (if b then record secrets { first = None } else record secrets { second = None })
    by_case true = record { first = tt; bulk = are.bulk; second = are.second }
    by_case false = record { first = are.first; bulk = are.bulk; second = tt }

-- ---- where it stands

-- with other secrets and other of its own, as one that was asked
pub asked-with : (now after start : Replies) (c : Configuration) (a : Actor) (m : Machine) (secrets : Secrets) (own : Own)
    → StandsFor now start c a (holdings_of m) → AreSecretsOf c secrets
    → AnswersBy after start c (past_of m.log 1) (was_asked m.stage Spoken 1)
    → IsOwnOf start c (asked_at (holdings_of (record m { secrets = secrets; own = own })) Spoken)
    → StandsAsked after start c a (holdings_of (record m { secrets = secrets; own = own }))
asked-with now after start c a m secrets own stands are answers keeps = record {
  can_enter = stands.can_enter;
  entered = entry-with c (holdings_of m) secrets stands.entered are;
  at = at-mood c a (holdings_of m) Spoken secrets own stands.at;
  conduct = answers;
  own = keeps;
}

-- its conduct goes on as it did where it was not asked about the descriptor just now
pub goes-on_as : (now start : Replies) (c : Configuration) (a : Actor) (m : Machine) → IsToBeAsked m
    → StandsFor now start c a (holdings_of m) → (1 ≡ m.stage → ⊥)
    → AnswersBy now start c (past_of m.log 1) (was_asked m.stage Spoken 1)
goes-on_as now start c a m asked stands apart =
    let before : AnswersBy now start c (past_of m.log 1) (was_asked m.stage m.mood 1) = subst (GoesOn now start c (holdings_of m))
    asked.unasked stands.conduct in
    subst (AnswersBy now start c (past_of m.log 1)) (sym (asked-same m 1 asked apart)) before

-- and what it made of its own is the same where it is not asked at a stage of submissions
pub own-asked : (now start : Replies) (c : Configuration) (a : Actor) (m : Machine) (secrets : Secrets) → IsToBeAsked m
    → StandsFor now start c a (holdings_of m) → (1 ≡ m.stage → ⊥)
    → (submit_stage m.log.shape 2 ≡ m.stage → ⊥) → IsOwnOf start c (asked_at (holdings_of (record m { secrets = secrets })) Spoken)
own-asked now start c a m secrets asked stands apart_a apart_b =
    let own : IsOwnOf start c (holdings_of m) = subst (KeepsOwn start c (holdings_of m)) asked.unasked stands.own in
    let a_same = asked-same m 1 asked apart_a in
    let b_same = asked-same m (submit_stage m.log.shape 2) asked apart_b in
    record {
      descriptor = λ was. own.descriptor (sym a_same ∙ was);
      pad = λ was. own.pad (sym a_same ∙ was);
      first = λ was not_yet. own.first (sym a_same ∙ was) (sym b_same ∙ not_yet);
      second = λ was. own.second (sym b_same ∙ was);
    }
