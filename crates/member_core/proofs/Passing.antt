-- Going past a stage that is complete: what a member holds behind it.
use Rattle.std.proofs.Common.{◌≡◌, ◌⊎◌, ℕ, ◌+◌, ◌<◌, ◌≤◌, Bool, true, false, List, ◌++◌, take, Option, Some, None, Vec, Global, ap, sym, ◌∙◌, refl, subst, arith, inl, inr}
use Rattle.std.specs.Prelude.{IsSome, is_some, nat_lt, not, ◌&&◌}
use Rattle.std.specs.List.{slice_range}
use Rattle.std.specs.Option.{option_map}
use Rattle.std.proofs.lemmas.Bool.{cases_Bool, cases_lt, false_from_ne_true, lt-ltb, ltb-true}
use Rattle.phase_message.specs.declared.post.Post.{Post}
use Rattle.phase_message.specs.Slots.{slots_before, stage_count}
use Rattle.phase_message.specs.Stages.{is_slot}
use Rattle.phase_message.proofs.SlotLists.{slots_before-rises}
use Rattle.stage_log.specs.declared.seen.Seen.{Seen}
use Rattle.stage_log.specs.Log.{all_some, before}
use Rattle.stage_log.specs.Seen.{HasSeen}
use Rattle.stage_log.specs.Table.{Log, is_complete, posts_in}
use Rattle.stage_log.proofs.Fronts.{before-complete, before-front, complete-before, front-next, some_is}
use Rattle.stage_log.proofs.Pasts.{all_some-map, posts_in-past}
use Rattle.shuffle_blame.specs.Asked.{past_of}
use Rattle.round_spec.specs.Say.{Configuration}
use Rattle.round_spec.specs.Slots.{final_stage, submit_stage}
use Rattle.honest_say.specs.declared.group_keys.GroupKeys.{GroupKeys}
use Rattle.honest_say.specs.declared.opening.Slots.{Slots}
use Rattle.honest_say.proofs.PastLemmas.{kept-post}
use Rattle.honest_say.proofs.StageLemmas.{final-slot, submit-slot}
use Rattle.closing_verdict.specs.Carried.{CarriesOpened, CarriesSlots, stage_found, stage_opened}
use Rattle.member_spec.specs.declared.mood.Mood.{Mood}
use Rattle.member_spec.specs.declared.mood.Mood.TheVariants.{Unasked, PutOff, Spoken, Mute}
use Rattle.member_parts.specs.declared.ending.Ending.{Ending}
use Rattle.member_parts.specs.declared.secrets.Secrets.{Secrets}
use Rattle.member_parts.specs.Endings.{is_going}
use Rattle.member_parts.specs.Secrets.{AreSecretsOf, no_secrets}
use Rattle.member_core.specs.declared.machine.Machine.{Machine}
use Rattle.member_core.specs.Membership.{holdings_of}
use Rattle.member_core.specs.Needs.{HoldsNeeded, is_mute, needs, was_asked}
use Rattle.member_core.specs.Sound.{CarriesKeys, IsEmptyFrom, IsFormed, IsMoodOf, IsReady}
use Rattle.member_core.proofs.Belonging.{IsOfGroup, of-group}
use Rattle.member_core.proofs.Changes.{formed-else, held-with}

-- ---- the posts

-- the posts of a complete stage, behind those before it
pub record NextPast (log : Log) (stage : ℕ) (past : List Post) : Type 0 where
  pub posts : List Post
  pub here : all_some (posts_in log stage) ≡ Some posts
  pub next : before log (stage + 1) ≡ Some (past ++ posts)

some-same : {A : Type 0} (x y : A) → (let some : A → Option A = λ z. Some z in some x ≡ some y) → x ≡ y
some-same x y e = cc

pub next-past : (log : Log) (stage : ℕ) (past : List Post) → before log stage ≡ Some past → is_complete log stage ≡ true
    → NextPast log stage past
next-past log stage past e full =
    let a : ℕ = slots_before log.shape stage in
    let b : ℕ = slots_before log.shape (stage + 1) in
    let posts : List Post = all.0 in
    let front = before-front log stage (stage + 1) posts (omega arith) all.1 in
    let past-is : past ≡ take a posts = some-same past (take a posts) (sym e ∙ front) in
    let rises : a ≤ b = slots_before-rises log.shape stage (stage + 1) (omega arith) in
    record {
      posts = slice_range posts a b;
      here = ap all_some (posts_in-past log stage (stage + 1) posts (omega arith) all.1) ∙ all_some-map (slice_range posts a b);
      next = before-front log (stage + 1) (stage + 1) posts (omega arith) all.1
          ∙ ap (λ (ps : List Post). Some ps) (front-next posts a b rises
          ∙ ap (λ (ps : List Post). ps ++ slice_range posts a b) (sym past-is));
    }
  where
    all : (posts : List Post) × (before log (stage + 1) ≡ Some posts)
    all = before-complete log (stage + 1) (λ earlier lt. elim (cases_lt earlier stage) [
      | inl less ↦ complete-before log stage earlier (some_is (before log stage) past e) less
      | inr le ↦ (let same : stage ≡ earlier = omega arith in subst (λ (s : ℕ). is_complete log s ≡ true) same full)
    ])

-- ---- its mood

-- behind a complete stage a member has spoken there, or it does not speak there
pub spoken-or-silent : (m : Machine) → IsFormed m → IsReady m → IsSome (before m.log (m.stage + 1))
    → (m.mood ≡ Spoken) ⊎ ((m.mood ≡ Unasked) × (is_slot m.log.shape m.stage m.seat.number ≡ false))
spoken-or-silent m formed ready there = by_mood m.mood refl ready.mood
  where
    empty : is_slot m.log.shape m.stage m.seat.number ≡ true → IsEmptyFrom m.log m.seat.number m.stage → ⊥
    empty speaks none =
        let kept = kept-post m.log (m.stage + 1) (record { stage = m.stage; sender = m.seat.number }) formed.log there speaks (omega arith)
        in
        let both : None ≡ Some kept.0 = sym (none m.stage (omega arith)) ∙ kept.1 in
        cc

    by_mood : (mood : Mood) → m.mood ≡ mood → IsMoodOf m mood → (m.mood ≡ Spoken)
        ⊎ ((m.mood ≡ Unasked) × (is_slot m.log.shape m.stage m.seat.number ≡ false))
    by_mood Spoken e is = inl e
    by_mood Unasked e is = elim (cases_Bool (is_slot m.log.shape m.stage m.seat.number)) [
      | inl speaks ↦ absurd (empty speaks is.0)
      | inr silent ↦ inr (e, silent)
    ]
    by_mood (PutOff bytes) e is = absurd (empty is.2.speaks is.0)
    by_mood Mute e is = absurd (empty is.1 is.0)

less-next : (a b : ℕ) → (a ≡ b → ⊥) → nat_lt a (b + 1) ≡ nat_lt a b
less-next a b apart = elim (cases_lt a b) [
  | inl lt ↦ lt-ltb a (b + 1) (omega arith) ∙ sym (lt-ltb a b lt)
  | inr le ↦
      false_from_ne_true (nat_lt a (b + 1)) (λ e. (let lt = ltb-true a (b + 1) e in apart (omega arith)))
      ∙ sym (false_from_ne_true (nat_lt a b) (λ e. (let lt = ltb-true a b e in omega arith)))
]

-- it was asked at the same stages at which it speaks, once this one is passed
pub asked-behind : (m : Machine) (other : ℕ) → IsFormed m → IsReady m → IsSome (before m.log (m.stage + 1))
    → is_slot m.log.shape other m.seat.number ≡ true
    → was_asked (m.stage + 1) Unasked other ≡ was_asked m.stage m.mood other
asked-behind m other formed ready there speaks = elim (spoken-or-silent m formed ready there) [
  | inl spoken ↦ sym (ap (λ (mood : Mood). was_asked m.stage mood other) spoken)
  | inr silent ↦
      less-next other m.stage (λ same. (let both : true ≡ false = sym speaks ∙ ap (λ (s : ℕ). is_slot m.log.shape s m.seat.number) same
      ∙ silent.1 in cc))
      ∙ sym (ap (λ (mood : Mood). was_asked m.stage mood other) silent.0)
]

pub not-mute : (m : Machine) → IsFormed m → IsReady m → IsSome (before m.log (m.stage + 1)) → is_mute m.mood ≡ false
not-mute m formed ready there = elim (spoken-or-silent m formed ready there)
    [ inl spoken ↦ ap is_mute spoken | inr silent ↦ ap is_mute silent.0 ]

-- ---- behind the stage

-- what it holds behind the stage, with these keys, what was seen, the secrets that are left, what it carries, and what ended
-- the round
abbrev pub machine_past : Machine → Option GroupKeys → Seen → Secrets → Option (Vec (Option (List ℕ)) Global) → Option Slots → Ending
    → Machine
machine_past m keys seen secrets opened slots ending = record m {
  keys = keys;
  seen = seen;
  stage = m.stage + 1;
  mood = Unasked;
  secrets = secrets;
  opened = opened;
  slots = slots;
  ending = ending;
}

pub formed-past : (m : Machine) (keys : Option GroupKeys) (seen : Seen) (secrets : Secrets) (opened : Option (Vec (Option (List ℕ)) Global))
    (slots : Option Slots)
    (ending : Ending) → IsFormed m → ((c : Configuration) → AreSecretsOf c m.secrets → AreSecretsOf c secrets)
    → IsFormed (machine_past m keys seen secrets opened slots ending)
formed-past m keys seen secrets opened slots ending formed left =
    let c : Configuration = formed.entered.0 in
    formed-else m secrets m.own seen (m.stage + 1) Unasked keys opened slots ending
    (c, held-with c m secrets formed.entered.1 (left c formed.entered.1.secrets)) formed

-- what it is to carry, where the round goes on
pub record AreCarried (m : Machine) (keys : Option GroupKeys) (seen : Seen) (opened : Option (Vec (Option (List ℕ)) Global))
    (slots : Option Slots) : Type 0 where
  pub seen_is : HasSeen m.log.shape (past_of m.log (m.stage + 1)) (m.stage + 1) seen
  pub keys_are : CarriesKeys m.log (m.stage + 1) keys
  pub opened_is : CarriesOpened m.log (m.stage + 1) (option_map (λ items. items.items) opened)
  pub opened_behind : IsSome opened → stage_opened m.log ≤ m.stage + 1
  pub slots_are : CarriesSlots m.log (m.stage + 1) slots
  pub slots_behind : IsSome slots → stage_found m.log ≤ m.stage + 1

pub ready-past : (m : Machine) (keys : Option GroupKeys) (seen : Seen) (secrets : Secrets) (opened : Option (Vec (Option (List ℕ)) Global))
    (slots : Option Slots)
    (ending : Ending) → IsFormed m → IsReady m → m.stage < stage_count m.log.shape → IsSome (before m.log (m.stage + 1))
    → AreCarried m keys seen opened slots → IsReady (machine_past m keys seen secrets opened slots ending)
ready-past m keys seen secrets opened slots ending formed ready within there carried = record {
  stage = omega (arith, within);
  past = there;
  seen = carried.seen_is;
  keys = carried.keys_are;
  opened = carried.opened_is;
  slots = carried.slots_are;
  keys_behind = λ is. omega arith;
  opened_behind = carried.opened_behind;
  slots_behind = carried.slots_behind;
  mood = by_mood (spoken-or-silent m formed ready there);
}
  where
    by_mood : (m.mood ≡ Spoken) ⊎ ((m.mood ≡ Unasked) × (is_slot m.log.shape m.stage m.seat.number ≡ false))
        → IsEmptyFrom m.log m.seat.number (m.stage + 1) × (m.stray ≡ None)
    by_mood (inl spoken) = (let is : IsMoodOf m Spoken = subst (IsMoodOf m) spoken ready.mood in (is.0, is.1))
    by_mood (inr silent) =
        let is : IsMoodOf m Unasked = subst (IsMoodOf m) silent.0 ready.mood in
        (λ later le. is.0 later (omega arith), is.1)

-- ---- its secrets

same-need : (m : Machine) (other : ℕ) → IsFormed m → IsReady m → IsSome (before m.log (m.stage + 1))
    → is_slot m.log.shape other m.seat.number ≡ true
    → needs (holdings_of m) other ≡ (is_going m.ending && (not (is_mute Unasked) && not (was_asked (m.stage + 1) Unasked other)))
same-need m other formed ready there speaks =
    ap (λ (b : Bool). is_going m.ending && (not b && not (was_asked m.stage m.mood other))) (not-mute m formed ready there)
    ∙ ap (λ (b : Bool). is_going m.ending && (not false && not b)) (sym (asked-behind m other formed ready there speaks))

-- those that it needed before are needed as long as the round goes on
pub needed-past : (m : Machine) (keys : Option GroupKeys) (seen : Seen) (opened : Option (Vec (Option (List ℕ)) Global))
    (slots : Option Slots)
    → IsFormed m → IsReady m → IsSome (before m.log (m.stage + 1)) → HoldsNeeded (holdings_of m)
    → HoldsNeeded (holdings_of (machine_past m keys seen m.secrets opened slots m.ending))
needed-past m keys seen opened slots formed ready there needed =
    let group : IsOfGroup m = of-group m formed in
    record {
      first = needed.first ∙ same-need m (final_stage m.log.shape 1) formed ready there
          (final-slot m.log.shape 1 m.seat.number (omega arith) (omega arith) group.first group.last);
      bulk = needed.bulk ∙ same-need m (submit_stage m.log.shape 2) formed ready there
          (submit-slot m.log.shape 2 m.seat.number (omega arith) (omega arith) group.first group.last);
      second = needed.second ∙ same-need m (final_stage m.log.shape 2) formed ready there
          (final-slot m.log.shape 2 m.seat.number (omega arith) (omega arith) group.first group.last);
    }

none-needed : (going mute asked : Bool) → going ≡ false → false ≡ (going && (not mute && not asked))
none-needed false mute asked e = refl
none-needed true mute asked e = absurd cc

-- and none where it has ended
pub needed-ended : (m : Machine) → is_going m.ending ≡ false → m.secrets ≡ no_secrets → HoldsNeeded (holdings_of m)
needed-ended m ended none = record {
  first = ap (λ (s : Secrets). is_some s.first) none
      ∙ none-needed (is_going m.ending) (is_mute m.mood) (was_asked m.stage m.mood (final_stage m.log.shape 1)) ended;
  bulk = ap (λ (s : Secrets). is_some s.bulk) none
      ∙ none-needed (is_going m.ending) (is_mute m.mood) (was_asked m.stage m.mood (submit_stage m.log.shape 2)) ended;
  second = ap (λ (s : Secrets). is_some s.second) none
      ∙ none-needed (is_going m.ending) (is_mute m.mood) (was_asked m.stage m.mood (final_stage m.log.shape 2)) ended;
}
