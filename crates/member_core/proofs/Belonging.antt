-- What a member's code has of what the member entered with.
use Rattle.std.proofs.Common.{◌≡◌, ℕ, ◌+◌, ◌≤◌, List, [], ◌∷◌, length, Option, Some, None, ap, sym, ◌∙◌, refl, subst, arith, rules, inl, inr, true, false, Bool}
use Rattle.std.specs.Prelude.{IfSome, IsSome, is_some, nat_lt, not, option_map, unwrap_or, ◌&&◌, ◌==◌}
use Rattle.std.proofs.lemmas.Bool.{cases_eq, cond-false, cond-true, eq-eqb}
use Rattle.std.proofs.lemmas.List.FromFn.{length-map-range_with_len}
use Rattle.wire_core.specs.Hash.{derived}
use Rattle.phase_message.specs.declared.post.Post.{Post}
use Rattle.phase_message.specs.Shape.{Shape}
use Rattle.group_roster.specs.Roster.{roster_id, shape_of_roster}
use Rattle.stage_log.specs.Log.{before, contents_of}
use Rattle.stage_log.specs.Table.{Log}
use Rattle.stage_log.proofs.Fronts.{before-front}
use Rattle.stage_log.proofs.Pasts.{some_of}
use Rattle.shuffle_blame.specs.Asked.{past_of}
use Rattle.shuffle_blame.specs.Replay.{outer_place}
use Rattle.bulk_descriptor.specs.Descriptor.{own_pad}
use Rattle.bulk_descriptor.proofs.MakingLemmas.{length-own_pad}
use Rattle.round_spec.specs.Say.{Configuration, shape_in}
use Rattle.round_spec.specs.Slots.{bulk_place, final_stage, inner_place, keys_said, submit_stage}
use Rattle.honest_say.specs.declared.group_keys.GroupKeys.{GroupKeys}
use Rattle.honest_say.specs.declared.group_keys.ShuffleKeys.{ShuffleKeys}
use Rattle.honest_say.specs.declared.secrets.BulkSecrets.{BulkSecrets}
use Rattle.honest_say.specs.declared.secrets.ShuffleSecrets.{ShuffleSecrets}
use Rattle.honest_say.specs.declared.opening.Slots.{Slots}
use Rattle.honest_say.specs.Own.{AreBulkSecrets, AreGroupKeys, AreShuffleKeys, AreShuffleSecrets}
use Rattle.honest_say.specs.Seats.{IsSeatOf}
use Rattle.honest_say.specs.Stays.{AreReached}
use Rattle.honest_say.proofs.Staying.{keys_stay}
use Rattle.closing_verdict.specs.Carried.{AreItemsOf, AreKeysOf, AreSlotsOf, CarriesOpened, CarriesSlots, stage_found, stage_opened}
use Rattle.member_parts.specs.declared.ending.Ending.{Ending}
use Rattle.member_parts.specs.declared.ending.Ending.TheVariants.{Open, Done, Blamed, Stopped}
use Rattle.member_parts.specs.declared.secrets.Secrets.{Secrets}
use Rattle.member_parts.specs.Endings.{IsOpen, is_going}
use Rattle.member_parts.specs.Secrets.{AreSecretsOf, shuffle_secrets}
use Rattle.member_core.specs.declared.machine.Machine.{Machine}
use Rattle.member_spec.specs.declared.mood.Mood.{Mood}
use Rattle.member_core.specs.Asking.{IsToBeAsked}
use Rattle.member_core.specs.Membership.{holdings_of}
use Rattle.member_core.specs.Needs.{HoldsNeeded, is_mute, needs, was_asked}
use Rattle.member_core.specs.Sound.{CarriesKeys, IsFormed, IsMachineOf}
use Rattle.member_core.specs.Stands.{HasEntered}

-- ---- the member

-- its place is that of what it entered with
pub seat-of : (c : Configuration) (m : Machine) → IsFormed m → HasEntered c (holdings_of m) → IsSeatOf c m.seat
seat-of c m formed entered =
    let own : IsMachineOf formed.entered.0 m = formed.entered.1 in
    let same : formed.entered.0.roster ≡ c.roster = sym own.roster ∙ entered.roster in
    record {
      shape = own.seat.shape ∙ ap shape_of_roster same;
      group = own.seat.group ∙ ap roster_id same;
      round = entered.round;
      number = entered.number;
    }

-- and so is the shape of its log
pub shape-is : (c : Configuration) (m : Machine) → IsFormed m → IsSeatOf c m.seat → m.log.shape ≡ shape_in c
shape-is c m formed seat = formed.shape ∙ seat.shape

-- the group's size and its number
pub record IsOfGroup (m : Machine) : Type 0 where
  pub least : 2 ≤ m.log.shape.members
  pub most : m.log.shape.members ≤ 8
  pub first : 1 ≤ m.seat.number
  pub last : m.seat.number ≤ m.log.shape.members

pub of-group : (m : Machine) → IsFormed m → IsOfGroup m
of-group m formed =
    let members : m.log.shape.members ≡ m.seat.shape.members = ap (λ (s : Shape). s.members) formed.shape in
    record {
      least = formed.log.shape.least;
      most = formed.log.shape.most;
      first = m.seat.least;
      last = omega (arith, members, m.seat.most);
    }

-- a pad that is not made yet is that of no message
pub no-pad : (seeds : List (List ℕ)) (number : ℕ) → (let none : List ℕ = [] in own_pad seeds number none ≡ none)
no-pad seeds number = nothing (own_pad seeds number []) (length-own_pad seeds number [])
  where
    nothing : (xs : List ℕ) → length xs ≡ 0 → (let none : List ℕ = [] in xs ≡ none)
    nothing [] e = refl
    nothing (x ∷ xs) e = absurd (omega (arith, e))

-- ---- its secrets

-- what is held is of a kind, if all that may be held is
pub held-is : {A : Type 0} (o : Option A) (x : A) (P : A → Type 0) → o ≡ Some x → IfSome o P → P x
held-is o x P is all = subst (λ (q : Option _). IfSome q P) is all

-- those of a shuffle that it holds
pub secrets-for : (c : Configuration) (secrets : Secrets) (shuffle : ℕ) (held : ShuffleSecrets) → AreSecretsOf c secrets → 1 ≤ shuffle
    → shuffle ≤ 2
    → shuffle_secrets secrets shuffle ≡ Some held → AreShuffleSecrets c shuffle held
secrets-for c secrets shuffle held are first last is = elim (cases_eq shuffle 1) [
  | inl a ↦
      let one : shuffle_secrets secrets shuffle ≡ secrets.first = cond-true (shuffle == 1) secrets.first secrets.second (eq-eqb shuffle 1 a)
      in
      subst (λ (s : ℕ). AreShuffleSecrets c s held) (sym a) (held-is secrets.first held (AreShuffleSecrets c 1) (sym one ∙ is) are.first)
  | inr other ↦
      let b : shuffle ≡ 2 = omega arith in
      let two : shuffle_secrets secrets shuffle ≡ secrets.second = cond-false (shuffle == 1) secrets.first secrets.second
      (ap (λ (s : ℕ). s == 1) b) in
      subst (λ (s : ℕ). AreShuffleSecrets c s held) (sym b) (held-is secrets.second held (AreShuffleSecrets c 2) (sym two ∙ is) are.second)
]

-- ---- what it needs

going-is : (ending : Ending) → IsOpen ending → is_going ending ≡ true
going-is Open is = refl
going-is (Done slots) is = absurd is
going-is (Blamed conviction) is = absurd is
going-is Stopped is = absurd is

both-are : (a b c : Bool) → a ≡ true → b ≡ false → c ≡ false → (a && (not b && not c)) ≡ true
both-are true false false e f g = refl
both-are true false true e f g = absurd cc
both-are true true c e f g = absurd cc
both-are false b c e f g = absurd cc

not-less : (a b : ℕ) → b ≤ a → nat_lt a b ≡ false
not-less a b le = search rules

-- a member that was not asked yet needs the secrets that a stage takes which is not before its own
pub needs-here : (m : Machine) (stage : ℕ) → IsToBeAsked m → m.stage ≤ stage → needs (holdings_of m) stage ≡ true
needs-here m stage asked le =
    both-are (is_going m.ending) (is_mute m.mood) (was_asked m.stage m.mood stage) (going-is m.ending asked.going)
    (ap is_mute asked.unasked)
    (ap (λ (mood : Mood). was_asked m.stage mood stage) asked.unasked ∙ not-less stage m.stage le)

pub some-held : {A : Type 0} (o : Option A) → is_some o ≡ true → IsSome o
some-held None e = absurd cc
some-held (Some x) e = refl

-- so it holds them
pub holds-first : (m : Machine) → HoldsNeeded (holdings_of m) → IsToBeAsked m → m.stage ≤ final_stage m.log.shape 1 → IsSome m.secrets.first
holds-first m needed asked le = some-held m.secrets.first (needed.first ∙ needs-here m (final_stage m.log.shape 1) asked le)

pub holds-bulk : (m : Machine) → HoldsNeeded (holdings_of m) → IsToBeAsked m → m.stage ≤ submit_stage m.log.shape 2 → IsSome m.secrets.bulk
holds-bulk m needed asked le = some-held m.secrets.bulk (needed.bulk ∙ needs-here m (submit_stage m.log.shape 2) asked le)

pub holds-second : (m : Machine) → HoldsNeeded (holdings_of m) → IsToBeAsked m → m.stage ≤ final_stage m.log.shape 2
    → IsSome m.secrets.second
holds-second m needed asked le = some-held m.secrets.second (needed.second ∙ needs-here m (final_stage m.log.shape 2) asked le)

-- those of a shuffle, up to its end
pub holds-shuffle : (m : Machine) (shuffle : ℕ) → HoldsNeeded (holdings_of m) → IsToBeAsked m → 1 ≤ shuffle → shuffle ≤ 2
    → m.stage ≤ final_stage m.log.shape shuffle
    → IsSome (shuffle_secrets m.secrets shuffle)
holds-shuffle m shuffle needed asked first last le = elim (cases_eq shuffle 1) [
  | inl a ↦ subst (λ (s : ℕ). IsSome (shuffle_secrets m.secrets s)) (sym a)
      (holds-first m needed asked (omega (arith, le, ap (final_stage m.log.shape) a)))
  | inr other ↦
      let b : shuffle ≡ 2 = omega arith in
      subst (λ (s : ℕ). IsSome (shuffle_secrets m.secrets s)) (sym b)
      (holds-second m needed asked (omega (arith, le, ap (final_stage m.log.shape) b)))
]

-- what is there is not missing
pub not-missing : {A : Type 0} (o : Option A) → IsSome o → o ≡ None → ⊥
not-missing (Some x) is e = cc
not-missing None is e = cc

-- ---- what was said before

-- a stage is reached if a later one is
pub reaches : (log : Log) (stage later : ℕ) → stage ≤ later → IsSome (before log later) → IsSome (before log stage)
reaches log stage later le is =
    let posts = some_of (before log later) is in
    subst (λ (o : Option (List Post)). IsSome o) (sym (before-front log stage later posts.0 le posts.1)) refl

-- the past of a stage by its posts
pub past-is : (log : Log) (stage : ℕ) (posts : List Post) → before log stage ≡ Some posts → past_of log stage ≡ contents_of posts
past-is log stage posts is = ap (λ (o : Option (List Post)). contents_of (unwrap_or o [])) is

-- the keys that were read behind the first stage are those of each later one
pub keys-here : (log : Log) (stage : ℕ) (keys : GroupKeys) → AreKeysOf log keys → 1 ≤ stage → IsSome (before log stage)
    → AreGroupKeys log.shape (past_of log stage) keys
keys-here log stage keys are least complete =
    let reached : AreReached log 1 stage = record { order = least; at = reaches log 1 stage least complete; at_later = complete } in
    let same : (place : ℕ) → keys_said log.shape (past_of log 1) place ≡ keys_said log.shape (past_of log stage) place = λ place. keys_stay
    log 1 stage place reached (omega arith) in
    record {
      first = record { inner = are.said.first.inner ∙ same (inner_place 1); outer = are.said.first.outer ∙ same (outer_place 1) };
      bulk = are.said.bulk ∙ same bulk_place;
      second = record { inner = are.said.second.inner ∙ same (inner_place 2); outer = are.said.second.outer ∙ same (outer_place 2) };
    }

-- ---- what it carries

-- the items that it carries
pub carried-items : {A : Type 0} (log : Log) (stage : ℕ) (f : A → List (Option (List ℕ))) (o : Option A) (x : A) → o ≡ Some x
    → CarriesOpened log stage (option_map f o) → AreItemsOf log (f x)
carried-items log stage f o x is carries = subst (λ (q : Option _). CarriesOpened log stage (option_map f q)) is carries

-- where it carries none, the end of shuffle A is not behind it
pub carries-late : {A : Type 0} (log : Log) (stage : ℕ) (f : A → List (Option (List ℕ))) (o : Option A) → o ≡ None
    → CarriesOpened log stage (option_map f o) → stage + 1 ≤ stage_opened log
carries-late log stage f o is carries = subst (λ (q : Option _). CarriesOpened log stage (option_map f q)) is carries

-- the keys that it carries, and that it does where the first stage is behind it
pub carried-keys : (log : Log) (stage : ℕ) (o : Option GroupKeys) (keys : GroupKeys) → o ≡ Some keys → CarriesKeys log stage o
    → AreKeysOf log keys
carried-keys log stage o keys is carries = subst (CarriesKeys log stage) is carries

pub carries-first : (log : Log) (stage : ℕ) (o : Option GroupKeys) → o ≡ None → CarriesKeys log stage o → stage ≡ 0
carries-first log stage o is carries = subst (CarriesKeys log stage) is carries

-- the slots that it carries, and that it does where the checks are behind it
pub carried-slots : (log : Log) (stage : ℕ) (o : Option Slots) (slots : Slots) → o ≡ Some slots → CarriesSlots log stage o
    → AreSlotsOf log slots
carried-slots log stage o slots is carries = subst (CarriesSlots log stage) is carries

pub slots-late : (log : Log) (stage : ℕ) (o : Option Slots) → o ≡ None → CarriesSlots log stage o → stage + 1 ≤ stage_found log
slots-late log stage o is carries = subst (CarriesSlots log stage) is carries

-- the keys of a shuffle are those of the shape of a member's round
pub shuffle-keys : (c : Configuration) (m : Machine) (past : List (List ℕ)) (shuffle number : ℕ) (keys : ShuffleKeys) → IsFormed m
    → IsSeatOf c m.seat → number ≡ shuffle
    → AreShuffleKeys m.log.shape past number keys → AreShuffleKeys (shape_in c) past shuffle keys
shuffle-keys c m past shuffle number keys formed seat same are =
    subst (λ (s : ℕ). AreShuffleKeys (shape_in c) past s keys) same
    (subst (λ (s : Shape). AreShuffleKeys s past number keys) (shape-is c m formed seat) are)

-- there is a seed of a pad for each member
pub seeds-count : (m : Machine) (bulk : BulkSecrets) → IsFormed m → m.secrets.bulk ≡ Some bulk → length bulk.pad_seeds ≡ m.log.shape.members
seeds-count m bulk formed is =
    let c : Configuration = formed.entered.0 in
    let own : IsMachineOf c m = formed.entered.1 in
    let seeds = (held-is m.secrets.bulk bulk (AreBulkSecrets c) is own.secrets.bulk).pad_seeds in
    ap (λ (s : List (List ℕ)). length s) seeds ∙ length-map-range_with_len (derived c.fresh c.round 12) 1 (shape_in c).members
    ∙ sym (ap (λ (s : Shape). s.members) (shape-is c m formed own.seat))
