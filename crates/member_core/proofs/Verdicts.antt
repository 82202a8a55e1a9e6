-- What a member holds behind a stage, by what the stage came to.
use Rattle.std.proofs.Common.{◌≡◌, ℕ, ◌+◌, ◌<◌, ◌≤◌, Bool, true, false, List, ◌++◌, Option, Some, None, Vec, Global, ap, sym, ◌∙◌, refl, subst, arith, inl, inr}
use Rattle.std.specs.Prelude.{IsSome, is_some, nat_lt, option_and_then, ◌&&◌}
use Rattle.std.specs.List.{list_any}
use Rattle.std.specs.Option.{option_map}
use Rattle.std.proofs.lemmas.Bool.{cases_Bool, cases_eq, cond-false, cond-true, ltb-true}
use Rattle.phase_message.specs.declared.post.Post.{Post}
use Rattle.phase_message.specs.declared.stage.StageKind.{StageKind}
use Rattle.phase_message.specs.declared.stage.StageKind.TheVariants.{Final, Confirm}
use Rattle.phase_message.specs.Shape.{Shape}
use Rattle.phase_message.specs.Slots.{stage_count}
use Rattle.phase_message.specs.Stages.{kind_of_stage, shape_of, vote_of}
use Rattle.phase_message.proofs.Table.{confirm_is, final_a_is}
use Rattle.stage_log.specs.declared.seen.Seen.{Seen}
use Rattle.stage_log.specs.Log.{all_some, before, contents_of}
use Rattle.stage_log.specs.Seen.{HasSeen}
use Rattle.stage_log.specs.Table.{Log, is_complete, posts_in}
use Rattle.stage_log.proofs.Fronts.{some_is}
use Rattle.stage_log.proofs.Pasts.{some_of}
use Rattle.shuffle_blame.specs.Asked.{past_of}
use Rattle.round_spec.specs.Course.{closing_of, stand_behind}
use Rattle.round_spec.specs.Say.{Configuration, shape_in}
use Rattle.round_spec.specs.Slots.{slots_of_past}
use Rattle.round_spec.specs.Verdict.{Verdict, Goes, Done, is_bad, is_closing, verdict_of}
use Rattle.honest_say.specs.declared.group_keys.GroupKeys.{GroupKeys}
use Rattle.honest_say.specs.declared.opening.Slots.{Slots}
use Rattle.honest_say.specs.Stays.{AreReached}
use Rattle.honest_say.proofs.Staying.{slots_stay}
use Rattle.closing_verdict.specs.declared.judging.Judged.{Judged}
use Rattle.closing_verdict.specs.declared.judging.Judged.TheVariants.{Goes as JudgedGoes, Opens, Finds, Agreed, Convicts as JudgedConvicts}
use Rattle.closing_verdict.specs.Carried.{AreSlotsOf, CarriesOpened, CarriesSlots, stage_found}
use Rattle.closing_verdict.specs.Convicting.{TellsConviction}
use Rattle.closing_verdict.specs.Judgement.{TellsVerdict, stage_closed, verdict_in}
use Rattle.member_spec.specs.Actor.{Actor, actor_behind_stage, actor_behind_step}
use Rattle.member_spec.specs.Outcomes.{outcome_of}
use Rattle.member_spec.specs.Replies.{Replies}
use Rattle.member_parts.specs.declared.ending.Ending.{Ending}
use Rattle.member_parts.specs.declared.ending.Ending.TheVariants.{Open, Done as EndingDone, Blamed, Stopped}
use Rattle.member_parts.specs.Endings.{IsOpen, IsRunning, is_going}
use Rattle.member_parts.specs.Secrets.{no_secrets}
use Rattle.member_core.specs.declared.machine.Machine.{Machine}
use Rattle.member_core.specs.Concluding.{HasSlotsFor, is_filled, machine_behind, machine_by, machine_done}
use Rattle.member_core.specs.Membership.{completed_of, holdings_of}
use Rattle.member_core.specs.Needs.{HoldsNeeded}
use Rattle.member_core.specs.Sound.{CarriesKeys, IsFormed, IsReady, IsSound}
use Rattle.member_core.specs.Stands.{HasEntered, IsAt, ShowsOutcome, StandsFor}
use Rattle.member_core.proofs.Belonging.{past-is, reaches, seat-of, shape-is}
use Rattle.member_core.proofs.Judging.{shape-of-group}
use Rattle.member_core.proofs.PassedStages.{goes-elsewhere, passes-step, shows-blamed, shows-done, shows-goes, stands-past, verdict-is}
use Rattle.member_core.proofs.Changes.{formed-else, no-secrets-of}
use Rattle.member_core.proofs.Passing.{AreCarried, NextPast, formed-past, machine_past, needed-ended, needed-past, next-past, ready-past}
use Rattle.member_core.proofs.Shown.{goes-on}
use Rattle.member_core.proofs.StageKinds.{kind-place}

-- ---- what is wanted and what follows

-- a member whose stage is complete, with the keys and what was seen behind the stage
pub record CanPass (m : Machine) (keys : Option GroupKeys) (seen : Seen) : Type 0 where
  pub formed : IsFormed m
  pub ready : IsReady m
  pub going : IsOpen m.ending
  pub needed : HoldsNeeded (holdings_of m)
  pub within : m.stage < stage_count m.log.shape
  pub full : is_complete m.log m.stage ≡ true
  pub there : IsSome (before m.log (m.stage + 1))
  pub keys_are : CarriesKeys m.log (m.stage + 1) keys
  pub seen_is : HasSeen m.log.shape (past_of m.log (m.stage + 1)) (m.stage + 1) seen

-- another one is what becomes of it with one step
pub record Steps (m next : Machine) : Type 0 where
  pub formed : IsFormed next
  pub ready : IsOpen next.ending → IsReady next
  pub needed : HoldsNeeded (holdings_of next)
  pub runs : IsRunning next.ending
  pub handed : next.handed ≡ m.handed
  pub stands : (now start : Replies) (c : Configuration) (a : Actor) → StandsFor now start c a (holdings_of m)
      → StandsFor now start c (actor_behind_step start c a) (holdings_of next)

-- what is shown of each pure machine where the member stands
abbrev pub ShowsPast : Machine → Ending → Type 0
ShowsPast m ending = (c : Configuration) (a : Actor) (posts : List Post) → HasEntered c (holdings_of m) → IsAt c a (holdings_of m)
    → before m.log (m.stage + 1) ≡ Some (a.stand.past ++ posts)
    → verdict_of (closing_of c (a.stand.past ++ posts) a.stand.at) ≡ verdict_in (completed_of (holdings_of m))
    → ShowsOutcome ending (outcome_of c (actor_behind_stage c a (stand_behind c a.stand posts)))

stands-step : (m next : Machine) (keys : Option GroupKeys) (seen : Seen) (ending : Ending) → CanPass m keys seen → ShowsPast m ending
    → ((now start : Replies) (c : Configuration) (a : Actor) (posts : List Post) → StandsFor now start c a (holdings_of m)
    → before m.log (m.stage + 1) ≡ Some (a.stand.past ++ posts)
    → ShowsOutcome ending (outcome_of c (actor_behind_stage c a (stand_behind c a.stand posts)))
    → StandsFor now start c (actor_behind_stage c a (stand_behind c a.stand posts)) (holdings_of next))
    → (now start : Replies) (c : Configuration) (a : Actor) → StandsFor now start c a (holdings_of m)
    → StandsFor now start c (actor_behind_step start c a) (holdings_of next)
stands-step m next keys seen ending can shows goes now start c a is =
    let found : NextPast m.log m.stage a.stand.past = next-past m.log m.stage a.stand.past is.at.past can.full in
    let shape : m.log.shape ≡ shape_in c = shape-is c m can.formed (seat-of c m can.formed is.entered) in
    let count = ap stage_count shape in
    let at = is.at.stage in
    let inside = can.within in
    let within : a.stand.at < stage_count (shape_in c) = omega (arith, count, at, inside) in
    let here : all_some (posts_in a.log a.stand.at) ≡ Some found.posts
    = sym (ap (λ (log : Log). all_some (posts_in log m.stage)) is.at.log ∙ ap (λ (n : ℕ). all_some (posts_in a.log n)) is.at.stage)
    ∙ found.here in
    let step = passes-step start c a found.posts (goes-on c a (holdings_of m) is.at can.going) within here in
    let verdict = verdict-is c a (holdings_of m) found.posts is.entered is.at found.next in
    subst (λ (b : Actor). StandsFor now start c b (holdings_of next)) (sym step)
    (goes now start c a found.posts is found.next (shows c a found.posts is.entered is.at found.next verdict))

-- ---- the round goes on

open-is : (ending : Ending) → IsOpen ending → Open ≡ ending
open-is Open is = refl
open-is (EndingDone slots) is = absurd is
open-is (Blamed conviction) is = absurd is
open-is Stopped is = absurd is

open-runs : (ending : Ending) → IsOpen ending → IsRunning ending
open-runs Open is = tt
open-runs (EndingDone slots) is = absurd is
open-runs (Blamed conviction) is = absurd is
open-runs Stopped is = absurd is

steps-open : (m : Machine) (keys : Option GroupKeys) (seen : Seen) (opened : Option (Vec (Option (List ℕ)) Global)) (slots : Option Slots)
    → CanPass m keys seen → AreCarried m keys seen opened slots → verdict_in (completed_of (holdings_of m)) ≡ Goes
    → Steps m (machine_past m keys seen m.secrets opened slots m.ending)
steps-open m keys seen opened slots can carried goes = record {
  formed = formed-past m keys seen m.secrets opened slots m.ending can.formed (λ c are. are);
  ready = λ is. ready-past m keys seen m.secrets opened slots m.ending can.formed can.ready can.within can.there carried;
  needed = needed-past m keys seen opened slots can.formed can.ready can.there can.needed;
  runs = open-runs m.ending can.going;
  handed = refl;
  stands = stands-step m (machine_past m keys seen m.secrets opened slots m.ending) keys seen m.ending can
      (λ c a posts entered at next verdict. subst (λ (e : Ending). ShowsOutcome e
      (outcome_of c (actor_behind_stage c a (stand_behind c a.stand posts))))
      (open-is m.ending can.going) (shows-goes c a posts (verdict ∙ goes)))
      (stands-past m keys seen m.secrets opened slots m.ending can.formed can.ready can.there (λ c are. are));
}

-- what is carried stays, unless this is the stage behind which it begins
carry-opened : (log : Log) (stage : ℕ) (o : Option (List (Option (List ℕ)))) → (stage ≡ log.shape.members + 3 → ⊥)
    → CarriesOpened log stage o → CarriesOpened log (stage + 1) o
carry-opened log stage None apart is = elim (cases_eq stage (log.shape.members + 3))
    [ inl same ↦ absurd (apart same) | inr other ↦ omega (arith, is) ]
carry-opened log stage (Some items) apart is = is

carry-slots : (log : Log) (stage : ℕ) (o : Option Slots) → (stage ≡ log.shape.members + 6 → ⊥) → CarriesSlots log stage o
    → CarriesSlots log (stage + 1) o
carry-slots log stage None apart is = elim (cases_eq stage (log.shape.members + 6))
    [ inl same ↦ absurd (apart same) | inr other ↦ omega (arith, is) ]
carry-slots log stage (Some slots) apart is = is

same-carried : (m : Machine) (keys : Option GroupKeys) (seen : Seen) → CanPass m keys seen → (m.stage ≡ m.log.shape.members + 3 → ⊥)
    → (m.stage ≡ m.log.shape.members + 6 → ⊥) → AreCarried m keys seen m.opened m.slots
same-carried m keys seen can opens finds = record {
  seen_is = can.seen_is;
  keys_are = can.keys_are;
  opened_is = carry-opened m.log m.stage (option_map (λ items. items.items) m.opened) opens can.ready.opened;
  opened_behind = λ is. (let le = can.ready.opened_behind is in omega (arith, le));
  slots_are = carry-slots m.log m.stage m.slots finds can.ready.slots;
  slots_behind = λ is. (let le = can.ready.slots_behind is in omega (arith, le));
}

closes : (shape : Shape) (stage : ℕ) (kind : StageKind) → kind_of_stage shape stage ≡ Some kind → is_some (vote_of kind) ≡ true
    → is_closing shape stage ≡ true
closes shape stage kind e is = ap (λ (o : Option StageKind). is_some (option_and_then vote_of o)) e ∙ is

steps-elsewhere : (m : Machine) (keys : Option GroupKeys) (seen : Seen) → CanPass m keys seen → is_closing m.log.shape m.stage ≡ false
    → Steps m (machine_past m keys seen m.secrets m.opened m.slots m.ending)
steps-elsewhere m keys seen can not = steps-open m keys seen m.opened m.slots can
    (same-carried m keys seen can
    (λ at. (let both : true ≡ false = sym (closes m.log.shape m.stage (Final 1) (final_a_is m.log.shape m.stage at) refl) ∙ not in cc))
    (λ at. (let both : true ≡ false = sym (closes m.log.shape m.stage Confirm (confirm_is m.log.shape m.stage at) refl) ∙ not in cc)))
    (goes-elsewhere (stage_closed (completed_of (holdings_of m)))
    (sym (ap (λ (shape : Shape). is_closing shape m.stage) (shape-of-group m can.formed)) ∙ not))

-- ---- the round has ended

steps-ended : (m : Machine) (keys : Option GroupKeys) (seen : Seen) (slots : Option Slots) (ending : Ending) → CanPass m keys seen
    → is_going ending ≡ false → (IsOpen ending → ⊥) → IsRunning ending → ShowsPast m ending
    → Steps m (machine_past m keys seen no_secrets m.opened slots ending)
steps-ended m keys seen slots ending can ended shut running shows = record {
  formed = formed-past m keys seen no_secrets m.opened slots ending can.formed (λ c are. no-secrets-of c);
  ready = λ is. absurd (shut is);
  needed = needed-ended (machine_past m keys seen no_secrets m.opened slots ending) ended refl;
  runs = running;
  handed = refl;
  stands = stands-step m (machine_past m keys seen no_secrets m.opened slots ending) keys seen ending can shows
      (stands-past m keys seen no_secrets m.opened slots ending can.formed can.ready can.there (λ c are. no-secrets-of c));
}

-- the states of slots that were found are those of the past
slots-told : (log : Log) (stage : ℕ) (slots : Slots) → AreSlotsOf log slots → stage_found log ≤ stage → IsSome (before log stage)
    → slots.states ≡ slots_of_past log.shape (past_of log stage)
slots-told log stage slots are le there =
    let reached : AreReached log (stage_found log) stage = record
    { order = le; at = reaches log (stage_found log) stage le there; at_later = there } in
    are.states ∙ slots_stay log (stage_found log) stage reached (omega arith)

shows-slots : (m : Machine) (slots : Slots) → IsFormed m → AreSlotsOf m.log slots → stage_found m.log ≤ m.stage + 1
    → IsSome (before m.log (m.stage + 1))
    → verdict_in (completed_of (holdings_of m)) ≡ Done → ShowsPast m (EndingDone slots.states)
shows-slots m slots formed are le there done c a posts entered at next verdict = shows-done c a posts slots.states (verdict ∙ done)
    (slots-told m.log (m.stage + 1) slots are le there
    ∙ ap (slots_of_past m.log.shape) (past-is m.log (m.stage + 1) (a.stand.past ++ posts) next)
    ∙ ap (λ (shape : Shape). slots_of_past shape (contents_of (a.stand.past ++ posts))) (shape-is c m formed (seat-of c m formed entered)))

steps-done : (m : Machine) (keys : Option GroupKeys) (seen : Seen) (slots : Slots) → CanPass m keys seen → AreSlotsOf m.log slots
    → stage_found m.log ≤ m.stage + 1 → verdict_in (completed_of (holdings_of m)) ≡ Done
    → Steps m (machine_past m keys seen no_secrets m.opened None (EndingDone slots.states))
steps-done m keys seen slots can are le done =
    steps-ended m keys seen None (EndingDone slots.states) can refl (λ is. is) tt (shows-slots m slots can.formed are le can.there done)

-- ---- by what the stage came to

-- the machine at the next stage, before what the stage came to is taken
abbrev machine_on : Machine → Option GroupKeys → Seen → Machine
machine_on m keys seen = machine_behind (record m { keys = keys }) seen

-- behind shuffle B the slots are carried
slots-carried : (log : Log) (stage : ℕ) (o : Option Slots) → stage_found log ≤ stage → CarriesSlots log stage o → (slots : Slots)
    × (o ≡ Some slots) × AreSlotsOf log slots
slots-carried log stage None le is = absurd (omega (arith, le, is))
slots-carried log stage (Some slots) le is = (slots, refl, is)

pub steps-by : (m : Machine) (keys : Option GroupKeys) (seen : Seen) (judged : Judged) → CanPass m keys seen
    → TellsVerdict (completed_of (holdings_of m)) judged → Steps m (machine_by (machine_on m keys seen) judged)
steps-by m keys seen JudgedGoes can told = steps-elsewhere m keys seen can told
steps-by m keys seen (Opens items) can told =
    let at : m.stage ≡ m.log.shape.members + 3 = (let is = (kind-place m.log.shape m.stage (Final 1) told.at).at in omega (arith, is)) in
    let apart : m.stage ≡ m.log.shape.members + 6 → ⊥ = λ e. omega (arith, at, e) in
    steps-open m keys seen (Some items) m.slots can (record {
      seen_is = can.seen_is;
      keys_are = can.keys_are;
      opened_is = told.opened;
      opened_behind = λ is. omega (arith, at);
      slots_are = carry-slots m.log m.stage m.slots apart can.ready.slots;
      slots_behind = λ is. (let le = can.ready.slots_behind is in omega (arith, le));
    }) told.verdict
steps-by m keys seen (Finds slots) can told =
    let at : m.stage ≡ m.log.shape.members + 6 = (kind-place m.log.shape m.stage Confirm told.at).at in
    let apart : m.stage ≡ m.log.shape.members + 3 → ⊥ = λ e. omega (arith, at, e) in
    let b : Bool = list_any is_bad slots.states in
    let on : Machine = machine_on m keys seen in
    elim (cases_Bool (list_any is_bad slots.states)) [
      | inl bad ↦ subst (Steps m) (sym (cond-true b (record on { slots = Some slots }) (machine_done on (Some slots)) bad))
          (steps-open m keys seen m.opened (Some slots) can (record {
            seen_is = can.seen_is;
            keys_are = can.keys_are;
            opened_is = carry-opened m.log m.stage (option_map (λ items. items.items) m.opened) apart can.ready.opened;
            opened_behind = λ is. (let le = can.ready.opened_behind is in omega (arith, le));
            slots_are = told.found;
            slots_behind = λ is. omega (arith, at);
          }) (told.verdict ∙ cond-true b Goes Done bad))
      | inr fit ↦ subst (Steps m) (sym (cond-false b (record on { slots = Some slots }) (machine_done on (Some slots)) fit))
          (steps-done m keys seen slots can told.found (omega (arith, at)) (told.verdict ∙ cond-false b Goes Done fit))
    ]
steps-by m keys seen Agreed can told =
    let at = (kind-place m.log.shape m.stage (Final 2) told.at).at in
    let behind : stage_found m.log ≤ m.stage = omega (arith, at) in
    let slots = slots-carried m.log m.stage m.slots behind can.ready.slots in
    subst (λ (o : Option Slots). Steps m (machine_done (machine_on m keys seen) o)) (sym slots.1)
    (steps-done m keys seen slots.0 can slots.2 (omega (arith, behind)) told.verdict)
steps-by m keys seen (JudgedConvicts conviction) can told =
    steps-ended m keys seen m.slots (Blamed conviction) can refl (λ is. is) tt
    (λ c a posts entered at next verdict. shows-blamed c a posts conviction
    (subst (λ (v : Verdict). TellsConviction v conviction) (sym verdict) told))

-- where the round is done behind shuffle B, the slots are there
pub has-slots : (m : Machine) (judged : Judged) → IsReady m → TellsVerdict (completed_of (holdings_of m)) judged
    → HasSlotsFor judged m.slots
has-slots m JudgedGoes ready told = tt
has-slots m (Opens items) ready told = tt
has-slots m (Finds slots) ready told = tt
has-slots m Agreed ready told =
    let at = (kind-place m.log.shape m.stage (Final 2) told.at).at in
    let slots = slots-carried m.log m.stage m.slots (omega (arith, at)) ready.slots in
    subst (λ (o : Option Slots). IsSome o) (sym slots.1) refl
has-slots m (JudgedConvicts conviction) ready told = tt

-- ---- the whole step

-- a stage that is complete, with the posts to its end
pub record IsFull (m : Machine) : Type 0 where
  pub within : m.stage < stage_count m.log.shape
  pub full : is_complete m.log m.stage ≡ true
  pub there : IsSome (before m.log (m.stage + 1))

both-true : (a b : Bool) → (a && b) ≡ true → (a ≡ true) × (b ≡ true)
both-true true b e = (refl, e)
both-true false b e = absurd cc

pub full-there : (m : Machine) → IsFormed m → IsReady m → is_filled m ≡ true → IsFull m
full-there m formed ready filled =
    let both = both-true (nat_lt m.stage (stage_count (shape_of m.seat.shape))) (is_complete m.log m.stage) filled in
    let lt = ltb-true m.stage (stage_count (shape_of m.seat.shape)) both.0 in
    let count = ap stage_count formed.shape in
    let past = some_of (before m.log m.stage) ready.past in
    let found = next-past m.log m.stage past.0 past.1 both.1 in
    record {
      within = omega (arith, lt, count);
      full = both.1;
      there = some_is (before m.log (m.stage + 1)) (past.0 ++ found.posts) found.next;
    }

-- with other keys
pub formed-keys : (m : Machine) (keys : Option GroupKeys) → IsFormed m → IsFormed (record m { keys = keys })
formed-keys m keys formed =
    formed-else m m.secrets m.own m.seen m.stage m.mood keys m.opened m.slots m.ending formed.entered formed

-- a member that has read the keys, gone on and taken what the stage came to
pub passes-all : (m carried gone last : Machine) (judged : Judged) → IsSound m → IsOpen m.ending → is_filled m ≡ true
    → carried ≡ record m { keys = carried.keys }
    → (CarriesKeys m.log m.stage m.keys → CarriesKeys m.log (m.stage + 1) carried.keys)
    → gone ≡ machine_behind carried gone.seen
    → (HasSeen carried.log.shape (past_of carried.log carried.stage) carried.stage carried.seen
    → HasSeen carried.log.shape (past_of carried.log (carried.stage + 1)) (carried.stage + 1) gone.seen)
    → last ≡ machine_by gone judged → TellsVerdict (completed_of (holdings_of m)) judged → Steps m last
passes-all m carried gone last judged sound going filled carried-is keys gone-is seen last-is told =
    let ready : IsReady m = sound.ready going in
    let full : IsFull m = full-there m sound.formed ready filled in
    let begun = subst (λ (x : Machine). HasSeen x.log.shape (past_of x.log x.stage) x.stage x.seen) (sym carried-is) ready.seen in
    let seen-is = subst (λ (x : Machine). HasSeen x.log.shape (past_of x.log (x.stage + 1)) (x.stage + 1) gone.seen) carried-is (seen begun)
    in
    let same : last ≡ machine_by (machine_on m carried.keys gone.seen) judged
    = last-is ∙ ap (λ (x : Machine). machine_by x judged) (gone-is ∙ ap (λ (x : Machine). machine_behind x gone.seen) carried-is) in
    subst (Steps m) (sym same) (steps-by m carried.keys gone.seen judged (record {
      formed = sound.formed;
      ready = ready;
      going = going;
      needed = sound.needed;
      within = full.within;
      full = full.full;
      there = full.there;
      keys_are = keys ready.keys;
      seen_is = seen-is;
    }) told)

-- the step keeps what is true of a member
pub steps-sound : (m last : Machine) → Steps m last → IsSound last
steps-sound m last steps = record { formed = steps.formed; ready = steps.ready; needed = steps.needed }
