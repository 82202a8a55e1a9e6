-- One step of a member is one step of the pure machine.
use Rattle.std.proofs.Common.{◌≡◌, ℕ, ◌<◌, Bool, true, false, List, [], ◌∷◌, Option, Some, None, ap, sym, ◌∙◌, refl, subst, arith, inl, inr}
use Rattle.std.specs.Prelude.{is_some, nat_lt, ◌&&◌}
use Rattle.std.specs.List.{list_all}
use Rattle.std.specs.Option.{option_map}
use Rattle.std.proofs.lemmas.Bool.{cases_Bool, cases_lt, cond-false, cond-true, lt-ltb}
use Rattle.phase_message.specs.declared.post.Post.{Post}
use Rattle.phase_message.specs.Shape.{Shape}
use Rattle.phase_message.specs.Slots.{stage_count}
use Rattle.phase_message.specs.Stages.{is_slot, shape_of}
use Rattle.stage_log.specs.Log.{all_some}
use Rattle.stage_log.specs.Table.{Log, is_complete, posts_in}
use Rattle.round_spec.specs.Course.{is_open}
use Rattle.round_spec.specs.Result.{Waiting as WaitingFor}
use Rattle.round_spec.specs.Say.{Configuration, shape_in}
use Rattle.member_spec.specs.declared.mood.Mood.{Mood}
use Rattle.member_spec.specs.declared.mood.Mood.TheVariants.{Unasked, PutOff, Spoken, Mute}
use Rattle.member_spec.specs.Actor.{Actor, actor_behind_question, actor_behind_step, content_to_say, is_due, stage_posts}
use Rattle.member_spec.specs.Outcomes.{members_missing, outcome_of}
use Rattle.member_spec.specs.Replies.{Replies}
use Rattle.member_spec.proofs.Steps.{ended-step, open-step, posts-past, posts-within}
use Rattle.member_parts.specs.declared.ending.Ending.{Ending}
use Rattle.member_parts.specs.declared.ending.Ending.TheVariants.{Open, Done, Blamed, Stopped}
use Rattle.member_parts.specs.Endings.{IsOpen, is_going}
use Rattle.member_core.specs.declared.machine.Machine.{Machine}
use Rattle.member_core.specs.Concluding.{is_due_by, is_filled}
use Rattle.member_core.specs.Membership.{holdings_of}
use Rattle.member_core.specs.Sound.{IsFormed}
use Rattle.member_core.specs.Stands.{ShowsOutcome, StandsFor}
use Rattle.member_core.proofs.Belonging.{seat-of, shape-is}
use Rattle.member_core.proofs.Shown.{goes-on, open-outcome}

-- ---- the round has ended

shows-nothing : (ending : Ending) (stage : ℕ) (members : List ℕ) → is_going ending ≡ false → ShowsOutcome ending (WaitingFor stage members)
    → ⊥
shows-nothing Open stage members e shows = cc
shows-nothing (Done slots) stage members e shows = shows
shows-nothing (Blamed conviction) stage members e shows = shows
shows-nothing Stopped stage members e shows = shows

pub ends-on : (ending : Ending) (c : Configuration) (a : Actor) → is_going ending ≡ false → ShowsOutcome ending (outcome_of c a)
    → is_open a.ending ≡ false
ends-on ending c a ended shows = elim (cases_Bool (is_open a.ending)) [
  | inl still ↦ absurd (shows-nothing ending a.stand.at (members_missing c a) ended
      (subst (ShowsOutcome ending) (open-outcome c a still) shows))
  | inr shut ↦ shut
]

-- nothing happens any more
pub ended-stays : (m : Machine) (now start : Replies) (c : Configuration) (a : Actor) → is_going m.ending ≡ false
    → StandsFor now start c a (holdings_of m)
    → StandsFor now start c (actor_behind_step start c a) (holdings_of m)
ended-stays m now start c a ended is =
    subst (λ (b : Actor). StandsFor now start c b (holdings_of m)) (sym (ended-step start c a (ends-on m.ending c a ended is.at.ending))) is

-- ---- the round goes on

pub going-open : (ending : Ending) → is_going ending ≡ true → IsOpen ending
going-open Open e = tt
going-open (Done slots) e = absurd cc
going-open (Blamed conviction) e = absurd cc
going-open Stopped e = absurd cc

not-all : (places : List (Option Post)) → list_all is_some places ≡ false → all_some places ≡ None
not-all [] e = absurd cc
not-all (None ∷ rest) e = refl
not-all (Some post ∷ rest) e = ap (option_map (λ (posts : List Post). post ∷ posts)) (not-all rest e)

not-both : (a b : Bool) → (a && b) ≡ false → a ≡ true → b ≡ false
not-both true b e is = e
not-both false b e is = absurd cc

-- the stage is not complete for the pure machine either
pub no-posts : (m : Machine) (now start : Replies) (c : Configuration) (a : Actor) → IsFormed m → is_filled m ≡ false
    → StandsFor now start c a (holdings_of m)
    → stage_posts c a ≡ None
no-posts m now start c a formed open-stage is =
    let shape : m.log.shape ≡ shape_in c = shape-is c m formed (seat-of c m formed is.entered) in
    let count = ap stage_count shape in
    let seat-count = ap stage_count formed.shape in
    let at = is.at.stage in
    elim (cases_lt m.stage (stage_count m.log.shape)) [
      | inl lt ↦
          let within : a.stand.at < stage_count (shape_in c) = omega (arith, count, at, lt) in
          let inside : m.stage < stage_count (shape_of m.seat.shape) = omega (arith, seat-count, lt) in
          let not-full = not-both (nat_lt m.stage (stage_count (shape_of m.seat.shape))) (is_complete m.log m.stage) open-stage
          (lt-ltb m.stage (stage_count (shape_of m.seat.shape)) inside) in
          posts-within c a within
          ∙ sym (ap (λ (log : Log). all_some (posts_in log m.stage)) is.at.log ∙ ap (λ (n : ℕ). all_some (posts_in a.log n)) is.at.stage)
          ∙ not-all (posts_in m.log m.stage) not-full
      | inr le ↦ posts-past c a (omega (arith, count, at, le))
    ]

-- and it is to be asked just where the member is
due-by : (m : Machine) (now start : Replies) (c : Configuration) (a : Actor) → IsFormed m → StandsFor now start c a (holdings_of m)
    → (mood : Mood) → is_due c a.stand mood ≡ is_due_by m mood
due-by m now start c a formed is Unasked =
    let shape : m.log.shape ≡ shape_in c = shape-is c m formed (seat-of c m formed is.entered) in
    sym (ap (λ (s : Shape). is_slot s m.stage m.seat.number) (sym formed.shape ∙ shape)
    ∙ ap (λ (n : ℕ). is_slot (shape_in c) n m.seat.number) is.at.stage ∙ ap (is_slot (shape_in c) a.stand.at) is.entered.number)
due-by m now start c a formed is (PutOff bytes) = refl
due-by m now start c a formed is Spoken = refl
due-by m now start c a formed is Mute = refl

pub due-same : (m : Machine) (now start : Replies) (c : Configuration) (a : Actor) → IsFormed m → StandsFor now start c a (holdings_of m)
    → is_due c a.stand a.mood ≡ is_due_by m m.mood
due-same m now start c a formed is = sym (ap (is_due c a.stand) is.at.mood) ∙ due-by m now start c a formed is m.mood

-- it speaks
pub step-speaks : (m : Machine) (now start : Replies) (c : Configuration) (a : Actor) → IsFormed m → is_going m.ending ≡ true
    → is_filled m ≡ false
    → is_due_by m m.mood ≡ true → StandsFor now start c a (holdings_of m)
    → actor_behind_step start c a ≡ actor_behind_question start c a (content_to_say start c a.stand)
step-speaks m now start c a formed going open-stage due is =
    open-step start c a None (goes-on c a (holdings_of m) is.at (going-open m.ending going)) (no-posts m now start c a formed open-stage is)
    ∙ cond-true (is_due c a.stand a.mood) (actor_behind_question start c a (content_to_say start c a.stand)) a
    (due-same m now start c a formed is ∙ due)

-- or it rests
pub step-rests : (m : Machine) (now start : Replies) (c : Configuration) (a : Actor) → IsFormed m → is_going m.ending ≡ true
    → is_filled m ≡ false
    → is_due_by m m.mood ≡ false → StandsFor now start c a (holdings_of m)
    → actor_behind_step start c a ≡ a
step-rests m now start c a formed going open-stage due is =
    open-step start c a None (goes-on c a (holdings_of m) is.at (going-open m.ending going)) (no-posts m now start c a formed open-stage is)
    ∙ cond-false (is_due c a.stand a.mood) (actor_behind_question start c a (content_to_say start c a.stand)) a
    (due-same m now start c a formed is ∙ due)
