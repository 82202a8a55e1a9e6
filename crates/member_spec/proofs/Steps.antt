-- The steps of a plain member: each passes a stage of the course, or says what the rules say, until neither can be done.
use Rattle.std.proofs.Common.{◌≡◌, ◌⊎◌, ℕ, ◌+◌, ◌*◌, ◌<◌, ◌≤◌, Bool, true, false, List, [], ◌∷◌, ◌++◌, Option, Some, None, ap, sym, ◌∙◌, refl, subst, arith, inl, inr}
use Rattle.std.specs.Prelude.{◌==◌, IsTrue, is_ok, nat_lt, option_and_then, option_map}
use Rattle.std.proofs.lemmas.Bool.{cases_Bool, cases_lt, cond-false, cond-true, false_from_ne_true, lt-ltb, ltb-true}
use Rattle.phase_message.specs.declared.post.Post.{Post}
use Rattle.phase_message.specs.declared.stage.StageKind.{StageKind}
use Rattle.phase_message.specs.Grammar.{content_text}
use Rattle.phase_message.specs.Offence.{content_read}
use Rattle.phase_message.specs.Slots.{stage_count}
use Rattle.phase_message.specs.Stages.{is_slot, kind_of_stage, speaks as speaks_in}
use Rattle.phase_message.proofs.SlotLists.{past-stage, stage-past}
use Rattle.stage_log.specs.Log.{all_some, contents_of}
use Rattle.stage_log.specs.Table.{Log, filled, posts_in}
use Rattle.bulk_descriptor.specs.Descriptor.{Description, descriptor_text}
use Rattle.round_spec.specs.Say.{Configuration, content_with, own_content, own_description, own_descriptor, own_post, shape_in}
use Rattle.round_spec.specs.Course.{Others, Stand, course_from, first_stand, is_open, next_stand, posts_of_kind, stage_filled, stand_behind}
use Rattle.round_spec.specs.Reached.{IsReached}
use Rattle.round_spec.proofs.Courses.{cases_Some, course-adds, course-next, next-ended}
use Rattle.round_spec.proofs.Reached.{behind-at, stands_are_reached}
use Rattle.member_spec.specs.declared.conduct.Speech.TheVariants.{Say}
use Rattle.member_spec.specs.declared.mood.Mood.{Mood}
use Rattle.member_spec.specs.declared.mood.Mood.TheVariants.{Unasked, Spoken}
use Rattle.member_spec.specs.Actor.{Actor, actor_behind_answer, actor_behind_question, content_to_say, is_due, actor_behind_stage, speech_about, stage_posts, actor_behind_step, actor_behind_step_with}
use Rattle.member_spec.specs.Replies.{IsPlain, Replies}
use Rattle.member_spec.proofs.Kept.{log-same, log_with, made-same, made_with, stage-filled, stage-waits}
use Rattle.member_spec.proofs.Moves.{passes-log, passes-made, speaks-log, speaks-made}

-- whether it has spoken, as a mood
abbrev pub mood_when : Bool → Mood
mood_when true = Spoken
mood_when false = Unasked

-- a plain member is where the course with these posts of others is after so many stages
pub record Follows (c : Configuration) (others : Others) (now : Bool) (stages : ℕ) (a : Actor) : Type 0 where
  pub stand : a.stand ≡ course_from c others stages first_stand
  pub at : a.stand.at ≡ stages
  pub log : a.log ≡ log_with c others a.stand now
  pub made : a.made ≡ made_with c a.stand now
  pub mood : a.mood ≡ mood_when now
  pub ending : a.ending ≡ a.stand.verdict
  pub still : now ≡ true → is_open a.stand.verdict ≡ true

-- and nothing is left to be done: the course stops there, and it has spoken if it is a sender
pub record Rests (c : Configuration) (others : Others) (a : Actor) : Type 0 where
  pub now : Bool
  pub stages : ℕ
  pub follows : Follows c others now stages a
  pub no_next : next_stand c others a.stand ≡ None
  pub spoken : is_open a.stand.verdict ≡ true → is_slot (shape_in c) a.stand.at c.number ≡ true → now ≡ true

-- the stand is one that the course reaches
pub follows-reached : (c : Configuration) (others : Others) (now : Bool) (stages : ℕ) (a : Actor) → Follows c others now stages a
    → IsReached c others a.stand
follows-reached c others now stages a f = subst (IsReached c others) (sym f.stand) (stands_are_reached c others stages)

-- ---- what it says

-- what the member has to say wherever the course with these posts of others comes to is of the grammar
abbrev pub SaysGrammar : Configuration → Others → Type 0
SaysGrammar c others = (stages : ℕ) → let stand = course_from c others stages first_stand in
    IsTrue (is_open stand.verdict) → IsTrue (is_slot (shape_in c) stand.at c.number) →
    IsTrue (is_ok (content_read (shape_in c) (own_content c stand.past stand.at)))

says-own : (replies : Replies) (c : Configuration) (stand : Stand) → IsPlain replies
    → content_to_say replies c stand ≡ own_content c stand.past stand.at
unfolding content_to_say own_content own_descriptor
says-own replies c stand plain =
    ap (λ (d : Description). content_text (content_with c (descriptor_text d) stand.past stand.at))
    (plain.descriptor (own_description c (contents_of stand.past)))

says-plainly : (replies : Replies) (c : Configuration) (a : Actor) (bytes : List ℕ) → IsPlain replies
    → speech_about replies c a bytes ≡ Say bytes
says-plainly replies c a bytes plain = elim (cases_Bool (a.stand.at == 0)) [
  | inl first ↦ cond-true (a.stand.at == 0) (replies.speech a.stand.at bytes a.log) _ first ∙ plain.speech a.stand.at bytes a.log
  | inr later ↦ cond-false (a.stand.at == 0) _ (replies.speech_after (own_description c (contents_of a.stand.past)) a.stand.at bytes a.log)
      later
      ∙ plain.speech_after (own_description c (contents_of a.stand.past)) a.stand.at bytes a.log
]

-- where it has spoken
abbrev pub having_said : Configuration → Actor → Actor
having_said c a = record a {
  log = filled a.log (record { stage = a.stand.at; sender = c.number }) (own_post c a.stand.past a.stand.at);
  mood = Spoken;
  made = a.made ++ own_post c a.stand.past a.stand.at ∷ [];
}

question-says : (replies : Replies) (c : Configuration) (a : Actor) → IsPlain replies
    → is_ok (content_read (shape_in c) (own_content c a.stand.past a.stand.at)) ≡ true
    → actor_behind_question replies c a (content_to_say replies c a.stand) ≡ having_said c a
unfolding own_post
question-says replies c a plain reads =
    ap (actor_behind_question replies c a) (says-own replies c a.stand plain)
    ∙ ap (actor_behind_answer c a) (says-plainly replies c a (own_content c a.stand.past a.stand.at) plain)
    ∙ cond-true (is_ok (content_read (shape_in c) (own_content c a.stand.past a.stand.at))) (having_said c a) _ reads

-- ---- one step

pub ended-step : (replies : Replies) (c : Configuration) (a : Actor) → is_open a.ending ≡ false → actor_behind_step replies c a ≡ a
unfolding actor_behind_step
ended-step replies c a ended = cond-false (is_open a.ending) (actor_behind_step_with replies c a (stage_posts c a)) a ended

pub open-step : (replies : Replies) (c : Configuration) (a : Actor) (o : Option (List Post)) → is_open a.ending ≡ true → stage_posts c a ≡ o
    → actor_behind_step replies c a ≡ actor_behind_step_with replies c a o
unfolding actor_behind_step
open-step replies c a o still e = cond-true (is_open a.ending) (actor_behind_step_with replies c a (stage_posts c a)) a still
    ∙ ap (actor_behind_step_with replies c a) e

pub posts-within : (c : Configuration) (a : Actor) → a.stand.at < stage_count (shape_in c)
    → stage_posts c a ≡ all_some (posts_in a.log a.stand.at)
posts-within c a lt = cond-true (nat_lt a.stand.at (stage_count (shape_in c))) (all_some (posts_in a.log a.stand.at)) None
    (lt-ltb a.stand.at (stage_count (shape_in c)) lt)

pub posts-past : (c : Configuration) (a : Actor) → stage_count (shape_in c) ≤ a.stand.at → stage_posts c a ≡ None
posts-past c a le = cond-false (nat_lt a.stand.at (stage_count (shape_in c))) (all_some (posts_in a.log a.stand.at)) None
    (false_from_ne_true (nat_lt a.stand.at (stage_count (shape_in c)))
    (λ e. (let lt = ltb-true a.stand.at (stage_count (shape_in c)) e in omega arith)))

-- it is to be asked exactly where it is a sender and has not spoken
due-when : (c : Configuration) (stand : Stand) (now : Bool) (mood : Mood) → mood ≡ mood_when now
    → (is_slot (shape_in c) stand.at c.number ≡ true → now ≡ true) → is_due c stand mood ≡ false
due-when c stand true mood e said = ap (is_due c stand) e
due-when c stand false mood e said = ap (is_due c stand) e ∙ false_from_ne_true (is_slot (shape_in c) stand.at c.number)
    (λ speaks. (let both = said speaks in cc))

-- how far it has come
abbrev pub bit : Bool → ℕ
bit true = 1
bit false = 0

-- a step leads on to there
pub record LeadsOn (c : Configuration) (others : Others) (from : ℕ) (a : Actor) : Type 0 where
  pub now : Bool
  pub stages : ℕ
  pub follows : Follows c others now stages a
  pub further : from < 2 * stages + bit now

-- the step in which it speaks
speaks-on : (replies : Replies) (c : Configuration) (others : Others) (stages : ℕ) (a : Actor) (kind : StageKind) → IsPlain replies
    → SaysGrammar c others → Follows c others false stages a
    → is_open a.stand.verdict ≡ true → a.stand.at < stage_count (shape_in c) → kind_of_stage (shape_in c) a.stand.at ≡ Some kind
    → is_slot (shape_in c) a.stand.at c.number ≡ true
    → LeadsOn c others (2 * stages) (actor_behind_step replies c a)
speaks-on replies c others stages a kind plain grammar f still lt kind_is speaks =
    subst (LeadsOn c others (2 * stages)) (sym step) (record { now = true; stages = stages; follows = after; further = omega arith })
  where
    is : IsReached c others a.stand
    is = follows-reached c others false stages a f

    waits : stage_posts c a ≡ None
    waits = posts-within c a lt ∙ ap (λ (log : Log). all_some (posts_in log a.stand.at)) f.log
        ∙ stage-waits c others a.stand kind kind_is speaks

    due : is_due c a.stand a.mood ≡ true
    due = ap (is_due c a.stand) f.mood ∙ speaks

    reads : is_ok (content_read (shape_in c) (own_content c a.stand.past a.stand.at)) ≡ true
    reads = subst (λ (s : Stand). is_open s.verdict ≡ true → is_slot (shape_in c) s.at c.number ≡ true
        → is_ok (content_read (shape_in c) (own_content c s.past s.at)) ≡ true) (sym f.stand) (grammar stages) still speaks

    step : actor_behind_step replies c a ≡ having_said c a
    step = open-step replies c a None (ap is_open f.ending ∙ still) waits
        ∙ cond-true (is_due c a.stand a.mood) (actor_behind_question replies c a (content_to_say replies c a.stand)) a due
        ∙ question-says replies c a plain reads

    after : Follows c others true stages (having_said c a)
    after = record {
      stand = f.stand;
      at = f.at;
      log = ap (λ (log : Log). filled log (record { stage = a.stand.at; sender = c.number }) (own_post c a.stand.past a.stand.at)) f.log
          ∙ speaks-log c others a.stand is speaks;
      made = ap (λ (made : List Post). made ++ own_post c a.stand.past a.stand.at ∷ []) f.made ∙ speaks-made c others a.stand is speaks;
      mood = refl;
      ending = f.ending;
      still = λ e. still;
    }

-- the stand behind a stage of the course that is filled
next-of : (c : Configuration) (others : Others) (stand : Stand) (posts : List Post) → is_open stand.verdict ≡ true
    → stage_filled c others stand ≡ Some posts → next_stand c others stand ≡ Some (stand_behind c stand posts)
unfolding next_stand
next-of c others stand posts still filled_is =
    cond-true (is_open stand.verdict) (option_map (stand_behind c stand) (stage_filled c others stand)) None still
    ∙ ap (option_map (stand_behind c stand)) filled_is

pub no-next-of : (c : Configuration) (others : Others) (stand : Stand) → is_open stand.verdict ≡ true → stage_filled c others stand ≡ None
    → next_stand c others stand ≡ None
unfolding next_stand
no-next-of c others stand still none =
    cond-true (is_open stand.verdict) (option_map (stand_behind c stand) (stage_filled c others stand)) None still
    ∙ ap (option_map (stand_behind c stand)) none

-- the course comes one stage further
course-further : (c : Configuration) (others : Others) (stages : ℕ) (stand next : Stand) → stand ≡ course_from c others stages first_stand
    → next_stand c others stand ≡ Some next → next ≡ course_from c others (stages + 1) first_stand
unfolding course_from
course-further c others stages stand next is e =
    sym (course-adds c others stages 1 first_stand ∙ ap (course_from c others 1) (sym is) ∙ course-next c others 0 stand next e)

-- the step in which it passes a stage
passes-on : (replies : Replies) (c : Configuration) (others : Others) (now : Bool) (stages : ℕ) (a : Actor) (kind : StageKind)
    (posts : List Post)
    → Follows c others now stages a
    → is_open a.stand.verdict ≡ true → a.stand.at < stage_count (shape_in c) → kind_of_stage (shape_in c) a.stand.at ≡ Some kind
    → (is_slot (shape_in c) a.stand.at c.number ≡ true → now ≡ true)
    → stage_filled c others a.stand ≡ Some posts → LeadsOn c others (2 * stages + bit now) (actor_behind_step replies c a)
passes-on replies c others now stages a kind posts f still lt kind_is said filled_is =
    subst (LeadsOn c others (2 * stages + bit now)) (sym step) (record
    { now = false; stages = stages + 1; follows = after; further = further now })
  where
    is : IsReached c others a.stand
    is = follows-reached c others now stages a f

    there : stage_posts c a ≡ Some posts
    there = posts-within c a lt ∙ ap (λ (log : Log). all_some (posts_in log a.stand.at)) f.log
        ∙ stage-filled c others a.stand now kind is kind_is said ∙ filled_is

    next : Stand
    next = stand_behind c a.stand posts

    step : actor_behind_step replies c a ≡ actor_behind_stage c a next
    step = open-step replies c a (Some posts) (ap is_open f.ending ∙ still) there

    after : Follows c others false (stages + 1) (actor_behind_stage c a next)
    after = record {
      stand = course-further c others stages a.stand next f.stand (next-of c others a.stand posts still filled_is);
      at = behind-at c a.stand posts ∙ ap (λ (k : ℕ). k + 1) f.at;
      log = f.log ∙ log-same c others a.stand now true said ∙ sym (passes-log c others a.stand posts is);
      made = f.made ∙ made-same c a.stand now true said ∙ sym (passes-made c others a.stand posts is);
      mood = refl;
      ending = refl;
      still = λ e. absurd cc;
    }

    further : (b : Bool) → 2 * stages + bit b < 2 * (stages + 1) + bit false
    further true = omega arith
    further false = omega arith

-- it rests: a step changes nothing
pub record IsStill (replies : Replies) (c : Configuration) (others : Others) (a : Actor) : Type 0 where
  pub rests : Rests c others a
  pub stays : actor_behind_step replies c a ≡ a

still-ended : (replies : Replies) (c : Configuration) (others : Others) (now : Bool) (stages : ℕ) (a : Actor)
    → Follows c others now stages a
    → is_open a.stand.verdict ≡ false → IsStill replies c others a
still-ended replies c others now stages a f ended = record {
  rests = record {
    now = now;
    stages = stages;
    follows = f;
    no_next = next-ended c others a.stand ended;
    spoken = λ still. absurd
        (let both = sym still ∙ ended in cc);
  };
  stays = ended-step replies c a (ap is_open f.ending ∙ ended);
}

still-past : (replies : Replies) (c : Configuration) (others : Others) (now : Bool) (stages : ℕ) (a : Actor) → Follows c others now stages a
    → is_open a.stand.verdict ≡ true → kind_of_stage (shape_in c) a.stand.at ≡ None
    → stage_count (shape_in c) ≤ a.stand.at → IsStill replies c others a
unfolding stage_filled
still-past replies c others now stages a f still none le = record {
  rests = record {
    now = now;
    stages = stages;
    follows = f;
    no_next = no-next-of c others a.stand still
        (ap (option_and_then (posts_of_kind c others a.stand)) none);
    spoken = λ _ speaks. absurd (let both = sym speaks ∙ silent in cc);
  };
  stays = open-step replies c a None (ap is_open f.ending ∙ still) (posts-past c a le)
      ∙ cond-false (is_due c a.stand a.mood) _ a (due-when c a.stand now a.mood f.mood
      (λ speaks. absurd (let both = sym speaks ∙ silent in cc)));
}
  where
    silent : is_slot (shape_in c) a.stand.at c.number ≡ false
    silent = ap (λ (o : Option StageKind). speaks_in (shape_in c) o c.number) none

still-waiting : (replies : Replies) (c : Configuration) (others : Others) (now : Bool) (stages : ℕ) (a : Actor) (kind : StageKind)
    → Follows c others now stages a
    → is_open a.stand.verdict ≡ true → a.stand.at < stage_count (shape_in c) → kind_of_stage (shape_in c) a.stand.at ≡ Some kind
    → (is_slot (shape_in c) a.stand.at c.number ≡ true → now ≡ true)
    → stage_filled c others a.stand ≡ None → IsStill replies c others a
still-waiting replies c others now stages a kind f still lt kind_is said none = record {
  rests = record { now = now; stages = stages; follows = f; no_next = no-next-of c others a.stand still none; spoken = λ _. said };
  stays = open-step replies c a None (ap is_open f.ending ∙ still)
      (posts-within c a lt ∙ ap (λ (log : Log). all_some (posts_in log a.stand.at)) f.log
      ∙ stage-filled c others a.stand now kind (follows-reached c others now stages a f) kind_is said ∙ none)
      ∙ cond-false (is_due c a.stand a.mood) _ a (due-when c a.stand now a.mood f.mood said);
}

-- a step leads on, or the member rests
pub step-leads : (replies : Replies) (c : Configuration) (others : Others) (now : Bool) (stages : ℕ) (a : Actor) → IsPlain replies
    → SaysGrammar c others → Follows c others now stages a
    → IsStill replies c others a ⊎ LeadsOn c others (2 * stages + bit now) (actor_behind_step replies c a)
step-leads replies c others now stages a plain grammar f = elim (cases_Bool (is_open a.stand.verdict)) [
  | inr ended ↦ inl (still-ended replies c others now stages a f ended)
  | inl still ↦ elim (cases_lt a.stand.at (stage_count (shape_in c))) [
    | inr le ↦ inl (still-past replies c others now stages a f still (stage-past (shape_in c) a.stand.at le) le)
    | inl lt ↦ elim (cases_Some (kind_of_stage (shape_in c) a.stand.at)) [
      | inl none ↦ absurd (let le = past-stage (shape_in c) a.stand.at none in omega arith)
      | inr kind ↦ by_sender still lt kind.0 kind.1 (cases_Bool (is_slot (shape_in c) a.stand.at c.number)) now f
    ]
  ]
]
  where
    filled_or_not : (still : is_open a.stand.verdict ≡ true) → a.stand.at < stage_count (shape_in c) → (kind : StageKind)
        → kind_of_stage (shape_in c) a.stand.at ≡ Some kind
        → (b : Bool) → Follows c others b stages a → (is_slot (shape_in c) a.stand.at c.number ≡ true → b ≡ true)
        → IsStill replies c others a ⊎ LeadsOn c others (2 * stages + bit b) (actor_behind_step replies c a)
    filled_or_not still lt kind kind_is b f said = elim (cases_Some (stage_filled c others a.stand)) [
      | inl none ↦ inl (still-waiting replies c others b stages a kind f still lt kind_is said none)
      | inr posts ↦ inr (passes-on replies c others b stages a kind posts.0 f still lt kind_is said posts.1)
    ]

    by_sender : (still : is_open a.stand.verdict ≡ true) → a.stand.at < stage_count (shape_in c) → (kind : StageKind)
        → kind_of_stage (shape_in c) a.stand.at ≡ Some kind
        → (is_slot (shape_in c) a.stand.at c.number ≡ true) ⊎ (is_slot (shape_in c) a.stand.at c.number ≡ false) → (b : Bool)
        → Follows c others b stages a
        → IsStill replies c others a ⊎ LeadsOn c others (2 * stages + bit b) (actor_behind_step replies c a)
    by_sender still lt kind kind_is (inl speaks) true f = filled_or_not still lt kind kind_is true f (λ _. refl)
    by_sender still lt kind kind_is (inl speaks) false f =
        (let on = speaks-on replies c others stages a kind plain grammar f still lt kind_is speaks in inr
        (record { now = on.now; stages = on.stages; follows = on.follows; further = (let more = on.further in omega arith) }))
    by_sender still lt kind kind_is (inr silent) b f = filled_or_not still lt kind kind_is b f
        (λ speaks. absurd (let both = sym speaks ∙ silent in cc))
