-- Where the steps of a plain member end: at the course of all that was said to it.
use Rattle.std.proofs.Common.{◌≡◌, ◌⊎◌, ℕ, zero, suc, ◌+◌, ◌-◌, ◌*◌, ◌≤◌, Bool, true, false, Option, None, ap, sym, ◌∙◌, refl, subst, arith, inl, inr}
use Rattle.std.specs.Prelude.{option_and_then}
use Rattle.std.specs.Fn.{iterate}
use Rattle.std.proofs.lemmas.Bool.{cases_Bool, false_from_ne_true}
use Rattle.phase_message.specs.declared.stage.StageKind.{StageKind}
use Rattle.phase_message.specs.Slots.{stage_count}
use Rattle.phase_message.specs.Stages.{is_slot, kind_of_stage, speaks as speaks_in}
use Rattle.phase_message.proofs.SlotLists.{stage-past}
use Rattle.round_spec.specs.Say.{Configuration, shape_in}
use Rattle.round_spec.specs.Course.{Others, Stand, course_from, course_of, first_stand, is_open, own_posts, post_settled, posts_of_kind, settled_log, stage_filled}
use Rattle.round_spec.proofs.Courses.{course-adds, course-stays, next-ended}
use Rattle.member_spec.specs.Actor.{Actor, actor_behind_steps, actor_behind_step}
use Rattle.member_spec.specs.Replies.{IsPlain, Replies}
use Rattle.member_spec.proofs.Kept.{log-same, log_with, made-same, made_with}
use Rattle.member_spec.proofs.Steps.{Follows, Rests, SaysGrammar, bit, follows-reached, no-next-of, step-leads}

-- ---- all steps

pub stays-still : (f : Actor → Actor) (n : ℕ) (a : Actor) → f a ≡ a → iterate f n a ≡ a
stays-still f zero a e = refl
stays-still f (suc n) a e = ap (iterate f n) e ∙ stays-still f n a e

-- after so many steps it rests, or has come so far
Moved : Replies → Configuration → Others → ℕ → Actor → Type 0
Moved replies c others far a = Rests c others a ⊎ ((now : Bool) × (stages : ℕ) × Follows c others now stages a
    × (far ≤ 2 * stages + bit now))

moved : (replies : Replies) (c : Configuration) (others : Others) (n : ℕ) (now : Bool) (stages : ℕ) (a : Actor) → IsPlain replies
    → SaysGrammar c others → Follows c others now stages a
    → Moved replies c others (2 * stages + bit now + n) (iterate (actor_behind_step replies c) n a)
unfolding Moved
moved replies c others zero now stages a plain grammar f = inr (now, stages, f, omega arith)
moved replies c others (suc n) now stages a plain grammar f = elim (step-leads replies c others now stages a plain grammar f) [
  | inl still ↦ inl (subst (Rests c others) (sym (ap (iterate (actor_behind_step replies c) n) still.stays
      ∙ stays-still (actor_behind_step replies c) n a still.stays)) still.rests)
  | inr on ↦ elim (moved replies c others n on.now on.stages (actor_behind_step replies c a) plain grammar on.follows) [
    | inl rests ↦ inl rests
    | inr far ↦ (let further = on.further in let least = far.3 in inr (far.0, far.1, far.2, omega arith))
  ]
]

-- where all stages were passed, nothing is left
past-rests : (c : Configuration) (others : Others) (now : Bool) (stages : ℕ) (a : Actor) → Follows c others now stages a
    → stage_count (shape_in c) ≤ stages → Rests c others a
unfolding stage_filled
past-rests c others now stages a f le = record {
  now = now;
  stages = stages;
  follows = f;
  no_next = elim (cases_Bool (is_open a.stand.verdict)) [
    | inl still ↦ no-next-of c others a.stand still (ap (option_and_then (posts_of_kind c others a.stand)) none)
    | inr ended ↦ next-ended c others a.stand ended
  ];
  spoken = λ _ speaks. absurd (let both = sym speaks ∙ ap (λ (o : Option StageKind). speaks_in (shape_in c) o c.number) none in cc);
}
  where
    none : kind_of_stage (shape_in c) a.stand.at ≡ None
    none = stage-past (shape_in c) a.stand.at (let at = f.at in omega arith)

-- all steps that there can be end at rest
pub steps-rest : (replies : Replies) (c : Configuration) (others : Others) (now : Bool) (stages : ℕ) (a : Actor) → IsPlain replies
    → SaysGrammar c others → Follows c others now stages a → Rests c others (actor_behind_steps replies c a)
unfolding Moved
steps-rest replies c others now stages a plain grammar f = elim
    (moved replies c others (2 * stage_count (shape_in c)) now stages a plain grammar f) [
      | inl rests ↦ rests
      | inr far ↦ (let least = far.3 in past-rests c others far.0 far.1 _ far.2 (enough far.0 far.1 least))
    ]
  where
    enough : (b : Bool) (m : ℕ) → 2 * stages + bit now + 2 * stage_count (shape_in c) ≤ 2 * m + bit b → stage_count (shape_in c) ≤ m
    enough true m le = omega arith
    enough false m le = omega arith

-- ---- at rest

-- it stands where the course ends
pub rests-stand : (c : Configuration) (others : Others) (a : Actor) → Rests c others a → a.stand ≡ course_of c others
unfolding course_of
rests-stand c others a rests =
    let f = rests.follows in
    let is = follows-reached c others rests.now rests.stages a f in
    let within = is.within in
    let at = f.at in
    let split : stage_count (shape_in c) ≡ rests.stages + (stage_count (shape_in c) - rests.stages) = omega arith in
    sym (ap (λ (k : ℕ). course_from c others k first_stand) split
    ∙ course-adds c others rests.stages (stage_count (shape_in c) - rests.stages) first_stand
    ∙ ap (course_from c others (stage_count (shape_in c) - rests.stages)) (sym f.stand)
    ∙ course-stays c others (stage_count (shape_in c) - rests.stages) a.stand rests.no_next)

-- whether it has spoken is whether the round is open, where it is a sender
spoken-open : (c : Configuration) (others : Others) (a : Actor) (rests : Rests c others a) → is_slot (shape_in c) a.stand.at c.number ≡ true
    → rests.now ≡ is_open a.stand.verdict
spoken-open c others a rests speaks = elim (cases_Bool (is_open a.stand.verdict)) [
  | inl still ↦ rests.spoken still speaks ∙ sym still
  | inr ended ↦ false_from_ne_true rests.now (λ spoken. (let both = sym (rests.follows.still spoken) ∙ ended in cc)) ∙ sym ended
]

settled-is : (c : Configuration) (others : Others)
    → log_with c others (course_of c others) (is_open (course_of c others).verdict) ≡ settled_log c others
unfolding log_with settled_log post_settled
settled-is c others = refl

made-is : (c : Configuration) (stand : Stand) → made_with c stand (is_open stand.verdict) ≡ own_posts c stand
unfolding made_with own_posts
made-is c stand = refl

-- its log is the settled one
pub rests-log : (c : Configuration) (others : Others) (a : Actor) → Rests c others a → a.log ≡ settled_log c others
rests-log c others a rests =
    rests.follows.log ∙ log-same c others a.stand rests.now (is_open a.stand.verdict) (spoken-open c others a rests)
    ∙ ap (λ (s : Stand). log_with c others s (is_open s.verdict)) (rests-stand c others a rests) ∙ settled-is c others

-- and it has made the posts of the course
pub rests-made : (c : Configuration) (others : Others) (a : Actor) → Rests c others a → a.made ≡ own_posts c (course_of c others)
rests-made c others a rests =
    rests.follows.made ∙ made-same c a.stand rests.now (is_open a.stand.verdict) (spoken-open c others a rests)
    ∙ made-is c a.stand ∙ ap (own_posts c) (rests-stand c others a rests)
