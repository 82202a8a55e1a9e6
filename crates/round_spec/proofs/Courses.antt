-- The course of a round, stage by stage.
use Rattle.std.proofs.Common.{◌≡◌, ℕ, zero, suc, ◌+◌, ◌-◌, ◌≤◌, false, List, [], ◌∷◌, map, Option, Some, None, ap, sym, ◌∙◌, refl, arith, inl, inr, subst}
use Rattle.std.specs.Prelude.{◌⊎◌, option_map, option_and_then, ◌==◌}
use Rattle.std.proofs.lemmas.Bool.{cases_Bool, cond-true, cond-false}
use Rattle.std.proofs.lemmas.Option.{none-some}
use Rattle.phase_message.specs.declared.post.Post.{Post}
use Rattle.phase_message.specs.declared.stage.Slot.{Slot}
use Rattle.phase_message.specs.Slots.{senders_in}
use Rattle.phase_message.specs.Stages.{kind_of_stage}
use Rattle.stage_log.specs.Log.{all_some}
use Rattle.stage_log.proofs.Pasts.{option_map-some}
use Rattle.round_spec.specs.Say.{Configuration, own_post, shape_in}
use Rattle.round_spec.specs.Course.{Others, Stand, course_from, stand_or_next, is_open, next_stand, stand_behind, post_of, posts_of_kind, stage_filled}
use Rattle.round_spec.specs.Laws.{IsContained, ComesThrough}

-- ---- options

-- nothing, or something
pub cases_Some : {A : Type 0} (o : Option A) → (o ≡ None) ⊎ ((x : A) × (o ≡ Some x))
cases_Some None = inl refl
cases_Some (Some x) = inr (x, refl)

-- what comes of something stays
pub map-some : {A B : Type 0} (f : A → B) (o o' : Option A) (y : B) → ((x : A) → o ≡ Some x → o' ≡ Some x) → option_map f o ≡ Some y
    → option_map f o' ≡ Some y
map-some f None o' y grows e = absurd (none-some y e)
map-some f (Some x) o' y grows e = ap (option_map f) (grows x refl) ∙ e

pub then-some : {A B : Type 0} (f g : A → Option B) (o : Option A) (y : B) → ((x : A) → f x ≡ Some y → g x ≡ Some y)
    → option_and_then f o ≡ Some y → option_and_then g o ≡ Some y
then-some f g None y grows e = e
then-some f g (Some x) y grows e = grows x e

pub all_some-grows : {A B : Type 0} (f g : A → Option B) (xs : List A) (ys : List B) → ((x : A) (y : B) → f x ≡ Some y → g x ≡ Some y)
    → all_some (map f xs) ≡ Some ys → all_some (map g xs) ≡ Some ys
all_some-grows f g [] ys grows e = e
all_some-grows {A} {B} f g (x ∷ xs) ys grows e = elim (cases_Some (f x)) [
  | inl none ↦ absurd (none-some ys (sym (ap (λ (o : Option B). all_some (o ∷ map f xs)) none) ∙ e))
  | inr found ↦
      let rest = option_map-some (λ (zs : List B). found.0 ∷ zs) (all_some (map f xs)) ys
      (sym (ap (λ (o : Option B). all_some (o ∷ map f xs)) found.1) ∙ e) in
      ap (λ (o : Option B). all_some (o ∷ map g xs)) (grows x found.0 found.1)
      ∙ ap (option_map (λ (zs : List B). found.0 ∷ zs)) (all_some-grows f g xs rest.0 grows rest.1)
      ∙ ap (λ (zs : List B). Some zs) rest.2
]

-- ---- one stage

-- the post of a sender stays with more posts
post-grows : (c : Configuration) (others more : Others) (stand : Stand) (sender : ℕ) (post : Post) → IsContained others more
    → post_of c others stand sender ≡ Some post → post_of c more stand sender ≡ Some post
post-grows c others more stand sender post contained e =
    let slot : Slot = record { stage = stand.at; sender = sender } in
    elim (cases_Bool (sender == c.number)) [
      | inl own ↦ cond-true (sender == c.number) (Some (own_post c stand.past stand.at)) (more slot) own
          ∙ sym (cond-true (sender == c.number) (Some (own_post c stand.past stand.at)) (others slot) own) ∙ e
      | inr other ↦ cond-false (sender == c.number) (Some (own_post c stand.past stand.at)) (more slot) other
          ∙ contained slot post (sym (cond-false (sender == c.number) (Some (own_post c stand.past stand.at)) (others slot) other) ∙ e)
    ]

-- what is filled stays filled with more posts
pub filled-grows : (c : Configuration) (others more : Others) (stand : Stand) (posts : List Post) → IsContained others more
    → stage_filled c others stand ≡ Some posts → stage_filled c more stand ≡ Some posts
unfolding stage_filled
filled-grows c others more stand posts contained e =
    then-some (posts_of_kind c others stand) (posts_of_kind c more stand) (kind_of_stage (shape_in c) stand.at) posts
    (λ kind. all_some-grows (post_of c others stand) (post_of c more stand) (senders_in (shape_in c) kind) posts
    (λ sender post. post-grows c others more stand sender post contained)) e

pub next-grows : (c : Configuration) (others more : Others) (stand next : Stand) → IsContained others more
    → next_stand c others stand ≡ Some next → next_stand c more stand ≡ Some next
unfolding next_stand
next-grows c others more stand next contained e = elim (cases_Bool (is_open stand.verdict)) [
  | inl still ↦ cond-true (is_open stand.verdict) (option_map (stand_behind c stand) (stage_filled c more stand)) None still
      ∙ map-some (stand_behind c stand) (stage_filled c others stand) (stage_filled c more stand) next
      (λ posts. filled-grows c others more stand posts contained)
      (sym (cond-true (is_open stand.verdict) (option_map (stand_behind c stand) (stage_filled c others stand)) None still) ∙ e)
  | inr ended ↦ absurd (none-some next (sym (cond-false (is_open stand.verdict)
      (option_map (stand_behind c stand) (stage_filled c others stand)) None ended) ∙ e))
]

-- a round that is not open has no next stand
pub next-ended : (c : Configuration) (others : Others) (stand : Stand) → is_open stand.verdict ≡ false → next_stand c others stand ≡ None
unfolding next_stand
next-ended c others stand ended = cond-false (is_open stand.verdict) (option_map (stand_behind c stand) (stage_filled c others stand)) None
    ended

-- ---- many stages

-- without a next stand the course stays
pub course-stays : (c : Configuration) (others : Others) (stages : ℕ) (stand : Stand) → next_stand c others stand ≡ None
    → course_from c others stages stand ≡ stand
unfolding course_from
course-stays c others zero stand none = refl
course-stays c others (suc stages) stand none = ap (stand_or_next (course_from c others stages) stand) none

-- with one it goes on from there
pub course-next : (c : Configuration) (others : Others) (stages : ℕ) (stand next : Stand) → next_stand c others stand ≡ Some next
    → course_from c others (suc stages) stand ≡ course_from c others stages next
unfolding course_from
course-next c others stages stand next some = ap (stand_or_next (course_from c others stages) stand) some

course-zero : (c : Configuration) (others : Others) (stand : Stand) → course_from c others 0 stand ≡ stand
unfolding course_from
course-zero c others stand = refl

pub course-adds : (c : Configuration) (others : Others) (stages more : ℕ) (stand : Stand)
    → course_from c others (stages + more) stand ≡ course_from c others more (course_from c others stages stand)
course-adds c others zero more stand =
    let same : zero + more ≡ more = omega arith in
    ap (λ (k : ℕ). course_from c others k stand) same ∙ ap (course_from c others more) (sym (course-zero c others stand))
course-adds c others (suc stages) more stand =
    let same : suc stages + more ≡ suc (stages + more) = omega arith in
    ap (λ (k : ℕ). course_from c others k stand) same
    ∙ elim (cases_Some (next_stand c others stand)) [
      | inl none ↦ course-stays c others (suc (stages + more)) stand none
          ∙ sym (ap (course_from c others more) (course-stays c others (suc stages) stand none) ∙ course-stays c others more stand none)
      | inr next ↦ course-next c others (stages + more) stand next.0 next.1 ∙ course-adds c others stages more next.0
          ∙ ap (course_from c others more) (sym (course-next c others stages stand next.0 next.1))
    ]

-- no stage is passed
stays-through : (c : Configuration) (more : Others) (stages : ℕ) (stand later : Stand) → later ≡ stand
    → ComesThrough c more stages stand later
stays-through c more stages stand later same = record {
  count = 0;
  most = omega arith;
  goes_on = λ longer. (let e : 0 + longer ≡ longer = omega arith in ap (λ (k : ℕ). course_from c more k stand) e
      ∙ ap (course_from c more longer) (sym same));
}

-- one stage more is passed
passes-through : (c : Configuration) (more : Others) (stages : ℕ) (stand next later : Stand) → next_stand c more stand ≡ Some next
    → ComesThrough c more stages next later → ComesThrough c more (suc stages) stand later
passes-through c more stages stand next later some through = record {
  count = suc through.count;
  most = omega (arith, through.most);
  goes_on = λ longer. (let e : suc through.count + longer ≡ suc (through.count + longer) = omega arith in
      ap (λ (k : ℕ). course_from c more k stand) e ∙ course-next c more (through.count + longer) stand next some ∙ through.goes_on longer);
}

pub course-grows : (c : Configuration) (others more : Others) (stages : ℕ) (stand : Stand) → IsContained others more
    → ComesThrough c more stages stand (course_from c others stages stand)
course-grows c others more zero stand contained = stays-through c more zero stand _ (course-zero c others stand)
course-grows c others more (suc stages) stand contained = elim (cases_Some (next_stand c others stand)) [
  | inl none ↦ stays-through c more (suc stages) stand _ (course-stays c others (suc stages) stand none)
  | inr next ↦ subst (λ (later : Stand). ComesThrough c more (suc stages) stand later)
      (sym (course-next c others stages stand next.0 next.1))
      (passes-through c more stages stand next.0 _ (next-grows c others more stand next.0 contained next.1)
      (course-grows c others more stages next.0 contained))
]

pub course-end-unique : (c : Configuration) (others more : Others) (stages longer : ℕ) (stand : Stand) → IsContained others more
    → is_open (course_from c others stages stand).verdict ≡ false → stages ≤ longer
    → course_from c more longer stand ≡ course_from c others stages stand
course-end-unique c others more stages longer stand contained ended within =
    let through = course-grows c others more stages stand contained in
    let split : longer ≡ through.count + (longer - through.count) = omega (arith, through.most) in
    ap (λ (k : ℕ). course_from c more k stand) split ∙ through.goes_on (longer - through.count)
    ∙ course-stays c more (longer - through.count) (course_from c others stages stand)
    (next-ended c more (course_from c others stages stand) ended)
