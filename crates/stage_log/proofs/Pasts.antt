-- What was said before a stage: lists in which nothing is missing, and their parts.
use Rattle.std.proofs.Common.{◌≡◌, ℕ, ◌+◌, ◌-◌, ◌<◌, ◌≤◌, List, [], ◌∷◌, map, take, drop, Option, Some, None, refl, ap, sym, ◌∙◌, arith}
use Rattle.std.specs.Prelude.{IsSome, IfOk, IfSome, Result, Ok, Err}
use Rattle.std.specs.List.{slice_range}
use Rattle.std.specs.Option.{option_map}
use Rattle.std.proofs.lemmas.List.{drop-take, take-take, take-map, drop-map}
use Rattle.std.proofs.lemmas.List.Elements.{All-take, All-drop}
use Rattle.phase_message.specs.declared.post.Post.{Post}
use Rattle.phase_message.specs.Slots.{slots_before}
use Rattle.phase_message.proofs.SlotLists.{slots_before-rises}
use Rattle.stage_log.specs.Table.{Log, IsKept, AreKept, posts_in}
use Rattle.stage_log.specs.Log.{all_some, before, contents_of, contents_at, contents_in, posts_kept}

pub some_of : {A : Type 0} (o : Option A) → IsSome o → (x : A) × (o ≡ Some x)
some_of (Some x) is = (x, refl)
some_of None is = absurd cc

pub option_map-some : {A B : Type 0} (f : A → B) (o : Option A) (y : B) → option_map f o ≡ Some y → (x : A) × (o ≡ Some x) × (f x ≡ y)
option_map-some f (Some x) y e = (x, refl, cc)
option_map-some f None y e = absurd cc

-- ---- lists in which nothing is missing

-- a list of which nothing is missing has its values, one after the other
pub all_some-is : {A : Type 0} (xs : List (Option A)) (ys : List A) → all_some xs ≡ Some ys → xs ≡ map (λ x. Some x) ys
all_some-is {A} [] ys e = let same : [] ≡ ys = cc in ap (map (λ x. Some x)) same
all_some-is {A} (None ∷ xs) ys e = absurd cc
all_some-is {A} (Some x ∷ xs) ys e =
    let p = option_map-some (λ (zs : List A). x ∷ zs) (all_some xs) ys e in
    ap (λ (t : List (Option A)). Some x ∷ t) (all_some-is xs p.0 p.1) ∙ ap (map (λ x. Some x)) p.2

pub all_some-map : {A : Type 0} (ys : List A) → all_some (map (λ x. Some x) ys) ≡ Some ys
all_some-map [] = refl
all_some-map (y ∷ ys) = ap (option_map (λ zs. y ∷ zs)) (all_some-map ys)

pub contents_in-map : (posts : List Post) → contents_in (map (λ x. Some x) posts) ≡ contents_of posts
contents_in-map [] = refl
contents_in-map (post ∷ posts) = ap (λ (t : List (List ℕ)). post.content ∷ t) (contents_in-map posts)

pub posts_kept-map : (posts : List Post) → posts_kept (map (λ x. Some x) posts) ≡ posts
posts_kept-map [] = refl
posts_kept-map (post ∷ posts) = ap (λ (t : List Post). post ∷ t) (posts_kept-map posts)

-- a part of a front is a part of the whole
pub slice_range-take : {A : Type 0} (xs : List A) (a b n : ℕ) → a ≤ b → b ≤ n → slice_range (take n xs) a b ≡ slice_range xs a b
slice_range-take xs a b n le le' =
    let split : n ≡ a + (n - a) = omega arith in
    let dropped : drop a (take n xs) ≡ take (n - a) (drop a xs) = ap (λ (k : ℕ). drop a (take k xs)) split ∙ drop-take a (n - a) xs in
    let within : b - a ≤ n - a = omega arith in
    ap (take (b - a)) dropped ∙ take-take (b - a) (n - a) (drop a xs) within

slice_range-map : {A B : Type 0} (f : A → B) (xs : List A) (a b : ℕ) → slice_range (map f xs) a b ≡ map f (slice_range xs a b)
slice_range-map f xs a b = ap (take (b - a)) (drop-map f a xs) ∙ take-map f (b - a) (drop a xs)

-- ---- the posts of a stage

-- where all stages up to a later one are complete, the posts of a stage are those of the past
pub posts_in-past : (log : Log) (stage later : ℕ) (posts : List Post) → stage < later → before log later ≡ Some posts
    → posts_in log stage ≡ map (λ x. Some x) (slice_range posts (slots_before log.shape stage) (slots_before log.shape (stage + 1)))
posts_in-past log stage later posts lt e =
    let a : ℕ = slots_before log.shape stage in
    let b : ℕ = slots_before log.shape (stage + 1) in
    let n : ℕ = slots_before log.shape later in
    let le : a ≤ b = slots_before-rises log.shape stage (stage + 1) (omega arith) in
    let le' : b ≤ n = slots_before-rises log.shape (stage + 1) later (omega arith) in
    sym (slice_range-take log.posts a b n le le')
    ∙ ap (λ (t : List (Option Post)). slice_range t a b) (all_some-is (take n log.posts) posts e)
    ∙ slice_range-map (λ x. Some x) posts a b

pub contents_in-past : (log : Log) (stage later : ℕ) (posts : List Post) → stage < later → before log later ≡ Some posts
    → contents_in (posts_in log stage) ≡ contents_at log.shape (contents_of posts) stage
contents_in-past log stage later posts lt e =
    let a : ℕ = slots_before log.shape stage in
    let b : ℕ = slots_before log.shape (stage + 1) in
    ap contents_in (posts_in-past log stage later posts lt e)
    ∙ contents_in-map (slice_range posts a b)
    ∙ sym (slice_range-map (λ post. post.content) posts a b)

pub AreKept-slice_range : (places : List (Option Post)) (a b : ℕ) → AreKept places → AreKept (slice_range places a b)
AreKept-slice_range places a b kept =
    let P : Option Post → Type 0 = λ kept. IfSome kept (λ (post : Post). IsKept post.content) in
    All-take P (b - a) (drop a places) (All-drop P a places kept)

-- where all stages before are complete, the posts of the first places are those of the past
pub before-kept : (log : Log) (stage : ℕ) → IsSome (before log stage)
    → before log stage ≡ Some (posts_kept (take (slots_before log.shape stage) log.posts))
before-kept log stage is =
    let past = some_of (before log stage) is in
    past.1 ∙ ap (λ (posts : List Post). Some posts) (sym (ap posts_kept
    (all_some-is (take (slots_before log.shape stage) log.posts) past.0 past.1) ∙ posts_kept-map past.0))

pub kept-ok : {A E : Type 0} (items : A → List Post) (o : Option (List Post)) (kept : List Post) (r : Result A E) → o ≡ Some kept
    → IfOk r (λ x. items x ≡ kept) → IfOk r (λ x. o ≡ Some (items x))
kept-ok items o kept (Ok x) e is = e ∙ ap (λ (posts : List Post). Some posts) (sym is)
kept-ok items o kept (Err d) e is = tt
