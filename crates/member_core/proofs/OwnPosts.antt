-- The posts that a member made, in what its log keeps of it by stage.
use Rattle.std.proofs.Common.{◌≡◌, ◌⊎◌, ℕ, zero, suc, ◌+◌, ◌-◌, ◌*◌, ◌<◌, ◌≤◌, Bool, true, false, List, [], ◌∷◌, ◌++◌, cond, length, Option, Some, None, ap, sym, ◌∙◌, refl, arith, inl, inr, append-nil}
use Rattle.std.specs.Prelude.{IsSome, count_by, filter_map, is_some, if◌then◌else◌}
use Rattle.std.specs.List.{cons_option, range_with_len, slice_get, slice_set}
use Rattle.std.specs.Option.{option_flatten}
use Rattle.std.proofs.lemmas.Bool.{cases_Bool, cond-false, cond-true}
use Rattle.std.proofs.lemmas.List.Elements.{filter_map-append}
use Rattle.std.proofs.lemmas.List.Sums.{sum_by-cons}
use Rattle.phase_message.specs.declared.post.Post.{Post}
use Rattle.phase_message.specs.declared.stage.Slot.{Slot}
use Rattle.phase_message.specs.Shape.{Shape}
use Rattle.phase_message.specs.Slots.{slot_number, stage_count}
use Rattle.phase_message.specs.Stages.{is_slot}
use Rattle.phase_message.proofs.SlotBounds.{slot-bounds}
use Rattle.stage_log.specs.Log.{before}
use Rattle.stage_log.specs.Table.{IsLog, Log, filled, kept_in}
use Rattle.stage_log.proofs.Entries.{number-within}
use Rattle.stage_log.proofs.KeptPosts.{kept-filled, one-slot}
use Rattle.round_spec.proofs.OwnChecks.{spoken-before, spoken_of, twelve}
use Rattle.honest_say.proofs.PastLemmas.{kept-post}
use Rattle.member_spec.proofs.Moves.{filter-in, filter-none}
use Rattle.member_core.specs.Membership.{own_posts_kept}
use Rattle.member_core.specs.Sound.{IsEmptyFrom}

-- what a log keeps of a member at a stage
abbrev pub own_kept : Log → ℕ → ℕ → Option Post
own_kept log number stage = kept_in log (record { stage = stage; sender = number })

-- ---- one slot more is filled

get-other : {A : Type 0} (xs : List A) (k i : ℕ) (y : A) → (i ≡ k → ⊥) → slice_get (slice_set xs k y) i ≡ slice_get xs i
get-other [] k i y apart = refl
get-other (z ∷ xs) zero zero y apart = absurd (apart refl)
get-other (z ∷ xs) zero (suc i) y apart = refl
get-other (z ∷ xs) (suc k) zero y apart = refl
get-other (z ∷ xs) (suc k) (suc i) y apart = get-other xs k i y (λ e. apart (ap (λ (n : ℕ). suc n) e))

get-same : {A : Type 0} (xs : List A) (k : ℕ) (y : A) → k < length xs → slice_get (slice_set xs k y) k ≡ Some y
get-same [] k y lt = absurd (omega arith)
get-same (z ∷ xs) zero y lt = refl
get-same (z ∷ xs) (suc k) y lt = get-same xs k y (omega arith)

-- in the other slots a log keeps what it kept
pub kept-elsewhere : (log : Log) (slot other : Slot) (post : Post) → is_slot log.shape slot.stage slot.sender ≡ true → (other ≡ slot → ⊥)
    → kept_in (filled log slot post) other ≡ kept_in log other
kept-elsewhere log slot other post speaks apart = elim (cases_Bool (is_slot log.shape other.stage other.sender)) [
  | inl there ↦ ap (λ (o : Option (Option Post)). if is_slot log.shape other.stage other.sender then option_flatten o else None)
      (get-other log.posts (slot_number log.shape slot.stage slot.sender) (slot_number log.shape other.stage other.sender) (Some post)
      (λ same. apart (one-slot log.shape slot other speaks there same)))
  | inr silent ↦ cond-false (is_slot log.shape other.stage other.sender) _ None silent
      ∙ sym (cond-false (is_slot log.shape other.stage other.sender) _ None silent)
]

-- so it does of a member at other stages
pub own-elsewhere : (log : Log) (number at stage : ℕ) (post : Post) → is_slot log.shape at number ≡ true → (stage ≡ at → ⊥)
    → own_kept (filled log (record { stage = at; sender = number }) post) number stage ≡ own_kept log number stage
own-elsewhere log number at stage post speaks apart =
    kept-elsewhere log (record { stage = at; sender = number }) (record { stage = stage; sender = number }) post speaks
    (λ same. apart (ap (λ (slot : Slot). slot.stage) same))

-- and there the post
pub own-here : (log : Log) (number at : ℕ) (post : Post) → IsLog log → is_slot log.shape at number ≡ true
    → own_kept (filled log (record { stage = at; sender = number }) post) number at ≡ Some post
own-here log number at post is speaks =
    let k : ℕ = slot_number log.shape at number in
    cond-true (is_slot log.shape at number) (option_flatten (slice_get (slice_set log.posts k (Some post)) k)) None speaks
    ∙ ap option_flatten (get-same log.posts k (Some post) (number-within log (record { stage = at; sender = number }) is speaks))

-- what a log keeps once a slot is filled was kept before, or is the post that filled it
pub kept-cases : (log : Log) (slot other : Slot) (post kept : Post) → IsLog log → is_slot log.shape slot.stage slot.sender ≡ true
    → kept_in (filled log slot post) other ≡ Some kept → (kept_in log other ≡ Some kept) ⊎ ((other ≡ slot) × (kept ≡ post))
kept-cases log slot other post kept is speaks e = kept-filled log slot other post kept speaks e

-- ---- by stage

range-splits : (a m n : ℕ) → range_with_len a (m + n) ≡ range_with_len a m ++ range_with_len (a + m) n
range-splits a zero n = (let none : zero + n ≡ n = omega arith in let start : a + zero ≡ a = omega arith in ap (range_with_len a) none
    ∙ sym (ap (λ (k : ℕ). range_with_len k n) start))
range-splits a (suc m) n =
    let more : suc m + n ≡ suc (m + n) = omega arith in
    let start : a + 1 + m ≡ a + suc m = omega arith in
    ap (range_with_len a) more
    ∙ ap (λ (xs : List ℕ). a ∷ xs) (range-splits (a + 1) m n ∙ ap (λ (k : ℕ). range_with_len (a + 1) m ++ range_with_len k n) start)

-- the values of the numbers before one, its own, and those behind it
filter-splits : (f : ℕ → Option Post) (at n : ℕ) → at < n
    → filter_map f (range_with_len 0 n) ≡ filter_map f (range_with_len 0 at)
    ++ cons_option (f at) (filter_map f (range_with_len (at + 1) (n - at - 1)))
filter-splits f at n lt =
    let split : n ≡ at + suc (n - at - 1) = omega arith in
    let start : 0 + at ≡ at = omega arith in
    ap (λ (k : ℕ). filter_map f (range_with_len 0 k)) split ∙ ap (filter_map f) (range-splits 0 at (suc (n - at - 1)))
    ∙ ap (λ (k : ℕ). filter_map f (range_with_len 0 at ++ range_with_len k (suc (n - at - 1)))) start
    ∙ filter_map-append f (range_with_len 0 at) (range_with_len at (suc (n - at - 1)))

-- where nothing is behind a number, only those before it count
front-only : (f : ℕ → Option Post) (at n : ℕ) → at ≤ n → ((later : ℕ) → at ≤ later → f later ≡ None)
    → filter_map f (range_with_len 0 n) ≡ filter_map f (range_with_len 0 at)
front-only f at n le none =
    let split : n ≡ at + (n - at) = omega arith in
    ap (λ (k : ℕ). filter_map f (range_with_len 0 k)) split ∙ ap (filter_map f) (range-splits 0 at (n - at))
    ∙ filter_map-append f (range_with_len 0 at) (range_with_len (0 + at) (n - at))
    ∙ ap (λ (posts : List Post). filter_map f (range_with_len 0 at) ++ posts)
    (filter-none f (0 + at) (n - at) (λ x from lt. none x (omega arith)))
    ∙ append-nil (filter_map f (range_with_len 0 at))

-- a post at a stage from which on nothing was kept comes behind all others
pub one-more : (log : Log) (number at : ℕ) (post : Post) → IsLog log → is_slot log.shape at number ≡ true → IsEmptyFrom log number at
    → own_posts_kept (filled log (record { stage = at; sender = number }) post) number ≡ own_posts_kept log number ++ post ∷ []
unfolding own_posts_kept
one-more log number at post is speaks none =
    filter-splits f at n lt
    ∙ ap (λ (posts : List Post). posts ++ cons_option (f at) back)
    (filter-in f g 0 at (λ x from small. own-elsewhere log number at x post speaks (λ e. omega arith)))
    ∙ ap (λ (o : Option Post). front ++ cons_option o back) (own-here log number at post is speaks)
    ∙ ap (λ (posts : List Post). front ++ post ∷ posts)
    (filter-none f (at + 1) (n - at - 1) (λ x from small. own-elsewhere log number at x post speaks (λ e. omega arith)
    ∙ none x (omega arith)))
    ∙ sym (ap (λ (posts : List Post). posts ++ post ∷ []) (front-only g at n (omega (arith, lt)) none))
  where
    n : ℕ
    n = stage_count log.shape

    lt : at < n
    lt = (slot-bounds log.shape at number speaks).0

    f : ℕ → Option Post
    f = own_kept (filled log (record { stage = at; sender = number }) post) number

    g : ℕ → Option Post
    g = own_kept log number

    front : List Post
    front = filter_map g (range_with_len 0 at)

    back : List Post
    back = filter_map f (range_with_len (at + 1) (n - at - 1))

-- ---- how many

length-cons : (o : Option Post) (posts : List Post) → length (cons_option o posts) ≡ cond (is_some o) 1 0 + length posts
length-cons None posts = omega arith
length-cons (Some post) posts = omega arith

counts : (f : ℕ → Option Post) (p : ℕ → Bool) (a n : ℕ) → ((x : ℕ) → a ≤ x → x < a + n → is_some (f x) ≡ p x)
    → length (filter_map f (range_with_len a n)) ≡ count_by p (range_with_len a n)
counts f p a zero same = refl
counts f p a (suc n) same =
    let one = length-cons (f a) (filter_map f (range_with_len (a + 1) n)) in
    let here = ap {B = ℕ} (λ (b : Bool). cond b 1 0) (same a (omega arith) (omega arith)) in
    let rest = counts f p (a + 1) n (λ x from small. same x (omega arith) (omega arith)) in
    let more = sum_by-cons (λ (x : ℕ). cond (p x) 1 0) a (range_with_len (a + 1) n) in
    omega (arith, one, here, rest, more)

-- where all stages before a stage are complete, a member has spoken before it as often as the round asks
pub said-before : (log : Log) (number at : ℕ) → IsLog log → IsSome (before log at) → at ≤ stage_count log.shape → IsEmptyFrom log number at
    → length (own_posts_kept log number) ≡ count_by (λ earlier. is_slot log.shape earlier number) (range_with_len 0 at)
unfolding own_posts_kept
said-before log number at is complete le none =
    ap length (front-only (own_kept log number) at (stage_count log.shape) le none)
    ∙ counts (own_kept log number) (λ earlier. is_slot log.shape earlier number) 0 at
    (λ x from small. by_slot x (omega arith) (cases_Bool (is_slot log.shape x number)))
  where
    by_slot : (x : ℕ) → x < at → (is_slot log.shape x number ≡ true) ⊎ (is_slot log.shape x number ≡ false)
        → is_some (own_kept log number x) ≡ is_slot log.shape x number
    by_slot x lt (inl speaks) =
        let post = kept-post log at (record { stage = x; sender = number }) is complete speaks lt in
        ap is_some post.1 ∙ sym speaks
    by_slot x lt (inr silent) =
        ap is_some (cond-false (is_slot log.shape x number) (option_flatten (slice_get log.posts (slot_number log.shape x number))) None
        silent) ∙ sym silent

-- ---- twelve leaves are enough

-- a member that speaks at a stage and has said nothing from there on has a post to make yet
pub fewer-said : (log : Log) (number at : ℕ) → IsLog log → IsSome (before log at) → is_slot log.shape at number ≡ true
    → IsEmptyFrom log number at
    → length (own_posts_kept log number) < 12
fewer-said log number at is complete speaks none =
    let n : ℕ = log.shape.members in
    let bounds = slot-bounds log.shape at number speaks in
    let rest : ℕ = 2 * n + 9 - at in
    let within = bounds.0 in
    let whole : at + suc rest ≡ 2 * n + 10 = omega (arith, within) in
    let shape_is : log.shape ≡ record { version = 1; members = n } = ap (λ (v : ℕ). record { version = v; members = n }) is.shape.first in
    let fewer = spoken-before (λ (earlier : ℕ). is_slot log.shape earlier number) at rest speaks in
    let all : count_by (λ (earlier : ℕ). is_slot log.shape earlier number) (range_with_len 0 (at + suc rest)) ≡ spoken_of n number =
    ap (λ (k : ℕ). count_by (λ (earlier : ℕ). is_slot log.shape earlier number) (range_with_len 0 k)) whole
    ∙ ap (λ (s : Shape). count_by (λ (earlier : ℕ). is_slot s earlier number) (range_with_len 0 (2 * n + 10))) shape_is in
    let said = said-before log number at is complete (omega (arith, within)) none in
    omega (arith, fewer, all, twelve n number is.shape.least is.shape.most bounds.1 bounds.2, said)
