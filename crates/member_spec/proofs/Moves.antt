-- What becomes of what a plain member keeps and has made, as it speaks, passes a stage and is delivered a post.
use Rattle.std.proofs.Common.{◌≡◌, ◌≢◌, ◌⊎◌, ℕ, zero, suc, ◌+◌, ◌-◌, ◌<◌, ◌≤◌, Bool, true, false, List, [], ◌∷◌, ◌++◌, take, Option, Some, None, ap, sym, ◌∙◌, refl, arith, inl, inr, append-nil}
use Rattle.std.specs.Prelude.{◌&&◌, ◌||◌, ◌==◌, filter_map, nat_lt, if◌then◌else◌}
use Rattle.std.specs.List.{cons_option, range_with_len}
use Rattle.std.proofs.lemmas.Bool.{and_parts, cases_Bool, cases_lt, cond-false, cond-true, eq-eqb, eqb-true, false_from_ne_true, lt-ltb, ltb-true, or_cases}
use Rattle.std.proofs.lemmas.List.{take-append-le}
use Rattle.std.proofs.lemmas.List.Elements.{filter_map-append}
use Rattle.phase_message.specs.declared.post.Post.{Post}
use Rattle.phase_message.specs.declared.stage.Slot.{Slot}
use Rattle.phase_message.specs.Slots.{slots_before, stage_count}
use Rattle.phase_message.specs.declared.stage.StageKind.{StageKind}
use Rattle.phase_message.specs.Stages.{is_slot, speaks as speaks_in}
use Rattle.phase_message.proofs.SlotLists.{slots_before-rises, stage-past}
use Rattle.stage_log.specs.Table.{filled}
use Rattle.round_spec.specs.Say.{Configuration, own_post, shape_in}
use Rattle.round_spec.specs.Course.{Others, Stand, posts_before_stage, stand_behind}
use Rattle.round_spec.specs.Reached.{IsReached}
use Rattle.member_spec.proofs.Kept.{has_said, log_with, made_with, own_at, place-now, place_with}
use Rattle.member_spec.proofs.Places.{places-same, places-set}

-- ---- it speaks

-- what it has said at other stages does not change
has_said-elsewhere : (c : Configuration) (stand : Stand) (stage : ℕ) → (stage == stand.at) ≡ false
    → has_said c stand false stage ≡ has_said c stand true stage
has_said-elsewhere c stand stage other = ap (λ (b : Bool). is_slot (shape_in c) stage c.number && (nat_lt stage stand.at || b)) (sym other)

own-elsewhere : (c : Configuration) (stand : Stand) (stage : ℕ) → (stage == stand.at) ≡ false
    → own_at c stand false stage ≡ own_at c stand true stage
own-elsewhere c stand stage other = ap (λ (b : Bool). if b then Some (own_post c (posts_before_stage c stand stage) stage) else None)
    (has_said-elsewhere c stand stage other)

-- the own post, where it is a sender
own-there : (c : Configuration) (others : Others) (stand : Stand) → IsReached c others stand → is_slot (shape_in c) stand.at c.number ≡ true
    → place_with c others stand true (record { stage = stand.at; sender = c.number }) ≡ Some (own_post c stand.past stand.at)
own-there c others stand is speaks =
    place-now c others stand c.number is speaks
    ∙ cond-true (c.number == c.number) (Some (own_post c stand.past stand.at)) (others (record { stage = stand.at; sender = c.number }))
    (eq-eqb c.number c.number refl)

own-now : (c : Configuration) (others : Others) (stand : Stand) → IsReached c others stand → is_slot (shape_in c) stand.at c.number ≡ true
    → own_at c stand true stand.at ≡ Some (own_post c stand.past stand.at)
own-now c others stand is speaks =
    sym (cond-true (c.number == c.number) (own_at c stand true stand.at) (others (record { stage = stand.at; sender = c.number }))
    (eq-eqb c.number c.number refl))
    ∙ own-there c others stand is speaks

own-not-yet : (c : Configuration) (stand : Stand) → own_at c stand false stand.at ≡ None
own-not-yet c stand = cond-false (has_said c stand false stand.at) (Some (own_post c (posts_before_stage c stand stand.at) stand.at)) None
    (false_from_ne_true (has_said c stand false stand.at) (λ said.
    elim (or_cases (nat_lt stand.at stand.at) (false && (stand.at == stand.at))
    (and_parts (is_slot (shape_in c) stand.at c.number) _ said).1) [
      | inl below ↦ (let lt = ltb-true stand.at stand.at below in omega arith)
      | inr never ↦ absurd cc
    ]))

-- its own post is put into its log
pub speaks-log : (c : Configuration) (others : Others) (stand : Stand) → IsReached c others stand
    → is_slot (shape_in c) stand.at c.number ≡ true
    → filled (log_with c others stand false) (record { stage = stand.at; sender = c.number }) (own_post c stand.past stand.at) ≡ log_with c
    others stand true
unfolding log_with
speaks-log c others stand is speaks =
    ap (λ (posts : List (Option Post)). record { shape = shape_in c; posts = posts })
    (places-set (shape_in c) (place_with c others stand false) (place_with c others stand true)
    (record { stage = stand.at; sender = c.number }) (own_post c stand.past stand.at) speaks
    (own-there c others stand is speaks) (λ other there apart. by_sender other apart (cases_Bool (other.sender == c.number))
    (cases_Bool (other.stage == stand.at))))
  where
    slot : Slot
    slot = record { stage = stand.at; sender = c.number }

    by_sender : (other : Slot) → other ≢ slot → (other.sender == c.number ≡ true) ⊎ (other.sender == c.number ≡ false)
        → ((other.stage == stand.at) ≡ true) ⊎ ((other.stage == stand.at) ≡ false)
        → place_with c others stand false other ≡ place_with c others stand true other
    by_sender other apart (inl own) (inl here) = absurd (apart (sym (slot-is other)
        ∙ ap (λ (s : ℕ). record { stage = s; sender = other.sender }) (eqb-true other.stage stand.at here)
        ∙ ap (λ (s : ℕ). record { stage = stand.at; sender = s }) (eqb-true other.sender c.number own)))
      where
        slot-is : (s : Slot) → record { stage = s.stage; sender = s.sender } ≡ s
        slot-is s = refl
    by_sender other apart own (inr there) = ap (λ (o : Option Post). if other.sender == c.number then o else others other)
        (own-elsewhere c stand other.stage there)
    by_sender other apart (inr not_own) (inl here) =
        cond-false (other.sender == c.number) (own_at c stand false other.stage) (others other) not_own
        ∙ sym (cond-false (other.sender == c.number) (own_at c stand true other.stage) (others other) not_own)

-- ---- ranges of stages

range-splits : (a m n : ℕ) → range_with_len a (m + n) ≡ range_with_len a m ++ range_with_len (a + m) n
range-splits a zero n = (let none : zero + n ≡ n = omega arith in let start : a + zero ≡ a = omega arith in ap (range_with_len a) none
    ∙ sym (ap (λ (k : ℕ). range_with_len k n) start))
range-splits a (suc m) n =
    let more : suc m + n ≡ suc (m + n) = omega arith in
    let start : a + 1 + m ≡ a + suc m = omega arith in
    ap (range_with_len a) more
    ∙ ap (λ (xs : List ℕ). a ∷ xs) (range-splits (a + 1) m n ∙ ap (λ (k : ℕ). range_with_len (a + 1) m ++ range_with_len k n) start)

pub filter-in : (f g : ℕ → Option Post) (a n : ℕ) → ((x : ℕ) → a ≤ x → x < a + n → f x ≡ g x)
    → filter_map f (range_with_len a n) ≡ filter_map g (range_with_len a n)
filter-in f g a zero same = refl
filter-in f g a (suc n) same =
    ap (λ (o : Option Post). cons_option o (filter_map f (range_with_len (a + 1) n))) (same a (omega arith) (omega arith))
    ∙ ap (cons_option (g a)) (filter-in f g (a + 1) n (λ x le lt. same x (omega arith) (omega arith)))

pub filter-none : (f : ℕ → Option Post) (a n : ℕ) → ((x : ℕ) → a ≤ x → x < a + n → f x ≡ None) → filter_map f (range_with_len a n) ≡ []
filter-none f a zero none = refl
filter-none f a (suc n) none =
    ap (λ (o : Option Post). cons_option o (filter_map f (range_with_len (a + 1) n))) (none a (omega arith) (omega arith))
    ∙ filter-none f (a + 1) n (λ x le lt. none x (omega arith) (omega arith))

-- the values of the numbers before one, its own, and those behind it
filter-splits : (f : ℕ → Option Post) (at n : ℕ) → at < n
    → filter_map f (range_with_len 0 n) ≡ filter_map f (range_with_len 0 at)
    ++ cons_option (f at) (filter_map f (range_with_len (at + 1) (n - at - 1)))
filter-splits f at n lt =
    let split : n ≡ at + suc (n - at - 1) = omega arith in
    let start : 0 + at ≡ at = omega arith in
    ap (λ (k : ℕ). filter_map f (range_with_len 0 k)) split ∙ ap (filter_map f) (range-splits 0 at (suc (n - at - 1)))
    ∙ ap (λ (k : ℕ). filter_map f (range_with_len 0 at ++ range_with_len k (suc (n - at - 1)))) start
    ∙ filter_map-append f (range_with_len 0 at) (range_with_len at (suc (n - at - 1)))

within-round : (c : Configuration) (stage : ℕ) → is_slot (shape_in c) stage c.number ≡ true → stage < stage_count (shape_in c)
within-round c stage speaks = elim (cases_lt stage (stage_count (shape_in c))) [
  | inl lt ↦ lt
  | inr le ↦ absurd (let none : is_slot (shape_in c) stage c.number ≡ false = ap
      (λ (o : Option StageKind). speaks_in (shape_in c) o c.number) (stage-past (shape_in c) stage le) in let both = sym speaks
      ∙ none in cc)
]

-- nothing was said behind the stage that is being filled
pub own-later : (c : Configuration) (stand : Stand) (now : Bool) (stage : ℕ) → stand.at + 1 ≤ stage → own_at c stand now stage ≡ None
own-later c stand now stage le = cond-false (has_said c stand now stage) (Some (own_post c (posts_before_stage c stand stage) stage)) None
    (false_from_ne_true (has_said c stand now stage) (λ said.
    elim (or_cases (nat_lt stage stand.at) (now && (stage == stand.at)) (and_parts (is_slot (shape_in c) stage c.number) _ said).1) [
      | inl below ↦ (let lt = ltb-true stage stand.at below in omega arith)
      | inr here ↦ (let same = eqb-true stage stand.at (and_parts now (stage == stand.at) here).1 in omega arith)
    ]))

-- its own post comes behind those that it made
pub speaks-made : (c : Configuration) (others : Others) (stand : Stand) → IsReached c others stand
    → is_slot (shape_in c) stand.at c.number ≡ true
    → made_with c stand false ++ own_post c stand.past stand.at ∷ [] ≡ made_with c stand true
unfolding made_with
speaks-made c others stand is speaks =
    ap (λ (posts : List Post). posts ++ own_post c stand.past stand.at ∷ []) (filter-splits (own_at c stand false) stand.at n lt
    ∙ ap (λ (posts : List Post). front false ++ posts) (ap (λ (o : Option Post). cons_option o (back false)) (own-not-yet c stand)
    ∙ nothing false)
    ∙ append-nil (front false))
    ∙ ap (λ (posts : List Post). posts ++ own_post c stand.past stand.at ∷ [])
    (filter-in (own_at c stand false) (own_at c stand true) 0 stand.at (λ x le lt. own-elsewhere c stand x (elsewhere x lt)))
    ∙ sym (filter-splits (own_at c stand true) stand.at n lt
    ∙ ap (λ (posts : List Post). front true ++ posts) (ap (λ (o : Option Post). cons_option o (back true))
    (own-now c others stand is speaks)
    ∙ ap (λ (posts : List Post). own_post c stand.past stand.at ∷ posts) (nothing true)))
  where
    n : ℕ
    n = stage_count (shape_in c)

    lt : stand.at < n
    lt = within-round c stand.at speaks

    front : Bool → List Post
    front now = filter_map (own_at c stand now) (range_with_len 0 stand.at)

    back : Bool → List Post
    back now = filter_map (own_at c stand now) (range_with_len (stand.at + 1) (n - stand.at - 1))

    nothing : (now : Bool) → back now ≡ []
    nothing now = filter-none (own_at c stand now) (stand.at + 1) (n - stand.at - 1) (λ x le lt. own-later c stand now x le)

    elsewhere : (x : ℕ) → x < 0 + stand.at → (x == stand.at) ≡ false
    elsewhere x lt = false_from_ne_true (x == stand.at) (λ same. (let e = eqb-true x stand.at same in omega arith))

-- ---- it passes a stage

-- behind the stage it has spoken at the same stages
has_said-passed : (c : Configuration) (stand : Stand) (posts : List Post) (stage : ℕ)
    → has_said c (stand_behind c stand posts) false stage ≡ has_said c stand true stage
unfolding stand_behind
has_said-passed c stand posts stage = ap (λ (b : Bool). is_slot (shape_in c) stage c.number && b) (by_order (cases_lt stage stand.at))
  where
    by_order : (stage < stand.at) ⊎ (stand.at ≤ stage)
        → (nat_lt stage (stand.at + 1) || (false && (stage == stand.at + 1))) ≡ (nat_lt stage stand.at || (true && (stage == stand.at)))
    by_order (inl lt) = ap (λ (b : Bool). b || (false && (stage == stand.at + 1))) (lt-ltb stage (stand.at + 1) (omega arith))
        ∙ sym (ap (λ (b : Bool). b || (true && (stage == stand.at))) (lt-ltb stage stand.at lt))
    by_order (inr le) = elim (cases_lt stand.at stage) [
      | inl beyond ↦
          ap (λ (b : Bool). b || (false && (stage == stand.at + 1)))
          (false_from_ne_true (nat_lt stage (stand.at + 1)) (λ e. (let lt = ltb-true stage (stand.at + 1) e in omega arith)))
          ∙ sym (ap (λ (b : Bool). b || (true && (stage == stand.at)))
          (false_from_ne_true (nat_lt stage stand.at) (λ e. (let lt = ltb-true stage stand.at e in omega arith)))
          ∙ false_from_ne_true (stage == stand.at) (λ e. (let same = eqb-true stage stand.at e in omega arith)))
      | inr here ↦
          let same : stage ≡ stand.at = omega arith in
          ap (λ (b : Bool). b || (false && (stage == stand.at + 1))) (lt-ltb stage (stand.at + 1) (omega arith))
          ∙ sym (ap (λ (b : Bool). nat_lt stage stand.at || b) (eq-eqb stage stand.at same) ∙ or_true (nat_lt stage stand.at))
    ]
      where
        or_true : (b : Bool) → (b || true) ≡ true
        or_true true = refl
        or_true false = refl

-- and its posts there are the same
own-passed : (c : Configuration) (others : Others) (stand : Stand) (posts : List Post) (stage : ℕ) → IsReached c others stand
    → own_at c (stand_behind c stand posts) false stage ≡ own_at c stand true stage
unfolding stand_behind
own-passed c others stand posts stage is =
    ap (λ (b : Bool). if b then Some (own_post c (take (slots_before (shape_in c) stage) (stand.past ++ posts)) stage) else None)
    (has_said-passed c stand posts stage)
    ∙ by_said (cases_Bool (has_said c stand true stage))
  where
    by_said : (has_said c stand true stage ≡ true) ⊎ (has_said c stand true stage ≡ false)
        → (if has_said c stand true stage then Some (own_post c (take (slots_before (shape_in c) stage) (stand.past ++ posts)) stage) else
        None) ≡ own_at c stand true stage
    by_said (inr silent) =
        cond-false (has_said c stand true stage) (Some (own_post c (take (slots_before (shape_in c) stage) (stand.past ++ posts)) stage))
        None silent
        ∙ sym (cond-false (has_said c stand true stage) (Some (own_post c (posts_before_stage c stand stage) stage)) None silent)
    by_said (inl said) =
        let within : stage ≤ stand.at = elim (or_cases (nat_lt stage stand.at) (true && (stage == stand.at))
        (and_parts (is_slot (shape_in c) stage c.number) _ said).1) [
          | inl below ↦ (let lt = ltb-true stage stand.at below in omega arith)
          | inr here ↦ (let same = eqb-true stage stand.at here in omega arith)
        ] in
        let rises = slots_before-rises (shape_in c) stage stand.at within in
        ap (λ (past : List Post). if has_said c stand true stage then Some (own_post c past stage) else None)
        (take-append-le (slots_before (shape_in c) stage) stand.past posts (omega (arith, is.whole)))

pub passes-log : (c : Configuration) (others : Others) (stand : Stand) (posts : List Post) → IsReached c others stand
    → log_with c others (stand_behind c stand posts) false ≡ log_with c others stand true
unfolding log_with
passes-log c others stand posts is =
    ap (λ (places : List (Option Post)). record { shape = shape_in c; posts = places })
    (places-same (shape_in c) (place_with c others (stand_behind c stand posts) false) (place_with c others stand true) (λ slot speaks.
    ap (λ (o : Option Post). if slot.sender == c.number then o else others slot) (own-passed c others stand posts slot.stage is)))

pub passes-made : (c : Configuration) (others : Others) (stand : Stand) (posts : List Post) → IsReached c others stand
    → made_with c (stand_behind c stand posts) false ≡ made_with c stand true
unfolding made_with
passes-made c others stand posts is = filter-in (own_at c (stand_behind c stand posts) false) (own_at c stand true) 0
    (stage_count (shape_in c)) (λ stage le lt. own-passed c others stand posts stage is)

-- ---- it is delivered a post

-- the post of another member is put into its log
pub keeps-log : (c : Configuration) (others more : Others) (stand : Stand) (now : Bool) (slot : Slot) (post : Post)
    → is_slot (shape_in c) slot.stage slot.sender ≡ true → (slot.sender == c.number) ≡ false
    → more slot ≡ Some post → ((other : Slot) → other ≢ slot → others other ≡ more other)
    → filled (log_with c others stand now) slot post ≡ log_with c more stand now
unfolding log_with
keeps-log c others more stand now slot post speaks not_own here same =
    ap (λ (posts : List (Option Post)). record { shape = shape_in c; posts = posts })
    (places-set (shape_in c) (place_with c others stand now) (place_with c more stand now) slot post speaks
    (cond-false (slot.sender == c.number) (own_at c stand now slot.stage) (more slot) not_own ∙ here)
    (λ other there apart. ap (λ (o : Option Post). if other.sender == c.number then own_at c stand now other.stage else o)
    (same other apart)))
