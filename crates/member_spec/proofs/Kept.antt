-- What a plain member keeps and has made where it stands: the others' posts, and its own of the stages that it has spoken
-- at, which are those that were passed and, once it has spoken there, the one that is being filled.
use Rattle.std.proofs.Common.{◌≡◌, ◌⊎◌, ℕ, zero, suc, ◌+◌, Bool, true, false, List, [], ◌∷◌, map, Option, Some, None, ap, sym, ◌∙◌, refl, arith, inl, inr}
use Rattle.std.specs.Prelude.{◌&&◌, ◌||◌, ◌==◌, filter_map, nat_lt, option_and_then, option_map, if◌then◌else◌}
use Rattle.std.specs.List.{cons_option, range_with_len, slice_get}
use Rattle.std.proofs.lemmas.Bool.{and_from, and_parts, cases_Bool, cond-false, cond-true, eq-eqb, eqb-true, false_from_ne_true, ltb-true, or_cases, or_right}
use Rattle.std.proofs.lemmas.List.{take_all}
use Rattle.std.proofs.lemmas.Option.{none-some}
use Rattle.phase_message.specs.declared.post.Post.{Post}
use Rattle.phase_message.specs.declared.stage.Slot.{Slot}
use Rattle.phase_message.specs.declared.stage.StageKind.{StageKind}
use Rattle.phase_message.specs.Slots.{senders_in, slots_before, stage_count}
use Rattle.phase_message.specs.Stages.{is_slot, kind_of_stage}
use Rattle.phase_message.proofs.SlotLists.{slot_at-is, slot_at-place}
use Rattle.stage_log.specs.Log.{all_some}
use Rattle.stage_log.specs.Table.{Log, posts_in}
use Rattle.round_spec.specs.Say.{Configuration, own_post, shape_in}
use Rattle.round_spec.specs.Course.{Others, Stand, post_of, posts_before_stage, posts_of_kind, stage_filled}
use Rattle.round_spec.specs.Reached.{IsReached}
use Rattle.member_spec.proofs.Places.{log_of_places, place-of-sender, places-same, stage-places}

-- whether it has spoken at a stage; `now` says whether it has at the one that is being filled
abbrev pub has_said : Configuration → Stand → Bool → ℕ → Bool
has_said c stand now stage = is_slot (shape_in c) stage c.number && (nat_lt stage stand.at || (now && (stage == stand.at)))

-- its own post at a stage, if it has spoken there
abbrev pub own_at : Configuration → Stand → Bool → ℕ → Option Post
own_at c stand now stage = if has_said c stand now stage then Some (own_post c (posts_before_stage c stand stage) stage) else None

-- the post of a slot
abbrev pub place_with : Configuration → Others → Stand → Bool → Slot → Option Post
place_with c others stand now slot = if slot.sender == c.number then own_at c stand now slot.stage else others slot

-- the log that it keeps
unfoldable pub log_with : Configuration → Others → Stand → Bool → Log
log_with c others stand now = log_of_places (shape_in c) (place_with c others stand now)

-- the posts that it has made
unfoldable pub made_with : Configuration → Stand → Bool → List Post
made_with c stand now = filter_map (own_at c stand now) (range_with_len 0 (stage_count (shape_in c)))

-- ---- when it has spoken

has_said-same : (c : Configuration) (stand : Stand) (now later : Bool) (stage : ℕ)
    → (is_slot (shape_in c) stand.at c.number ≡ true → now ≡ later)
    → has_said c stand now stage ≡ has_said c stand later stage
has_said-same c stand now later stage same = elim (cases_Bool (is_slot (shape_in c) stage c.number)) [
  | inr silent ↦ ap (λ (b : Bool). b && (nat_lt stage stand.at || (now && (stage == stand.at)))) silent
      ∙ sym (ap (λ (b : Bool). b && (nat_lt stage stand.at || (later && (stage == stand.at)))) silent)
  | inl speaks ↦ elim (cases_Bool (stage == stand.at)) [
    | inl here ↦
        let at : stage ≡ stand.at = eqb-true stage stand.at here in
        ap (λ (b : Bool). is_slot (shape_in c) stage c.number && (nat_lt stage stand.at || (b && (stage == stand.at))))
        (same (sym (ap (λ (s : ℕ). is_slot (shape_in c) s c.number) at) ∙ speaks))
    | inr there ↦
        ap (λ (b : Bool). is_slot (shape_in c) stage c.number && (nat_lt stage stand.at || b))
        (and_false now there ∙ sym (and_false later there))
  ]
]
  where
    and_false : (b : Bool) → (stage == stand.at) ≡ false → (b && (stage == stand.at)) ≡ false
    and_false true e = e
    and_false false e = refl

-- where it is no sender, it does not matter whether it has spoken
pub log-same : (c : Configuration) (others : Others) (stand : Stand) (now later : Bool)
    → (is_slot (shape_in c) stand.at c.number ≡ true → now ≡ later) → log_with c others stand now ≡ log_with c others stand later
unfolding log_with
log-same c others stand now later same =
    ap (λ (posts : List (Option Post)). record { shape = shape_in c; posts = posts })
    (places-same (shape_in c) (place_with c others stand now) (place_with c others stand later) (λ slot speaks.
    ap (λ (o : Option Post). if slot.sender == c.number then o else others slot)
    (ap (λ (b : Bool). if b then Some (own_post c (posts_before_stage c stand slot.stage) slot.stage) else None)
    (has_said-same c stand now later slot.stage same))))

filter-same : (f g : ℕ → Option Post) (xs : List ℕ) → ((x : ℕ) → f x ≡ g x) → filter_map f xs ≡ filter_map g xs
filter-same f g [] same = refl
filter-same f g (x ∷ xs) same = ap (λ (o : Option Post). cons_option o (filter_map f xs)) (same x)
    ∙ ap (cons_option (g x)) (filter-same f g xs same)

pub made-same : (c : Configuration) (stand : Stand) (now later : Bool) → (is_slot (shape_in c) stand.at c.number ≡ true → now ≡ later)
    → made_with c stand now ≡ made_with c stand later
unfolding made_with
made-same c stand now later same = filter-same (own_at c stand now) (own_at c stand later) (range_with_len 0 (stage_count (shape_in c)))
    (λ stage.
    ap (λ (b : Bool). if b then Some (own_post c (posts_before_stage c stand stage) stage) else None)
    (has_said-same c stand now later stage same))

-- ---- a stage that is being filled

-- the posts of the stage, where all of its senders may be there
pub place-now : (c : Configuration) (others : Others) (stand : Stand) (sender : ℕ) → IsReached c others stand
    → is_slot (shape_in c) stand.at sender ≡ true
    → place_with c others stand true (record { stage = stand.at; sender = sender }) ≡ post_of c others stand sender
place-now c others stand sender is speaks = by_sender (cases_Bool (sender == c.number))
  where
    own : Option Post
    own = own_at c stand true stand.at

    there : Option Post
    there = others (record { stage = stand.at; sender = sender })

    by_sender : (sender == c.number ≡ true) ⊎ (sender == c.number ≡ false)
        → (if sender == c.number then own_at c stand true stand.at else others (record { stage = stand.at; sender = sender })) ≡ post_of c
        others stand sender
    by_sender (inr other) =
        cond-false (sender == c.number) (own_at c stand true stand.at) (others (record { stage = stand.at; sender = sender })) other
        ∙ sym (cond-false (sender == c.number) (Some (own_post c stand.past stand.at))
        (others (record { stage = stand.at; sender = sender })) other)
    by_sender (inl is_own) =
        let number = eqb-true sender c.number is_own in
        let speaks_own : is_slot (shape_in c) stand.at c.number ≡ true = sym (ap (λ (s : ℕ). is_slot (shape_in c) stand.at s) number)
        ∙ speaks in
        let said : has_said c stand true stand.at ≡ true = and_from _ _ speaks_own
        (or_right (nat_lt stand.at stand.at) _ (eq-eqb stand.at stand.at refl)) in
        cond-true (sender == c.number) (own_at c stand true stand.at) (others (record { stage = stand.at; sender = sender })) is_own
        ∙ cond-true (has_said c stand true stand.at) (Some (own_post c (posts_before_stage c stand stand.at) stand.at)) None said
        ∙ ap (λ (past : List Post). Some (own_post c past stand.at))
        (take_all (slots_before (shape_in c) stand.at) stand.past (omega (arith, is.whole)))
        ∙ sym (cond-true (sender == c.number) (Some (own_post c stand.past stand.at))
        (others (record { stage = stand.at; sender = sender })) is_own)

map-in : (f g : ℕ → Option Post) (xs : List ℕ) → ((i x : ℕ) → slice_get xs i ≡ Some x → f x ≡ g x) → map f xs ≡ map g xs
map-in f g [] same = refl
map-in f g (x ∷ xs) same = ap (λ (o : Option Post). o ∷ map f xs) (same 0 x refl)
    ∙ ap (λ (os : List (Option Post)). g x ∷ os) (map-in f g xs (λ i y e. same (suc i) y e))

-- each of the senders of a stage has a slot there
sender-speaks : (c : Configuration) (stage place sender : ℕ) (kind : StageKind) → kind_of_stage (shape_in c) stage ≡ Some kind
    → slice_get (senders_in (shape_in c) kind) place ≡ Some sender → is_slot (shape_in c) stage sender ≡ true
sender-speaks c stage place sender kind is at = (slot_at-is (shape_in c) (slots_before (shape_in c) stage + place)
    (record { stage = stage; sender = sender }) (slot_at-place (shape_in c) stage place sender kind is at)).0

-- once it has spoken, or where it is no sender, the posts of the stage are those that fill it
pub stage-filled : (c : Configuration) (others : Others) (stand : Stand) (now : Bool) (kind : StageKind) → IsReached c others stand
    → kind_of_stage (shape_in c) stand.at ≡ Some kind
    → (is_slot (shape_in c) stand.at c.number ≡ true → now ≡ true)
    → all_some (posts_in (log_with c others stand now) stand.at) ≡ stage_filled c others stand
unfolding stage_filled log_with
stage-filled c others stand now kind is kind_is said =
    ap (λ (log : Log). all_some (posts_in log stand.at)) (log-same c others stand now true said)
    ∙ filled_all
    ∙ sym (ap (option_and_then (posts_of_kind c others stand)) kind_is)
  where
    filled_all : all_some (posts_in (log_with c others stand true) stand.at) ≡ posts_of_kind c others stand kind
    filled_all =
        ap all_some (stage-places (shape_in c) (place_with c others stand true) stand.at kind kind_is
        ∙ map-in (λ sender. place_with c others stand true (record { stage = stand.at; sender = sender })) (post_of c others stand)
        (senders_in (shape_in c) kind)
        (λ i sender at. place-now c others stand sender is (sender-speaks c stand.at i sender kind kind_is at)))

not-all : (f : ℕ → Option Post) (xs : List ℕ) (i x : ℕ) → slice_get xs i ≡ Some x → f x ≡ None → all_some (map f xs) ≡ None
not-all f [] i x e none = absurd (none-some x e)
not-all f (y ∷ ys) zero x e none = ap (λ (o : Option Post). all_some (o ∷ map f ys)) (ap f (same-number y x e) ∙ none)
  where
    same-number : (a b : ℕ) → (let told : ℕ → Option ℕ = λ z. Some z in told a ≡ told b) → a ≡ b
    same-number a b e = cc
not-all f (y ∷ ys) (suc i) x e none = by_first (f y) (not-all f ys i x e none)
  where
    by_first : (o : Option Post) → all_some (map f ys) ≡ None → all_some (o ∷ map f ys) ≡ None
    by_first None rest = refl
    by_first (Some z) rest = ap (option_map (λ (zs : List Post). z ∷ zs)) rest

-- as long as it is a sender and has not spoken, the stage is not complete
pub stage-waits : (c : Configuration) (others : Others) (stand : Stand) (kind : StageKind) → kind_of_stage (shape_in c) stand.at ≡ Some kind
    → is_slot (shape_in c) stand.at c.number ≡ true
    → all_some (posts_in (log_with c others stand false) stand.at) ≡ None
unfolding log_with
stage-waits c others stand kind kind_is speaks =
    let place = place-of-sender (shape_in c) stand.at c.number kind kind_is speaks in
    ap all_some (stage-places (shape_in c) (place_with c others stand false) stand.at kind kind_is)
    ∙ not-all (λ sender. place_with c others stand false (record { stage = stand.at; sender = sender })) (senders_in (shape_in c) kind)
    place.0 c.number place.1 none
  where
    none : place_with c others stand false (record { stage = stand.at; sender = c.number }) ≡ None
    none =
        cond-true (c.number == c.number) (own_at c stand false stand.at) (others (record { stage = stand.at; sender = c.number }))
        (eq-eqb c.number c.number refl)
        ∙ cond-false (has_said c stand false stand.at) (Some (own_post c (posts_before_stage c stand stand.at) stand.at)) None
        (false_from_ne_true (has_said c stand false stand.at) (λ said.
        elim (or_cases (nat_lt stand.at stand.at) (false && (stand.at == stand.at))
        (and_parts (is_slot (shape_in c) stand.at c.number) _ said).1) [
          | inl below ↦ (let lt = ltb-true stand.at stand.at below in omega arith)
          | inr never ↦ absurd cc
        ]))
