-- Lists that have a value for each slot of a round.
use Rattle.std.proofs.Common.{◌≡◌, ◌≢◌, ◌⊎◌, ℕ, ◌+◌, ◌-◌, ◌<◌, true, List, [], ◌∷◌, length, get_or, map, take, drop, set, Option, Some, None, ap, sym, ◌∙◌, refl, arith, inl, inr}
use Rattle.std.specs.Prelude.{option_map}
use Rattle.std.specs.List.{slice_get, slice_range, slice_set}
use Rattle.std.specs.Option.{option_flatten}
use Rattle.std.proofs.lemmas.Bool.{cases_lt, cond-true}
use Rattle.std.proofs.lemmas.List.{ext_get_or, get_or-drop, get_or-set_other, get_or-set_same, get_or-take, length-drop, length-map, length-set, length-take-le, drop-map, take-map}
use Rattle.std.proofs.lemmas.Option.{get_or_from_slice_get, slice_get-get_or, slice_get-map}
use Rattle.phase_message.specs.declared.post.Post.{Post}
use Rattle.phase_message.specs.declared.stage.Slot.{Slot}
use Rattle.phase_message.specs.declared.stage.StageKind.{StageKind}
use Rattle.phase_message.specs.Shape.{Shape}
use Rattle.phase_message.specs.Slots.{senders_in, senders_of, slot_at, slot_number, slots_before, slots_of}
use Rattle.phase_message.specs.Stages.{is_slot, kind_of_stage}
use Rattle.phase_message.proofs.Counts.{slots_next}
use Rattle.phase_message.proofs.SlotLists.{length-senders_in, length-slots_of, slot_at-is, slot_at-number, slot_at-place, slot_number-most, slot_number-within, slots_before-most}
use Rattle.stage_log.specs.Table.{Log, kept_in, posts_in}

-- the log with these posts in the slots
abbrev pub log_of_places : Shape → (Slot → Option Post) → Log
log_of_places shape f = record { shape = shape; posts = map f (slots_of shape) }

any_slot : Slot
any_slot = record { stage = 0; sender = 0 }

-- what stands at a place
pub place-is : (shape : Shape) (f : Slot → Option Post) (i : ℕ) (slot : Slot) → slot_at shape i ≡ Some slot
    → get_or (map f (slots_of shape)) i None ≡ f slot
place-is shape f i slot at = get_or_from_slice_get (map f (slots_of shape)) i (f slot) None
    (slice_get-map f (slots_of shape) i ∙ ap (option_map f) at)

-- each place is that of a slot
pub slot-there : (shape : Shape) (i : ℕ) → i < length (slots_of shape)
    → (slot : Slot) × (slot_at shape i ≡ Some slot) × (is_slot shape slot.stage slot.sender ≡ true)
    × (slot_number shape slot.stage slot.sender ≡ i)
slot-there shape i lt =
    let slot : Slot = get_or (slots_of shape) i any_slot in
    let at : slot_at shape i ≡ Some slot = slice_get-get_or (slots_of shape) i any_slot lt in
    let is = slot_at-is shape i slot at in
    (slot, at, is.0, is.1)

-- the post of a slot
pub kept-place : (shape : Shape) (f : Slot → Option Post) (slot : Slot) → is_slot shape slot.stage slot.sender ≡ true
    → kept_in (log_of_places shape f) slot ≡ f slot
kept-place shape f slot speaks =
    let number : ℕ = slot_number shape slot.stage slot.sender in
    cond-true (is_slot shape slot.stage slot.sender) (option_flatten (slice_get (map f (slots_of shape)) number)) None speaks
    ∙ ap (λ (o : Option (Option Post)). option_flatten o) (slice_get-map f (slots_of shape) number
    ∙ ap (option_map f) (slot_at-number shape slot.stage slot.sender speaks))

-- two lists with the same values
pub places-same : (shape : Shape) (f g : Slot → Option Post) → ((slot : Slot) → is_slot shape slot.stage slot.sender ≡ true
    → f slot ≡ g slot)
    → map f (slots_of shape) ≡ map g (slots_of shape)
places-same shape f g same =
    ext_get_or None (map f (slots_of shape)) (map g (slots_of shape)) (length-map (slots_of shape) f ∙ sym (length-map (slots_of shape) g))
    (λ i lt.
    let there = slot-there shape i (omega (arith, length-map (slots_of shape) f)) in
    place-is shape f i there.0 there.1 ∙ same there.0 there.2 ∙ sym (place-is shape g i there.0 there.1))

-- one slot was set
pub places-set : (shape : Shape) (f g : Slot → Option Post) (slot : Slot) (post : Post) → is_slot shape slot.stage slot.sender ≡ true
    → g slot ≡ Some post
    → ((other : Slot) → is_slot shape other.stage other.sender ≡ true → other ≢ slot → f other ≡ g other)
    → slice_set (map f (slots_of shape)) (slot_number shape slot.stage slot.sender) (Some post) ≡ map g (slots_of shape)
places-set shape f g slot post speaks here others =
    ext_get_or None (set (map f (slots_of shape)) number (Some post)) (map g (slots_of shape)) (long
    ∙ sym (length-map (slots_of shape) g)) (λ i lt. each i (omega (arith, long)) (apart i number))
  where
    number : ℕ
    number = slot_number shape slot.stage slot.sender

    long : length (set (map f (slots_of shape)) number (Some post)) ≡ length (slots_of shape)
    long = length-set (map f (slots_of shape)) number (Some post) ∙ length-map (slots_of shape) f

    most : number < length (map f (slots_of shape))
    most = (let few = slot_number-most shape slot.stage slot.sender speaks in omega
        (arith, length-map (slots_of shape) f, length-slots_of shape))

    apart : (i k : ℕ) → (i ≡ k) ⊎ (i ≢ k)
    apart i k = elim (cases_lt i k) [
      | inl lt ↦ inr (λ e. absurd (omega (arith, e)))
      | inr le ↦ elim (cases_lt k i) [
        | inl lt ↦ inr (λ e. absurd (omega (arith, e)))
        | inr same ↦ inl (omega arith)
      ]
    ]

    each : (i : ℕ) → i < length (slots_of shape) → (i ≡ number) ⊎ (i ≢ number)
        → get_or (set (map f (slots_of shape)) number (Some post)) i None ≡ get_or (map g (slots_of shape)) i None
    each i lt (inl same) =
        ap (λ (k : ℕ). get_or (set (map f (slots_of shape)) number (Some post)) k None) same
        ∙ get_or-set_same (map f (slots_of shape)) number (Some post) None most
        ∙ sym here ∙ sym (place-is shape g number slot (slot_at-number shape slot.stage slot.sender speaks))
        ∙ ap (λ (k : ℕ). get_or (map g (slots_of shape)) k None) (sym same)
    each i lt (inr other) =
        let there = slot-there shape i lt in
        let not_slot : there.0 ≢ slot = λ e. other (sym there.3 ∙ ap (λ (s : Slot). slot_number shape s.stage s.sender) e) in
        get_or-set_other (map f (slots_of shape)) number i (Some post) None other ∙ place-is shape f i there.0 there.1
        ∙ others there.0 there.2 not_slot ∙ sym (place-is shape g i there.0 there.1)

-- ---- one stage

-- the slots of a stage, by sender
stage-slots : (shape : Shape) (stage : ℕ) (kind : StageKind) → kind_of_stage shape stage ≡ Some kind
    → slice_range (slots_of shape) (slots_before shape stage) (slots_before shape (stage + 1)) ≡ map
    (λ sender. record { stage = stage; sender = sender }) (senders_in shape kind)
stage-slots shape stage kind is = ext_get_or any_slot part made (count ∙ sym many) (λ i lt. each i (omega (arith, count)))
  where
    a : ℕ
    a = slots_before shape stage

    n : ℕ
    n = senders_of shape kind

    next : slots_before shape (stage + 1) ≡ a + n
    next = slots_next shape stage kind is

    part : List Slot
    part = slice_range (slots_of shape) a (slots_before shape (stage + 1))

    to_slot : ℕ → Slot
    to_slot sender = record { stage = stage; sender = sender }

    made : List Slot
    made = map to_slot (senders_in shape kind)

    many : length made ≡ n
    many = length-map (senders_in shape kind) to_slot ∙ length-senders_in shape kind

    width : slots_before shape (stage + 1) - a ≡ n
    width = omega (arith, next)

    count : length part ≡ n
    count = (let most = slots_before-most shape (stage + 1) in
        length-take-le (slots_before shape (stage + 1) - a) (drop a (slots_of shape))
        (omega (arith, length-drop a (slots_of shape), length-slots_of shape, next)) ∙ width)

    each : (i : ℕ) → i < n → get_or part i any_slot ≡ get_or made i any_slot
    each i lt =
        let few : i < length (senders_in shape kind) = omega (arith, length-senders_in shape kind) in
        let sender = get_or (senders_in shape kind) i 0 in
        let there = slice_get-get_or (senders_in shape kind) i 0 few in
        let at = slot_at-place shape stage i (get_or (senders_in shape kind) i 0) kind is there in
        get_or-take (slots_before shape (stage + 1) - a) (drop a (slots_of shape)) i any_slot (omega (arith, width))
        ∙ get_or-drop a (slots_of shape) i any_slot
        ∙ get_or_from_slice_get (slots_of shape) (a + i) (to_slot (get_or (senders_in shape kind) i 0)) any_slot at
        ∙ sym (get_or_from_slice_get made i (to_slot (get_or (senders_in shape kind) i 0)) any_slot
        (slice_get-map to_slot (senders_in shape kind) i
        ∙ ap (option_map to_slot) there))

-- the posts of a stage, by sender
pub stage-places : (shape : Shape) (f : Slot → Option Post) (stage : ℕ) (kind : StageKind) → kind_of_stage shape stage ≡ Some kind
    → posts_in (log_of_places shape f) stage ≡ map (λ sender. f (record { stage = stage; sender = sender })) (senders_in shape kind)
stage-places shape f stage kind is =
    let a : ℕ = slots_before shape stage in
    let b : ℕ = slots_before shape (stage + 1) in
    ap (take (b - a)) (drop-map f a (slots_of shape)) ∙ take-map f (b - a) (drop a (slots_of shape))
    ∙ ap (map f) (stage-slots shape stage kind is)
    ∙ map-map (senders_in shape kind)
  where
    map-map : (xs : List ℕ) → map f (map (λ sender. record { stage = stage; sender = sender }) xs) ≡ map
        (λ sender. f (record { stage = stage; sender = sender })) xs
    map-map [] = refl
    map-map (x ∷ xs) = ap (λ (ys : List (Option Post)). f (record { stage = stage; sender = x }) ∷ ys) (map-map xs)

-- a sender of a stage is among the senders of its kind
pub place-of-sender : (shape : Shape) (stage sender : ℕ) (kind : StageKind) → kind_of_stage shape stage ≡ Some kind
    → is_slot shape stage sender ≡ true
    → (place : ℕ) × (slice_get (senders_in shape kind) place ≡ Some sender)
place-of-sender shape stage sender kind is speaks =
    let within = slot_number-within shape stage sender speaks in
    let first = within.0 in
    let last = within.1 in
    let place : ℕ = slot_number shape stage sender - slots_before shape stage in
    let number : slot_number shape stage sender ≡ slots_before shape stage + place = omega arith in
    let few : place < length (senders_in shape kind) = omega (arith, slots_next shape stage kind is, length-senders_in shape kind) in
    let other = slice_get-get_or (senders_in shape kind) place 0 few in
    let there = slot_at-place shape stage place (get_or (senders_in shape kind) place 0) kind is other in
    let same : record { stage = stage; sender = get_or (senders_in shape kind) place 0 } ≡ record { stage = stage; sender = sender } =
    told_same _ _ (sym there
    ∙ ap (slot_at shape) (sym number) ∙ slot_at-number shape stage sender speaks) in
    (place, other ∙ ap (λ (s : Slot). Some s.sender) same)
  where
    told_same : (x y : Slot) → (let told : Slot → Option Slot = λ z. Some z in told x ≡ told y) → x ≡ y
    told_same x y e = cc
