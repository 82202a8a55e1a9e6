-- What a member submits looks at nothing that is said at its stage or later.
use Rattle.std.proofs.Common.{◌≡◌, ℕ, zero, suc, ◌+◌, ◌<◌, ◌≤◌, true, false, List, [], map, take, Option, Some, ap, sym, ◌∙◌, refl, arith, rules, inl, inr}
use Rattle.std.specs.Prelude.{◌==◌, option_and_then, slice_index_or}
use Rattle.std.proofs.lemmas.Bool.{cases_Bool, cond-false, cond-true, eq-eqb}
use Rattle.std.proofs.lemmas.List.{get_or-take}
use Rattle.wire_core.proofs.ListLemmas.{map-range}
use Rattle.phase_message.specs.declared.content.Body.{Body}
use Rattle.phase_message.specs.declared.stage.StageKind.{StageKind}
use Rattle.phase_message.specs.Offence.{content_read}
use Rattle.phase_message.specs.Shape.{Shape}
use Rattle.phase_message.specs.Slots.{slot_number, slots_before}
use Rattle.phase_message.specs.Stages.{is_member, is_slot, speaks}
use Rattle.phase_message.proofs.SlotLists.{slot_number-within, slots_before-rises}
use Rattle.phase_message.proofs.Table.{final_a_is, keys_is, pad_is, submit_a_is, turn_a}
use Rattle.shuffle_core.specs.Shuffle.{submission_of}
use Rattle.bulk_descriptor.specs.declared.slot_state.SlotState.{SlotState}
use Rattle.bulk_descriptor.specs.Descriptor.{descriptor_read, descriptor_text, made_descriptor}
use Rattle.bulk_descriptor.specs.SlotState.{slot_states}
use Rattle.accusation.specs.Item.{item_row}
use Rattle.shuffle_blame.specs.Replay.{body_of, ciphertext_of, list_of, outer_place}
use Rattle.round_spec.specs.Say.{Configuration, own_descriptor, own_item, own_layer_seeds, own_pad_seeds, own_submission, shape_in}
use Rattle.round_spec.specs.Slots.{bulk_place, descriptors_opened, entries_opened, final_stage, inner_place, items_opened, keys_in, keys_said, list_said, pad_stage, pads_in, pads_sent, said_in, seed_in, seeds_revealed, slots_of_past}

-- the front of a past, before a stage
abbrev pub front : Shape → List (List ℕ) → ℕ → List (List ℕ)
front shape past later = take (slots_before shape later) past

pub said-front : (shape : Shape) (past : List (List ℕ)) (later stage member : ℕ) → is_slot shape stage member ≡ true → stage < later
    → said_in shape (front shape past later) stage member ≡ said_in shape past stage member
unfolding said_in
said-front shape past later stage member speaks lt =
    let number : ℕ = slot_number shape stage member in
    let within = (slot_number-within shape stage member speaks).1 in
    ap (λ (bytes : List ℕ). body_of (content_read shape bytes))
    (get_or-take (slots_before shape later) past number [] (omega
    (arith, within, slots_before-rises shape (stage + 1) later (omega arith))))

is-there : (n member : ℕ) → 1 ≤ member → member < 1 + n → is_member n member ≡ true
is-there n member first last = search rules

-- ---- what was said, by member

pub keys-front : (shape : Shape) (past : List (List ℕ)) (later place : ℕ) → 1 ≤ later
    → keys_said shape (front shape past later) place ≡ keys_said shape past place
keys-front shape past later place le =
    map-range (λ m. slice_index_or (keys_in (said_in shape (front shape past later) 0 m)) place [])
    (λ m. slice_index_or (keys_in (said_in shape past 0 m)) place []) 1 shape.members
    (λ m least most. ap (λ (b : Body). slice_index_or (keys_in b) place [])
    (said-front shape past later 0 m (ap (λ (o : Option StageKind). speaks shape o m) (keys_is shape 0 refl)
    ∙ is-there shape.members m least most) (omega arith)))

pub list-front : (shape : Shape) (past : List (List ℕ)) (later turn : ℕ) → turn + 1 < later → turn ≤ shape.members
    → list_said shape (front shape past later) 1 turn ≡ list_said shape past 1 turn
list-front shape past later zero lt few =
    ap (λ (xs : List (List ℕ)). Some xs)
    (map-range (λ m. ciphertext_of (said_in shape (front shape past later) 1 m)) (λ m. ciphertext_of (said_in shape past 1 m)) 1
    shape.members
    (λ m least most. ap ciphertext_of
    (said-front shape past later 1 m (ap (λ (o : Option StageKind). speaks shape o m) (submit_a_is shape 1 refl)
    ∙ is-there shape.members m least most) (omega (arith, lt)))))
list-front shape past later (suc turn) lt few =
    let kind = turn_a shape (1 + suc turn) (suc turn) (omega arith) (omega arith) few in
    ap list_of (said-front shape past later (1 + suc turn) (suc turn)
    (ap (λ (o : Option StageKind). speaks shape o (suc turn)) kind ∙ eq-eqb (suc turn) (suc turn) refl) (omega (arith, lt)))

pub seeds-front : (shape : Shape) (past : List (List ℕ)) (later : ℕ) → shape.members + 3 < later
    → seeds_revealed shape (front shape past later) 1 ≡ seeds_revealed shape past 1
seeds-front shape past later lt =
    let kind = final_a_is shape (final_stage shape 1) (omega arith) in
    map-range (λ m. seed_in (said_in shape (front shape past later) (final_stage shape 1) m))
    (λ m. seed_in (said_in shape past (final_stage shape 1) m)) 1 shape.members
    (λ m least most. ap seed_in
    (said-front shape past later (final_stage shape 1) m (ap (λ (o : Option StageKind). speaks shape o m) kind
    ∙ is-there shape.members m least most) (omega (arith, lt))))

pub items-front : (shape : Shape) (past : List (List ℕ)) (later : ℕ) → shape.members + 3 < later
    → items_opened shape (front shape past later) 1 ≡ items_opened shape past 1
unfolding items_opened
items-front shape past later lt =
    ap (λ (seeds : List (List ℕ)). entries_opened shape seeds (list_said shape (front shape past later) 1 shape.members))
    (seeds-front shape past later lt)
    ∙ ap (entries_opened shape (seeds_revealed shape past 1)) (list-front shape past later shape.members (omega (arith, lt)) (omega arith))

pub descriptors-front : (shape : Shape) (past : List (List ℕ)) (later : ℕ) → shape.members + 3 < later
    → descriptors_opened shape (front shape past later) ≡ descriptors_opened shape past
unfolding descriptors_opened
descriptors-front shape past later lt = ap (map (option_and_then (descriptor_read shape.members))) (items-front shape past later lt)

pub pads-front : (shape : Shape) (past : List (List ℕ)) (later : ℕ) → shape.members + 4 < later
    → pads_sent shape (front shape past later) ≡ pads_sent shape past
unfolding pads_sent
pads-front shape past later lt =
    let kind = pad_is shape (pad_stage shape) refl in
    map-range (λ m. pads_in (said_in shape (front shape past later) (pad_stage shape) m))
    (λ m. pads_in (said_in shape past (pad_stage shape) m)) 1 shape.members
    (λ m least most. ap pads_in
    (said-front shape past later (pad_stage shape) m (ap (λ (o : Option StageKind). speaks shape o m) kind
    ∙ is-there shape.members m least most) (omega (arith, lt))))

pub slots-front : (shape : Shape) (past : List (List ℕ)) (later : ℕ) → shape.members + 4 < later
    → slots_of_past shape (front shape past later) ≡ slots_of_past shape past
unfolding slots_of_past
slots-front shape past later lt =
    ap (λ (d : List _). slot_states d (pads_sent shape (front shape past later))) (descriptors-front shape past later (omega (arith, lt)))
    ∙ ap (slot_states (descriptors_opened shape past)) (pads-front shape past later lt)

-- ---- what is submitted

pub descriptor-front : (c : Configuration) (past : List (List ℕ)) (later : ℕ) → 1 ≤ later
    → own_descriptor c (front (shape_in c) past later) ≡ own_descriptor c past
unfolding own_descriptor
descriptor-front c past later le =
    ap (λ (keys : List (List ℕ)). descriptor_text (made_descriptor keys (own_pad_seeds c) c.number c.message))
    (keys-front (shape_in c) past later bulk_place le)

item-front : (c : Configuration) (own : List ℕ) (past : List (List ℕ)) (later shuffle : ℕ)
    → ((shuffle == 1) ≡ false → (shape_in c).members + 4 < later)
    → own_item c own (front (shape_in c) past later) shuffle ≡ own_item c own past shuffle
unfolding own_item
item-front c own past later shuffle far =
    let shape = shape_in c in
    let before : List (List ℕ) = front shape past later in
    let row : List ℕ = item_row own (items_opened shape before 1) (slots_of_past shape before) (own_pad_seeds c) in
    let whole : List ℕ = item_row own (items_opened shape past 1) (slots_of_past shape past) (own_pad_seeds c) in
    elim (cases_Bool (shuffle == 1)) [
      | inl first ↦ cond-true (shuffle == 1) own row first ∙ sym (cond-true (shuffle == 1) own whole first)
      | inr second ↦
          let lt = far second in
          cond-false (shuffle == 1) own row second
          ∙ ap (λ (items : List (Option (List ℕ))). item_row own items (slots_of_past shape before) (own_pad_seeds c))
          (items-front shape past later (omega (arith, lt)))
          ∙ ap (λ (states : List SlotState). item_row own (items_opened shape past 1) states (own_pad_seeds c))
          (slots-front shape past later lt)
          ∙ sym (cond-false (shuffle == 1) own whole second)
    ]

-- what is submitted by the front is what is submitted by the whole
pub submission-front : (c : Configuration) (past : List (List ℕ)) (later shuffle : ℕ) → 1 ≤ later
    → ((shuffle == 1) ≡ false → (shape_in c).members + 4 < later)
    → own_submission c (own_descriptor c (front (shape_in c) past later)) (front (shape_in c) past later) shuffle ≡ own_submission c
    (own_descriptor c past) past shuffle
unfolding own_submission
submission-front c past later shuffle le far =
    let shape = shape_in c in
    let before : List (List ℕ) = front shape past later in
    let inner_seeds : List (List ℕ) = own_layer_seeds c shuffle 1 in
    let outer_seeds : List (List ℕ) = own_layer_seeds c shuffle 2 in
    ap (λ (own : List ℕ). submission_of (keys_said shape before (inner_place shuffle))
    (keys_said shape before (outer_place shuffle)) inner_seeds outer_seeds (own_item c own before shuffle))
    (descriptor-front c past later le)
    ∙ ap (λ (item : List ℕ). submission_of (keys_said shape before (inner_place shuffle))
    (keys_said shape before (outer_place shuffle)) inner_seeds outer_seeds item)
    (item-front c (own_descriptor c past) past later shuffle far)
    ∙ ap (λ (keys : List (List ℕ)). submission_of keys (keys_said shape before (outer_place shuffle)) inner_seeds outer_seeds
    (own_item c (own_descriptor c past) past shuffle)) (keys-front shape past later (inner_place shuffle) le)
    ∙ ap (λ (keys : List (List ℕ)). submission_of (keys_said shape past (inner_place shuffle)) keys inner_seeds outer_seeds
    (own_item c (own_descriptor c past) past shuffle)) (keys-front shape past later (outer_place shuffle) le)
