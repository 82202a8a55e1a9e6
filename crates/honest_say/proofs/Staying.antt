-- What was said stays.
use Rattle.std.proofs.Common.{◌≡◌, ℕ, zero, suc, ◌+◌, ◌<◌, ◌≤◌, List, [], map, true, Option, Some, ap, sym, ◌∙◌, arith}
use Rattle.std.specs.Prelude.{option_and_then, slice_index_or}
use Rattle.wire_core.proofs.ListLemmas.{map-range}
use Rattle.phase_message.specs.declared.content.Body.{Body}
use Rattle.phase_message.specs.declared.stage.Slot.{Slot}
use Rattle.phase_message.specs.Shape.{Shape}
use Rattle.phase_message.specs.Stages.{is_slot}
use Rattle.stage_log.specs.Table.{Log}
use Rattle.bulk_descriptor.specs.Descriptor.{Description, descriptor_read}
use Rattle.bulk_descriptor.specs.SlotState.{slot_states}
use Rattle.shuffle_blame.specs.Asked.{past_of}
use Rattle.shuffle_blame.specs.Replay.{ciphertext_of, list_of}
use Rattle.round_spec.specs.Slots.{by_member, descriptors_opened, entries_opened, final_stage, items_opened, key_said, keys_in, list_said, pad_stage, pads_in, pads_sent, said_in, seed_in, seeds_revealed, slots_of_past, submit_stage}
use Rattle.honest_say.specs.Stays.{AreReached, ItemsStay, KeysStay, SlotsStay}
use Rattle.honest_say.proofs.PastLemmas.{kept-said}
use Rattle.honest_say.proofs.StageLemmas.{final-slot, keys-slot, pad-slot, submit-slot, turn-slot}

said-stays : (log : Log) (stage later at sender : ℕ) → AreReached log stage later → is_slot log.shape at sender ≡ true → at < stage
    → said_in log.shape (past_of log stage) at sender ≡ said_in log.shape (past_of log later) at sender
said-stays log stage later at sender reached speaks lt =
    let slot : Slot = record { stage = at; sender = sender } in
    let order = reached.order in
    sym (kept-said log stage slot reached.at speaks lt) ∙ kept-said log later slot reached.at_later speaks (omega (arith, order))

same-members : {A : Type 0} (shape : Shape) (f g : ℕ → A) → ((member : ℕ) → 1 ≤ member → member ≤ shape.members → f member ≡ g member)
    → by_member shape f ≡ by_member shape g
same-members shape f g each = map-range f g 1 shape.members (λ member least lt. each member least (omega arith))

pub keys_stay : KeysStay
keys_stay log stage later place reached behind =
    same-members log.shape (key_said log.shape (past_of log stage) place) (key_said log.shape (past_of log later) place)
    (λ member least most. ap (λ (body : Body). slice_index_or (keys_in body) place [])
    (said-stays log stage later 0 member reached (keys-slot log.shape member least most) (omega arith)))

seeds-stay : (log : Log) (stage later shuffle : ℕ) → AreReached log stage later → 1 ≤ shuffle → shuffle ≤ 2
    → final_stage log.shape shuffle < stage
    → seeds_revealed log.shape (past_of log stage) shuffle ≡ seeds_revealed log.shape (past_of log later) shuffle
seeds-stay log stage later shuffle reached first last behind =
    same-members log.shape (λ member. seed_in (said_in log.shape (past_of log stage) (final_stage log.shape shuffle) member))
    (λ member. seed_in (said_in log.shape (past_of log later) (final_stage log.shape shuffle) member))
    (λ member least most. ap seed_in
    (said-stays log stage later (final_stage log.shape shuffle) member reached (final-slot log.shape shuffle member first last least most)
    behind))

list-stays : (log : Log) (stage later shuffle turn : ℕ) → AreReached log stage later → 1 ≤ shuffle → shuffle ≤ 2 → turn ≤ log.shape.members
    → submit_stage log.shape shuffle + turn < stage → list_said log.shape (past_of log stage) shuffle turn ≡ list_said log.shape
    (past_of log later) shuffle turn
list-stays log stage later shuffle zero reached first last within behind =
    let at : ℕ = submit_stage log.shape shuffle in
    ap (λ (list : List (List ℕ)). Some list)
    (same-members log.shape (λ member. ciphertext_of (said_in log.shape (past_of log stage) at member))
    (λ member. ciphertext_of (said_in log.shape (past_of log later) at member))
    (λ member least most. ap ciphertext_of
    (said-stays log stage later at member reached (submit-slot log.shape shuffle member first last least most) (omega (arith, behind)))))
list-stays log stage later shuffle (suc turn) reached first last within behind =
    ap list_of (said-stays log stage later (submit_stage log.shape shuffle + suc turn) (suc turn) reached
    (turn-slot log.shape shuffle (suc turn) first last (omega arith) within) behind)

pub items_stay : ItemsStay
unfolding items_opened
items_stay log stage later shuffle reached first last behind =
    let n : ℕ = log.shape.members in
    let earlier : submit_stage log.shape shuffle + n < stage = omega (arith, behind) in
    let list = list-stays log stage later shuffle n reached first last (omega arith) earlier in
    ap (λ (seeds : List (List ℕ)). entries_opened log.shape seeds (list_said log.shape (past_of log stage) shuffle n))
    (seeds-stay log stage later shuffle reached first last behind)
    ∙ ap (entries_opened log.shape (seeds_revealed log.shape (past_of log later) shuffle)) list

pub pads-stay : (log : Log) (stage later : ℕ) → AreReached log stage later → pad_stage log.shape < stage
    → pads_sent log.shape (past_of log stage) ≡ pads_sent log.shape (past_of log later)
unfolding pads_sent
pads-stay log stage later reached behind =
    same-members log.shape (λ member. pads_in (said_in log.shape (past_of log stage) (pad_stage log.shape) member))
    (λ member. pads_in (said_in log.shape (past_of log later) (pad_stage log.shape) member))
    (λ member least most. ap pads_in (said-stays log stage later (pad_stage log.shape) member reached (pad-slot log.shape member least most)
    behind))

pub descriptors-stay : (log : Log) (stage later : ℕ) → AreReached log stage later → pad_stage log.shape < stage
    → descriptors_opened log.shape (past_of log stage) ≡ descriptors_opened log.shape (past_of log later)
unfolding descriptors_opened
descriptors-stay log stage later reached behind =
    ap (λ (items : List (Option (List ℕ))). map (option_and_then (descriptor_read log.shape.members)) items)
    (items_stay log stage later 1 reached (omega arith) (omega arith) (omega (arith, behind)))

pub slots_stay : SlotsStay
unfolding slots_of_past
slots_stay log stage later reached behind =
    ap (λ (d : List (Option Description)). slot_states d (pads_sent log.shape (past_of log stage)))
    (descriptors-stay log stage later reached behind)
    ∙ ap (slot_states (descriptors_opened log.shape (past_of log later))) (pads-stay log stage later reached behind)
