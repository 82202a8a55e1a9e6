-- What holds of accusations.
use Rattle.std.specs.Prelude.{◌≡◌, ◌≢◌, ℕ, ◌-◌, List, [], length, map, All, slice_index_or, Option, Some, None, ◌↔◌}
use Rattle.std.specs.Option.{option_and_then}
use Rattle.transcript_form.specs.declared.accusation.Accusation.{Accusation}
use Rattle.transcript_form.specs.Accusation.{accusation_of}
use Rattle.bulk_descriptor.specs.Descriptor.{Description, descriptor_text, descriptor_read, made_descriptor}
use Rattle.bulk_descriptor.specs.SlotState.{slot_states}
use Rattle.bulk_descriptor.specs.Laws.{CanMake}
use Rattle.accusation.specs.declared.holding.AccusationRefusal.TheVariants.{Slot}
use Rattle.accusation.specs.Accusation.{refusal_of, Holds}
use Rattle.accusation.specs.Item.{item_accusation, empty_item, NamesWithin}

-- an accusation is refused for no reason exactly where it holds
abbrev pub HoldsExactly : Type 0
HoldsExactly = (a : Accusation) (descriptors : List (Option Description)) (table : List (List (List ℕ))) (keys : List (List ℕ)) →
    (refusal_of a descriptors table keys ≡ None) ↔ Holds a descriptors table keys

-- of the pads only those of the accused are looked at
abbrev pub HoldsLooksAtOne : Type 0
HoldsLooksAtOne = (a : Accusation) (descriptors : List (Option Description)) (table table' : List (List (List ℕ))) (keys : List (List ℕ)) →
    slice_index_or table (a.member - 1) [] ≡ slice_index_or table' (a.member - 1) [] →
    refusal_of a descriptors table keys ≡ refusal_of a descriptors table' keys

-- 34 zero bytes accuse nobody
abbrev pub EmptyItemRefused : Type 0
EmptyItemRefused = (a : Accusation) (descriptors : List (Option Description)) (table : List (List (List ℕ))) (keys : List (List ℕ)) →
    accusation_of empty_item ≡ Some a → refusal_of a descriptors table keys ≡ Some Slot

-- What a maker accuses holds, unless it names the maker itself: the maker made its descriptor by the keys, and
-- judges by the opened list and the pads that were sent
abbrev pub ItemHolds : Type 0
ItemHolds = (n : ℕ) (keys seeds : List (List ℕ)) (maker : ℕ) (message : List ℕ) (opened : List (Option (List ℕ)))
    (table : List (List (List ℕ))) (a : Accusation) →
    CanMake n keys seeds maker message → length table ≡ n →
    let own = descriptor_text (made_descriptor keys seeds maker message) in
    let descriptors = map (option_and_then (descriptor_read n)) opened in
    item_accusation own opened (slot_states descriptors table) seeds ≡ Some a → a.member ≢ maker →
    refusal_of a descriptors table keys ≡ None

-- the states of slots name members alone
abbrev pub StatesNameMembers : Type 0
StatesNameMembers = (descriptors : List (Option Description)) (table : List (List (List ℕ))) →
    All (NamesWithin (length table)) (slot_states descriptors table)
