-- What a member puts into the second shuffle.
use Rattle.std.specs.Prelude.{ℕ, ◌+◌, ◌-◌, ◌≤◌, List, [], length, replicate, slice_index_or, Option, Some, None, if◌then◌else◌}
use Rattle.std.specs.Option.{option_map, option_map_or}
use Rattle.std.specs.Str.{bytes_eq}
use Rattle.wire_core.specs.Answers.{first_below}
use Rattle.transcript_form.specs.declared.accusation.Accusation.{Accusation}
use Rattle.transcript_form.specs.Accusation.{accusation_spelling}
use Rattle.bulk_descriptor.specs.declared.slot_state.SlotState.{SlotState}
use Rattle.bulk_descriptor.specs.declared.slot_state.SlotState.TheVariants.{Empty, Bad}

-- the first member whose pad fails in a slot that opened to the member's own descriptor's bytes
abbrev pub first_in : List ℕ → Option (List ℕ) → SlotState → Option ℕ
first_in own (Some bytes) (Bad first) = if bytes_eq bytes own then Some first else None
first_in own _ _ = None

-- what a member accuses by a slot, which counts from 0 here
abbrev pub accusation_by : List ℕ → List (Option (List ℕ)) → List SlotState → List (List ℕ) → ℕ → Option Accusation
accusation_by own opened states seeds k =
    option_map (λ (first : ℕ). record { slot = k + 1; member = first; seed = slice_index_or seeds (first - 1) [] })
    (first_in own (slice_index_or opened k None) (slice_index_or states k Empty))

-- what a member accuses: the first pad that fails in the least of its own slots that is bad, with the seed of that pad
unfoldable pub item_accusation : List ℕ → List (Option (List ℕ)) → List SlotState → List (List ℕ) → Option Accusation
item_accusation own opened states seeds = first_below (length states) (accusation_by own opened states seeds)

-- 34 zero bytes, by which a member accuses nobody
abbrev pub empty_item : List ℕ
empty_item = replicate 34 0

-- the item of a member
unfoldable pub item_row : List ℕ → List (Option (List ℕ)) → List SlotState → List (List ℕ) → List ℕ
item_row own opened states seeds = option_map_or accusation_spelling (item_accusation own opened states seeds) empty_item

-- the states of slots name members from 1 to n
abbrev pub NamesWithin : ℕ → SlotState → Type 0
NamesWithin n (Bad first) = (1 ≤ first) × (first ≤ n)
NamesWithin n _ = Unit {0}
