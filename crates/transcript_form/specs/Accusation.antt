-- Accusations as a transcript and an item of a shuffle have them.
use Rattle.std.specs.Prelude.{◌≡◌, ◌↔◌, ℕ, List, ◌∷◌, length, drop, slice_index, ◌==◌, if◌then◌else◌, Option, Some, None}
use Rattle.transcript_form.specs.declared.accusation.Accusation.{Accusation}

-- the slot, the member and the seed
abbrev pub accusation_spelling : Accusation → List ℕ
accusation_spelling accusation = accusation.slot ∷ accusation.member ∷ accusation.seed

-- an accusation that has a spelling: its seed has 32 bytes
abbrev pub IsAccusation : Accusation → Type 0
IsAccusation accusation = length accusation.seed ≡ 32

-- the accusation that 34 bytes spell
abbrev pub accusation_at : List ℕ → Accusation
accusation_at bytes = record {
  slot = slice_index bytes 0;
  member = slice_index bytes 1;
  seed = drop 2 bytes;
}

-- the accusation that bytes spell, if they are 34
abbrev pub accusation_of : List ℕ → Option Accusation
accusation_of bytes = if length bytes == 34 then Some (accusation_at bytes) else None

-- bytes that spell an accusation are read as it, and no others are read
abbrev pub AccusationsAreSpelled : Type 0
AccusationsAreSpelled = (bytes : List ℕ) (accusation : Accusation)
    → (accusation_of bytes ≡ Some accusation) ↔ (IsAccusation accusation × (bytes ≡ accusation_spelling accusation))
