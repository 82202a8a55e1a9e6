-- What has ended a round, and what is held by it.
use Rattle.std.specs.Prelude.{ℕ, List, Bool, true, false, Option, Some, None}
use Rattle.bulk_descriptor.specs.declared.slot_state.SlotState.{SlotState}
use Rattle.member_parts.specs.declared.ending.Ending.{Ending}
use Rattle.member_parts.specs.declared.ending.Ending.TheVariants.{Open, Done, Blamed, Stopped}

-- nothing has
abbrev pub IsOpen : Ending → Type 0
IsOpen Open = Unit {0}
IsOpen ending = ⊥

-- a call ran out of memory
abbrev pub IsOutOfMemory : Ending → Type 0
IsOutOfMemory Stopped = Unit {0}
IsOutOfMemory ending = ⊥

-- none did
abbrev pub IsRunning : Ending → Type 0
IsRunning Stopped = ⊥
IsRunning ending = Unit {0}

-- the round is done, or the member blames somebody
abbrev pub HasEnded : Ending → Type 0
HasEnded (Done slots) = Unit {0}
HasEnded (Blamed conviction) = Unit {0}
HasEnded ending = ⊥

-- the member blames somebody
abbrev pub HasBlamed : Ending → Type 0
HasBlamed (Blamed conviction) = Unit {0}
HasBlamed ending = ⊥

-- whether nothing has ended the round
abbrev pub is_going : Ending → Bool
is_going Open = true
is_going ending = false

-- the slots of the list, exactly where the round is done
abbrev pub slots_held : Ending → Option (List SlotState)
slots_held (Done slots) = Some slots
slots_held ending = None

-- the transcript, exactly where the member blames somebody
abbrev pub evidence_held : Ending → Option (List ℕ)
evidence_held (Blamed conviction) = Some conviction.transcript
evidence_held ending = None
