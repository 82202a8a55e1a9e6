-- Faults and their names.
use Rattle.std.specs.Prelude.{◌≡◌, ◌↔◌, ℕ, List, [], ◌∷◌, map, bytes_eq, codes, Option, Some}
use Rattle.std.specs.Bool.{then_some}
use Rattle.wire_core.specs.Answers.{first_some}
use Rattle.round_script.specs.declared.fault.Fault.{Fault}
use Rattle.round_script.specs.declared.fault.Fault.TheVariants.{None as Honest, Silent, Malformed, TwoVotes, CopySubmit, DropEntry, FalseAbort, FalseNogo, FalseView, WrongSeed, BadVotes, FlipPad, BadDescriptor}

-- a fault as a script names it
abbrev pub fault_name : Fault → List ℕ
fault_name Honest = codes "none"
fault_name Silent = codes "silent"
fault_name Malformed = codes "malformed"
fault_name TwoVotes = codes "two-votes"
fault_name CopySubmit = codes "copy-submit"
fault_name DropEntry = codes "drop-entry"
fault_name FalseAbort = codes "false-abort"
fault_name FalseNogo = codes "false-nogo"
fault_name FalseView = codes "false-view"
fault_name WrongSeed = codes "wrong-seed"
fault_name BadVotes = codes "bad-votes"
fault_name FlipPad = codes "flip-pad"
fault_name BadDescriptor = codes "bad-descriptor"

-- all faults
abbrev pub all_faults : List Fault
all_faults =
    Honest ∷ Silent ∷ Malformed ∷ TwoVotes ∷ CopySubmit ∷ DropEntry ∷ FalseAbort ∷ FalseNogo ∷ FalseView ∷ WrongSeed
    ∷ BadVotes ∷ FlipPad ∷ BadDescriptor ∷ []

-- the fault that has a name, if one has
abbrev pub fault_of_name : List ℕ → Option Fault
fault_of_name name = first_some (map (λ fault. then_some (bytes_eq name (fault_name fault)) fault) all_faults)

-- a fault is found by its name, and by no other
abbrev pub FaultsHaveNames : Type 0
FaultsHaveNames = (name : List ℕ) (fault : Fault) → (fault_of_name name ≡ Some fault) ↔ (name ≡ fault_name fault)
