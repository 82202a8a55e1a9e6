use Rattle.std.proofs.Common.{◌≡◌, take, map}
use Rattle.std.specs.Option.{option_map}
use Rattle.bulk_descriptor.specs.Fields.{description_of}
use Rattle.bulk_descriptor.specs.SlotState.{slot_states}
use Rattle.bulk_recovery.proofs.recovery.recover.Given as goal

-- the slots so far
abbrev pub invariant-loop-slot : goal.invariant-loop-slot
invariant-loop-slot l = l.states.items ≡ take l.slot (slot_states (map (option_map description_of) l.descriptors.items) l.pads.members)
