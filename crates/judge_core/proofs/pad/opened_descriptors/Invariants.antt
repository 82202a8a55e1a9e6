use Rattle.std.proofs.Common.{◌≡◌, All, length, map, take}
use Rattle.std.specs.Prelude.{IfSome}
use Rattle.std.specs.Option.{option_and_then, option_map}
use Rattle.bulk_descriptor.specs.Descriptor.{descriptor_read}
use Rattle.bulk_descriptor.specs.Fields.{description_of}
use Rattle.judge_core.proofs.pad.opened_descriptors.Given as goal

-- the descriptors of the entries before this one
abbrev pub invariant-loop-item : goal.invariant-loop-item
invariant-loop-item l =
    (map (option_map description_of) l.descriptors.items ≡ map (option_and_then (descriptor_read l.shape.members))
    (take l.item-index l.item-items))
    × All (λ slot. IfSome slot (λ d. length d.pad_hashes ≡ l.shape.members)) (map (option_map description_of) l.descriptors.items)
