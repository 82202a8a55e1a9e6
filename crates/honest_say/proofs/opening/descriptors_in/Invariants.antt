use Rattle.std.proofs.Common.{◌≡◌, All, length, map, take}
use Rattle.std.specs.Prelude.{IfSome}
use Rattle.std.specs.Option.{option_and_then, option_map}
use Rattle.bulk_descriptor.specs.Descriptor.{descriptor_read}
use Rattle.bulk_descriptor.specs.Fields.{description_of}
use Rattle.honest_say.proofs.opening.descriptors_in.Given as goal

-- the descriptors of the entries so far
abbrev pub invariant-loop-entry : goal.invariant-loop-entry
invariant-loop-entry l =
    (map (option_map description_of) l.descriptors.items ≡ map (option_and_then (descriptor_read l.members))
    (take l.entry-index l.opened.items))
    × All (λ slot. IfSome slot (λ d. length d.pad_hashes ≡ l.members)) (map (option_map description_of) l.descriptors.items)
