-- A faulty member of the program, as definitions see it.
use Rattle.std.specs.Prelude.{option_map}
use Rattle.bulk_descriptor.specs.Fields.{description_of}
use Rattle.group_spec.specs.Faulty.{FaultyMember}
use Rattle.faulty_member.specs.declared.faulty.Faulty.{Faulty}

-- its fault, its number, and what the descriptor tells that it last answered
abbrev pub faulty_of : Faulty → FaultyMember
faulty_of f = record { fault = f.fault; member = f.member; own = option_map description_of f.own }
