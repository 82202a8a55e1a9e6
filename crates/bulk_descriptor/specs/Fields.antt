-- What a descriptor of the program tells.
use Rattle.bulk_descriptor.specs.declared.descriptor.Descriptor.{Descriptor}
use Rattle.bulk_descriptor.specs.Descriptor.{Description}

-- its fields, without the facts on them
abbrev pub description_of : Descriptor → Description
description_of d = record {
  length = d.length;
  message_hash = d.message_hash;
  pad_hashes = d.pad_hashes;
  capsules = d.capsules;
}
