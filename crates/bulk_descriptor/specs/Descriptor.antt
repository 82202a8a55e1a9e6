-- Descriptors. A descriptor tells the length and the hash of a message, and for each member of the group the
-- hash of the pad that it is to send and, sealed under its key, the seed of that pad. Members count from 1.
use Rattle.std.specs.Prelude.{◌≡◌, ℕ, zero, suc, ◌+◌, ◌-◌, ◌*◌, ◌≤◌, List, [], ◌∷◌, ◌++◌, length, take, drop, map, fold, All, Bool, ◌&&◌, ◌==◌, nat_le, IsTrue, slice_index_or, insert, remove, Option, Some, None, unwrap_or, if◌then◌else◌}
use Rattle.std.specs.Option.{option_and_then}
use Rattle.std.specs.List.{zip, concat, list_all}
use Rattle.std.specs.Str.{bytes_eq}
use Rattle.std.specs.Int.{w32, to_be_bytes, from_be_bytes}
use Rattle.wire_core.specs.declared.tag.Tag.TheVariants.{Message, PadHash}
use Rattle.wire_core.specs.Hash.{hash_of}
use Rattle.pad_stream.specs.Stream.{pad_of}
use Rattle.pad_stream.specs.ExclusiveOr.{exclusive_or}
use Rattle.ring_encrypt.specs.declared.TheConstants.{CAPSULE_BYTES}
use Rattle.ring_encrypt.specs.Capsule.{capsule_of}
use Rattle.ring_encrypt.specs.Opening.{opened}
use Rattle.ring_encrypt.specs.Reduced.{is_reduced}
use Rattle.bulk_descriptor.specs.declared.descriptor.TheConstants.{HEAD_BYTES, MEMBER_BYTES}
use Rattle.bulk_descriptor.specs.declared.making.TheConstants.{MESSAGE_LIMIT}

-- what a descriptor tells
pub record Description : Type 0 where
  pub length : ℕ
  pub message_hash : List ℕ
  pub pad_hashes : List (List ℕ)
  pub capsules : List (List ℕ)

-- ---- the grammar

-- a descriptor for a group of 2 to 16: a length of at most 65,536, hashes of 32 bytes, and as many capsules as
-- pad hashes, none of which spells a coefficient of 12289 or more
pub record IsDescriptor (size : ℕ) (message_hash : List ℕ) (pad_hashes capsules : List (List ℕ)) : Type 0 where
  pub short : size ≤ MESSAGE_LIMIT
  pub hash : length message_hash ≡ 32
  pub least : 2 ≤ length pad_hashes
  pub most : length pad_hashes ≤ 16
  pub as_many : length capsules ≡ length pad_hashes
  pub hashes : All (λ hash. length hash ≡ 32) pad_hashes
  pub sizes : All (λ capsule. length capsule ≡ CAPSULE_BYTES) capsules
  pub reduced : All (λ capsule. IsTrue (is_reduced capsule)) capsules

-- the same of what one tells, for a group of n members
pub record OfGrammar (n : ℕ) (d : Description) : Type 0 where
  pub form : IsDescriptor d.length d.message_hash d.pad_hashes d.capsules
  pub members : length d.pad_hashes ≡ n

-- how a descriptor is spelled: the length in four bytes, and all hashes and capsules as they are
abbrev pub descriptor_text : Description → List ℕ
descriptor_text d = to_be_bytes w32 d.length ++ (d.message_hash ++ (concat d.pad_hashes ++ concat d.capsules))

-- the first n parts of a byte string, of so many bytes each
unfoldable pub parts_of : ℕ → ℕ → List ℕ → List (List ℕ)
parts_of size zero bytes = []
parts_of size (suc n) bytes = take size bytes ∷ parts_of size n (drop size bytes)

-- the length that the first four bytes spell
abbrev pub length_in : List ℕ → ℕ
length_in bytes = from_be_bytes w32 (take 4 bytes)

-- the capsules in the bytes of a descriptor for n members
abbrev pub capsules_in : ℕ → List ℕ → List (List ℕ)
capsules_in n bytes = parts_of CAPSULE_BYTES n (drop (HEAD_BYTES + 32 * n) bytes)

-- whether bytes spell a descriptor for a group of n members
unfoldable pub is_descriptor : ℕ → List ℕ → Bool
is_descriptor n bytes =
    nat_le 2 n && nat_le n 16 && (length bytes == HEAD_BYTES + MEMBER_BYTES * n) && nat_le (length_in bytes) MESSAGE_LIMIT && list_all
    is_reduced (capsules_in n bytes)

-- what the bytes of a descriptor tell
unfoldable pub description_in : ℕ → List ℕ → Description
description_in n bytes = record {
  length = length_in bytes;
  message_hash = take 32 (drop 4 bytes);
  pad_hashes = parts_of 32 n (drop HEAD_BYTES bytes);
  capsules = capsules_in n bytes;
}

-- what bytes are read as, in a group of n members: nothing where they spell no descriptor
abbrev pub descriptor_read : ℕ → List ℕ → Option Description
descriptor_read n bytes = if is_descriptor n bytes then Some (description_in n bytes) else None

-- ---- the pads of a maker

-- the hash of a pad
abbrev pub hash_of_pad : List ℕ → List ℕ
hash_of_pad pad = hash_of PadHash (pad ∷ [])

-- the pads of seeds, of one length
unfoldable pub pads_of : List (List ℕ) → ℕ → List (List ℕ)
pads_of seeds count = map (λ seed. pad_of seed count) seeds

-- the pads of the members other than the maker
abbrev pub other_pads : List (List ℕ) → ℕ → ℕ → List (List ℕ)
other_pads seeds member count = pads_of (remove seeds (member - 1)) count

-- a byte string, exclusive or each of a list
abbrev pub hidden_under : List ℕ → List (List ℕ) → List ℕ
hidden_under bytes pads = fold exclusive_or bytes pads

-- the maker's own pad: the message, exclusive or the pads of all others
unfoldable pub own_pad : List (List ℕ) → ℕ → List ℕ → List ℕ
own_pad seeds member message = hidden_under message (other_pads seeds member (length message))

-- the pads of all members, in their order: the own pad in the maker's place. They do not depend on keys
unfoldable pub made_pads : List (List ℕ) → ℕ → List ℕ → List (List ℕ)
made_pads seeds member message =
    insert (other_pads seeds member (length message)) (member - 1) (own_pad seeds member message)

-- each seed sealed under the key of its member
unfoldable pub sealed_seeds : List (List ℕ) → List (List ℕ) → List (List ℕ)
sealed_seeds keys seeds = map (λ (p : List ℕ × List ℕ). capsule_of p.0 p.1) (zip keys seeds)

-- the descriptor that a member makes of its message, by the keys of all and a pad seed for each
unfoldable pub made_descriptor : List (List ℕ) → List (List ℕ) → ℕ → List ℕ → Description
made_descriptor keys seeds member message = record {
  length = length message;
  message_hash = hash_of Message (message ∷ []);
  pad_hashes = map hash_of_pad (made_pads seeds member message);
  capsules = sealed_seeds keys seeds;
}

-- ---- the pad of a member

-- the hash that a descriptor gives for the pad of a member, and the capsule for that member
abbrev pub pad_hash_for : Description → ℕ → List ℕ
pad_hash_for d member = slice_index_or d.pad_hashes (member - 1) []

abbrev pub capsule_for : Description → ℕ → List ℕ
capsule_for d member = slice_index_or d.capsules (member - 1) []

-- whether a pad of a member fits a descriptor: it has the length and the hash that the descriptor tells
unfoldable pub fits : Description → ℕ → List ℕ → Bool
fits d member pad = (length pad == d.length) && bytes_eq (hash_of_pad pad) (pad_hash_for d member)

-- the pad of a seed, where it has the hash that the descriptor gives for the member
abbrev pub pad_if_hashed : Description → ℕ → List ℕ → Option (List ℕ)
pad_if_hashed d member seed =
    if bytes_eq (hash_of_pad (pad_of seed d.length)) (pad_hash_for d member) then Some (pad_of seed d.length) else None

-- the pad that a descriptor has for a member with this key seed: that of the seed which the capsule opens to
unfoldable pub pad_found : Description → ℕ → List ℕ → Option (List ℕ)
pad_found d member seed = option_and_then (pad_if_hashed d member) (opened seed (capsule_for d member))

-- The pad that a member sends for an entry of the opened list, in a group of n: its own pad where the entry is
-- its own descriptor's bytes, else the one that the entry's descriptor has for it, else the empty pad
unfoldable pub pad_row : ℕ → List ℕ → List ℕ → ℕ → List ℕ → List ℕ → List ℕ
pad_row n own kept_pad member seed entry =
    if bytes_eq entry own
    then kept_pad
    else unwrap_or (option_and_then (λ d. pad_found d member seed) (descriptor_read n entry)) []
