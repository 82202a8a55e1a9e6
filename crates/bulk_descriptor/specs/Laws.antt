-- What holds of descriptors, of pads and of the states of slots.
use Rattle.std.specs.Prelude.{◌≡◌, ℕ, ◌≤◌, ◌^◌, ◌<◌, List, [], ◌∷◌, length, All, Contains, IsTrue, slice_index_or, ◌-◌, Some, None}
use Rattle.wire_core.specs.declared.tag.Tag.TheVariants.{PadHash}
use Rattle.wire_core.specs.Bytes.{IsBytes}
use Rattle.wire_core.specs.Hash.{hashed, NoCollision}
use Rattle.ring_encrypt.specs.Capsule.{key_of_seed}
use Rattle.ring_encrypt.specs.Opening.{IsMessage}
use Rattle.pad_stream.specs.Stream.{pad_of}
use Rattle.bulk_descriptor.specs.declared.making.TheConstants.{MESSAGE_LIMIT}
use Rattle.bulk_descriptor.specs.declared.slot_state.SlotState.TheVariants.{Message}
use Rattle.bulk_descriptor.specs.Descriptor.{Description, OfGrammar, descriptor_text, descriptor_read, own_pad, made_pads, made_descriptor, fits, pad_row}
use Rattle.bulk_descriptor.specs.SlotState.{joined_pads, first_unfit, slot_state}

-- ---- spelling and reading

-- bytes that are read are of the grammar, and the spelling of what they are read as
abbrev pub DescriptorsAreSpelled : Type 0
DescriptorsAreSpelled = (n : ℕ) (bytes : List ℕ) (d : Description) → IsBytes bytes →
    descriptor_read n bytes ≡ Some d → OfGrammar n d × (descriptor_text d ≡ bytes)

-- a descriptor of the grammar is read from its spelling
abbrev pub SpelledDescriptorsAreRead : Type 0
SpelledDescriptorsAreRead = (n : ℕ) (d : Description) → OfGrammar n d → descriptor_read n (descriptor_text d) ≡ Some d

-- no two descriptors have one spelling
abbrev pub SpellingDetermines : Type 0
SpellingDetermines = (n : ℕ) (d e : Description) → OfGrammar n d → OfGrammar n e → descriptor_text d ≡ descriptor_text e → d ≡ e

-- ---- the pads of a maker

-- a member of a group of n that makes a descriptor: a key and a pad seed for each member, and a message of at
-- most 65,536 bytes
pub record CanMake (n : ℕ) (keys seeds : List (List ℕ)) (member : ℕ) (message : List ℕ) : Type 0 where
  pub least : 2 ≤ n
  pub most : n ≤ 16
  pub as_many_keys : length keys ≡ n
  pub as_many_seeds : length seeds ≡ n
  pub first : 1 ≤ member
  pub last : member ≤ n
  pub short : length message ≤ MESSAGE_LIMIT

-- what is made is of the grammar
abbrev pub MadeIsOfGrammar : Type 0
MadeIsOfGrammar = (n : ℕ) (keys seeds : List (List ℕ)) (member : ℕ) (message : List ℕ) → CanMake n keys seeds member message →
    OfGrammar n (made_descriptor keys seeds member message)

-- the exclusive or of the pads of all members is the message
abbrev pub PadsGiveMessage : Type 0
PadsGiveMessage = (seeds : List (List ℕ)) (member : ℕ) (message : List ℕ) → joined_pads (made_pads seeds member message) ≡ message

-- the maker's own pad fits its descriptor
abbrev pub OwnPadFits : Type 0
OwnPadFits = (n : ℕ) (keys seeds : List (List ℕ)) (member : ℕ) (message : List ℕ) → CanMake n keys seeds member message →
    IsTrue (fits (made_descriptor keys seeds member message) member (own_pad seeds member message))

-- and so does the pad of the seed of each other member
abbrev pub OtherPadsFit : Type 0
OtherPadsFit = (n : ℕ) (keys seeds : List (List ℕ)) (maker member : ℕ) (message : List ℕ) → CanMake n keys seeds maker message →
    1 ≤ member → member ≤ n → (member ≡ maker → ⊥) →
    IsTrue (fits (made_descriptor keys seeds maker message) member (pad_of (slice_index_or seeds (member - 1) []) (length message)))

-- What an honest member sends for an honest descriptor fits. The member has made a descriptor of its own, whose
-- bytes and own pad it keeps, and the descriptor was made by another, or is its own, under keys of which the
-- member's is that of its seed. Nothing is asked of hashes.
abbrev pub HonestPadFits : Type 0
HonestPadFits = (n : ℕ) (keys seeds keys' seeds' : List (List ℕ)) (maker member : ℕ) (message message' seed : List ℕ) →
    CanMake n keys seeds maker message → CanMake n keys' seeds' member message' → All IsMessage seeds →
    slice_index_or keys (member - 1) [] ≡ key_of_seed seed →
    let d = made_descriptor keys seeds maker message in
    let own = descriptor_text (made_descriptor keys' seeds' member message') in
    (member ≡ maker → descriptor_text d ≡ own) →
    IsTrue (fits d member (pad_row n own (own_pad seeds' member message') member seed (descriptor_text d)))

-- ---- pads and hashes

-- the string that is hashed for a pad
abbrev pub pad_string : List ℕ → List ℕ
pad_string pad = hashed PadHash (pad ∷ [])

-- where no two strings of a list collide and the strings of two pads are in it, at most one of them fits
abbrev pub FitsDetermines : Type 0
FitsDetermines = (strings : List (List ℕ)) (d : Description) (member : ℕ) (pad pad' : List ℕ) → d.length < 2 ^ 32 →
    NoCollision strings → Contains strings (pad_string pad) → Contains strings (pad_string pad') →
    IsTrue (fits d member pad) → IsTrue (fits d member pad') → pad ≡ pad'

-- where every pad fits a made descriptor, the slot holds its message
abbrev pub AllFitMessage : Type 0
AllFitMessage = (strings : List (List ℕ)) (n : ℕ) (keys seeds : List (List ℕ)) (member : ℕ) (message : List ℕ) (pads : List (List ℕ)) →
    CanMake n keys seeds member message → NoCollision strings →
    All (λ pad. Contains strings (pad_string pad)) (made_pads seeds member message) →
    All (λ pad. Contains strings (pad_string pad)) pads → length pads ≡ n →
    let d = made_descriptor keys seeds member message in
    first_unfit d pads ≡ None → slot_state (Some d) pads ≡ Message message
