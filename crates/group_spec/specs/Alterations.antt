-- What each fault alters of what the rules give a member to say. Bytes and items that are not there stay away.
use Rattle.std.specs.Prelude.{ℕ, ◌+◌, ◌-◌, ◌%◌, ◌==◌, List, [], ◌∷◌, ◌++◌, length, map, take, drop, Bool, true, false, not, ◌&&◌, nat_lt, bytes_eq, slice_index_or, Option, Some, None, if◌then◌else◌}
use Rattle.std.specs.Bool.{then_some}
use Rattle.std.specs.List.{list_all, range_with_len, slice_set}
use Rattle.wire_core.specs.Answers.{first_below}
use Rattle.ring_poly.specs.Packing.{packed, unpacked}
use Rattle.phase_message.specs.declared.content.Body.{Body}
use Rattle.phase_message.specs.declared.content.Body.TheVariants.{Keys, Shuffled, Abort, Go, Reveal, Pads}
use Rattle.phase_message.specs.declared.post.Post.{Post}
use Rattle.phase_message.specs.declared.stage.StageKind.{StageKind}
use Rattle.phase_message.specs.declared.stage.StageKind.TheVariants.{Keys as AtKeys, Submit as AtSubmit, Shuffle as AtShuffle, Go as AtGo, Final as AtFinal, Pad as AtPad}
use Rattle.phase_message.specs.Offence.{content_read}
use Rattle.phase_message.specs.Shape.{Shape}
use Rattle.stage_log.specs.Table.{Log, kept_in}
use Rattle.bulk_descriptor.specs.Descriptor.{Description, is_descriptor}
use Rattle.shuffle_blame.specs.Replay.{body_of, ciphertext_of, list_of}
use Rattle.shuffle_blame.specs.Rules.{body_kept}
use Rattle.round_spec.specs.Slots.{entries_opened, final_stage, seed_in}
use Rattle.round_script.specs.declared.fault.Fault.{Fault}
use Rattle.round_script.specs.declared.fault.Fault.TheVariants.{Malformed, CopySubmit, DropEntry, FalseAbort, FalseNogo, FalseView, WrongSeed, BadVotes, FlipPad, BadDescriptor}

-- ---- changed bits and items

-- a byte with its lowest bit changed
abbrev pub bit_changed : ℕ → ℕ
bit_changed byte = if byte % 2 == 0 then byte + 1 else byte - 1

-- bytes with the lowest bit of the byte at a place changed
unfoldable pub with_bit_changed : ℕ → List ℕ → List ℕ
with_bit_changed place bytes = slice_set bytes place (bit_changed (slice_index_or bytes place 0))

-- bytes with the lowest bit of the last one changed
abbrev pub with_last_bit_changed : List ℕ → List ℕ
with_last_bit_changed bytes = with_bit_changed (length bytes - 1) bytes

-- items of which the one at a place is changed
unfoldable pub with_changed : (List ℕ → List ℕ) → ℕ → List (List ℕ) → List (List ℕ)
with_changed change place items = slice_set items place (change (slice_index_or items place []))

-- items of which the last one is a copy of the first
unfoldable pub with_last_copied : List (List ℕ) → List (List ℕ)
with_last_copied items = slice_set items (length items - 1) (slice_index_or items 0 [])

-- a key whose first coefficient is 12289, which none may be; the others stay
unfoldable pub key_out_of_range : List ℕ → List ℕ
key_out_of_range key = take 32 key ++ packed (12289 ∷ drop 1 (unpacked (drop 32 key)))

-- the least of the other members
abbrev pub least_other : ℕ → ℕ
least_other member = if member == 1 then 2 else 1

-- ---- where faults alter something

-- whether a fault alters contents at stages of a kind
abbrev pub is_altered_at : Fault → Option StageKind → Bool
is_altered_at Malformed (Some AtKeys) = true
is_altered_at CopySubmit (Some (AtSubmit shuffle)) = shuffle == 1
is_altered_at FalseView (Some (AtSubmit shuffle)) = shuffle == 1
is_altered_at DropEntry (Some (AtShuffle shuffle turn)) = shuffle == 1
is_altered_at FalseAbort (Some (AtShuffle shuffle turn)) = shuffle == 1
is_altered_at FalseNogo (Some (AtGo shuffle)) = shuffle == 1
is_altered_at WrongSeed (Some (AtFinal shuffle)) = shuffle == 1
is_altered_at BadVotes (Some (AtFinal shuffle)) = shuffle == 1
is_altered_at FlipPad (Some AtPad) = true
is_altered_at _ _ = false

-- a descriptor: a bad one has another first bit in the pad hash of the least other member
abbrev pub description_altered : Fault → ℕ → Description → Description
description_altered BadDescriptor member own =
    record own { pad_hashes = with_changed (with_bit_changed 0) (least_other member - 1) own.pad_hashes }
description_altered _ member own = own

-- a body that is altered by itself: the first key is out of range, the last entry copies the first, a turn is Abort, a vote
-- is no, the seed has another first bit, the first embedded post another last one
abbrev pub body_altered : Fault → Body → Body
body_altered Malformed (Keys keys) = Keys (with_changed key_out_of_range 0 keys)
body_altered DropEntry (Shuffled list) = Shuffled (with_last_copied list)
body_altered FalseAbort body = Abort
body_altered FalseNogo (Go vote) = Go false
body_altered WrongSeed (Reveal votes seed) = Reveal votes (with_bit_changed 0 seed)
body_altered BadVotes (Reveal votes seed) = Reveal (with_changed with_last_bit_changed 0 votes) seed
body_altered _ body = body

-- ---- copied submissions

-- the ciphertext that a post submits: empty where it submits none
abbrev pub ciphertext_in : Shape → Post → List ℕ
ciphertext_in shape post = ciphertext_of (body_of (content_read shape post.content))

-- the submission to shuffle A that a log keeps of a member
abbrev pub submission_kept : Log → ℕ → Option Post
submission_kept log member = kept_in log (record { stage = 1; sender = member })

-- ---- flipped pads

-- whether a body reveals a seed
abbrev pub is_reveal : Body → Bool
is_reveal (Reveal votes seed) = true
is_reveal _ = false

-- what all members said at the end of shuffle A, as far as a log keeps it
abbrev pub ends_in : Log → List Body
ends_in log = map (λ member. body_kept log (record { stage = final_stage log.shape 1; sender = member }))
    (range_with_len 1 log.shape.members)

-- the last list of shuffle A that a log keeps
abbrev pub last_list_in : Log → Option (List (List ℕ))
last_list_in log = list_of (body_kept log (record { stage = 1 + log.shape.members; sender = log.shape.members }))

-- what stands in the slots of that list, where all members have revealed their seeds
unfoldable pub items_in : Log → List (Option (List ℕ))
items_in log =
    if list_all is_reveal (ends_in log) then entries_opened log.shape (map seed_in (ends_in log)) (last_list_in log) else []

-- whether a slot holds the descriptor of another member than the one whose descriptor has these bytes
abbrev pub holds_of_another : Shape → List ℕ → Option (List ℕ) → Bool
holds_of_another shape own None = false
holds_of_another shape own (Some item) = not (bytes_eq item own) && is_descriptor shape.members item

-- the least slot that does and has a pad of at least one byte
unfoldable pub place_of_pad : Shape → List ℕ → List (Option (List ℕ)) → List (List ℕ) → Option ℕ
place_of_pad shape own items pads = first_below (length pads) (λ place. then_some
    (holds_of_another shape own (slice_index_or items place None) && nat_lt 0 (length (slice_index_or pads place []))) place)

-- pads of which the one in that slot has another first bit
abbrev pub pads_changed : List (List ℕ) → Option ℕ → List (List ℕ)
pads_changed pads None = pads
pads_changed pads (Some place) = with_changed (with_bit_changed 0) place pads

-- a body of pads, of a member that keeps this log and whose descriptor has these bytes
abbrev pub pads_altered : Log → List ℕ → Body → Body
pads_altered log own (Pads pads) = Pads (pads_changed pads (place_of_pad log.shape own (items_in log) pads))
pads_altered log own body = body
