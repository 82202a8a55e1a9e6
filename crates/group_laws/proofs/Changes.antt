-- What faults make of bytes are bytes.
use Rattle.std.proofs.Common.{◌≡◌, ℕ, zero, suc, ◌+◌, ◌%◌, ◌<◌, List, [], ◌∷◌, ◌++◌, Option, Some, None, length, take, drop, refl, arith, length-append}
use Rattle.std.specs.Prelude.{◌-◌, ◌==◌, slice_index_or}
use Rattle.std.specs.Int.{to_be_bytes, w32, w64}
use Rattle.std.specs.List.{AllByRecursion, concat, flat_map, slice_set}
use Rattle.std.proofs.lemmas.Bool.{eqb-true}
use Rattle.wire_core.specs.Bytes.{IsBytes, prefixed}
use Rattle.wire_core.proofs.ByteLists.{IsBytes-append, IsBytes-back, IsBytes-cons, IsBytes-front, IsBytes-nil, IsBytes-take, IsBytes-to_be_bytes}
use Rattle.ring_poly.specs.Packing.{packed, unpacked}
use Rattle.phase_message.specs.declared.content.Body.{Body}
use Rattle.phase_message.specs.declared.content.Body.TheVariants.{Keys, Submit, Shuffled, Abort, Go, Reveal, Dispute, Pads, Check, Confirm, Differ}
use Rattle.phase_message.specs.declared.header.Header.{Header}
use Rattle.phase_message.specs.Grammar.{body_text, content_text, header_text, kind_number}
use Rattle.stage_log.specs.Table.{Log}
use Rattle.bulk_descriptor.specs.Descriptor.{Description, descriptor_text}
use Rattle.round_spec.proofs.OwnBytes.{packed-bytes}
use Rattle.round_spec.proofs.OwnItems.{IsItem}
use Rattle.round_spec.proofs.SealedBytes.{bytes-flat, concat-bytes, flat-bytes, prefixed-bytes}
use Rattle.round_script.specs.declared.fault.Fault.{Fault}
use Rattle.round_script.specs.declared.fault.Fault.TheVariants.{Malformed, DropEntry, FalseAbort, FalseNogo, WrongSeed, BadVotes, BadDescriptor}
use Rattle.group_spec.specs.Alterations.{bit_changed, body_altered, description_altered, items_in, key_out_of_range, least_other, pads_altered, pads_changed, place_of_pad, with_bit_changed, with_changed, with_last_bit_changed, with_last_copied}
use Rattle.group_spec.proofs.Made.{choose}
use Rattle.faulty_member.proofs.Changes.{length-bit}
use Rattle.faulty_member.proofs.Forms.{copied-keeps}

-- ---- bytes and lists of bytes

pub get-bytes : (bytes : List ℕ) (place : ℕ) → IsBytes bytes → slice_index_or bytes place 0 < 256
get-bytes [] place is = omega arith
get-bytes (b ∷ bytes) zero is = is 0
get-bytes (b ∷ bytes) (suc place) is = get-bytes bytes place (λ i. is (suc i))

set-bytes : (bytes : List ℕ) (place b : ℕ) → IsBytes bytes → b < 256 → IsBytes (slice_set bytes place b)
set-bytes [] place b is small = is
set-bytes (a ∷ bytes) zero b is small = IsBytes-cons b bytes small (λ i. is (suc i))
set-bytes (a ∷ bytes) (suc place) b is small = IsBytes-cons a (slice_set bytes place b) (is 0) (set-bytes bytes place b (λ i. is (suc i)) small)

bit-small : (b : ℕ) → b < 256 → bit_changed b < 256
bit-small b small = choose (λ (x : ℕ). x < 256) (b % 2 == 0) (b + 1) (b - 1)
    (λ even. (let e = eqb-true (b % 2) 0 even in omega (arith, e, small))) (λ odd. omega (arith, small))

pub bit-bytes : (place : ℕ) (bytes : List ℕ) → IsBytes bytes → IsBytes (with_bit_changed place bytes)
unfolding with_bit_changed
bit-bytes place bytes is = set-bytes bytes place (bit_changed (slice_index_or bytes place 0)) is
    (bit-small (slice_index_or bytes place 0) (get-bytes bytes place is))

pub last-bytes : (bytes : List ℕ) → IsBytes bytes → IsBytes (with_last_bit_changed bytes)
last-bytes bytes is = bit-bytes (length bytes - 1) bytes is

set-items : (items : List (List ℕ)) (place : ℕ) (item : List ℕ) → AllByRecursion IsBytes items → IsBytes item
    → AllByRecursion IsBytes (slice_set items place item)
set-items [] place item all is = all
set-items (x ∷ items) zero item all is = (is, all.1)
set-items (x ∷ items) (suc place) item all is = (all.0, set-items items place item all.1 is)

get-item : (items : List (List ℕ)) (place : ℕ) → AllByRecursion IsBytes items → IsBytes (slice_index_or items place [])
get-item [] place all = IsBytes-nil
get-item (x ∷ items) zero all = all.0
get-item (x ∷ items) (suc place) all = get-item items place all.1

pub changed-bytes : (change : List ℕ → List ℕ) → ((bytes : List ℕ) → IsBytes bytes → IsBytes (change bytes)) → (place : ℕ)
    (items : List (List ℕ)) → AllByRecursion IsBytes items → AllByRecursion IsBytes (with_changed change place items)
unfolding with_changed
changed-bytes change keeps place items all = set-items items place (change (slice_index_or items place [])) all
    (keeps (slice_index_or items place []) (get-item items place all))

out-bytes : (key : List ℕ) → IsBytes key → IsBytes (key_out_of_range key)
unfolding key_out_of_range
out-bytes key is = IsBytes-append (take 32 key) (packed (12289 ∷ drop 1 (unpacked (drop 32 key)))) (IsBytes-take 32 key is)
    (packed-bytes (12289 ∷ drop 1 (unpacked (drop 32 key))))

-- items are bytes where they are with their lengths before them
pub unprefixed : (items : List (List ℕ)) → IsBytes (flat_map prefixed items) → AllByRecursion IsBytes items
unprefixed [] is = tt
unprefixed (x ∷ items) is = (
  IsBytes-back (to_be_bytes w32 (length x)) x (IsBytes-front (prefixed x) (flat_map prefixed items) is),
  unprefixed items (IsBytes-back (prefixed x) (flat_map prefixed items) is),
)

-- ---- bodies

keys-bytes : (body : Body) → IsBytes (body_text body) → IsBytes (body_text (body_altered Malformed body))
keys-bytes (Keys keys) is = flat-bytes (with_changed key_out_of_range 0 keys) (changed-bytes key_out_of_range out-bytes 0 keys (bytes-flat keys is))
keys-bytes _ is = is

drop-bytes : (body : Body) → IsBytes (body_text body) → IsBytes (body_text (body_altered DropEntry body))
drop-bytes (Shuffled list) is = flat-bytes (with_last_copied list) (copied-keeps IsBytes list (bytes-flat list is))
drop-bytes _ is = is

nogo-bytes : (body : Body) → IsBytes (body_text body) → IsBytes (body_text (body_altered FalseNogo body))
nogo-bytes (Go vote) is = IsBytes-cons 0 [] (omega arith) IsBytes-nil
nogo-bytes _ is = is

seed-bytes : (body : Body) → IsBytes (body_text body) → IsBytes (body_text (body_altered WrongSeed body))
seed-bytes (Reveal votes seed) is = IsBytes-append (flat_map prefixed votes) (with_bit_changed 0 seed)
    (IsBytes-front (flat_map prefixed votes) seed is) (bit-bytes 0 seed (IsBytes-back (flat_map prefixed votes) seed is))
seed-bytes _ is = is

votes-bytes : (body : Body) → IsBytes (body_text body) → IsBytes (body_text (body_altered BadVotes body))
votes-bytes (Reveal votes seed) is = IsBytes-append (flat_map prefixed (with_changed with_last_bit_changed 0 votes)) seed
    (prefixed-bytes (with_changed with_last_bit_changed 0 votes)
    (changed-bytes with_last_bit_changed last-bytes 0 votes (unprefixed votes (IsBytes-front (flat_map prefixed votes) seed is))))
    (IsBytes-back (flat_map prefixed votes) seed is)
votes-bytes _ is = is

-- what a fault makes of a body by itself
pub altered-bytes : (fault : Fault) (body : Body) → IsBytes (body_text body) → IsBytes (body_text (body_altered fault body))
altered-bytes Malformed body is = keys-bytes body is
altered-bytes DropEntry body is = drop-bytes body is
altered-bytes FalseAbort body is = IsBytes-nil
altered-bytes FalseNogo body is = nogo-bytes body is
altered-bytes WrongSeed body is = seed-bytes body is
altered-bytes BadVotes body is = votes-bytes body is
altered-bytes _ body is = is

flipped-bytes : (pads : List (List ℕ)) (place : Option ℕ) → IsBytes (flat_map prefixed pads)
    → IsBytes (flat_map prefixed (pads_changed pads place))
flipped-bytes pads None is = is
flipped-bytes pads (Some place) is = prefixed-bytes (with_changed (with_bit_changed 0) place pads)
    (changed-bytes (with_bit_changed 0) (bit-bytes 0) place pads (unprefixed pads is))

pub pads-bytes : (log : Log) (own : List ℕ) (body : Body) → IsBytes (body_text body) → IsBytes (body_text (pads_altered log own body))
pads-bytes log own (Pads pads) is = flipped-bytes pads (place_of_pad log.shape own (items_in log) pads) is
pads-bytes log own _ is = is

-- ---- contents

kind-small : (body : Body) → kind_number body < 256
kind-small (Keys keys) = omega arith
kind-small (Submit ciphertext) = omega arith
kind-small (Shuffled list) = omega arith
kind-small Abort = omega arith
kind-small (Go vote) = omega arith
kind-small (Reveal votes seed) = omega arith
kind-small (Dispute posts seed opening) = omega arith
kind-small (Pads pads) = omega arith
kind-small (Check vote) = omega arith
kind-small (Confirm votes) = omega arith
kind-small (Differ posts) = omega arith

pub text-bytes : (h : Header) (body : Body) → IsBytes (header_text h) → IsBytes (body_text body)
    → IsBytes (content_text (record { header = h; body = body }))
text-bytes h body head is = IsBytes-append (header_text h) ((kind_number body ∷ []) ++ body_text body) head
    (IsBytes-append (kind_number body ∷ []) (body_text body) (IsBytes-cons (kind_number body) [] (kind-small body) IsBytes-nil) is)

pub head-bytes : (h : Header) (body : Body) → IsBytes (content_text (record { header = h; body = body })) → IsBytes (header_text h)
head-bytes h body is = IsBytes-front (header_text h) ((kind_number body ∷ []) ++ body_text body) is

pub rest-bytes : (h : Header) (body : Body) → IsBytes (content_text (record { header = h; body = body })) → IsBytes (body_text body)
rest-bytes h body is = IsBytes-back (kind_number body ∷ []) (body_text body)
    (IsBytes-back (header_text h) ((kind_number body ∷ []) ++ body_text body) is)

-- a header with another last bit in its view
pub view-bytes : (h : Header) → IsBytes (header_text h) → IsBytes (header_text (record h { view = with_last_bit_changed h.view }))
view-bytes h is =
    let front : List ℕ = h.version ∷ [] in
    let round : List ℕ = to_be_bytes w64 h.round in
    let last : List ℕ = (h.sender ∷ []) ++ h.view in
    let at : List ℕ = (h.stage ∷ []) ++ last in
    let view : List ℕ = with_last_bit_changed h.view in
    let after_group : IsBytes (h.group ++ (round ++ at)) = IsBytes-back front (h.group ++ (round ++ at)) is in
    let after_round : IsBytes (round ++ at) = IsBytes-back h.group (round ++ at) after_group in
    let after_stage : IsBytes at = IsBytes-back round at after_round in
    let after_sender : IsBytes last = IsBytes-back (h.stage ∷ []) last after_stage in
    IsBytes-append front (h.group ++ (round ++ ((h.stage ∷ []) ++ ((h.sender ∷ []) ++ view)))) (IsBytes-front front (h.group ++ (round ++ at)) is)
    (IsBytes-append h.group (round ++ ((h.stage ∷ []) ++ ((h.sender ∷ []) ++ view))) (IsBytes-front h.group (round ++ at) after_group)
    (IsBytes-append round ((h.stage ∷ []) ++ ((h.sender ∷ []) ++ view)) (IsBytes-to_be_bytes w64 h.round)
    (IsBytes-append (h.stage ∷ []) ((h.sender ∷ []) ++ view) (IsBytes-front (h.stage ∷ []) last after_stage)
    (IsBytes-append (h.sender ∷ []) view (IsBytes-front (h.sender ∷ []) h.view after_sender)
    (last-bytes h.view (IsBytes-back (h.sender ∷ []) h.view after_sender))))))

-- ---- descriptors

unjoined : (items : List (List ℕ)) → IsBytes (concat items) → AllByRecursion IsBytes items
unjoined [] is = tt
unjoined (x ∷ items) is = (IsBytes-front x (concat items) is, unjoined items (IsBytes-back x (concat items) is))

set-long : (items : List (List ℕ)) (place : ℕ) (item : List ℕ) → length item ≡ length (slice_index_or items place [])
    → length (concat (slice_set items place item)) ≡ length (concat items)
set-long [] place item same = refl
set-long (x ∷ items) zero item same = omega (arith, length-append item (concat items), length-append x (concat items), same)
set-long (x ∷ items) (suc place) item same =
    let others = set-long items place item same in
    omega (arith, length-append x (concat (slice_set items place item)), length-append x (concat items), others)

changed-long : (place : ℕ) (items : List (List ℕ))
    → length (concat (with_changed (with_bit_changed 0) place items)) ≡ length (concat items)
unfolding with_changed
changed-long place items = set-long items place (with_bit_changed 0 (slice_index_or items place []))
    (length-bit 0 (slice_index_or items place []))

-- a descriptor with other hashes
other-hashes : (size : ℕ) (d : Description) (hashes : List (List ℕ)) → IsItem size (descriptor_text d)
    → length (concat hashes) ≡ length (concat d.pad_hashes) → (IsBytes (concat d.pad_hashes) → IsBytes (concat hashes))
    → IsItem size (descriptor_text (record d { pad_hashes = hashes }))
other-hashes size d hashes is same keeps =
    let head : List ℕ = to_be_bytes w32 d.length in
    let old : List ℕ = concat d.pad_hashes in
    let new : List ℕ = concat hashes in
    let capsules : List ℕ = concat d.capsules in
    let long = is.long in
    let behind_head : IsBytes (d.message_hash ++ (old ++ capsules)) = IsBytes-back head (d.message_hash ++ (old ++ capsules)) is.bytes in
    let behind_hash : IsBytes (old ++ capsules) = IsBytes-back d.message_hash (old ++ capsules) behind_head in
    record {
      long = omega (
        arith,
        long,
        same,
        length-append head (d.message_hash ++ (old ++ capsules)),
        length-append d.message_hash (old ++ capsules),
        length-append old capsules,
        length-append head (d.message_hash ++ (new ++ capsules)),
        length-append d.message_hash (new ++ capsules),
        length-append new capsules,
      );
      bytes = IsBytes-append head (d.message_hash ++ (new ++ capsules)) (IsBytes-to_be_bytes w32 d.length)
          (IsBytes-append d.message_hash (new ++ capsules) (IsBytes-front d.message_hash (old ++ capsules) behind_head)
          (IsBytes-append new capsules (keeps (IsBytes-front old capsules behind_hash)) (IsBytes-back old capsules behind_hash)));
    }

-- what a fault makes of a descriptor is as long, and bytes
pub description-item : (fault : Fault) (member size : ℕ) (d : Description) → IsItem size (descriptor_text d)
    → IsItem size (descriptor_text (description_altered fault member d))
description-item BadDescriptor member size d is =
    let place : ℕ = least_other member - 1 in
    other-hashes size d (with_changed (with_bit_changed 0) place d.pad_hashes) is (changed-long place d.pad_hashes)
    (λ bytes. concat-bytes (with_changed (with_bit_changed 0) place d.pad_hashes)
    (changed-bytes (with_bit_changed 0) (bit-bytes 0) place d.pad_hashes (unjoined d.pad_hashes bytes)))
description-item _ member size d is = is
