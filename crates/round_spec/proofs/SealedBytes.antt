-- What a member makes of bytes are bytes: layers, descriptors, pads and items.
use Rattle.std.proofs.Common.{◌≡◌, ℕ, zero, suc, ◌+◌, ◌/◌, ◌%◌, ◌<◌, List, [], ◌∷◌, ◌++◌, length, map, take, drop, replicate, Some, ap, sym, refl, subst, arith}
use Rattle.std.specs.Prelude.{All, bit_xor, zip}
use Rattle.std.specs.List.{AllByRecursion, AllZip, concat, flat_map, range_with_len, slice_get}
use Rattle.std.specs.Int.{to_be_bytes, w32}
use Rattle.std.proofs.lemmas.List.{take-append-drop}
use Rattle.std.proofs.lemmas.Nat.{xor_of_8}
use Rattle.wire_core.specs.Bytes.{IsBytes, prefixed}
use Rattle.wire_core.specs.declared.tag.Tag.TheVariants.{LayerStream, LayerTag, Message, PadHash, PadStream, RingCoins}
use Rattle.wire_core.specs.Hash.{hash_of}
use Rattle.wire_core.proofs.ByteLists.{IsBytes-append, IsBytes-back, IsBytes-cons, IsBytes-front, IsBytes-nil, IsBytes-to_be_bytes, hash_bytes}
use Rattle.pad_stream.specs.ExclusiveOr.{exclusive_or}
use Rattle.pad_stream.specs.Stream.{byte_of, bytes_from, pad_of, word_of}
use Rattle.ring_encrypt.specs.Capsule.{capsule_of, key_of_seed, sealed_with}
use Rattle.ring_encrypt.specs.Draws.{uniform}
use Rattle.ring_encrypt.specs.Packing.{unpacked}
use Rattle.ring_encrypt.proofs.OpeningLemmas.{sealed_parts, u_of, v_of}
use Rattle.layer_cipher.specs.Layer.{Opens, layer_of, masked, wrapping_of}
use Rattle.layer_cipher.specs.Stripping.{HasBody}
use Rattle.layer_cipher.proofs.LayerLemmas.{layer_adds, masked_twice}
use Rattle.bulk_descriptor.specs.Descriptor.{descriptor_text, hash_of_pad, hidden_under, made_descriptor, made_pads, other_pads, own_pad, pads_of, sealed_seeds}
use Rattle.round_spec.proofs.OwnBytes.{low-first, packed-bytes}

-- ---- lists of byte strings

pub all-map : {A B : Type 0} (P : B → Type 0) (f : A → B) (xs : List A) → ((x : A) → P (f x)) → AllByRecursion P (map f xs)
all-map P f [] each = tt
all-map P f (x ∷ xs) each = (each x, all-map P f xs each)

pub all-map-from : {A B : Type 0} (P : B → Type 0) (f : A → B) (xs : List A) → AllByRecursion (λ x. P (f x)) xs
    → AllByRecursion P (map f xs)
all-map-from P f [] all = tt
all-map-from P f (x ∷ xs) all = (all.0, all-map-from P f xs all.1)

pub all-from : {A : Type 0} (P : A → Type 0) (xs : List A) → ((k : ℕ) (x : A) → slice_get xs k ≡ Some x → P x) → AllByRecursion P xs
all-from P [] each = tt
all-from P (x ∷ xs) each = (each 0 x refl, all-from P xs (λ k y at. each (suc k) y at))

pub all-take : {A : Type 0} (P : A → Type 0) (n : ℕ) (xs : List A) → AllByRecursion P xs → AllByRecursion P (take n xs)
all-take P zero xs all = tt
all-take P (suc n) [] all = tt
all-take P (suc n) (x ∷ xs) all = (all.0, all-take P n xs all.1)

pub all-drop : {A : Type 0} (P : A → Type 0) (n : ℕ) (xs : List A) → AllByRecursion P xs → AllByRecursion P (drop n xs)
all-drop P zero xs all = all
all-drop P (suc n) [] all = tt
all-drop P (suc n) (x ∷ xs) all = all-drop P n xs all.1

pub all-places : {A : Type 0} (P : A → Type 0) (xs : List A) → AllByRecursion P xs → All P xs
all-places P [] all k d lt = absurd (omega (arith, lt))
all-places P (x ∷ xs) all zero d lt = all.0
all-places P (x ∷ xs) all (suc k) d lt = all-places P xs all.1 k d (omega (arith, lt))

pub all-items : {A : Type 0} (P : A → Type 0) (xs : List A) → All P xs → AllByRecursion P xs
all-items P [] all = tt
all-items P (x ∷ xs) all = (all 0 x (omega arith), all-items P xs (λ k d lt. all (suc k) d (omega (arith, lt))))

pub concat-bytes : (xs : List (List ℕ)) → AllByRecursion IsBytes xs → IsBytes (concat xs)
concat-bytes [] all = IsBytes-nil
concat-bytes (x ∷ xs) all = IsBytes-append x (concat xs) all.0 (concat-bytes xs all.1)

pub flat-bytes : (xs : List (List ℕ)) → AllByRecursion IsBytes xs → IsBytes (flat_map (λ x. x) xs)
flat-bytes [] all = IsBytes-nil
flat-bytes (x ∷ xs) all = IsBytes-append x (flat_map (λ x. x) xs) all.0 (flat-bytes xs all.1)

pub bytes-flat : (xs : List (List ℕ)) → IsBytes (flat_map (λ x. x) xs) → AllByRecursion IsBytes xs
bytes-flat [] all = tt
bytes-flat (x ∷ xs) all = (IsBytes-front x (flat_map (λ x. x) xs) all, bytes-flat xs (IsBytes-back x (flat_map (λ x. x) xs) all))

pub prefixed-bytes : (xs : List (List ℕ)) → AllByRecursion IsBytes xs → IsBytes (flat_map prefixed xs)
prefixed-bytes [] all = IsBytes-nil
prefixed-bytes (x ∷ xs) all =
    IsBytes-append (prefixed x) (flat_map prefixed xs) (IsBytes-append (to_be_bytes w32 (length x)) x (IsBytes-to_be_bytes w32 (length x))
    all.0) (prefixed-bytes xs all.1)

map-bytes : (f : ℕ → ℕ) (ns : List ℕ) → ((n : ℕ) → f n < 256) → IsBytes (map f ns)
map-bytes f [] each = IsBytes-nil
map-bytes f (n ∷ ns) each = IsBytes-cons (f n) (map f ns) (each n) (map-bytes f ns each)

pub zero-bytes : (n : ℕ) → IsBytes (replicate n 0)
zero-bytes zero = IsBytes-nil
zero-bytes (suc n) = IsBytes-cons 0 (replicate n 0) (omega arith) (zero-bytes n)

-- ---- streams

xor-small : (x y : ℕ) → x < 256 → y < 256 → bit_xor x y < 256
xor-small x y p q = xor_of_8 x y p q

pub xor-bytes : (xs ys : List ℕ) → IsBytes xs → IsBytes ys → IsBytes (exclusive_or xs ys)
xor-bytes [] ys p q = IsBytes-nil
xor-bytes (x ∷ xs) [] p q = IsBytes-nil
xor-bytes (x ∷ xs) (y ∷ ys) p q = IsBytes-cons (bit_xor x y) (exclusive_or xs ys) (xor-small x y (p 0) (q 0))
    (xor-bytes xs ys (λ i. p (suc i)) (λ i. q (suc i)))

drawn-small : (key : List ℕ) (place : ℕ) → byte_of key place < 256
unfolding byte_of
drawn-small key place = low-first 0 4 (word_of key (place / 4)) (place % 4)

pub stream-bytes : (key : List ℕ) (place count : ℕ) → IsBytes (bytes_from key place count)
unfolding bytes_from
stream-bytes key place count = map-bytes (byte_of key) (range_with_len place count) (drawn-small key)

-- ---- layers

sealed-bytes : (coins a b m : List ℕ) → IsBytes (sealed_with coins a b m)
sealed-bytes coins a b m =
    let parts = sealed_parts coins a b m in
    let sealed : List ℕ = sealed_with coins a b m in
    subst IsBytes (take-append-drop 1792 sealed)
    (IsBytes-append (take 1792 sealed) (drop 1792 sealed)
    (subst IsBytes (sym parts.front) (packed-bytes (u_of coins a)))
    (subst IsBytes (sym parts.back) (packed-bytes (v_of coins b m))))

pub capsule-bytes : (key m : List ℕ) → IsBytes (capsule_of key m)
unfolding capsule_of
capsule-bytes key m = sealed-bytes (hash_of RingCoins (key ∷ m ∷ [])) (uniform (take 32 key)) (unpacked (drop 32 key)) m

masked-bytes : (m body : List ℕ) → IsBytes body → IsBytes (masked m body)
masked-bytes m body is = xor-bytes body (bytes_from (hash_of LayerStream (m ∷ [])) 0 (length body)) is
    (stream-bytes (hash_of LayerStream (m ∷ [])) 0 (length body))

layer-bytes : (key m body : List ℕ) → IsBytes body → IsBytes (layer_of key m body)
unfolding layer_of
layer-bytes key m body is =
    let check : List ℕ = hash_of LayerTag (m ∷ masked m body ∷ []) in
    IsBytes-append (capsule_of key m ++ hash_of LayerTag (m ∷ masked m body ∷ [])) (masked m body)
    (IsBytes-append (capsule_of key m) (hash_of LayerTag (m ∷ masked m body ∷ [])) (capsule-bytes key m)
    (hash_bytes LayerTag (m ∷ masked m body ∷ [])).1) (masked-bytes m body is)

pub wrapping-bytes : (keys ms : List (List ℕ)) (blob : List ℕ) → IsBytes blob → IsBytes (wrapping_of keys ms blob)
unfolding wrapping_of
wrapping-bytes [] ms blob is = is
wrapping-bytes (key ∷ keys) [] blob is = is
wrapping-bytes (key ∷ keys) (m ∷ ms) blob is = layer-bytes key m (wrapping_of keys ms blob) (wrapping-bytes keys ms blob is)

-- what is in a layer
opened-bytes : (seed layer m body : List ℕ) → Opens seed layer m body → IsBytes layer → IsBytes body
unfolding layer_of
opened-bytes seed layer m body opens is =
    let whole : IsBytes (layer_of (key_of_seed seed) m body) = subst IsBytes opens.is is in
    let hidden : IsBytes (masked m body) = IsBytes-back (capsule_of (key_of_seed seed) m ++ hash_of LayerTag (m ∷ masked m body ∷ []))
    (masked m body) whole in
    subst IsBytes (masked_twice m body) (masked-bytes m (masked m body) hidden)

pub bodies-bytes : (seed : List ℕ) (entries bodies : List (List ℕ)) → AllZip (HasBody seed) entries bodies → AllByRecursion IsBytes entries
    → AllByRecursion IsBytes bodies
bodies-bytes seed [] [] are all = tt
bodies-bytes seed [] (body ∷ bodies) are all = absurd are
bodies-bytes seed (entry ∷ entries) [] are all = absurd are
bodies-bytes seed (entry ∷ entries) (body ∷ bodies) are all = (
  opened-bytes seed entry are.0.0 body are.0.1 all.0,
  bodies-bytes seed entries
      bodies are.1 all.1,
)

pub bodies-long : (seed : List ℕ) (size : ℕ) (entries bodies : List (List ℕ)) → AllZip (HasBody seed) entries bodies
    → AllByRecursion (λ entry. length entry ≡ size + 2272) entries
    → AllByRecursion (λ body. length body ≡ size) bodies
bodies-long seed size [] [] are all = tt
bodies-long seed size [] (body ∷ bodies) are all = absurd are
bodies-long seed size (entry ∷ entries) [] are all = absurd are
bodies-long seed size (entry ∷ entries) (body ∷ bodies) are all =
    (body-long seed size entry are.0.0 body are.0.1 all.0, bodies-long seed size entries bodies are.1 all.1)
  where
    body-long : (seed : List ℕ) (size : ℕ) (entry m body : List ℕ) → Opens seed entry m body → length entry ≡ size + 2272
        → length body ≡ size
    body-long seed size entry m body opens long = (let whole = ap length opens.is in omega
        (arith, long, whole, layer_adds (key_of_seed seed) m body))

-- ---- descriptors and pads

pub pad-bytes : (seed : List ℕ) (count : ℕ) → IsBytes (pad_of seed count)
pad-bytes seed count = stream-bytes (hash_of PadStream (seed ∷ [])) 0 count

hidden-bytes : (bytes : List ℕ) (pads : List (List ℕ)) → IsBytes bytes → AllByRecursion IsBytes pads → IsBytes (hidden_under bytes pads)
hidden-bytes bytes [] is all = is
hidden-bytes bytes (pad ∷ pads) is all = hidden-bytes (exclusive_or bytes pad) pads (xor-bytes bytes pad is all.0) all.1

pub own-pad-bytes : (seeds : List (List ℕ)) (member : ℕ) (message : List ℕ) → IsBytes message → IsBytes (own_pad seeds member message)
unfolding own_pad pads_of
own-pad-bytes seeds member message is =
    hidden-bytes message (other_pads seeds member (length message)) is
    (all-map IsBytes (λ seed. pad_of seed (length message)) _ (λ seed. pad-bytes seed (length message)))

pub descriptor-bytes : (keys seeds : List (List ℕ)) (member : ℕ) (message : List ℕ)
    → IsBytes (descriptor_text (made_descriptor keys seeds member message))
unfolding made_descriptor sealed_seeds
descriptor-bytes keys seeds member message =
    let hashes : List (List ℕ) = map hash_of_pad (made_pads seeds member message) in
    let capsules : List (List ℕ) = map (λ (p : List ℕ × List ℕ). capsule_of p.0 p.1) (zip keys seeds) in
    let hash : List ℕ = hash_of Message (message ∷ []) in
    IsBytes-append (to_be_bytes w32 (length message)) (hash ++ (concat hashes ++ concat capsules))
    (IsBytes-to_be_bytes w32 (length message))
    (IsBytes-append hash (concat hashes ++ concat capsules) (hash_bytes Message (message ∷ [])).1
    (IsBytes-append (concat hashes) (concat capsules)
    (concat-bytes hashes (all-map IsBytes hash_of_pad (made_pads seeds member message) (λ pad. (hash_bytes PadHash (pad ∷ [])).1)))
    (concat-bytes capsules (all-map IsBytes (λ (p : List ℕ × List ℕ). capsule_of p.0 p.1) (zip keys seeds) (λ p. capsule-bytes p.0 p.1)))))
