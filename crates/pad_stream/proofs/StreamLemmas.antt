-- What the generator fills a buffer with.
use Rattle.std.proofs.Common.{◌≡◌, ℕ, zero, suc, ◌+◌, ◌-◌, ◌*◌, ◌/◌, ◌%◌, ◌^◌, ◌<◌, ◌≤◌, List, [], ◌∷◌, ◌++◌, length, take, drop, get_or, refl, sym, ap, arith, append_assoc, add-zero, append-nil}
use Rattle.std.specs.Int.{w32, to_le_bytes, to_be_bytes}
use Rattle.std.proofs.lemmas.List.{drop_at, length-take-le, take-append-drop, length-drop}
use Rattle.std.proofs.Math.Seq.{take-append-add}
use Rattle.std.proofs.lemmas.List.FromFn.{map-range_with_len_more, take-map-range_with_len, length-map-range_with_len}
use Rattle.sha2.specs.Sha256.{sha256}
use Rattle.rand_core.specs.Steps.{word_bytes, fill_via_u32}
use Rattle.rand_chacha.specs.ChaCha.{ChaCha, next_word, of_seed, key_of}
use Rattle.wire_core.specs.declared.tag.Tag.TheVariants.{PadStream, PadHash}
use Rattle.wire_core.specs.Hash.{magic, tag_number, hashed, hash_of}
use Rattle.pad_stream.specs.Stream.{word_of, byte_of, bytes_from, stream_of, pad_of}

pub length-bytes_from : (key : List ℕ) (place count : ℕ) → length (bytes_from key place count) ≡ count
unfolding bytes_from
length-bytes_from key place count = length-map-range_with_len (byte_of key) place count

pub take-bytes_from : (key : List ℕ) (place count k : ℕ) → k ≤ count → take k (bytes_from key place count) ≡ bytes_from key place k
unfolding bytes_from
take-bytes_from key place count k h = take-map-range_with_len (byte_of key) place count k h

pub bytes_from-none : (key : List ℕ) (place : ℕ) → bytes_from key place 0 ≡ []
unfolding bytes_from
bytes_from-none key place = refl

bytes_from-more : (key : List ℕ) (place count at : ℕ) → place + count ≡ at → bytes_from key place (count + 1) ≡ bytes_from key place count
    ++ byte_of key at ∷ []
unfolding bytes_from
bytes_from-more key place count at h = map-range_with_len_more (byte_of key) place count at h

-- bytes, and then more
pub bytes_from-add : (key : List ℕ) (place count at more : ℕ) → place + count ≡ at
    → bytes_from key place (count + more) ≡ bytes_from key place count ++ bytes_from key at more
bytes_from-add key place count at zero h = rw (add-zero, bytes_from-none, append-nil) refl
bytes_from-add key place count at (suc more) h =
    let next : count + suc more ≡ (count + more) + 1 = omega arith in
    let first : bytes_from key place ((count + more) + 1) ≡ bytes_from key place (count + more)
    ++ byte_of key (at + more) ∷ [] = bytes_from-more key place (count + more) (at + more) (omega arith) in
    let second : bytes_from key at (more + 1) ≡ bytes_from key at more
    ++ byte_of key (at + more) ∷ [] = bytes_from-more key at more (at + more) refl in
    let last : suc more ≡ more + 1 = omega arith in
    rw (next, last, first, second, bytes_from-add key place count at more h, append_assoc) refl

-- the generator at a word
abbrev at_word : List ℕ → ℕ → ChaCha
at_word key place = record { key = key_of key; stream = 0; word_pos = place }

-- a byte of a word
byte_of-word : (key : List ℕ) (place i at : ℕ) → i < 4 → at ≡ 4 * place + i
    → byte_of key at ≡ get_or (to_le_bytes w32 (word_of key place)) i 0
unfolding byte_of
byte_of-word key place i at small is =
    let quotient : at / 4 ≡ place = omega arith in
    let rest : at % 4 ≡ i = omega arith in
    rw (quotient, rest) refl

-- the four bytes of a word
word_as_bytes : (key : List ℕ) (place : ℕ) → bytes_from key (4 * place) 4 ≡ to_le_bytes w32 (word_of key place)
unfolding bytes_from
word_as_bytes key place =
    rw (
      byte_of-word key place 0 (4 * place) (omega arith) (omega arith),
      byte_of-word key place 1 (4 * place + 1) (omega arith)
          (omega arith),
      byte_of-word key place 2 (4 * place + 1 + 1) (omega arith) (omega arith),
      byte_of-word key place 3
          (4 * place + 1 + 1 + 1) (omega arith) (omega arith),
    ) refl

-- whole words
words_as_bytes : (key : List ℕ) (place count : ℕ) → place + count < 2 ^ 68
    → word_bytes (to_le_bytes w32) (next_word 10) count (at_word key place) ≡
    (bytes_from key (4 * place) (4 * count), at_word key (place + count))
unfolding word_bytes
words_as_bytes key place zero h = rw (add-zero, bytes_from-none) refl
words_as_bytes key place (suc count) h =
    let before : word_bytes (to_le_bytes w32) (next_word 10) count (at_word key place) ≡
    (bytes_from key (4 * place) (4 * count), at_word key (place + count)) = words_as_bytes key place count (omega arith) in
    let word : to_le_bytes w32 (word_of key (place + count)) ≡ bytes_from key (4 * (place + count)) 4 = sym
    (word_as_bytes key (place + count)) in
    let more : bytes_from key (4 * place) (4 * count + 4) ≡ bytes_from key (4 * place) (4 * count)
    ++ bytes_from key (4 * (place + count)) 4 = bytes_from-add key (4 * place) (4 * count) (4 * (place + count)) 4 (omega arith) in
    let after : (place + count + 1) % 2 ^ 68 ≡ place + suc count = omega arith in
    let sum : 4 * suc count ≡ 4 * count + 4 = omega arith in
    rw (before, word, after, sum, more) refl

pub filled : (key : List ℕ) (place count : ℕ) → place < 2 ^ 32 → count < 2 ^ 64
    → (fill_via_u32 (next_word 10) count (at_word key (place % 2 ^ 68))).0 ≡ bytes_from key (4 * place) count
filled key place count small short =
    let here : place % 2 ^ 68 ≡ place = omega arith in
    let words : word_bytes (to_le_bytes w32) (next_word 10) ((count + 3) / 4) (at_word key place) ≡
    (bytes_from key (4 * place) (4 * ((count + 3) / 4)), at_word key (place + (count + 3) / 4)) = words_as_bytes key place
    ((count + 3) / 4) (omega arith) in
    rw (here, words) (take-bytes_from key (4 * place) (4 * ((count + 3) / 4)) count (omega arith))

-- the same, of a generator that was made from the key and set to the word
pub filled_at : (key : List ℕ) (place count from : ℕ) (made set : ChaCha) → place < 2 ^ 32 → count < 2 ^ 64
    → made ≡ of_seed key → from ≡ place → set ≡ record { key = made.key; stream = made.stream; word_pos = from % 2 ^ 68 }
    → (fill_via_u32 (next_word 10) count set).0 ≡ bytes_from key (4 * place) count
filled_at key place count from made set small short is-made is-from is-set =
    rw (is-set, is-made, is-from) (filled key place count small short)

-- no bytes yet
pub stream_of-none : (key : List ℕ) (count : ℕ) → count ≡ 0 → stream_of key count ≡ []
stream_of-none key count none = rw none (bytes_from-none key 0)

-- bytes that follow those so far
pub stream_of-more : (key front part : List ℕ) (place count more all : ℕ) → 4 * place ≡ count → count + more ≡ all
    → part ≡ bytes_from key (4 * place) more → (front ++ stream_of key count) ++ part ≡ front ++ stream_of key all
stream_of-more key front part place count more all at sum drawn =
    let whole : bytes_from key 0 (count + more) ≡ bytes_from key 0 count
    ++ bytes_from key (4 * place) more = bytes_from-add key 0 count (4 * place) more (omega arith) in
    rw (← sum, whole, drawn, append_assoc) refl

-- a part of the bytes
pub between-stream_of : (key : List ℕ) (from count all : ℕ) → from + count ≤ all
    → take count (drop from (stream_of key all)) ≡ bytes_from key from count
between-stream_of key from count all within =
    let rest : all ≡ from + (all - from) = omega arith in
    let whole : bytes_from key 0 (from + (all - from)) ≡ bytes_from key 0 from
    ++ bytes_from key from (all - from) = bytes_from-add key 0 from from (all - from) (omega arith) in
    let front : drop from (bytes_from key 0 from ++ bytes_from key from (all - from)) ≡ bytes_from key from (all - from) = drop_at
    (bytes_from key 0 from) (bytes_from key from (all - from)) from (length-bytes_from key 0 from) in
    rw (rest, whole, front) (take-bytes_from key from (all - from) count (omega arith))

take-add : (xs : List ℕ) (from count : ℕ) → from ≤ length xs → take (from + count) xs ≡ take from xs ++ take count (drop from xs)
take-add xs from count within =
    let front : length (take from xs) ≡ from = length-take-le from xs within in
    let whole : take (length (take from xs) + count) (take from xs ++ drop from xs) ≡ take from xs
    ++ take count (drop from xs) = take-append-add (take from xs) (drop from xs) count in
    rw (front, take-append-drop from xs) at whole

-- a part of drawn bytes is drawn
pub part-drawn : (key sent : List ℕ) (place from to : ℕ) → 4 * place ≡ from → from ≤ to → to ≤ length sent
    → sent ≡ stream_of key (length sent)
    → let part = take (to - from) (drop from sent) in part ≡ bytes_from key (4 * place) (length part)
part-drawn key sent place from to at order within drawn =
    let long : length (take (to - from) (drop from sent)) ≡ to - from = length-take-le (to - from) (drop from sent)
    (omega (arith, length-drop from sent)) in
    let part : take (to - from) (drop from (stream_of key (length sent))) ≡ bytes_from key from (to - from) = between-stream_of key from
    (to - from) (length sent) (omega arith) in
    rw (long, at, ← part) (ap (λ (xs : List ℕ). take (to - from) (drop from xs)) drawn)

-- drawn bytes with a drawn part after them are drawn
pub part-after-drawn : (key sent : List ℕ) (place from to : ℕ) → 4 * place ≡ from → from ≤ to → to ≤ length sent
    → take from sent ≡ stream_of key from
    → (let part = take (to - from) (drop from sent) in part ≡ bytes_from key (4 * place) (length part))
    → take to sent ≡ stream_of key to
part-after-drawn key sent place from to at order within before drawn =
    let long : length (take (to - from) (drop from sent)) ≡ to - from = length-take-le (to - from) (drop from sent)
    (omega (arith, length-drop from sent)) in
    let part : take (to - from) (drop from sent) ≡ bytes_from key from (to - from) = rw (long, at) at drawn in
    let sum : from + (to - from) ≡ to = omega arith in
    let split : take (from + (to - from)) sent ≡ take from sent
    ++ take (to - from) (drop from sent) = take-add sent from (to - from) (omega arith) in
    let whole : bytes_from key 0 (from + (to - from)) ≡ bytes_from key 0 from
    ++ bytes_from key from (to - from) = bytes_from-add key 0 from from (to - from) (omega arith) in
    rw (← sum, split, whole, before, part) refl

-- what is hashed for the hash of a pad
pub sha256-pad : (seed key length_bytes : List ℕ) (number count : ℕ) → number ≡ tag_number PadHash → length_bytes ≡ to_be_bytes w32 count
    → key ≡ hash_of PadStream (seed ∷ [])
    → sha256 ((magic ++ number ∷ length_bytes) ++ stream_of key count) ≡ hash_of PadHash (pad_of seed count ∷ [])
unfolding hash_of hashed
sha256-pad seed key length_bytes number count is-number are-bytes is-key =
    rw (
      is-number,
      are-bytes,
      is-key,
      length-bytes_from (hash_of PadStream (seed ∷ [])) 0 count,
      append-nil
          (stream_of (hash_of PadStream (seed ∷ [])) count),
    ) refl
