-- Keys of which the first coefficient is out of range, as bytes.
use Rattle.std.proofs.Common.{◌≡◌, ℕ, zero, suc, ◌+◌, ◌*◌, ◌/◌, ◌%◌, ◌^◌, ◌<◌, List, [], ◌∷◌, ◌++◌, length, get_or, take, drop, ap, sym, ◌∙◌, refl, subst, arith, append_assoc}
use Rattle.std.specs.Prelude.{◌-◌, slice_index_or}
use Rattle.std.specs.Int.{bytes_low_first}
use Rattle.std.specs.List.{flat_map, slice_set}
use Rattle.std.proofs.lemmas.List.{length-append, length-drop, length-take-le, take-append-drop}
use Rattle.std.proofs.lemmas.List.Concat.{flat_map-cons}
use Rattle.ring_poly.specs.Packing.{group_number, packed, spelled_number, unpacked}
use Rattle.ring_poly.proofs.Packings.{AreBelow, bytes-spelled, packed-unpacked}
use Rattle.ring_poly.specs.PublicKey.{IsPublicKey}
use Rattle.phase_message.specs.declared.content.Body.TheVariants.{Keys}
use Rattle.phase_message.specs.declared.header.Header.{Header}
use Rattle.phase_message.specs.Grammar.{content_text, header_text}
use Rattle.wire_core.specs.Bytes.{IsBytes}
use Rattle.group_spec.specs.Alterations.{key_out_of_range, with_changed}

-- ---- a byte behind a front

pub set-behind : (front : List ℕ) (x y : ℕ) (rest : List ℕ) → slice_set (front ++ x ∷ rest) (length front) y ≡ front ++ y ∷ rest
set-behind [] x y rest = refl
set-behind (z ∷ front) x y rest = ap (λ (s : List ℕ). z ∷ s) (set-behind front x y rest)

-- two of them
pub set-two : (front : List ℕ) (a b x y : ℕ) (rest : List ℕ) →
    slice_set (slice_set (front ++ a ∷ b ∷ rest) (length front) x) (length front + 1) y ≡ front ++ x ∷ y ∷ rest
set-two [] a b x y rest = refl
set-two (z ∷ front) a b x y rest =
    let next : suc (length front) + 1 ≡ suc (length front + 1) = omega arith in
    ap (λ (i : ℕ). slice_set (z ∷ slice_set (front ++ a ∷ b ∷ rest) (length front) x) i y) next
    ∙ ap (λ (s : List ℕ). z ∷ s) (set-two front a b x y rest)

pub second-behind : (front : List ℕ) (a b : ℕ) (rest : List ℕ) → get_or (front ++ a ∷ b ∷ rest) (length front + 1) 0 ≡ b
second-behind [] a b rest = refl
second-behind (z ∷ front) a b rest =
    let next : suc (length front) + 1 ≡ suc (length front + 1) = omega arith in
    ap (λ (i : ℕ). get_or (z ∷ (front ++ a ∷ b ∷ rest)) i 0) next ∙ second-behind front a b rest

take-front : (front rest : List ℕ) → take (length front) (front ++ rest) ≡ front
take-front [] rest = refl
take-front (z ∷ front) rest = ap (λ (s : List ℕ). z ∷ s) (take-front front rest)

drop-front : (front rest : List ℕ) → drop (length front) (front ++ rest) ≡ rest
drop-front [] rest = refl
drop-front (z ∷ front) rest = drop-front front rest

-- ---- the first group of seven bytes

module _ (a b c d e f g : ℕ) (ha : a < 256) (hb : b < 256) (hc : c < 256) (hd : d < 256) (he : e < 256) (hf : f < 256) (hg : g < 256) where
  number-changed : group_number 12289 (spelled_number a b c d e f g / 2 ^ 14 % 2 ^ 14) (spelled_number a b c d e f g / 2 ^ 28 % 2 ^ 14)
      (spelled_number a b c d e f g / 2 ^ 42 % 2 ^ 14) ≡ spelled_number 1 (b / 64 * 64 + 48) c d e f g
  number-changed = omega arith

  pub seven-changed : bytes_low_first 0 7 (group_number 12289 (spelled_number a b c d e f g / 2 ^ 14 % 2 ^ 14)
      (spelled_number a b c d e f g / 2 ^ 28 % 2 ^ 14) (spelled_number a b c d e f g / 2 ^ 42 % 2 ^ 14))
      ≡ 1 ∷ (b / 64 * 64 + 48) ∷ c ∷ d ∷ e ∷ f ∷ g ∷ []
  seven-changed = ap (bytes_low_first 0 7) number-changed
      ∙ bytes-spelled 1 (b / 64 * 64 + 48) c d e f g (omega arith) (omega arith) hc hd he hf hg

-- ---- a key

-- the seven bytes, and what follows
pub record Seven (bytes : List ℕ) : Type 0 where
  pub a : ℕ
  pub b : ℕ
  pub c : ℕ
  pub d : ℕ
  pub e : ℕ
  pub f : ℕ
  pub g : ℕ
  pub rest : List ℕ
  pub is : bytes ≡ a ∷ b ∷ c ∷ d ∷ e ∷ f ∷ g ∷ rest

pub seven-of : (n : ℕ) (bytes : List ℕ) → length bytes ≡ 7 * suc n → Seven bytes
seven-of n (a ∷ b ∷ c ∷ d ∷ e ∷ f ∷ g ∷ rest) l =
    record { a = a; b = b; c = c; d = d; e = e; f = f; g = g; rest = rest; is = refl }
seven-of n [] l = absurd (omega arith)
seven-of n (a ∷ []) l = absurd (omega arith)
seven-of n (a ∷ b ∷ []) l = absurd (omega arith)
seven-of n (a ∷ b ∷ c ∷ []) l = absurd (omega arith)
seven-of n (a ∷ b ∷ c ∷ d ∷ []) l = absurd (omega arith)
seven-of n (a ∷ b ∷ c ∷ d ∷ e ∷ []) l = absurd (omega arith)
seven-of n (a ∷ b ∷ c ∷ d ∷ e ∷ f ∷ []) l = absurd (omega arith)

-- a key behind its 32 first bytes
pub key-changed : (front : List ℕ) (a b c d e f g : ℕ) (rest : List ℕ) → length front ≡ 32 → length rest ≡ 7 * 255 →
    AreBelow 256 (a ∷ b ∷ c ∷ d ∷ e ∷ f ∷ g ∷ rest) →
    key_out_of_range (front ++ a ∷ b ∷ c ∷ d ∷ e ∷ f ∷ g ∷ rest) ≡ front ++ 1 ∷ (b / 64 * 64 + 48) ∷ c ∷ d ∷ e ∷ f ∷ g ∷ rest
unfolding key_out_of_range
key-changed front a b c d e f g rest long others below =
    let bytes : List ℕ = a ∷ b ∷ c ∷ d ∷ e ∷ f ∷ g ∷ rest in
    let first : take 32 (front ++ bytes) ≡ front = ap (λ (n : ℕ). take n (front ++ bytes)) (sym long) ∙ take-front front bytes in
    let second : drop 32 (front ++ bytes) ≡ bytes = ap (λ (n : ℕ). drop n (front ++ bytes)) (sym long) ∙ drop-front front bytes in
    let after : AreBelow 256 rest = λ k l. below (suc (suc (suc (suc (suc (suc (suc k))))))) (omega (arith, l)) in
    let seven = seven-changed a b c d e f g (below 0 (omega arith)) (below 1 (omega arith)) (below 2 (omega arith)) (below 3 (omega arith))
    (below 4 (omega arith)) (below 5 (omega arith)) (below 6 (omega arith)) in
    ap (λ (s : List ℕ). s ++ packed (12289 ∷ drop 1 (unpacked (drop 32 (front ++ bytes))))) first
    ∙ ap (λ (s : List ℕ). front ++ packed (12289 ∷ drop 1 (unpacked s))) second
    ∙ ap (λ (s : List ℕ). front ++ (s ++ packed (unpacked rest))) seven
    ∙ ap (λ (s : List ℕ). front ++ 1 ∷ (b / 64 * 64 + 48) ∷ c ∷ d ∷ e ∷ f ∷ g ∷ s) (packed-unpacked 255 rest others after)

-- ---- all keys, behind what stands before them

-- the first key behind what stands before it
pub joined-keys : (head front : List ℕ) (x y : ℕ) (bytes : List ℕ) (keys : List (List ℕ)) →
    head ++ flat_map (λ (k : List ℕ). k) ((front ++ x ∷ y ∷ bytes) ∷ keys) ≡ (head ++ front)
    ++ x ∷ y ∷ (bytes ++ flat_map (λ (k : List ℕ). k) keys)
joined-keys head front x y bytes keys =
    let more : List ℕ = flat_map (λ (k : List ℕ). k) keys in
    ap (λ (s : List ℕ). head ++ s) (flat_map-cons (λ (k : List ℕ). k) (front ++ x ∷ y ∷ bytes) keys)
    ∙ ap (λ (s : List ℕ). head ++ s) (append_assoc front (x ∷ y ∷ bytes) more) ∙ sym (append_assoc head front (x ∷ y ∷ (bytes ++ more)))

-- the bytes of keys of which the first is changed are those of the keys with two bytes changed
pub keys-changed : (head front : List ℕ) (a b c d e f g : ℕ) (rest : List ℕ) (keys : List (List ℕ)) → length front ≡ 32
    → length rest ≡ 7 * 255 →
    AreBelow 256 (a ∷ b ∷ c ∷ d ∷ e ∷ f ∷ g ∷ rest) →
    let key : List ℕ = front ++ a ∷ b ∷ c ∷ d ∷ e ∷ f ∷ g ∷ rest in
    head ++ flat_map (λ (k : List ℕ). k) (with_changed key_out_of_range 0 (key ∷ keys))
    ≡ slice_set (slice_set (head ++ flat_map (λ (k : List ℕ). k) (key ∷ keys)) (length (head ++ front)) 1) (length (head ++ front) + 1)
    (b / 64 * 64 + 48)
unfolding with_changed
keys-changed head front a b c d e f g rest keys long others below =
    let bytes : List ℕ = c ∷ d ∷ e ∷ f ∷ g ∷ rest in
    let more : List ℕ = flat_map (λ (k : List ℕ). k) keys in
    ap (λ (k : List ℕ). head ++ flat_map (λ (k : List ℕ). k) (k ∷ keys)) (key-changed front a b c d e f g rest long others below)
    ∙ joined-keys head front 1 (b / 64 * 64 + 48) bytes keys
    ∙ sym (set-two (head ++ front) a b 1 (b / 64 * 64 + 48) (bytes ++ more))
    ∙ ap (λ (s : List ℕ). slice_set (slice_set s (length (head ++ front)) 1) (length (head ++ front) + 1) (b / 64 * 64 + 48))
    (sym (joined-keys head front a b bytes keys))

-- ---- bytes

below-front : (xs after : List ℕ) → IsBytes (xs ++ after) → AreBelow 256 xs
below-front [] after are k lt = absurd (omega arith)
below-front (x ∷ xs) after are zero lt = are 0
below-front (x ∷ xs) after are (suc k) lt = below-front xs after (λ i. are (suc i)) k (omega (arith, lt))

below-in : (before xs after : List ℕ) → IsBytes (before ++ (xs ++ after)) → AreBelow 256 xs
below-in [] xs after are = below-front xs after are
below-in (x ∷ before) xs after are = below-in before xs after (λ i. are (suc i))

append-front : (front : List ℕ) (x : ℕ) (rest : List ℕ) → (front ++ x ∷ []) ++ rest ≡ front ++ x ∷ rest
append-front [] x rest = refl
append-front (y ∷ front) x rest = ap (λ (s : List ℕ). y ∷ s) (append-front front x rest)

-- the bytes of keys with two bytes changed are those of the keys of which the first is out of range
pub changed-text : (h : Header) (key : List ℕ) (keys : List (List ℕ)) (bytes result : List ℕ) → length (header_text h) ≡ 75
    → IsPublicKey key →
    bytes ≡ content_text (record { header = h; body = Keys (key ∷ keys) }) → IsBytes bytes →
    result ≡ slice_set (slice_set bytes 108 1) 109 (slice_index_or bytes 109 0 / 64 * 64 + 48) →
    result ≡ content_text (record { header = h; body = Keys (with_changed key_out_of_range 0 (key ∷ keys)) })
changed-text h key keys bytes result size is spelled are made =
    let front : List ℕ = take 32 key in
    let dropped : length (drop 32 key) ≡ length key - 32 = length-drop 32 key in
    let s : Seven (drop 32 key) = seven-of 255 (drop 32 key) (let long = is.length in omega (arith, dropped, long)) in
    let tail : List ℕ = s.c ∷ s.d ∷ s.e ∷ s.f ∷ s.g ∷ s.rest in
    let split : key ≡ front ++ s.a ∷ s.b ∷ tail = sym (take-append-drop 32 key) ∙ ap (λ (r : List ℕ). front ++ r) s.is in
    let head : List ℕ = header_text h ++ 1 ∷ [] in
    let text : (ks : List (List ℕ)) → content_text (record { header = h; body = Keys ks }) ≡ head ++ flat_map (λ (k : List ℕ). k) ks
    = λ ks. sym (append-front (header_text h) 1 (flat_map (λ (k : List ℕ). k) ks)) in
    let front_long : length front ≡ 32 = length-take-le 32 key (let long = is.length in omega (arith, long)) in
    let rest_long : length s.rest ≡ 7 * 255 = (let all : length (drop 32 key) ≡ length (s.a ∷ s.b ∷ tail) = ap (λ (r : List ℕ). length r)
    s.is in
    let long = is.length in omega (arith, all, dropped, long)) in
    let place : length (head ++ front) ≡ 108
    = (let one = length-append head front in let two = length-append (header_text h) (1 ∷ []) in omega (arith, one, two, size, front_long))
    in
    let more : List ℕ = flat_map (λ (k : List ℕ). k) keys in
    let bytes_is : bytes ≡ head ++ flat_map (λ (k : List ℕ). k) ((front ++ s.a ∷ s.b ∷ tail) ∷ keys)
    = spelled ∙ text (key ∷ keys) ∙ ap (λ (k : List ℕ). head ++ flat_map (λ (j : List ℕ). j) (k ∷ keys)) split in
    let joined : bytes ≡ (head ++ front) ++ s.a ∷ s.b ∷ (tail ++ more) = bytes_is ∙ joined-keys head front s.a s.b tail keys in
    let next : 109 ≡ length (head ++ front) + 1 = omega (arith, place) in
    let second : slice_index_or bytes 109 0 ≡ s.b
    = ap (λ (t : List ℕ). get_or t 109 0) joined
    ∙ ap (λ (n : ℕ). get_or ((head ++ front) ++ s.a ∷ s.b ∷ (tail ++ more)) n 0) next
    ∙ second-behind (head ++ front) s.a s.b (tail ++ more) in
    let below : AreBelow 256 (s.a ∷ s.b ∷ tail) = below-in (head ++ front) (s.a ∷ s.b ∷ tail) more (subst IsBytes joined are) in
    made
    ∙ ap (λ (x : ℕ). slice_set (slice_set bytes 108 1) 109 (x / 64 * 64 + 48)) second
    ∙ ap (λ (t : List ℕ). slice_set (slice_set t 108 1) 109 (s.b / 64 * 64 + 48)) bytes_is
    ∙ ap (λ (n : ℕ). slice_set (slice_set (head ++ flat_map (λ (k : List ℕ). k) ((front ++ s.a ∷ s.b ∷ tail) ∷ keys)) n 1) (n + 1)
    (s.b / 64 * 64 + 48)) (sym place)
    ∙ sym (keys-changed head front s.a s.b s.c s.d s.e s.f s.g s.rest keys front_long rest_long below)
    ∙ ap (λ (k : List ℕ). head ++ flat_map (λ (j : List ℕ). j) (with_changed key_out_of_range 0 (k ∷ keys))) (sym split)
    ∙ sym (text (with_changed key_out_of_range 0 (key ∷ keys)))
