-- Groups of four coefficients and seven bytes.
use Rattle.std.proofs.Common.{◌≡◌, ℕ, zero, suc, ◌+◌, ◌-◌, ◌*◌, ◌/◌, ◌%◌, ◌^◌, ◌<◌, ◌≤◌, List, [], ◌∷◌, ◌++◌, length, get_or, set, take, drop, refl, sym, ap, subst, arith, ◌∙◌, Option, Some, None, Ok, Err, ⊎_elim}
use Rattle.std.specs.Prelude.{All}
use Rattle.std.specs.Int.{bytes_low_first}
use Rattle.ring_poly.specs.Packing.{group_number, packed, spelled_number, group_of, unpacked, first_too_large, unless_too_large, read_packed}
use Rattle.ring_poly.specs.declared.packing.CoefficientTooLarge.{CoefficientTooLarge}
use borrow.Rule.Slice.PartMut.{put_mid}
use Rattle.std.proofs.lemmas.List.{length-take-le}
use Rattle.std.proofs.lemmas.Slice.{take-put_mid}
use Rattle.std.proofs.Math.Seq.{take-add}
use Rattle.std.proofs.lemmas.List.Elements.{All-from_get_or}
use Rattle.ring_poly.specs.Laws.{PackedIsReadBack, ReadIsPackedBack, RefusalNamesLeast}
use Rattle.std.proofs.lemmas.Bool.{cases_lt, lt-ltb, le-ltb}

-- ---- one group
-- four numbers of 14 bits, read out of their number
number_low : (a b c d : ℕ) → a < 2 ^ 14 → b < 2 ^ 14 → c < 2 ^ 14 → d < 2 ^ 14 → group_number a b c d % 2 ^ 14 ≡ a
number_low a b c d ha hb hc hd = omega arith

number_second : (a b c d : ℕ) → a < 2 ^ 14 → b < 2 ^ 14 → c < 2 ^ 14 → d < 2 ^ 14 → group_number a b c d / 2 ^ 14 % 2 ^ 14 ≡ b
number_second a b c d ha hb hc hd = omega arith

number_third : (a b c d : ℕ) → a < 2 ^ 14 → b < 2 ^ 14 → c < 2 ^ 14 → d < 2 ^ 14 → group_number a b c d / 2 ^ 28 % 2 ^ 14 ≡ c
number_third a b c d ha hb hc hd = omega arith

number_fourth : (a b c d : ℕ) → a < 2 ^ 14 → b < 2 ^ 14 → c < 2 ^ 14 → d < 2 ^ 14 → group_number a b c d / 2 ^ 42 % 2 ^ 14 ≡ d
number_fourth a b c d ha hb hc hd = omega arith

pub group_of-number : (a b c d : ℕ) → a < 2 ^ 14 → b < 2 ^ 14 → c < 2 ^ 14 → d < 2 ^ 14
    → group_of (group_number a b c d) ≡ a ∷ b ∷ c ∷ d ∷ []
group_of-number a b c d ha hb hc hd =
    rw (
      number_low a b c d ha hb hc hd,
      number_second a b c d ha hb hc hd,
      number_third a b c d ha hb hc hd,
      number_fourth a b c d ha hb hc
          hd,
    ) refl

-- a number of 56 bits is that of its four parts
pub number-group_of : (n : ℕ) → n < 2 ^ 56 → group_number (n % 2 ^ 14) (n / 2 ^ 14 % 2 ^ 14) (n / 2 ^ 28 % 2 ^ 14) (n / 2 ^ 42 % 2 ^ 14) ≡ n
number-group_of n h = omega arith

-- a number of 56 bits is spelled by its seven bytes
pub spelled-bytes : (n : ℕ) → n < 2 ^ 56 → spelled_number (n % 256) (n / 256 ^ 1 % 256) (n / 256 ^ 2 % 256) (n / 256 ^ 3 % 256)
    (n / 256 ^ 4 % 256) (n / 256 ^ 5 % 256) (n / 256 ^ 6 % 256) ≡ n
spelled-bytes n h = omega arith

-- seven bytes, read out of the number that they spell
module _ (a b c d e f g : ℕ) (ha : a < 256) (hb : b < 256) (hc : c < 256) (hd : d < 256) (he : e < 256) (hf : f < 256) (hg : g < 256) where
  byte_0 : spelled_number a b c d e f g % 256 ≡ a
  byte_0 = omega arith

  byte_1 : spelled_number a b c d e f g / 256 ^ 1 % 256 ≡ b
  byte_1 = omega arith

  byte_2 : spelled_number a b c d e f g / 256 ^ 2 % 256 ≡ c
  byte_2 = omega arith

  byte_3 : spelled_number a b c d e f g / 256 ^ 3 % 256 ≡ d
  byte_3 = omega arith

  byte_4 : spelled_number a b c d e f g / 256 ^ 4 % 256 ≡ e
  byte_4 = omega arith

  byte_5 : spelled_number a b c d e f g / 256 ^ 5 % 256 ≡ f
  byte_5 = omega arith

  byte_6 : spelled_number a b c d e f g / 256 ^ 6 % 256 ≡ g
  byte_6 = omega arith

  pub spelled_small : spelled_number a b c d e f g < 2 ^ 56
  spelled_small = omega arith

  pub bytes-spelled : bytes_low_first 0 7 (spelled_number a b c d e f g) ≡ a ∷ b ∷ c ∷ d ∷ e ∷ f ∷ g ∷ []
  bytes-spelled = rw (byte_0, byte_1, byte_2, byte_3, byte_4, byte_5, byte_6) refl

pub group_small : (a b c d : ℕ) → a < 2 ^ 14 → b < 2 ^ 14 → c < 2 ^ 14 → d < 2 ^ 14 → group_number a b c d < 2 ^ 56
group_small a b c d ha hb hc hd = omega arith

-- ---- lists of groups
-- each number of the list is below m
abbrev pub AreBelow : ℕ → List ℕ → Type 0
AreBelow m xs = (k : ℕ) → k < length xs → get_or xs k 0 < m

after_four : (m a b c d : ℕ) (rest : List ℕ) → AreBelow m (a ∷ b ∷ c ∷ d ∷ rest) → AreBelow m rest
after_four m a b c d rest h = λ k l. h (suc (suc (suc (suc k)))) (omega arith)

after_seven : (m a b c d e f g : ℕ) (rest : List ℕ) → AreBelow m (a ∷ b ∷ c ∷ d ∷ e ∷ f ∷ g ∷ rest) → AreBelow m rest
after_seven m a b c d e f g rest h = λ k l. h (suc (suc (suc (suc (suc (suc (suc k))))))) (omega arith)

pub length-packed : (n : ℕ) (cs : List ℕ) → length cs ≡ 4 * n → length (packed cs) ≡ 7 * n
length-packed zero [] l = omega arith
length-packed zero (a ∷ rest) l = absurd (omega arith)
length-packed (suc n) (a ∷ b ∷ c ∷ d ∷ rest) l = let e = length-packed n rest (omega arith) in omega arith
length-packed (suc n) [] l = absurd (omega arith)
length-packed (suc n) (a ∷ []) l = absurd (omega arith)
length-packed (suc n) (a ∷ b ∷ []) l = absurd (omega arith)
length-packed (suc n) (a ∷ b ∷ c ∷ []) l = absurd (omega arith)

pub packed-append : (n : ℕ) (cs ds : List ℕ) → length cs ≡ 4 * n → packed (cs ++ ds) ≡ packed cs ++ packed ds
packed-append zero [] ds l = refl
packed-append zero (a ∷ rest) ds l = absurd (omega arith)
packed-append (suc n) (a ∷ b ∷ c ∷ d ∷ rest) ds l = ap (λ x. bytes_low_first 0 7 (group_number a b c d) ++ x)
    (packed-append n rest ds (omega arith))
packed-append (suc n) [] ds l = absurd (omega arith)
packed-append (suc n) (a ∷ []) ds l = absurd (omega arith)
packed-append (suc n) (a ∷ b ∷ []) ds l = absurd (omega arith)
packed-append (suc n) (a ∷ b ∷ c ∷ []) ds l = absurd (omega arith)

pub length-unpacked : (n : ℕ) (bs : List ℕ) → length bs ≡ 7 * n → length (unpacked bs) ≡ 4 * n
length-unpacked zero [] l = omega arith
length-unpacked zero (a ∷ rest) l = absurd (omega arith)
length-unpacked (suc n) (a ∷ b ∷ c ∷ d ∷ e ∷ f ∷ g ∷ rest) l = let e = length-unpacked n rest (omega arith) in omega arith
length-unpacked (suc n) [] l = absurd (omega arith)
length-unpacked (suc n) (a ∷ []) l = absurd (omega arith)
length-unpacked (suc n) (a ∷ b ∷ []) l = absurd (omega arith)
length-unpacked (suc n) (a ∷ b ∷ c ∷ []) l = absurd (omega arith)
length-unpacked (suc n) (a ∷ b ∷ c ∷ d ∷ []) l = absurd (omega arith)
length-unpacked (suc n) (a ∷ b ∷ c ∷ d ∷ e ∷ []) l = absurd (omega arith)
length-unpacked (suc n) (a ∷ b ∷ c ∷ d ∷ e ∷ f ∷ []) l = absurd (omega arith)

pub unpacked-append : (n : ℕ) (bs ds : List ℕ) → length bs ≡ 7 * n → unpacked (bs ++ ds) ≡ unpacked bs ++ unpacked ds
unpacked-append zero [] ds l = refl
unpacked-append zero (a ∷ rest) ds l = absurd (omega arith)
unpacked-append (suc n) (a ∷ b ∷ c ∷ d ∷ e ∷ f ∷ g ∷ rest) ds l = ap (λ x. group_of (spelled_number a b c d e f g) ++ x)
    (unpacked-append n rest ds (omega arith))
unpacked-append (suc n) [] ds l = absurd (omega arith)
unpacked-append (suc n) (a ∷ []) ds l = absurd (omega arith)
unpacked-append (suc n) (a ∷ b ∷ []) ds l = absurd (omega arith)
unpacked-append (suc n) (a ∷ b ∷ c ∷ []) ds l = absurd (omega arith)
unpacked-append (suc n) (a ∷ b ∷ c ∷ d ∷ []) ds l = absurd (omega arith)
unpacked-append (suc n) (a ∷ b ∷ c ∷ d ∷ e ∷ []) ds l = absurd (omega arith)
unpacked-append (suc n) (a ∷ b ∷ c ∷ d ∷ e ∷ f ∷ []) ds l = absurd (omega arith)

-- what is packed is read back
pub unpacked-packed : (n : ℕ) (cs : List ℕ) → length cs ≡ 4 * n → AreBelow (2 ^ 14) cs → unpacked (packed cs) ≡ cs
unpacked-packed zero [] l h = refl
unpacked-packed zero (a ∷ rest) l h = absurd (omega arith)
unpacked-packed (suc n) (a ∷ b ∷ c ∷ d ∷ rest) l h =
    let ha : a < 2 ^ 14 = h 0 (omega arith) in
    let hb : b < 2 ^ 14 = h 1 (omega arith) in
    let hc : c < 2 ^ 14 = h 2 (omega arith) in
    let hd : d < 2 ^ 14 = h 3 (omega arith) in
    let number = spelled-bytes (group_number a b c d) (group_small a b c d ha hb hc hd) in
    let group = ap group_of number ∙ group_of-number a b c d ha hb hc hd in
    let others = unpacked-packed n rest (omega arith) (after_four (2 ^ 14) a b c d rest h) in
    ap (λ x. x ++ unpacked (packed rest)) group ∙ ap (λ x. a ∷ b ∷ c ∷ d ∷ x) others
unpacked-packed (suc n) [] l h = absurd (omega arith)
unpacked-packed (suc n) (a ∷ []) l h = absurd (omega arith)
unpacked-packed (suc n) (a ∷ b ∷ []) l h = absurd (omega arith)
unpacked-packed (suc n) (a ∷ b ∷ c ∷ []) l h = absurd (omega arith)

-- each spelling is that of what it is read as
pub packed-unpacked : (n : ℕ) (bs : List ℕ) → length bs ≡ 7 * n → AreBelow 256 bs → packed (unpacked bs) ≡ bs
packed-unpacked zero [] l h = refl
packed-unpacked zero (a ∷ rest) l h = absurd (omega arith)
packed-unpacked (suc n) (a ∷ b ∷ c ∷ d ∷ e ∷ f ∷ g ∷ rest) l h =
    let ha : a < 256 = h 0 (omega arith) in
    let hb : b < 256 = h 1 (omega arith) in
    let hc : c < 256 = h 2 (omega arith) in
    let hd : d < 256 = h 3 (omega arith) in
    let he : e < 256 = h 4 (omega arith) in
    let hf : f < 256 = h 5 (omega arith) in
    let hg : g < 256 = h 6 (omega arith) in
    let number = number-group_of (spelled_number a b c d e f g) (spelled_small a b c d e f g ha hb hc hd he hf hg) in
    let bytes = ap (bytes_low_first 0 7) number ∙ bytes-spelled a b c d e f g ha hb hc hd he hf hg in
    let others = packed-unpacked n rest (omega arith) (after_seven 256 a b c d e f g rest h) in
    ap (λ x. x ++ packed (unpacked rest)) bytes ∙ ap (λ x. a ∷ b ∷ c ∷ d ∷ e ∷ f ∷ g ∷ x) others
packed-unpacked (suc n) [] l h = absurd (omega arith)
packed-unpacked (suc n) (a ∷ []) l h = absurd (omega arith)
packed-unpacked (suc n) (a ∷ b ∷ []) l h = absurd (omega arith)
packed-unpacked (suc n) (a ∷ b ∷ c ∷ []) l h = absurd (omega arith)
packed-unpacked (suc n) (a ∷ b ∷ c ∷ d ∷ []) l h = absurd (omega arith)
packed-unpacked (suc n) (a ∷ b ∷ c ∷ d ∷ e ∷ []) l h = absurd (omega arith)
packed-unpacked (suc n) (a ∷ b ∷ c ∷ d ∷ e ∷ f ∷ []) l h = absurd (omega arith)

-- ---- the first that is too large
pub none_too_large : (p : ℕ) (cs : List ℕ) → AreBelow 12289 cs → first_too_large p cs ≡ None
none_too_large p [] h = refl
none_too_large p (c ∷ rest) h =
    let here : c < 12289 = h 0 (omega arith) in
    rw (lt-ltb c 12289 here) (none_too_large (p + 1) rest (λ k l. h (suc k) (omega arith)))

head_and_tail : (c : ℕ) (rest : List ℕ) → c < 12289 → AreBelow 12289 rest → AreBelow 12289 (c ∷ rest)
head_and_tail c rest h t zero l = h
head_and_tail c rest h t (suc k) l = t k (omega arith)

pub none_from : (p : ℕ) (cs : List ℕ) → first_too_large p cs ≡ None → AreBelow 12289 cs
none_from p [] e = λ k l. absurd (omega arith)
none_from p (c ∷ rest) e = ⊎_elim
    (λ (h : c < 12289).
    let tail = none_from (p + 1) rest (rw (lt-ltb c 12289 h) at e) in
    head_and_tail c rest h tail)
    (λ (h : 12289 ≤ c). let f = rw (le-ltb c 12289 h) at e in cc)
    (cases_lt c 12289)

-- none is too large exactly where all are below the modulus
pub all_from_none : (cs : List ℕ) → first_too_large 0 cs ≡ None → All (λ c. c < 12289) cs
all_from_none cs e = All-from_get_or (λ c. c < 12289) cs 0 (none_from 0 cs e)

pub none_from_all : (cs : List ℕ) → All (λ c. c < 12289) cs → first_too_large 0 cs ≡ None
none_from_all cs all = none_too_large 0 cs (λ k lt. all k 0 lt)

-- the numbers below place i are small, and the one at i is not
pub first_at : (i p : ℕ) (cs : List ℕ) → i < length cs → ((k : ℕ) → k < i → get_or cs k 0 < 12289) → 12289 ≤ get_or cs i 0
    → first_too_large p cs ≡ Some (record { place = p + i; value = get_or cs i 0 })
first_at i p [] l h big = absurd (omega arith)
first_at zero p (c ∷ rest) l h big =
    let e : p + 0 ≡ p = omega arith in
    rw (le-ltb c 12289 big, e) refl
first_at (suc i) p (c ∷ rest) l h big =
    let here : c < 12289 = h 0 (omega arith) in
    let e : p + 1 + i ≡ p + suc i = omega arith in
    rw (lt-ltb c 12289 here, ← e) (first_at i (p + 1) rest (omega arith) (λ k m. h (suc k) (omega arith)) big)

-- ---- the laws
pub read_packed-packed : (n : ℕ) (cs : List ℕ) → length cs ≡ 4 * n → AreBelow 12289 cs → read_packed (packed cs) ≡ Ok cs
read_packed-packed n cs l h =
    let back = unpacked-packed n cs l (λ k m. let x = h k m in omega arith) in
    rw (back, none_too_large 0 cs h) refl

read_ok : (cs f : List ℕ) (o : Option CoefficientTooLarge) → unless_too_large cs o ≡ Ok f → (o ≡ None) × (cs ≡ f)
read_ok cs f None e = (refl, let x = e in cc)
read_ok cs f (Some r) e = cc

pub packed_from_read : (n : ℕ) (bs f : List ℕ) → length bs ≡ 7 * n → AreBelow 256 bs → read_packed bs ≡ Ok f → (packed f ≡ bs)
    × (length f ≡ 4 * n) × AreBelow 12289 f
packed_from_read n bs f l h e =
    let r = read_ok (unpacked bs) f (first_too_large 0 (unpacked bs)) e in
    let small = none_from 0 (unpacked bs) r.0 in
    let same = r.1 in
    (ap packed (sym same) ∙ packed-unpacked n bs l h, ap length (sym same) ∙ length-unpacked n bs l, subst (AreBelow 12289) same small)

-- ---- one group more
next_group : (f : List ℕ → List ℕ) (m n : ℕ) → ((i : ℕ) (cs ds : List ℕ) → length cs ≡ m * i → f (cs ++ ds) ≡ f cs ++ f ds) →
    (g : ℕ) (from to part : List ℕ) → m * g + m ≤ length from → n * g + n ≤ length to → length part ≡ n →
    take (n * g) to ≡ f (take (m * g) from) → part ≡ f (take (m * g + m - m * g) (drop (m * g) from)) →
    take (n * (g + 1)) (put_mid (n * g) (n * g + n - n * g) to part) ≡ f (take (m * (g + 1)) from)
next_group f m n joins g from to part room_from room_to size before now =
    let a : n * (g + 1) ≡ n * g + n = omega arith in
    let b : m * (g + 1) ≡ m * g + m = omega arith in
    let k : m * g + m - m * g ≡ m = omega arith in
    let whole : n * (g + 1) ≡ n * g + length part = omega arith in
    let next = rw k at now in
    let front : length (take (m * g) from) ≡ m * g = length-take-le (m * g) from (omega arith) in
    take-put_mid (n * g) (n * g + n - n * g) to part (n * (g + 1)) whole (omega arith)
    ∙ ap (λ x. x ++ part) before
    ∙ ap (λ x. f (take (m * g) from) ++ x) next
    ∙ sym (ap f (ap (λ x. take x from) b ∙ take-add (m * g) m from) ∙ joins g (take (m * g) from) (take m (drop (m * g) from)) front)

pub pack_next : (g : ℕ) (from to part : List ℕ) → 4 * g + 4 ≤ length from → 7 * g + 7 ≤ length to → length part ≡ 7 →
    take (7 * g) to ≡ packed (take (4 * g) from) → part ≡ packed (take (4 * g + 4 - 4 * g) (drop (4 * g) from)) →
    take (7 * (g + 1)) (put_mid (7 * g) (7 * g + 7 - 7 * g) to part) ≡ packed (take (4 * (g + 1)) from)
pack_next = next_group packed 4 7 packed-append

pub unpack_next : (g : ℕ) (from to part : List ℕ) → 7 * g + 7 ≤ length from → 4 * g + 4 ≤ length to → length part ≡ 4 →
    take (4 * g) to ≡ unpacked (take (7 * g) from) → part ≡ unpacked (take (7 * g + 7 - 7 * g) (drop (7 * g) from)) →
    take (4 * (g + 1)) (put_mid (4 * g) (4 * g + 4 - 4 * g) to part) ≡ unpacked (take (7 * (g + 1)) from)
unpack_next = next_group unpacked 7 4 unpacked-append

-- ---- lists of four and of seven
pub four_set : (xs : List ℕ) (a b c d : ℕ) → length xs ≡ 4 → set (set (set (set xs 0 a) 1 b) 2 c) 3 d ≡ a ∷ b ∷ c ∷ d ∷ []
four_set (x ∷ y ∷ z ∷ w ∷ []) a b c d l = refl
four_set [] a b c d l = absurd (omega arith)
four_set (x ∷ []) a b c d l = absurd (omega arith)
four_set (x ∷ y ∷ []) a b c d l = absurd (omega arith)
four_set (x ∷ y ∷ z ∷ []) a b c d l = absurd (omega arith)
four_set (x ∷ y ∷ z ∷ w ∷ v ∷ rest) a b c d l = absurd (omega arith)

pub seven_unpacked : (xs : List ℕ) → length xs ≡ 7 → unpacked xs ≡ group_of
    (spelled_number (get_or xs 0 0) (get_or xs 1 0) (get_or xs 2 0) (get_or xs 3 0) (get_or xs 4 0) (get_or xs 5 0) (get_or xs 6 0))
seven_unpacked (a ∷ b ∷ c ∷ d ∷ e ∷ f ∷ g ∷ []) l = refl
seven_unpacked (a ∷ b ∷ c ∷ d ∷ e ∷ f ∷ g ∷ h ∷ rest) l = absurd (omega arith)
seven_unpacked [] l = absurd (omega arith)
seven_unpacked (a ∷ []) l = absurd (omega arith)
seven_unpacked (a ∷ b ∷ []) l = absurd (omega arith)
seven_unpacked (a ∷ b ∷ c ∷ []) l = absurd (omega arith)
seven_unpacked (a ∷ b ∷ c ∷ d ∷ []) l = absurd (omega arith)
seven_unpacked (a ∷ b ∷ c ∷ d ∷ e ∷ []) l = absurd (omega arith)
seven_unpacked (a ∷ b ∷ c ∷ d ∷ e ∷ f ∷ []) l = absurd (omega arith)

pub packed_is_read_back : PackedIsReadBack
packed_is_read_back n f l all =
    (length-packed n f l, read_packed-packed n f l (λ k h. all k 0 h))

pub read_is_packed_back : ReadIsPackedBack
read_is_packed_back n bytes f l all e =
    let r = packed_from_read n bytes f l (λ k h. all k 0 h) e in
    (r.1, All-from_get_or (λ c. c < 12289) f 0 r.2, r.0)

-- what the first that is too large is
record FirstAt (p : ℕ) (cs : List ℕ) (e : CoefficientTooLarge) : Type 0 where
  i : ℕ
  place : e.place ≡ p + i
  inside : i < length cs
  value : get_or cs i 0 ≡ e.value
  large : 12289 ≤ e.value
  least : (k : ℕ) → k < i → get_or cs k 0 < 12289

small_before : (c : ℕ) (rest : List ℕ) (i : ℕ) → c < 12289 → ((k : ℕ) → k < i → get_or rest k 0 < 12289) → (k : ℕ) → k < suc i
    → get_or (c ∷ rest) k 0 < 12289
small_before c rest i h t zero l = h
small_before c rest i h t (suc k) l = t k (omega arith)

first_from : (p : ℕ) (cs : List ℕ) (e : CoefficientTooLarge) → first_too_large p cs ≡ Some e → FirstAt p cs e
first_from p [] e h = cc
first_from p (c ∷ rest) e h = ⊎_elim
    (λ (l : c < 12289).
    let r = first_from (p + 1) rest e (rw (lt-ltb c 12289 l) at h) in
    record {
      i = suc r.i;
      place = omega (arith, r.place);
      inside = omega (arith, r.inside);
      value = r.value;
      large = r.large;
      least = small_before c rest r.i l r.least;
    })
    (λ (l : 12289 ≤ c).
    let f = rw (le-ltb c 12289 l) at h in
    let same : record { place = p; value = c } ≡ e = cc in
    let at_place : p ≡ e.place = ap (λ (x : CoefficientTooLarge). x.place) same in
    let at_value : c ≡ e.value = ap (λ (x : CoefficientTooLarge). x.value) same in
    record {
      i = zero;
      place = omega arith;
      inside = omega arith;
      value = at_value;
      large = omega arith;
      least = λ k m. absurd (omega arith);
    })
    (cases_lt c 12289)

read_err : (cs : List ℕ) (o : Option CoefficientTooLarge) (e : CoefficientTooLarge) → unless_too_large cs o ≡ Err e → o ≡ Some e
read_err cs None e h = cc
read_err cs (Some r) e h = let x = h in cc

pub refusal_names_least : RefusalNamesLeast
refusal_names_least bytes e =
    let cs = unpacked bytes in (
      λ h.
          let r = first_from 0 cs e (read_err cs (first_too_large 0 cs) e h) in
          let same : e.place ≡ r.i = omega (arith, r.place) in
          rw same (r.inside, r.value, r.large, r.least),
      λ h.
          let zero_and : 0 + e.place ≡ e.place = omega arith in
          let large : 12289 ≤ get_or cs e.place 0 = rw h.1 h.2 in
          let found = rw (zero_and, h.1) at (first_at e.place 0 cs h.0 h.3 large) in
          ap (unless_too_large cs) found,
    )
