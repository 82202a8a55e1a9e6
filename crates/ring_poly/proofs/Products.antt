-- Products over the integers and modulo 12289.
use Rattle.std.proofs.Common.{◌≡◌, ℕ, zero, suc, ◌+◌, ◌-◌, ◌*◌, ◌/◌, ◌%◌, ◌<◌, ◌≤◌, List, [], ◌∷◌, length, get_or, map, refl, sym, ap, arith, ◌∙◌, ℤ, pos, ◌+ℤ◌, ◌-ℤ◌, neg_ℤ, unsigned_abs}
use Rattle.std.proofs.Math.IntN.{◌*ℤ◌, *ℤ_comm}
use Rattle.std.proofs.lemmas.Int.{ints, unsigned_abs-mul}
use Rattle.std.proofs.lemmas.Bool.{cases_lt}
use Rattle.std.proofs.lemmas.Nat.{mul-le}
use Rattle.std.proofs.Common.{⊎_elim}
use Rattle.ring_poly.specs.Residue.{residue}
use Rattle.ring_poly.specs.Product.{by_place, coefficient, convolution, product_at, turned, product_of, sum_of, difference_of}
use Rattle.ring_poly.proofs.Integers.{add-mul, abs-neg}
use Rattle.ring_poly.proofs.Residues.{Congruent, congruent-sub, congruent-mul}
use Rattle.ring_poly.proofs.Places.{length-by_place, get_or-by_place}
use Rattle.ring_poly.proofs.Sums.{total_same, total-add, total_size, total_congruent}
use Rattle.ring_poly.proofs.Turns.{turned-front, turned-back, product_at_turned, alternate, extended, Turns, spread, spread-turn, spread_comm, extended-turn, product_at_spread}

-- ---- places
pub coefficient-pos : (f : List ℕ) (k : ℕ) → coefficient (map pos f) k ≡ pos (get_or f k 0)
coefficient-pos [] k = refl
coefficient-pos (x ∷ xs) zero = refl
coefficient-pos (x ∷ xs) (suc k) = coefficient-pos xs k

pub get_or-residues : (e : List ℤ) (k : ℕ) → get_or (map residue e) k 0 ≡ residue (coefficient e k)
get_or-residues [] k = refl
get_or-residues (x ∷ xs) zero = refl
get_or-residues (x ∷ xs) (suc k) = get_or-residues xs k

pub length-product_of : (f : List ℕ) (g : List ℤ) → length (product_of f g) ≡ 1024
unfolding product_of
length-product_of f g = length-by_place (λ k. residue (product_at (map pos f) g k))

pub get_or-product_of : (f : List ℕ) (g : List ℤ) (k : ℕ) → k < 1024 → get_or (product_of f g) k 0 ≡ residue (product_at (map pos f) g k)
unfolding product_of
get_or-product_of f g k h = get_or-by_place (λ k. residue (product_at (map pos f) g k)) k 0 h

pub length-sum_of : (f g : List ℕ) → length (sum_of f g) ≡ 1024
unfolding sum_of
length-sum_of f g = length-by_place (λ k. residue (pos (get_or f k 0) +ℤ pos (get_or g k 0)))

pub get_or-sum_of : (f g : List ℕ) (k : ℕ) → k < 1024 → get_or (sum_of f g) k 0 ≡ residue (pos (get_or f k 0) +ℤ pos (get_or g k 0))
unfolding sum_of
get_or-sum_of f g k h = get_or-by_place (λ k. residue (pos (get_or f k 0) +ℤ pos (get_or g k 0))) k 0 h

pub length-difference_of : (f g : List ℕ) → length (difference_of f g) ≡ 1024
unfolding difference_of
length-difference_of f g = length-by_place (λ k. residue (pos (get_or f k 0) -ℤ pos (get_or g k 0)))

pub get_or-difference_of : (f g : List ℕ) (k : ℕ) → k < 1024 → get_or (difference_of f g) k 0 ≡ residue
    (pos (get_or f k 0) -ℤ pos (get_or g k 0))
unfolding difference_of
get_or-difference_of f g k h = get_or-by_place (λ k. residue (pos (get_or f k 0) -ℤ pos (get_or g k 0))) k 0 h

-- ---- products over the integers
-- h has at each place the sum of f and g
abbrev pub IsSum : List ℤ → List ℤ → List ℤ → Type 0
IsSum h f g = (m : ℕ) → coefficient h m ≡ coefficient f m +ℤ coefficient g m

convolution-sum_left : (h f g r : List ℤ) → IsSum h f g → (s : ℕ) → convolution h r s ≡ convolution f r s +ℤ convolution g r s
convolution-sum_left h f g r is s =
    total_same (s + 1) (λ i. coefficient h (s - i) *ℤ coefficient r i)
    (λ i. coefficient f (s - i) *ℤ coefficient r i +ℤ coefficient g (s - i) *ℤ coefficient r i) (λ i l.
    ap (λ x. x *ℤ coefficient r i) (is (s - i)) ∙ add-mul (coefficient f (s - i)) (coefficient g (s - i)) (coefficient r i))
    ∙ total-add (s + 1) (λ i. coefficient f (s - i) *ℤ coefficient r i) (λ i. coefficient g (s - i) *ℤ coefficient r i)

pub product_at-sum_left : (h f g r : List ℤ) → IsSum h f g → (k : ℕ) → product_at h r k ≡ product_at f r k +ℤ product_at g r k
product_at-sum_left h f g r is k =
    let front = convolution-sum_left h f g r is k in
    let back = convolution-sum_left h f g r is (k + 1024) in
    omega (arith, ints)

mul-add : (a b c : ℤ) → a *ℤ (b +ℤ c) ≡ a *ℤ b +ℤ a *ℤ c
mul-add a b c =
    let e = add-mul b c a in
    let p = *ℤ_comm a (b +ℤ c) in
    let q = *ℤ_comm a b in
    let r = *ℤ_comm a c in
    cc

convolution-sum_right : (h f g r : List ℤ) → IsSum h f g → (s : ℕ) → convolution r h s ≡ convolution r f s +ℤ convolution r g s
convolution-sum_right h f g r is s =
    total_same (s + 1) (λ i. coefficient r (s - i) *ℤ coefficient h i)
    (λ i. coefficient r (s - i) *ℤ coefficient f i +ℤ coefficient r (s - i) *ℤ coefficient g i) (λ i l.
    ap (λ x. coefficient r (s - i) *ℤ x) (is i) ∙ mul-add (coefficient r (s - i)) (coefficient f i) (coefficient g i))
    ∙ total-add (s + 1) (λ i. coefficient r (s - i) *ℤ coefficient f i) (λ i. coefficient r (s - i) *ℤ coefficient g i)

pub product_at-sum_right : (h f g r : List ℤ) → IsSum h f g → (k : ℕ) → product_at r h k ≡ product_at r f k +ℤ product_at r g k
product_at-sum_right h f g r is k =
    let front = convolution-sum_right h f g r is k in
    let back = convolution-sum_right h f g r is (k + 1024) in
    omega (arith, ints)

-- the product as a list
unfoldable pub products : List ℤ → List ℤ → List ℤ
products f g = by_place (product_at f g)

pub length-products : (f g : List ℤ) → length (products f g) ≡ 1024
unfolding products
length-products f g = length-by_place (product_at f g)

pub coefficient-products : (f g : List ℤ) (k : ℕ) → k < 1024 → coefficient (products f g) k ≡ product_at f g k
unfolding products
coefficient-products f g k h = get_or-by_place (product_at f g) k (pos 0) h

turned_often : (G : ℕ → ℤ) → Turns G → (q r : ℕ) → G (q * 1024 + r) ≡ alternate q (G r)
unfolding alternate
turned_often G t zero r = ap G (let e : 0 * 1024 + r ≡ r = omega arith in e)
turned_often G t (suc q) r =
    let e : suc q * 1024 + r ≡ q * 1024 + r + 1024 = omega arith in
    ap G e ∙ t (q * 1024 + r) ∙ ap neg_ℤ (turned_often G t q r)

-- what turns is the extension of its first 1,024 places
extended_is : (p : List ℤ) (G : ℕ → ℤ) → Turns G → ((k : ℕ) → k < 1024 → coefficient p k ≡ G k) → (m : ℕ) → extended p m ≡ G m
unfolding extended
extended_is p G t same m =
    let e : m / 1024 * 1024 + m % 1024 ≡ m = omega arith in
    ap (alternate (m / 1024)) (same (m % 1024) (omega arith)) ∙ sym (turned_often G t (m / 1024) (m % 1024)) ∙ ap G e

product_twice : (f s r : List ℤ) → length f ≤ 1024 → length s ≤ 1024 → length r ≤ 1024 → (k : ℕ) → k < 1024
    → product_at (products f s) r k ≡ spread (spread (extended f) s) r k
unfolding spread
product_twice f s r a b c k h =
    let P = products f s in
    let G = spread (extended f) s in
    let is = extended_is P G (spread-turn (extended f) s (extended-turn f))
    (λ j l. coefficient-products f s j l ∙ product_at_spread f s a b j l) in
    product_at_spread P r (omega (arith, length-products f s)) c k h
    ∙ total_same 1024 (λ j. extended P (k + 2048 - j) *ℤ coefficient r j) (λ j. G (k + 2048 - j) *ℤ coefficient r j) (λ j l.
    ap (λ x. x *ℤ coefficient r j) (is (k + 2048 - j)))

-- f times s and then r is f times r and then s
pub products_comm : (f s r : List ℤ) → length f ≤ 1024 → length s ≤ 1024 → length r ≤ 1024 → (k : ℕ) → k < 1024
    → product_at (products f s) r k ≡ product_at (products f r) s k
products_comm f s r a b c k h =
    product_twice f s r a b c k h ∙ spread_comm (extended f) s r k ∙ sym (product_twice f r s a c b k h)

-- ---- sizes
-- each coefficient is at most m in size
abbrev pub IsBounded : ℕ → List ℤ → Type 0
IsBounded m f = (k : ℕ) → unsigned_abs (coefficient f k) ≤ m

pub product_at_size : (f g : List ℤ) (m : ℕ) → length f ≤ 1024 → length g ≤ 1024 → IsBounded m f → IsBounded 1 g → (k : ℕ) → k < 1024
    → unsigned_abs (product_at f g k) ≤ 1024 * m
product_at_size f g m a b small trit k h =
    let turned_small : (i : ℕ) → unsigned_abs (turned f i k) ≤ m = λ i. ⊎_elim
    (λ (o : k < i). rw (turned-back f i k o, abs-neg (coefficient f (k + 1024 - i))) (small (k + 1024 - i)))
    (λ (o : i ≤ k). rw (turned-front f i k o) (small (k - i)))
    (cases_lt k i) in
    rw (product_at_turned f g a b k h) (total_size 1024 m (λ i. turned f i k *ℤ coefficient g i) (λ i l.
    rw (unsigned_abs-mul (turned f i k) (coefficient g i)) (
    let one : m * 1 ≡ m = omega arith in
    rw (← one) (mul-le (unsigned_abs (turned f i k)) (unsigned_abs (coefficient g i)) m 1 (turned_small i) (trit i)))))

-- ---- modulo 12289
-- the coefficients of f and g differ by multiples of 12289
abbrev pub AreCongruent : List ℤ → List ℤ → Type 0
AreCongruent f g = (m : ℕ) → Congruent (coefficient f m) (coefficient g m)

convolution_congruent : (f g r : List ℤ) → AreCongruent f g → (s : ℕ) → Congruent (convolution f r s) (convolution g r s)
convolution_congruent f g r c s =
    total_congruent (s + 1) (λ i. coefficient f (s - i) *ℤ coefficient r i) (λ i. coefficient g (s - i) *ℤ coefficient r i) (λ i l.
    congruent-mul (coefficient f (s - i)) (coefficient g (s - i)) (coefficient r i) (c (s - i)))

pub product_at_congruent : (f g r : List ℤ) → AreCongruent f g → (k : ℕ) → Congruent (product_at f r k) (product_at g r k)
product_at_congruent f g r c k =
    congruent-sub (convolution f r k) (convolution g r k) (convolution f r (k + 1024)) (convolution g r (k + 1024))
    (convolution_congruent f g r c k) (convolution_congruent f g r c (k + 1024))
