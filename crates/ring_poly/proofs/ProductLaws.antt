-- The laws of products.
use Rattle.std.proofs.Common.{◌≡◌, ℕ, ◌<◌, ◌≤◌, List, length, get_or, map, refl, sym, ap, arith, ◌∙◌, ℤ, pos, ◌+ℤ◌, ◌-ℤ◌, unsigned_abs, All, ⊎_elim, ◌⊎◌}
use Rattle.std.proofs.lemmas.Int.{ints}
use Rattle.std.proofs.lemmas.List.{get_or_past, length-map}
use Rattle.std.proofs.lemmas.Bool.{cases_lt}
use Rattle.ring_poly.specs.Residue.{residue}
use Rattle.ring_poly.specs.Product.{coefficient, product_at, product_of, sum_of, signed_sum, IsTernary}
use Rattle.ring_poly.specs.Laws.{ProductAddsInFirst, ProductAddsInSecond, FactorsCommute, ProductIsSmall, MaskCancels}
use Rattle.ring_poly.proofs.Places.{length-by_place, get_or-by_place, by_place_is}
use Rattle.ring_poly.proofs.Integers.{abs-add, abs-sub}
use Rattle.ring_poly.proofs.Residues.{residue_masked, residue_near_zero, residue_near_half, residue_same, congruent_residue, congruent_refl, congruent-add, congruent-sub}
use Rattle.ring_poly.proofs.Products.{coefficient-pos, get_or-residues, length-product_of, get_or-product_of, length-sum_of, get_or-sum_of, IsSum, AreCongruent, product_at-sum_left, product_at-sum_right, products, length-products, coefficient-products, products_comm, IsBounded, product_at_size, product_at_congruent}

-- ---- sums over the integers
pub length-signed_sum : (f g : List ℤ) → length (signed_sum f g) ≡ 1024
unfolding signed_sum
length-signed_sum f g = length-by_place (λ k. coefficient f k +ℤ coefficient g k)

pub signed_sum_is : (f g : List ℤ) → length f ≤ 1024 → length g ≤ 1024 → IsSum (signed_sum f g) f g
unfolding signed_sum
signed_sum_is f g a b m = ⊎_elim
    (λ (h : m < 1024). get_or-by_place (λ k. coefficient f k +ℤ coefficient g k) m (pos 0) h)
    (λ (h : 1024 ≤ m).
    let e = length-signed_sum f g in
    let x = get_or_past (signed_sum f g) m (pos 0) (omega arith) in
    let y = get_or_past f m (pos 0) (omega arith) in
    let z = get_or_past g m (pos 0) (omega arith) in
    omega (arith, ints))
    (cases_lt m 1024)

-- ---- a list modulo 12289 and one over the integers
-- f, of 1,024 numbers, has the residues of F
pub congruent_by_place : (f : List ℕ) (F : List ℤ) → length f ≡ 1024 → length F ≤ 1024
    → ((k : ℕ) → k < 1024 → get_or f k 0 ≡ residue (coefficient F k)) → AreCongruent (map pos f) F
congruent_by_place f F a b same m = ⊎_elim
    (λ (h : m < 1024).
    let e = coefficient-pos f m ∙ ap pos (same m h) in
    rw e (congruent_residue (coefficient F m)))
    (λ (h : 1024 ≤ m).
    let x = coefficient-pos f m ∙ ap pos (get_or_past f m 0 (omega arith)) in
    let y = get_or_past F m (pos 0) (omega arith) in
    rw (x, y) (congruent_refl (pos 0)))
    (cases_lt m 1024)

-- the residue of a sum is that of the sum of the residues
pub residue-add : (a b : ℤ) → residue (pos (residue a) +ℤ pos (residue b)) ≡ residue (a +ℤ b)
residue-add a b = residue_same (pos (residue a) +ℤ pos (residue b)) (a +ℤ b)
    (congruent-add (pos (residue a)) a (pos (residue b)) b (congruent_residue a) (congruent_residue b))

pub residue-sub : (a b : ℤ) → residue (pos (residue a) -ℤ pos (residue b)) ≡ residue (a -ℤ b)
residue-sub a b = residue_same (pos (residue a) -ℤ pos (residue b)) (a -ℤ b)
    (congruent-sub (pos (residue a)) a (pos (residue b)) b (congruent_residue a) (congruent_residue b))

-- a product depends on the residues alone
pub get_or-Product_of : (f : List ℕ) (F : List ℤ) (t : List ℤ) → AreCongruent (map pos f) F → (k : ℕ) → k < 1024
    → get_or (product_of f t) k 0 ≡ residue (product_at F t k)
get_or-Product_of f F t c k h = get_or-product_of f t k h ∙ residue_same (product_at (map pos f) t k) (product_at F t k)
    (product_at_congruent (map pos f) F t c k)

length-pos : (f : List ℕ) → length f ≡ 1024 → length (map pos f) ≤ 1024
length-pos f e = omega (arith, length-map f pos)

Product_congruent : (f : List ℕ) (s : List ℤ) → AreCongruent (map pos (product_of f s)) (products (map pos f) s)
Product_congruent f s = congruent_by_place (product_of f s) (products (map pos f) s) (length-product_of f s)
    (omega (arith, length-products (map pos f) s)) (λ k h.
    get_or-product_of f s k h ∙ ap residue (sym (coefficient-products (map pos f) s k h)))

same_by_place : (f g : List ℕ) → length f ≡ 1024 → length g ≡ 1024 → ((k : ℕ) → k < 1024 → get_or f k 0 ≡ get_or g k 0) → f ≡ g
same_by_place f g a b same = by_place_is (λ k. get_or g k 0) f 0 a same ∙ sym (by_place_is (λ k. get_or g k 0) g 0 b (λ k h. refl))

pub product_adds_in_first : ProductAddsInFirst
product_adds_in_first f g t a b =
    let F = map pos f in
    let G = map pos g in
    let H = signed_sum F G in
    let is = signed_sum_is F G (length-pos f a) (length-pos g b) in
    let c = congruent_by_place (sum_of f g) H (length-sum_of f g) (omega (arith, length-signed_sum F G)) (λ k h.
    let x = coefficient-pos f k in
    let y = coefficient-pos g k in
    let z = is k in
    let same : pos (get_or f k 0) +ℤ pos (get_or g k 0) ≡ coefficient H k = cc in
    get_or-sum_of f g k h ∙ ap residue same) in
    same_by_place (product_of (sum_of f g) t) (sum_of (product_of f t) (product_of g t)) (length-product_of (sum_of f g) t)
    (length-sum_of (product_of f t) (product_of g t)) (λ k h.
    get_or-Product_of (sum_of f g) H t c k h
    ∙ ap residue (product_at-sum_left H F G t is k)
    ∙ sym (get_or-sum_of (product_of f t) (product_of g t) k h
    ∙ (let x = get_or-product_of f t k h in let y = get_or-product_of g t k h in rw (x, y)
    (residue-add (product_at F t k) (product_at G t k)))))

pub product_adds_in_second : ProductAddsInSecond
product_adds_in_second f s t a b =
    let F = map pos f in
    same_by_place (product_of f (signed_sum s t)) (sum_of (product_of f s) (product_of f t)) (length-product_of f (signed_sum s t))
    (length-sum_of (product_of f s) (product_of f t)) (λ k h.
    get_or-product_of f (signed_sum s t) k h
    ∙ ap residue (product_at-sum_right (signed_sum s t) s t F (signed_sum_is s t (omega arith) (omega arith)) k)
    ∙ sym (get_or-sum_of (product_of f s) (product_of f t) k h
    ∙ (let x = get_or-product_of f s k h in let y = get_or-product_of f t k h in rw (x, y)
    (residue-add (product_at F s k) (product_at F t k)))))

pub factors_commute : FactorsCommute
factors_commute f s t a b c =
    let F = map pos f in
    same_by_place (product_of (product_of f s) t) (product_of (product_of f t) s) (length-product_of (product_of f s) t)
    (length-product_of (product_of f t) s) (λ k h.
    get_or-Product_of (product_of f s) (products F s) t (Product_congruent f s) k h
    ∙ ap residue (products_comm F s t (length-pos f a) (omega arith) (omega arith) k h)
    ∙ sym (get_or-Product_of (product_of f t) (products F t) s (Product_congruent f t) k h))

bounded : (m : ℕ) (f : List ℤ) → All (λ c. unsigned_abs c ≤ m) f → IsBounded m f
bounded m f all k = ⊎_elim
    (λ (h : k < length f). all k (pos 0) h)
    (λ (h : length f ≤ k). rw (get_or_past f k (pos 0) h) (omega arith))
    (cases_lt k (length f))

pub product_is_small : ProductIsSmall
product_is_small f t m k a all ternary h =
    product_at_size f t m (omega arith) (omega (arith, ternary.length)) (bounded m f all) (bounded 1 t ternary.trits) k h

-- b = a s + e, times r: the product over the integers that it is congruent to
masked : (a : List ℕ) (s r e : List ℤ) → length a ≡ 1024 → length s ≡ 1024 → length e ≡ 1024 → (k : ℕ) → k < 1024
    → get_or (product_of (sum_of (product_of a s) (map residue e)) r) k 0 ≡ residue
    (product_at (products (map pos a) s) r k +ℤ product_at e r k)
masked a s r e la ls le k h =
    let P = products (map pos a) s in
    let H = signed_sum P e in
    let b = sum_of (product_of a s) (map residue e) in
    let is = signed_sum_is P e (omega (arith, length-products (map pos a) s)) (omega arith) in
    let c = congruent_by_place b H (length-sum_of (product_of a s) (map residue e)) (omega (arith, length-signed_sum P e)) (λ j l.
    get_or-sum_of (product_of a s) (map residue e) j l
    ∙ (let x = get_or-product_of a s j l in let y = get_or-residues e j in rw (x, y)
    (residue-add (product_at (map pos a) s j) (coefficient e j)))
    ∙ ap residue (ap (λ z. z +ℤ coefficient e j) (sym (coefficient-products (map pos a) s j l)) ∙ sym (is j))) in
    get_or-Product_of b H r c k h ∙ ap residue (product_at-sum_left H P e r is k)

pub mask_cancels : MaskCancels
mask_cancels a s r e d k la ls lr le ld h =
    let x = masked a s r e la ls le k h in
    let y = masked a r s d la lr ld k h in
    let p = product_at (products (map pos a) s) r k in
    let q = product_at (products (map pos a) r) s k in
    let same : p ≡ q = products_comm (map pos a) s r (length-pos a la) (omega arith) (omega arith) k h in
    let left : (p +ℤ product_at e r k) -ℤ (q +ℤ product_at d s k) ≡ product_at e r k -ℤ product_at d s k = omega (arith, ints) in
    rw (x, y) (residue-sub (p +ℤ product_at e r k) (q +ℤ product_at d s k) ∙ ap residue left)

-- ---- what is left when a mask cancels, for ternary secrets and errors
-- place k of b r and of u s, for b = a s + e and u = a r + d
module _ (a : List ℕ) (s r e d : List ℤ) (k : ℕ) (z : ℤ) (long : length a ≡ 1024) (ts : IsTernary s) (tr : IsTernary r) (te : IsTernary e)
    (td : IsTernary d) (tz : unsigned_abs z ≤ 1) (inside : k < 1024) where
  -- e r - d s + z
  pub noise_size : unsigned_abs ((product_at e r k -ℤ product_at d s k) +ℤ z) ≤ 2049
  noise_size =
      let x = product_is_small e r 1 k te.length te.trits tr inside in
      let y = product_is_small d s 1 k td.length td.trits ts inside in
      let both = abs-sub (product_at e r k) (product_at d s k) 1024 1024 (omega arith) (omega arith) in
      abs-add (product_at e r k -ℤ product_at d s k) z 2048 1 (omega arith) tz

  unmasked : (h : ℤ) →
      let x = get_or (product_of (sum_of (product_of a s) (map residue e)) r) k 0 in
      let y = get_or (product_of (sum_of (product_of a r) (map residue d)) s) k 0 in
      residue (pos (residue (pos x +ℤ (z +ℤ h))) -ℤ pos y) ≡ residue (((product_at e r k -ℤ product_at d s k) +ℤ z) +ℤ h)
  unmasked h =
      let x = get_or (product_of (sum_of (product_of a s) (map residue e)) r) k 0 in
      let y = get_or (product_of (sum_of (product_of a r) (map residue d)) s) k 0 in
      let p = product_at e r k -ℤ product_at d s k in
      let turn : p +ℤ (z +ℤ h) ≡ (p +ℤ z) +ℤ h = omega (arith, ints) in
      residue_masked x y (z +ℤ h) p (mask_cancels a s r e d k long ts.length tr.length te.length td.length inside) ∙ ap residue turn

  -- where z alone was added
  pub opens_to_zero :
      let x = get_or (product_of (sum_of (product_of a s) (map residue e)) r) k 0 in
      let y = get_or (product_of (sum_of (product_of a r) (map residue d)) s) k 0 in
      let w = residue (pos (residue (pos x +ℤ z)) -ℤ pos y) in
      (w ≤ 2049) ⊎ (10240 ≤ w)
  opens_to_zero =
      let p = product_at e r k -ℤ product_at d s k in
      let x = get_or (product_of (sum_of (product_of a s) (map residue e)) r) k 0 in
      let y = get_or (product_of (sum_of (product_of a r) (map residue d)) s) k 0 in
      let same = residue_masked x y z p (mask_cancels a s r e d k long ts.length tr.length te.length td.length inside) in
      rw same (residue_near_zero (p +ℤ z) noise_size)

  -- where z and 6144 were added
  pub opens_to_one :
      let x = get_or (product_of (sum_of (product_of a s) (map residue e)) r) k 0 in
      let y = get_or (product_of (sum_of (product_of a r) (map residue d)) s) k 0 in
      let w = residue (pos (residue (pos x +ℤ (z +ℤ pos 6144))) -ℤ pos y) in
      (4095 ≤ w) × (w ≤ 8193)
  opens_to_one = rw (unmasked (pos 6144)) (residue_near_half ((product_at e r k -ℤ product_at d s k) +ℤ z) noise_size)
