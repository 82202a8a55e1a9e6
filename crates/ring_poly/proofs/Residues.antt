-- Integers modulo 12289.
use Rattle.std.proofs.Common.{◌≡◌, ℕ, ◌+◌, ◌-◌, ◌*◌, ◌/◌, ◌%◌, ◌<◌, ◌≤◌, refl, sym, ap, arith, ◌∙◌, ℤ, pos, negsuc, ◌+ℤ◌, ◌-ℤ◌, unsigned_abs, ◌⊎◌, inl, inr}
use Rattle.std.proofs.Math.IntN.{◌*ℤ◌}
use Rattle.std.specs.Int.{int_rem_euclid}
use Rattle.std.proofs.lemmas.Int.{ints, int_rem_euclid_is}
use borrow.Author.Differences.{up, down, same_in, same_out, sum_is_lem, product_is}
use Rattle.ring_poly.specs.Residue.{residue}

-- a and b differ by a multiple of 12289
pub record Congruent (a b : ℤ) : Type 0 where
  pub left : ℕ
  pub right : ℕ
  pub same : a +ℤ pos (left * 12289) ≡ b +ℤ pos (right * 12289)

euclid : (z : ℤ) → int_rem_euclid z (pos 12289) ≡ pos (residue z)
euclid (pos n) = refl
euclid (negsuc n) = refl

pub residue_is : (z : ℤ) (k m : ℕ) → z +ℤ pos (k * 12289) ≡ pos m → residue z ≡ m % 12289
residue_is z k m e = ap unsigned_abs (sym (euclid z) ∙ int_rem_euclid_is z (pos 12289) 12289 k m (omega arith) refl e)

pub residue_same : (a b : ℤ) → Congruent a b → residue a ≡ residue b
residue_same a b c =
    let e = c.same in
    let t = down a + down b in
    let m = up a + (c.left + t) * 12289 - down a in
    residue_is a (c.left + t) m (omega (arith, ints)) ∙ sym (residue_is b (c.right + t) m (omega (arith, ints)))

pub residue_below : (z : ℤ) → residue z < 12289
residue_below (pos n) = omega arith
residue_below (negsuc n) = omega arith

pub residue_reduced : (n : ℕ) → n < 12289 → residue (pos n) ≡ n
residue_reduced n h = omega arith

pub congruent_residue : (z : ℤ) → Congruent (pos (residue z)) z
congruent_residue (pos n) = record { left = n / 12289; right = 0; same = omega (arith, ints) }
congruent_residue (negsuc n) = record { left = 0; right = n / 12289 + 1; same = omega (arith, ints) }

pub congruent_refl : (a : ℤ) → Congruent a a
congruent_refl a = record { left = 0; right = 0; same = refl }

pub congruent_sym : (a b : ℤ) → Congruent a b → Congruent b a
congruent_sym a b c = record { left = c.right; right = c.left; same = sym c.same }

pub congruent_trans : (a b c : ℤ) → Congruent a b → Congruent b c → Congruent a c
congruent_trans a b c p q =
    let e = p.same in
    let f = q.same in
    record { left = p.left + q.left; right = p.right + q.right; same = omega (arith, ints) }

pub congruent-add : (a b c d : ℤ) → Congruent a b → Congruent c d → Congruent (a +ℤ c) (b +ℤ d)
congruent-add a b c d p q =
    let e = p.same in
    let f = q.same in
    record { left = p.left + q.left; right = p.right + q.right; same = omega (arith, ints) }

pub congruent-sub : (a b c d : ℤ) → Congruent a b → Congruent c d → Congruent (a -ℤ c) (b -ℤ d)
congruent-sub a b c d p q =
    let e = p.same in
    let f = q.same in
    record { left = p.left + q.right; right = p.right + q.left; same = omega (arith, ints) }

pub congruent-mul : (a b c : ℤ) → Congruent a b → Congruent (a *ℤ c) (b *ℤ c)
congruent-mul a b c p =
    let j = p.left in
    let k = p.right in
    let sum : up a + j * 12289 + down b ≡ up b + k * 12289 + down a = omega (arith, p.same, same_out, sum_is_lem) in
    let above = ap (λ x. x * up c) sum in
    let below = ap (λ x. x * down c) sum in
    record {
      left = j * up c + k * down c;
      right = k * up c + j * down c;
      same = omega (arith, same_in, sum_is_lem, product_is);
    }

pub congruent_from_residue : (a b : ℤ) → residue a ≡ residue b → Congruent a b
congruent_from_residue a b e =
    let start = congruent_sym (pos (residue a)) a (congruent_residue a) in
    let end : Congruent (pos (residue a)) b = rw e (congruent_residue b) in
    congruent_trans a (pos (residue a)) b start end

-- a difference, as the code computes it
pub residue-sub_reduced : (a b : ℕ) → b < 12289 → (a + 12289 - b) % 12289 ≡ residue (pos a -ℤ pos b)
residue-sub_reduced a b h = sym (residue_is (pos a -ℤ pos b) 1 (a + 12289 - b) (omega (arith, ints)))

-- a term z that is added before the difference is taken
pub residue_masked : (x y : ℕ) (z p : ℤ) → residue (pos x -ℤ pos y) ≡ residue p
    → residue (pos (residue (pos x +ℤ z)) -ℤ pos y) ≡ residue (p +ℤ z)
residue_masked x y z p e =
    let left = congruent-sub (pos (residue (pos x +ℤ z))) (pos x +ℤ z) (pos y) (pos y) (congruent_residue (pos x +ℤ z))
    (congruent_refl (pos y)) in
    let turn : (pos x +ℤ z) -ℤ pos y ≡ (pos x -ℤ pos y) +ℤ z = omega (arith, ints) in
    let right = congruent-add (pos x -ℤ pos y) p z z (congruent_from_residue (pos x -ℤ pos y) p e) (congruent_refl z) in
    residue_same (pos (residue (pos x +ℤ z)) -ℤ pos y) ((pos x +ℤ z) -ℤ pos y) left ∙ ap residue turn
    ∙ residue_same ((pos x -ℤ pos y) +ℤ z) (p +ℤ z) right

-- a small number, and a small number more than 6144
pub residue_near_zero : (z : ℤ) → unsigned_abs z ≤ 2049 → (residue z ≤ 2049) ⊎ (10240 ≤ residue z)
residue_near_zero (pos n) h = inl (omega arith)
residue_near_zero (negsuc n) h = inr (omega arith)

pub residue_near_half : (z : ℤ) → unsigned_abs z ≤ 2049 → (4095 ≤ residue (z +ℤ pos 6144)) × (residue (z +ℤ pos 6144) ≤ 8193)
residue_near_half z h =
    let m = 6144 + up z - down z in
    let e = residue_is (z +ℤ pos 6144) 0 m (omega (arith, ints)) in
    rw e (omega (arith, ints), omega (arith, ints))
