-- Signed numbers of 32 bits that are read back as they were.
use Rattle.std.proofs.Common.{◌≡◌, ℕ, ◌*◌, ◌^◌, ◌<◌, ◌≤◌, refl, arith, ℤ, pos, ◌+ℤ◌, unsigned_abs, w32, w8, to_z, of_z, neg_ℤ, ◌∙◌, ap}
use Rattle.std.proofs.Math.IntN.{◌*ℤ◌}
use Rattle.std.proofs.lemmas.Int.{to_z-of_z, fits_signed_from_abs, unsigned_abs-mul}
use Rattle.std.proofs.lemmas.Nat.{mul-le}
use Rattle.ring_poly.proofs.Integers.{abs-add, abs-neg}

pub read_back : (z : ℤ) → unsigned_abs z < 2 ^ 31 → to_z w32 (of_z w32 z) ≡ z
read_back z h = to_z-of_z w32 z (fits_signed_from_abs w32 z h)

pub read_back_byte : (z : ℤ) → unsigned_abs z < 2 ^ 7 → to_z w8 (of_z w8 z) ≡ z
read_back_byte z h = to_z-of_z w8 z (fits_signed_from_abs w8 z h)

-- the sign turned, as the code keeps it
pub read_turned : (f g : ℤ) → unsigned_abs f ≤ 1 → g ≡ neg_ℤ (to_z w32 (of_z w32 f)) → to_z w32 (of_z w32 g) ≡ neg_ℤ f
read_turned f g h e =
    let size : unsigned_abs (neg_ℤ f) ≤ 1 = rw (abs-neg f) h in
    let turned : g ≡ neg_ℤ f = e ∙ ap neg_ℤ (read_back f (omega arith)) in
    rw turned (read_back (neg_ℤ f) (omega arith))

-- x + t f, as the code computes it
pub read_multiple : (x : ℤ) (t : ℕ) (f : ℤ) → unsigned_abs x ≤ 2 ^ 30 → t < 12289 → unsigned_abs f ≤ 1
    → to_z w32 (of_z w32 (to_z w32 (of_z w32 x) +ℤ to_z w32 (of_z w32 (to_z w32 (of_z w32 (pos t)) *ℤ to_z w32 (of_z w32 f))))) ≡ x +ℤ
    (pos t *ℤ f)
read_multiple x t f hx ht hf =
    let size : unsigned_abs (pos t *ℤ f) ≤ 12289 * 1 = rw unsigned_abs-mul (mul-le t (unsigned_abs f) 12289 1 (omega arith) hf) in
    let whole = abs-add x (pos t *ℤ f) (2 ^ 30) 12289 hx (omega arith) in
    rw (
      read_back x (omega arith),
      read_back (pos t) (omega arith),
      read_back f (omega arith),
      read_back (pos t *ℤ f) (omega arith),
      read_back (x +ℤ (pos t *ℤ f)) (omega arith),
    ) refl
