-- Finite sums of integers.
use Rattle.std.proofs.Common.{◌≡◌, ℕ, zero, suc, ◌+◌, ◌*◌, ◌<◌, ◌≤◌, refl, sym, ap, arith, ◌∙◌, ℤ, pos, ◌+ℤ◌, neg_ℤ, unsigned_abs}
use Rattle.std.proofs.Math.IntN.{◌*ℤ◌}
use Rattle.std.proofs.lemmas.Int.{ints}
use Rattle.ring_poly.specs.Product.{total}
use Rattle.ring_poly.proofs.Integers.{add-mul, zero-mul, abs-add}
use Rattle.ring_poly.proofs.Residues.{Congruent, congruent_refl, congruent-add}

pub total-suc : (n : ℕ) (F : ℕ → ℤ) → total (n + 1) F ≡ total n F +ℤ F n
unfolding total
total-suc n F = let e : n + 1 ≡ suc n = omega arith in rw e refl

pub total_same : (n : ℕ) (F G : ℕ → ℤ) → ((i : ℕ) → i < n → F i ≡ G i) → total n F ≡ total n G
unfolding total
total_same zero F G h = refl
total_same (suc n) F G h =
    let front = total_same n F G (λ i l. h i (omega arith)) in
    let last = h n (omega arith) in
    cc

pub total_zero : (n : ℕ) (F : ℕ → ℤ) → ((i : ℕ) → i < n → F i ≡ pos 0) → total n F ≡ pos 0
unfolding total
total_zero zero F h = refl
total_zero (suc n) F h =
    let front = total_zero n F (λ i l. h i (omega arith)) in
    let last = h n (omega arith) in
    omega (arith, ints)

pub total-add : (n : ℕ) (F G : ℕ → ℤ) → total n (λ i. F i +ℤ G i) ≡ total n F +ℤ total n G
unfolding total
total-add zero F G = refl
total-add (suc n) F G = let front = total-add n F G in omega (arith, ints)

pub total-neg : (n : ℕ) (F : ℕ → ℤ) → total n (λ i. neg_ℤ (F i)) ≡ neg_ℤ (total n F)
unfolding total
total-neg zero F = refl
total-neg (suc n) F = let front = total-neg n F in omega (arith, ints)

pub total-mul : (n : ℕ) (F : ℕ → ℤ) (c : ℤ) → total n (λ i. F i *ℤ c) ≡ total n F *ℤ c
unfolding total
total-mul zero F c = sym (zero-mul c)
total-mul (suc n) F c = ap (λ x. x +ℤ F n *ℤ c) (total-mul n F c) ∙ sym (add-mul (total n F) (F n) c)

pub total-split : (m n : ℕ) (F : ℕ → ℤ) → total (m + n) F ≡ total m F +ℤ total n (λ i. F (m + i))
unfolding total
total-split m zero F = let e : m + 0 ≡ m = omega arith in rw e (omega (arith, ints))
total-split m (suc n) F =
    let e : m + suc n ≡ suc (m + n) = omega arith in
    let front = total-split m n F in
    rw e (omega (arith, ints))

-- the order of two sums is free
pub total_swap : (m n : ℕ) (F : ℕ → ℕ → ℤ) → total m (λ i. total n (λ j. F i j)) ≡ total n (λ j. total m (λ i. F i j))
unfolding total
total_swap zero n F = sym (total_zero n (λ _. pos 0) (λ i l. refl))
total_swap (suc m) n F =
    ap (λ x. x +ℤ total n (λ j. F m j)) (total_swap m n F)
    ∙ sym (total-add n (λ j. total m (λ i. F i j)) (λ j. F m j))

pub total_size : (n m : ℕ) (F : ℕ → ℤ) → ((i : ℕ) → i < n → unsigned_abs (F i) ≤ m) → unsigned_abs (total n F) ≤ n * m
unfolding total
total_size zero m F h = omega arith
total_size (suc n) m F h =
    let front = total_size n m F (λ i l. h i (omega arith)) in
    let last = h n (omega arith) in
    let e : suc n * m ≡ n * m + m = omega arith in
    rw e (abs-add (total n F) (F n) (n * m) m front last)

pub total_congruent : (n : ℕ) (F G : ℕ → ℤ) → ((i : ℕ) → i < n → Congruent (F i) (G i)) → Congruent (total n F) (total n G)
unfolding total
total_congruent zero F G h = congruent_refl (pos 0)
total_congruent (suc n) F G h =
    congruent-add (total n F) (total n G) (F n) (G n) (total_congruent n F G (λ i l. h i (omega arith))) (h n (omega arith))
