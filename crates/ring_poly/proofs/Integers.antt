-- Laws of signed numbers.
use Rattle.std.proofs.Common.{◌≡◌, ℕ, ◌+◌, ◌*◌, ◌≤◌, ap, arith, ℤ, pos, ◌+ℤ◌, ◌-ℤ◌, neg_ℤ, unsigned_abs}
use Rattle.std.proofs.Math.IntN.{◌*ℤ◌}
use Rattle.std.proofs.lemmas.Int.{ints}
use borrow.Author.Differences.{up, down, same_in, sum_is_lem, product_is, neg_is}

pub add-mul : (a b c : ℤ) → (a +ℤ b) *ℤ c ≡ a *ℤ c +ℤ b *ℤ c
add-mul a b c =
    let s = sum_is_lem a b in
    let above = ap (λ x. x * up c) s in
    let below = ap (λ x. x * down c) s in
    omega (arith, same_in, sum_is_lem (a *ℤ c) (b *ℤ c), product_is (a +ℤ b) c, product_is a c, product_is b c)

pub neg-mul : (a c : ℤ) → neg_ℤ a *ℤ c ≡ neg_ℤ (a *ℤ c)
neg-mul a c =
    let s = (neg_is a).0 in
    let t = (neg_is a).1 in
    let s1 = ap (λ x. x * up c) s in
    let s2 = ap (λ x. x * down c) s in
    let t1 = ap (λ x. x * up c) t in
    let t2 = ap (λ x. x * down c) t in
    omega (arith, same_in, neg_is (a *ℤ c), product_is (neg_ℤ a) c, product_is a c)

pub mul_comm_assoc : (a b c : ℤ) → (a *ℤ b) *ℤ c ≡ (a *ℤ c) *ℤ b
mul_comm_assoc a b c =
    let x = product_is a b in
    let x1 = ap (λ n. n * up c) x.0 in
    let x2 = ap (λ n. n * down c) x.0 in
    let x3 = ap (λ n. n * up c) x.1 in
    let x4 = ap (λ n. n * down c) x.1 in
    let y = product_is a c in
    let y1 = ap (λ n. n * up b) y.0 in
    let y2 = ap (λ n. n * down b) y.0 in
    let y3 = ap (λ n. n * up b) y.1 in
    let y4 = ap (λ n. n * down b) y.1 in
    omega (arith, same_in, product_is (a *ℤ b) c, product_is (a *ℤ c) b)

pub zero-mul : (c : ℤ) → pos 0 *ℤ c ≡ pos 0
zero-mul c = omega (arith, same_in, product_is (pos 0) c)

pub mul-zero : (c : ℤ) → c *ℤ pos 0 ≡ pos 0
mul-zero c = omega (arith, same_in, product_is c (pos 0))

pub add-zero_right : (c : ℤ) → c +ℤ pos 0 ≡ c
add-zero_right c = omega (arith, ints)

-- the size of a sum
pub abs-add : (a b : ℤ) (m n : ℕ) → unsigned_abs a ≤ m → unsigned_abs b ≤ n → unsigned_abs (a +ℤ b) ≤ m + n
abs-add a b m n h k = omega (arith, ints)

pub abs-sub : (a b : ℤ) (m n : ℕ) → unsigned_abs a ≤ m → unsigned_abs b ≤ n → unsigned_abs (a -ℤ b) ≤ m + n
abs-sub a b m n h k = omega (arith, ints)

pub abs-neg : (z : ℤ) → unsigned_abs (neg_ℤ z) ≡ unsigned_abs z
abs-neg z = omega (arith, ints)
