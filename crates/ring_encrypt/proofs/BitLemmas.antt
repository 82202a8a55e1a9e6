-- Numbers and their bits.
use Rattle.std.proofs.Common.{◌≡◌, ℕ, zero, suc, ◌+◌, ◌*◌, ◌/◌, ◌%◌, ◌^◌, ◌<◌, ◌≤◌, refl, sym, arith, add-one, lit<}
use Rattle.std.specs.Int.{bit_at}
use Rattle.std.proofs.lemmas.Nat.{mod-pow-add}
use Rattle.std.proofs.Math.Nat.{mul-le-mul_right, pow-le-pow_right, mod-eq_of_lt, pow-suc}
use Rattle.ring_encrypt.specs.Opening.{number_of_bits}

pub bits-more : (bit : ℕ → ℕ) (k : ℕ) → number_of_bits bit (k + 1) ≡ number_of_bits bit k + bit k * 2 ^ k
unfolding number_of_bits
bits-more bit k = rw add-one refl

pub bits-none : (bit : ℕ → ℕ) → number_of_bits bit 0 ≡ 0
unfolding number_of_bits
bits-none bit = refl

pub bits-below : (bit : ℕ → ℕ) (k : ℕ) → ((i : ℕ) → bit i ≤ 1) → number_of_bits bit k < 2 ^ k
unfolding number_of_bits
bits-below bit zero h = omega arith
bits-below bit (suc k) h =
    let low : number_of_bits bit k < 2 ^ k = bits-below bit k h in
    let high : bit k * 2 ^ k ≤ 1 * 2 ^ k = mul-le-mul_right (2 ^ k) (h k) in
    let twice : 2 ^ suc k ≡ 2 ^ k * 2 = pow-suc 2 k in
    omega arith

-- the bits of a number make its low part
pub bits-of : (n k : ℕ) → number_of_bits (λ i. bit_at n i) k ≡ n % 2 ^ k
unfolding number_of_bits
bits-of n zero = let one : n % 1 ≡ 0 = omega arith in sym one
bits-of n (suc k) =
    let low : number_of_bits (λ i. bit_at n i) k ≡ n % 2 ^ k = bits-of n k in
    let split : n % 2 ^ (1 + k) ≡ (n / 2 ^ k % 2 ^ 1) * 2 ^ k + n % 2 ^ k = mod-pow-add n 1 k in
    let one : 1 + k ≡ suc k = omega arith in
    let whole : n % 2 ^ suc k ≡ (n / 2 ^ k % 2) * 2 ^ k + n % 2 ^ k = rw one at split in
    omega arith

pub bits-same : (f g : ℕ → ℕ) (k : ℕ) → ((i : ℕ) → i < k → f i ≡ g i) → number_of_bits f k ≡ number_of_bits g k
unfolding number_of_bits
bits-same f g zero h = refl
bits-same f g (suc k) h =
    let low : number_of_bits f k ≡ number_of_bits g k = bits-same f g k (λ i below. h i (omega arith)) in
    let here : f k ≡ g k = h k (omega arith) in
    rw (low, here) refl

-- one more bit of a byte, as the code adds it
pub byte-more : (bit : ℕ → ℕ) (i byte here : ℕ) → i < 8 → ((k : ℕ) → bit k ≤ 1) → byte ≡ number_of_bits bit i → here ≡ bit i
    → (byte + here * 2 ^ i % 256 ≡ number_of_bits bit (i + 1)) × (byte + here * 2 ^ i % 256 < 256)
byte-more bit i byte here below small so_far is =
    let more : number_of_bits bit (i + 1) ≡ number_of_bits bit i + bit i * 2 ^ i = bits-more bit i in
    let bound : number_of_bits bit (i + 1) < 2 ^ (i + 1) = bits-below bit (i + 1) small in
    let room : i + 1 ≤ 8 = omega arith in
    let top : 2 ^ (i + 1) ≤ 2 ^ 8 = pow-le-pow_right (lit< tt) room in
    let added : bit i * 2 ^ i < 256 = omega arith in
    let kept : bit i * 2 ^ i % 256 ≡ bit i * 2 ^ i = mod-eq_of_lt added in
    rw (is, kept, so_far) (sym more, omega arith)
