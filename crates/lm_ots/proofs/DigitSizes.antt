-- Sizes of digits and of the checksum.
use Rattle.std.proofs.Common.{◌≡◌, ℕ, zero, suc, ◌+◌, ◌-◌, ◌*◌, ◌/◌, ◌%◌, ◌<◌, ◌≤◌, ◌^◌, List, refl, inl, inr, arith, add-one}
use Rattle.lm_ots.specs.declared.types.OtsType.{OtsType}
use Rattle.lm_ots.specs.declared.types.OtsType.TheVariants.{W1, W2, W4, W8}
use Rattle.lm_ots.specs.OneTime.{IsDigitSize, chain_count, checksum_shift, coef, complement_sum, digit_bits}

-- the digits of each type have a size that `coef` takes
pub is_digit_size : (width : OtsType) → IsDigitSize (digit_bits width)
is_digit_size W1 = inl refl
is_digit_size W2 = inr (inl refl)
is_digit_size W4 = inr (inr (inl refl))
is_digit_size W8 = inr (inr (inr refl))

-- each chain has its digit in the hash and the checksum
pub digit_in_string : (width : OtsType) (i : ℕ) → i < chain_count width → i * digit_bits width < 272
digit_in_string W1 i h = omega arith
digit_in_string W2 i h = omega arith
digit_in_string W4 i h = omega arith
digit_in_string W8 i h = omega arith

-- a table has room for the chains of each type
pub chains_in_table : (width : OtsType) → chain_count width ≤ 268
chains_in_table W1 = omega arith
chains_in_table W2 = omega arith
chains_in_table W4 = omega arith
chains_in_table W8 = omega arith

-- n digits lack at most n times the greatest digit
pub complement_sum_small : (s : List ℕ) (w n : ℕ) → complement_sum s w n ≤ n * (2 ^ w - 1)
unfolding complement_sum
complement_sum_small s w zero = omega arith
complement_sum_small s w (suc n) = grind (arith, complement_sum_small s w n)

-- the shifted sum has 16 bits
pub checksum_fits : (width : OtsType) (s : List ℕ)
    → complement_sum s (digit_bits width) (256 / digit_bits width) * 2 ^ checksum_shift width < 2 ^ 16
checksum_fits W1 s = omega (arith, complement_sum_small s 1 256)
checksum_fits W2 s = omega (arith, complement_sum_small s 2 128)
checksum_fits W4 s = omega (arith, complement_sum_small s 4 64)
checksum_fits W8 s = omega (arith, complement_sum_small s 8 32)

-- a digit has at most eight bits
pub digit_values : (width : OtsType) → 2 ^ digit_bits width ≤ 256
digit_values W1 = omega arith
digit_values W2 = omega arith
digit_values W4 = omega arith
digit_values W8 = omega arith

-- the sum over some of a hash's digits is small
pub complement_sum_bound : (width : OtsType) (s : List ℕ) (n : ℕ) → n ≤ 256 / digit_bits width
    → complement_sum s (digit_bits width) n ≤ 8160
complement_sum_bound W1 s n h = omega (arith, complement_sum_small s 1 n)
complement_sum_bound W2 s n h = omega (arith, complement_sum_small s 2 n)
complement_sum_bound W4 s n h = omega (arith, complement_sum_small s 4 n)
complement_sum_bound W8 s n h = omega (arith, complement_sum_small s 8 n)

-- one more digit
pub complement_sum_more : (s : List ℕ) (w i sum digit : ℕ) → 2 ^ w ≤ 256
    → sum ≡ complement_sum s w i → digit ≡ coef s i w
    → sum + (1 * 2 ^ w % 4294967296 - 1 - digit) ≡ complement_sum s w (i + 1)
unfolding complement_sum
complement_sum_more s w i sum digit small so_far is_digit =
    rw (add-one, so_far, is_digit)
    (let e : 1 * 2 ^ w % 4294967296 ≡ 2 ^ w = omega arith in rw e refl)
