-- Drawn ternary polynomials are ternary.
use Rattle.std.proofs.Common.{◌≡◌, ℕ, ◌+◌, ◌*◌, ◌/◌, ◌%◌, ◌<◌, ◌≤◌, List, length, get_or, sym, subst, arith, pos, ℤ, ◌-ℤ◌, unsigned_abs}
use Rattle.std.specs.Int.{bit_at}
use Rattle.std.proofs.lemmas.Int.{ints}
use Rattle.std.proofs.lemmas.Nat.Bits.{bit_at-lt}
use Rattle.std.proofs.lemmas.List.Elements.{All-from_get_or}
use Rattle.ring_poly.specs.Product.{IsTrit, IsTernary}
use Rattle.ring_poly.proofs.Places.{length-by_place, get_or-by_place}
use Rattle.ring_encrypt.specs.Draws.{word_of, trit_of, ternary, uniform}

difference_small : (a b : ℕ) → a < 2 → b < 2 → unsigned_abs (pos a -ℤ pos b) ≤ 1
difference_small a b ha hb = omega (arith, ints)

pub trit_of_is_trit : (word i : ℕ) → IsTrit (trit_of word i)
trit_of_is_trit word i = difference_small (bit_at word (2 * i)) (bit_at word (2 * i + 1)) (bit_at-lt word (2 * i))
    (bit_at-lt word (2 * i + 1))

trit_at : (key : List ℕ) (place k : ℕ) → k < 1024 → IsTrit (get_or (ternary key place) k (pos 0))
unfolding ternary
trit_at key place k below =
    let is : get_or (ternary key place) k (pos 0) ≡ trit_of (word_of key (place + k / 16)) (k % 16) = get_or-by_place
    (λ c. trit_of (word_of key (place + c / 16)) (c % 16)) k (pos 0) below in
    subst (λ (x : ℤ). IsTrit x) (sym is) (trit_of_is_trit (word_of key (place + k / 16)) (k % 16))

pub ternary_is_ternary : (key : List ℕ) (place : ℕ) → IsTernary (ternary key place)
unfolding ternary
ternary_is_ternary key place = record {
  length = length-by_place (λ c. trit_of (word_of key (place + c / 16)) (c % 16));
  trits = All-from_get_or (λ x. IsTrit x) (ternary key place) (pos 0)
      (λ k h. trit_at key place k (omega (arith, length-by_place (λ c. trit_of (word_of key (place + c / 16)) (c % 16)))));
}

pub length-uniform : (key : List ℕ) → length (uniform key) ≡ 1024
unfolding uniform
length-uniform key = length-by_place (λ c. word_of key c % 12289)
