-- What is sealed has coefficients below the modulus.
use Rattle.std.proofs.Common.{◌≡◌, ◌≤◌, ℕ, true, false, List, [], ◌∷◌, length, take, drop, refl, sym, ap, ◌∙◌, arith, Option, Some, None, Result}
use Rattle.std.specs.Prelude.{is_ok, is_none}
use Rattle.std.proofs.lemmas.List.{take_all, length-drop}
use Rattle.ring_poly.specs.declared.packing.CoefficientTooLarge.{CoefficientTooLarge}
use Rattle.wire_core.specs.declared.tag.Tag.TheVariants.{RingCoins}
use Rattle.wire_core.specs.Hash.{hash_of}
use Rattle.ring_poly.specs.Packing.{unpacked, first_too_large, unless_too_large, read_packed}
use Rattle.ring_encrypt.specs.Draws.{uniform}
use Rattle.ring_encrypt.specs.Capsule.{sealed_with, capsule_of}
use Rattle.ring_encrypt.specs.Reduced.{is_reduced, SealedIsReduced}
use Rattle.ring_encrypt.proofs.OpeningLemmas.{u_of, v_of, sealed_parts, read_gives}

pub sealed_is_reduced : SealedIsReduced
unfolding is_reduced capsule_of
sealed_is_reduced key m =
    let coins = hash_of RingCoins (key ∷ m ∷ []) in
    let a = uniform (take 32 key) in
    let b = unpacked (drop 32 key) in
    let parts = sealed_parts coins a b m in
    let first = (read_gives (take 1792 (sealed_with coins a b m)) (u_of coins a) parts.first).1 in
    let second = (read_gives (drop 1792 (sealed_with coins a b m)) (v_of coins b m) parts.second).1 in
    rw (first, second) refl

-- ---- the test, as the code makes it
told : (cs : List ℕ) (o : Option CoefficientTooLarge) → is_ok (unless_too_large cs o) ≡ is_none o
told cs None = refl
told cs (Some e) = refl

part_told : (part : List ℕ) (r : Result (List ℕ) CoefficientTooLarge) → r ≡ read_packed part
    → is_ok r ≡ is_none (first_too_large 0 (unpacked part))
part_told part r e = ap is_ok e ∙ told (unpacked part) (first_too_large 0 (unpacked part))

pub not_reduced : (bytes capsule : List ℕ) (r : Result (List ℕ) CoefficientTooLarge) → bytes ≡ capsule → r ≡ read_packed (take 1792 bytes)
    → is_ok r ≡ false → false ≡ is_reduced capsule
unfolding is_reduced
not_reduced bytes capsule r same e bad =
    let first : is_none (first_too_large 0 (unpacked (take 1792 bytes))) ≡ false = sym (part_told (take 1792 bytes) r e) ∙ bad in
    rw (← same, first) refl

pub reduced_as_told : (bytes capsule : List ℕ) (r s : Result (List ℕ) CoefficientTooLarge) → bytes ≡ capsule → length bytes ≡ 2240
    → r ≡ read_packed (take 1792 bytes) → s ≡ read_packed (take 448 (drop 1792 bytes)) → is_ok r ≡ true → is_ok s ≡ is_reduced capsule
unfolding is_reduced
reduced_as_told bytes capsule r s same long e f good =
    let first : is_none (first_too_large 0 (unpacked (take 1792 bytes))) ≡ true = sym (part_told (take 1792 bytes) r e) ∙ good in
    let room : length (drop 1792 bytes) ≤ 448 = omega (arith, length-drop 1792 bytes) in
    let whole : take 448 (drop 1792 bytes) ≡ drop 1792 bytes = take_all 448 (drop 1792 bytes) room in
    let second : is_ok s ≡ is_none (first_too_large 0 (unpacked (drop 1792 bytes))) = part_told (drop 1792 bytes) s
    (f ∙ ap read_packed whole) in
    rw (← same, first) second
