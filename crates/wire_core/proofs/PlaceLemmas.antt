-- Bytes at their places: what is there, and where bytes begin otherwise.
use Rattle.std.proofs.Common.{◌≡◌, ℕ, zero, suc, ◌+◌, ◌<◌, Bool, true, false, not, List, [], ◌∷◌, ◌++◌, length, get_or, drop, Some, None, refl, sym, ap, ◌∙◌, arith}
use Rattle.std.specs.Prelude.{slice_index, nat_lt, ◌==◌}
use Rattle.std.specs.Bool.{then_some}
use Rattle.std.proofs.lemmas.Bool.{eqb-true, eq-eqb, ltb-true, lt-ltb, and_parts}
use Rattle.std.proofs.lemmas.List.{get_or-drop, get_or-take}
use Rattle.wire_core.specs.Places.{part, has_byte, first_unlike}
use Rattle.wire_core.proofs.AnswerLemmas.{first_below-none, first_below-some, first_below-each}

-- ---- a byte

-- a byte that is there
pub byte_there : (bytes : List ℕ) (p b : ℕ) → has_byte bytes p b ≡ true → (p < length bytes) × (get_or bytes p 0 ≡ b)
byte_there bytes p b e =
    let parts = and_parts (nat_lt p (length bytes)) (slice_index bytes p == b) e in
    (omega (arith, ltb-true p (length bytes) parts.0), eqb-true (get_or bytes p 0) b parts.1)

pub there_byte : (bytes : List ℕ) (p b : ℕ) → p < length bytes → get_or bytes p 0 ≡ b → has_byte bytes p b ≡ true
there_byte bytes p b lt is = rw (lt-ltb p (length bytes) lt, is, eq-eqb b b refl) refl

-- a byte is a part
pub byte-by_part : (bytes : List ℕ) (k : ℕ) → slice_index bytes k ≡ slice_index (part bytes k 1) 0
unfolding part
byte-by_part bytes k =
    let e : k + 0 ≡ k = omega arith in
    sym (get_or-take 1 (drop k bytes) 0 0 (omega arith) ∙ get_or-drop k bytes 0 0 ∙ ap (λ (m : ℕ). slice_index bytes m) e)

-- ---- the first unlike byte

not_then : (b : Bool) (p : ℕ) → b ≡ true → then_some (not b) p ≡ None
not_then b p e = rw e refl

then_not : (b : Bool) (p : ℕ) → b ≡ false → then_some (not b) p ≡ Some p
then_not b p e = rw e refl

not_then_inverse : (b : Bool) (p : ℕ) → then_some (not b) p ≡ None → b ≡ true
not_then_inverse true p e = refl
not_then_inverse false p e = absurd cc

-- every byte is there
pub first_unlike-none : (front bytes : List ℕ) → ((p : ℕ) → p < length front → has_byte bytes p (get_or front p 0) ≡ true)
    → first_unlike front bytes ≡ None
first_unlike-none front bytes each =
    first_below-none (λ p. then_some (not (has_byte bytes p (slice_index front p))) p) (length front)
    (λ p lt. not_then (has_byte bytes p (slice_index front p)) p (each p lt))

-- a byte is another, and all before it are there
pub first_unlike-some : (front bytes : List ℕ) (p : ℕ) → p < length front → ((j : ℕ) → j < p → has_byte bytes j (get_or front j 0) ≡ true)
    → has_byte bytes p (get_or front p 0) ≡ false → first_unlike front bytes ≡ Some p
first_unlike-some front bytes p lt before here =
    first_below-some (λ p. then_some (not (has_byte bytes p (slice_index front p))) p) (length front) p p lt
    (λ j lt2. not_then (has_byte bytes j (slice_index front j)) j (before j lt2))
    (then_not (has_byte bytes p (slice_index front p)) p here)

pub first_unlike-each : (front bytes : List ℕ) → first_unlike front bytes ≡ None → (p : ℕ) → p < length front
    → has_byte bytes p (get_or front p 0) ≡ true
first_unlike-each front bytes e p lt =
    not_then_inverse (has_byte bytes p (slice_index front p)) p
    (first_below-each (λ p. then_some (not (has_byte bytes p (slice_index front p))) p) (length front) e p lt)

-- bytes of which each is there begin so,
begins_so : (front bytes : List ℕ) → ((p : ℕ) → p < length front → (p < length bytes) × (get_or bytes p 0 ≡ get_or front p 0))
    → bytes ≡ front ++ drop (length front) bytes
begins_so [] bytes each = refl
begins_so (a ∷ front) [] each = absurd (omega (arith, (each 0 (omega arith)).0))
begins_so (a ∷ front) (b ∷ bytes) each =
    let first : b ≡ a = (each 0 (omega arith)).1 in
    let rest : bytes ≡ front ++ drop (length front) bytes = begins_so front bytes
    (λ p lt. let there = each (suc p) (omega arith) in (omega (arith, there.0), there.1)) in
    cc

pub first_unlike-begins : (front bytes : List ℕ) → first_unlike front bytes ≡ None → bytes ≡ front ++ drop (length front) bytes
first_unlike-begins front bytes e =
    begins_so front bytes (λ p lt. byte_there bytes p (get_or front p 0) (first_unlike-each front bytes e p lt))

in_front : (front rest : List ℕ) (p : ℕ) → p < length front → (p < length (front ++ rest)) × (get_or (front ++ rest) p 0 ≡ get_or front p 0)
in_front [] rest p lt = absurd (omega arith)
in_front (a ∷ front) rest zero lt = (omega arith, refl)
in_front (a ∷ front) rest (suc p) lt = let there = in_front front rest p (omega arith) in (omega (arith, there.0), there.1)

-- and bytes that begin so have no unlike byte
pub first_unlike-again : (front rest : List ℕ) → first_unlike front (front ++ rest) ≡ None
first_unlike-again front rest =
    first_unlike-none front (front ++ rest) (λ p lt. let there = in_front front rest p lt in there_byte (front ++ rest) p (get_or front p 0)
    there.0 there.1)
