-- What stands before the first line feed of a text.
use Rattle.std.proofs.Common.{◌≡◌, ◌≢◌, ℕ, zero, suc, ◌<◌, ◌==◌, true, false, List, [], ◌∷◌, ◌++◌, length, take, Option, Some, None, inl, inr, refl, sym, ap, subst, arith}
use Rattle.std.specs.Prelude.{slice_index, option_map}
use Rattle.std.proofs.lemmas.Bool.{cases_eq}
use Rattle.round_script.specs.Lines.{line_of}

-- it is what stands before a line feed before which none is
pub line_of_found : (text : List ℕ) (i : ℕ) → i < length text → slice_index text i ≡ 10 → ((k : ℕ) → k < i → slice_index text k ≢ 10)
    → line_of text ≡ Some (take i text)
line_of_found [] i lt here before = absurd (omega arith)
line_of_found (byte ∷ bytes) zero lt here before = let now : byte ≡ 10 = here in rw now refl
line_of_found (byte ∷ bytes) (suc i) lt here before =
    let other : byte ≢ 10 = before 0 (omega arith) in
    let later = line_of_found bytes i (omega arith) here (λ k below. before (suc k) (omega arith)) in
    let no : (byte == 10) ≡ false = grind arith in
    rw (no, later) refl

-- there is none where no byte is a line feed
pub line_of_none : (text : List ℕ) → ((k : ℕ) → k < length text → slice_index text k ≢ 10) → line_of text ≡ None
line_of_none [] each = refl
line_of_none (byte ∷ bytes) each =
    let other : byte ≢ 10 = each 0 (omega arith) in
    let later = line_of_none bytes (λ k below. each (suc k) (omega arith)) in
    let no : (byte == 10) ≡ false = grind arith in
    rw (no, later) refl

-- the line of the bytes behind a first one that is no line feed
behind_first : (byte : ℕ) (read : Option (List ℕ)) (line : List ℕ) → option_map (λ rest. byte ∷ rest) read ≡ Some line
    → (rest : List ℕ) × (read ≡ Some rest) × (line ≡ byte ∷ rest)
behind_first byte (Some rest) line e = (rest, refl, (let same : Some (byte ∷ rest) ≡ Some line = e in cc))
behind_first byte None line e = absurd cc

-- a text begins with its first line and a line feed
pub line_of_parts : (text line : List ℕ) → line_of text ≡ Some line → (rest : List ℕ) × (text ≡ line ++ 10 ∷ rest)
line_of_parts [] line e = absurd cc
line_of_parts (byte ∷ bytes) line e =
    elim (cases_eq byte 10) [
      | inl now ↦
          let yes : (byte == 10) ≡ true = grind arith in
          let empty : Some [] ≡ Some line = rw yes at e in
          let none : [] ≡ line = cc in
          (bytes, subst (λ (line : List ℕ). byte ∷ bytes ≡ line ++ 10 ∷ bytes) none (rw now refl))
      | inr other ↦
          let no : (byte == 10) ≡ false = grind arith in
          let rest = behind_first byte (line_of bytes) line (rw no at e) in
          let tail = line_of_parts bytes rest.0 rest.1 in
          (tail.0, subst (λ (line : List ℕ). byte ∷ bytes ≡ line ++ 10 ∷ tail.0) (sym rest.2) (ap (λ (tail : List ℕ). byte ∷ tail) tail.1))
    ]

-- so it has at least one byte more than the line
pub line_of_shorter : (text line : List ℕ) → line_of text ≡ Some line → length line < length text
line_of_shorter [] line e = absurd cc
line_of_shorter (byte ∷ bytes) line e =
    elim (cases_eq byte 10) [
      | inl now ↦
          let yes : (byte == 10) ≡ true = grind arith in
          let empty : Some [] ≡ Some line = rw yes at e in
          let none : [] ≡ line = cc in
          subst (λ (line : List ℕ). length line < length (byte ∷ bytes)) none (omega arith)
      | inr other ↦
          let no : (byte == 10) ≡ false = grind arith in
          let rest = behind_first byte (line_of bytes) line (rw no at e) in
          let shorter = line_of_shorter bytes rest.0 rest.1 in
          subst (λ (line : List ℕ). length line < length (byte ∷ bytes)) (sym rest.2) (omega (arith, shorter))
    ]
