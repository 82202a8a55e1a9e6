-- Accusations and their 34 bytes.
use Rattle.std.proofs.Common.{◌≡◌, ℕ, ◌+◌, Bool, true, false, cond, List, [], ◌∷◌, length, drop, Option, Some, None, refl, sym, ap, ◌∙◌, arith}
use Rattle.std.specs.Prelude.{◌==◌}
use Rattle.std.proofs.lemmas.Bool.{eqb-true, eq-eqb}
use Rattle.transcript_form.specs.declared.accusation.Accusation.{Accusation}
use Rattle.transcript_form.specs.Accusation.{accusation_at, accusation_of, accusation_spelling, IsAccusation, AccusationsAreSpelled}

abbrev some : Accusation → Option Accusation
some accusation = Some accusation

-- 34 bytes are the spelling of what they spell
pub spelling-accusation_at : (bytes : List ℕ) → length bytes ≡ 34 → IsAccusation (accusation_at bytes)
    × (bytes ≡ accusation_spelling (accusation_at bytes))
spelling-accusation_at [] long = absurd (omega arith)
spelling-accusation_at (a ∷ []) long = absurd (omega arith)
spelling-accusation_at (a ∷ b ∷ rest) long = (omega arith, refl)

pub accusation_of-long : (bytes : List ℕ) → length bytes ≡ 34 → accusation_of bytes ≡ Some (accusation_at bytes)
accusation_of-long bytes long = let t : (length bytes == 34) ≡ true = eq-eqb (length bytes) 34 long in rw t refl

chosen : (b : Bool) (a accusation : Accusation) → cond b (some a) None ≡ some accusation → (b ≡ true) × (a ≡ accusation)
chosen true a accusation e = (refl, cc)
chosen false a accusation e = absurd cc

accusation_of-found : (bytes : List ℕ) (accusation : Accusation) → accusation_of bytes ≡ Some accusation → IsAccusation accusation
    × (bytes ≡ accusation_spelling accusation)
accusation_of-found bytes accusation e =
    let c = chosen (length bytes == 34) (accusation_at bytes) accusation e in
    rw (← c.1) (spelling-accusation_at bytes (eqb-true (length bytes) 34 c.0))

-- a spelled accusation is read
pub accusation_of-spelling : (accusation : Accusation) → IsAccusation accusation
    → accusation_of (accusation_spelling accusation) ≡ Some accusation
accusation_of-spelling accusation is =
    accusation_of-long (accusation_spelling accusation) (omega (arith, is))

pub accusations_are_spelled : AccusationsAreSpelled
accusations_are_spelled bytes accusation =
    (accusation_of-found bytes accusation, λ spelled. ap accusation_of spelled.1 ∙ accusation_of-spelling accusation spelled.0)
