-- A reading whose values are not kept.
use Rattle.std.proofs.Common.{◌≡◌, ℕ, suc, ◌+◌, ◌-◌, ◌<◌, ◌≤◌, List, ◌∷◌, refl, ap, sym, ◌∙◌, arith}
use Rattle.std.specs.Prelude.{Result, Ok, Err}
use Rattle.wire_core.specs.Reading.{Reading, ◌>>=◌, repeated}
use Rattle.phase_message.specs.declared.offence.Offence.{Offence}
use Rattle.phase_message.specs.Offence.{passed}

-- a value in front of those that are read is passed as they are
front-passed : {A : Type 0} (value : A) (others : Result (List A × Reading) Offence)
    → passed (others >>= λ o. Ok (value ∷ o.0, o.1)) ≡ passed others
front-passed value (Ok x) = refl
front-passed value (Err offence) = refl

-- ---- a loop that passes so many values

pub passing-goes_on : {A : Type 0} (count counter : ℕ) (read : Reading → Result (A × Reading) Offence) (r after : Reading) (value : A)
    (whole : Result (Unit {0} × Reading) Offence) → counter < count → read r ≡ Ok (value, after)
    → passed (repeated (count - counter) read r) ≡ whole → passed (repeated (count - (counter + 1)) read after) ≡ whole
unfolding repeated
passing-goes_on count counter read r after value whole lt e all =
    let more : count - counter ≡ suc (count - (counter + 1)) = omega (arith, lt) in
    sym (step (count - (counter + 1)) e) ∙ ap (λ (n : ℕ). passed (repeated n read r)) (sym more) ∙ all
  where
    step : (n : ℕ) → read r ≡ Ok (value, after) → passed (repeated (suc n) read r) ≡ passed (repeated n read after)
    step n e = rw e (front-passed value (repeated n read after))

pub passing-ends : {A : Type 0} (count counter : ℕ) (read : Reading → Result (A × Reading) Offence) (r : Reading) (offence : Offence)
    (whole : Result (Unit {0} × Reading) Offence) → counter < count → read r ≡ Err offence
    → passed (repeated (count - counter) read r) ≡ whole → whole ≡ Err offence
unfolding repeated
passing-ends count counter read r offence whole lt e all =
    let more : count - counter ≡ suc (count - (counter + 1)) = omega (arith, lt) in
    sym all ∙ ap (λ (n : ℕ). passed (repeated n read r)) more ∙ step (count - (counter + 1)) e
  where
    step : (n : ℕ) → read r ≡ Err offence → passed (repeated (suc n) read r) ≡ Err offence
    step n e = rw e refl

pub passing-is_done : {A : Type 0} (count counter : ℕ) (read : Reading → Result (A × Reading) Offence) (r : Reading)
    (whole : Result (Unit {0} × Reading) Offence) → count ≤ counter → passed (repeated (count - counter) read r) ≡ whole
    → whole ≡ Ok (tt {0}, r)
unfolding repeated
passing-is_done count counter read r whole le all =
    let none : count - counter ≡ 0 = omega (arith, le) in
    sym all ∙ ap (λ (n : ℕ). passed (repeated n read r)) none ∙ step
  where
    step : passed (repeated 0 read r) ≡ Ok (tt {0}, r)
    step = refl
