-- Chains, a step at a time.
use Rattle.std.proofs.Common.{◌≡◌, ℕ, zero, suc, ◌+◌, ◌-◌, ◌<◌, ◌≤◌, List, refl, arith, add-zero, zero-add}
use Rattle.sha2.specs.Sha256.{sha256}
use Rattle.lm_ots.specs.OneTime.{step_string, stepped}

-- the steps left after one more
pub stepped_more : (identifier : List ℕ) (q i j to : ℕ) (tmp next : List ℕ) → j < to
    → next ≡ sha256 (step_string identifier q i j tmp)
    → stepped identifier q i (to - (j + 1)) (j + 1) next ≡ stepped identifier q i (to - j) j tmp
unfolding stepped
stepped_more identifier q i j to tmp next inside is_next =
    let e : to - j ≡ suc (to - (j + 1)) = omega arith in rw (e, is_next) refl

-- steps in two runs
pub stepped-add : (identifier : List ℕ) (q i first second j : ℕ) (x : List ℕ)
    → stepped identifier q i (first + second) j x
    ≡ stepped identifier q i second (j + first) (stepped identifier q i first j x)
unfolding stepped
stepped-add identifier q i zero second j x = rw (zero-add, add-zero) refl
stepped-add identifier q i (suc first) second j x =
    let one : suc first + second ≡ suc (first + second) = omega arith in
    let at : j + suc first ≡ j + 1 + first = omega arith in
    rw (one, at) (stepped-add identifier q i first second (j + 1) (sha256 (step_string identifier q i j x)))

-- no steps left
pub stepped_all : (identifier : List ℕ) (q i j to : ℕ) (tmp : List ℕ) → to ≤ j
    → stepped identifier q i (to - j) j tmp ≡ tmp
unfolding stepped
stepped_all identifier q i j to tmp past =
    let e : to - j ≡ 0 = omega arith in rw e refl
