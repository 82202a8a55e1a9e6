-- Step after step.
use Rattle.std.proofs.Common.{◌≡◌, ℕ, zero, suc, ◌+◌, ap, ◌∙◌, refl, arith}
use Rattle.std.specs.Fn.{iterate}

-- one step more is the last one
pub iterate-last : {A : Type 0} (f : A → A) (n : ℕ) (a : A) → iterate f (suc n) a ≡ f (iterate f n a)
iterate-last f zero a = refl
iterate-last f (suc n) a = iterate-last f n (f a)

pub iterate-more : {A : Type 0} (f : A → A) (n : ℕ) (a : A) → iterate f (n + 1) a ≡ f (iterate f n a)
iterate-more {A} f n a =
    let more : n + 1 ≡ suc n = omega arith in
    ap (λ (k : ℕ). iterate f k a) more ∙ iterate-last f n a
