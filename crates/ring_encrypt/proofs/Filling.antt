-- A list that is filled place by place, as a loop does.
use Rattle.std.proofs.Common.{◌≡◌, ℕ, ◌+◌, ◌<◌, ◌≢◌, List, length, get_or, set, arith, below_more, get_or-set_other, get_or-set_same}

-- one more place, by a value that is known to be right
pub fill_more : {X : Type 0} (f : ℕ → X) (xs : List X) (i : ℕ) (y d : X) → i < length xs → y ≡ f i
    → ((k : ℕ) → k < i → get_or xs k d ≡ f k) → (k : ℕ) → k < i + 1 → get_or (set xs i y) k d ≡ f k
fill_more f xs i y d within is done =
    below_more _ _ (λ k h. let other : k ≢ i = omega arith in rw get_or-set_other (done k h)) (rw get_or-set_same is)
