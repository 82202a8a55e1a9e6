-- Tables that are filled place by place, and lists of four.
use Rattle.std.proofs.Common.{◌≡◌, ℕ, zero, suc, ◌+◌, ◌<◌, ◌≤◌, ◌≢◌, inl, inr, List, length, get_or, set, sym, subst, ◌∙◌, arith, get_or-set_other, get_or-set_same}
use Rattle.std.proofs.lemmas.Bool.{cases_lt}

-- one more place is as it should be
pub more_set : {A : Type 0} (P : ℕ → A → Type 0) (xs : List A) (d : A) (i : ℕ) (x : A) → i < length xs → P i x
    → ((k : ℕ) → k < i → P k (get_or xs k d)) → (k : ℕ) → k < i + 1 → P k (get_or (set xs i x) k d)
more_set P xs d i x inside is before k below =
    elim (cases_lt k i) [
      | inl lower ↦
          let other : k ≢ i = omega (arith, lower) in
          subst (P k) (sym (get_or-set_other xs i k x d other)) (before k lower)
      | inr least ↦
          let same : i ≡ k = omega (arith, below, least) in
          subst (λ (j : ℕ). P j (get_or (set xs i x) j d)) same (subst (P i) (sym (get_or-set_same xs i x d inside)) is)
    ]

-- the places behind it are as they were
pub rest_set : {A : Type 0} (before xs : List A) (d : A) (i : ℕ) (x : A)
    → ((k : ℕ) → i ≤ k → get_or xs k d ≡ get_or before k d) → (k : ℕ) → i + 1 ≤ k → get_or (set xs i x) k d ≡ get_or before k d
rest_set before xs d i x rest k behind =
    let other : k ≢ i = omega (arith, behind) in
    get_or-set_other xs i k x d other ∙ rest k (omega (arith, behind))

-- a change at a place keeps what holds at each place
pub all_set : {A : Type 0} (P : ℕ → A → Type 0) (xs : List A) (d : A) (n i : ℕ) (x : A) → i < length xs → P i x
    → ((k : ℕ) → k < n → P k (get_or xs k d)) → (k : ℕ) → k < n → P k (get_or (set xs i x) k d)
all_set P xs d n i x inside is all k below =
    elim (cases_lt k i) [
      | inl lower ↦
          let other : k ≢ i = omega (arith, lower) in
          subst (P k) (sym (get_or-set_other xs i k x d other)) (all k below)
      | inr least ↦ elim (cases_lt i k) [
        | inl higher ↦
            let other : k ≢ i = omega (arith, higher) in
            subst (P k) (sym (get_or-set_other xs i k x d other)) (all k below)
        | inr most ↦
            let same : i ≡ k = omega (arith, most, least) in
            subst (λ (j : ℕ). P j (get_or (set xs i x) j d)) same (subst (P i) (sym (get_or-set_same xs i x d inside)) is)
      ]
    ]

-- what holds at each of four places
pub each_of_four : (P : ℕ → Type 0) → P 0 → P 1 → P 2 → P 3 → (k : ℕ) → k < 4 → P k
each_of_four P a b c d zero below = a
each_of_four P a b c d (suc zero) below = b
each_of_four P a b c d (suc (suc zero)) below = c
each_of_four P a b c d (suc (suc (suc zero))) below = d
each_of_four P a b c d (suc (suc (suc (suc k)))) below = absurd (omega (arith, below))
