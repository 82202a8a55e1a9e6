-- Which posts are missing.
use Rattle.std.proofs.Common.{◌≡◌, ℕ, zero, suc, ◌+◌, ◌-◌, ◌*◌, ◌^◌, ◌<◌, ◌≤◌, true, false, List, [], ◌∷◌, ◌++◌, Some, None, ap, ◌∙◌, arith}
use Rattle.std.specs.List.{range_with_len, sum_by}
use Rattle.std.proofs.Math.Nat.{pow-succ'}
use Rattle.std.proofs.lemmas.Bool.{cond-true, cond-false}
use Rattle.std.proofs.lemmas.List.Sums.{sum_by_push}
use Rattle.stage_log.specs.Table.{Log, is_complete, incomplete_stage}

-- one number more of a range
range-more : (a n : ℕ) → range_with_len a (suc n) ≡ range_with_len a n ++ (a + n) ∷ []
range-more a zero = let e : a ≡ a + 0 = omega arith in ap (λ (k : ℕ). k ∷ []) e
range-more a (suc n) =
    let e : a + 1 + n ≡ a + suc n = omega arith in
    ap (λ (t : List ℕ). a ∷ t) (range-more (a + 1) n ∙ ap (λ (k : ℕ). range_with_len (a + 1) n ++ k ∷ []) e)

-- the bits of one member more
pub bits-next : (f : ℕ → ℕ) (member bits : ℕ) → 1 ≤ member → bits ≡ sum_by f (range_with_len 1 (member - 1))
    → bits + f member ≡ sum_by f (range_with_len 1 (member + 1 - 1))
bits-next f member bits least e =
    let next : member + 1 - 1 ≡ suc (member - 1) = omega arith in
    let same : 1 + (member - 1) ≡ member = omega arith in
    let more : sum_by f (range_with_len 1 (member + 1 - 1)) ≡ sum_by f (range_with_len 1 (member - 1)) + f (1 + (member - 1)) =
    ap (λ (k : ℕ). sum_by f (range_with_len 1 k)) next ∙ ap (sum_by f) (range-more 1 (member - 1))
    ∙ sum_by_push f (range_with_len 1 (member - 1)) (1 + (member - 1)) in
    omega (arith, more, ap f same)

pub bits-below : (member bits bit : ℕ) → 1 ≤ member → bits < 2 ^ (member - 1) → bit ≤ 2 ^ (member - 1) → bits + bit < 2 ^ (member + 1 - 1)
bits-below member bits bit least below most =
    let next : member + 1 - 1 ≡ suc (member - 1) = omega arith in
    let power : 2 ^ (member + 1 - 1) ≡ 2 * 2 ^ (member - 1) = ap (λ (k : ℕ). 2 ^ k) next ∙ pow-succ' 2 (member - 1) in
    omega (arith, power)

pub complete-none : (log : Log) (stage : ℕ) → is_complete log stage ≡ true → incomplete_stage log stage ≡ None
complete-none log stage e = cond-true (is_complete log stage) None (Some stage) e

pub incomplete-some : (log : Log) (stage : ℕ) → is_complete log stage ≡ false → incomplete_stage log stage ≡ Some stage
incomplete-some log stage e = cond-false (is_complete log stage) None (Some stage) e
