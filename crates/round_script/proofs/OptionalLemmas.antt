-- Lines that may be missing, one after the other.
use Rattle.std.proofs.Common.{◌≡◌, ℕ, zero, suc, ◌+◌, ◌-◌, ◌<◌, ◌≤◌, List, [], ◌∷◌, ◌++◌, Option, Some, None, sym, ap, ◌∙◌, arith}
use Rattle.std.proofs.lemmas.List.{append_assoc, append-nil}
use Rattle.wire_core.specs.Reading.{Reading}
use Rattle.round_script.specs.Lines.{listed, optional, optionals, preceded}

-- values before others before what is read
joined : {A : Type 0} (front more : List A) (read : List A × Reading) → preceded front (preceded more read) ≡ preceded (front ++ more) read
joined {A} front more read = ap (λ (xs : List A). (xs, read.1)) (sym (append_assoc front more read.0))

-- the first of the lines, and then the others
optionals_step : {A : Type 0} (form : ℕ → List ℕ → Option A) (front : List A) (k n : ℕ) (before after : Reading) (one : Option A)
    → (one, after) ≡ optional (form k) before
    → preceded front (optionals form k (suc n) before) ≡ preceded (front ++ listed one) (optionals form (k + 1) n after)
unfolding optionals
optionals_step {A} form front k n before after one e =
    ap (preceded front) (sym (ap (λ (x : Option A × Reading). preceded (listed x.0) (optionals form (k + 1) n x.1)) e))
    ∙ joined front (listed one) (optionals form (k + 1) n after)

-- a loop over the forms goes on with a value,
pub loop_takes : {A : Type 0} (form : ℕ → List ℕ → Option A) (front : List A) (k count i : ℕ) (before after : Reading) (x : A)
    (total : List A × Reading)
    → i < count → (Some x, after) ≡ optional (form k) before
    → preceded front (optionals form k (count - i) before) ≡ total
    → preceded (front ++ x ∷ []) (optionals form (k + 1) (count - (i + 1)) after) ≡ total
loop_takes form front k count i before after x total more e so_far =
    let left : count - i ≡ suc (count - (i + 1)) = omega arith in
    sym (optionals_step form front k (count - (i + 1)) before after (Some x) e) ∙ (rw left at so_far)

-- or without one,
pub loop_leaves : {A : Type 0} (form : ℕ → List ℕ → Option A) (front : List A) (k count i : ℕ) (before after : Reading)
    (total : List A × Reading)
    → i < count → (None, after) ≡ optional (form k) before
    → preceded front (optionals form k (count - i) before) ≡ total
    → preceded front (optionals form (k + 1) (count - (i + 1)) after) ≡ total
loop_leaves {A} form front k count i before after total more e so_far =
    let left : count - i ≡ suc (count - (i + 1)) = omega arith in
    ap (λ (xs : List A). preceded xs (optionals form (k + 1) (count - (i + 1)) after)) (sym (append-nil front))
    ∙ sym (optionals_step form front k (count - (i + 1)) before after None e) ∙ (rw left at so_far)

-- and is done after the last
pub loop_is_done : {A : Type 0} (form : ℕ → List ℕ → Option A) (front : List A) (k count i : ℕ) (before : Reading)
    (total : List A × Reading)
    → count ≤ i → preceded front (optionals form k (count - i) before) ≡ total → (front, before) ≡ total
unfolding optionals
loop_is_done {A} form front k count i before total all so_far =
    let left : count - i ≡ zero = omega arith in
    ap (λ (xs : List A). (xs, before)) (sym (append-nil front)) ∙ (rw left at so_far)
