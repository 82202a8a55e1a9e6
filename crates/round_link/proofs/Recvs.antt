-- Calls with more behind them, at each `recv`.
use Rattle.std.proofs.Common.{◌≡◌, ℕ, zero, suc, ◌<◌, List, [], ◌∷◌, ◌++◌, length, take, Option, Some, None, refl, sym, ap, ◌∙◌, subst, ⊎_elim, arith, length-append}
use Rattle.std.specs.Prelude.{slice_get}
use Rattle.std.proofs.lemmas.Bool.{cases_lt}
use Rattle.std.proofs.lemmas.List.{take-append-le}
use Rattle.std.proofs.lemmas.Option.{slice_get_past}
use Rattle.std.proofs.Math.Seq.{take-length}
use Rattle.round_link.specs.declared.link_call.LinkCall.{LinkCall}
use Rattle.round_link.specs.declared.link_call.LinkCall.TheVariants.{Received}
use Rattle.round_link.specs.Traffic.{AtEachRecv}

slice_get-front : {A : Type 0} (xs ys : List A) (i : ℕ) → i < length xs → slice_get (xs ++ ys) i ≡ slice_get xs i
slice_get-front [] ys i lt = absurd (omega (arith, lt))
slice_get-front (x ∷ xs) ys zero lt = refl
slice_get-front (x ∷ xs) ys (suc i) lt = slice_get-front xs ys i (omega (arith, lt))

slice_get-last : {A : Type 0} (xs : List A) (x : A) → slice_get (xs ++ x ∷ []) (length xs) ≡ Some x
slice_get-last [] x = refl
slice_get-last (y ∷ xs) x = slice_get-last xs x

slice_get-behind : {A : Type 0} (xs : List A) (x : A) (i : ℕ) → length xs < i → slice_get (xs ++ x ∷ []) i ≡ None
slice_get-behind xs x i lt = slice_get_past (xs ++ x ∷ []) i (omega (arith, length-append xs (x ∷ [])))

-- a call more, which is a `recv` only where P holds of those before it
pub recv-push : (P : List LinkCall → Type 0) (calls : List LinkCall) (call : LinkCall) → AtEachRecv calls P
    → ((frame : Option (List ℕ)) → call ≡ Received frame → P calls) → AtEachRecv (calls ++ call ∷ []) P
recv-push P calls call each last place frame is =
    ⊎_elim (λ lt. before lt) (λ le. ⊎_elim (λ lt. absurd (behind lt)) (λ le'. here (omega (arith, le, le'))) (cases_lt (length calls) place))
    (cases_lt place (length calls))
  where
    before : place < length calls → P (take place (calls ++ call ∷ []))
    before lt =
        subst P (sym (take-append-le place calls (call ∷ []) (omega (arith, lt)))) (each place frame (sym (slice_get-front calls (call ∷ []) place lt) ∙ is))

    behind : length calls < place → ⊥
    behind lt = let never = sym (slice_get-behind calls call place lt) ∙ is in cc

    here : place ≡ length calls → P (take place (calls ++ call ∷ []))
    here e =
        let same : call ≡ Received frame = (let at = sym (slice_get-last calls call) ∙ ap (slice_get (calls ++ call ∷ [])) (sym e) ∙ is in cc) in
        let whole : take place (calls ++ call ∷ []) ≡ calls =
        ap (λ (n : ℕ). take n (calls ++ call ∷ [])) e ∙ take-append-le (length calls) calls (call ∷ []) (omega arith) ∙ take-length calls in
        subst P (sym whole) (last frame same)

pub no_recv : (P : List LinkCall → Type 0) → AtEachRecv [] P
no_recv P place frame is = absurd cc
