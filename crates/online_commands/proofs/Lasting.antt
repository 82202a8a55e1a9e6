-- A result that has ended is that of more deliveries too.
use Rattle.std.proofs.Common.{◌≡◌, ℕ, suc, ◌≤◌, List, [], ◌∷◌, ◌++◌, length, take, append_assoc, append-nil, Option, Some, None, refl, sym, ap, ◌∙◌, subst, arith}
use Rattle.std.specs.Prelude.{option_map}
use Rattle.std.proofs.lemmas.List.{take-append-le}
use Rattle.wire_core.proofs.AnswerLemmas.{first_below-found}
use Rattle.round_spec.specs.Deliveries.{with_last}
use Rattle.round_spec.specs.Result.{ending_at, ending_of, least_ending, outcome_by, outcome_ended, result_of, stand_after}
use Rattle.round_spec.specs.Say.{Configuration}
use Rattle.round_spec.specs.Verdict.{Verdict}
use Rattle.round_spec.proofs.Deliveries.{least-ending-grows}
use Rattle.online_commands.specs.TakingPart.{WaitsOnlyIf}

mapped-some : {A B : Type 0} (f : A → B) (o : Option A) (x : B) → option_map f o ≡ Some x → (v : A) × (f v ≡ x)
mapped-some f None x is = absurd cc
mapped-some f (Some v) x is = (v, cc)

ended-lasts : (c : Configuration) (frames rest : List (List ℕ)) (ending : ℕ × Verdict) → least_ending c frames ≡ Some ending
    → least_ending c (frames ++ rest) ≡ Some ending
ended-lasts c frames [] ending is = subst (λ (d : List (List ℕ)). least_ending c d ≡ Some ending) (sym (append-nil frames)) is
ended-lasts c frames (bytes ∷ rest) ending is =
    subst (λ (d : List (List ℕ)). least_ending c d ≡ Some ending) (append_assoc frames (bytes ∷ []) rest)
    (ended-lasts c (with_last frames bytes) rest ending ((least-ending-grows c frames bytes).stays ending is))

ends-within : (c : Configuration) (frames : List (List ℕ)) (ending : ℕ × Verdict) → least_ending c frames ≡ Some ending
    → ending.0 ≤ length frames
unfolding least_ending
ends-within c frames ending is =
    let found = first_below-found (ending_at c frames) (suc (length frames)) ending is in
    let parts = mapped-some (λ (verdict : Verdict). (found.0, verdict)) (ending_of c (take found.0 frames)) ending found.2 in
    let first : found.0 ≤ length frames = omega (arith, found.1) in
    subst (λ (x : ℕ × Verdict). x.0 ≤ length frames) parts.1 first

by-least : (c : Configuration) (frames rest : List (List ℕ)) (o : Option (ℕ × Verdict)) → least_ending c frames ≡ o
    → WaitsOnlyIf ⊥ (outcome_by c frames o)
    → outcome_by c (frames ++ rest) (least_ending c (frames ++ rest)) ≡ outcome_by c frames (least_ending c frames)
by-least c frames rest None is ends = absurd ends
by-least c frames rest (Some ending) is ends =
    ap (outcome_by c (frames ++ rest)) (ended-lasts c frames rest ending is)
    ∙ ap (λ (d : List (List ℕ)). outcome_ended c (stand_after c d) ending.1)
    (take-append-le ending.0 frames rest (ends-within c frames ending is))
    ∙ sym (ap (outcome_by c frames) is)

pub result-lasts : (c : Configuration) (frames rest : List (List ℕ)) → WaitsOnlyIf ⊥ (result_of c frames)
    → result_of c (frames ++ rest) ≡ result_of c frames
unfolding result_of
result-lasts c frames rest ends = by-least c frames rest (least_ending c frames) refl ends
