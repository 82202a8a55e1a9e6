-- Which pad is flipped.
use Rattle.std.proofs.Common.{◌≡◌, ℕ, ◌<◌, ◌+◌, Bool, List, [], Option, None, ap, sym, ◌∙◌, inl, inr, subst, arith, length}
use Rattle.std.specs.Prelude.{◌&&◌, nat_lt, slice_index_or}
use Rattle.std.specs.Bool.{then_some}
use Rattle.std.proofs.lemmas.Bool.{cases_lt}
use Rattle.phase_message.specs.Shape.{Shape}
use Rattle.group_spec.specs.Alterations.{holds_of_another}

-- whether the pad of a slot may be flipped
abbrev pub may-flip : Shape → List ℕ → List (Option (List ℕ)) → List (List ℕ) → ℕ → Bool
may-flip shape own items pads place = holds_of_another shape own (slice_index_or items place None) && nat_lt 0
    (length (slice_index_or pads place []))

-- the slot, if its pad may be flipped
abbrev pub flipped-at : Shape → List ℕ → List (Option (List ℕ)) → List (List ℕ) → ℕ → Option ℕ
flipped-at shape own items pads place = then_some (may-flip shape own items pads place) place

-- what was tested of a slot
pub tested : (shape : Shape) (own : List ℕ) (items : List (Option (List ℕ))) (pads : List (List ℕ)) (place : ℕ) (holds result : Bool)
    (pad : List ℕ) →
    holds ≡ holds_of_another shape own (slice_index_or items place None) → slice_index_or pads place [] ≡ pad →
    result ≡ (holds && nat_lt 0 (length pad)) → flipped-at shape own items pads place ≡ then_some result place
tested shape own items pads place holds result pad is read test =
    let same : result ≡ may-flip shape own items pads place
    = test ∙ ap (λ (h : Bool). h && nat_lt 0 (length pad)) is
    ∙ ap (λ (p : List ℕ). holds_of_another shape own (slice_index_or items place None) && nat_lt 0 (length p)) (sym read) in
    ap (λ (b : Bool). then_some b place) (sym same)

-- one slot more
pub none-more : (f : ℕ → Option ℕ) (place : ℕ) → ((earlier : ℕ) → earlier < place → f earlier ≡ None) → f place ≡ None →
    (earlier : ℕ) → earlier < place + 1 → f earlier ≡ None
none-more f place before here earlier lt = elim (cases_lt earlier place) [
  | inl within ↦ before earlier within
  | inr past ↦ let same : place ≡ earlier = omega (arith, lt, past) in subst (λ (k : ℕ). f k ≡ None) same here
]
