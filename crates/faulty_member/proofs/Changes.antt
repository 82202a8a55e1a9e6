-- Changed items of lists.
use Rattle.std.proofs.Common.{◌≡◌, ℕ, List, [], length, All, ap, sym, ◌∙◌, inl, inr, subst, arith}
use Rattle.std.specs.Prelude.{slice_index_or}
use Rattle.std.specs.List.{slice_set}
use Rattle.std.proofs.lemmas.Bool.{cases_lt}
use Rattle.std.proofs.lemmas.List.{length-set, set-set, set_past}
use Rattle.std.proofs.lemmas.List.Elements.{All-set}
use Rattle.bulk_descriptor.specs.Descriptor.{IsDescriptor}
use Rattle.group_spec.specs.Alterations.{bit_changed, with_bit_changed, with_changed}

-- an item that was taken out, changed, and put back
pub changed-taken : (change : List ℕ → List ℕ) (items taken : List (List ℕ)) (place : ℕ) (item changed : List ℕ) →
    taken ≡ slice_set items place [] → item ≡ slice_index_or items place [] → changed ≡ change item →
    slice_set taken place changed ≡ with_changed change place items
unfolding with_changed
changed-taken change items taken place item changed left is made =
    ap (λ (t : List (List ℕ)). slice_set t place changed) left
    ∙ set-set items place [] changed
    ∙ ap (λ (x : List ℕ). slice_set items place x) (made ∙ ap change is)

-- changes of bits keep the length
pub length-bit : (place : ℕ) (bytes : List ℕ) → length (with_bit_changed place bytes) ≡ length bytes
unfolding with_bit_changed
length-bit place bytes = length-set bytes place (bit_changed (slice_index_or bytes place 0))

pub length-changed : (change : List ℕ → List ℕ) (place : ℕ) (items : List (List ℕ))
    → length (with_changed change place items) ≡ length items
unfolding with_changed
length-changed change place items = length-set items place (change (slice_index_or items place []))

-- a changed hash is a hash
hashes-changed : (place : ℕ) (hashes : List (List ℕ)) → All (λ hash. length hash ≡ 32) hashes →
    All (λ hash. length hash ≡ 32) (with_changed (with_bit_changed 0) place hashes)
unfolding with_changed
hashes-changed place hashes all =
    let hash : List ℕ = with_bit_changed 0 (slice_index_or hashes place []) in
    elim (cases_lt place (length hashes)) [
      | inl within ↦ All-set (λ hash. length hash ≡ 32) hashes place hash
          (length-bit 0 (slice_index_or hashes place []) ∙ all place [] within) all
      | inr past ↦ subst (λ (h : List (List ℕ)). All (λ hash. length hash ≡ 32) h) (sym (set_past hashes place hash past)) all
    ]

-- a descriptor with a changed pad hash is one
pub form-changed : (size place : ℕ) (message_hash : List ℕ) (hashes capsules : List (List ℕ)) →
    IsDescriptor size message_hash hashes capsules → IsDescriptor size message_hash (with_changed (with_bit_changed 0) place hashes)
    capsules
form-changed size place message_hash hashes capsules form =
    let same = length-changed (with_bit_changed 0) place hashes in
    record {
      short = form.short;
      hash = form.hash;
      least = omega (arith, form.least, same);
      most = omega (arith, form.most, same);
      as_many = form.as_many ∙ sym same;
      hashes = hashes-changed place hashes form.hashes;
      sizes = form.sizes;
      reduced = form.reduced;
    }
