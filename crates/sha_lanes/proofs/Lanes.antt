-- Each of four digests is that of its own string.
use Rattle.std.proofs.Common.{◌≡◌, ℕ, ◌<◌, List, [], map, length, slice_index_or, arith, ap, ◌∙◌}
use Rattle.std.proofs.lemmas.List.{get_or-map}
use Rattle.sha2.specs.Sha256.{sha256}

-- the digest in lane k is that of string k
pub lane-digest : (strings digests : List (List ℕ)) → length strings ≡ 4 → digests ≡ map sha256 strings → (k : ℕ) → k < 4
    → slice_index_or digests k [] ≡ sha256 (slice_index_or strings k [])
lane-digest strings digests four e k below = ap (λ d. slice_index_or d k []) e ∙ get_or-map sha256 strings k [] [] (omega arith)
