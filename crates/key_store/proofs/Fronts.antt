-- Reading the front of a file.
use Rattle.std.proofs.Common.{◌≡◌, ℕ, ◌+◌, ◌-◌, ◌≤◌, List, ◌++◌, Option, Some, None, IfSome, length, take, drop, refl, sym, ap, ◌∙◌, subst, arith}
use Rattle.std.proofs.lemmas.List.{append-nil, take_all}
use Rattle.std.proofs.Math.Seq.{take-add}

-- the front was read as far as this
abbrev pub IsRead : (size : ℕ) (image file : List ℕ) → Type 0
IsRead size image file = (size ≤ length file) × (take size image ≡ take size file)

pub none_read : (told : Option (List ℕ)) (image : List ℕ) → IfSome told (IsRead 0 image)
none_read None image = tt
none_read (Some file) image = (omega arith, refl)

-- some more of it was read
abbrev pub More : (size taken : ℕ) (image now file : List ℕ) → Type 0
More size taken image now file = take (size + taken) now ≡ take size image ++ take taken (drop size file)

-- no more is there
pub front_ended : (told now : Option (List ℕ)) (size taken : ℕ) (image after : List ℕ) → now ≡ told → IfSome told (IsRead size image)
    → taken ≡ 0 → size ≤ 128 → IfSome now (More size taken image after) → IfSome now (λ file. length file ≤ size)
    → IfSome told (λ file. take size after ≡ take 128 file)
front_ended None now size taken image after same read none small more ended = tt
front_ended (Some file) now size taken image after same read none small more ended =
    let more_here : More size taken image after file = subst (λ (o : Option (List ℕ)). IfSome o (More size taken image after)) same more in
    let ended_here : length file ≤ size = subst (λ (o : Option (List ℕ)). IfSome o (λ f. length f ≤ size)) same ended in
    last size taken after image file none small more_here ended_here read.1
  where
    last : (size taken : ℕ) (after image file : List ℕ) → taken ≡ 0 → size ≤ 128 → More size taken image after file → length file ≤ size
        → take size image ≡ take size file → take size after ≡ take 128 file
    last size taken after image file none small more ended read =
        let e : size + taken ≡ size = omega arith in
        ap (λ (n : ℕ). take n after) (sym e) ∙ more ∙ ap (λ (n : ℕ). take size image ++ take n (drop size file)) none
        ∙ append-nil (take size image) ∙ read ∙ take_all size file ended ∙ sym (take_all 128 file (omega arith))

-- some more is there
pub front_more : (told now : Option (List ℕ)) (size taken : ℕ) (image after : List ℕ) → now ≡ told → IfSome told (IsRead size image)
    → IfSome now (More size taken image after) → IfSome now (λ file. taken ≤ length file - size)
    → IfSome told (IsRead (size + taken) after)
front_more None now size taken image after same read more within = tt
front_more (Some file) now size taken image after same read more within =
    let more_here : More size taken image after file = subst (λ (o : Option (List ℕ)). IfSome o (More size taken image after)) same more in
    let within_here : taken ≤ length file - size = subst (λ (o : Option (List ℕ)). IfSome o (λ f. taken ≤ length f - size)) same within in (
      omega (arith, read.0, within_here),
      more_here ∙ ap (λ (l : List ℕ). l ++ take taken (drop size file)) read.1 ∙ sym (take-add size taken file),
    )
