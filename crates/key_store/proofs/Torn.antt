-- Files of which a range may hold any bytes.
use Rattle.std.proofs.Common.{◌≡◌, inl, inr, ℕ, ◌+◌, ◌-◌, ◌≤◌, List, length, take, drop, sym, ap, ◌∙◌, arith}
use Rattle.std.proofs.lemmas.List.{drop-drop, drop-take, length-take, take-take}
use Rattle.crash_disk.specs.Disk.{IsTorn}
use Rattle.key_store.specs.KeyFiles.{part}
use Rattle.crash_disk.proofs.Overwrites.{back_taken}
use Rattle.key_store.proofs.Parts.{IsApart}

-- a front before the range, and a back behind it
take-torn : (file image : List ℕ) (at m n : ℕ) → IsTorn file at m image → n ≤ at → take n image ≡ take n file
take-torn file image at m n torn before =
    sym (take-take n at image before) ∙ ap (take n) torn.before ∙ take-take n at file before

drop-torn : (file image : List ℕ) (at m k : ℕ) → IsTorn file at m image → at + m ≤ k → drop k image ≡ drop k file
drop-torn file image at m k torn after =
    let e : at + m + (k - (at + m)) ≡ k = omega arith in
    ap (λ (n : ℕ). drop n image) (sym e)
    ∙ sym (drop-drop (k - (at + m)) (at + m) image)
    ∙ ap (drop (k - (at + m))) torn.after
    ∙ drop-drop (k - (at + m)) (at + m) file
    ∙ ap (λ (n : ℕ). drop n file) e

-- what stands elsewhere
pub part-torn : (file image : List ℕ) (at m k n : ℕ) → IsTorn file at m image → IsApart k n at m → part image k n ≡ part file k n
unfolding part
part-torn file image at m k n torn (inl before) =
    sym (drop-take k n image) ∙ ap (drop k) (take-torn file image at m (k + n) torn before) ∙ drop-take k n file
part-torn file image at m k n torn (inr after) = ap (take n) (drop-torn file image at m k torn after)

pub length-torn : (file image : List ℕ) (at m : ℕ) → IsTorn file at m image → at + m ≤ length file → length image ≡ length file
length-torn file image at m torn within = omega (arith, torn.no_shorter, torn.no_longer)

-- a range inside another
pub torn_wider : (file mid image : List ℕ) (at m a n : ℕ) → IsTorn file at m mid → IsTorn mid a n image → at ≤ a → a + n ≤ at + m
    → IsTorn file at m image
torn_wider file mid image at m a n first second low high = record {
  before = take-torn mid image a n at second low ∙ first.before;
  after = drop-torn mid image a n (at + m) second high ∙ first.after;
  no_shorter = omega (arith, first.no_shorter, second.no_shorter);
  no_longer = omega (arith, first.no_longer, second.no_longer);
}

-- in the first 128 bytes
pub torn_front : (file image : List ℕ) (at m : ℕ) → IsTorn file at m image → at + m ≤ 128 → 128 ≤ length file
    → IsTorn (take 128 file) at m (take 128 image)
torn_front file image at m torn within long = record {
  before = take-take at 128 image (omega arith) ∙ torn.before ∙ sym (take-take at 128 file (omega arith));
  after = back_taken image 128 (at + m) ∙ ap (take (128 - (at + m))) torn.after ∙ sym (back_taken file 128 (at + m));
  no_shorter = omega (arith, torn.no_shorter, length-take 128 file, length-take 128 image);
  no_longer = omega (arith, torn.no_longer, length-take 128 file, length-take 128 image);
}

pub torn_more : (file image : List ℕ) (at m n : ℕ) → IsTorn file at m image → m ≤ n → IsTorn file at n image
torn_more file image at m n torn more = record {
  before = torn.before;
  after = drop-torn file image at m (at + n) torn (omega arith);
  no_shorter = torn.no_shorter;
  no_longer = omega (arith, torn.no_longer);
}
