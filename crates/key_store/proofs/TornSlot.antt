-- What a raise changes of a file: the thirteen bytes of its slot alone.
use Rattle.std.proofs.Common.{◌≡◌, [], ◌∷◌, ℕ, ◌+◌, ◌≤◌, List, Option, Some, None, length, refl, sym, ap, ◌∙◌, subst, arith}
use Rattle.std.specs.Prelude.{option_map}
use Rattle.crash_disk.specs.Disk.{IsTorn, LeavesOf}
use Rattle.key_store.specs.KeyFiles.{IsAtRest, IsClosing, IsSlot, Mirrors, closed, numbers, written}
use Rattle.key_store.proofs.Files.{mirror_length}
use Rattle.crash_disk.proofs.Overwrites.{overwritten_torn}
use Rattle.crash_disk.proofs.Moments.{joined, started, torn_nowhere, weaker}
use Rattle.key_store.proofs.Raised.{slot_within}
use Rattle.key_store.proofs.Torn.{length-torn, torn_more, torn_wider}

pub size_of_numbers : (round next : ℕ) → length (numbers round next) ≡ 12
size_of_numbers round next = refl

-- a file with its slot closed, and written
pub closed_torn : (file : List ℕ) (at : ℕ) → at + 13 ≤ length file → IsTorn file at 13 (closed file at)
closed_torn file at within = torn_more file (closed file at) at 1 13 (overwritten_torn file at (0 ∷ []) (omega arith)) (omega arith)

pub written_torn : (file : List ℕ) (at round next : ℕ) → at + 13 ≤ length file → IsTorn file at 13 (written (closed file at) at round next)
written_torn file at round next within =
    let first = closed_torn file at within in
    let size : length (closed file at) ≡ length file = length-torn file (closed file at) at 13 first within in
    torn_wider file (closed file at) (written (closed file at) at round next) at 13 (at + 1) 12 first
    (subst (λ (n : ℕ). IsTorn (closed file at) (at + 1) n (written (closed file at) at round next)) (size_of_numbers round next)
    (overwritten_torn (closed file at) (at + 1) (numbers round next) (omega (arith, size, within))))
    (omega arith) (omega arith)

-- ---- in a file that a disk tells

module _ (image : List ℕ) (at round next : ℕ) (whole : length image ≡ 128) (slot : IsSlot at) where
  within : (file : List ℕ) → Mirrors (Some file) image → at + 13 ≤ length file
  within file mirrors = omega (arith, slot_within at 128 refl slot, mirror_length file image mirrors whole)

  module _ {D : Type 0} (may_leave : D → List ℕ → Type 0) (moment : D → ℕ) (left_since : D → ℕ → List ℕ → Type 0) where
    pub slot_closing : (told : Option (List ℕ)) (old new : D) → LeavesOf moment left_since told old new (IsClosing at)
        → LeavesOf moment left_since told old new (λ file. IsTorn file at 13)
    slot_closing None old new run = tt
    slot_closing (Some file) old new run =
        weaker may_leave moment left_since old new (IsClosing at file) (IsTorn file at 13)
        (λ left closing. torn_more file left at 1 13 closing.beside (omega arith)) run

    pub slot_writing : (told mid_told : Option (List ℕ)) (old mid new : D) → Mirrors told image
        → mid_told ≡ option_map (λ file. closed file at) told
        → LeavesOf moment left_since told old mid (λ file. IsTorn file at 13)
        → LeavesOf moment left_since mid_told mid new (λ file. IsTorn file (at + 1) 12)
        → LeavesOf moment left_since told old new (λ file. IsTorn file at 13)
    slot_writing None mid_told old mid new mirrors is run more = tt
    slot_writing (Some file) mid_told old mid new mirrors is run more =
        let step = subst (λ (o : Option (List ℕ)). LeavesOf moment left_since o mid new (λ file. IsTorn file (at + 1) 12)) is more in
        joined may_leave moment left_since old mid new (IsTorn file at 13) run
        (weaker may_leave moment left_since mid new (IsTorn (closed file at) (at + 1) 12) (IsTorn file at 13)
        (λ left torn. torn_wider file (closed file at) left at 13 (at + 1) 12 (closed_torn file at (within file mirrors)) torn (omega arith)
        (omega arith)) step)

    pub slot_opening : (told mid_told last_told : Option (List ℕ)) (old mid new : D) → Mirrors told image
        → mid_told ≡ option_map (λ file. closed file at) told
        → last_told ≡ option_map (λ file. written file at round next) mid_told
        → LeavesOf moment left_since told old mid (λ file. IsTorn file at 13)
        → LeavesOf moment left_since last_told mid new (λ file. IsTorn file at 1)
        → LeavesOf moment left_since told old new (λ file. IsTorn file at 13)
    slot_opening None mid_told last_told old mid new mirrors is last run more = tt
    slot_opening (Some file) mid_told last_told old mid new mirrors is last run more =
        let told_is : last_told ≡ Some (written (closed file at) at round next) = last
        ∙ ap (option_map (λ (l : List ℕ). written l at round next)) is in
        let step = subst (λ (o : Option (List ℕ)). LeavesOf moment left_since o mid new (λ file. IsTorn file at 1)) told_is more in
        joined may_leave moment left_since old mid new (IsTorn file at 13) run
        (weaker may_leave moment left_since mid new (IsTorn (written (closed file at) at round next) at 1) (IsTorn file at 13)
        (λ left torn. torn_wider file (written (closed file at) at round next) left at 13 at 1
        (written_torn file at round next (within file mirrors)) torn (omega arith) (omega arith)) step)

-- a disk at rest that no call touches
pub slot_stays : {D : Type 0} (told : D → Option (List ℕ)) (may_leave : D → List ℕ → Type 0) (moment : D → ℕ)
    (left_since : D → ℕ → List ℕ → Type 0)
    → ((disk : D) (image : List ℕ) → left_since disk (moment disk) image → may_leave disk image)
    → (disk : D) (image : List ℕ) (at : ℕ) → IsAtRest (told disk) (may_leave disk) image
    → LeavesOf moment left_since (told disk) disk disk (λ file. IsTorn file at 13)
slot_stays {D} told may_leave moment left_since only_now disk image at rest = by_told (told disk) rest
  where
    by_told : (o : Option (List ℕ)) → IsAtRest o (may_leave disk) image → LeavesOf moment left_since o disk disk (λ file. IsTorn file at 13)
    by_told None rest = tt
    by_told (Some file) rest =
        started may_leave moment left_since only_now disk (IsTorn file at 13)
        (λ left now. subst (IsTorn file at 13) (sym (rest.1 left now)) (torn_nowhere file at 13))
