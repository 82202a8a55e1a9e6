-- What a crash leaves while a key file is made.
use Rattle.std.proofs.Common.{◌≡◌, ℕ, List, Option, Some, None, IfSome, length, ◌∙◌, subst, arith}
use Rattle.crash_disk.specs.Disk.{Elapses, ImagesTear, IsTorn, IsTornOf, LeavesOf, LeavesOnly, Writes, overwritten}
use Rattle.crash_disk.proofs.Overwrites.{overwritten_torn}
use Rattle.crash_disk.proofs.Moments.{goes_on, joined, started, torn_nowhere, weaker}
use Rattle.key_store.proofs.Torn.{torn_wider}

-- a file whose front was written, and in which a byte of the front may be torn
front_torn : (file image left : List ℕ) → length image ≡ 128 → IsTorn (overwritten file 0 image) 64 1 left → IsTorn file 0 128 left
front_torn file image left whole torn =
    torn_wider file (overwritten file 0 image) left 0 128 64 1
    (subst (λ (n : ℕ). IsTorn file 0 n (overwritten file 0 image)) whole (overwritten_torn file 0 image (omega arith))) torn (omega arith)
    (omega arith)

module _ {D : Type 0} (told : D → Option (List ℕ)) (may_leave : D → List ℕ → Type 0) (moment : D → ℕ) (left_since : D → ℕ → List ℕ → Type 0)
    (only_now : (disk : D) (image : List ℕ) → left_since disk (moment disk) image → may_leave disk image) where
  -- before the first call
  pub untouched : (disk : D) → LeavesOnly moment left_since disk disk (IsTornOf (may_leave disk) 0 128)
  untouched disk =
      started may_leave moment left_since only_now disk (IsTornOf (may_leave disk) 0 128)
      (λ image left. (image, left, torn_nowhere image 0 128))

  -- the front is written
  pub front_written : (old new : D) (n : ℕ) → n ≡ 128 → ImagesTear (may_leave old) (may_leave new) 0 n
      → Elapses (moment old) (moment new) (left_since old) (left_since new) (may_leave new)
      → LeavesOnly moment left_since old new (IsTornOf (may_leave old) 0 128)
  front_written old new n whole tears time =
      goes_on may_leave moment left_since old old new (IsTornOf (may_leave old) 0 128) (untouched old) time
      (λ image left. subst (λ (n : ℕ). IsTornOf (may_leave old) 0 n image) whole (tears image left))

  -- and brought onto the disk
  pub front_synced : (old mid new : D) (n : ℕ) → n ≡ 128 → ImagesTear (may_leave old) (may_leave mid) 0 n
      → Elapses (moment old) (moment mid) (left_since old) (left_since mid) (may_leave mid)
      → ((image : List ℕ) → may_leave new image → may_leave mid image)
      → Elapses (moment mid) (moment new) (left_since mid) (left_since new) (may_leave new)
      → LeavesOnly moment left_since old new (IsTornOf (may_leave old) 0 128)
  front_synced old mid new n whole tears time same later =
      goes_on may_leave moment left_since old mid new (IsTornOf (may_leave old) 0 128) (front_written old mid n whole tears time) later
      (λ image left. subst (λ (n : ℕ). IsTornOf (may_leave old) 0 n image) whole (tears image (same image left)))

  -- a gate of a file that is told is written
  pub gate_put : ((disk : D) → IfSome (told disk) (may_leave disk)) → (old mid new : D) (wrote synced : Option (List ℕ)) (image : List ℕ)
      → length image ≡ 128
      → Writes (told old) wrote 0 image → synced ≡ wrote → LeavesOnly moment left_since old mid (IsTornOf (may_leave old) 0 128)
      → LeavesOf moment left_since synced mid new (λ file. IsTorn file 64 1)
      → IfSome (told old) (λ _. LeavesOnly moment left_since old new (IsTornOf (may_leave old) 0 128))
  gate_put read_is_image old mid new wrote synced image whole writes same run more = by_told (told old) (read_is_image old) writes
    where
      by_told : (o : Option (List ℕ)) → IfSome o (may_leave old) → Writes o wrote 0 image
          → IfSome o (λ _. LeavesOnly moment left_since old new (IsTornOf (may_leave old) 0 128))
      by_told None here writes = tt
      by_told (Some file) here writes =
          let step : LeavesOnly moment left_since mid new (IsTorn (overwritten file 0 image) 64 1) =
          subst (λ (o : Option (List ℕ)). LeavesOf moment left_since o mid new (λ file. IsTorn file 64 1)) (same ∙ writes.1) more in
          joined may_leave moment left_since old mid new (IsTornOf (may_leave old) 0 128) run
          (weaker may_leave moment left_since mid new (IsTorn (overwritten file 0 image) 64 1) (IsTornOf (may_leave old) 0 128)
          (λ left torn. (file, here, front_torn file image left whole torn)) step)

-- where a file is told, or not
pub if_some : {X : Type 0} (o : Option (List ℕ)) → X → IfSome o (λ _. X)
if_some None h = tt
if_some (Some file) h = h
