-- What writes leave of a file that a disk may tell.
use Rattle.std.proofs.Common.{◌≡◌, ◌≢◌, ℕ, ◌+◌, ◌<◌, ◌≤◌, List, [], ◌∷◌, ◌++◌, Option, Some, None, IfSome, IsSomeAnd, length, take, drop, slice_index, refl, sym, ap, ◌∙◌, subst, arith}
use Rattle.std.specs.Prelude.{IsSome, option_map}
use Rattle.std.proofs.lemmas.List.{get_or-take, length-take, take_at, take_more, take-append-drop}
use Rattle.crash_disk.specs.Disk.{Elapses, ImagesTear, IsTorn, LeavesOf, Only, Tears, Writes, overwritten}
use Rattle.key_store.specs.KeyFiles.{IsAtRest, IsClosing, Mirrors, closed}
use Rattle.crash_disk.proofs.Moments.{goes_on, started, torn_nowhere, torn_only, weaker}
use Rattle.crash_disk.proofs.Overwrites.{overwritten_torn, take-overwritten}

-- the file is as long as the image
pub mirror_length : (file image : List ℕ) → take 128 file ≡ image → length image ≡ 128 → 128 ≤ length file
mirror_length file image mirrors whole = omega (arith, ap length mirrors, length-take 128 file)

pub written_told : (old new : Option (List ℕ)) (bytes : List ℕ) (at : ℕ) → Writes old new at bytes
    → new ≡ option_map (λ file. overwritten file at bytes) old
written_told None new bytes at writes = writes
written_told (Some file) new bytes at writes = writes.1

-- the image and the file change alike
pub mirrors-overwritten : (told : Option (List ℕ)) (image bytes : List ℕ) (at : ℕ) → length image ≡ 128 → at + length bytes ≤ 128
    → Mirrors told image → Mirrors (option_map (λ file. overwritten file at bytes) told) (overwritten image at bytes)
mirrors-overwritten None image bytes at whole within mirrors = tt
mirrors-overwritten (Some file) image bytes at whole within mirrors =
    let long = mirror_length file image mirrors whole in
    take-overwritten file at bytes 128 128 (omega arith) (omega (arith, long)) (omega arith)
    ∙ ap (λ (l : List ℕ). overwritten l at bytes) mirrors

pub tears-written : (old new : Option (List ℕ)) (at : ℕ) (bytes : List ℕ) → Writes old new at bytes → Tears old new at (length bytes)
tears-written None new at bytes writes = writes
tears-written (Some file) new at bytes writes =
    subst (λ (o : Option (List ℕ)). IsSomeAnd o (IsTorn file at (length bytes))) (sym writes.1) (overwritten_torn file at bytes writes.0)

-- a file that is told goes on to be told
pub tears_told : (old new : Option (List ℕ)) (at n : ℕ) → Tears old new at n → IsSome old → IsSome new
tears_told None new at n tears some = absurd (cc)
tears_told (Some file) None at n tears some = absurd tears
tears_told (Some file) (Some now) at n tears some = refl

-- a gate that reads 0 is closed
pub closed_already : (file : List ℕ) (at : ℕ) → at < length file → slice_index file at ≡ 0 → closed file at ≡ file
unfolding overwritten
closed_already file at within zero =
    ap (λ (b : ℕ). take at file ++ (b ∷ []) ++ drop (at + 1) file) (sym zero)
    ∙ ap (λ (l : List ℕ). l ++ drop (at + 1) file) (sym (take_more file at 0 within))
    ∙ take-append-drop (at + 1) file

pub closed_mirrored : (told : Option (List ℕ)) (image : List ℕ) (at : ℕ) → length image ≡ 128 → at < 128 → Mirrors told image
    → slice_index image at ≡ 0 → told ≡ option_map (λ file. closed file at) told
closed_mirrored None image at whole within mirrors zero = refl
closed_mirrored (Some file) image at whole within mirrors zero =
    let long = mirror_length file image mirrors whole in
    let gate : slice_index file at ≡ 0 =
    sym (get_or-take 128 file at 0 within) ∙ ap (λ (l : List ℕ). slice_index l at) mirrors ∙ zero in
    ap (λ (l : List ℕ). Some l) (sym (closed_already file at (omega (arith, long)) gate))

-- after a write that is Done and a sync
pub record IsPut (old new : Option (List ℕ)) (image : List ℕ) (at : ℕ) (bytes : List ℕ) : Type 0 where
  pub done : new ≡ option_map (λ file. overwritten file at bytes) old
  pub current : Mirrors new (overwritten image at bytes)
  pub torn : Tears old new at (length bytes)

pub is_put : (old mid new : Option (List ℕ)) (image bytes : List ℕ) (at : ℕ) → length image ≡ 128 → at + length bytes ≤ 128
    → Mirrors old image → Writes old mid at bytes → new ≡ mid → IsPut old new image at bytes
is_put old mid new image bytes at whole within mirrors writes same =
    let done : new ≡ option_map (λ file. overwritten file at bytes) old = same ∙ written_told old mid bytes at writes in
    record {
      done = done;
      current = subst (λ (o : Option (List ℕ)). Mirrors o (overwritten image at bytes)) (sym done)
          (mirrors-overwritten old image bytes at whole within mirrors);
      torn = subst (λ (o : Option (List ℕ)). Tears old o at (length bytes)) (sym same) (tears-written old mid at bytes writes);
    }

only_bytes : (file image : List ℕ) → length image ≡ 128 → take 128 (overwritten file 0 image) ≡ image
unfolding overwritten
only_bytes file image whole = take_at image (drop (0 + length image) file) 128 whole

-- a file over whose front an image was written mirrors it
pub made_mirrored : (old mid new : Option (List ℕ)) (image : List ℕ) → length image ≡ 128 → Writes old mid 0 image → new ≡ mid
    → Mirrors new image
made_mirrored None mid new image whole writes same = subst (λ (o : Option (List ℕ)). Mirrors o image) (sym (same ∙ writes)) tt
made_mirrored (Some file) mid new image whole writes same =
    subst (λ (o : Option (List ℕ)). Mirrors o image) (sym (same ∙ writes.1)) (only_bytes file image whole)

-- the file mirrors the image, and is what a crash leaves
pub at_rest : (told : Option (List ℕ)) (images : List ℕ → Type 0) (image : List ℕ) → Mirrors told image
    → IfSome told (λ file. Only file images) → IsAtRest told images image
at_rest None images image mirrors only = tt
at_rest (Some file) images image mirrors only = (mirrors, only)

pub rest_mirrors : (told : Option (List ℕ)) (images : List ℕ → Type 0) (image : List ℕ) → IsAtRest told images image → Mirrors told image
rest_mirrors None images image rest = tt
rest_mirrors (Some file) images image rest = rest.0

pub rest_only : (told : Option (List ℕ)) (images : List ℕ → Type 0) (image : List ℕ) → IsAtRest told images image
    → IfSome told (λ file. Only file images)
rest_only None images image rest = tt
rest_only (Some file) images image rest = rest.1

pub same_mirrors : (told now : Option (List ℕ)) (image : List ℕ) → now ≡ told → Mirrors told image → Mirrors now image
same_mirrors told now image same mirrors = subst (λ (o : Option (List ℕ)). Mirrors o image) (sym same) mirrors

-- after a sync that is Done
pub synced_rest : (mid new : Option (List ℕ)) (images : List ℕ → Type 0) (image : List ℕ) → new ≡ mid → Mirrors new image
    → IfSome mid (λ file. Only file images) → IsAtRest new images image
synced_rest mid new images image same mirrors only =
    at_rest new images image mirrors (subst (λ (o : Option (List ℕ)). IfSome o (λ file. Only file images)) (sym same) only)

-- ---- what a crash leaves meanwhile

module _ {D : Type 0} (told : D → Option (List ℕ)) (may_leave : D → List ℕ → Type 0) (moment : D → ℕ) (left_since : D → ℕ → List ℕ → Type 0)
    (only_now : (disk : D) (image : List ℕ) → left_since disk (moment disk) image → may_leave disk image) where
  -- a write
  pub leaves-write : (old new : D) (image : List ℕ) (at n : ℕ) → IsAtRest (told old) (may_leave old) image
      → ImagesTear (may_leave old) (may_leave new) at n
      → Elapses (moment old) (moment new) (left_since old) (left_since new) (may_leave new)
      → LeavesOf moment left_since (told old) old new (λ file. IsTorn file at n)
  leaves-write old new image at n rest tears time = by_case (told old) rest
    where
      by_case : (o : Option (List ℕ)) → IsAtRest o (may_leave old) image → LeavesOf moment left_since o old new (λ file. IsTorn file at n)
      by_case None rest = tt
      by_case (Some file) rest =
          goes_on may_leave moment left_since old old new (IsTorn file at n)
          (started may_leave moment left_since only_now old (IsTorn file at n)
          (λ image left. subst (IsTorn file at n) (sym (rest.1 image left)) (torn_nowhere file at n)))
          time (torn_only (may_leave old) (may_leave new) file at n rest.1 tears)

  -- a write and a sync
  pub leaves-put : (old mid new : D) (image : List ℕ) (at n : ℕ) → IsAtRest (told old) (may_leave old) image
      → ImagesTear (may_leave old) (may_leave mid) at n
      → Elapses (moment old) (moment mid) (left_since old) (left_since mid) (may_leave mid)
      → ((image : List ℕ) → may_leave new image → may_leave mid image)
      → Elapses (moment mid) (moment new) (left_since mid) (left_since new) (may_leave new)
      → LeavesOf moment left_since (told old) old new (λ file. IsTorn file at n)
  leaves-put old mid new image at n rest tears time same later = by_case (told old) rest (leaves-write old mid image at n rest tears time)
    where
      by_case : (o : Option (List ℕ)) → IsAtRest o (may_leave old) image → LeavesOf moment left_since o old mid (λ file. IsTorn file at n)
          → LeavesOf moment left_since o old new (λ file. IsTorn file at n)
      by_case None rest run = tt
      by_case (Some file) rest run =
          goes_on may_leave moment left_since old mid new (IsTorn file at n) run later
          (λ image left. torn_only (may_leave old) (may_leave mid) file at n rest.1 tears image (same image left))

  -- a sync where the gate is closed already
  pub leaves-closed : (old new : D) (image : List ℕ) (at : ℕ) → IsAtRest (told old) (may_leave old) image
      → ((image : List ℕ) → may_leave new image → may_leave old image)
      → Elapses (moment old) (moment new) (left_since old) (left_since new) (may_leave new)
      → LeavesOf moment left_since (told old) old new (IsClosing at)
  leaves-closed old new image at rest same time = by_case (told old) rest
    where
      by_case : (o : Option (List ℕ)) → IsAtRest o (may_leave old) image → LeavesOf moment left_since o old new (IsClosing at)
      by_case None rest = tt
      by_case (Some file) rest =
          let here : (image : List ℕ) → may_leave old image → IsClosing at file image =
          λ image left. subst (IsClosing at file) (sym (rest.1 image left)) record
          { beside = torn_nowhere file at 1; closed_already = λ zero. refl } in
          goes_on may_leave moment left_since old old new (IsClosing at file)
          (started may_leave moment left_since only_now old (IsClosing at file) here) time
          (λ image left. here image (same image left))

  -- a write and a sync where it is not
  pub leaves-closing : (old new : D) (image : List ℕ) (at : ℕ) → length image ≡ 128 → at < 128 → slice_index image at ≢ 0
      → IsAtRest (told old) (may_leave old) image
      → LeavesOf moment left_since (told old) old new (λ file. IsTorn file at 1)
      → LeavesOf moment left_since (told old) old new (IsClosing at)
  leaves-closing old new image at whole within gate rest run = by_case (told old) rest run
    where
      by_case : (o : Option (List ℕ)) → IsAtRest o (may_leave old) image → LeavesOf moment left_since o old new (λ file. IsTorn file at 1)
          → LeavesOf moment left_since o old new (IsClosing at)
      by_case None rest run = tt
      by_case (Some file) rest run =
          weaker may_leave moment left_since old new (IsTorn file at 1) (IsClosing at file)
          (λ image torn. record { beside = torn; closed_already = λ zero. absurd (gate (gate_told file rest.0 zero)) }) run
        where
          gate_told : (file : List ℕ) → take 128 file ≡ image → slice_index file at ≡ 0 → slice_index image at ≡ 0
          gate_told file mirrors zero = ap (λ (l : List ℕ). slice_index l at) (sym mirrors) ∙ get_or-take 128 file at 0 within ∙ zero
