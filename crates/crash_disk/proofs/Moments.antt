-- How a run of disk calls goes on, as to what a crash at any moment of it leaves.
use Rattle.std.proofs.Common.{inl, inr, ⊎_elim, ℕ, List, arith, refl, subst}
use Rattle.crash_disk.specs.Disk.{Elapses, Every, ImagesTear, IsTorn, LeavesOnly, Only}

pub torn_nowhere : (file : List ℕ) (at n : ℕ) → IsTorn file at n file
torn_nowhere file at n = record { before = refl; after = refl; no_shorter = omega arith; no_longer = omega arith }

-- a write to a file that is on the disk
pub torn_only : (old new : List ℕ → Type 0) (file : List ℕ) (at n : ℕ) → Only file old → ImagesTear old new at n
    → Every new (IsTorn file at n)
torn_only old new file at n only tears image left =
    let from = tears image left in
    subst (λ (l : List ℕ). IsTorn l at n image) (only from.0 from.1) from.2

module _ {D : Type 0} (may_leave : D → List ℕ → Type 0) (moment : D → ℕ) (left_since : D → ℕ → List ℕ → Type 0) where
  -- before the first call
  pub started : ((disk : D) (image : List ℕ) → left_since disk (moment disk) image → may_leave disk image)
      → (old : D) (P : List ℕ → Type 0) → Every (may_leave old) P → LeavesOnly moment left_since old old P
  started only_now old P here = record {
    later = omega arith;
    each = λ image left. here image (only_now old image left);
    before = λ start image until left. inl left;
  }

  -- one call more
  pub goes_on : (old mid new : D) (P : List ℕ → Type 0) → LeavesOnly moment left_since old mid P
      → Elapses (moment mid) (moment new) (left_since mid) (left_since new) (may_leave new) → Every (may_leave new) P
      → LeavesOnly moment left_since old new P
  goes_on old mid new P so_far time here = record {
    later = omega (arith, so_far.later, time.later);
    each = λ image left. ⊎_elim (so_far.each image) (here image) (time.nothing_else (moment old) image so_far.later left);
    before = λ start image until left.
        ⊎_elim (so_far.before start image until) (λ now. inr (here image now))
        (time.nothing_else start image (omega (arith, until, so_far.later)) left);
  }

  -- a run behind another
  pub joined : (old mid new : D) (P : List ℕ → Type 0) → LeavesOnly moment left_since old mid P → LeavesOnly moment left_since mid new P
      → LeavesOnly moment left_since old new P
  joined old mid new P first second = record {
    later = omega (arith, first.later, second.later);
    each = λ image left. ⊎_elim (first.each image) (λ now. now) (second.before (moment old) image first.later left);
    before = λ start image until left.
        ⊎_elim (first.before start image until) (λ now. inr now) (second.before start image (omega (arith, until, first.later)) left);
  }

  pub weaker : (old new : D) (P Q : List ℕ → Type 0) → ((image : List ℕ) → P image → Q image) → LeavesOnly moment left_since old new P
      → LeavesOnly moment left_since old new Q
  weaker old new P Q more run = record {
    later = run.later;
    each = λ image left. more image (run.each image left);
    before = λ start image until left. ⊎_elim (λ was. inl was) (λ now. inr (more image now)) (run.before start image until left);
  }
