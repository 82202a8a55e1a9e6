-- What a round that is begun leaves at each moment.
use Rattle.std.proofs.Common.{◌≡◌, ℕ, ◌+◌, ◌<◌, ◌≤◌, ◌^◌, List, Option, Some, None, IfSome, Result, Ok, Err, IfOk, length, take, refl, sym, ap, ◌∙◌, subst, arith}
use Rattle.std.specs.Prelude.{IsSome}
use Rattle.lms_tree.specs.States.{made_leaves}
use Rattle.key_store.specs.declared.layout.KeyContent.{KeyContent}
use Rattle.crash_disk.specs.Disk.{Every, IsTorn, LeavesOf}
use Rattle.key_store.specs.KeyFiles.{IsAtRest, IsSlot, chosen, key_read, raised}
use Rattle.key_store.specs.Crashes.{IsMidway, IsPaired, IsRise, Keeps, KeepsFront, LeavesHalfRaised}
use Rattle.key_store.specs.Store.{begun_by}
use Rattle.key_store.proofs.Keys.{few_leaves}
use Rattle.key_store.proofs.Midway.{raised_paired}
use Rattle.key_store.proofs.Raised.{key_read-raised}
use Rattle.crash_disk.proofs.Moments.{started, torn_nowhere}

-- what is told is there
told_none : IsSome {T = List ℕ} None → ⊥
told_none some = cc

-- what a file says it keeps
pub keeps_itself : (content : KeyContent) (file : List ℕ) → key_read file ≡ Ok content → IsPaired file → Keeps content file
keeps_itself content file read paired = record {
  stands = content.kept;
  read = read;
  round = omega arith;
  next = omega arith;
  paired =
      paired;
}

-- a disk at rest leaves what its image keeps
pub rest_keeps : (told : Option (List ℕ)) (images : List ℕ → Type 0) (image : List ℕ) (least : KeyContent) → IsAtRest told images image
    → Keeps least image
    → IfSome told (λ _. Every images (KeepsFront least))
rest_keeps None images image least rest keeps = tt
rest_keeps (Some file) images image least rest keeps = λ left now.
    subst (Keeps least) (sym (ap (take 128) (rest.1 left now) ∙ rest.0)) keeps

module _ {D : Type 0} (told : D → Option (List ℕ)) (may_leave : D → List ℕ → Type 0) (moment : D → ℕ) (left_since : D → ℕ → List ℕ → Type 0)
    (only_now : (disk : D) (image : List ℕ) → left_since disk (moment disk) image → may_leave disk image) where
  -- a call that does not touch the disk
  pub still_midway : (disk : D) (image : List ℕ) (at : ℕ) → IsAtRest (told disk) (may_leave disk) image
      → IfOk (key_read image) (λ content. IsPaired image → LeavesOf moment left_since (told disk) disk disk (IsMidway content at))
  still_midway disk image at rest = by_read (key_read image) refl
    where
      by_told : (content : KeyContent) → Keeps content image → (o : Option (List ℕ)) → IsAtRest o (may_leave disk) image
          → LeavesOf moment left_since o disk disk (IsMidway content at)
      by_told content keeps None rest = tt
      by_told content keeps (Some file) rest =
          started may_leave moment left_since only_now disk (IsMidway content at file)
          (λ left now. subst (IsMidway content at file) (sym (rest.1 left now)) record
          { beside = torn_nowhere file at 13; keeps = subst (Keeps content) (sym rest.0) keeps })

      by_read : (r : Result KeyContent ℕ) → key_read image ≡ r → IfOk r
          (λ content. IsPaired image → LeavesOf moment left_since (told disk) disk disk (IsMidway content at))
      by_read (Ok content) read = λ paired. by_told content (keeps_itself content image read paired) (told disk) rest
      by_read (Err at) read = tt

-- ---- a raise for a round that may begin

module _ (content : KeyContent) (image : List ℕ) (at total round n : ℕ) (found : total ≡ made_leaves content.height)
    (chose : at ≡ chosen total image) (read : key_read image ≡ Ok content) (later : content.kept.round < round)
    (enough : content.kept.next + n ≤ made_leaves content.height) where
  pub place_is : at ≡ chosen (made_leaves content.height) image
  place_is = chose ∙ ap (λ (m : ℕ). chosen m image) found

  -- it is a rise where its slots are paired
  pub rises : 0 < n → IsPaired image → IsRise content image at round (content.kept.next + n)
  rises some paired = record {
    read = read;
    paired = paired;
    place = place_is;
    later = later;
    higher = omega arith;
    enough = enough;
  }

  -- what the file says behind it
  pub says_begun : (now : List ℕ) → length image ≡ 128 → IsSlot at → round < 2 ^ 64 → now ≡ raised image at round (content.kept.next + n)
      → key_read now ≡ Ok (begun_by content round n)
  says_begun now whole slot small raises =
      ap key_read raises ∙ key_read-raised image at round (content.kept.next + n) content whole slot small
      (omega (arith, few_leaves content.height, enough)) read
      (omega (arith, later)) (omega arith) enough

  -- the slots are paired again
  pub begun_paired : (now : List ℕ) → length image ≡ 128 → round < 2 ^ 64 → now ≡ raised image at round (content.kept.next + n) → 0 < n
      → IsPaired image → IsPaired now
  begun_paired now whole small raises some paired =
      subst IsPaired (sym raises) (raised_paired content image at round (content.kept.next + n) whole small (rises some paired))

  -- the file itself, which is one of its images
  module _ {D : Type 0} (told : D → Option (List ℕ)) (may_leave : D → List ℕ → Type 0) (moment : D → ℕ)
      (left_since : D → ℕ → List ℕ → Type 0)
      (read_is_image : (disk : D) → IfSome (told disk) (may_leave disk))
      (counts_now : (disk : D) (start : ℕ) (image : List ℕ) → start ≤ moment disk → may_leave disk image → left_since disk start image)
    where
      pub half_raised : (old new : D) → IsAtRest (told old) (may_leave old) image → (IsSome (told old) → IsSome (told new))
          → LeavesOf moment left_since (told old) old new (λ file. IsTorn file at 13)
          → (IsRise content image at round (content.kept.next + n) → LeavesOf moment left_since (told old) old new (IsMidway content at))
          → LeavesHalfRaised (told old) (told new) content n
      half_raised old new rest still beside midway = by_told (told old) (told new) (read_is_image new) rest still beside midway
        where
          by_told : (before now : Option (List ℕ)) → IfSome now (may_leave new) → IsAtRest before (may_leave old) image
              → (IsSome before → IsSome now)
              → LeavesOf moment left_since before old new (λ file. IsTorn file at 13)
              → (IsRise content image at round (content.kept.next + n) → LeavesOf moment left_since before old new (IsMidway content at))
              → LeavesHalfRaised before now content n
          by_told None now is rest still beside midway = tt
          by_told (Some file) None is rest still beside midway = absurd (told_none (still refl))
          by_told (Some file) (Some now) is rest still beside midway = record {
            beside = subst (λ (m : ℕ). IsTorn file m 13 now) (place_is ∙ ap (chosen (made_leaves content.height)) (sym rest.0))
                (beside.each now (counts_now new (moment old) now beside.later is));
            keeps = λ some paired.
                let run = midway (rises some (subst IsPaired rest.0 paired)) in
                (run.each now (counts_now new (moment old) now run.later is)).keeps;
          }
