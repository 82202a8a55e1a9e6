-- The images of a disk in memory that a crash may be told to leave.
use Rattle.std.proofs.Common.{◌≡◌, inl, inr, ℕ, ◌≤◌, List, [], ◌∷◌, ◌++◌, length, take, refl, sym, ap, ◌∙◌, subst, arith}
use Rattle.std.specs.Prelude.{replicate}
use Rattle.std.proofs.lemmas.List.{length-replicate, length-take-le, take-replicate}
use Rattle.crash_disk.specs.declared.images.Images.{Images}
use Rattle.crash_disk.specs.declared.steps_taken.Step.{Step}
use Rattle.crash_disk.specs.declared.steps_taken.Step.TheVariants.{Wrote, Synced, Emptied}
use Rattle.crash_disk.specs.declared.steps_taken.Pick.{Pick}
use Rattle.crash_disk.specs.declared.steps_taken.Pick.TheVariants.{Old, New, Ones}
use Rattle.crash_disk.specs.Disk.{IsTorn, overwritten}
use Rattle.crash_disk.specs.Memory.{Contents, DiskState, IsTornIn, MayLeave, Range, StepFits, after_look, after_step, after_steps, contents_of, file_of, filled_in, image_of, picked, synced}
use Rattle.crash_disk.specs.Picks.{AreImagesOf, after_step_of, image_in, same_images}
use Rattle.crash_disk.proofs.Disks.{after_steps-push}
use Rattle.crash_disk.proofs.Overwrites.{overwritten_torn}
use Rattle.crash_disk.proofs.Moments.{torn_nowhere}
use Rattle.crash_disk.proofs.Overwrites.{length-overwritten}

-- a file on the disk has one image
pub images_synced : (file : List ℕ) (images : Images) → images ≡ same_images file → AreImagesOf (synced file) images
images_synced file images is =
    subst (AreImagesOf (synced file)) (sym is) record { durable = refl; file = refl; ones = refl; torn = refl; alike = refl }

-- one step more
pub images_step : (c : Contents) (images : Images) (step : Step) → AreImagesOf c images → StepFits images.file step
    → AreImagesOf (after_step c step) (after_step_of images step)
images_step c images (Wrote at size bytes) are fits =
    let n : length (take size bytes) ≡ size = length-take-le size bytes (omega (arith, fits.1, fits.2)) in
    let ones : length (replicate {A = ℕ} size 255) ≡ size = length-replicate size 255 in
    let place : at ≤ length images.ones = omega (arith, fits.0, are.alike) in
    record {
      durable = are.durable;
      file = ap (λ (f : List ℕ). overwritten f at (take size bytes)) are.file;
      ones =
          ap (λ (f : List ℕ). overwritten f at (replicate size 255)) are.ones
          ∙ ap (λ (k : ℕ). overwritten (filled_in c.durable c.pending) at (replicate k 255)) (sym n);
      torn = (
        images.ones,
        are.torn,
        subst (λ (k : ℕ). IsTorn images.ones at k (overwritten images.ones at (replicate size 255))) (ones ∙ sym n)
            (overwritten_torn images.ones at (replicate size 255) place),
      );
      alike =
          omega (
            arith,
            n,
            ones,
            are.alike,
            length-overwritten images.ones at (replicate size 255) place,
            length-overwritten images.file at
                (take size bytes) fits.0,
          );
    }
images_step c images Synced are fits = record { durable = are.file; file = are.file; ones = are.file; torn = are.file; alike = refl }
images_step c images Emptied are fits = record { durable = refl; file = refl; ones = refl; torn = refl; alike = refl }

pub images_push : (first : List ℕ) (steps all : List Step) (step : Step) (images now : Images)
    → AreImagesOf (after_steps (synced first) steps) images
    → StepFits images.file step → now ≡ after_step_of images step → all ≡ steps ++ step ∷ []
    → AreImagesOf (after_steps (synced first) all) now
images_push first steps all step images now are fits is pushed =
    let c : Contents = after_steps (synced first) steps in
    subst (λ (l : List Step). AreImagesOf (after_steps (synced first) l) now) (sym pushed)
    (subst (λ (d : Contents). AreImagesOf d now) (sym (after_steps-push (synced first) steps step))
    (subst (AreImagesOf (after_step c step)) (sym is) (images_step c images step are fits)))

pub picked_is : (c : Contents) (images : Images) (pick : Pick) → AreImagesOf c images → image_in images pick ≡ picked pick c
picked_is c images Old are = are.durable
picked_is c images New are = are.file
picked_is c images Ones are = are.ones

torn_itself : (file : List ℕ) (ranges : List Range) → IsTornIn file ranges file
torn_itself file [] = refl
torn_itself file (range ∷ earlier) = (file, torn_itself file earlier, torn_nowhere file range.at (length range.bytes))

-- what is picked may be left
pub picked_left : (disk : DiskState) (images : Images) (pick : Pick) → AreImagesOf (contents_of disk) images
    → MayLeave disk (image_of disk pick)
unfolding MayLeave image_of
picked_left disk images Old are = inr (torn_itself (contents_of disk).durable (contents_of disk).pending)
picked_left disk images New are = inl refl
picked_left disk images Ones are = inr (subst (IsTornIn (contents_of disk).durable (contents_of disk).pending) are.ones are.torn)

pub file_shown : (disk : DiskState) (images : Images) → AreImagesOf (contents_of disk) images → images.file ≡ file_of disk
unfolding file_of
file_shown disk images are = are.file

pub image_shown : (disk : DiskState) (images : Images) (pick : Pick) → AreImagesOf (contents_of disk) images
    → image_in images pick ≡ image_of disk pick
unfolding image_of
image_shown disk images pick are = picked_is (contents_of disk) images pick are

-- a step that fits still does once the call is counted
pub fits_still : (old mid view : DiskState) (images : Images) (step : Step) → AreImagesOf (contents_of view) images → view ≡ mid
    → mid ≡ after_look old
    → StepFits (file_of old) step → StepFits images.file step
unfolding file_of
fits_still old mid view images step are seen counted fits =
    subst (λ (f : List ℕ). StepFits f step) (sym (are.file ∙ ap (λ (d : DiskState). (contents_of d).file) (seen ∙ counted))) fits

-- the images after a write
pub wrote_is : (images : Images) (file ones : List ℕ) (step : Step) (at size : ℕ) (bytes : List ℕ) → step ≡ Wrote at size bytes → size ≤ 128
    → file ≡ overwritten images.file at (take size bytes) → ones ≡ overwritten images.ones at (take size (replicate 128 255))
    → ◌≡◌ {A = Images} record { durable = images.durable; file = file; ones = ones } (after_step_of images step)
wrote_is images file ones step at size bytes is small wrote filled = rw (is, wrote, filled, take-replicate {X = ℕ} size 128 255 small) refl

pub write_small : (file : List ℕ) (step : Step) (at size : ℕ) (bytes : List ℕ) → step ≡ Wrote at size bytes → StepFits file step
    → size ≤ 128
write_small file step at size bytes is fits =
    let f : StepFits file (Wrote at size bytes) = subst (StepFits file) is fits in
    omega (arith, f.1)
