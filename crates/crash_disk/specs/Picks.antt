-- The images of a disk in memory that a crash may be told to leave.
use Rattle.std.specs.Prelude.{◌≡◌, ℕ, List, [], length, take, replicate}
use Rattle.crash_disk.specs.declared.images.Images.{Images}
use Rattle.crash_disk.specs.declared.steps_taken.Step.{Step}
use Rattle.crash_disk.specs.declared.steps_taken.Step.TheVariants.{Wrote, Synced, Emptied}
use Rattle.crash_disk.specs.declared.steps_taken.Pick.{Pick}
use Rattle.crash_disk.specs.declared.steps_taken.Pick.TheVariants.{Old, New, Ones}
use Rattle.crash_disk.specs.Disk.{overwritten}
use Rattle.crash_disk.specs.Memory.{Contents, IsTornIn, picked}

-- a file that is on the disk has one image
abbrev pub same_images : List ℕ → Images
same_images file = record { durable = file; file = file; ones = file }

-- the image that is picked
abbrev pub image_in : Images → Pick → List ℕ
image_in images Old = images.durable
image_in images New = images.file
image_in images Ones = images.ones

-- the images after one more step
abbrev pub after_step_of : Images → Step → Images
after_step_of images (Wrote at size bytes) = record {
  durable = images.durable;
  file = overwritten images.file at (take size bytes);
  ones = overwritten images.ones at (replicate size 255);
}
after_step_of images Synced = same_images images.file
after_step_of images Emptied = same_images []

-- the images of these contents, all of which a crash may leave
pub record AreImagesOf (c : Contents) (images : Images) : Type 0 where
  pub durable : images.durable ≡ picked Old c
  pub file : images.file ≡ picked New c
  pub ones : images.ones ≡ picked Ones c
  pub torn : IsTornIn c.durable c.pending images.ones
  pub alike : length images.ones ≡ length images.file
