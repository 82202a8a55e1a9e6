-- Disks in memory: what their steps made of the file, the images that a crash may leave, and what a call answers by
-- the disk's plan.
use Rattle.std.specs.Prelude.{◌≡◌, ◌⊎◌, ◌==◌, ◌&&◌, ◌||◌, ℕ, ◌+◌, ◌-◌, ◌<◌, ◌≤◌, nat_le, if◌then◌else◌, Bool, true, false, not, List, [], ◌∷◌, ◌++◌, length, take, replicate, Option, Some, None}
use Rattle.outside.specs.Plans.{PlanState, call_counted, fails_next, fault_counted}
use Rattle.std.proofs.Common.{inl, inr, refl}
use Rattle.std.proofs.Math.Nat.{not-le_of_lt}
use Rattle.std.proofs.lemmas.Slice.Eq.{bytes_eq-Decides}
use Rattle.crash_disk.specs.declared.naming.Naming.{Naming}
use Rattle.crash_disk.specs.Disk.{IsTorn, overwritten}
use Rattle.crash_disk.specs.Names.{IsOfChosen, Names}
use Rattle.crash_disk.specs.Naming.{allows, chosen_as, is_chosen, names_told}
use Rattle.crash_disk.specs.declared.disk.DiskAnswer.{DiskAnswer}
use Rattle.crash_disk.specs.declared.disk.DiskAnswer.TheVariants.{Done, Failed}
use Rattle.crash_disk.specs.declared.steps_taken.Step.{Step}
use Rattle.crash_disk.specs.declared.steps_taken.Step.TheVariants.{Wrote, Synced, Emptied}
use Rattle.crash_disk.specs.declared.steps_taken.Pick.{Pick}
use Rattle.crash_disk.specs.declared.steps_taken.Pick.TheVariants.{Old, New, Ones}

-- n bytes may be written from `at` on in a file of `size` bytes: `at` is no place past the end, and 128 bytes are room
abbrev pub fits : (size at n : ℕ) → Bool
fits size at n = nat_le at size && nat_le n (128 - at)

-- bytes that were written from a place on
pub record Range : Type 0 where
  pub at : ℕ
  pub bytes : List ℕ

-- what a read gives, what a crash left at the last sync, and what was written since, the latest first
pub record Contents : Type 0 where
  pub file : List ℕ
  pub durable : List ℕ
  pub pending : List Range

-- a file that is on the disk as it reads
abbrev pub synced : List ℕ → Contents
synced file = record { file = file; durable = file; pending = [] }

-- the contents after a step, and after some
abbrev pub after_step : Contents → Step → Contents
after_step c (Wrote at size bytes) = record {
  file = overwritten c.file at (take size bytes);
  durable = c.durable;
  pending = record { at = at; bytes = take size bytes } ∷ c.pending;
}
after_step c Synced = synced c.file
after_step c Emptied = synced []

abbrev pub after_steps : Contents → List Step → Contents
after_steps c [] = c
after_steps c (step ∷ steps) = after_steps (after_step c step) steps

abbrev pub file_after : List ℕ → Step → List ℕ
file_after file (Wrote at size bytes) = overwritten file at (take size bytes)
file_after file Synced = file
file_after file Emptied = []

-- a step that may be done to a file
abbrev pub StepFits : List ℕ → Step → Type 0
StepFits file (Wrote at size bytes) = (at ≤ length file) × (at + size ≤ 128) × (length bytes ≡ 128)
StepFits file Synced = Unit {0}
StepFits file Emptied = Unit {0}

-- the step of a write
abbrev pub write_step : (at : ℕ) → List ℕ → Step
write_step at bytes = Wrote at (length bytes) (overwritten (replicate 128 0) 0 bytes)

-- a file that was written in these ranges, each of which may hold any bytes
abbrev pub IsTornIn : List ℕ → List Range → List ℕ → Type 0
IsTornIn durable [] image = image ≡ durable
IsTornIn durable (range ∷ earlier) image = (was : List ℕ) × IsTornIn durable earlier was × IsTorn was range.at (length range.bytes) image

-- an image that a crash may leave
abbrev pub IsImage : Contents → List ℕ → Type 0
IsImage c image = (image ≡ c.file) ⊎ IsTornIn c.durable c.pending image

-- ---- a disk

-- the file as it was made, what was done to it, how many steps there is room for, the plan, the number of calls that pass
-- where the others fail, and the file's name
pub record DiskState : Type 0 where
  pub first : List ℕ
  pub steps : List Step
  pub room : ℕ
  pub plan : PlanState
  pub passing : Option ℕ
  pub naming : Naming

-- a disk with this file, of this name, before any call
abbrev pub new_disk : List ℕ → Naming → ℕ → PlanState → DiskState
new_disk file naming room plan = record { first = file; steps = []; room = room; plan = plan; passing = None; naming = naming }

abbrev pub contents_of : DiskState → Contents
contents_of disk = after_steps (synced disk.first) disk.steps

unfoldable pub file_of : DiskState → List ℕ
file_of disk = (contents_of disk).file

unfoldable pub names_of : DiskState → Names
names_of disk = names_told disk.naming (contents_of disk).file

-- what a crash may leave, and what a crash since so many steps might have left
unfoldable pub MayLeave : DiskState → List ℕ → Type 0
MayLeave disk image = IsImage (contents_of disk) image

unfoldable pub moment_of : DiskState → ℕ
moment_of disk = length disk.steps

unfoldable pub LeftSince : DiskState → ℕ → List ℕ → Type 0
LeftSince disk start image =
    MayLeave disk image ⊎ ((count : ℕ) × (start ≤ count) × (count < length disk.steps)
    × IsImage (after_steps (synced disk.first) (take count disk.steps)) image)

pub read_is_image : (disk : DiskState) → MayLeave disk (file_of disk)
unfolding file_of MayLeave
read_is_image disk = inl refl

pub names_show_file : (disk : DiskState) → IsOfChosen (Some (names_of disk)) (Some (file_of disk))
unfolding names_of file_of
names_show_file disk = shown disk.naming.name disk.naming.stands disk.naming.chosen (contents_of disk).file
  where
    shown : (name : List ℕ) (stands chosen : Bool) (file : List ℕ)
        → IsOfChosen (Some (names_told record { name = name; stands = stands; chosen = chosen } file)) (Some file)
    shown name true true file = (rw ((bytes_eq-Decides name name).1 refl) refl, refl)
    shown name true false file = tt
    shown name false true file = tt
    shown name false false file = tt

pub counts_now : (disk : DiskState) (start : ℕ) (image : List ℕ) → start ≤ moment_of disk → MayLeave disk image → LeftSince disk start image
unfolding LeftSince
counts_now disk start image until now = inl now

pub only_now : (disk : DiskState) (image : List ℕ) → LeftSince disk (moment_of disk) image → MayLeave disk image
unfolding LeftSince moment_of
only_now disk image (inl now) = now
only_now disk image (inr earlier) = absurd (not-le_of_lt earlier.2 earlier.1)

-- ---- what a call answers

-- no call passes any more
abbrev pub is_stopped : Option ℕ → Bool
is_stopped None = false
is_stopped (Some calls) = calls == 0

abbrev pub one_less : Option ℕ → Option ℕ
one_less None = None
one_less (Some calls) = Some (calls - 1)

-- the next call fails, whatever it is, or is not one that may be made
abbrev pub fails_look : DiskState → (ready : Bool) → Bool
fails_look disk ready = not ready || (fails_next disk.plan || is_stopped disk.passing)

-- the next call that is a step fails
abbrev pub fails_step : DiskState → (ready : Bool) → Bool
fails_step disk ready = fails_look disk ready || nat_le disk.room (length disk.steps)

-- a read fails, and a sync, and a write of n bytes
abbrev pub fails_read : DiskState → Bool
fails_read disk = fails_look disk (is_chosen disk.naming)

abbrev pub fails_sync : DiskState → Bool
fails_sync disk = fails_step disk (is_chosen disk.naming)

abbrev pub fails_write : DiskState → (at n : ℕ) → Bool
fails_write disk at n = fails_sync disk || not (fits (length (file_of disk)) at n)

-- a change to a file that is to be chosen fails, where a fresh one is emptied
abbrev pub fails_change : DiskState → (fresh : Bool) → Bool
fails_change disk fresh = if fresh then fails_step disk true else fails_look disk true

-- the choice of a name fails
abbrev pub fails_choice : DiskState → (name : List ℕ) → (fresh : Bool) → Bool
fails_choice disk name fresh = not (allows disk.naming name fresh) || fails_change disk fresh

-- the disk after a call that did nothing to the file, after one that failed, and after one that was this step
abbrev pub after_look : DiskState → DiskState
after_look disk = record {
  first = disk.first;
  steps = disk.steps;
  room = disk.room;
  plan = call_counted disk.plan;
  passing = one_less
      disk.passing;
  naming = disk.naming;
}

abbrev pub after_fault : DiskState → DiskState
after_fault disk = record {
  first = disk.first;
  steps = disk.steps;
  room = disk.room;
  plan = fault_counted (call_counted disk.plan);
  passing
      = one_less disk.passing;
  naming = disk.naming;
}

abbrev pub after_doing : DiskState → Step → DiskState
after_doing disk step = record {
  first = disk.first;
  steps = disk.steps
      ++ step ∷ [];
  room = disk.room;
  plan = call_counted disk.plan;
  passing = one_less disk.passing;
  naming = disk.naming;
}

-- a call that does nothing to the file, and one that does this step, where it fails and where it does not
abbrev pub looks : (fails : Bool) → DiskState → DiskState
looks fails disk = if fails then after_fault disk else after_look disk

abbrev pub after_call : (fails : Bool) → DiskState → Step → DiskState
after_call fails disk step = if fails then after_fault disk else after_doing disk step

-- no file is chosen, and this name is
abbrev pub unchosen : DiskState → DiskState
unchosen disk = record disk { naming = record disk.naming { chosen = false } }

abbrev pub choosing : DiskState → List ℕ → DiskState
choosing disk name = record disk { naming = chosen_as name }

-- a file that is to be chosen, where the change fails and where it does not
abbrev pub after_change : (fails : Bool) → DiskState → (fresh : Bool) → DiskState
after_change fails disk fresh = if fresh then after_call fails disk Emptied else looks fails disk

-- the choice of a name, where it fails and where it does not
abbrev pub after_choice : (fails : Bool) → DiskState → (name : List ℕ) → (fresh : Bool) → DiskState
after_choice fails disk name fresh =
    if fails then after_fault (unchosen disk) else choosing (after_change false (unchosen disk) fresh) name

abbrev pub answer_of : (fails : Bool) → DiskAnswer
answer_of fails = if fails then Failed else Done

-- ---- a crash

-- the file with all ranges full of ones
abbrev pub filled_in : List ℕ → List Range → List ℕ
filled_in durable [] = durable
filled_in durable (range ∷ earlier) = overwritten (filled_in durable earlier) range.at (replicate (length range.bytes) 255)

-- the image that is picked
abbrev pub picked : Pick → Contents → List ℕ
picked Old c = c.durable
picked New c = c.file
picked Ones c = filled_in c.durable c.pending

unfoldable pub image_of : DiskState → Pick → List ℕ
image_of disk pick = picked pick (contents_of disk)
