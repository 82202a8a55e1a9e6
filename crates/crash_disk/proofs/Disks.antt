-- What the calls of a disk in memory leave, and what a crash may leave of them.
use Rattle.std.proofs.Common.{◌≡◌, ◌⊎◌, inl, inr, ⊎_elim, ℕ, ◌+◌, ◌<◌, ◌≤◌, Bool, true, false, List, [], ◌∷◌, ◌++◌, Some, length, take, drop, refl, sym, ap, ◌∙◌, subst, arith, length-append}
use Rattle.std.specs.Prelude.{nat_le, ◌||◌, replicate, if◌then◌else◌}
use Rattle.std.proofs.lemmas.Bool.{cases_lt}
use Rattle.std.proofs.lemmas.Bool.Decides.{nat_tests}
use Rattle.std.proofs.lemmas.List.{take_at, take-append-le}
use Rattle.std.proofs.Math.Seq.{take-length}
use Rattle.crash_disk.specs.declared.disk.DiskAnswer.{DiskAnswer}
use Rattle.crash_disk.specs.declared.disk.DiskAnswer.TheVariants.{Done, Failed}
use Rattle.crash_disk.specs.declared.steps_taken.Step.{Step}
use Rattle.crash_disk.specs.declared.steps_taken.Step.TheVariants.{Wrote, Synced, Emptied}
use Rattle.crash_disk.specs.Disk.{Elapses, ImagesTear, IsTorn, Only, Tears, Writes, overwritten}
use Rattle.crash_disk.specs.Memory.{Contents, DiskState, IsImage, LeftSince, MayLeave, after_call, after_doing, after_fault, after_look, after_step, after_steps, answer_of, contents_of, fails_look, fails_step, file_after, file_of, fits, looks, moment_of, synced, write_step}
use Rattle.crash_disk.proofs.Overwrites.{overwritten_torn}
use Rattle.crash_disk.proofs.Moments.{torn_nowhere}

pub after_steps-push : (c : Contents) (steps : List Step) (step : Step)
    → after_steps c (steps ++ step ∷ []) ≡ after_step (after_steps c steps) step
after_steps-push c [] step = refl
after_steps-push c (s ∷ steps) step = after_steps-push (after_step c s) steps step

file-step : (c : Contents) (step : Step) → (after_step c step).file ≡ file_after c.file step
file-step c (Wrote at size bytes) = refl
file-step c Synced = refl
file-step c Emptied = refl

-- the file after one more step
pub file-push : (first : List ℕ) (steps : List Step) (step : Step)
    → (after_steps (synced first) (steps ++ step ∷ [])).file ≡ file_after (after_steps (synced first) steps).file step
file-push first steps step =
    ap (λ (c : Contents). c.file) (after_steps-push (synced first) steps step) ∙ file-step (after_steps (synced first) steps) step

pub fits_place : (size at n : ℕ) (b : Bool) → b ≡ fits size at n → b ≡ true → at ≤ size
fits_place size at n b is told = grind (arith, nat_tests)

pub no_step_fails : (disk : DiskState) (ready : Bool) → fails_look disk ready ≡ false → length disk.steps < disk.room
    → fails_step disk ready ≡ false
no_step_fails disk ready any room = by_case (fails_look disk ready) any
  where
    by_case : (b : Bool) → b ≡ false → (b || nat_le disk.room (length disk.steps)) ≡ false
    by_case true any = absurd (cc)
    by_case false any = grind (arith, nat_tests)

-- a disk that did a step
pub stepped : (fails : Bool) (old mid new : DiskState) (step : Step) → fails ≡ false → mid ≡ after_look old
    → new ≡ record {
      first = mid.first;
      steps = mid.steps ++ step ∷ [];
      room = mid.room;
      plan = mid.plan;
      passing = mid.passing;
      naming =
          mid.naming;
    } → new ≡ after_call fails old step
stepped fails old mid new step passes counted pushed =
    let done : new ≡ after_doing old step =
    pushed ∙ ap (λ (d : DiskState). let e : DiskState = record {
      first = d.first;
      steps = d.steps
          ++ step ∷ [];
      room = d.room;
      plan = d.plan;
      passing = d.passing;
      naming = d.naming;
    } in e) counted in
    subst (λ (b : Bool). new ≡ after_call b old step) (sym passes) done

-- ---- time

-- the images after some steps
abbrev AfterSteps : List ℕ → List Step → List ℕ → Type 0
AfterSteps first steps image = IsImage (after_steps (synced first) steps) image

abbrev Since : List ℕ → List Step → ℕ → List ℕ → Type 0
Since first steps start image =
    AfterSteps first steps image ⊎ ((count : ℕ) × (start ≤ count) × (count < length steps) × AfterSteps first (take count steps) image)

elapses_push : (first : List ℕ) (steps : List Step) (step : Step)
    → Elapses (length steps) (length (steps ++ step ∷ [])) (Since first steps) (Since first (steps ++ step ∷ []))
    (AfterSteps first (steps ++ step ∷ []))
elapses_push first steps step = record {
  later = omega (arith, length-append steps (step ∷ []));
  nothing_else = λ start image until left. ⊎_elim (λ now. inr now) (λ had. inl (earlier start image until had.0 had.1 had.2 had.3)) left;
  keeps = λ start image until left. inr (⊎_elim (λ now. last start image until now) (λ had. before start image had.0 had.1 had.2 had.3)
      left);
}
  where
    front : (count : ℕ) → count ≤ length steps → take count (steps ++ step ∷ []) ≡ take count steps
    front count within = take-append-le count steps (step ∷ []) within

    earlier : (start : ℕ) (image : List ℕ) → start ≤ length steps → (count : ℕ) → start ≤ count → count < length (steps ++ step ∷ [])
        → AfterSteps first (take count (steps ++ step ∷ [])) image → Since first steps start image
    earlier start image until count from below left =
        let size = length-append steps (step ∷ []) in
        let within : count ≤ length steps = omega (arith, size, below) in
        let was : AfterSteps first (take count steps) image = subst (λ (l : List Step). AfterSteps first l image) (front count within) left
        in
        ⊎_elim (λ lt. inr (count, from, lt, was)) (λ ge. inl (whole count image within ge was)) (cases_lt count (length steps))
      where
        whole : (count : ℕ) (image : List ℕ) → count ≤ length steps → length steps ≤ count → AfterSteps first (take count steps) image
            → AfterSteps first steps image
        whole count image within ge was =
            let e : count ≡ length steps = omega arith in
            subst (λ (l : List Step). AfterSteps first l image) (ap (λ (n : ℕ). take n steps) e ∙ take-length steps) was

    last : (start : ℕ) (image : List ℕ) → start ≤ length steps → AfterSteps first steps image
        → (count : ℕ) × (start ≤ count) × (count < length (steps ++ step ∷ [])) × AfterSteps first (take count (steps ++ step ∷ [])) image
    last start image until now =
        let size = length-append steps (step ∷ []) in
        let within : length steps ≤ length steps = omega arith in (
          length steps,
          until,
          omega (arith, size),
          subst (λ (l : List Step). AfterSteps first l image)
              (sym (front (length steps) within ∙ take-length steps)) now,
        )

    before : (start : ℕ) (image : List ℕ) (count : ℕ) → start ≤ count → count < length steps → AfterSteps first (take count steps) image
        → (count : ℕ) × (start ≤ count) × (count < length (steps ++ step ∷ [])) × AfterSteps first (take count (steps ++ step ∷ [])) image
    before start image count from below left =
        let size = length-append steps (step ∷ []) in (
          count,
          from,
          omega (arith, size, below),
          subst (λ (l : List Step). AfterSteps first l image)
              (sym (front count (omega (arith, below)))) left,
        )

-- what a call leaves of time
pub record Passes (old new : DiskState) : Type 0 where
  pub time : Elapses (moment_of old) (moment_of new) (LeftSince old) (LeftSince new) (MayLeave new)

elapses_still : (disk : DiskState) → Elapses (moment_of disk) (moment_of disk) (LeftSince disk) (LeftSince disk) (MayLeave disk)
unfolding file_of LeftSince MayLeave moment_of
elapses_still disk = record {
  later = omega arith;
  nothing_else = λ start image until left. inl left;
  keeps = λ start image until left. left;
}

pub passes_call : (fails : Bool) (old new : DiskState) (step : Step) → new ≡ after_call fails old step → Passes old new
unfolding file_of LeftSince MayLeave moment_of
passes_call true old new step is = subst (Passes old) (sym is) record { time = elapses_still old }
passes_call false old new step is = subst (Passes old) (sym is) record { time = elapses_push old.first old.steps step }

pub passes_look : (fails : Bool) (old new : DiskState) → new ≡ looks fails old → Passes old new
unfolding file_of LeftSince MayLeave moment_of
passes_look fails old new is = by_case fails is
  where
    by_case : (fails : Bool) → new ≡ (if fails then after_fault old else after_look old) → Passes old new
    by_case true is = subst (Passes old) (sym is) record { time = elapses_still old }
    by_case false is = subst (Passes old) (sym is) record { time = elapses_still old }

-- a call that does nothing to the file leaves it, and what a crash may leave
pub record IsStill (old new : DiskState) : Type 0 where
  pub kept : file_of new ≡ file_of old
  pub images : (image : List ℕ) → MayLeave new image → MayLeave old image

pub still : (fails : Bool) (old new : DiskState) → new ≡ looks fails old → IsStill old new
unfolding file_of MayLeave
still fails old new is = by_case fails is
  where
    by_case : (fails : Bool) → new ≡ (if fails then after_fault old else after_look old) → IsStill old new
    by_case true is = subst (IsStill old) (sym is) record { kept = refl; images = λ image left. left }
    by_case false is = subst (IsStill old) (sym is) record { kept = refl; images = λ image left. left }

-- ---- images

step_bytes : (bytes : List ℕ) → take (length bytes) (overwritten (replicate 128 0) 0 bytes) ≡ bytes
unfolding overwritten
step_bytes bytes = take_at bytes (drop (0 + length bytes) (replicate 128 0)) (length bytes) refl

-- a sync, by whether it fails
pub record Syncs (answer : DiskAnswer) (old new : DiskState) : Type 0 where
  pub durable : answer ≡ Done → Only (file_of old) (MayLeave new)
  pub kept : file_of new ≡ file_of old
  pub images : (image : List ℕ) → MayLeave new image → MayLeave old image

pub syncs : (fails : Bool) (answer : DiskAnswer) (old new : DiskState) → answer ≡ answer_of fails → new ≡ after_call fails old Synced
    → Syncs answer old new
unfolding file_of LeftSince MayLeave moment_of
syncs true answer old new told is =
    subst (Syncs answer old) (sym is) record { durable = λ done. absurd (cc); kept = refl; images = λ image left. left }
syncs false answer old new told is =
    subst (Syncs answer old) (sym is) record {
      durable = λ done image left. only image left;
      kept = file-push old.first old.steps Synced;
      images = λ image left. inl (only image left);
    }
  where
    only : (image : List ℕ) → MayLeave (after_doing old Synced) image → image ≡ file_of old
    only image left =
        ⊎_elim (λ e. e) (λ e. e) (subst (λ (c : Contents). IsImage c image) (after_steps-push (synced old.first) old.steps Synced) left)

-- a write, by whether it fails
pub record Overwrites (answer : DiskAnswer) (old new : DiskState) (at : ℕ) (bytes : List ℕ) : Type 0 where
  pub written : answer ≡ Done → Writes (Some (file_of old)) (Some (file_of new)) at bytes
  pub torn : answer ≡ Failed → Tears (Some (file_of old)) (Some (file_of new)) at (length bytes)
  pub images : ImagesTear (MayLeave old) (MayLeave new) at (length bytes)

pub overwrites : (fails : Bool) (answer : DiskAnswer) (old new : DiskState) (at : ℕ) (bytes : List ℕ)
    → answer ≡ answer_of fails → new ≡ after_call fails old (write_step at bytes) → (fails ≡ false → at ≤ length (file_of old))
    → Overwrites answer old new at bytes
unfolding file_of LeftSince MayLeave moment_of
overwrites true answer old new at bytes told is within =
    subst (λ (d : DiskState). Overwrites answer old d at bytes) (sym is) record {
      written = λ done. absurd (cc);
      torn = λ failed. torn_nowhere (file_of old) at (length bytes);
      images = λ image left. (image, left, torn_nowhere image at (length bytes));
    }
overwrites false answer old new at bytes told is within =
    subst (λ (d : DiskState). Overwrites answer old d at bytes) (sym is) record {
      written = λ done. (within refl, ap (λ (l : List ℕ). Some l) file_is);
      torn = λ failed. absurd (cc);
      images = λ image left. torn image (subst (λ (c : Contents). IsImage c image)
          (after_steps-push (synced old.first) old.steps (write_step at bytes)) left);
    }
  where
    file_is : file_of (after_doing old (write_step at bytes)) ≡ overwritten (file_of old) at bytes
    file_is = file-push old.first old.steps (write_step at bytes) ∙ ap (overwritten (file_of old) at) (step_bytes bytes)

    torn : (image : List ℕ) → IsImage (after_step (contents_of old) (write_step at bytes)) image
        → (earlier : List ℕ) × MayLeave old earlier × IsTorn earlier at (length bytes) image
    torn image (inl now) = (
      file_of old,
      inl refl,
      subst (IsTorn (file_of old) at (length bytes)) (sym (now ∙ ap (overwritten (file_of old) at) (step_bytes bytes)))
          (overwritten_torn (file_of old) at bytes (within refl)),
    )
    torn image (inr had) = (had.0, inr had.1, subst (λ (n : ℕ). IsTorn had.0 at n image) (ap length (step_bytes bytes)) had.2)
