-- The names of a disk in memory.
use Rattle.std.proofs.Common.{◌≡◌, ◌≢◌, ℕ, Bool, true, false, List, [], Option, Some, None, length, refl, sym, ap, ◌∙◌, subst}
use Rattle.std.specs.Prelude.{nat_le, ◌&&◌, ◌||◌, not, if◌then◌else◌, IsTrue, bytes_eq}
use Rattle.std.proofs.lemmas.Slice.Eq.{bytes_eq-Decides}
use Rattle.crash_disk.specs.declared.disk.DiskAnswer.{DiskAnswer}
use Rattle.crash_disk.specs.declared.disk.DiskAnswer.TheVariants.{Done, Failed}
use Rattle.crash_disk.specs.declared.naming.Naming.{Naming}
use Rattle.crash_disk.specs.declared.steps_taken.Step.{Step}
use Rattle.crash_disk.specs.declared.steps_taken.Step.TheVariants.{Emptied}
use Rattle.crash_disk.specs.Disk.{Elapses}
use Rattle.crash_disk.specs.Memory.{DiskState, LeftSince, MayLeave, after_call, after_change, after_choice, after_doing, after_fault, after_look, answer_of, choosing, contents_of, fails_change, fails_choice, fails_look, fails_step, file_of, looks, moment_of, names_of, unchosen}
use Rattle.crash_disk.specs.Names.{Chooses, IsChosen, IsRefused, IsUnchosen, KeepsOthers, StaysBeside}
use Rattle.crash_disk.specs.Naming.{allows, chosen_as, is_chosen, names_told}
use Rattle.crash_disk.proofs.Disks.{file-push, passes_call, passes_look}

-- names that differ
differs : (a b : List ℕ) → b ≢ a → bytes_eq a b ≡ false
differs a b other = by_case (bytes_eq a b) refl
  where
    by_case : (r : Bool) → bytes_eq a b ≡ r → r ≡ false
    by_case false e = refl
    by_case true e = absurd (other (sym ((bytes_eq-Decides a b).0 e)))

and_left : (a b : Bool) → (a && b) ≡ true → a ≡ true
and_left true b e = refl
and_left false b e = absurd (cc)

and_right : (a b : Bool) → (a && b) ≡ true → b ≡ true
and_right true b e = e
and_right false b e = absurd (cc)

not_true : (a : Bool) → not a ≡ true → a ≡ false
not_true true e = absurd (cc)
not_true false e = refl

-- ---- a file that changes

file_changes : (name : List ℕ) (stands chosen : Bool) (before now : List ℕ)
    → is_chosen record { name = name; stands = stands; chosen = chosen } ≡ true
    → KeepsOthers (names_told record { name = name; stands = stands; chosen = chosen } before)
    (names_told record { name = name; stands = stands; chosen = chosen } now)
file_changes name true true before now chosen = record {
  chosen = refl;
  others = λ other differ. rw (differs name other (λ e. differ (ap (λ (l : List ℕ). Some l) (sym e)))) refl;
}
file_changes name true false before now chosen = absurd (cc)
file_changes name false chosen before now is = absurd (cc)

-- a step is done only to a file that is chosen
pub call_beside : (fails : Bool) (old new : DiskState) (step : Step) → new ≡ after_call fails old step
    → (fails ≡ false → is_chosen old.naming ≡ true)
    → StaysBeside (Some (names_of old)) (Some (names_of new))
unfolding names_of
call_beside true old new step is ready = subst (λ (d : DiskState). KeepsOthers (names_of old) (names_of d)) (sym is) record
    { chosen = refl; others = λ name differ. refl }
call_beside false old new step is ready =
    subst (λ (d : DiskState). KeepsOthers (names_of old) (names_of d)) (sym is)
    (file_changes old.naming.name old.naming.stands old.naming.chosen (contents_of old).file (contents_of (after_doing old step)).file
    (ready refl))

pub look_beside : (fails : Bool) (old new : DiskState) → new ≡ looks fails old → StaysBeside (Some (names_of old)) (Some (names_of new))
unfolding names_of
look_beside true old new is = subst (λ (d : DiskState). KeepsOthers (names_of old) (names_of d)) (sym is) record
    { chosen = refl; others = λ name differ. refl }
look_beside false old new is = subst (λ (d : DiskState). KeepsOthers (names_of old) (names_of d)) (sym is) record
    { chosen = refl; others = λ name differ. refl }

-- where no file is chosen a call fails
pub unchosen_fails : (disk : DiskState) → IsUnchosen (Some (names_of disk)) → fails_look disk (is_chosen disk.naming) ≡ true
unfolding names_of
unchosen_fails disk none = by_case (is_chosen disk.naming) none
  where
    by_case : (ready : Bool) → ◌≡◌ {A = Option (List ℕ)} (if ready then Some disk.naming.name else None) None → fails_look disk ready ≡ true
    by_case true e = absurd (cc)
    by_case false e = refl

pub fails_ready : (disk : DiskState) (ready more : Bool) → (fails_look disk ready || more) ≡ false → ready ≡ true
fails_ready disk true more e = refl
fails_ready disk false more e = absurd (cc)

-- a call that may be made
pub look_passes : (disk : DiskState) (ready fails : Bool) → fails ≡ fails_look disk true → fails ≡ false → ready ≡ true
    → fails_look disk ready ≡ false
look_passes disk true fails is passes may = sym is ∙ passes
look_passes disk false fails is passes may = absurd (cc)

-- ---- a choice

refused : (old : Naming) (name file : List ℕ) → IsRefused (names_told old file) (names_told record old { chosen = false } file) name
refused old name file = record { chosen = none old.stands old.name; others = λ other differ. refl; stood = λ other some. refl }
  where
    none : (stands : Bool) (name : List ℕ) → ◌≡◌ {A = Option (List ℕ)} (if stands && false then Some name else None) None
    none true name = refl
    none false name = refl

fresh_chosen : (old : Naming) (name before : List ℕ) → allows old name true ≡ true
    → IsChosen (names_told old before) (names_told (chosen_as name) []) name true
fresh_chosen old name before may =
    let none : old.stands ≡ false = not_true old.stands (and_left (not old.stands) (nat_le (length name) 128) may) in
    record {
      chosen = refl;
      missing = λ fresh. rw none refl;
      stands = λ e. absurd (cc);
      others = λ other differ. rw (none, differs name other differ) refl;
      kept = λ e. absurd (cc);
    }

stood_chosen : (old : Naming) (name file : List ℕ) → allows old name false ≡ true
    → IsChosen (names_told old file) (names_told (chosen_as name) file) name false
stood_chosen old name file may =
    let stands : old.stands ≡ true = and_left old.stands (bytes_eq old.name name) may in
    let same : old.name ≡ name = (bytes_eq-Decides old.name name).0 (and_right old.stands (bytes_eq old.name name) may) in
    let kept : (names_told (chosen_as name) file).held ≡ (names_told old file).held = rw (stands, same) refl in
    record {
      chosen = refl;
      missing = λ e. absurd (cc);
      stands = λ e. rw may refl;
      others = λ other differ. ap (λ (held : List ℕ → Option (List ℕ)). held other) kept;
      kept = λ e. kept;
    }

-- what comes of a choice
pub record Choice (answer : DiskAnswer) (old new : DiskState) (name : List ℕ) (fresh : Bool) : Type 0 where
  pub names : Chooses (Some (names_of old)) (Some (names_of new)) name fresh answer
  pub emptied : answer ≡ Done → IsTrue fresh → Some (file_of new) ≡ Some []
  pub kept : fresh ≡ false → Some (file_of new) ≡ Some (file_of old)
  pub images : fresh ≡ false → (image : List ℕ) → MayLeave new image → MayLeave old image
  pub time : Elapses (moment_of old) (moment_of new) (LeftSince old) (LeftSince new) (MayLeave new)

pub choice : (fails fresh : Bool) (answer : DiskAnswer) (old new : DiskState) (name : List ℕ) → answer ≡ answer_of fails
    → new ≡ after_choice fails old name fresh → (fails ≡ false → allows old.naming name fresh ≡ true) → Choice answer old new name fresh
unfolding names_of file_of LeftSince MayLeave moment_of
choice true fresh answer old new name told is may =
    subst (λ (d : DiskState). Choice answer old d name fresh) (sym is) record {
      names = subst (λ (a : DiskAnswer). Chooses (Some (names_of old)) (Some (names_of (after_fault (unchosen old)))) name fresh a)
          (sym told)
          (refused old.naming name (contents_of old).file);
      emptied = λ done. absurd (cc);
      kept = λ stood. refl;
      images = λ stood image left. left;
      time = (passes_look true old (after_fault old) refl).time;
    }
choice false true answer old new name told is may =
    subst (λ (d : DiskState). Choice answer old d name true) (sym is) record {
      names = subst (λ (a : DiskAnswer). Chooses (Some (names_of old))
          (Some (names_of (choosing (after_doing (unchosen old) Emptied) name))) name true a) (sym told)
          (subst (λ (file : List ℕ). IsChosen (names_of old) (names_told (chosen_as name) file) name true)
          (sym (file-push old.first old.steps Emptied))
          (fresh_chosen old.naming name (contents_of old).file (may refl)));
      emptied = λ done fresh. ap (λ (l : List ℕ). Some l) (file-push old.first old.steps Emptied);
      kept = λ e. absurd (cc);
      images = λ e. absurd (cc);
      time = (passes_call false old (after_doing old Emptied) Emptied refl).time;
    }
choice false false answer old new name told is may =
    subst (λ (d : DiskState). Choice answer old d name false) (sym is) record {
      names = subst (λ (a : DiskAnswer). Chooses (Some (names_of old)) (Some (names_of (choosing (after_look (unchosen old)) name))) name
          false a) (sym told)
          (stood_chosen old.naming name (contents_of old).file (may refl));
      emptied = λ done e. absurd (cc);
      kept = λ stood. refl;
      images = λ stood image left. left;
      time = (passes_look false old (after_look old) refl).time;
    }

pub choice_allowed : (old : DiskState) (name : List ℕ) (fresh : Bool) → fails_choice old name fresh ≡ false
    → allows old.naming name fresh ≡ true
choice_allowed old name fresh e = by_case (allows old.naming name fresh) e
  where
    by_case : (may : Bool) → (not may || fails_change old fresh) ≡ false → may ≡ true
    by_case true e = refl
    by_case false e = absurd (cc)

-- how a choice is made
pub choice_fails : (old : DiskState) (name : List ℕ) (fresh may : Bool) → may ≡ allows old.naming name fresh → may ≡ false
    → fails_choice old name fresh ≡ true
choice_fails old name fresh may is none =
    let e : allows old.naming name fresh ≡ false = sym is ∙ none in
    ap (λ (b : Bool). not b || fails_change old fresh) e

pub choice_changes : (old : DiskState) (name : List ℕ) (fresh may : Bool) → may ≡ allows old.naming name fresh → may ≡ true
    → fails_choice old name fresh ≡ fails_change (unchosen old) fresh
choice_changes old name fresh may is some =
    let e : allows old.naming name fresh ≡ true = sym is ∙ some in
    ap (λ (b : Bool). not b || fails_change old fresh) e

pub answer_fails : (fails : Bool) (answer : DiskAnswer) → answer ≡ answer_of fails → answer ≡ Failed → fails ≡ true
answer_fails true answer is failed = refl
answer_fails false answer is failed = absurd (cc)

pub answer_done : (fails : Bool) (answer : DiskAnswer) → answer ≡ answer_of fails → answer ≡ Done → fails ≡ false
answer_done true answer is done = absurd (cc)
answer_done false answer is done = refl

pub choice_refused : (old new : DiskState) (name : List ℕ) (fresh fails : Bool) → fails ≡ true → new ≡ after_fault (unchosen old)
    → new ≡ after_choice fails old name fresh
choice_refused old new name fresh fails e is = is ∙ ap (λ (b : Bool). after_choice b old name fresh) (sym e)

pub change_failed : (disk new : DiskState) (fresh fails : Bool) → fails ≡ true → new ≡ after_change fails disk fresh
    → new ≡ after_fault disk
change_failed disk new true fails e is = is ∙ ap (λ (b : Bool). after_call b disk Emptied) e
change_failed disk new false fails e is = is ∙ ap (λ (b : Bool). looks b disk) e

pub choice_made : (old mid new : DiskState) (name : List ℕ) (fresh fails chosen : Bool) → fails ≡ false → chosen ≡ fails
    → mid ≡ after_change chosen (unchosen old) fresh
    → new ≡ choosing mid name → new ≡ after_choice fails old name fresh
choice_made old mid new name fresh fails chosen e same is made =
    made ∙ ap (λ (d : DiskState). choosing d name) (is ∙ ap (λ (b : Bool). after_change b (unchosen old) fresh) (same ∙ e))
    ∙ ap (λ (b : Bool). after_choice b old name fresh) (sym e)

-- what comes of calls where no file is chosen
pub unchosen_looks : (disk : DiskState) (ready : Bool) (answer : DiskAnswer) → answer ≡ answer_of (fails_look disk ready)
    → ready ≡ is_chosen disk.naming
    → IsUnchosen (Some (names_of disk)) → answer ≡ Failed
unchosen_looks disk ready answer told is none =
    told ∙ ap (λ (b : Bool). answer_of (fails_look disk b)) is ∙ ap answer_of (unchosen_fails disk none)

pub unchosen_steps : (disk : DiskState) (ready : Bool) (answer : DiskAnswer) → answer ≡ answer_of (fails_step disk ready)
    → ready ≡ is_chosen disk.naming
    → IsUnchosen (Some (names_of disk)) → answer ≡ Failed
unchosen_steps disk ready answer told is none =
    told ∙ ap (λ (b : Bool). answer_of (fails_step disk b)) is
    ∙ ap (λ (b : Bool). answer_of (b || nat_le disk.room (length disk.steps))) (unchosen_fails disk none)

pub step_ready : (disk : DiskState) (ready : Bool) → ready ≡ is_chosen disk.naming → fails_step disk ready ≡ false
    → is_chosen disk.naming ≡ true
step_ready disk ready is passes = sym is ∙ fails_ready disk ready (nat_le disk.room (length disk.steps)) passes

pub never_done : ◌≡◌ {A = DiskAnswer} Failed Done → ⊥
never_done e = cc
