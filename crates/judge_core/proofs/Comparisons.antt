-- Comparing the closing posts of a replay with the first of them, one after the other.
use Rattle.std.proofs.Common.{◌≡◌, ℕ, suc, ◌+◌, ◌<◌, true, false, List, [], ◌∷◌, ◌++◌, length, get_or, map, drop, Option, Some, None, refl, sym, ap, subst, ◌∙◌, arith, append_assoc, append-nil}
use Rattle.std.specs.Prelude.{option_map, option_to_list}
use Rattle.std.specs.Option.{option_or}
use Rattle.std.proofs.Math.Seq.{drop-cons}
use Rattle.std.proofs.lemmas.Bool.{cond-true, cond-false}
use Rattle.std.proofs.lemmas.List.{get_or-map, length-map}
use Rattle.wire_core.specs.Answers.{first_some}
use Rattle.phase_message.specs.declared.stage.StageKind.{StageKind}
use Rattle.phase_message.specs.declared.stage.StageKind.TheVariants.{Keys as AtKeys, Submit as AtSubmit, Shuffle as AtShuffle, Go as AtGo, Final as AtFinal, Pad as AtPad, Check as AtCheck, Confirm as AtConfirm}
use Rattle.phase_message.specs.Shape.{Shape}
use Rattle.phase_message.specs.Stages.{kind_of_stage}
use Rattle.stage_log.specs.Table.{Log}
use Rattle.shuffle_blame.specs.declared.fault.Shown.{Shown}
use Rattle.judge_core.specs.declared.failed_check.FailedCheck.{FailedCheck}
use Rattle.judge_core.specs.declared.failed_check.FailedCheck.TheVariants.{LogsDiffer, NotJustified}
use Rattle.judge_core.specs.declared.hearing.Said.{Said as GivenSaid}
use Rattle.judge_core.specs.declared.replaying.Shows.{Shows}
use Rattle.judge_core.specs.Case.{Case, Said, said_of, shape_in}
use Rattle.judge_core.specs.Closing.{is_justified_in, past_in}
use Rattle.judge_core.specs.Replay.{parts_shown, unjustified_from, unlike_from, unlike_log, unlike_place}
use Rattle.judge_core.specs.Showing.{AreObjections, IsShown, IsUnjustified, KeepsPast, ShowsNothing}

-- the posts before a place are justified, the first difference among them is found, and their parts are told
pub record ComparesTo (case : Case) (past : List (List ℕ)) (kind : Option StageKind) (first : Said) (others : List Said) (place : ℕ)
    (difference : Option FailedCheck) (told : List Shown) : Type 0 where
  pub justified : unjustified_from case 2 others ≡ unjustified_from case (place + 2) (drop place others)
  pub differs : unlike_from case past 2 others ≡ first_some (difference ∷ unlike_from case past (place + 2) (drop place others) ∷ [])
  pub parts : told ++ parts_shown case kind (drop place others) ≡ parts_shown case kind (first ∷ others)

-- the parts of one more
parts-next : (case : Case) (kind : Option StageKind) (said : Said) (others : List Said)
    → parts_shown case kind (said ∷ others) ≡ parts_shown case kind (said ∷ []) ++ parts_shown case kind others
parts-next case None said others = refl
parts-next case (Some (AtFinal shuffle)) said others = refl
parts-next case (Some AtConfirm) said others = refl
parts-next case (Some AtKeys) said others = refl
parts-next case (Some (AtSubmit shuffle)) said others = refl
parts-next case (Some (AtShuffle shuffle k)) said others = refl
parts-next case (Some (AtGo shuffle)) said others = refl
parts-next case (Some AtPad) said others = refl
parts-next case (Some AtCheck) said others = refl

parts-end : (case : Case) (kind : Option StageKind) → parts_shown case kind [] ≡ []
parts-end case None = refl
parts-end case (Some (AtFinal shuffle)) = refl
parts-end case (Some AtConfirm) = refl
parts-end case (Some AtKeys) = refl
parts-end case (Some (AtSubmit shuffle)) = refl
parts-end case (Some (AtShuffle shuffle k)) = refl
parts-end case (Some (AtGo shuffle)) = refl
parts-end case (Some AtPad) = refl
parts-end case (Some AtCheck) = refl

first-of_none : (o : Option FailedCheck) → o ≡ first_some (None ∷ o ∷ [])
first-of_none None = refl
first-of_none (Some failed) = refl

pub compares-none : (case : Case) (past : List (List ℕ)) (kind : Option StageKind) (first : Said) (others : List Said) (told : List Shown)
    → told ≡ parts_shown case kind (first ∷ []) → ComparesTo case past kind first others 0 None told
compares-none case past kind first others told e = record {
  justified = refl;
  differs = first-of_none (unlike_from case past 2 others);
  parts = ap (λ (t : List Shown). t ++ parts_shown case kind others) e ∙ sym (parts-next case kind first others);
}

-- what is left at a place
left-at : (others : List Said) (place : ℕ) (said : Said) → place < length others → get_or others place said ≡ said
    → drop place others ≡ said ∷ drop (place + 1) others
left-at others place said lt is =
    let next : suc place ≡ place + 1 = omega arith in
    drop-cons others place said lt ∙ ap (λ (s : Said). s ∷ drop (suc place) others) is ∙ ap (λ (k : ℕ). said ∷ drop k others) next

-- one that is not justified ends it
pub compares-fails : (case : Case) (past : List (List ℕ)) (kind : Option StageKind) (first : Said) (others : List Said) (place : ℕ)
    (difference : Option FailedCheck) (told : List Shown) (said : Said)
    → ComparesTo case past kind first others place difference told → place < length others → get_or others place said ≡ said
    → is_justified_in case said ≡ false
    → unjustified_from case 2 others ≡ Some (NotJustified (place + 2))
compares-fails case past kind first others place difference told said so lt is bad =
    so.justified ∙ ap (unjustified_from case (place + 2)) (left-at others place said lt is)
    ∙ cond-false (is_justified_in case said) (unjustified_from case (place + 2 + 1) (drop (place + 1) others))
    (Some (NotJustified (place + 2))) bad

either-first : (difference one rest : Option FailedCheck) → first_some (difference ∷ first_some (one ∷ rest ∷ []) ∷ []) ≡ first_some
    (option_or difference one ∷ rest ∷ [])
either-first None None None = refl
either-first None None (Some c) = refl
either-first None (Some b) rest = refl
either-first (Some a) one rest = refl

-- one that is justified goes on
pub compares-next : (case : Case) (past : List (List ℕ)) (kind : Option StageKind) (first : Said) (others : List Said) (place : ℕ)
    (difference now : Option FailedCheck) (told more part : List Shown) (said : Said)
    → ComparesTo case past kind first others place difference told → place < length others → get_or others place said ≡ said
    → is_justified_in case said ≡ true
    → now ≡ option_or difference (unlike_log case past (place + 2) said) → part ≡ parts_shown case kind (said ∷ []) → more ≡ told ++ part
    → ComparesTo case past kind first others (place + 1) now more
compares-next case past kind first others place difference now told more part said so lt is good differs shows tells =
    let left = left-at others place said lt is in
    let next : place + 2 + 1 ≡ place + 1 + 2 = omega arith in
    let rest : List Said = drop (place + 1) others in
    record {
      justified = so.justified ∙ ap (unjustified_from case (place + 2)) left
          ∙ cond-true (is_justified_in case said) (unjustified_from case (place + 2 + 1) rest) (Some (NotJustified (place + 2))) good
          ∙ ap (λ (n : ℕ). unjustified_from case n rest) next;
      differs = so.differs ∙ ap (λ (l : List Said). first_some (difference ∷ unlike_from case past (place + 2) l ∷ [])) left
          ∙ either-first difference (unlike_log case past (place + 2) said) (unlike_from case past (place + 2 + 1) rest)
          ∙ ap (λ (n : ℕ). first_some (option_or difference (unlike_log case past (place + 2) said) ∷ unlike_from case past n rest ∷ []))
          next
          ∙ ap (λ (o : Option FailedCheck). first_some (o ∷ unlike_from case past (place + 1 + 2) rest ∷ [])) (sym differs);
      parts = ap (λ (t : List Shown). t ++ parts_shown case kind rest) (tells ∙ ap (λ (p : List Shown). told ++ p) shows)
          ∙ append_assoc told (parts_shown case kind (said ∷ [])) (parts_shown case kind rest)
          ∙ ap (λ (p : List Shown). told ++ p) (sym (parts-next case kind said rest) ∙ ap (parts_shown case kind) (sym left))
          ∙ so.parts;
    }

first-alone : (o : Option FailedCheck) → first_some (o ∷ None ∷ []) ≡ o
first-alone None = refl
first-alone (Some failed) = refl

-- where nothing is left, all are compared
pub compares-all : (case : Case) (past : List (List ℕ)) (kind : Option StageKind) (first : Said) (others : List Said) (place : ℕ)
    (difference : Option FailedCheck) (told : List Shown)
    → ComparesTo case past kind first others place difference told → drop place others ≡ []
    → (unjustified_from case 2 others ≡ None) × (difference ≡ unlike_from case past 2 others)
    × (told ≡ parts_shown case kind (first ∷ others))
compares-all case past kind first others place difference told so is = (
  so.justified ∙ ap (unjustified_from case (place + 2)) is,
  sym (so.differs ∙ ap (λ (l : List Said). first_some (difference ∷ unlike_from case past (place + 2) l ∷ [])) is ∙ first-alone difference),
  sym (append-nil told) ∙ ap (λ (p : List Shown). told ++ p) (sym (ap (parts_shown case kind) is ∙ parts-end case kind)) ∙ so.parts,
)

-- ---- the same of what the code holds

-- what stands at a place
given-at : (others : List GivenSaid) (place : ℕ) (d : GivenSaid) → place < length others
    → (place < length (map said_of others)) × (get_or (map said_of others) place (said_of (get_or others place d)) ≡ said_of
    (get_or others place d))
given-at others place d lt = (
  omega (arith, lt, length-map others said_of),
  get_or-map said_of others place d
      (said_of (get_or others place d)) lt,
)

-- one that shows nothing ends it
pub fails-at : (case : Case) (past : List (List ℕ)) (kind : Option StageKind) (first : Said) (others : List GivenSaid) (place : ℕ)
    (d : GivenSaid) (difference : Option FailedCheck) (told : List Shown)
    (failed : Option FailedCheck) → ComparesTo case past kind first (map said_of others) place difference told → place < length others
    → ShowsNothing case (place + 2) (said_of (get_or others place d)) failed → IsUnjustified case (map said_of others) failed
fails-at case past kind first others place d difference told None so lt nothing = tt
fails-at case past kind first others place d difference told (Some failed) so lt nothing =
    let at = given-at others place d lt in
    compares-fails case past kind first (map said_of others) place difference told (said_of (get_or others place d)) so at.0 at.1 nothing.1
    ∙ ap
    (λ (f : FailedCheck). some f) (sym nothing.0)
  where
    some : FailedCheck → Option FailedCheck
    some f = Some f

-- how the first log differs from another, as a search for the least slot finds it
abbrev FindsUnlike : ℕ → Log → Log → Option FailedCheck → Type 0
FindsUnlike number log other unlike = (stage : ℕ) (past others : List (List ℕ)) → KeepsPast log.shape stage past log
    → KeepsPast log.shape stage others other
    → unlike ≡ option_map (λ slot. LogsDiffer number slot) (unlike_place past others)

-- one that shows a log and its part goes on
pub goes-at : (case : Case) (first : Said) (own : Shows) (others : List GivenSaid) (place : ℕ) (d : GivenSaid)
    (difference now unlike : Option FailedCheck) (told more : List Shown) (shows : Shows)
    → IsShown case first own → AreObjections case own.stage others
    → ComparesTo case (past_in case first) (kind_of_stage (shape_in case) first.header.stage) first (map said_of others) place difference
    told → place < length others
    → IsShown case (said_of (get_or others place d)) shows → FindsUnlike (place + 2) own.log shows.log unlike
    → now ≡ option_or difference unlike
    → more ≡ told ++ option_to_list shows.shown
    → ComparesTo case (past_in case first) (kind_of_stage (shape_in case) first.header.stage) first (map said_of others) (place + 1) now
    more
goes-at case first own others place d difference now unlike told more shows s objects so lt shown finds is tells =
    let one : GivenSaid = get_or others place d in
    let stage : one.header.stage ≡ first.header.stage = (objects place d lt).0.at ∙ s.stage in
    let shape : own.log.shape ≡ shape_in case = ap (λ (l : Log). l.shape) s.keeps.keeps in
    let other = subst (λ (n : ℕ). KeepsPast (shape_in case) n (past_in case (said_of one)) shows.log) stage shown.keeps in
    let found = finds first.header.stage (past_in case first) (past_in case (said_of one))
    (subst (λ (x : Shape). KeepsPast x first.header.stage (past_in case first) own.log) (sym shape) s.keeps)
    (subst (λ (x : Shape). KeepsPast x first.header.stage (past_in case (said_of one)) shows.log) (sym shape) other) in
    let at = given-at others place d lt in
    let part = shown.told ∙ ap (λ (n : ℕ). parts_shown case (kind_of_stage (shape_in case) n) (said_of one ∷ [])) stage in
    compares-next case (past_in case first) (kind_of_stage (shape_in case) first.header.stage) first (map said_of others) place difference
    now told more
    (option_to_list shows.shown) (said_of one)
    so at.0 at.1 shown.justified (is ∙ ap (option_or difference) found) part tells
