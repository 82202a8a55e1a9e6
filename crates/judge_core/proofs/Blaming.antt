-- What the checks of a replay come to, by what its posts show.
use Rattle.std.proofs.Common.{◌≡◌, ℕ, true, List, [], ◌∷◌, length, Option, Some, None, Result, Err, refl, sym, ap, subst, ◌∙◌}
use Rattle.std.specs.Prelude.{IsSome, option_and_then, unwrap_or}
use Rattle.std.proofs.lemmas.Bool.{cond-true, cond-false}
use Rattle.std.proofs.lemmas.List.{length-map}
use Rattle.wire_core.specs.Answers.{first_some, value_unless}
use Rattle.wire_core.specs.Reading.{IsFault}
use Rattle.phase_message.specs.declared.post.Post.{Post}
use Rattle.phase_message.specs.declared.stage.StageKind.{StageKind}
use Rattle.phase_message.specs.declared.stage.StageKind.TheVariants.{Keys as AtKeys, Submit as AtSubmit, Shuffle as AtShuffle, Go as AtGo, Final as AtFinal, Pad as AtPad, Check as AtCheck, Confirm as AtConfirm}
use Rattle.phase_message.specs.Shape.{Shape}
use Rattle.phase_message.specs.Stages.{kind_of_stage, vote_of}
use Rattle.stage_log.specs.Log.{before, contents_of}
use Rattle.stage_log.specs.Table.{Log}
use Rattle.shuffle_blame.specs.declared.fault.Fault.{Fault}
use Rattle.shuffle_blame.specs.declared.fault.Shown.{Shown}
use Rattle.shuffle_blame.specs.Asked.{AreShown, inquiry_of}
use Rattle.shuffle_blame.specs.Replay.{Inquiry, culprit_of}
use Rattle.judge_core.specs.declared.failed_check.FailedCheck.{FailedCheck}
use Rattle.judge_core.specs.declared.failed_check.FailedCheck.TheVariants.{NotJustified}
use Rattle.judge_core.specs.declared.replaying.Shows.{Shows}
use Rattle.judge_core.specs.Case.{Case, Said, shape_in}
use Rattle.judge_core.specs.Closing.{IsClosingPost, is_justified_in, past_in}
use Rattle.judge_core.specs.Replay.{culprit_failure, inquiry_in, parts_shown, replay_answer, shown_of, unjustified_from, unlike_from}
use Rattle.judge_core.specs.Showing.{IsShown, IsUnjustified, ShowsNothing}
use Rattle.judge_core.proofs.Showings.{before-past}

-- ---- the answer

abbrev answer_of : Option FailedCheck → Result (Unit {0}) FailedCheck
answer_of failure = value_unless failure (tt {0})

abbrev culprit_in : Case → Said → List Said → Option FailedCheck
culprit_in case first others = culprit_failure case.accused (culprit_of (inquiry_in case first (first ∷ others)))

three-parts : (case : Case) (first : Said) (others : List Said) (u v : Option FailedCheck) → unjustified_from case 1 (first ∷ others) ≡ u
    → unlike_from case (past_in case first) 2 others ≡ v
    → replay_answer case (first ∷ others) ≡ answer_of (first_some (u ∷ v ∷ culprit_in case first others ∷ []))
three-parts case first others u v e f =
    ap (λ (x : Option FailedCheck). answer_of (first_some (x ∷ unlike_from case (past_in case first) 2 others ∷ culprit_in case first others
    ∷ []))) e
    ∙ ap (λ (x : Option FailedCheck). answer_of (first_some (u ∷ x ∷ culprit_in case first others ∷ []))) f

behind-first : (case : Case) (first : Said) (others : List Said) → is_justified_in case first ≡ true
    → unjustified_from case 1 (first ∷ others) ≡ unjustified_from case 2 others
behind-first case first others good = cond-true (is_justified_in case first) (unjustified_from case 2 others) (Some (NotJustified 1)) good

-- where the first is not justified
pub first-unjustified : (case : Case) (first : Said) (others : List Said) (failed : Option FailedCheck) → ShowsNothing case 1 first failed
    → IsFault failed (replay_answer case (first ∷ others))
first-unjustified case first others None nothing = tt
first-unjustified case first others (Some failed) nothing =
    three-parts case first others (Some (NotJustified 1)) (unlike_from case (past_in case first) 2 others)
    (cond-false (is_justified_in case first) (unjustified_from case 2 others) (Some (NotJustified 1)) nothing.1) refl
    ∙ ap (λ (f : FailedCheck). err f) (sym nothing.0)
  where
    err : FailedCheck → Result (Unit {0}) FailedCheck
    err f = Err f

-- where another is not justified
pub other-unjustified : (case : Case) (first : Said) (others : List Said) (failed : Option FailedCheck) → is_justified_in case first ≡ true
    → IsUnjustified case others failed → IsFault failed (replay_answer case (first ∷ others))
other-unjustified case first others None good unjustified = tt
other-unjustified case first others (Some failed) good unjustified =
    three-parts case first others (Some failed) (unlike_from case (past_in case first) 2 others)
    (behind-first case first others good ∙ unjustified) refl

-- where all are justified, and two logs differ
pub logs-differ : (case : Case) (first : Said) (others : List Said) (failed : FailedCheck) → is_justified_in case first ≡ true
    → unjustified_from case 2 others ≡ None → Some failed ≡ unlike_from case (past_in case first) 2 others
    → replay_answer case (first ∷ others) ≡ Err failed
logs-differ case first others failed good none unlike = three-parts case first others None (Some failed)
    (behind-first case first others good ∙ none) (sym unlike)

-- where none do, the replay decides
pub replay-decides : (case : Case) (first : Said) (others : List Said) (fault : Option Fault) (failure : Option FailedCheck)
    → is_justified_in case first ≡ true
    → unjustified_from case 2 others ≡ None → None ≡ unlike_from case (past_in case first) 2 others
    → fault ≡ culprit_of (inquiry_in case first (first ∷ others)) → failure ≡ culprit_failure case.accused fault
    → replay_answer case (first ∷ others) ≡ value_unless failure (tt {0})
replay-decides case first others fault failure good none alike blames is =
    three-parts case first others None None (behind-first case first others good ∙ none) (sym alike)
    ∙ ap answer_of (last (culprit_in case first others) ∙ sym (is ∙ ap (culprit_failure case.accused) blames))
  where
    last : (o : Option FailedCheck) → first_some (None ∷ None ∷ o ∷ []) ≡ o
    last None = refl
    last (Some f) = refl

-- ---- what is replayed

abbrev asked : Shape → List (List ℕ) → ℕ → ℕ → List Shown → Inquiry
asked shape past stage round shown = record { shape = shape; past = past; stage = stage; round = round; shown = shown }

pub inquiry-is : (case : Case) (first : Said) (others : List Said) (shows : Shows) (told : List Shown) (s : IsShown case first shows)
    → told ≡ parts_shown case (kind_of_stage (shape_in case) first.header.stage) (first ∷ others)
    → inquiry_of shows.log shows.stage case.round told ≡ inquiry_in case first (first ∷ others)
inquiry-is case first others shows told s e =
    let shape : shows.log.shape ≡ shape_in case = ap (λ (l : Log). l.shape) s.keeps.keeps in
    let posts : before shows.log first.header.stage ≡ Some s.keeps.posts = before-past (shape_in case) first.header.stage
    (past_in case first) shows.log s.keeps in
    let past : contents_of (unwrap_or (before shows.log first.header.stage) []) ≡ past_in case first = ap
    (λ (o : Option (List Post)). contents_of (unwrap_or o [])) posts ∙ s.keeps.contents in
    ap (λ (stage : ℕ). inquiry_of shows.log stage case.round told) s.stage
    ∙ ap (λ (x : Shape). asked x (contents_of (unwrap_or (before shows.log first.header.stage) [])) first.header.stage case.round told)
    shape
    ∙ ap (λ (x : List (List ℕ)). asked (shape_in case) x first.header.stage case.round told) past
    ∙ ap (λ (x : List Shown). asked (shape_in case) (past_in case first) first.header.stage case.round x) e

-- at the end of a shuffle each shows its part
parts-long : (case : Case) (kind : Option StageKind) (said : List Said) → length said ≡ (shape_in case).members
    → AreShown (shape_in case) kind (parts_shown case kind said)
parts-long case None said long = tt
parts-long case (Some (AtFinal shuffle)) said long = length-map said (shown_of case) ∙ long
parts-long case (Some AtConfirm) said long = tt
parts-long case (Some AtKeys) said long = tt
parts-long case (Some (AtSubmit shuffle)) said long = tt
parts-long case (Some (AtShuffle shuffle k)) said long = tt
parts-long case (Some (AtGo shuffle)) said long = tt
parts-long case (Some AtPad) said long = tt
parts-long case (Some AtCheck) said long = tt

pub all-shown : (case : Case) (first : Said) (others : List Said) (shows : Shows) (told : List Shown) → IsShown case first shows
    → told ≡ parts_shown case (kind_of_stage (shape_in case) first.header.stage) (first ∷ others)
    → length (first ∷ others) ≡ (shape_in case).members → AreShown shows.log.shape (kind_of_stage shows.log.shape shows.stage) told
all-shown case first others shows told s e long =
    let shape : shows.log.shape ≡ shape_in case = ap (λ (l : Log). l.shape) s.keeps.keeps in
    subst (λ (x : Shape). AreShown x (kind_of_stage x shows.stage) told) (sym shape)
    (subst (λ (stage : ℕ). AreShown (shape_in case) (kind_of_stage (shape_in case) stage) told) (sym s.stage)
    (subst (λ (t : List Shown). AreShown (shape_in case) (kind_of_stage (shape_in case) first.header.stage) t) (sym e)
    (parts-long case (kind_of_stage (shape_in case) first.header.stage) (first ∷ others) long)))

-- the stage closes votes, and all before it is kept
pub shown-closing : (case : Case) (first : Said) (shows : Shows) → IsClosingPost case first → IsShown case first shows
    → IsSome (option_and_then vote_of (kind_of_stage shows.log.shape shows.stage))
shown-closing case first shows post s =
    subst (λ (x : Shape). IsSome (option_and_then vote_of (kind_of_stage x shows.stage))) (sym (ap (λ (l : Log). l.shape) s.keeps.keeps))
    (subst (λ (stage : ℕ). IsSome (option_and_then vote_of (kind_of_stage (shape_in case) stage))) (sym s.stage) post.closing)

pub shown-complete : (case : Case) (first : Said) (shows : Shows) (s : IsShown case first shows) → IsSome (before shows.log shows.stage)
shown-complete case first shows s =
    subst (λ (o : Option (List Post)). IsSome o)
    (sym (ap (λ (stage : ℕ). before shows.log stage) s.stage ∙ before-past (shape_in case) first.header.stage (past_in case first) shows.log
    s.keeps))
    (some_there s.keeps.posts)
  where
    some_there : (posts : List Post) → IsSome (Some posts)
    some_there posts = refl
