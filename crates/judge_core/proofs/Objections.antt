-- The posts of a replay that are taken dissent, all in one closing stage.
use Rattle.std.proofs.Common.{◌≡◌, ℕ, ◌+◌, ◌<◌, ◌^◌, true, not, List, [], ◌∷◌, length, get_or, map, Option, Some, None, Result, Ok, refl, sym, ap, subst, arith}
use Rattle.std.specs.Prelude.{◌&&◌, ◌==◌, All}
use Rattle.std.proofs.lemmas.Bool.{and_parts, eqb-true, not-false}
use Rattle.std.proofs.lemmas.List.{get_or-map, length-map}
use Rattle.std.proofs.lemmas.List.Elements.{All-cons, All-head, All-nil, All-tail}
use Rattle.wire_core.specs.Answers.{fault_as, value_unless}
use Rattle.wire_core.specs.Reading.{IsFault}
use Rattle.wire_core.proofs.Readings.{bind_ok, fault_as_ok, guard_ok}
use Rattle.phase_message.specs.declared.header.Header.{Header}
use Rattle.phase_message.specs.declared.stage.StageKind.{StageKind}
use Rattle.phase_message.specs.Grammar.{kind_number}
use Rattle.phase_message.specs.Stages.{kind_of_stage}
use Rattle.round_spec.specs.Verdict.{is_dissent}
use Rattle.transcript_form.specs.declared.claim.Claim.{Claim}
use Rattle.transcript_form.specs.declared.claim.Claim.TheVariants.{Replay}
use Rattle.judge_core.specs.declared.failed_check.FailedCheck.{FailedCheck}
use Rattle.judge_core.specs.declared.failed_check.FailedCheck.TheVariants.{Body as FailedBody, Kind}
use Rattle.judge_core.specs.declared.hearing.Said.{Said as GivenSaid}
use Rattle.judge_core.specs.Case.{Case, Said, read_of, said_of, shape_in}
use Rattle.judge_core.specs.Checks.{content_of, conviction_of, hearing_of, is_closing_stage, is_kind_asked, is_of_bodies, is_of_one_stage, own_failure, taken_of}
use Rattle.judge_core.specs.Replay.{replay_answer}
use Rattle.judge_core.specs.Showing.{AreObjections, AreOfOneStage, Dissents, IsObjection}
use Rattle.judge_core.proofs.Hearings.{asked-as, closing-post, taken-read}

abbrev list_ok : List Said → Result (List Said) FailedCheck
list_ok said = Ok said

list_is : (a b : List Said) → list_ok a ≡ list_ok b → a ≡ b
list_is a b e = cc

-- one that is taken
pub objection : (case : Case) (first : Option Header) (number : ℕ) (bytes : List ℕ) (said : Said) → case.claim ≡ Replay
    → taken_of case first number bytes ≡ Ok said
    → IsObjection case said.header.stage said × (is_of_one_stage first said.header ≡ true)
unfolding content_of
objection case first number bytes said is e =
    let kind : Option StageKind = kind_of_stage (shape_in case) said.header.stage in
    let asked = and_parts ((said.header.sender == number) && is_closing_stage kind) (is_of_one_stage first said.header)
    (asked-as case Replay first number bytes said is e) in
    let closing = and_parts (said.header.sender == number) (is_closing_stage kind) asked.0 in
    let bodies = ap is_of_bodies is in
    let looked = taken-read case first number bytes said bodies e in
    let read = bind_ok (fault_as (λ offence. FailedBody number offence.at) (read_of case said)) _ looked.0 looked.1 in
    let right = guard_ok (not (is_kind_asked case.claim first read.0.body)) (Kind number (kind_number read.0.body)) read.0 looked.0 read.2
    in
    let found = fault_as_ok (λ offence. FailedBody number offence.at) (read_of case said) read.0 read.1 in
    let dissents : is_dissent read.0.body ≡ true = subst (λ (c : Claim). is_kind_asked c first read.0.body ≡ true) is
    (not-false (is_kind_asked case.claim first read.0.body) right.0) in (
      record {
        post = closing-post case first number bytes said bodies e closing.1;
        dissents = subst Dissents (sym found) dissents;
        at = refl;
      },
      asked.1,
    )

-- the same at the stage of the first
at-stage : (case : Case) (stage : ℕ) (said : Said) → IsObjection case said.header.stage said → said.header.stage ≡ stage
    → IsObjection case stage said
at-stage case stage said o at = record { post = o.post; dissents = o.dissents; at = at }

-- those that are taken behind the first
others-object : (case : Case) (first : Header) (number : ℕ) (posts : List (List ℕ)) (said : List Said) → case.claim ≡ Replay
    → hearing_of case (Some first) number posts ≡ Ok said
    → (length said ≡ length posts) × All (IsObjection case first.stage) said
unfolding hearing_of
others-object case first number [] said is e =
    subst (λ (s : List Said). (length s ≡ 0) × All (IsObjection case first.stage) s) (list_is [] said e)
    (refl, All-nil (IsObjection case first.stage))
others-object case first number (post ∷ posts) said is e =
    let a = bind_ok (taken_of case (Some first) number post) _ said e in
    let others = bind_ok (hearing_of case (Some first) (number + 1) posts) _ said a.2 in
    let rest = others-object case first (number + 1) posts others.0 is others.1 in
    let o = objection case (Some first) number post a.0 is a.1 in
    let here = at-stage case first.stage a.0 o.0 (eqb-true a.0.header.stage first.stage o.1) in
    subst (λ (s : List Said). (length s ≡ length (post ∷ posts)) × All (IsObjection case first.stage) s)
    (list_is (a.0 ∷ others.0) said others.2)
    (omega (arith, rest.0), All-cons (IsObjection case first.stage) a.0 others.0 here rest.1)

-- all that are taken
all-object : (case : Case) (posts : List (List ℕ)) (said : List Said) → case.claim ≡ Replay → hearing_of case None 1 posts ≡ Ok said
    → (length said ≡ length posts) × ((stage : ℕ) × All (IsObjection case stage) said)
unfolding hearing_of
all-object case [] said is e =
    subst (λ (s : List Said). (length s ≡ 0) × ((stage : ℕ) × All (IsObjection case stage) s)) (list_is [] said e)
    (refl, (0, All-nil (IsObjection case 0)))
all-object case (post ∷ posts) said is e =
    let a = bind_ok (taken_of case None 1 post) _ said e in
    let others = bind_ok (hearing_of case (Some a.0.header) 2 posts) _ said a.2 in
    let rest = others-object case a.0.header 2 posts others.0 is others.1 in
    let here = (objection case None 1 post a.0 is a.1).0 in
    subst (λ (s : List Said). (length s ≡ length (post ∷ posts)) × ((stage : ℕ) × All (IsObjection case stage) s))
    (list_is (a.0 ∷ others.0) said others.2)
    (omega (arith, rest.0), (a.0.header.stage, All-cons (IsObjection case a.0.header.stage) a.0 others.0 here rest.1))

-- the same of what the code holds
pub objections : (case : Case) (posts : List (List ℕ)) (given : List GivenSaid) → case.claim ≡ Replay
    → hearing_of case None 1 posts ≡ Ok (map said_of given)
    → All (λ (one : GivenSaid). length one.content.now < 2 ^ 32) given
    → (length given ≡ length posts) × AreOfOneStage case given
objections case posts given is e short =
    let all = all-object case posts (map said_of given) is e in
    let stage : ℕ = all.1.0 in (
      omega (arith, length-map given said_of, all.0),
      (
        stage,
        λ k d lt. (
          subst (IsObjection case stage) (get_or-map said_of given k d (said_of d) lt)
              (all.1.1 k (said_of d) (omega (arith, length-map given said_of, lt))),
          short k d lt,
        ),
      ),
    )

-- of such posts the first, and the others
pub record IsFirst (case : Case) (stage : ℕ) (first : GivenSaid) (others : List GivenSaid) : Type 0 where
  pub object : IsObjection case first.header.stage (said_of first)
  pub short : length first.content.now < 2 ^ 32
  pub at : first.header.stage ≡ stage
  pub others_object : AreObjections case stage others

pub first-object : (case : Case) (stage : ℕ) (all : List GivenSaid) (first : GivenSaid) (others : List GivenSaid) → all ≡ first ∷ others
    → AreObjections case stage all → IsFirst case stage first others
first-object case stage all first others split each =
    let these : AreObjections case stage (first ∷ others) = subst (AreObjections case stage) split each in
    let head = All-head (λ (one : GivenSaid). IsObjection case stage (said_of one) × (length one.content.now < 2 ^ 32)) first others these
    in
    record {
      object = record { post = head.0.post; dissents = head.0.dissents; at = refl };
      short = head.1;
      at = head.0.at;
      others_object = All-tail (λ (one : GivenSaid). IsObjection case stage (said_of one) × (length one.content.now < 2 ^ 32)) first others
          these;
    }

-- what stands at a place of them
pub object-at : (case : Case) (stage : ℕ) (all : List GivenSaid) (place : ℕ) (d : GivenSaid) → AreObjections case stage all
    → place < length all
    → IsObjection case (get_or all place d).header.stage (said_of (get_or all place d))
object-at case stage all place d each lt =
    let here = (each place d lt).0 in
    record { post = here.post; dissents = here.dissents; at = refl }

-- ---- what the transcript comes to

-- where not all are taken
pub unheard : (case : Case) (posts : List (List ℕ)) (failed : Option FailedCheck) → IsFault failed (hearing_of case None 1 posts)
    → IsFault failed (conviction_of case posts)
unfolding conviction_of
unheard case posts None fault = tt
unheard case posts (Some failed) fault = rw fault refl

-- and where they are
pub heard : (case : Case) (posts : List (List ℕ)) (said : List Said) → case.claim ≡ Replay → hearing_of case None 1 posts ≡ Ok said
    → conviction_of case posts ≡ replay_answer case said
unfolding conviction_of
heard case posts said is e = rw e (ap (λ (claim : Claim). value_unless (own_failure claim case said) (tt {0})) is)
