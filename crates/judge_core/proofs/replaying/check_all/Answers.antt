use Rattle.std.proofs.Common.{◌≡◌, ℕ, ◌∷◌, List, length, map, Option, None, sym, ap, subst, ◌∙◌, arith}
use Rattle.std.proofs.lemmas.List.{length-map, nil_from_length}
use Rattle.std.proofs.lemmas.Option.{MatchOption-at_none}
use Rattle.std.proofs.lemmas.Result.{err_from_is_err_and}
use Rattle.wire_core.specs.Answers.{value_unless}
use Rattle.shuffle_blame.specs.declared.fault.Fault.{Fault}
use Rattle.shuffle_blame.specs.Asked.{inquiry_of}
use Rattle.shuffle_blame.specs.Replay.{culprit_of}
use Rattle.judge_core.specs.declared.failed_check.FailedCheck.{FailedCheck}
use Rattle.judge_core.specs.declared.replaying.Compared.{Compared}
use Rattle.judge_core.specs.declared.replaying.Shows.{Shows}
use Rattle.judge_core.specs.declared.hearing.Said.{Said as GivenSaid}
use Rattle.judge_core.specs.Case.{Case, Said, case_of, said_of}
use Rattle.judge_core.specs.Replay.{culprit_failure, replay_answer}
use Rattle.judge_core.specs.Showing.{AreObjections, IsCompared, IsShown}
use Rattle.judge_core.proofs.Blaming.{all-shown, first-unjustified, inquiry-is, logs-differ, other-unjustified, replay-decides, shown-closing, shown-complete}
use Rattle.judge_core.proofs.Objections.{first-object}
use Rattle.judge_core.proofs.replaying.check_all.Goals as goal

pub returns-in_default : goal.returns-in_default
returns-in_default c =
    ap (λ (said : List GivenSaid). replay_answer (case_of c.args.case) (map said_of said))
    (nil_from_length c.args.said.now (MatchOption-at_none _ _ c.in_default.is c.split_first.ensures.cases))

pub show-requires-clause-short : goal.show-requires-clause-short
show-requires-clause-short c =
    (first-object (case_of c.args.case) c.requires.objections.0 c.args.said.now c.in-Some.first.now c.in-Some.others.now
    c.in-Some.ensures.cases.0 c.requires.objections.1).short

pub show-requires-clause-objection : goal.show-requires-clause-objection
show-requires-clause-objection c =
    (first-object (case_of c.args.case) c.requires.objections.0 c.args.said.now c.in-Some.first.now c.in-Some.others.now
    c.in-Some.ensures.cases.0 c.requires.objections.1).object

pub returns-in_err-first : goal.returns-in_err-first
returns-in_err-first c =
    let p = err_from_is_err_and c.from_residual.result c.from_residual.ensures.1 in
    rw (p.1, p.2, c.in-Some.ensures.cases.0) (first-unjustified (case_of c.args.case) (said_of c.in-Some.first.now)
    (map said_of c.in-Some.others.now) _ c.in_err-first.ensures)

pub compare_all-requires-clause-objections : goal.compare_all-requires-clause-objections
compare_all-requires-clause-objections c =
    let all = first-object (case_of c.args.case) c.requires.objections.0 c.args.said.now c.in-Some.first.now c.in-Some.others.now
    c.in-Some.ensures.cases.0 c.requires.objections.1 in
    subst (λ (stage : ℕ). AreObjections (case_of c.args.case) stage c.in-Some.others.now) (sym (c.in_ok-first.ensures.stage ∙ all.at))
    all.others_object

pub compare_all-requires-clause-few : goal.compare_all-requires-clause-few
compare_all-requires-clause-few c = omega (arith, c.requires.count, c.in-Some.ensures.cases.1, c.args.case.roster.now.form.most)

pub returns-in_err-compared : goal.returns-in_err-compared
returns-in_err-compared c =
    let p = err_from_is_err_and c.from_residual-in_err-compared.result c.from_residual-in_err-compared.ensures.1 in
    rw (p.1, p.2, c.in-Some.ensures.cases.0) (other-unjustified (case_of c.args.case) (said_of c.in-Some.first.now)
    (map said_of c.in-Some.others.now) _ c.in_ok-first.ensures.justified
    (c.in_err-compared.ensures (said_of c.in-Some.first.now) c.in_ok-first.ensures))

pub returns-in-Some-difference : goal.returns-in-Some-difference
returns-in-Some-difference c =
    let compared = c.in_ok-compared.ensures (said_of c.in-Some.first.now) c.in_ok-first.ensures in
    ap (λ (said : List GivenSaid). replay_answer (case_of c.args.case) (map said_of said)) c.in-Some.ensures.cases.0
    ∙ logs-differ (case_of c.args.case) (said_of c.in-Some.first.now) (map said_of c.in-Some.others.now) c.in-Some-difference.failed
    c.in_ok-first.ensures.justified compared.justified
    (sym c.in-Some-difference.is ∙ compared.difference)

pub replay-requires-clause-closing : goal.replay-requires-clause-closing
replay-requires-clause-closing c =
    shown-closing (case_of c.args.case) (said_of c.in-Some.first.now) c.in_ok-first.first
    (first-object (case_of c.args.case) c.requires.objections.0 c.args.said.now c.in-Some.first.now c.in-Some.others.now
    c.in-Some.ensures.cases.0 c.requires.objections.1).object.post
    c.in_ok-first.ensures

pub replay-requires-clause-complete : goal.replay-requires-clause-complete
replay-requires-clause-complete c = shown-complete (case_of c.args.case) (said_of c.in-Some.first.now) c.in_ok-first.first
    c.in_ok-first.ensures

pub replay-requires-clause-shown : goal.replay-requires-clause-shown
replay-requires-clause-shown c =
    let compared = c.in_ok-compared.ensures (said_of c.in-Some.first.now) c.in_ok-first.ensures in
    let split : length c.args.said.now ≡ length (c.in-Some.first.now ∷ c.in-Some.others.now) = ap (λ (said : List GivenSaid). length said)
    c.in-Some.ensures.cases.0 in
    all-shown (case_of c.args.case) (said_of c.in-Some.first.now) (map said_of c.in-Some.others.now) c.in_ok-first.first
    c.in_ok-compared.compared.told.items c.in_ok-first.ensures compared.told
    (omega (arith, split, c.requires.count, length-map c.in-Some.others.now said_of))

-- where all are justified and alike, what the replay comes to
replayed : (case : Case) (first : Said) (others : List Said) (given : List GivenSaid) (shows : Shows) (compared : Compared)
    (fault : Option Fault) (failure : Option FailedCheck)
    → replay_answer case (map said_of given) ≡ replay_answer case (first ∷ others) → IsShown case first shows
    → IsCompared case first others compared → compared.difference ≡ None
    → fault ≡ culprit_of (inquiry_of shows.log shows.stage case.round compared.told.items) → failure ≡ culprit_failure case.accused fault
    → replay_answer case (map said_of given) ≡ value_unless failure (tt {0})
replayed case first others given shows compared fault failure split s c none blames is =
    split ∙ replay-decides case first others fault failure s.justified c.justified (sym none ∙ c.difference)
    (blames ∙ ap culprit_of (inquiry-is case first others shows compared.told.items s c.told)) is

pub returns-in-None : goal.returns-in-None
returns-in-None c =
    replayed (case_of c.args.case) (said_of c.in-Some.first.now) (map said_of c.in-Some.others.now) c.args.said.now c.in_ok-first.first
    c.in_ok-compared.compared c.in_ok-fault.fault c.culprit_failure.result
    (ap (λ (said : List GivenSaid). replay_answer (case_of c.args.case) (map said_of said)) c.in-Some.ensures.cases.0) c.in_ok-first.ensures
    (c.in_ok-compared.ensures (said_of c.in-Some.first.now) c.in_ok-first.ensures) c.in_default-difference.is c.in_ok-fault.ensures.culprit
    c.culprit_failure.ensures
    ∙ ap (λ (o : Option FailedCheck). value_unless o (tt {0})) c.in-None.is

pub returns : goal.returns
returns c =
    replayed (case_of c.args.case) (said_of c.in-Some.first.now) (map said_of c.in-Some.others.now) c.args.said.now c.in_ok-first.first
    c.in_ok-compared.compared c.in_ok-fault.fault c.culprit_failure.result
    (ap (λ (said : List GivenSaid). replay_answer (case_of c.args.case) (map said_of said)) c.in-Some.ensures.cases.0) c.in_ok-first.ensures
    (c.in_ok-compared.ensures (said_of c.in-Some.first.now) c.in_ok-first.ensures) c.in_default-difference.is c.in_ok-fault.ensures.culprit
    c.culprit_failure.ensures
    ∙ ap (λ (o : Option FailedCheck). value_unless o (tt {0})) c.in-Some-culprit_failure.is
