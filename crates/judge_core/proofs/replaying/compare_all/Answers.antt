use Rattle.std.proofs.Common.{map, ◌∙◌, arith}
use Rattle.std.proofs.Math.ListN.{drop_of_length-le}
use Rattle.std.proofs.lemmas.List.{length-map}
use Rattle.std.proofs.lemmas.Result.{err_from_is_err_and}
use Rattle.phase_message.specs.Stages.{kind_of_stage}
use Rattle.judge_core.specs.Case.{case_of, said_of, shape_in}
use Rattle.judge_core.specs.Closing.{past_in}
use Rattle.judge_core.proofs.Comparisons.{compares-all, compares-none, fails-at, goes-at}
use Rattle.judge_core.proofs.Objections.{object-at}
use Rattle.judge_core.proofs.replaying.compare_all.Goals as goal

pub loop-place-init : goal.loop-place-init
loop-place-init c = λ said s.
    compares-none (case_of c.args.case) (past_in (case_of c.args.case) said)
    (kind_of_stage (shape_in (case_of c.args.case)) said.header.stage) said (map said_of c.args.others.now) c.tell.new.told.items
    (rw c.new-told.ensures.items at c.in_ok-tell.ensures ∙ s.told)

pub show-requires-clause-short : goal.show-requires-clause-short
show-requires-clause-short c = (c.requires.objections c.loop-place.place _ (omega (arith, c.loop-place-test.true))).1

pub show-requires-clause-objection : goal.show-requires-clause-objection
show-requires-clause-objection c =
    object-at (case_of c.args.case) c.args.first.now.stage c.args.others.now c.loop-place.place _ c.requires.objections
    (omega (arith, c.loop-place-test.true))

pub returns-in_err-shows : goal.returns-in_err-shows
returns-in_err-shows c = λ said s.
    let p = err_from_is_err_and c.from_residual-in_err-shows.result c.from_residual-in_err-shows.ensures.1 in
    rw (p.1, p.2) (fails-at (case_of c.args.case) (past_in (case_of c.args.case) said)
    (kind_of_stage (shape_in (case_of c.args.case)) said.header.stage) said c.args.others.now c.loop-place.place _
    c.loop-place.difference c.loop-place.told.items _ (c.loop-place.invariant said s) (omega (arith, c.loop-place-test.true))
    c.in_err-shows.ensures)

pub loop-place-preserved : goal.loop-place-preserved
loop-place-preserved c = λ said s.
    goes-at (case_of c.args.case) said c.args.first.now c.args.others.now c.loop-place.place _ c.loop-place.difference
    c.or-difference.result c.unlike_log.result c.loop-place.told.items
    c.tell-in-loop-place.new.told.items c.in_ok-shows.shows s c.requires.objections (c.loop-place.invariant said s)
    (omega (arith, c.loop-place-test.true)) c.in_ok-shows.ensures
    c.unlike_log.ensures c.or-difference.ensures c.in_ok-tell-2.ensures

pub returns : goal.returns
returns c = λ said s.
    let all = compares-all (case_of c.args.case) (past_in (case_of c.args.case) said)
    (kind_of_stage (shape_in (case_of c.args.case)) said.header.stage) said (map said_of c.args.others.now) c.loop-place.place
    c.loop-place.difference c.loop-place.told.items
    (c.loop-place.invariant said s) (drop_of_length-le (map said_of c.args.others.now)
    (omega (arith, c.loop-place-test.false, length-map c.args.others.now said_of))) in
    record { justified = all.0; difference = all.1; told = all.2 }
