use Rattle.std.proofs.Common.{arith, rules}
use Rattle.closing_verdict.specs.Judgement.{Completed, completed_of}
use Rattle.closing_verdict.proofs.Dissents.{blamed-one, culprit-is, never-spared, replay-charge, replay-told}
use Rattle.closing_verdict.proofs.PadPosts.{front-some}
use Rattle.closing_verdict.proofs.judging.Closing.judge_dissent.Goals as goal

pub replay-requires-clause-complete : goal.replay-requires-clause-complete
replay-requires-clause-complete c = front-some (completed_of c.args.self) c.requires.closing.complete c.args.self.stage (omega arith)

pub unreachable-requires : goal.unreachable-requires
unreachable-requires c =
    let x : Completed = completed_of c.args.self in
    let is = c.requires.closing.complete in
    let found = culprit-is x c.in_ok-shown.shown.items c.in_ok-fault.field-0 is c.in_ok-shown.ensures c.in_ok-fault.ensures.culprit in
    never-spared x c.args.told.now.items c.in_ok-fault.field-0 is c.requires.told c.requires.differ found c.in_default.is

pub shown_by-requires : goal.shown_by-requires
shown_by-requires c =
    let x : Completed = completed_of c.args.self in
    let is = c.requires.closing.complete in
    let found = culprit-is x c.in_ok-shown.shown.items c.in_ok-fault.field-0 is c.in_ok-shown.ensures c.in_ok-fault.ensures.culprit in
    replay-charge x c.of-charge.result c.in_ok-posts.posts.items c.in-Some.fault.member is c.of-charge.ensures c.in_ok-posts.ensures.value
    (blamed-one x c.in_ok-fault.field-0 c.in-Some.fault is found c.in-Some.is)
    (search rules) c.in_ok-posts.ensures.short

pub returns : goal.returns
returns c =
    let x : Completed = completed_of c.args.self in
    let is = c.requires.closing.complete in
    let found = culprit-is x c.in_ok-shown.shown.items c.in_ok-fault.field-0 is c.in_ok-shown.ensures c.in_ok-fault.ensures.culprit in
    replay-told x c.args.told.now.items c.in_ok-fault.field-0 c.in-Some.fault c.of-charge.result c.in_ok-posts.posts.items
    c.in_ok-conviction.conviction is c.requires.told c.requires.differ found c.in-Some.is
    c.of-charge.ensures c.in_ok-posts.ensures.value c.in_ok-conviction.ensures
