use Rattle.std.proofs.Common.{◌∙◌, sym, arith}
use Rattle.go_nogo.proofs.Justification.{assent-justified, objection-justified, votes-before, votes-complete}
use Rattle.go_nogo.proofs.closing.justified.Goals as goal

pub overflow_sub-stage : goal.overflow_sub-stage
overflow_sub-stage c =
    let before = votes-before c.args.embedded.now.shape c.args.content.now c.requires.closing in
    omega (arith, before.0)

pub votes_of-requires-clause-votes : goal.votes_of-requires-clause-votes
votes_of-requires-clause-votes c = (votes-before c.args.embedded.now.shape c.args.content.now c.requires.closing).1

pub votes_of-requires-clause-complete : goal.votes_of-requires-clause-complete
votes_of-requires-clause-complete c =
    let before = votes-before c.args.embedded.now.shape c.args.content.now c.requires.closing in
    votes-complete c.args.content.now c.args.embedded.now before.0 c.requires.holds

pub returns-then-is_assent : goal.returns-then-is_assent
returns-then-is_assent c =
    assent-justified c.args.embedded.now c.args.content.now c.in_ok-votes.votes.items c.unanimous-agree.result
    (sym c.is_assent.ensures ∙ c.if-is_assent.true) c.in_ok-votes.ensures c.unanimous-agree.ensures.value

pub returns : goal.returns
returns c =
    let before = votes-before c.args.embedded.now.shape c.args.content.now c.requires.closing in
    objection-justified c.args.embedded.now c.args.content.now c.in_ok-votes.votes.items c.unanimous-agree.result c.is_objection.result
    c.view-view.result
    (sym c.is_assent.ensures ∙ c.if-is_assent.false) before.0 c.requires.holds c.in_ok-votes.ensures c.unanimous-agree.ensures.value
    c.view-view.ensures c.is_objection.ensures
