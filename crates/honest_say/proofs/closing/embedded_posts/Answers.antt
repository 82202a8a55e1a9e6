use Rattle.std.proofs.Common.{◌-◌, sym, ◌∙◌, arith}
use Rattle.stage_log.proofs.Fronts.{complete-before}
use Rattle.honest_say.specs.Pasts.{posts_before}
use Rattle.honest_say.proofs.ClosingLemmas.{agree-before, vote-row, vote-stage}
use Rattle.honest_say.proofs.ClosingRows.{embeds-all, embeds-votes}
use Rattle.honest_say.proofs.closing.embedded_posts.Goals as goal

pub overflow_sub-stage : goal.overflow_sub-stage
overflow_sub-stage c = (vote-row c.args.log.now.shape c.args.stage c.requires.closing).0

pub votes_of-requires-clause-votes : goal.votes_of-requires-clause-votes
votes_of-requires-clause-votes c =
    let row = vote-row c.args.log.now.shape c.args.stage c.requires.closing in
    vote-stage c.args.log.now.shape (c.args.stage - 1) row.1

pub votes_of-requires-clause-complete : goal.votes_of-requires-clause-complete
votes_of-requires-clause-complete c =
    let row = vote-row c.args.log.now.shape c.args.stage c.requires.closing in
    complete-before c.args.log.now c.args.stage (c.args.stage - 1) c.requires.complete (omega (arith, row.0))

pub returns-then-unanimous : goal.returns-then-unanimous
returns-then-unanimous c =
    let log = c.args.log.now in
    let row = vote-row log.shape c.args.stage c.requires.closing in
    let agree = agree-before log c.args.stage c.in_ok-votes.votes.items row.0 c.requires.complete c.in_ok-votes.ensures in
    embeds-votes log.shape (posts_before log c.args.stage) c.args.stage c.in_ok-votes-2.votes
    (agree ∙ sym c.unanimous.ensures.value ∙ c.if-unanimous.true) c.in_ok-votes-2.ensures

pub returns : goal.returns
returns c =
    let log = c.args.log.now in
    let row = vote-row log.shape c.args.stage c.requires.closing in
    let agree = agree-before log c.args.stage c.in_ok-votes.votes.items row.0 c.requires.complete c.in_ok-votes.ensures in
    embeds-all log.shape (posts_before log c.args.stage) c.args.stage c.in_ok-posts.posts
    (agree ∙ sym c.unanimous.ensures.value ∙ c.if-unanimous.false) c.in_ok-posts.ensures
