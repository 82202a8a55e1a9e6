use Rattle.std.proofs.Common.{List, Some, ap, sym, ◌∙◌, arith}
use Rattle.std.proofs.lemmas.List.{take_all}
use Rattle.std.specs.Prelude.{Option}
use Rattle.phase_message.specs.declared.post.Post.{Post}
use Rattle.phase_message.specs.Shape.{Shape}
use Rattle.stage_log.specs.Log.{contents_in}
use Rattle.stage_log.specs.Table.{posts_in}
use Rattle.go_nogo.specs.declared.votes.Vote.{Vote}
use Rattle.go_nogo.specs.Votes.{votes_of}
use Rattle.go_nogo.proofs.VoteSlots.{place-vote, vote_row, votes-next}
use Rattle.go_nogo.proofs.votes.votes_of.Goals as goal

pub vote_in-requires : goal.vote_in-requires
vote_in-requires c =
    let members = ap (λ (shape : Shape). shape.members) c.shape-shape.ensures.shape in
    place-vote c.args.log.now c.args.stage c.loop-place.place c.shape-shape.ensures.form c.requires.votes c.requires.complete
    c.requires.stand (omega (arith, members))

pub loop-place-preserved : goal.loop-place-preserved
loop-place-preserved c =
    let members = ap (λ (shape : Shape). shape.members) c.shape-shape.ensures.shape in
    votes-next c.args.log.now c.args.stage c.loop-place.place c.loop-place.votes.items c.in_ok-vote.vote c.shape-shape.ensures.form
    c.requires.votes c.requires.complete (omega (arith, members))
    c.loop-place.invariant c.in_ok-vote.ensures
    ∙ ap (λ (votes : List Vote). Some votes) (sym c.in_ok-push.ensures.items)

pub returns : goal.returns
returns c =
    let members = ap (λ (shape : Shape). shape.members) c.shape-shape.ensures.shape in
    let row = vote_row c.args.log.now c.args.stage c.shape-shape.ensures.form c.requires.votes in
    ap (λ (places : List (Option Post)). votes_of c.args.log.now.shape (contents_in places))
    (sym (take_all c.loop-place.place (posts_in c.args.log.now c.args.stage) (omega (arith, members))))
    ∙ c.loop-place.invariant
