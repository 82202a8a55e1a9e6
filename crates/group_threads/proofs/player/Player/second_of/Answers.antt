use Rattle.std.proofs.Common.{◌≡◌, ◌∙◌}
use Rattle.group_threads.proofs.Members.{ok-so, two-votes}
use Rattle.group_threads.proofs.player.Player.second_of.Goals as goal

pub returns-in-TwoVotes-clause-post : goal.returns-in-TwoVotes-clause-post
returns-in-TwoVotes-clause-post c = ok-so c.second_post.result _ _ c.second_post.ensures.post
    (λ second makes seat count post p is. makes seat.spare post p.spare is ∙ two-votes c.args.self.now seat count post p c.in-TwoVotes.is)
