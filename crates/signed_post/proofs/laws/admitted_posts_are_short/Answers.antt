use Rattle.signed_post.proofs.Lengths.{posts_are_short, votes_are_short}
use Rattle.signed_post.proofs.laws.admitted_posts_are_short.Goals as goal

pub returns-clause-posts : goal.returns-clause-posts
returns-clause-posts c = posts_are_short

pub returns-clause-votes : goal.returns-clause-votes
returns-clause-votes c = votes_are_short
