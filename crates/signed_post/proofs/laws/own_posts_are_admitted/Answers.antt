use Rattle.signed_post.proofs.Lengths.{own_posts_are_admitted}
use Rattle.signed_post.proofs.laws.own_posts_are_admitted.Goals as goal

pub returns : goal.returns
returns c = own_posts_are_admitted
