use Rattle.signed_post.proofs.Admits.{admits_exactly}
use Rattle.signed_post.proofs.laws.posts_are_admitted.Goals as goal

pub returns : goal.returns
returns c = admits_exactly
