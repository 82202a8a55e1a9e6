use Rattle.member_spec.proofs.Growing.{posts_grow}
use Rattle.member_spec.proofs.laws.posts_only_grow.Goals as goal

pub returns : goal.returns
returns c = posts_grow
