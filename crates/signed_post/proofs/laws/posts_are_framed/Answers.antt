use Rattle.std.proofs.Common.{ap, ◌∙◌}
use Rattle.signed_post.specs.Frame.{frame_of}
use Rattle.signed_post.proofs.Frames.{framed-found, framed-again}
use Rattle.signed_post.proofs.laws.posts_are_framed.Goals as goal

pub returns : goal.returns
returns c = λ bytes post fits. (framed-found bytes post fits, λ spelled. ap frame_of spelled.1 ∙ framed-again post spelled.0)
