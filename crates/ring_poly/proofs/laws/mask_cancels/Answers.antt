use Rattle.ring_poly.proofs.ProductLaws.{mask_cancels}
use Rattle.ring_poly.proofs.laws.mask_cancels.Goals as goal

pub returns : goal.returns
returns c = mask_cancels
