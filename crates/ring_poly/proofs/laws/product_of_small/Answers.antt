use Rattle.ring_poly.proofs.ProductLaws.{product_is_small}
use Rattle.ring_poly.proofs.laws.product_of_small.Goals as goal

pub returns : goal.returns
returns c = product_is_small
