use Rattle.ring_poly.proofs.ProductLaws.{product_adds_in_first, product_adds_in_second}
use Rattle.ring_poly.proofs.laws.product_of_sum.Goals as goal

pub returns-clause-first : goal.returns-clause-first
returns-clause-first c = product_adds_in_first

pub returns-clause-second : goal.returns-clause-second
returns-clause-second c = product_adds_in_second
