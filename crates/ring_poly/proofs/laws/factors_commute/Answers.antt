use Rattle.ring_poly.proofs.ProductLaws.{factors_commute}
use Rattle.ring_poly.proofs.laws.factors_commute.Goals as goal

pub returns : goal.returns
returns c = factors_commute
