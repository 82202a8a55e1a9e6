use Rattle.std.proofs.Common.{ap}
use Rattle.std.proofs.lemmas.List.{get_or-replicate}
use Rattle.lm_ots.specs.declared.walks.Walk.{Walk}
use Rattle.lm_ots.proofs.walks.walks_to.Goals as goal

pub returns : goal.returns
returns c = λ i below. ap (λ (w : Walk). w.end) (get_or-replicate 268 i _ _ below)
