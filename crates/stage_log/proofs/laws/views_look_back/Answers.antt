use Rattle.stage_log.proofs.Fronts.{first_wrong-take, view_of-take}
use Rattle.stage_log.proofs.laws.views_look_back.Goals as goal

pub returns-clause-view : goal.returns-clause-view
returns-clause-view c = view_of-take

pub returns-clause-wrong : goal.returns-clause-wrong
returns-clause-wrong c = first_wrong-take
