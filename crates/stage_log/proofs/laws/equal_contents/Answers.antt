use Rattle.stage_log.proofs.Fronts.{views-same, wrong-same}
use Rattle.stage_log.proofs.laws.equal_contents.Goals as goal

pub returns-clause-views : goal.returns-clause-views
returns-clause-views c = views-same

pub returns-clause-wrong : goal.returns-clause-wrong
returns-clause-wrong c = wrong-same
