use Rattle.stage_log.proofs.EqualViews.{views-determine, views-equal}
use Rattle.stage_log.proofs.laws.equal_views.Goals as goal

pub returns-clause-either : goal.returns-clause-either
returns-clause-either c = views-equal

pub returns-clause-equal : goal.returns-clause-equal
returns-clause-equal c = views-determine
