use Rattle.stage_log.proofs.Fronts.{before-complete, before-front, before-put, complete-before, some_is}
use Rattle.stage_log.specs.Log.{before}
use Rattle.stage_log.proofs.laws.pasts_are_fronts.Goals as goal

pub returns-clause-complete : goal.returns-clause-complete
returns-clause-complete c = λ log stage. (
  λ is earlier lt. complete-before log stage earlier is lt,
  λ all. let past = before-complete log stage all in some_is (before log stage) past.0 past.1,
)

pub returns-clause-front : goal.returns-clause-front
returns-clause-front c = before-front

pub returns-clause-put : goal.returns-clause-put
returns-clause-put c = before-put
