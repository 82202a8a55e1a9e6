use Rattle.std.proofs.Common.{◌∙◌}
use Rattle.honest_say.proofs.PastLemmas.{kept-said}
use Rattle.honest_say.proofs.said.said_in.Goals as goal

pub returns-clause-value : goal.returns-clause-value
returns-clause-value c =
    c.in_ok-body.ensures.value ∙ kept-said c.args.log.now c.args.stage c.args.slot c.requires.complete c.requires.slot c.requires.earlier
