use Rattle.std.proofs.Common.{◌∙◌}
use Rattle.honest_say.proofs.OwnSecrets.{accuses}
use Rattle.honest_say.proofs.submitting.accusation_item.Goals as goal

pub returns : goal.returns
returns c = λ config past own opened states.
    c.own_item-item.ensures ∙ accuses config c.args.secrets.now c.args.own.now past _ _ _ own opened states c.items-seeds.ensures
