use Rattle.lm_ots.proofs.Signatures.{leads_to_key}
use Rattle.lm_ots.proofs.one_time_keys.own_signatures_lead_to_their_key.Goals as goal

pub returns : goal.returns
returns c = leads_to_key
