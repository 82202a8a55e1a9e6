use Rattle.bulk_descriptor.proofs.MakingLemmas.{pads_give_message}
use Rattle.bulk_descriptor.proofs.FittingLemmas.{own_pad_fits, other_pads_fit, honest_pad_fits}
use Rattle.bulk_descriptor.proofs.laws.pad_laws.Goals as goal

pub returns-clause-pads_give_message : goal.returns-clause-pads_give_message
returns-clause-pads_give_message c = pads_give_message

pub returns-clause-own_fits : goal.returns-clause-own_fits
returns-clause-own_fits c = own_pad_fits

pub returns-clause-other_fits : goal.returns-clause-other_fits
returns-clause-other_fits c = other_pads_fit

pub returns-clause-honest_fits : goal.returns-clause-honest_fits
returns-clause-honest_fits c = honest_pad_fits
