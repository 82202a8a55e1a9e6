use Rattle.layer_cipher.proofs.LayerLemmas.{peels_exactly, key_peels, layer_adds}
use Rattle.layer_cipher.proofs.WrapLemmas.{wrapping_adds, wrapped_opens, outermost_determined}
use Rattle.layer_cipher.proofs.laws.layer_laws.Goals as goal

pub returns-clause-exactly : goal.returns-clause-exactly
returns-clause-exactly c = peels_exactly

pub returns-clause-key_peels : goal.returns-clause-key_peels
returns-clause-key_peels c = key_peels

pub returns-clause-layer_adds : goal.returns-clause-layer_adds
returns-clause-layer_adds c = layer_adds

pub returns-clause-wrapping_adds : goal.returns-clause-wrapping_adds
returns-clause-wrapping_adds c = wrapping_adds

pub returns-clause-wrapped_opens : goal.returns-clause-wrapped_opens
returns-clause-wrapped_opens c = wrapped_opens

pub returns-clause-outermost : goal.returns-clause-outermost
returns-clause-outermost c = outermost_determined
