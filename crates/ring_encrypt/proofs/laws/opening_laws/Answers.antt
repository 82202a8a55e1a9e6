use Rattle.ring_encrypt.proofs.OpeningLemmas.{sealed_is_decoded, length-capsule_of}
use Rattle.ring_encrypt.proofs.KeyLemmas.{key_is_public_key}
use Rattle.ring_encrypt.proofs.ReducedLemmas.{sealed_is_reduced}
use Rattle.ring_encrypt.proofs.Exactness.{opens_exactly, capsule_determines, key_opens}
use Rattle.ring_encrypt.proofs.laws.opening_laws.Goals as goal

pub returns-clause-exactly : goal.returns-clause-exactly
returns-clause-exactly c = opens_exactly

pub returns-clause-decoded : goal.returns-clause-decoded
returns-clause-decoded c = sealed_is_decoded

pub returns-clause-determines : goal.returns-clause-determines
returns-clause-determines c = capsule_determines

pub returns-clause-key_opens : goal.returns-clause-key_opens
returns-clause-key_opens c = key_opens

pub returns-clause-public_key : goal.returns-clause-public_key
returns-clause-public_key c = key_is_public_key

pub returns-clause-as_long : goal.returns-clause-as_long
returns-clause-as_long c = length-capsule_of

pub returns-clause-reduced : goal.returns-clause-reduced
returns-clause-reduced c = sealed_is_reduced
