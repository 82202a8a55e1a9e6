use Rattle.bulk_descriptor.proofs.SpellingLemmas.{descriptors_are_spelled, spelled_are_read, spelling_determines}
use Rattle.bulk_descriptor.proofs.FittingLemmas.{made_is_of_grammar}
use Rattle.bulk_descriptor.proofs.laws.descriptor_laws.Goals as goal

pub returns-clause-spelled : goal.returns-clause-spelled
returns-clause-spelled c = descriptors_are_spelled

pub returns-clause-read : goal.returns-clause-read
returns-clause-read c = spelled_are_read

pub returns-clause-determines : goal.returns-clause-determines
returns-clause-determines c = spelling_determines

pub returns-clause-made : goal.returns-clause-made
returns-clause-made c = made_is_of_grammar
