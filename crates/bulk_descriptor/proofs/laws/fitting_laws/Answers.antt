use Rattle.bulk_descriptor.proofs.FittingLemmas.{fits_determines, all_fit_message}
use Rattle.bulk_descriptor.proofs.laws.fitting_laws.Goals as goal

pub returns-clause-fits_determines : goal.returns-clause-fits_determines
returns-clause-fits_determines c = fits_determines

pub returns-clause-all_fit_message : goal.returns-clause-all_fit_message
returns-clause-all_fit_message c = all_fit_message
