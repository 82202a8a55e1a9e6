use Rattle.transcript_form.proofs.Claims.{numbers_are_claims}
use Rattle.transcript_form.proofs.laws.claims_have_numbers.Goals as goal

pub returns : goal.returns
returns c = numbers_are_claims
