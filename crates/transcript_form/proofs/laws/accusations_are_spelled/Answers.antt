use Rattle.transcript_form.proofs.Accusations.{accusations_are_spelled}
use Rattle.transcript_form.proofs.laws.accusations_are_spelled.Goals as goal

pub returns : goal.returns
returns c = accusations_are_spelled
