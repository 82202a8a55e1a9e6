use Rattle.round_spec.proofs.Waiting.{inquiry_is_of_log}
use Rattle.round_spec.proofs.laws.inquiries_are_of_logs.Goals as goal

pub returns : goal.returns
returns c = inquiry_is_of_log
