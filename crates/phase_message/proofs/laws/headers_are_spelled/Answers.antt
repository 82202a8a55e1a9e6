use Rattle.phase_message.proofs.Whole.{header_of-begins, begins-header_of}
use Rattle.phase_message.proofs.laws.headers_are_spelled.Goals as goal

pub returns : goal.returns
returns c = λ bytes h are. (header_of-begins bytes h are, begins-header_of bytes h)
