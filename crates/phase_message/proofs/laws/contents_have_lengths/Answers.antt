use Rattle.phase_message.proofs.Lengths.{fixed-length, turn-length, pads-length}
use Rattle.phase_message.proofs.laws.contents_have_lengths.Goals as goal

pub returns-clause-fixed : goal.returns-clause-fixed
returns-clause-fixed c = fixed-length

pub returns-clause-turn : goal.returns-clause-turn
returns-clause-turn c = turn-length

pub returns-clause-pads : goal.returns-clause-pads
returns-clause-pads c = pads-length
