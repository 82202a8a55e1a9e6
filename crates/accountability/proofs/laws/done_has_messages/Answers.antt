use Rattle.accountability.proofs.Messages.{done_has_messages}
use Rattle.accountability.proofs.laws.done_has_messages.Goals as goal

pub returns : goal.returns
returns c = done_has_messages
