use Rattle.go_nogo.proofs.EmbeddedSlots.{assent-slots, objection-slots}
use Rattle.go_nogo.proofs.laws.embedded_slots.Goals as goal

pub returns-clause-votes : goal.returns-clause-votes
returns-clause-votes c = assent-slots

pub returns-clause-all : goal.returns-clause-all
returns-clause-all c = objection-slots
