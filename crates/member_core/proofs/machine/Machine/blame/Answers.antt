use Rattle.round_spec.specs.Embedded.{slot_named}
use Rattle.member_core.proofs.Storing.{short-there}
use Rattle.member_core.proofs.machine.Machine.blame.Goals as goal

pub shown-requires-clause-short : goal.shown-requires-clause-short
shown-requires-clause-short c =
    short-there c.args.self.now.seat.number c.args.self.now.log (slot_named c.args.header) c.requires.short
