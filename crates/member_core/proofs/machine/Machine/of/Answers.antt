use Rattle.std.proofs.Common.{refl}
use Rattle.member_core.specs.Stands.{configuration_of}
use Rattle.member_core.proofs.Beginning.{IsEntry, entered-sound, entered-stands}
use Rattle.member_core.proofs.machine.Machine.of.Goals as goal

-- what it entered with
entry : (c : goal.After-new) → IsEntry c.args.config c.args.leaves c.args.log c.args.secrets c.new-seat.result c.new-seen.result c.new.result
entry c = record {
  first = c.requires.first;
  last = c.requires.last;
  short = c.requires.short;
  left = c.requires.leaves;
  log_is = c.requires.log;
  secrets_are = c.requires.secrets (configuration_of c.args.config c.args.leaves) refl refl refl;
  all = c.requires.all;
  seat_is = c.new-seat.ensures (configuration_of c.args.config c.args.leaves) refl refl refl;
  seen_is = c.new-seen.ensures;
  pad = c.new.ensures.pad;
  round = c.have_bounds.ensures.round;
  bytes = c.have_bounds.ensures.message;
  leaves_are = c.have_bounds.ensures.leaves;
}

pub returns-clause-sound : goal.returns-clause-sound
returns-clause-sound c =
    entered-sound c.args.config c.args.leaves c.args.log c.args.secrets c.new-seat.result c.new-seen.result c.new.result (entry c)

pub returns-clause-stands : goal.returns-clause-stands
returns-clause-stands c now =
    entered-stands c.args.config c.args.leaves c.args.log c.args.secrets c.new-seat.result c.new-seen.result c.new.result (entry c) now
