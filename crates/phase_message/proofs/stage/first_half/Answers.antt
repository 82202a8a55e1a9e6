use Rattle.std.proofs.Common.{sym, arith, ◌-◌}
use Rattle.phase_message.specs.Stages.{shape_of}
use Rattle.phase_message.proofs.Table.{turn_a, go_a_is, final_a_is, pad_is, check_is, confirm_is}
use Rattle.phase_message.proofs.stage.first_half.Goals as goal

pub returns-then-stage-n-clause-kind : goal.returns-then-stage-n-clause-kind
returns-then-stage-n-clause-kind c = sym (turn_a (shape_of c.args.shape) c.args.stage (c.args.stage - 1) (omega arith) (omega arith)
    (omega arith))

pub returns-in-0-clause-kind : goal.returns-in-0-clause-kind
returns-in-0-clause-kind c = sym (go_a_is (shape_of c.args.shape) c.args.stage (omega arith))

pub returns-in-1-clause-kind : goal.returns-in-1-clause-kind
returns-in-1-clause-kind c = sym (final_a_is (shape_of c.args.shape) c.args.stage (omega arith))

pub returns-in-2-clause-kind : goal.returns-in-2-clause-kind
returns-in-2-clause-kind c = sym (pad_is (shape_of c.args.shape) c.args.stage (omega arith))

pub returns-in-3-clause-kind : goal.returns-in-3-clause-kind
returns-in-3-clause-kind c = sym (check_is (shape_of c.args.shape) c.args.stage (omega arith))

pub returns-in_default-clause-kind : goal.returns-in_default-clause-kind
returns-in_default-clause-kind c = sym (confirm_is (shape_of c.args.shape) c.args.stage (omega arith))
