use Rattle.std.proofs.Common.{sym, arith, ◌-◌, ◌+◌}
use Rattle.phase_message.specs.Stages.{shape_of}
use Rattle.phase_message.proofs.Table.{never_none, submit_b_is, turn_b, go_b_is, final_b_is, nothing_is}
use Rattle.phase_message.proofs.stage.stage_kind.Goals as goal

pub returns-then-stage-n-clause-none : goal.returns-then-stage-n-clause-none
returns-then-stage-n-clause-none c = (
  λ none. absurd (never_none c.first_half.result c.first_half.ensures.some none),
  λ late. absurd
      (omega arith),
)

pub returns-then-from_b-eq0-clause-kind : goal.returns-then-from_b-eq0-clause-kind
returns-then-from_b-eq0-clause-kind c = sym (submit_b_is (shape_of c.args.shape) c.args.stage (omega arith))

pub returns-then-from_b-n-clause-kind : goal.returns-then-from_b-n-clause-kind
returns-then-from_b-n-clause-kind c = sym (turn_b (shape_of c.args.shape) c.args.stage (c.args.stage - (c.args.shape.members + 7))
    (omega arith) (omega arith) (omega arith))

pub returns-then-from_b-n-2-clause-kind : goal.returns-then-from_b-n-2-clause-kind
returns-then-from_b-n-2-clause-kind c = sym (go_b_is (shape_of c.args.shape) c.args.stage (omega arith))

pub returns-then-from_b-n-3-clause-kind : goal.returns-then-from_b-n-3-clause-kind
returns-then-from_b-n-3-clause-kind c = sym (final_b_is (shape_of c.args.shape) c.args.stage (omega arith))

pub returns-else-from_b-n-3-clause-kind : goal.returns-else-from_b-n-3-clause-kind
returns-else-from_b-n-3-clause-kind c = sym (nothing_is (shape_of c.args.shape) c.args.stage (omega arith))
