use Rattle.std.proofs.Common.{arith}
use Rattle.phase_message.specs.Stages.{shape_of}
use Rattle.phase_message.proofs.Whole.{is_found}
use Rattle.phase_message.proofs.content.decode.Goals as goal

pub returns-clause-found : goal.returns-clause-found
returns-clause-found c = is_found (shape_of c.args.shape) c.args.bytes.now c.read_content.result (λ i. omega (arith, c.type_inv.bytes i))
    c.read_content.ensures
