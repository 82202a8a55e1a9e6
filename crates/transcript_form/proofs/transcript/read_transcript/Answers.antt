use Rattle.std.proofs.Common.{arith}
use Rattle.phase_message.specs.Stages.{shape_of}
use Rattle.transcript_form.proofs.Transcripts.{answered-found, answered-only}
use Rattle.transcript_form.proofs.transcript.read_transcript.Goals as goal

pub returns-clause-found : goal.returns-clause-found
returns-clause-found c =
    answered-found (shape_of c.args.shape) c.args.bytes.now c.read.result (λ i. omega (arith, c.type_inv.bytes i)) c.read.ensures.exact

pub returns-clause-only : goal.returns-clause-only
returns-clause-only c = λ t is spelled.
    answered-only (shape_of c.args.shape) c.args.bytes.now c.read.result t c.args.shape.form c.read.ensures.exact is spelled
