use Rattle.std.proofs.Common.{arith}
use Rattle.signed_post.proofs.Frames.{read-found, read-only}
use Rattle.signed_post.proofs.post.read.Goals as goal

pub returns-clause-found : goal.returns-clause-found
returns-clause-found c = read-found c.args.bytes.now c.read_post.result (λ i. omega (arith, c.type_inv.bytes i)) c.read_post.ensures.exact

pub returns-clause-only : goal.returns-clause-only
returns-clause-only c = λ post fits e. read-only c.args.bytes.now c.read_post.result post c.read_post.ensures.exact fits e
