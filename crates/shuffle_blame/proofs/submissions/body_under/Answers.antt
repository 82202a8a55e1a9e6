use Rattle.layer_cipher.specs.Layer.{Opens}
use Rattle.shuffle_blame.proofs.Steps.{body-short}
use Rattle.shuffle_blame.proofs.submissions.body_under.Goals as goal

pub returns-then-eq-clause-short : goal.returns-then-eq-clause-short
returns-then-eq-clause-short c =
    let opens : Opens c.args.key.now c.args.layer.now c.in-Layer.carried c.in-Layer.body = rw c.in-Layer.is at c.in_ok-carried.ensures.finds
    in
    body-short c.args.key.now c.args.layer.now c.in-Layer.carried c.in-Layer.body 4294967296 opens c.requires
