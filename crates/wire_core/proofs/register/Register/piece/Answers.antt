use Rattle.std.proofs.Common.{append_assoc}
use Rattle.wire_core.specs.Hash.{hashed}
use Rattle.wire_core.specs.Register.{Holds}
use Rattle.wire_core.proofs.Hashed.{hashed-push}
use Rattle.wire_core.proofs.register.Register.piece.Goals as goal

pub returns : goal.returns
unfolding Holds
returns c tag pieces holds =
    let fed = c.update-2.ensures _ (c.update.ensures (hashed tag pieces) holds) in
    rw (hashed-push tag pieces c.args.b.now) (rw (c.length_bytes.ensures, append_assoc) at fed)
