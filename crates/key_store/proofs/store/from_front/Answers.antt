use Rattle.std.proofs.Common.{sym}
use Rattle.key_store.proofs.Keys.{loaded}
use Rattle.key_store.proofs.store.from_front.Goals as goal

pub returns-in-Ok-secret_of-clause-loaded : goal.returns-in-Ok-secret_of-clause-loaded
returns-in-Ok-secret_of-clause-loaded c =
    loaded c.args.image.now c.args.size c.in-Ok.content c.in-Ok-secret_of.secret (sym c.in-Ok.ensures.value) c.in-Ok.ensures.whole
    c.told-image c.in-Ok-secret_of.ensures.secret
