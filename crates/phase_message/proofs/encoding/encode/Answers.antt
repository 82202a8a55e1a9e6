use Rattle.phase_message.proofs.Written.{fits-short}
use Rattle.phase_message.proofs.encoding.encode.Goals as goal

pub put_body-requires : goal.put_body-requires
put_body-requires c = fits-short c.requires.1.0 c.args.content.now.body c.requires.1.2
