use Rattle.signed_post.proofs.Frames.{written-back}
use Rattle.signed_post.proofs.post.write.Goals as goal

pub returns-clause-read_back : goal.returns-clause-read_back
returns-clause-read_back c = written-back c.args.post.now c.written.result c.written.ensures
