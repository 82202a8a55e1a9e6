use Rattle.std.proofs.Common.{arith}
use Rattle.lms_tree.proofs.KeyBytes.{read_as_written}
use Rattle.lms_tree.proofs.keys.LmsPublic.bytes.Goals as goal

pub returns-clause-read_back : goal.returns-clause-read_back
returns-clause-read_back c = rw c.write_into.ensures (read_as_written c.args.self.now (omega arith))
