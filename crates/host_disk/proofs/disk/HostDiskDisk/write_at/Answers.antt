use Rattle.std.proofs.Common.{length}
use Rattle.host_disk.proofs.disk.HostDiskDisk.write_at.Goals as goal

pub returns-in-Ok-clause-images : goal.returns-in-Ok-clause-images
returns-in-Ok-clause-images g c = λ image left. (image, tt, c.nothing_is_torn.ensures image c.args.at (length c.args.bytes.now))

pub returns-in-Err-clause-images : goal.returns-in-Err-clause-images
returns-in-Err-clause-images g c = λ image left. (image, tt, c.nothing_is_torn.ensures image c.args.at (length c.args.bytes.now))
