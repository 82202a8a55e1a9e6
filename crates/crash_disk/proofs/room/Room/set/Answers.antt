use Rattle.std.proofs.Common.{arith}
use Rattle.crash_disk.proofs.Overwrites.{first_written}
use Rattle.crash_disk.proofs.room.Room.set.Goals as goal

pub returns : goal.returns
returns c =
    first_written _ _ _ c.args.bytes.now c.self.inside.buffer.len c.overwrite.ensures
    (omega (arith, c.requires, c.self.invariant, c.self.inside.buffer.ok.0))
