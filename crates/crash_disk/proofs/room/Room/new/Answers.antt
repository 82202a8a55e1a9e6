use Rattle.std.proofs.Common.{arith}
use Rattle.crash_disk.proofs.Overwrites.{first_written}
use Rattle.crash_disk.proofs.room.Room.new.Goals as goal

pub returns : goal.returns
returns c =
    first_written _ _ _ c.args.bytes.now c.in_ok-buffer.buffer.len c.overwrite.ensures (omega (arith, c.in_ok-buffer.ensures.len))
