use Rattle.std.proofs.Common.{arith, ◌≡◌, ◌+◌, ◌-◌, length}
use Rattle.crash_disk.proofs.Overwrites.{put_mid-overwritten}
use Rattle.crash_disk.proofs.room.overwrite.Goals as goal

pub returns : goal.returns
returns c =
    let n : c.args.at + length c.args.bytes.now - c.args.at ≡ length c.args.bytes.now = omega arith in
    rw c.copy_from_slice.ensures.after (put_mid-overwritten c.args.all.now c.args.at _ c.args.bytes.now n)
