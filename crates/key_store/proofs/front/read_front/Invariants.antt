use Rattle.std.proofs.Common.{◌≡◌, ℕ, List, ◌-◌, ◌≤◌, IfSome, length, take}
use Rattle.crash_disk.specs.Disk.{LeavesOnly}
use Rattle.crash_disk.specs.Names.{StaysBeside}
use Rattle.key_store.proofs.front.read_front.Given as goal

abbrev pub invariant-loop-size : goal.invariant-loop-size
invariant-loop-size g l = record {
  within : l.size ≤ 128;
  read : IfSome (g.D.Disk.file l.fn.disk) (λ file. (l.size ≤ length file) × (take l.size l.image ≡ take l.size file));
  images : (image : List ℕ) → g.D.Disk.may_leave l.disk image → g.D.Disk.may_leave l.fn.disk image;
  moments : LeavesOnly g.D.Disk.moment g.D.Disk.left_since l.fn.disk l.disk (g.D.Disk.may_leave l.fn.disk);
  kept : g.D.Disk.file l.disk ≡ g.D.Disk.file l.fn.disk;
  beside : StaysBeside (g.D.Disk.names l.fn.disk) (g.D.Disk.names l.disk);
  no_fall : g.D.Disk.faults l.fn.disk ≤ g.D.Disk.faults l.disk;
}

abbrev pub decreases-loop-size : goal.decreases-loop-size
decreases-loop-size g l = 128 - l.size
