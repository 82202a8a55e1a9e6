use Rattle.std.proofs.Common.{◌≡◌, ◌≤◌, length, option_map, take}
use Rattle.host_disk.specs.Placed.{with_written}
use Rattle.host_disk.proofs.transfer.write_all.Given as goal

abbrev pub invariant-loop : goal.invariant-loop
invariant-loop g l = (l.put ≤ length l.bytes) × (g.F.PlacedFile.told l.file ≡ option_map (with_written (take l.put l.bytes)) (g.F.PlacedFile.told l.fn.file))
