use Rattle.std.proofs.Common.{◌≡◌}
use Rattle.host_disk.proofs.transfer.sync_once.Given as goal

abbrev pub invariant-loop : goal.invariant-loop
invariant-loop g l = g.F.PlacedFile.told l.file ≡ g.F.PlacedFile.told l.fn.file
