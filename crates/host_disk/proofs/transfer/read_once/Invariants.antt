use Rattle.std.proofs.Common.{◌≡◌}
use Rattle.std.specs.Prelude.{IsSome}
use Rattle.host_disk.proofs.transfer.read_once.Given as goal

abbrev pub invariant-loop : goal.invariant-loop
invariant-loop g l = (g.F.PlacedFile.told l.file ≡ g.F.PlacedFile.told l.fn.file) × (IsSome (g.F.PlacedFile.told l.fn.file) → l.into ≡ l.fn.into)
