use Rattle.std.proofs.Common.{◌≤◌, length, take}
use Rattle.offline_commands.specs.Outside.{Gains}
use Rattle.offline_commands.proofs.host.put_all.Given as goal

abbrev pub invariant-loop : goal.invariant-loop
invariant-loop g l = (l.put ≤ length l.piece) × Gains (g.W.Write.contents l.fn.writer) (g.W.Write.contents l.writer) (take l.put l.piece)
