use Rattle.offline_commands.proofs.Printing.{broken_at_once}
use Rattle.offline_commands.proofs.delivery.print.Goals as goal

pub returns : goal.returns
returns g c = record {
  delivers = rw c.print_last.ensures.status (broken_at_once _ _ _ _ _ (rw c.in-Ok.ensures at c.print_last.ensures.part));
  count = c.print_last.ensures.no_fall;
}
