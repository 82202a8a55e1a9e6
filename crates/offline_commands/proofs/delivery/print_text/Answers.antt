use Rattle.offline_commands.proofs.Printing.{broken_off}
use Rattle.offline_commands.proofs.delivery.print_text.Goals as goal

pub returns-in-OutOfMemory-clause-delivers : goal.returns-in-OutOfMemory-clause-delivers
returns-in-OutOfMemory-clause-delivers g c = rw c.print_last.ensures.status
    (broken_off _ _ _ _ _ _ c.in-OutOfMemory.ensures.part (rw c.requires.last at c.print_last.ensures.part))
