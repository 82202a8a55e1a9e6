use Rattle.std.proofs.Common.{refl}
use Rattle.offline_commands.proofs.Reading.{too_long, failed, no_memory}
use Rattle.offline_commands.proofs.commands.read_within.Goals as goal

pub returns-in-TooLong-clause-answer : goal.returns-in-TooLong-clause-answer
returns-in-TooLong-clause-answer g c = too_long _ _ _ _ (c.in-TooLong.ensures.too_long refl)

pub returns-in-Failed-clause-answer : goal.returns-in-Failed-clause-answer
returns-in-Failed-clause-answer g c = failed _ _ _ _ (c.in-Failed.ensures.failed refl)

pub returns-in-OutOfMemory-clause-answer : goal.returns-in-OutOfMemory-clause-answer
returns-in-OutOfMemory-clause-answer g c = no_memory _ _ _ _
