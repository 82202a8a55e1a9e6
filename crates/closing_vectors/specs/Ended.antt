-- A log to the end of FINAL A.
use Rattle.std.specs.Prelude.{◌+◌}
use Rattle.group_roster.specs.Given.{roster_of}
use Rattle.closing_verdict.specs.Judgement.{Completed}
use Rattle.closing_vectors.specs.declared.judged.Ended.{Ended}

-- its closing stage
abbrev pub completed_in : Ended → Completed
completed_in ended = record { roster = roster_of ended.roster; round = ended.round; log = ended.log; stage = ended.log.shape.members + 3 }
