use Rattle.std.proofs.Common.{◌≡◌, drop, map}
use Rattle.wire_core.specs.Answers.{first_some}
use Rattle.closing_verdict.specs.Judgement.{completed_of, stage_closed}
use Rattle.closing_verdict.specs.Telling.{held_by}
use Rattle.closing_verdict.proofs.judging.Closing.first_that_holds.Given as goal

-- of the items so far none is an accusation that holds
abbrev pub invariant-loop-item : goal.invariant-loop-item
invariant-loop-item l =
    first_some (map (held_by (stage_closed (completed_of l.self))) l.items) ≡ first_some
    (map (held_by (stage_closed (completed_of l.self))) (drop l.item-index l.items))
