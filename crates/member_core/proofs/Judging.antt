-- What is to be judged, as a member holds it.
use Rattle.std.proofs.Common.{◌≡◌, ◌+◌, true, ap, sym, ◌∙◌}
use Rattle.std.specs.Prelude.{IsSome}
use Rattle.phase_message.specs.Shape.{Shape}
use Rattle.phase_message.specs.Stages.{shape_of}
use Rattle.group_roster.specs.Given.{roster_of}
use Rattle.group_roster.specs.Roster.{shape_of_roster}
use Rattle.stage_log.specs.Log.{before}
use Rattle.round_spec.specs.Verdict.{is_closing}
use Rattle.closing_verdict.specs.Judgement.{IsComplete}
use Rattle.member_core.specs.declared.machine.Machine.{Machine}
use Rattle.member_core.specs.Membership.{completed_of, holdings_of}
use Rattle.member_core.specs.Sound.{IsFormed}
use Rattle.member_core.proofs.Storing.{kept-short}

-- the log is of the group's shape
pub shape-of-group : (m : Machine) → IsFormed m → m.log.shape ≡ shape_of_roster (roster_of m.roster)
shape-of-group m formed =
    let is = formed.entered.1 in
    formed.shape ∙ is.seat.shape ∙ sym (ap shape_of_roster is.roster)

-- a stage that is complete, and a closing one, can be judged
pub can-be-judged : (m : Machine) → IsFormed m → IsSome (before m.log (m.stage + 1)) → is_closing (shape_of m.seat.shape) m.stage ≡ true
    → IsComplete (completed_of (holdings_of m))
can-be-judged m formed there closing = record {
  shape = shape-of-group m formed;
  form = formed.log;
  stand = formed.stand;
  short = λ stage sender post e. kept-short m.seat.number m.log (record { stage = stage; sender = sender }) post formed.short e;
  closing = ap (λ (shape : Shape). is_closing shape m.stage) formed.shape ∙ closing;
  there = there;
}
