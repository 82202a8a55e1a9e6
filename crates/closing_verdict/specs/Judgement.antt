-- What a complete stage comes to, as a call tells it.
use Rattle.std.specs.Prelude.{◌≡◌, ℕ, ◌+◌, List, false, IsSome, IsTrue, Option, Some, option_map, if◌then◌else◌}
use Rattle.std.specs.Option.{option_copied}
use Rattle.std.specs.List.{list_any}
use Rattle.phase_message.specs.declared.stage.StageKind.TheVariants.{Final, Confirm}
use Rattle.phase_message.specs.Stages.{kind_of_stage}
use Rattle.group_roster.specs.Given.{roster_of}
use Rattle.group_roster.specs.Roster.{Roster, shape_of_roster}
use Rattle.stage_log.specs.Log.{before}
use Rattle.stage_log.specs.Table.{IsLog, Log}
use Rattle.go_nogo.specs.Stands.{StandAll}
use Rattle.honest_say.specs.declared.opening.Slots.{Slots}
use Rattle.honest_say.specs.Pasts.{posts_before}
use Rattle.round_spec.specs.Verdict.{ClosedStage, Verdict, Goes, Done, is_bad, is_closing, verdict_of}
use Rattle.closing_verdict.specs.declared.judging.Closing.{Closing}
use Rattle.closing_verdict.specs.declared.judging.Judged.{Judged}
use Rattle.closing_verdict.specs.declared.judging.Judged.TheVariants.{Goes as JudgedGoes, Opens, Finds, Agreed, Convicts}
use Rattle.closing_verdict.specs.Carried.{AreItemsOf, AreKeysOf, AreSlotsOf, CarriesOpened, CarriesSlots}
use Rattle.closing_verdict.specs.Convicting.{TellsConviction}
use Rattle.closing_verdict.specs.Shorts.{KeepsShort}

-- a stage of a round of a group, in the log that a member keeps
pub record Completed : Type 0 where
  pub roster : Roster
  pub round : ℕ
  pub log : Log
  pub stage : ℕ

-- the same of what the code is given
abbrev pub completed_of : Closing → Completed
completed_of given = record { roster = roster_of given.roster.now; round = given.round; log = given.log.now; stage = given.stage }

-- that stage as one that is closed
abbrev pub stage_closed : Completed → ClosedStage
stage_closed c = record { roster = c.roster; round = c.round; posts = posts_before c.log (c.stage + 1); stage = c.stage }

-- its verdict
abbrev pub verdict_in : Completed → Verdict
verdict_in c = verdict_of (stage_closed c)

-- ---- what is asked

-- a log has the posts of all stages to a closing one, each of the grammar and in its slot
pub record IsComplete (c : Completed) : Type 0 where
  pub shape : c.log.shape ≡ shape_of_roster c.roster
  pub form : IsLog c.log
  pub stand : StandAll c.log
  pub short : KeepsShort c.log
  pub closing : IsTrue (is_closing c.log.shape c.stage)
  pub there : IsSome (before c.log (c.stage + 1))

-- and what was found of the stages before is carried
pub record IsToBeJudged (given : Closing) : Type 0 where
  pub complete : IsComplete (completed_of given)
  pub keys : AreKeysOf given.log.now given.keys.now
  pub opened : CarriesOpened given.log.now given.stage (option_map (λ items. items.now.items) given.opened)
  pub slots : CarriesSlots given.log.now given.stage (option_copied given.slots)

-- ---- what is answered

-- shuffle A has ended and the round goes on: what its last list opens to
pub record IsOpened (c : Completed) (items : List (Option (List ℕ))) : Type 0 where
  pub at : kind_of_stage c.log.shape c.stage ≡ Some (Final 1)
  pub verdict : verdict_in c ≡ Goes
  pub opened : AreItemsOf c.log items

-- the checks are closed: what the slots hold, and the round goes on where one is bad
pub record IsFound (c : Completed) (slots : Slots) : Type 0 where
  pub at : kind_of_stage c.log.shape c.stage ≡ Some Confirm
  pub verdict : verdict_in c ≡ (if list_any is_bad slots.states then Goes else Done)
  pub found : AreSlotsOf c.log slots

-- shuffle B has ended, and the round is done
pub record IsAgreed (c : Completed) : Type 0 where
  pub at : kind_of_stage c.log.shape c.stage ≡ Some (Final 2)
  pub verdict : verdict_in c ≡ Done

-- what a stage comes to is told; only a stage that is not a closing one just goes on
abbrev pub TellsVerdict : Completed → Judged → Type 0
TellsVerdict c JudgedGoes = is_closing c.log.shape c.stage ≡ false
TellsVerdict c (Opens items) = IsOpened c items.items
TellsVerdict c (Finds slots) = IsFound c slots
TellsVerdict c Agreed = IsAgreed c
TellsVerdict c (Convicts conviction) = TellsConviction (verdict_in c) conviction
