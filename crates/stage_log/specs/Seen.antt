-- What was seen of the stages of a log so far.
use Rattle.std.specs.Prelude.{◌≡◌, ℕ, List, [], is_none}
use Rattle.phase_message.specs.Shape.{Shape}
use Rattle.stage_log.specs.declared.seen.Seen.{Seen}
use Rattle.stage_log.specs.Log.{first_wrong, view_of}
use Rattle.stage_log.specs.Running.{Carries}

-- the view of the stages before a stage, and whether every slot before it carries the view of its own stage
pub record HasSeen (shape : Shape) (past : List (List ℕ)) (stage : ℕ) (seen : Seen) : Type 0 where
  pub view : Carries seen.running (view_of shape past stage) []
  pub right : seen.right ≡ is_none (first_wrong shape past stage)
