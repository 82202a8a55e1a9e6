-- Links in memory.
use Rattle.std.specs.Prelude.{ℕ, ◌<◌, ◌^◌, List, [], length}
use Rattle.outside.specs.Plans.{PlanState}
use Rattle.round_link.specs.declared.link_call.LinkCall.{LinkCall}
use Rattle.round_link.specs.Traffic.{Traffic}

-- bytes that may come as a frame
abbrev pub IsFrame : List ℕ → Type 0
IsFrame bytes = length bytes < 2 ^ 32

-- the frames that are left, the calls that were made, how many frames were taken, how often nothing was left, and the plan
pub record LinkState : Type 0 where
  pub left : List (List ℕ)
  pub calls : List LinkCall
  pub frames : ℕ
  pub ends : ℕ
  pub plan : PlanState

-- a link on which these frames arrive, before any call
abbrev pub new_link : List (List ℕ) → PlanState → LinkState
new_link frames plan = record { left = frames; calls = []; frames = 0; ends = 0; plan = plan }

-- what it tells
abbrev pub traffic_of : LinkState → Traffic
traffic_of link = record { left = link.left; calls = link.calls }
