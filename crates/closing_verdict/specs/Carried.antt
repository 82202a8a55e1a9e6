-- What a member has found of the stages behind it and carries forward, each by the past where it was found.
use Rattle.std.specs.Prelude.{◌≡◌, ℕ, ◌+◌, ◌≤◌, List, length, Option, Some, None}
use Rattle.stage_log.specs.Table.{Log}
use Rattle.shuffle_blame.specs.Asked.{past_of}
use Rattle.round_spec.specs.Slots.{final_stage, items_opened}
use Rattle.honest_say.specs.declared.group_keys.GroupKeys.{GroupKeys}
use Rattle.honest_say.specs.declared.opening.Slots.{Slots}
use Rattle.honest_say.specs.Opened.{AreSlotsSaid}
use Rattle.honest_say.specs.Own.{AreGroupKeys, AreOfEach}

-- the keys that all members said
pub record AreKeysOf (log : Log) (keys : GroupKeys) : Type 0 where
  pub said : AreGroupKeys log.shape (past_of log 1) keys
  pub counts : AreOfEach log.shape.members keys

-- the stage behind the end of shuffle A, and that behind the checks
abbrev pub stage_opened : Log → ℕ
stage_opened log = final_stage log.shape 1 + 1

abbrev pub stage_found : Log → ℕ
stage_found log = log.shape.members + 7

-- what the last list of shuffle A opens to
pub record AreItemsOf (log : Log) (items : List (Option (List ℕ))) : Type 0 where
  pub are : items ≡ items_opened log.shape (past_of log (stage_opened log)) 1
  pub count : length items ≡ log.shape.members

-- what the slots of that list hold
abbrev pub AreSlotsOf : Log → Slots → Type 0
AreSlotsOf log slots = AreSlotsSaid log.shape (past_of log (stage_found log)) slots

-- at a stage the items are carried, if the end of shuffle A is behind it
abbrev pub CarriesOpened : Log → ℕ → Option (List (Option (List ℕ))) → Type 0
CarriesOpened log stage None = stage + 1 ≤ stage_opened log
CarriesOpened log stage (Some items) = AreItemsOf log items

-- and the slots, if the checks are behind it
abbrev pub CarriesSlots : Log → ℕ → Option Slots → Type 0
CarriesSlots log stage None = stage + 1 ≤ stage_found log
CarriesSlots log stage (Some slots) = AreSlotsOf log slots
