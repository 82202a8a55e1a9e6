-- What was said stays: what the past of a log comes to is the same at every later stage that is reached.
use Rattle.std.specs.Prelude.{◌≡◌, ℕ, ◌<◌, ◌≤◌, IsSome}
use Rattle.stage_log.specs.Log.{before}
use Rattle.stage_log.specs.Table.{Log}
use Rattle.shuffle_blame.specs.Asked.{past_of}
use Rattle.round_spec.specs.Slots.{final_stage, items_opened, keys_said, pad_stage, slots_of_past}

-- a stage is not before another, and all stages before either are there
pub record AreReached (log : Log) (stage later : ℕ) : Type 0 where
  pub order : stage ≤ later
  pub at : IsSome (before log stage)
  pub at_later : IsSome (before log later)

-- the keys of each kind, behind their stage
abbrev pub KeysStay : Type 0
KeysStay = (log : Log) (stage later place : ℕ) → AreReached log stage later → 1 ≤ stage →
    keys_said log.shape (past_of log stage) place ≡ keys_said log.shape (past_of log later) place

-- what the last list of a shuffle opens to, behind the shuffle's end
abbrev pub ItemsStay : Type 0
ItemsStay = (log : Log) (stage later shuffle : ℕ) → AreReached log stage later → 1 ≤ shuffle → shuffle ≤ 2
    → final_stage log.shape shuffle < stage →
    items_opened log.shape (past_of log stage) shuffle ≡ items_opened log.shape (past_of log later) shuffle

-- the states of the slots, behind the stage of the pads
abbrev pub SlotsStay : Type 0
SlotsStay = (log : Log) (stage later : ℕ) → AreReached log stage later → pad_stage log.shape < stage →
    slots_of_past log.shape (past_of log stage) ≡ slots_of_past log.shape (past_of log later)
