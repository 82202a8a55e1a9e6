use Rattle.std.proofs.Common.{◌≡◌, ◌-◌, map}
use Rattle.std.specs.List.{range_with_len}
use Rattle.phase_message.specs.Stages.{shape_of}
use Rattle.round_spec.specs.Slots.{bulk_place, key_said}
use Rattle.judge_core.specs.PadLog.{contents_said}
use Rattle.judge_core.proofs.listed_log.bulk_keys.Given as goal

-- the keys of the earlier members
abbrev pub invariant-loop-sender : goal.invariant-loop-sender
invariant-loop-sender l = l.keys.items ≡ map (key_said (shape_of l.shape) (contents_said l.log) bulk_place)
    (range_with_len 1 (l.sender - 1))
