-- What becomes of what a member holds where a stage is passed or the round ends.
use Rattle.std.specs.Prelude.{◌+◌, Bool, false, ◌&&◌, nat_lt, Option, Some, None, IsSome, if◌then◌else◌}
use Rattle.std.specs.List.{list_any}
use Rattle.phase_message.specs.Slots.{stage_count}
use Rattle.phase_message.specs.Stages.{is_slot, shape_of}
use Rattle.stage_log.specs.declared.seen.Seen.{Seen}
use Rattle.stage_log.specs.Table.{is_complete}
use Rattle.round_spec.specs.Verdict.{is_bad}
use Rattle.honest_say.specs.declared.opening.Slots.{Slots}
use Rattle.closing_verdict.specs.declared.judging.Judged.{Judged}
use Rattle.closing_verdict.specs.declared.judging.Judged.TheVariants.{Goes, Opens, Finds, Agreed, Convicts}
use Rattle.member_spec.specs.declared.mood.Mood.{Mood}
use Rattle.member_spec.specs.declared.mood.Mood.TheVariants.{Unasked}
use Rattle.member_parts.specs.declared.ending.Ending.{Ending}
use Rattle.member_parts.specs.declared.ending.Ending.TheVariants.{Done, Blamed}
use Rattle.member_parts.specs.Secrets.{no_secrets}
use Rattle.member_core.specs.declared.machine.Machine.{Machine}

-- ---- what is to be done

-- whether the stage that is being filled is one of the round, and all its posts are there
abbrev pub is_filled : Machine → Bool
is_filled m = nat_lt m.stage (stage_count (shape_of m.seat.shape)) && is_complete m.log m.stage

-- whether it is to be asked, by its mood: it speaks at the stage that is being filled, and was not asked there yet
abbrev pub is_due_by : Machine → Mood → Bool
is_due_by m Unasked = is_slot (shape_of m.seat.shape) m.stage m.seat.number
is_due_by m mood = false

-- ---- what becomes of it

-- the round has ended, and no secret is needed any more
abbrev pub machine_ended : Machine → Ending → Machine
machine_ended m ending = record m { secrets = no_secrets; ending = ending }

-- at the next stage, with what was seen of this one too
abbrev pub machine_behind : Machine → Seen → Machine
machine_behind m seen = record m { seen = seen; stage = m.stage + 1; mood = Unasked }

-- done, with the slots that it carries
abbrev pub machine_done : Machine → Option Slots → Machine
machine_done m None = m
machine_done m (Some slots) = machine_ended (record m { slots = None }) (Done slots.states)

-- with what the slots come to: done, unless one is bad
abbrev pub machine_with_slots : Machine → Slots → Machine
machine_with_slots m slots = if list_any is_bad slots.states then record m { slots = Some slots } else machine_done m (Some slots)

-- with what the stage that was passed came to
abbrev pub machine_by : Machine → Judged → Machine
machine_by m Goes = m
machine_by m (Opens items) = record m { opened = Some items }
machine_by m (Finds slots) = machine_with_slots m slots
machine_by m Agreed = machine_done m m.slots
machine_by m (Convicts conviction) = machine_ended m (Blamed conviction)

-- where the round is done behind shuffle B, the slots are carried
abbrev pub HasSlotsFor : Judged → Option Slots → Type 0
HasSlotsFor Agreed slots = IsSome slots
HasSlotsFor judged slots = Unit {0}
