use Rattle.std.proofs.Common.{◌≡◌, ◌+◌, ◌-◌}
use Rattle.wire_core.specs.Reading.{repeated, with_front}
use Rattle.round_script.specs.Read.{message_at}
use Rattle.round_script.proofs.reading.read_messages.Given as goal

-- the messages so far and those that are to come, of which the next is in line i + 5
abbrev pub invariant-loop-i : goal.invariant-loop-i
invariant-loop-i l =
    (with_front l.messages.items (repeated (l.members - l.i) message_at l.lines) ≡ repeated l.members message_at l.fn.lines)
    × (l.lines.place ≡ l.i + 5)
