use Rattle.std.proofs.Common.{◌≡◌, ◌-◌}
use Rattle.wire_core.specs.Reading.{repeated, with_front}
use Rattle.phase_message.specs.Offence.{item_at}
use Rattle.phase_message.proofs.field.items.Given as goal

abbrev pub invariant-loop : goal.invariant-loop
invariant-loop l = with_front l.items.items (repeated (l.count - l.counter) (item_at l.form) l.cursor) ≡ repeated l.fn.count
    (item_at l.fn.form) l.fn.cursor
