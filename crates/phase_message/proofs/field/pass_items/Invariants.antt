use Rattle.std.proofs.Common.{◌≡◌, ◌-◌}
use Rattle.wire_core.specs.Reading.{repeated}
use Rattle.phase_message.specs.Offence.{item_at, passed}
use Rattle.phase_message.proofs.field.pass_items.Given as goal

abbrev pub invariant-loop : goal.invariant-loop
invariant-loop l = passed (repeated (l.count - l.counter) (item_at l.form) l.cursor) ≡ passed
    (repeated l.fn.count (item_at l.fn.form) l.fn.cursor)
