use Rattle.std.proofs.Common.{◌≡◌, ◌-◌, ℕ, List}
use Rattle.wire_core.specs.Reading.{repeated, with_front}
use Rattle.transcript_form.specs.Form.{listed_at}
use Rattle.transcript_form.proofs.listed.pass_posts.Given as goal

-- some posts were read, and with those still to be read they are those of the whole
abbrev pub invariant-loop : goal.invariant-loop
invariant-loop l =
    (front : List (List ℕ)) × (with_front front (repeated (l.count - l.counter) (listed_at l.size) l.cursor) ≡ repeated l.fn.count
    (listed_at l.fn.size) l.fn.cursor)
