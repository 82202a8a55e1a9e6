use Rattle.std.proofs.Common.{◌≡◌, map, take}
use Rattle.honest_say.specs.Rows.{pad_sent_for}
use Rattle.honest_say.proofs.pads.pads_body.Given as goal

-- the pads for the entries so far
abbrev pub invariant-loop-entry : goal.invariant-loop-entry
invariant-loop-entry l =
    l.pads.items ≡ map (pad_sent_for l.seat.shape.members l.own l.kept_pad l.seat.number l.secrets.key) (take l.entry-index l.opened.items)
