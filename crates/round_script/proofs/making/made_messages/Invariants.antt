use Rattle.std.proofs.Common.{◌≡◌, map}
use Rattle.std.specs.List.{range_with_len}
use Rattle.round_script.specs.Made.{made_message}
use Rattle.round_script.proofs.making.made_messages.Given as goal

-- the messages so far
abbrev pub invariant-loop-i : goal.invariant-loop-i
invariant-loop-i l = l.messages.items ≡ map (made_message l.number l.bytes) (range_with_len 1 l.i)
