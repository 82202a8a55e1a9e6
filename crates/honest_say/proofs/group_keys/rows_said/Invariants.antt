use Rattle.std.proofs.Common.{◌≡◌, ◌-◌, All, map}
use Rattle.std.specs.List.{range_with_len}
use Rattle.ring_poly.specs.PublicKey.{IsPublicKey}
use Rattle.shuffle_blame.specs.Asked.{past_of}
use Rattle.honest_say.proofs.Members.{keys_by}
use Rattle.honest_say.proofs.group_keys.rows_said.Given as goal

-- the keys of the members so far
abbrev pub invariant-loop-sender : goal.invariant-loop-sender
invariant-loop-sender l =
    (l.rows.items ≡ map (keys_by l.fn.log.shape (past_of l.fn.log l.fn.stage)) (range_with_len 1 (l.sender - 1)))
    × All (All IsPublicKey) l.rows.items
