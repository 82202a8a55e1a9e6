-- Where a member of any conduct stands.
use Rattle.std.specs.Prelude.{◌≡◌, ℕ, List, nat_lt, true, Some, None, if◌then◌else◌}
use Rattle.phase_message.specs.Slots.{stage_count}
use Rattle.stage_log.specs.Table.{first_incomplete_of, missing_bits}
use Rattle.round_spec.specs.Say.{Configuration, shape_in}
use Rattle.round_spec.specs.Course.{is_open}
use Rattle.member_spec.specs.Actor.{Actor, actor_after}
use Rattle.member_spec.specs.Outcomes.{bits_of, members_missing}
use Rattle.member_spec.specs.Replies.{Replies}

-- a member stands at the first stage of its log that is not complete, or behind the last one where all are, and the bits
-- that it shows are those of the posts that its log lacks there
pub record StandsAtFirst (c : Configuration) (a : Actor) : Type 0 where
  pub first : first_incomplete_of a.log ≡ (if nat_lt a.stand.at (stage_count (shape_in c)) then Some a.stand.at else None)
  pub bits : bits_of (members_missing c a) ≡ missing_bits a.log a.stand.at

-- so it does as long as its round is open, whatever its conduct is and whatever was delivered
abbrev pub OpenStandAtFirst : Type 0
OpenStandAtFirst = (replies : Replies) (c : Configuration) (delivered : List (List ℕ)) →
    is_open (actor_after replies c delivered).ending ≡ true → StandsAtFirst c (actor_after replies c delivered)
