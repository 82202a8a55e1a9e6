use Rattle.std.proofs.Common.{ℕ, ◌-◌, ◌++◌, length, map}
use Rattle.group_spec.specs.World.{Seat, entries_beyond}
use Rattle.member_core.specs.Membership.{posts_made}
use Rattle.group_threads.specs.Playing.{IsSending, Plays, written_entry}
use Rattle.group_threads.proofs.player.Player.posts.Given as goal

abbrev pub invariant-posts : goal.invariant-posts
invariant-posts l = (seat : Seat) (count : ℕ) → Plays l.fn.self seat count →
    IsSending l.self l.entries.items seat (l.fn.entries.items ++ map written_entry (entries_beyond count seat))

abbrev pub decreases-posts : goal.decreases-posts
decreases-posts l = length (posts_made l.self.member.holds) - l.self.member.holds.handed
