-- The posts that a member makes only grow.
use Rattle.std.specs.Prelude.{◌≡◌, ℕ, List, ◌++◌}
use Rattle.phase_message.specs.declared.post.Post.{Post}
use Rattle.round_spec.specs.Say.{Configuration}
use Rattle.round_spec.specs.Deliveries.{with_last}
use Rattle.member_spec.specs.Actor.{actor_after}
use Rattle.member_spec.specs.Replies.{Replies}

-- a list goes on with others behind it
abbrev pub GoesOnTo : List Post → List Post → Type 0
GoesOnTo posts longer = (more : List Post) × (longer ≡ posts ++ more)

-- with one delivery more the posts that were made stay, and others may come behind them, whatever the conduct is
abbrev pub PostsGrow : Type 0
PostsGrow = (replies : Replies) (c : Configuration) (delivered : List (List ℕ)) (bytes : List ℕ) →
    GoesOnTo (actor_after replies c delivered).made (actor_after replies c (with_last delivered bytes)).made
