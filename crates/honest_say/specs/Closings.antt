-- What a closing row embeds.
use Rattle.std.specs.Prelude.{ℕ, ◌-◌, List, if◌then◌else◌}
use Rattle.phase_message.specs.declared.post.Post.{Post}
use Rattle.phase_message.specs.Shape.{Shape}
use Rattle.stage_log.specs.Log.{contents_of}
use Rattle.go_nogo.specs.Rows.{posts_at, written}
use Rattle.go_nogo.specs.Votes.{votes_agree}
use Rattle.honest_say.specs.declared.closing.Embedded.{Embedded}
use Rattle.honest_say.specs.declared.closing.Embedded.TheVariants.{Votes, All}

-- the votes before a closing stage where they are unanimous, and else all posts before it
abbrev pub embedded_in : Shape → List Post → ℕ → Embedded
embedded_in shape posts stage =
    if votes_agree shape (contents_of posts) stage then Votes (written (posts_at shape posts (stage - 1))) else All (written posts)
