-- Logs whose posts can be listed in a transcript.
use Rattle.std.specs.Prelude.{◌≡◌, ℕ, ◌<◌, ◌^◌, length, Some}
use Rattle.phase_message.specs.declared.post.Post.{Post}
use Rattle.phase_message.specs.Post.{post_spelling}
use Rattle.stage_log.specs.Table.{Log, kept_in}

-- the bytes of each post that a log keeps are so few that four bytes say their number
abbrev pub KeepsShort : Log → Type 0
KeepsShort log = (stage sender : ℕ) (post : Post) → kept_in log (record { stage = stage; sender = sender }) ≡ Some post →
    length (post_spelling post) < 2 ^ 32
