-- What a log keeps of the stages before a stage.
use Rattle.std.specs.Prelude.{ℕ, List, [], unwrap_or}
use Rattle.phase_message.specs.declared.post.Post.{Post}
use Rattle.stage_log.specs.Log.{before}
use Rattle.stage_log.specs.Table.{Log}

-- the posts before a stage, where all of them are there
abbrev pub posts_before : Log → ℕ → List Post
posts_before log stage = unwrap_or (before log stage) []
