-- Posts: a content with a signature, and how the two are spelled together.
use Rattle.std.specs.Prelude.{ℕ, List, ◌++◌, length}
use Rattle.std.specs.Int.{w32, to_be_bytes}
use Rattle.phase_message.specs.declared.post.Post.{Post}

-- a post as it is sent: the content's length in four bytes, the content and the signature
abbrev pub post_spelling : Post → List ℕ
post_spelling post = to_be_bytes w32 (length post.content) ++ post.content ++ post.signature
