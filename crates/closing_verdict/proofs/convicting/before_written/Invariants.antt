use Rattle.std.proofs.Common.{◌≡◌, map, take}
use Rattle.phase_message.specs.Post.{post_spelling}
use Rattle.closing_verdict.proofs.convicting.before_written.Given as goal

-- the posts so far
abbrev pub invariant-loop-post : goal.invariant-loop-post
invariant-loop-post l = l.posts.items ≡ map post_spelling (take l.post-index l.post-items)
