use Rattle.std.proofs.Common.{◌≡◌, ◌++◌}
use Rattle.transcript_form.proofs.transcript.copies.Given as goal

-- what was copied, and what is left, are all
abbrev pub invariant-loop-post : goal.invariant-loop-post
invariant-loop-post l = l.copies.items ++ l.post-iterator ≡ l.fn.posts
