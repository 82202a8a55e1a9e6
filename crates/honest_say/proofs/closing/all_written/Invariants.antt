use Rattle.std.proofs.Common.{◌≡◌, take}
use Rattle.go_nogo.specs.Rows.{written}
use Rattle.honest_say.proofs.closing.all_written.Given as goal

-- the posts so far
abbrev pub invariant-loop-post : goal.invariant-loop-post
invariant-loop-post l = l.all.items ≡ written (take l.post-index l.post-items)
