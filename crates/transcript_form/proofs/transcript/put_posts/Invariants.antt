use Rattle.std.proofs.Common.{◌≡◌, ◌++◌, take}
use Rattle.std.specs.List.{flat_map}
use Rattle.phase_message.specs.Grammar.{prefixed}
use Rattle.transcript_form.proofs.transcript.put_posts.Given as goal

abbrev pub invariant-loop-post : goal.invariant-loop-post
invariant-loop-post l = l.out.items ≡ l.fn.out.items ++ flat_map prefixed (take l.post-index l.posts)
