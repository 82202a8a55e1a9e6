use Rattle.std.proofs.Common.{◌≡◌, replicate, None}
use Rattle.stage_log.proofs.log.no_posts.Given as goal

abbrev pub invariant-loop : goal.invariant-loop
invariant-loop l = l.posts.items ≡ replicate l.counter None
