use Rattle.std.proofs.Common.{◌≡◌, take}
use Rattle.stage_log.specs.Log.{posts_kept}
use Rattle.stage_log.proofs.log.copies.Given as goal

abbrev pub invariant-loop-kept : goal.invariant-loop-kept
invariant-loop-kept l = l.posts.items ≡ posts_kept (take l.kept-index l.places)
