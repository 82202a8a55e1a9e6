use Rattle.std.proofs.Common.{◌≡◌, List, [], Some}
use Rattle.phase_message.specs.declared.post.Post.{Post}
use Rattle.stage_log.specs.Log.{before, contents_of, view_of}
use Rattle.stage_log.specs.Running.{Carries}
use Rattle.stage_log.proofs.log.StageLog.view.Given as goal

abbrev pub invariant-loop-earlier : goal.invariant-loop-earlier
invariant-loop-earlier l = (posts : List Post) → before l.self l.stage ≡ Some posts
    → Carries l.running (view_of l.self.shape (contents_of posts) l.earlier) []
