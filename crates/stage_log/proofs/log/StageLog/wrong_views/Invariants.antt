use Rattle.std.proofs.Common.{◌≡◌, ◌<◌, ℕ, List, [], Some, None}
use Rattle.phase_message.specs.declared.post.Post.{Post}
use Rattle.phase_message.specs.Slots.{slots_before}
use Rattle.stage_log.specs.Log.{before, contents_of, view_of, wrong_at}
use Rattle.stage_log.specs.Running.{Carries}
use Rattle.stage_log.proofs.log.StageLog.wrong_views.Given as goal

abbrev pub invariant-loop-earlier : goal.invariant-loop-earlier
invariant-loop-earlier l = (posts : List Post) → before l.self l.stage ≡ Some posts
    → Carries l.running (view_of l.self.shape (contents_of posts) l.earlier) []
    × ((number : ℕ) → number < slots_before l.self.shape l.earlier → wrong_at l.self.shape (contents_of posts) number ≡ None)
