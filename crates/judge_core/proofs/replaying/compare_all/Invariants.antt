use Rattle.std.proofs.Common.{map}
use Rattle.phase_message.specs.Stages.{kind_of_stage}
use Rattle.judge_core.specs.Case.{Said, case_of, said_of, shape_in}
use Rattle.judge_core.specs.Closing.{past_in}
use Rattle.judge_core.specs.Showing.{IsShown}
use Rattle.judge_core.proofs.Comparisons.{ComparesTo}
use Rattle.judge_core.proofs.replaying.compare_all.Given as goal

-- the posts before this place are compared with the first
abbrev pub invariant-loop-place : goal.invariant-loop-place
invariant-loop-place l = (said : Said) → IsShown (case_of l.fn.case) said l.fn.first
    → ComparesTo (case_of l.fn.case) (past_in (case_of l.fn.case) said) (kind_of_stage (shape_in (case_of l.fn.case)) said.header.stage)
    said (map said_of l.fn.others) l.place l.difference l.told.items
