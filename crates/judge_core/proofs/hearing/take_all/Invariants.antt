use Rattle.judge_core.specs.Case.{case_of}
use Rattle.judge_core.proofs.Takings.{Takes}
use Rattle.judge_core.proofs.hearing.take_all.Given as goal

-- what was taken, and what is left
abbrev pub invariant-loop-bytes : goal.invariant-loop-bytes
invariant-loop-bytes l = Takes (case_of l.fn.case) l.fn.posts l.bytes-iterator l.first l.number l.lost l.all.items
