use Rattle.lms_tree.specs.States.{secret_parts}
use Rattle.lms_tree.proofs.OwnTrees.{OwnLeaves}
use Rattle.lms_tree.proofs.own_trees.put_leaves.Given as goal

-- the leaves so far
abbrev pub invariant-loop-q : goal.invariant-loop-q
invariant-loop-q l = OwnLeaves (secret_parts l.parts) l.nodes l.q
