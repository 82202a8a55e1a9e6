use Rattle.std.proofs.Common.{ℕ, ◌+◌, ◌<◌, ◌≤◌, arith}
use Rattle.lms_tree.proofs.OwnPaths.{own_signatures_are_valid}
use Rattle.lms_tree.proofs.leaf_runs.LeafRun.sign.Goals as goal

-- a run with a leaf left has its first one
is_leaf : (first left leaves : ℕ) → 0 < left → first + left ≤ leaves → first < leaves
is_leaf first left leaves some all = omega arith

pub returns-clause-valid : goal.returns-clause-valid
returns-clause-valid c =
    rw (c.in_ok-sig.ensures, ← c.self.view_is)
    (own_signatures_are_valid c.self.inside.tree c.self.inside.first c.args.message.now
    (is_leaf c.self.inside.first c.self.inside.left _ (rw (← c.self.view_is) at c.requires) c.self.invariant))
