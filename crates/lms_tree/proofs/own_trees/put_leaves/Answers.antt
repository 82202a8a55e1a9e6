use Rattle.std.proofs.Common.{◌≡◌, arith}
use Rattle.lms_tree.specs.Secret.{leaves}
use Rattle.lms_tree.specs.States.{secret_parts}
use Rattle.lms_tree.proofs.OwnTrees.{own_leaves_all, own_leaves_more, own_leaves_none}
use Rattle.lms_tree.proofs.own_trees.put_leaves.Goals as goal

pub loop-q-init : goal.loop-q-init
loop-q-init c = own_leaves_none (secret_parts c.args.parts.now) c.args.nodes.now

pub loop-q-preserved : goal.loop-q-preserved
loop-q-preserved c =
    own_leaves_more (secret_parts c.args.parts.now) c.loop-q.nodes c.loop-q.q _ c.leaf_hash.result (omega arith) (omega arith)
    c.loop-q.invariant (rw (← c.leaf_public.ensures) c.leaf_hash.ensures)

pub returns : goal.returns
returns c =
    let all : c.loop-q.q ≡ leaves (secret_parts c.args.parts.now) = omega arith in
    own_leaves_all (secret_parts c.args.parts.now) c.loop-q.nodes (rw all at c.loop-q.invariant)
