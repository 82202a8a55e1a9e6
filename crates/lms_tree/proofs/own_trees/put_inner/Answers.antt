use Rattle.std.proofs.Common.{◌≡◌, ◌+◌, ◌-◌, ◌∙◌, arith}
use Rattle.std.proofs.lemmas.List.{length-set}
use Rattle.lms_tree.specs.States.{secret_parts}
use Rattle.lms_tree.proofs.OwnTrees.{own_nodes_more}
use Rattle.lms_tree.proofs.own_trees.put_inner.Goals as goal

pub loop-i-preserved : goal.loop-i-preserved
loop-i-preserved c =
    let before : c.leaves-leaves.result + 1 - c.loop-i.i ≡ c.leaves-leaves.result - c.loop-i.i + 1 = omega arith in
    let after : c.leaves-leaves.result + 1 - (c.loop-i.i + 1) ≡ c.leaves-leaves.result - c.loop-i.i = omega arith in
    record {
      whole = length-set c.loop-i.nodes (c.leaves-leaves.result - c.loop-i.i) c.node_hash.result ∙ c.loop-i.invariant.whole;
      own = rw after (own_nodes_more (secret_parts c.args.parts.now) c.loop-i.nodes (c.leaves-leaves.result - c.loop-i.i) c.node_hash.result
          (omega arith) (omega arith) c.loop-i.invariant.whole (rw before at c.loop-i.invariant.own) c.node_hash.ensures);
    }
