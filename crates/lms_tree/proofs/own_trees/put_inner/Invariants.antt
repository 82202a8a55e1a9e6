use Rattle.std.proofs.Common.{◌≡◌, ◌+◌, ◌-◌, ◌*◌, length}
use Rattle.lms_tree.specs.Secret.{leaves}
use Rattle.lms_tree.specs.States.{OwnNodes, secret_parts}
use Rattle.lms_tree.proofs.own_trees.put_inner.Given as goal

-- the nodes so far
abbrev pub invariant-loop-i : goal.invariant-loop-i
invariant-loop-i l = record {
  whole : length l.nodes ≡ 2 * leaves (secret_parts l.parts);
  own : OwnNodes (secret_parts l.parts) l.nodes (l.leaves + 1 - l.i);
}
