use Rattle.std.proofs.Common.{◌≡◌, ◌++◌, ◌+◌, ◌-◌, ◌*◌, ◌/◌, ◌^◌, ◌<◌, ◌≤◌}
use Rattle.lms_tree.specs.Secret.{leaves, own_path}
use Rattle.lms_tree.specs.States.{secret_parts}
use Rattle.lms_tree.specs.Tree.{height}
use Rattle.lms_tree.proofs.own_trees.put_path.Given as goal

-- the node on the way at this level, and the path up to it
abbrev pub invariant-loop-level : goal.invariant-loop-level
invariant-loop-level l = record {
  from_left : 2 ^ (height l.parts.lms_type - l._level) ≤ l.node;
  to_right : l.node < 2 * 2 ^ (height l.parts.lms_type - l._level);
  halved : l.node ≡ (leaves (secret_parts l.parts) + l.q) / 2 ^ l._level;
  so_far : l.to.items ≡ l.fn.to.items ++ own_path (secret_parts l.parts) l.q l._level;
}
