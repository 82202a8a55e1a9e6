use Rattle.std.proofs.Common.{◌≡◌, ◌+◌, ◌<◌, arith}
use Rattle.lms_tree.specs.Secret.{leaves}
use Rattle.lms_tree.specs.States.{secret_parts}
use Rattle.lms_tree.specs.Tree.{height}
use Rattle.lms_tree.proofs.Climbs.{halved}
use Rattle.lms_tree.proofs.OwnTrees.{own_path_more, own_path_none, way_begins, way_goes_on}
use Rattle.lms_tree.proofs.own_trees.put_path.Goals as goal

pub loop-level-init : goal.loop-level-init
loop-level-init c =
    let begins = way_begins (secret_parts c.args.parts.now) c.args.q c.requires.leaf in
    record {
      from_left = rw c.leaves.ensures.number begins.0;
      to_right = rw c.leaves.ensures.number begins.1;
      halved = omega arith;
      so_far = own_path_none (secret_parts c.args.parts.now) c.args.q c.args.to.now.items;
    }

pub loop-level-preserved : goal.loop-level-preserved
loop-level-preserved c =
    let s = secret_parts c.args.parts.now in
    let i = c.loop-level.invariant in
    let low : c.loop-level._level < height c.args.parts.now.lms_type = omega arith in
    let goes_on = way_goes_on (height c.args.parts.now.lms_type) c.loop-level._level c.loop-level.node low i.from_left i.to_right in
    record {
      from_left = goes_on.0;
      to_right = goes_on.1;
      halved = rw i.halved (halved (leaves s + c.args.q) c.loop-level._level);
      so_far = rw (c.in_ok-extend_from_slice.ensures.items, i.so_far)
          (own_path_more s c.args.nodes.now c.args.q c.loop-level._level c.loop-level.node c.sibling.result c.args.to.now.items
          c.requires.own low i.from_left i.to_right i.halved c.sibling.ensures);
    }
