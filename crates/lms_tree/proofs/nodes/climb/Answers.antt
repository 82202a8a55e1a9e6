use Rattle.std.proofs.Common.{◌≡◌, ◌+◌, ◌-◌, ◌*◌, ◌^◌, arith}
use Rattle.sha2.specs.Sha256.{sha256}
use Rattle.lms_tree.specs.Tree.{below, leaf_string}
use Rattle.lms_tree.proofs.Climbs.{climb_is_descent, on_way_up, power_fits, root_is_one, side_is_bit}
use Rattle.lms_tree.proofs.nodes.climb.Goals as goal

pub loop-level-init : goal.loop-level-init
unfolding below
loop-level-init c =
    let power = power_fits c.args.height c.requires.low in
    record {
      on_way = let start : c.args.height - 0 ≡ c.args.height = omega arith in rw (power, start) (omega arith);
      hash = rw power at c.leaf_hash-tmp.ensures;
    }

pub loop-level-preserved : goal.loop-level-preserved
loop-level-preserved c =
    let width : 32 * c.loop-level.level + 32 - 32 * c.loop-level.level ≡ 32 = omega arith in
    record {
      on_way = on_way_up c.args.height c.loop-level.level c.args.q c.loop-level.node
          c.loop-level-test.true c.loop-level.invariant.on_way;
      hash = climb_is_descent c.args.identifier.now c.args.q
          (sha256 (leaf_string c.args.identifier.now (2 ^ c.args.height + c.args.q) c.args.k.now))
          c.args.path.now c.loop-level.level c.loop-level.node c.loop-level.tmp c.parent_hash-tmp.result
          (side_is_bit c.args.height c.loop-level.level c.args.q c.loop-level.node
          c.loop-level-test.true c.loop-level.invariant.on_way)
          c.loop-level.invariant.hash
          (rw width at c.parent_hash-tmp.ensures.from_left)
          (rw width at c.parent_hash-tmp.ensures.from_right);
    }

pub returns : goal.returns
returns c =
    let top : c.loop-level.level ≡ c.args.height = omega arith in
    let here = rw top at c.loop-level.invariant.on_way in
    let one : c.loop-level.node ≡ 1 = root_is_one c.args.height c.args.q c.loop-level.node c.requires.leaf here in
    rw (top, one) at c.loop-level.invariant.hash
