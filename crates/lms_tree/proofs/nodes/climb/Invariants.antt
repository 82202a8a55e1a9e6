use Rattle.std.proofs.Common.{◌≡◌, ◌+◌, ◌-◌, ◌/◌, ◌^◌}
use Rattle.lms_tree.specs.Tree.{below, leaf_string}
use Rattle.sha2.specs.Sha256.{sha256}
use Rattle.lms_tree.proofs.nodes.climb.Given as goal

-- the node on the way at this level, with its hash as the descent finds it
abbrev pub invariant-loop-level : goal.invariant-loop-level
invariant-loop-level l = record {
  on_way : l.node ≡ 2 ^ (l.height - l.level) + l.q / 2 ^ l.level;
  hash : l.tmp ≡ below l.identifier l.q
      (sha256 (leaf_string l.identifier (2 ^ l.height + l.q) l.k)) l.path l.level l.node;
}
