use Rattle.std.proofs.Common.{◌≡◌, ◌∙◌, [], get_or, refl, arith}
use Rattle.std.proofs.lemmas.List.{get_or_default}
use Rattle.lms_tree.specs.States.{secret_parts}
use Rattle.lms_tree.specs.Tree.{height}
use Rattle.lms_tree.proofs.OwnTrees.{own_root, power_positive}
use Rattle.lms_tree.proofs.own_trees.OwnTree.public.Goals as goal

pub returns : goal.returns
returns c =
    let inside = c.self.inside in
    let root : c.index.result.now ≡ get_or inside.nodes.items 1 [] =
    c.index.ensures
    ∙ get_or_default inside.nodes.items 1 c.index.result.now [] (omega (arith, power_positive (height inside.parts.lms_type))) in
    rw (← c.self.view_is, root, own_root (secret_parts inside.parts) inside.nodes.items c.self.invariant.1) refl
