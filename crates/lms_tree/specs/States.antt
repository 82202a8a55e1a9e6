-- Secrets and runs of leaves as contracts see them, and the nodes that they hold.
use Rattle.std.specs.Prelude.{◌≡◌, ℕ, ◌+◌, ◌*◌, ◌<◌, ◌≤◌, ◌^◌, List, [], get_or}
use Rattle.lms_tree.specs.declared.keys.LmsType.{LmsType}
use Rattle.lms_tree.specs.declared.keys.LmsType.TheVariants.{H5, H10}
use Rattle.lms_tree.specs.declared.secrets.MadeHeight.{MadeHeight}
use Rattle.lms_tree.specs.declared.secrets.MadeHeight.TheVariants.{H5 as Made5, H10 as Made10}
use Rattle.lms_tree.specs.declared.own_trees.TreeParts.{TreeParts}
use Rattle.lms_tree.specs.Secret.{SecretParts, own_node}
use Rattle.lms_tree.specs.Tree.{height}

-- a secret, and the least leaf that it still has
pub record SecretState : Type 0 where
  pub parts : SecretParts
  pub next : ℕ

-- a run of leaves, its least leaf, and how many there are
pub record RunState : Type 0 where
  pub parts : SecretParts
  pub first : ℕ
  pub left : ℕ

-- the types of which keys are made
abbrev pub made_type : MadeHeight → LmsType
made_type Made5 = H5
made_type Made10 = H10

-- the leaves of a key that is made
abbrev pub made_leaves : MadeHeight → ℕ
made_leaves h = 2 ^ height (made_type h)

-- the parts as the code holds them
abbrev pub secret_parts : TreeParts → SecretParts
secret_parts p = record { lms_type = p.lms_type; ots_type = p.ots_type; identifier = p.identifier; seed = p.seed }

-- each node that is held, from number `from` on, is the secret's own; one with `levels` levels below it has `up`
-- levels above it
unfoldable pub OwnNodes : SecretParts → List (List ℕ) → ℕ → Type 0
OwnNodes s nodes from = (levels up r : ℕ) → levels + up ≡ height s.lms_type → 2 ^ up ≤ r → r < 2 * 2 ^ up → from ≤ r
    → get_or nodes r [] ≡ own_node s levels r
