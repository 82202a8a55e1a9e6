-- The nodes of a secret's own tree, as they are written and read.
use Rattle.std.proofs.Common.{◌≡◌, ◌≢◌, ℕ, zero, suc, ◌+◌, ◌-◌, ◌*◌, ◌/◌, ◌%◌, ◌<◌, ◌≤◌, ◌^◌, ◌⊎◌, inl, inr, List, [], ◌++◌, length, get_or, slice_set, refl, sym, ap, ◌∙◌, arith, add-one, append_assoc, below_more, lit<}
use Rattle.std.proofs.Math.Nat.{pow-le-pow_right, pow-suc}
use Rattle.std.proofs.lemmas.List.{append-nil, get_or-set_other, get_or-set_same}
use Rattle.sha2.specs.Sha256.{sha256}
use Rattle.lm_ots.specs.Signing.{ots_public}
use Rattle.lms_tree.specs.Secret.{SecretParts, leaf_key, leaves, own_node, own_path, sibling}
use Rattle.lms_tree.specs.States.{OwnNodes}
use Rattle.lms_tree.proofs.Climbs.{a_side}
use Rattle.lms_tree.specs.Tree.{height, leaf_string, node_string}

-- a power of the next number
pub power_up : (n : ℕ) → 2 ^ (n + 1) ≡ 2 * 2 ^ n
power_up n = rw (add-one, pow-suc) (omega arith)

pub power_positive : (n : ℕ) → 1 ≤ 2 ^ n
power_positive n = let low : 0 ≤ n = omega arith in pow-le-pow_right (lit< tt) low

pub one_level_up : (top level : ℕ) → level < top → 2 ^ (top - level) ≡ 2 * 2 ^ (top - (level + 1))
one_level_up top level low = let e : top - level ≡ top - (level + 1) + 1 = omega arith in rw e (power_up (top - (level + 1)))

-- the first n leaves that are held are the secret's own
unfoldable pub OwnLeaves : SecretParts → List (List ℕ) → ℕ → Type 0
OwnLeaves s nodes n = (q : ℕ) → q < n → get_or nodes (leaves s + q) [] ≡ own_node s 0 (leaves s + q)

own_leaf : (s : SecretParts) (q : ℕ)
    → own_node s 0 (leaves s + q) ≡ sha256 (leaf_string s.identifier (leaves s + q) (ots_public (leaf_key s q)))
unfolding own_node
own_leaf s q =
    let e : leaves s + q - leaves s ≡ q = omega arith in
    ap (λ (k : ℕ). sha256 (leaf_string s.identifier (leaves s + q) (ots_public (leaf_key s k)))) e

pub own_leaves_none : (s : SecretParts) (nodes : List (List ℕ)) → OwnLeaves s nodes 0
unfolding OwnLeaves
own_leaves_none s nodes q below = absurd (omega arith)

pub own_leaves_more : (s : SecretParts) (nodes : List (List ℕ)) (n r : ℕ) (leaf : List ℕ) → r ≡ leaves s + n → r < length nodes
    → OwnLeaves s nodes n → leaf ≡ sha256 (leaf_string s.identifier r (ots_public (leaf_key s n)))
    → OwnLeaves s (slice_set nodes r leaf) (n + 1)
unfolding OwnLeaves
own_leaves_more s nodes n r leaf at inside own is =
    below_more _ _
    (λ q below. let other : leaves s + q ≢ r = omega arith in get_or-set_other nodes r (leaves s + q) leaf [] other ∙ own q below)
    (rw (← at) (get_or-set_same nodes r leaf [] inside) ∙ is ∙ rw at (sym (own_leaf s n)))

pub own_leaves_all : (s : SecretParts) (nodes : List (List ℕ)) → OwnLeaves s nodes (leaves s) → OwnNodes s nodes (leaves s)
unfolding OwnLeaves OwnNodes
own_leaves_all s nodes own zero up r sum from_left to_right from =
    let all : up ≡ height s.lms_type = omega arith in
    let e : leaves s + (r - leaves s) ≡ r = omega arith in
    let within = rw all at to_right in
    rw e at (own (r - leaves s) (omega arith))
own_leaves_all s nodes own (suc levels) up r sum from_left to_right from =
    let low : 2 ^ (up + 1) ≤ leaves s = pow-le-pow_right (lit< tt) (omega arith) in
    absurd (omega (arith, power_up up))

-- a node over its two children
own_parent : (s : SecretParts) (nodes : List (List ℕ)) (levels up r : ℕ) → levels + up ≡ height s.lms_type
    → 2 ^ up ≤ r → r < 2 * 2 ^ up → 0 < r → r < leaves s → OwnNodes s nodes (r + 1)
    → sha256 (node_string s.identifier r (get_or nodes (2 * r) []) (get_or nodes (2 * r + 1) [])) ≡ own_node s levels r
unfolding OwnNodes own_node
own_parent s nodes zero up r sum from_left to_right above inner own =
    let all : up ≡ height s.lms_type = omega arith in
    let within = rw all at from_left in
    absurd (omega arith)
own_parent s nodes (suc levels) up r sum from_left to_right above inner own =
    let power = power_up up in
    let left = own levels (up + 1) (2 * r) (omega arith) (omega arith) (omega arith) (omega arith) in
    let right = own levels (up + 1) (2 * r + 1) (omega arith) (omega arith) (omega arith) (omega arith) in
    rw (left, right) refl

-- numbers from r on
from_there : (r k : ℕ) → r ≤ k → (k ≡ r) ⊎ (r + 1 ≤ k)
from_there r k from = grind arith

pub own_nodes_more : (s : SecretParts) (nodes : List (List ℕ)) (r : ℕ) (hash : List ℕ) → 0 < r → r < leaves s
    → length nodes ≡ 2 * leaves s → OwnNodes s nodes (r + 1)
    → hash ≡ sha256 (node_string s.identifier r (get_or nodes (2 * r) []) (get_or nodes (2 * r + 1) []))
    → OwnNodes s (slice_set nodes r hash) r
unfolding OwnNodes
own_nodes_more s nodes r hash above inner whole own is levels up k sum from_left to_right from =
    elim (from_there r k from) [
      | inl same ↦
          rw same (get_or-set_same nodes r hash [] (omega arith)
          ∙ is
          ∙ own_parent s nodes levels up r sum (rw same at from_left) (rw same at to_right) above inner own)
      | inr later ↦
          let other : k ≢ r = omega arith in
          get_or-set_other nodes r k hash [] other ∙ own levels up k sum from_left to_right later
    ]

-- the root
pub own_root : (s : SecretParts) (nodes : List (List ℕ)) → OwnNodes s nodes 1 → get_or nodes 1 [] ≡ own_node s (height s.lms_type) 1
unfolding OwnNodes
own_root s nodes own = own (height s.lms_type) 0 1 (omega arith) (omega arith) (omega arith) (omega arith)

-- siblings
pub sibling_of_even : (node : ℕ) → node % 2 ≡ 0 → sibling node ≡ node + 1
sibling_of_even node even = grind arith

pub sibling_of_odd : (node : ℕ) → node % 2 ≡ 1 → sibling node ≡ node - 1
sibling_of_odd node odd = grind arith

-- a sibling stands on its node's level
beside_within : (node below beside : ℕ) → 2 * below ≤ node → node < 2 * (2 * below) → beside ≡ sibling node
    → (2 * below ≤ beside) × (beside < 2 * (2 * below))
beside_within node below beside from_left to_right is =
    elim (a_side node) [
      | inl even ↦ let e = is ∙ sibling_of_even node even in (omega arith, omega arith)
      | inr odd ↦ let e = is ∙ sibling_of_odd node odd in (omega arith, omega arith)
    ]

-- no path, and one more node
pub own_path_none : (s : SecretParts) (q : ℕ) (front : List ℕ) → front ≡ front ++ own_path s q 0
unfolding own_path
own_path_none s q front = sym (append-nil front)

pub own_path_more : (s : SecretParts) (nodes : List (List ℕ)) (q level node beside : ℕ) (front : List ℕ) → OwnNodes s nodes 1
    → level < height s.lms_type → 2 ^ (height s.lms_type - level) ≤ node → node < 2 * 2 ^ (height s.lms_type - level)
    → node ≡ (leaves s + q) / 2 ^ level → beside ≡ sibling node
    → (front ++ own_path s q level) ++ get_or nodes beside [] ≡ front ++ own_path s q (level + 1)
unfolding own_path OwnNodes
own_path_more s nodes q level node beside front own low from_left to_right halved is =
    let power = one_level_up (height s.lms_type) level low in
    let within = beside_within node (2 ^ (height s.lms_type - (level + 1))) beside (rw power at from_left) (rw power at to_right) is in
    let entry : get_or nodes beside [] ≡ own_node s level beside =
    own level (height s.lms_type - level) beside (omega arith) (rw power within.0) (rw power within.1)
    (omega (arith, power_positive (height s.lms_type - (level + 1)))) in
    append_assoc front (own_path s q level) (get_or nodes beside [])
    ∙ rw (add-one, ← halved, ← is, entry) refl

-- the way up from a leaf
pub way_begins : (s : SecretParts) (q : ℕ) → q < leaves s
    → (2 ^ (height s.lms_type - 0) ≤ leaves s + q) × (leaves s + q < 2 * 2 ^ (height s.lms_type - 0))
way_begins s q inside =
    let e : height s.lms_type - 0 ≡ height s.lms_type = omega arith in
    rw e (omega arith, omega arith)

pub way_goes_on : (top level node : ℕ) → level < top → 2 ^ (top - level) ≤ node → node < 2 * 2 ^ (top - level)
    → (2 ^ (top - (level + 1)) ≤ node / 2) × (node / 2 < 2 * 2 ^ (top - (level + 1)))
way_goes_on top level node low from_left to_right =
    let power = one_level_up top level low in
    (omega arith, omega arith)
