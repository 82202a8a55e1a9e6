-- A secret's own path: its nodes, and that the descent along it finds the secret's own tree.
use Rattle.std.proofs.Common.{◌≡◌, ℕ, zero, suc, ◌+◌, ◌-◌, ◌*◌, ◌/◌, ◌%◌, ◌<◌, ◌≤◌, ◌^◌, List, ◌++◌, length, take, drop, refl, sym, ap, ◌∙◌, ◌⊎◌, inl, inr, arith, add-one, length-append}
use Rattle.std.proofs.lemmas.List.{drop-append-le, drop_at, length-drop, take-append-le, take_all}
use Rattle.std.proofs.lemmas.Nat.{pow-add, pow_pos}
use Rattle.std.proofs.Math.Nat.{mul-add-div_right}
use Rattle.sha2.specs.Sha256.{sha256}
use Rattle.sha2.proofs.Facts256.{length-sha256}
use Rattle.lm_ots.specs.Signing.{KeyParts, ots_public, ots_signature}
use Rattle.lm_ots.proofs.Signatures.{length-ots_signature, own_candidate, word-ots_signature}
use Rattle.lms_tree.specs.Secret.{OwnSignaturesAreValid, SecretParts, leaf_key, leaves, own_node, own_path, own_public, sibling}
use Rattle.lms_tree.specs.Tree.{below, beside, height, leaf_string, node_string, root_of}
use Rattle.lms_tree.proofs.Climbs.{climb_is_descent, on_way_up, root_is_one, side_is_bit}
use Rattle.lms_tree.proofs.OwnTrees.{sibling_of_even, sibling_of_odd}

-- ---- lengths

-- a node is a digest
pub length-own_node : (s : SecretParts) (levels r : ℕ) → length (own_node s levels r) ≡ 32
unfolding own_node
length-own_node s zero r = length-sha256 _
length-own_node s (suc levels) r = length-sha256 _

-- a path has a node for each level
pub length-own_path : (s : SecretParts) (q n : ℕ) → length (own_path s q n) ≡ 32 * n
unfolding own_path
length-own_path s q zero = refl
length-own_path s q (suc n) =
    let node : List ℕ = own_node s n (sibling ((leaves s + q) / 2 ^ n)) in
    let one : length node ≡ 32 = length-own_node s n (sibling ((leaves s + q) / 2 ^ n)) in
    omega (arith, length-append (own_path s q n) node, length-own_path s q n)

-- ---- the nodes of a path

-- what stands further on doesn't change a node
beside-append : (front back : List ℕ) (n : ℕ) → 32 * n + 32 ≤ length front → beside (front ++ back) n ≡ beside front n
beside-append front back n long =
    ap (λ (x : List ℕ). take 32 x) (drop-append-le (32 * n) front back (omega arith))
    ∙ take-append-le 32 (drop (32 * n) front) back (omega (arith, length-drop (32 * n) front))

-- the node at the end
beside-last : (front node : List ℕ) (n : ℕ) → length front ≡ 32 * n → length node ≡ 32
    → beside (front ++ node) n ≡ node
beside-last front node n whole size =
    ap (λ (x : List ℕ). take 32 x) (drop_at front node (32 * n) whole) ∙ take_all 32 node (omega arith)

last_or_before : (n levels : ℕ) → n < suc levels → (n < levels) ⊎ (n ≡ levels)
last_or_before n levels inside = grind arith

-- the node of a level is the one beside the way
pub beside-own_path : (s : SecretParts) (q levels n : ℕ) → n < levels
    → beside (own_path s q levels) n ≡ own_node s n (sibling ((leaves s + q) / 2 ^ n))
unfolding own_path
beside-own_path s q zero n inside = absurd (omega arith)
beside-own_path s q (suc levels) n inside =
    let node : List ℕ = own_node s levels (sibling ((leaves s + q) / 2 ^ levels)) in
    let size : length node ≡ 32 = length-own_node s levels (sibling ((leaves s + q) / 2 ^ levels)) in
    let whole : length (own_path s q levels) ≡ 32 * levels = length-own_path s q levels in
    elim (last_or_before n levels inside) [
      | inl before ↦
          beside-append (own_path s q levels) node n (omega arith) ∙ beside-own_path s q levels n before
      | inr last ↦ rw last (beside-last (own_path s q levels) node levels whole size)
    ]

-- ---- the way

-- the way's node at a level, from the leaf and from the root
pub way_node : (top level q : ℕ) → level ≤ top
    → (2 ^ top + q) / 2 ^ level ≡ 2 ^ (top - level) + q / 2 ^ level
way_node top level q inside =
    let parts : top ≡ top - level + level = omega arith in
    let power : 2 ^ top ≡ 2 ^ (top - level) * 2 ^ level =
    ap (λ (n : ℕ). 2 ^ n) parts ∙ pow-add 2 (top - level) level in
    ap (λ (n : ℕ). (n + q) / 2 ^ level) power
    ∙ mul-add-div_right (pow_pos level) (2 ^ (top - level)) q

-- the way begins at the leaf
leaf_of_way : (top q node : ℕ) → node ≡ 2 ^ (top - 0) + q / 2 ^ 0 → node ≡ 2 ^ top + q
leaf_of_way top q node here =
    let all : top - 0 ≡ top = omega arith in
    let power : 2 ^ (top - 0) ≡ 2 ^ top = ap (λ (n : ℕ). 2 ^ n) all in
    let whole : q / 2 ^ 0 ≡ q / 1 = refl in
    omega arith

own_node-leaf : (s : SecretParts) (q node : ℕ) → node ≡ leaves s + q
    → own_node s 0 node ≡ sha256 (leaf_string s.identifier (leaves s + q) (ots_public (leaf_key s q)))
unfolding own_node
own_node-leaf s q node here =
    let place : leaves s + q - leaves s ≡ q = omega arith in
    rw (here, place) refl

-- a node over its two children, by one of these
own_node-left : (s : SecretParts) (level child : ℕ) → child % 2 ≡ 0
    → own_node s (level + 1) (child / 2)
    ≡ sha256 (node_string s.identifier (child / 2) (own_node s level child) (own_node s level (sibling child)))
unfolding own_node
own_node-left s level child even =
    let left : 2 * (child / 2) ≡ child = omega arith in
    rw (add-one, sibling_of_even child even, left) refl

own_node-right : (s : SecretParts) (level child : ℕ) → child % 2 ≡ 1
    → own_node s (level + 1) (child / 2)
    ≡ sha256 (node_string s.identifier (child / 2) (own_node s level (sibling child)) (own_node s level child))
unfolding own_node
own_node-right s level child odd =
    let right : 2 * (child / 2) + 1 ≡ child = omega arith in
    let left : 2 * (child / 2) ≡ child - 1 = omega arith in
    rw (add-one, sibling_of_odd child odd, right, left) refl

-- the node of the path that stands beside a child of the way
beside-own_way : (s : SecretParts) (q level child : ℕ) → level < height s.lms_type
    → child ≡ 2 ^ (height s.lms_type - level) + q / 2 ^ level
    → beside (own_path s q (height s.lms_type)) level ≡ own_node s level (sibling child)
beside-own_way s q level child inside here =
    beside-own_path s q (height s.lms_type) level inside
    ∙ ap (λ (r : ℕ). own_node s level (sibling r)) (way_node (height s.lms_type) level q (omega arith) ∙ sym here)

-- what the descent along the own path starts from
abbrev own_leaf : SecretParts → ℕ → List ℕ
own_leaf s q = sha256 (leaf_string s.identifier (leaves s + q) (ots_public (leaf_key s q)))

below-leaf : (identifier : List ℕ) (q : ℕ) (leaf path : List ℕ) (r : ℕ) → below identifier q leaf path 0 r ≡ leaf
unfolding below
below-leaf identifier q leaf path r = refl

-- one level up
own_way-up : (s : SecretParts) (q level child : ℕ) → level < height s.lms_type
    → child ≡ 2 ^ (height s.lms_type - level) + q / 2 ^ level
    → below s.identifier q (own_leaf s q) (own_path s q (height s.lms_type)) level child ≡ own_node s level child
    → below s.identifier q (own_leaf s q) (own_path s q (height s.lms_type)) (level + 1) (child / 2)
    ≡ own_node s (level + 1) (child / 2)
own_way-up s q level child inside here found =
    let path : List ℕ = own_path s q (height s.lms_type) in
    let other : beside path level ≡ own_node s level (sibling child) = beside-own_way s q level child inside here in
    sym (climb_is_descent s.identifier q (own_leaf s q) path level child (own_node s level child)
    (own_node s (level + 1) (child / 2))
    (side_is_bit (height s.lms_type) level q child inside here)
    (sym found)
    (λ even. rw other (own_node-left s level child even))
    (λ odd. rw other (own_node-right s level child odd)))

-- the descent along the own path finds the secret's own nodes
pub own_way : (s : SecretParts) (q level node : ℕ) → level ≤ height s.lms_type
    → node ≡ 2 ^ (height s.lms_type - level) + q / 2 ^ level
    → below s.identifier q (sha256 (leaf_string s.identifier (leaves s + q) (ots_public (leaf_key s q))))
    (own_path s q (height s.lms_type)) level node
    ≡ own_node s level node
own_way s q zero node inside here =
    below-leaf s.identifier q (own_leaf s q) (own_path s q (height s.lms_type)) node
    ∙ sym (own_node-leaf s q node (leaf_of_way (height s.lms_type) q node here))
own_way s q (suc level) node inside here =
    let child : ℕ = 2 ^ (height s.lms_type - level) + q / 2 ^ level in
    let step : level + 1 ≡ suc level = omega arith in
    let parent : child / 2 ≡ node = rw step at (on_way_up (height s.lms_type) level q child (omega arith) refl) ∙ sym here in
    rw (step, parent) at (own_way-up s q level child (omega arith) refl (own_way s q level child (omega arith) refl))

-- at the root
own_root : (s : SecretParts) (q : ℕ) → q < leaves s
    → below s.identifier q (own_leaf s q) (own_path s q (height s.lms_type)) (height s.lms_type) 1
    ≡ own_node s (height s.lms_type) 1
own_root s q inside =
    let top : ℕ = 2 ^ (height s.lms_type - height s.lms_type) + q / 2 ^ height s.lms_type in
    let one : top ≡ 1 = root_is_one (height s.lms_type) q top inside refl in
    own_way s q (height s.lms_type) 1 (omega arith) (sym one)

-- ---- signatures

-- a secret's own signatures are valid under its public key
pub own_signatures_are_valid : OwnSignaturesAreValid
own_signatures_are_valid s q message inside =
    let key : KeyParts = leaf_key s q in
    record {
      q = q;
      ots = ots_signature key message;
      path = own_path s q (height s.lms_type);
      parts = refl;
      ots_length = length-ots_signature key message;
      path_length = length-own_path s q (height s.lms_type);
      ots_type = word-ots_signature key message;
      is_leaf = inside;
      root = ap (λ (k : List ℕ). root_of (own_public s) q k (own_path s q (height s.lms_type))) (own_candidate key message)
          ∙ own_root s q inside;
    }
