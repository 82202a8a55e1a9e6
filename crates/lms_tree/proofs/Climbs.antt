-- The climb from a leaf to the root, and the descent that defines its value.
use Rattle.std.proofs.Common.{◌≡◌, ℕ, suc, ◌+◌, ◌-◌, ◌*◌, ◌/◌, ◌%◌, ◌<◌, ◌≤◌, ◌^◌, List, ◌⊎◌, inl, inr, refl, arith, add-one, lit<}
use Rattle.std.proofs.Math.Nat.{div-div-eq-div-mul, pow-le-pow_right, pow-suc}
use Rattle.sha2.specs.Sha256.{sha256}
use Rattle.lms_tree.specs.Tree.{below, beside, goes_right, node_string}

-- halving once more
pub halved : (q level : ℕ) → q / 2 ^ level / 2 ≡ q / 2 ^ (level + 1)
halved q level = rw (add-one, pow-suc) (div-div-eq-div-mul q (2 ^ level) 2)

-- the node on the way one level up
pub on_way_up : (height level q node : ℕ) → level < height
    → node ≡ 2 ^ (height - level) + q / 2 ^ level
    → node / 2 ≡ 2 ^ (height - (level + 1)) + q / 2 ^ (level + 1)
on_way_up height level q node inside here =
    let e : height - level ≡ suc (height - (level + 1)) = omega arith in
    let power : 2 ^ (height - level) ≡ 2 ^ (height - (level + 1)) * 2 =
    rw (e, pow-suc) refl in
    let half = halved q level in
    omega arith

-- a node's side is the bit of the leaf's number at its level
pub side_is_bit : (height level q node : ℕ) → level < height
    → node ≡ 2 ^ (height - level) + q / 2 ^ level → goes_right q level ≡ node % 2
side_is_bit height level q node inside here =
    let e : height - level ≡ suc (height - (level + 1)) = omega arith in
    let power : 2 ^ (height - level) ≡ 2 ^ (height - (level + 1)) * 2 =
    rw (e, pow-suc) refl in
    omega arith

-- the root is node 1
pub root_is_one : (height q node : ℕ) → q < 2 ^ height
    → node ≡ 2 ^ (height - height) + q / 2 ^ height → node ≡ 1
root_is_one height q node inside here =
    let e : height - height ≡ 0 = omega arith in
    let power : 2 ^ (height - height) ≡ 1 = rw e refl in
    let none : q / 2 ^ height ≡ 0 = grind arith in
    omega arith

-- a node has one side
pub a_side : (node : ℕ) → (node % 2 ≡ 0) ⊎ (node % 2 ≡ 1)
a_side node = grind arith

-- One step of the climb, from a node's hash to its parent's, finds what the descent finds there.
pub climb_is_descent : (identifier : List ℕ) (q : ℕ) (leaf path : List ℕ) (level node : ℕ) (tmp parent : List ℕ)
    → goes_right q level ≡ node % 2 → tmp ≡ below identifier q leaf path level node
    → (node % 2 ≡ 0 → parent ≡ sha256 (node_string identifier (node / 2) tmp (beside path level)))
    → (node % 2 ≡ 1 → parent ≡ sha256 (node_string identifier (node / 2) (beside path level) tmp))
    → parent ≡ below identifier q leaf path (level + 1) (node / 2)
unfolding below
climb_is_descent identifier q leaf path level node tmp parent bit here from_left from_right =
    elim (a_side node) [
      | inl even ↦
          let child : 2 * (node / 2) ≡ node = omega arith in
          rw (add-one, bit, even, child, ← here) (from_left even)
      | inr odd ↦
          let child : 2 * (node / 2) + 1 ≡ node = omega arith in
          rw (add-one, bit, odd, child, ← here) (from_right odd)
    ]

-- a power that a shift gives
pub power_fits : (height : ℕ) → height ≤ 25 → 1 * 2 ^ height % 4294967296 ≡ 2 ^ height
power_fits height small =
    let bound : 2 ^ height ≤ 2 ^ 25 = pow-le-pow_right (lit< tt) small in omega arith
