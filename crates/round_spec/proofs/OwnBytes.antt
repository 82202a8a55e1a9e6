-- Own keys and own signatures are bytes.
use Rattle.std.proofs.Common.{ℕ, zero, suc, ◌+◌, ◌-◌, ◌/◌, ◌%◌, ◌^◌, ◌<◌, List, [], ◌∷◌, ◌++◌, arith}
use Rattle.std.specs.Int.{byte_at, bytes_low_first, w32}
use Rattle.wire_core.specs.Bytes.{IsBytes}
use Rattle.wire_core.proofs.ByteLists.{IsBytes-append, IsBytes-cons, IsBytes-nil, IsBytes-sha256, IsBytes-to_be_bytes, hash_bytes}
use Rattle.ring_encrypt.specs.Packing.{group_number, packed}
use Rattle.ring_encrypt.specs.Capsule.{key_of_seed, masked_secret}
use Rattle.lm_ots.specs.OneTime.{chain, chain_count, step_string, stepped, type_number, u32str}
use Rattle.lm_ots.specs.Signing.{KeyParts, chain_start, chains_to, own_randomizer, own_signed_string, own_values, ots_signature}
use Rattle.lms_tree.specs.Secret.{SecretParts, leaf_key, lms_signature, own_node, own_path, sibling, leaves}
use Rattle.lms_tree.specs.Tree.{height, tree_number}

-- ---- keys

byte-small : (k n : ℕ) → byte_at k n < 256
byte-small zero n = omega arith
byte-small (suc k) n = let high : ℕ = n / 256 ^ suc k in let small : high % 256 < 256 = omega arith in small

pub low-first : (i count n : ℕ) → IsBytes (bytes_low_first i count n)
low-first i zero n = IsBytes-nil
low-first i (suc count) n = IsBytes-cons (byte_at i n) (bytes_low_first (suc i) count n) (byte-small i n) (low-first (suc i) count n)

pub packed-bytes : (coefficients : List ℕ) → IsBytes (packed coefficients)
packed-bytes (a ∷ b ∷ c ∷ d ∷ rest) = IsBytes-append (bytes_low_first 0 7 (group_number a b c d)) (packed rest)
    (low-first 0 7 (group_number a b c d)) (packed-bytes rest)
packed-bytes [] = IsBytes-nil
packed-bytes (a ∷ []) = IsBytes-nil
packed-bytes (a ∷ b ∷ []) = IsBytes-nil
packed-bytes (a ∷ b ∷ c ∷ []) = IsBytes-nil

pub key-bytes : (seed : List ℕ) → IsBytes (key_of_seed seed)
unfolding key_of_seed
key-bytes seed = IsBytes-append _ (packed (masked_secret seed)) (hash_bytes _ _).1 (packed-bytes (masked_secret seed))

-- ---- signatures

u32-bytes : (n : ℕ) → IsBytes (u32str n)
unfolding u32str
u32-bytes n = IsBytes-to_be_bytes w32 n

stepped-bytes : (identifier : List ℕ) (q i steps j : ℕ) (x : List ℕ) → IsBytes x → IsBytes (stepped identifier q i steps j x)
unfolding stepped
stepped-bytes identifier q i zero j x is = is
stepped-bytes identifier q i (suc steps) j x is = stepped-bytes identifier q i steps (j + 1) _
    (IsBytes-sha256 (step_string identifier q i j x))

chains-bytes : (key : KeyParts) (to : ℕ → ℕ) (n : ℕ) → IsBytes (chains_to key to n)
unfolding chains_to
chains-bytes key to zero = IsBytes-nil
chains-bytes key to (suc n) =
    IsBytes-append (chains_to key to n) (chain key.identifier key.q n 0 (to n) (chain_start key n)) (chains-bytes key to n)
    (stepped-bytes key.identifier key.q n (to n - 0) 0 (chain_start key n) (IsBytes-sha256 _))

values-bytes : (key : KeyParts) (signed : List ℕ) (n : ℕ) → IsBytes (own_values key signed n)
unfolding own_values
values-bytes key signed n = chains-bytes key _ n

ots-bytes : (key : KeyParts) (message : List ℕ) → IsBytes (ots_signature key message)
ots-bytes key message =
    IsBytes-append (u32str (type_number key.width) ++ own_randomizer key)
    (own_values key (own_signed_string key message) (chain_count key.width))
    (IsBytes-append (u32str (type_number key.width)) (own_randomizer key) (u32-bytes (type_number key.width)) (IsBytes-sha256 _))
    (values-bytes key (own_signed_string key message) (chain_count key.width))

node-bytes : (s : SecretParts) (levels r : ℕ) → IsBytes (own_node s levels r)
unfolding own_node
node-bytes s zero r = IsBytes-sha256 _
node-bytes s (suc levels) r = IsBytes-sha256 _

path-bytes : (s : SecretParts) (q levels : ℕ) → IsBytes (own_path s q levels)
unfolding own_path
path-bytes s q zero = IsBytes-nil
path-bytes s q (suc levels) = IsBytes-append (own_path s q levels) _ (path-bytes s q levels)
    (node-bytes s levels (sibling ((leaves s + q) / 2 ^ levels)))

pub signature-bytes : (s : SecretParts) (q : ℕ) (message : List ℕ) → IsBytes (lms_signature s q message)
signature-bytes s q message =
    let ots : List ℕ = ots_signature (leaf_key s q) message in
    let kind : List ℕ = u32str (tree_number s.lms_type) in
    IsBytes-append ((u32str q ++ ots) ++ kind) (own_path s q (height s.lms_type))
    (IsBytes-append (u32str q ++ ots) kind (IsBytes-append (u32str q) ots (u32-bytes q) (ots-bytes (leaf_key s q) message))
    (u32-bytes (tree_number s.lms_type)))
    (path-bytes s q (height s.lms_type))
