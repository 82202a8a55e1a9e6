-- LMS, the tree signatures of RFC 8554, with SHA-256 and m = 32. Sections are the RFC's.
-- Each string that is hashed has a name of its own here, as in lm_ots.
use Rattle.std.specs.Prelude.{◌≡◌, ◌==◌, ℕ, zero, suc, ◌+◌, ◌*◌, ◌/◌, ◌%◌, ◌^◌, ◌<◌, ◌↔◌, All, List, ◌++◌, length, take, drop, nat_lt, if◌then◌else◌, Option, Some, None, Result, Ok, Err}
use Rattle.std.specs.Str.{bytes_eq}
use Rattle.sha2.specs.Sha256.{sha256}
use Rattle.lm_ots.specs.declared.types.OtsType.{OtsType}
use Rattle.lm_ots.specs.declared.chains.OtsRefusal.{OtsRefusal}
use Rattle.lm_ots.specs.OneTime.{IsKind, candidate, head_word, ots_candidate, signature_bytes, type_number, type_of_number, u16str, u32str}
use Rattle.lms_tree.specs.declared.keys.LmsType.{LmsType}
use Rattle.lms_tree.specs.declared.keys.LmsType.TheVariants.{H5, H10, H15, H20, H25}
use Rattle.lms_tree.specs.declared.keys.LmsPublic.{LmsPublic}
use Rattle.lms_tree.specs.declared.keys.KeyRefusal.{KeyRefusal}
use Rattle.lms_tree.specs.declared.keys.KeyRefusal.TheVariants.{LmsKind, OtsKind}
use Rattle.lms_tree.specs.declared.verifier.LmsRefusal.{LmsRefusal}
use Rattle.lms_tree.specs.declared.verifier.LmsRefusal.TheVariants.{Length, Ots, Kind, Leaf, Root}

-- ---- the types (5.1, table 2)

-- the type's number in keys and signatures
abbrev pub tree_number : LmsType → ℕ
tree_number H5 = 5
tree_number H10 = 6
tree_number H15 = 7
tree_number H20 = 8
tree_number H25 = 9

-- h: the levels of nodes above the leaves
abbrev pub height : LmsType → ℕ
height H5 = 5
height H10 = 10
height H15 = 15
height H20 = 20
height H25 = 25

-- the type of a number
abbrev pub tree_of_number : ℕ → Option LmsType
tree_of_number n =
    if n == 5 then Some H5 else (if n == 6 then Some H10 else (if n == 7 then Some H15 else
    (if n == 8 then Some H20 else (if n == 9 then Some H25 else None))))

-- ---- public keys (5.3)

-- u32str(type) || u32str(otstype) || I || T[1]
abbrev pub key_bytes : LmsPublic → List ℕ
key_bytes key =
    u32str (tree_number key.lms_type) ++ u32str (type_number key.ots_type) ++ key.identifier ++ key.root

-- the second word of a string
abbrev pub second_word : List ℕ → ℕ
second_word s = head_word (drop 4 s)

-- the key that 56 bytes stand for, or the first refusal
abbrev pub read_types : Option LmsType → Option OtsType → List ℕ → Result LmsPublic KeyRefusal
read_types None _ b = Err (LmsKind (head_word b))
read_types (Some lms_type) None b = Err (OtsKind (second_word b))
read_types (Some lms_type) (Some ots_type) b = Ok record {
  lms_type = lms_type;
  ots_type = ots_type;
  identifier = take 16 (drop 8 b);
  root = drop 24 b;
}

abbrev pub key_read : List ℕ → Result LmsPublic KeyRefusal
key_read b = read_types (tree_of_number (head_word b)) (type_of_number (second_word b)) b

-- ---- the strings that are hashed (5.3)

-- D_LEAF, in the string of a leaf
abbrev pub d_leaf : ℕ
d_leaf = 0x8282

-- D_INTR, in the string of an inner node
abbrev pub d_intr : ℕ
d_intr = 0x8383

-- the string of leaf r over a one-time key K: I || u32str(r) || u16str(D_LEAF) || K
abbrev pub leaf_string : List ℕ → ℕ → List ℕ → List ℕ
leaf_string identifier r k = identifier ++ u32str r ++ u16str d_leaf ++ k

-- the string of an inner node r: I || u32str(r) || u16str(D_INTR) || T[2r] || T[2r+1]
abbrev pub node_string : List ℕ → ℕ → List ℕ → List ℕ → List ℕ
node_string identifier r left right = identifier ++ u32str r ++ u16str d_intr ++ left ++ right

-- ---- signatures (5.4)

-- the bytes of a signature: q, an LM-OTS signature, the type's word and h nodes
abbrev pub lms_bytes : LmsPublic → ℕ
lms_bytes key = 8 + signature_bytes key.ots_type + 32 * height key.lms_type

-- path[level]: the node beside the way, `level` levels above the leaves
abbrev pub beside : List ℕ → ℕ → List ℕ
beside path level = take 32 (drop (32 * level) path)

-- ---- the way from the root down to a leaf

-- whether the way to leaf q goes to the right, from a node with `below + 1` levels below it
abbrev pub goes_right : ℕ → ℕ → ℕ
goes_right q below = q / 2 ^ below % 2

-- Below(r): what a signature says node r is, where r is on the way to leaf q with `levels` levels
-- below it. At the leaf it is the leaf's own hash. Above, it is the hash of r's children, of which
-- the one on the way is what the signature says it is, and the other comes from the path.
unfoldable pub below : List ℕ → ℕ → (leaf path : List ℕ) → (levels r : ℕ) → List ℕ
below identifier q leaf path zero r = leaf
below identifier q leaf path (suc levels) r =
    if goes_right q levels == 0
    then sha256 (node_string identifier r
    (below identifier q leaf path levels (2 * r)) (beside path levels))
    else sha256 (node_string identifier r
    (beside path levels) (below identifier q leaf path levels (2 * r + 1)))

-- what a one-time signature and a path say the root is: Below(1) (5.4.2)
abbrev pub root_of : LmsPublic → ℕ → (k path : List ℕ) → List ℕ
root_of key q k path =
    below key.identifier q
    (sha256 (leaf_string key.identifier (2 ^ height key.lms_type + q) k)) path (height key.lms_type) 1

-- sig is a valid signature of the message under the key (5.4.2)
pub record LmsValid (key : LmsPublic) (message sig : List ℕ) : Type 0 where
  pub q : ℕ
  pub ots : List ℕ
  pub path : List ℕ
  pub parts : sig ≡ u32str q ++ ots ++ u32str (tree_number key.lms_type) ++ path
  pub ots_length : length ots ≡ signature_bytes key.ots_type
  pub path_length : length path ≡ 32 * height key.lms_type
  pub ots_type : take 4 ots ≡ u32str (type_number key.ots_type)
  pub is_leaf : q < 2 ^ height key.lms_type
  pub root : root_of key q (ots_candidate key.ots_type key.identifier q message ots) path ≡ key.root

-- ---- what comes of a signature

-- the LM-OTS part, the type's word and the path of a signature under a key
abbrev pub ots_part : LmsPublic → List ℕ → List ℕ
ots_part key sig = take (signature_bytes key.ots_type) (drop 4 sig)

abbrev pub type_part : LmsPublic → List ℕ → ℕ
type_part key sig = head_word (drop (4 + signature_bytes key.ots_type) sig)

abbrev pub path_part : LmsPublic → List ℕ → List ℕ
path_part key sig = drop (8 + signature_bytes key.ots_type) sig

-- the answer once the root is known
abbrev pub check_root : LmsPublic → List ℕ → Result (Unit {0}) LmsRefusal
check_root key computed =
    if bytes_eq computed key.root then Ok tt
    else Err (Root computed key.root)

-- the answer once the one-time signature led to the key k
abbrev pub check_tree : LmsPublic → List ℕ → List ℕ → Result (Unit {0}) LmsRefusal
check_tree key sig k =
    if type_part key sig == tree_number key.lms_type then
    (if nat_lt (head_word sig) (2 ^ height key.lms_type)
    then check_root key (root_of key (head_word sig) k (path_part key sig))
    else Err (Leaf (head_word sig) (height key.lms_type)))
    else Err (Kind (type_part key sig) (tree_number key.lms_type))

abbrev pub check_ots : LmsPublic → List ℕ → Result (List ℕ) OtsRefusal → Result (Unit {0}) LmsRefusal
check_ots key sig (Err refusal) = Err (Ots refusal)
check_ots key sig (Ok k) = check_tree key sig k

-- what comes of a signature: Ok, or the first refusal
abbrev pub lms_check : LmsPublic → (message sig : List ℕ) → Result (Unit {0}) LmsRefusal
lms_check key message sig =
    if length sig == lms_bytes key then
    check_ots key sig (candidate key.ots_type key.identifier (head_word sig) message (ots_part key sig))
    else Err (Length (length sig) (lms_bytes key))

-- where the refusal is of the one-time signature, it is of its type
abbrev pub IsOtsKind : LmsRefusal → Type 0
IsOtsKind (Ots refusal) = IsKind refusal
IsOtsKind (Length have need) = Unit {0}
IsOtsKind (Kind found expected) = Unit {0}
IsOtsKind (Leaf q height) = Unit {0}
IsOtsKind (Root computed kept) = Unit {0}

-- a byte string is accepted exactly where it is a valid signature
abbrev pub AcceptsValid : Type 0
AcceptsValid = (key : LmsPublic) (message sig : List ℕ) → All (λ b. b < 256) sig
    → (lms_check key message sig ≡ Ok tt) ↔ LmsValid key message sig
