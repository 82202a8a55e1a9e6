-- Public keys and their bytes.
use Rattle.std.proofs.Common.{◌≡◌, ℕ, ◌+◌, ◌<◌, ◌^◌, Option, Some, None, Result, Ok, Err, List, length, take, drop, get_or, refl, sym, ◌∙◌, ap, arith}
use Rattle.std.proofs.lemmas.List.{get_or-drop, length-drop, take_all}
use borrow.Rule.Slice.PartMut.{mid_of}
use Rattle.lm_ots.specs.declared.types.OtsType.{OtsType}
use Rattle.lm_ots.specs.declared.types.OtsType.TheVariants.{W1, W2, W4, W8}
use Rattle.lm_ots.specs.OneTime.{head_word, type_number, type_of_number, u32str}
use Rattle.lm_ots.proofs.Words.{head_word-u32str, length-u32str, u32str-head_word}
use Rattle.lm_ots.proofs.Signatures.{type_number_small}
use Rattle.lms_tree.proofs.FourParts.{PartsAre, in_four_parts, of_four_parts}
use Rattle.lms_tree.specs.declared.keys.KeyRefusal.{KeyRefusal}
use Rattle.lms_tree.specs.declared.keys.KeyRefusal.TheVariants.{OtsKind}
use Rattle.lms_tree.specs.declared.keys.LmsPublic.{LmsPublic}
use Rattle.lms_tree.specs.declared.keys.LmsType.{LmsType}
use Rattle.lms_tree.specs.declared.keys.LmsType.TheVariants.{H5, H10, H15, H20, H25}
use Rattle.lms_tree.specs.Tree.{key_bytes, key_read, read_types, second_word, tree_number, tree_of_number}

-- the numbers of types, and back
pub tree_number-of_number : (n : ℕ) (t : LmsType) → tree_of_number n ≡ Some t → tree_number t ≡ n
tree_number-of_number n t h = grind arith

pub type_number-of_number : (n : ℕ) (t : OtsType) → type_of_number n ≡ Some t → type_number t ≡ n
type_number-of_number n t h = grind arith

pub tree_of_number-number : (t : LmsType) → tree_of_number (tree_number t) ≡ Some t
tree_of_number-number H5 = refl
tree_of_number-number H10 = refl
tree_of_number-number H15 = refl
tree_of_number-number H20 = refl
tree_of_number-number H25 = refl

pub type_of_number-number : (t : OtsType) → type_of_number (type_number t) ≡ Some t
type_of_number-number W1 = refl
type_of_number-number W2 = refl
type_of_number-number W4 = refl
type_of_number-number W8 = refl

pub tree_number_small : (t : LmsType) → tree_number t < 2 ^ 32
tree_number_small H5 = omega arith
tree_number_small H10 = omega arith
tree_number_small H15 = omega arith
tree_number_small H20 = omega arith
tree_number_small H25 = omega arith

-- the end of a string, as a slice gives it
pub mid_to_end : (s : List ℕ) (at size : ℕ) → length s ≡ at + size → mid_of at size s ≡ drop at s
mid_to_end s at size whole = take_all size (drop at s) (omega (arith, length-drop at s))

-- what `read` answers, from what it found
pub ots_refused : (b : List ℕ) (t : LmsType) (found : ℕ) → Some t ≡ tree_of_number (head_word b)
    → found ≡ second_word b → None ≡ type_of_number found
    → ◌≡◌ {A = Result LmsPublic KeyRefusal} (Err (OtsKind found)) (key_read b)
ots_refused b t found is_tree is_found is_none =
    ap (λ (n : ℕ). let r : Result LmsPublic KeyRefusal = Err (OtsKind n) in r) is_found
    ∙ ap (λ (x : Option LmsType). read_types x None b) is_tree
    ∙ ap (λ (y : Option OtsType). read_types (tree_of_number (head_word b)) y b)
    (is_none ∙ ap (λ (n : ℕ). type_of_number n) is_found)

pub key_found : (b : List ℕ) (key : LmsPublic) → Some key.lms_type ≡ tree_of_number (head_word b)
    → Some key.ots_type ≡ type_of_number (second_word b)
    → key.identifier ≡ take 16 (drop 8 b) → key.root ≡ drop 24 b
    → ◌≡◌ {A = Result LmsPublic KeyRefusal} (Ok key) (key_read b)
key_found b key is_tree is_ots is_identifier is_root =
    ap (λ (i : List ℕ). let r : Result LmsPublic KeyRefusal = Ok record
    { lms_type = key.lms_type; ots_type = key.ots_type; identifier = i; root = key.root } in r) is_identifier
    ∙ ap (λ (i : List ℕ). let r : Result LmsPublic KeyRefusal = Ok record
    { lms_type = key.lms_type; ots_type = key.ots_type; identifier = take 16 (drop 8 b); root = i } in r) is_root
    ∙ ap (λ (x : Option LmsType). read_types x (Some key.ots_type) b) is_tree
    ∙ ap (λ (y : Option OtsType). read_types (tree_of_number (head_word b)) y b) is_ots

-- a key's bytes are those that it was read from
pub written_as_read : (b : List ℕ) (key : LmsPublic) → length b ≡ 56 → ((i : ℕ) → get_or b i 0 < 256)
    → Some key.lms_type ≡ tree_of_number (head_word b) → Some key.ots_type ≡ type_of_number (second_word b)
    → key.identifier ≡ take 16 (drop 8 b) → key.root ≡ drop 24 b → key_bytes key ≡ b
written_as_read b key whole bytes is_tree is_ots is_identifier is_root =
    let first : u32str (tree_number key.lms_type) ≡ take 4 b =
    ap u32str (tree_number-of_number (head_word b) key.lms_type (sym is_tree))
    ∙ u32str-head_word b (omega arith) bytes in
    let second : u32str (type_number key.ots_type) ≡ take 4 (drop 4 b) =
    ap u32str (type_number-of_number (second_word b) key.ots_type (sym is_ots))
    ∙ u32str-head_word (drop 4 b) (omega (arith, length-drop 4 b))
    (λ i. let at : get_or (drop 4 b) i 0 ≡ get_or b (4 + i) 0 = get_or-drop 4 b i 0 in rw at (bytes (4 + i))) in
    rw (first, second, is_identifier, is_root) (sym (in_four_parts b 4 16))

-- a key is read back from its bytes
pub read_as_written : (key : LmsPublic) → length key.identifier ≡ 16 → key_read (key_bytes key) ≡ Ok key
read_as_written key size =
    let parts : PartsAre (key_bytes key) (u32str (tree_number key.lms_type)) (u32str (type_number key.ots_type)) key.identifier key.root 4
    16 =
    of_four_parts (key_bytes key) _ _ _ _ 4 16 refl (length-u32str _) (length-u32str _) size in
    let first : head_word (key_bytes key) ≡ tree_number key.lms_type =
    ap head_word parts.whole
    ∙ head_word-u32str (tree_number key.lms_type) _ (tree_number_small key.lms_type) in
    let second : second_word (key_bytes key) ≡ type_number key.ots_type =
    ap head_word parts.after_first
    ∙ head_word-u32str (type_number key.ots_type) _ (type_number_small key.ots_type) in
    sym (key_found (key_bytes key) key
    (sym (ap (λ (n : ℕ). tree_of_number n) first ∙ tree_of_number-number key.lms_type))
    (sym (ap (λ (n : ℕ). type_of_number n) second ∙ type_of_number-number key.ots_type))
    (sym parts.third_is) (sym parts.fourth_is))
