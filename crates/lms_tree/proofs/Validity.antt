-- The check of a signature, and the validity that it decides.
use Rattle.std.proofs.Common.{◌≡◌, ◌==◌, ℕ, ◌+◌, ◌<◌, ◌≤◌, ◌^◌, Bool, true, false, List, ◌++◌, length, take, drop, get_or, refl, sym, ◌∙◌, ap, arith, length-append, if◌then◌else◌, Result, Ok, Err, is_ok, nat_lt, eq-eqb, eqb-true, lt-ltb, ltb-true, lit<, All, ◌⊎◌, inl, inr}
use Rattle.std.proofs.lemmas.List.{get_or-drop, get_or-take, get_or_past, length-drop, length-take}
use Rattle.std.proofs.lemmas.Slice.Eq.{bytes_eq-Decides}
use Rattle.std.specs.Str.{bytes_eq}
use Rattle.lm_ots.specs.declared.chains.OtsRefusal.{OtsRefusal}
use Rattle.lm_ots.specs.declared.types.OtsType.{OtsType}
use Rattle.lm_ots.specs.OneTime.{IsKind, candidate, head_word, ots_candidate, signature_bytes, type_number, u32str}
use Rattle.lm_ots.proofs.Words.{head_word-take, head_word-u32str, length-u32str, u32str-head_word}
use Rattle.lm_ots.proofs.Signatures.{type_number_small}
use Rattle.lms_tree.proofs.KeyBytes.{tree_number_small}
use Rattle.lms_tree.proofs.FourParts.{PartsAre, in_four_parts, of_four_parts}
use Rattle.lms_tree.specs.declared.keys.LmsPublic.{LmsPublic}
use Rattle.lms_tree.specs.declared.verifier.LmsRefusal.{LmsRefusal}
use Rattle.lms_tree.specs.declared.keys.LmsType.{LmsType}
use Rattle.lms_tree.specs.declared.keys.LmsType.TheVariants.{H5, H10, H15, H20, H25}
use Rattle.lms_tree.specs.Tree.{AcceptsValid, LmsValid, check_ots, check_tree, height, lms_bytes, lms_check, ots_part, path_part, root_of, tree_number, type_part}

-- a test that was passed
passed : {A B : Type 0} (b : Bool) (r : Result A B) (e : B) (x : A)
    → (if b then r else Err e) ≡ Ok x → (b ≡ true) × (r ≡ Ok x)
passed true r e x h = (refl, h)
passed false r e x h = absurd (cc)

passes : {A B : Type 0} (b : Bool) (r : Result A B) (e : B) → b ≡ true
    → (if b then r else Err e) ≡ r
passes b r e is_true = rw is_true refl

-- a test that was not passed, or a later refusal
refused : {A B : Type 0} (b : Bool) (r : Result A B) (e x : B) → (if b then r else Err e) ≡ Err x
    → (r ≡ Err x) ⊎ ((b ≡ false) × (x ≡ e))
refused true r e x h = inl h
refused false r e x h = inr (refl, cc)

-- a one-time signature of the right length is refused for its type alone
pub refused_by_kind : (width : OtsType) (identifier : List ℕ) (q : ℕ) (message ots : List ℕ) (refusal : OtsRefusal)
    → length ots ≡ signature_bytes width → Err refusal ≡ candidate width identifier q message ots
    → IsKind refusal
refused_by_kind width identifier q message ots refusal whole is_answer =
    let is_whole : (length ots == signature_bytes width) ≡ true = eq-eqb _ _ whole in
    elim (refused (length ots == signature_bytes width) _ _ refusal (sym is_answer)) [
      | inl later ↦ elim (refused (head_word ots == type_number width) _ _ refusal later) [
        | inl accepted ↦ absurd (cc)
        | inr here ↦ rw here.1 tt
      ]
      | inr short ↦ absurd (cc)
    ]

-- a one-time signature that led to a key
ots_passed : (key : LmsPublic) (sig : List ℕ) (r : Result (List ℕ) OtsRefusal) → check_ots key sig r ≡ Ok tt
    → (k : List ℕ) × (r ≡ Ok k) × (check_tree key sig k ≡ Ok tt)
ots_passed key sig (Ok k) h = (k, refl, h)
ots_passed key sig (Err e) h = absurd (cc)

-- the bytes of a part
bytes_after : (s : List ℕ) (n : ℕ) → ((i : ℕ) → get_or s i 0 < 256) → (i : ℕ) → get_or (drop n s) i 0 < 256
bytes_after s n bytes i =
    let at : get_or (drop n s) i 0 ≡ get_or s (n + i) 0 = get_or-drop n s i 0 in rw at (bytes (n + i))

bytes_before : (s : List ℕ) (n : ℕ) → ((i : ℕ) → get_or s i 0 < 256) → (i : ℕ) → get_or (take n s) i 0 < 256
bytes_before s n bytes i = grind (arith, get_or-take, get_or_past, length-take, bytes i)

-- what a signature that passes the check has
pub valid_if_passed : (key : LmsPublic) (message sig : List ℕ) → ((i : ℕ) → get_or sig i 0 < 256)
    → lms_check key message sig ≡ Ok tt → LmsValid key message sig
valid_if_passed key message sig bytes h =
    let size = signature_bytes key.ots_type in
    let one = passed (length sig == lms_bytes key) _ _ tt h in
    let whole : length sig ≡ lms_bytes key = eqb-true (length sig) (lms_bytes key) one.0 in
    let two = ots_passed key sig (candidate key.ots_type key.identifier (head_word sig) message (ots_part key sig)) one.1 in
    let three = passed (length (ots_part key sig) == size) _ _ two.0 two.1 in
    let four = passed (head_word (ots_part key sig) == type_number key.ots_type) _ _ two.0 three.1 in
    let five = passed (type_part key sig == tree_number key.lms_type) _ _ tt two.2 in
    let six = passed (nat_lt (head_word sig) (2 ^ height key.lms_type)) _ _ tt five.1 in
    let seven = passed (bytes_eq (root_of key (head_word sig) two.0 (path_part key sig)) key.root) _ _ tt six.1 in
    let ots_whole : length (ots_part key sig) ≡ size = eqb-true _ _ three.0 in
    let ots_kind : head_word (ots_part key sig) ≡ type_number key.ots_type = eqb-true _ _ four.0 in
    let kind : type_part key sig ≡ tree_number key.lms_type = eqb-true _ _ five.0 in
    let leaf : head_word sig < 2 ^ height key.lms_type = ltb-true _ _ six.0 in
    let first : u32str (head_word sig) ≡ take 4 sig = u32str-head_word sig (omega arith) bytes in
    let third : u32str (tree_number key.lms_type) ≡ take 4 (drop (4 + size) sig) =
    ap u32str (sym kind)
    ∙ u32str-head_word (drop (4 + size) sig) (omega (arith, length-drop (4 + size) sig)) (bytes_after sig (4 + size) bytes) in
    let far : 4 + size + 4 ≡ 8 + size = omega arith in
    let same : ots_candidate key.ots_type key.identifier (head_word sig) message (ots_part key sig) ≡ two.0 = cc (four.1) in
    record {
      q = head_word sig;
      ots = ots_part key sig;
      path = path_part key sig;
      parts = rw (← first, ← third, far) at (in_four_parts sig size 4);
      ots_length = ots_whole;
      path_length = omega (arith, length-drop (8 + size) sig);
      ots_type = sym (u32str-head_word (ots_part key sig) (omega arith) (bytes_before (drop 4 sig) size (bytes_after sig 4 bytes)))
          ∙ ap u32str ots_kind;
      is_leaf = leaf;
      root = ap (λ (k : List ℕ). root_of key (head_word sig) k (path_part key sig)) same
          ∙ (bytes_eq-Decides (root_of key (head_word sig) two.0 (path_part key sig)) key.root).0 seven.0;
    }

height_small : (t : LmsType) → 2 ^ height t < 2 ^ 32
height_small H5 = omega arith
height_small H10 = omega arith
height_small H15 = omega arith
height_small H20 = omega arith
height_small H25 = omega arith

-- a valid signature passes the check
pub passed_if_valid : (key : LmsPublic) (message sig : List ℕ) → LmsValid key message sig
    → lms_check key message sig ≡ Ok tt
passed_if_valid key message sig v =
    let size = signature_bytes key.ots_type in
    let small = height_small key.lms_type in
    let parts : PartsAre sig (u32str v.q) v.ots (u32str (tree_number key.lms_type)) v.path size 4 =
    of_four_parts sig _ _ _ _ size 4 v.parts (length-u32str _) v.ots_length (length-u32str _) in
    let leaf = v.is_leaf in
    let word : head_word sig ≡ v.q =
    ap head_word parts.whole ∙ head_word-u32str v.q _ (omega arith) in
    let ots : ots_part key sig ≡ v.ots = parts.second_is in
    let kind : type_part key sig ≡ tree_number key.lms_type =
    ap head_word parts.after_second
    ∙ head_word-u32str (tree_number key.lms_type) v.path (tree_number_small key.lms_type) in
    let far : 4 + size + 4 ≡ 8 + size = omega arith in
    let path : path_part key sig ≡ v.path = ap (λ (n : ℕ). drop n sig) (sym far) ∙ parts.fourth_is in
    let whole : length sig ≡ lms_bytes key =
    omega (
      arith,
      ap length parts.whole,
      length-u32str v.q,
      length-u32str (tree_number key.lms_type),
      length-append (u32str v.q) (v.ots ++ (u32str (tree_number key.lms_type) ++ v.path)),
      length-append v.ots (u32str (tree_number key.lms_type) ++ v.path),
      length-append (u32str (tree_number key.lms_type)) v.path,
      v.ots_length,
      v.path_length,
    ) in
    let k : List ℕ = ots_candidate key.ots_type key.identifier v.q message v.ots in
    let led : candidate key.ots_type key.identifier v.q message v.ots ≡ Ok k =
    passes (length v.ots == size) _ _ (eq-eqb _ _ v.ots_length)
    ∙ passes (head_word v.ots == type_number key.ots_type) _ _
    (eq-eqb _ _ (head_word-take v.ots (type_number key.ots_type) (type_number_small key.ots_type) v.ots_type)) in
    let leads : candidate key.ots_type key.identifier (head_word sig) message (ots_part key sig) ≡ Ok k =
    ap (λ (q : ℕ). candidate key.ots_type key.identifier q message (ots_part key sig)) word
    ∙ ap (λ (s : List ℕ). candidate key.ots_type key.identifier v.q message s) ots
    ∙ led in
    let root : root_of key (head_word sig) k (path_part key sig) ≡ key.root =
    ap (λ (q : ℕ). root_of key q k (path_part key sig)) word
    ∙ ap (λ (s : List ℕ). root_of key v.q k s) path
    ∙ v.root in
    passes (length sig == lms_bytes key) _ _ (eq-eqb _ _ whole)
    ∙ ap (λ (r : Result (List ℕ) OtsRefusal). check_ots key sig r) leads
    ∙ passes (type_part key sig == tree_number key.lms_type) _ _ (eq-eqb _ _ kind)
    ∙ passes (nat_lt (head_word sig) (2 ^ height key.lms_type)) _ _ (lt-ltb _ _ (rw word leaf))
    ∙ passes (bytes_eq (root_of key (head_word sig) k (path_part key sig)) key.root) _ _
    ((bytes_eq-Decides _ _).1 root)

accepts : (r : Result (Unit {0}) LmsRefusal) → is_ok r ≡ true → r ≡ Ok tt
accepts (Ok u) h = refl
accepts (Err e) h = absurd (cc)

-- an answer of the check is Ok exactly where the signature is valid
pub decided : (key : LmsPublic) (message sig : List ℕ) (r : Result (Unit {0}) LmsRefusal)
    → ((i : ℕ) → get_or sig i 0 < 256) → r ≡ lms_check key message sig
    → (is_ok r ≡ true → LmsValid key message sig) × (LmsValid key message sig → is_ok r ≡ true)
decided key message sig r bytes is_answer = (
  λ h. valid_if_passed key message sig bytes (sym is_answer ∙ accepts r h),
  λ v. ap is_ok (is_answer ∙ passed_if_valid key message sig v),
)

within : (s : List ℕ) (i : ℕ) → (i < length s) ⊎ (length s ≤ i)
within s i = grind arith

all_bytes : (s : List ℕ) → All (λ b. b < 256) s → (i : ℕ) → get_or s i 0 < 256
all_bytes s each i =
    elim (within s i) [ inl inside ↦ each i 0 inside | inr past ↦ rw (get_or_past s i 0 past) (lit< tt) ]

-- the law, over any byte string
pub accepts_valid : AcceptsValid
accepts_valid key message sig bytes =
    (valid_if_passed key message sig (all_bytes sig bytes), passed_if_valid key message sig)
