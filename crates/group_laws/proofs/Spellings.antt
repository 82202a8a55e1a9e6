-- Posts with one spelling, and those of which the last bit was changed, have one content.
use Rattle.std.proofs.Common.{◌≡◌, ℕ, zero, suc, ◌<◌, ◌≤◌, ◌^◌, List, [], ◌∷◌, ◌++◌, length, take, drop, ap, sym, ◌∙◌, refl, arith, length-append}
use Rattle.std.specs.Prelude.{◌-◌, slice_index_or}
use Rattle.std.specs.Int.{to_be_bytes, w32}
use Rattle.std.specs.List.{slice_set}
use Rattle.std.proofs.lemmas.List.{take-append-drop}
use Rattle.wire_core.specs.Bytes.{prefixed}
use Rattle.wire_core.proofs.Hashed.{prefixed-front}
use Rattle.phase_message.specs.declared.post.Post.{Post}
use Rattle.phase_message.specs.Post.{post_spelling}
use Rattle.lm_ots.specs.OneTime.{u32str}
use Rattle.lm_ots.proofs.Words.{length-u32str}
use Rattle.lms_tree.specs.declared.keys.LmsPublic.{LmsPublic}
use Rattle.lms_tree.specs.Tree.{LmsValid, tree_number}
use Rattle.signed_post.specs.Frame.{FitsFrame}
use Rattle.round_spec.proofs.PastForms.{spelled-long}
use Rattle.group_spec.specs.Alterations.{bit_changed, with_bit_changed, with_last_bit_changed}
use Rattle.faulty_member.proofs.Changes.{length-bit}

-- the content is the front
front-is : (a b : Post) (rest : List ℕ) → FitsFrame a → length b.content < 2 ^ 32 → post_spelling b ≡ prefixed a.content ++ rest
    → a.content ≡ b.content
front-is a b rest fits small e =
    let most = fits.most in
    sym (prefixed-front b.content a.content b.signature rest small (omega (arith, most)) e).0

small-content : (a b : Post) → FitsFrame a → length (post_spelling b) ≡ length (post_spelling a) → length b.content < 2 ^ 32
small-content a b fits same =
    let most = fits.most in
    let first = spelled-long a in
    let second = spelled-long b in
    omega (arith, most, first, second, same)

-- posts with one spelling
pub content-spelled : (a b : Post) → FitsFrame a → post_spelling a ≡ post_spelling b → a.content ≡ b.content
content-spelled a b fits e =
    front-is a b a.signature fits (small-content a b fits (sym (ap (λ (s : List ℕ). length s) e))) (sym e)

-- ---- a changed last byte

-- what stands before a changed place stays
take-set : (bytes : List ℕ) (n place b : ℕ) → n ≤ place → take n (slice_set bytes place b) ≡ take n bytes
take-set bytes zero place b le = refl
take-set [] (suc n) place b le = refl
take-set (x ∷ bytes) (suc n) zero b le = absurd (omega (arith, le))
take-set (x ∷ bytes) (suc n) (suc place) b le = ap (λ (s : List ℕ). x ∷ s) (take-set bytes n place b (omega (arith, le)))

take-front : (front rest : List ℕ) → take (length front) (front ++ rest) ≡ front
take-front [] rest = refl
take-front (x ∷ front) rest = ap (λ (s : List ℕ). x ∷ s) (take-front front rest)

take-changed : (bytes : List ℕ) (n : ℕ) → n < length bytes → take n (with_last_bit_changed bytes) ≡ take n bytes
unfolding with_bit_changed
take-changed bytes n lt = take-set bytes n (length bytes - 1) (bit_changed (slice_index_or bytes (length bytes - 1) 0)) (omega (arith, lt))

-- a post with a signature, spelled as another one but for the last bit
pub content-nearly : (a b : Post) → FitsFrame a → 1 ≤ length a.signature → post_spelling a ≡ with_last_bit_changed (post_spelling b)
    → a.content ≡ b.content
content-nearly a b fits some e =
    let n : ℕ = length (prefixed a.content) in
    let text : List ℕ = post_spelling b in
    let same : length (post_spelling a) ≡ length (post_spelling b)
    = ap (λ (s : List ℕ). length s) e ∙ length-bit (length (post_spelling b) - 1) (post_spelling b) in
    let long = spelled-long a in
    let head = length-append (to_be_bytes w32 (length a.content)) a.content in
    let lt : length (prefixed a.content) < length (post_spelling b) = omega (arith, same, long, head, some) in
    let front : take (length (prefixed a.content)) (post_spelling b) ≡ prefixed a.content
    = sym (take-changed (post_spelling b) (length (prefixed a.content)) lt)
    ∙ sym (ap (λ (s : List ℕ). take (length (prefixed a.content)) s) e) ∙ take-front (prefixed a.content) a.signature in
    front-is a b (drop n text) fits (small-content a b fits (sym same))
    (sym (take-append-drop n text) ∙ ap (λ (s : List ℕ). s ++ drop n text) front)

-- a valid signature is not empty
pub valid-some : (key : LmsPublic) (message sig : List ℕ) → LmsValid key message sig → 1 ≤ length sig
valid-some key message sig v =
    let kind : List ℕ = u32str (tree_number key.lms_type) in
    let whole = ap (λ (s : List ℕ). length s) v.parts in
    let first = length-u32str v.q in
    omega (
      arith,
      whole,
      first,
      length-append (u32str v.q ++ v.ots ++ kind) v.path,
      length-append (u32str v.q ++ v.ots) kind,
      length-append (u32str v.q) v.ots,
    )
