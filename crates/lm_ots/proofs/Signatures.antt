-- A key's own signatures: what stands where in them, and that their candidate is the key's K.
use Rattle.std.proofs.Common.{◌≡◌, ℕ, zero, suc, ◌+◌, ◌-◌, ◌*◌, ◌<◌, ◌≤◌, ◌^◌, inl, inr, List, [], ◌++◌, length, take, drop, Result, Ok, refl, sym, ap, ◌∙◌, arith, add-one, append_assoc, length-append}
use Rattle.std.proofs.lemmas.Bool.{cases_lt, eq-eqb}
use Rattle.std.proofs.lemmas.List.{append-nil, take_all, take_at, drop_at, drop-drop, length-drop, take-append-le, drop-append-le}
use Rattle.sha2.specs.Sha256.{sha256}
use Rattle.sha2.proofs.Facts256.{length-sha256}
use Rattle.lm_ots.specs.declared.types.OtsType.{OtsType}
use Rattle.lm_ots.specs.declared.types.OtsType.TheVariants.{W1, W2, W4, W8}
use Rattle.lm_ots.specs.declared.chains.OtsRefusal.{OtsRefusal}
use Rattle.lm_ots.specs.OneTime.{chain, chain_count, chain_ends, candidate, ots_candidate, coef, digit_bits, head_word, key_string, message_hash, randomizer, signature_bytes, signature_value, signed_string, stepped, step_string, type_number, u32str}
use Rattle.lm_ots.specs.Signing.{KeyParts, LeadsToKey, chain_start, chains_to, ots_public, ots_signature, own_ends, own_randomizer, own_signed_string, own_values, randomizer_place, seed_string}
use Rattle.lm_ots.proofs.Steps.{stepped-add}
use Rattle.lm_ots.proofs.Words.{head_word-take, length-u32str}

-- ---- sizes

-- a value stays a hash's size along its chain
length-stepped : (identifier : List ℕ) (q i steps j : ℕ) (x : List ℕ) → length x ≡ 32 → length (stepped identifier q i steps j x) ≡ 32
unfolding stepped
length-stepped identifier q i zero j x size = size
length-stepped identifier q i (suc steps) j x size =
    length-stepped identifier q i steps (j + 1) (sha256 (step_string identifier q i j x)) (length-sha256 (step_string identifier q i j x))

length-value : (key : KeyParts) (n to : ℕ) → length (chain key.identifier key.q n 0 to (chain_start key n)) ≡ 32
length-value key n to =
    length-stepped key.identifier key.q n (to - 0) 0 (chain_start key n) (length-sha256 (seed_string key.identifier key.q n key.seed))

length-chains_to : (key : KeyParts) (to : ℕ → ℕ) (n : ℕ) → length (chains_to key to n) ≡ 32 * n
unfolding chains_to
length-chains_to key to zero = refl
length-chains_to key to (suc n) =
    omega (
      arith,
      length-append (chains_to key to n) (chain key.identifier key.q n 0 (to n) (chain_start key n)),
      length-chains_to key to n,
      length-value key n (to n),
    )

-- ---- what stands where

-- 32 bytes in a list that goes on
in_front : (at : ℕ) (xs ys value : List ℕ) → at + 32 ≤ length xs → take 32 (drop at xs) ≡ value → take 32 (drop at (xs ++ ys)) ≡ value
in_front at xs ys value fits e =
    ap (take 32) (drop-append-le at xs ys (omega (arith, fits)))
    ∙ take-append-le 32 (drop at xs) ys (omega (arith, length-drop at xs, fits)) ∙ e

-- 32 bytes at the end
at_end : (at : ℕ) (xs ys : List ℕ) → at ≡ length xs → length ys ≡ 32 → take 32 (drop at (xs ++ ys)) ≡ ys
at_end at xs ys is size = ap (take 32) (drop_at xs ys at (sym is)) ∙ take_all 32 ys (omega (arith, size))

value_at : (key : KeyParts) (to : ℕ → ℕ) (n i : ℕ) → i < n → take 32 (drop (32 * i) (chains_to key to n)) ≡ chain key.identifier key.q i 0
    (to i) (chain_start key i)
unfolding chains_to
value_at key to zero i inside = absurd (omega (arith, inside))
value_at key to (suc n) i inside =
    elim (cases_lt i n) [
      | inl lower ↦
          in_front (32 * i) (chains_to key to n) (chain key.identifier key.q n 0 (to n) (chain_start key n))
          (chain key.identifier key.q i 0 (to i) (chain_start key i))
          (omega (arith, length-chains_to key to n, lower)) (value_at key to n i lower)
      | inr least ↦
          let same : n ≡ i = omega (arith, inside, least) in
          at_end (32 * i) (chains_to key to n) (chain key.identifier key.q n 0 (to n) (chain_start key n))
          (omega (arith, length-chains_to key to n, same)) (length-value key n (to n))
          ∙ ap (λ (k : ℕ). chain key.identifier key.q k 0 (to k) (chain_start key k)) same
    ]

-- a signature of a word, a randomizer and values
record IsLaidOut (sig word c values : List ℕ) (n : ℕ) : Type 0 where
  whole : length sig ≡ 36 + 32 * n
  head : sig ≡ word ++ (c ++ values)
  c_is : randomizer sig ≡ c
  values_are : drop 36 sig ≡ values

laid_out : (word c values : List ℕ) (n : ℕ) → length word ≡ 4 → length c ≡ 32 → length values ≡ 32 * n
    → IsLaidOut (word ++ c ++ values) word c values n
laid_out word c values n l1 l2 l3 =
    let grouped : word ++ c ++ values ≡ word ++ (c ++ values) = append_assoc word c values in
    record {
      whole = omega (arith, length-append (word ++ c) values, length-append word c, l1, l2, l3);
      head = grouped;
      c_is = ap (λ (x : List ℕ). take 32 (drop 4 x)) grouped ∙ ap (take 32) (drop_at word (c ++ values) 4 l1) ∙ take_at c values 32 l2;
      values_are = drop_at (word ++ c) values 36 (omega (arith, length-append word c, l1, l2));
    }

signature-laid_out : (key : KeyParts) (message : List ℕ)
    → IsLaidOut (ots_signature key message) (u32str (type_number key.width)) (own_randomizer key)
    (own_values key (own_signed_string key message) (chain_count key.width)) (chain_count key.width)
unfolding own_values
signature-laid_out key message =
    laid_out (u32str (type_number key.width)) (own_randomizer key) (own_values key (own_signed_string key message) (chain_count key.width))
    (chain_count key.width)
    (length-u32str (type_number key.width)) (length-sha256 (seed_string key.identifier key.q randomizer_place key.seed))
    (length-chains_to key (λ i. coef (own_signed_string key message) i (digit_bits key.width)) (chain_count key.width))

-- the bytes of a signature
pub length-ots_signature : (key : KeyParts) (message : List ℕ) → length (ots_signature key message) ≡ signature_bytes key.width
length-ots_signature key message = omega (arith, (signature-laid_out key message).whole)

-- its first word
pub word-ots_signature : (key : KeyParts) (message : List ℕ) → take 4 (ots_signature key message) ≡ u32str (type_number key.width)
word-ots_signature key message =
    ap (take 4) (signature-laid_out key message).head
    ∙ take_at (u32str (type_number key.width)) _ 4 (length-u32str (type_number key.width))

-- ---- the candidate

-- a digit is a place of its chain
digit_small : (width : OtsType) (s : List ℕ) (i : ℕ) → coef s i (digit_bits width) ≤ 2 ^ digit_bits width - 1
digit_small W1 s i = omega arith
digit_small W2 s i = omega arith
digit_small W4 s i = omega arith
digit_small W8 s i = omega arith

from_start : (identifier : List ℕ) (q i to : ℕ) (x : List ℕ) → chain identifier q i 0 to x ≡ stepped identifier q i to 0 x
from_start identifier q i to x = let steps : to - 0 ≡ to = omega arith in ap (λ (n : ℕ). stepped identifier q i n 0 x) steps

-- to a place of a chain, and on to a later one
pub chain_splits : (identifier : List ℕ) (q i middle to : ℕ) (x : List ℕ) → middle ≤ to
    → chain identifier q i middle to (chain identifier q i 0 middle x) ≡ chain identifier q i 0 to x
chain_splits identifier q i middle to x inside =
    let whole : middle + (to - middle) ≡ to = omega (arith, inside) in
    let place : middle ≡ 0 + middle = omega arith in
    ap (chain identifier q i middle to) (from_start identifier q i middle x)
    ∙ ap (λ (j : ℕ). stepped identifier q i (to - middle) j (stepped identifier q i middle 0 x)) place
    ∙ sym (ap (λ (n : ℕ). stepped identifier q i n 0 x) (sym whole) ∙ stepped-add identifier q i middle (to - middle) 0 x)
    ∙ sym (from_start identifier q i to x)

-- the value of chain i in a signature
own_value : (key : KeyParts) (message : List ℕ) (i : ℕ) → i < chain_count key.width
    → signature_value (ots_signature key message) i ≡ chain key.identifier key.q i 0
    (coef (own_signed_string key message) i (digit_bits key.width)) (chain_start key i)
unfolding own_values
own_value key message i inside =
    let sig = ots_signature key message in
    ap (take 32) (sym (drop-drop (32 * i) 36 sig) ∙ ap (drop (32 * i)) (signature-laid_out key message).values_are)
    ∙ value_at key (λ i. coef (own_signed_string key message) i (digit_bits key.width)) (chain_count key.width) i inside

-- the ends of its chains are the key's
own_chain_ends : (key : KeyParts) (message : List ℕ) (n : ℕ) → n ≤ chain_count key.width
    → chain_ends key.width key.identifier key.q (own_signed_string key message) (ots_signature key message) n ≡ chains_to key
    (λ i. 2 ^ digit_bits key.width - 1) n
unfolding chain_ends chains_to
own_chain_ends key message zero inside = refl
own_chain_ends key message (suc n) inside =
    let last : ℕ = 2 ^ digit_bits key.width - 1 in
    let digit : ℕ = coef (own_signed_string key message) n (digit_bits key.width) in
    let value = own_value key message n (omega (arith, inside)) in
    let end : chain key.identifier key.q n digit last (signature_value (ots_signature key message) n) ≡ chain key.identifier key.q n 0 last
    (chain_start key n) =
    ap (chain key.identifier key.q n digit last) value ∙ chain_splits key.identifier key.q n digit last (chain_start key n)
    (digit_small key.width (own_signed_string key message) n) in
    ap (λ (x : List ℕ). x ++ chain key.identifier key.q n digit last (signature_value (ots_signature key message) n))
    (own_chain_ends key message n (omega (arith, inside)))
    ∙ ap (λ (x : List ℕ). chains_to key (λ i. last) n ++ x) end

-- the candidate of a key's own signature is its K
pub own_candidate : (key : KeyParts) (message : List ℕ)
    → ots_candidate key.width key.identifier key.q message (ots_signature key message) ≡ ots_public key
unfolding own_ends
own_candidate key message =
    let sig = ots_signature key message in
    ap (λ (c : List ℕ). sha256 (key_string key.identifier key.q
    (chain_ends key.width key.identifier key.q (signed_string key.width (message_hash key.identifier key.q c message)) sig
    (chain_count key.width)))) (signature-laid_out key message).c_is
    ∙ ap (λ (x : List ℕ). sha256 (key_string key.identifier key.q x)) (own_chain_ends key message (chain_count key.width) (omega arith))

-- the number of a type fits a word
pub type_number_small : (width : OtsType) → type_number width < 2 ^ 32
type_number_small W1 = omega arith
type_number_small W2 = omega arith
type_number_small W4 = omega arith
type_number_small W8 = omega arith

-- a signature of the right length and type is led to its candidate
candidate_is : (width : OtsType) (identifier : List ℕ) (q : ℕ) (message sig : List ℕ) → length sig ≡ signature_bytes width
    → head_word sig ≡ type_number width
    → candidate width identifier q message sig ≡ Ok (ots_candidate width identifier q message sig)
candidate_is width identifier q message sig long kind = rw (eq-eqb _ _ long, eq-eqb _ _ kind) refl

pub leads_to_key : LeadsToKey
leads_to_key key message =
    let kind = head_word-take (ots_signature key message) (type_number key.width) (type_number_small key.width)
    (word-ots_signature key message) in
    candidate_is key.width key.identifier key.q message (ots_signature key message) (length-ots_signature key message) kind
    ∙ ap (λ (k : List ℕ). ok k) (own_candidate key message)
  where
    ok : List ℕ → Result (List ℕ) OtsRefusal
    ok k = Ok k
