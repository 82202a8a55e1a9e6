-- Steps of chains by their strings, and the values that a table of chains holds.
use Rattle.std.proofs.Common.{◌≡◌, ℕ, zero, suc, ◌+◌, ◌-◌, ◌%◌, ◌<◌, ◌≤◌, ◌^◌, List, [], ◌∷◌, ◌++◌, length, take, drop, slice_index, refl, sym, ap, ◌∙◌, arith, add-one, add-zero, append_assoc, length-append}
use Rattle.std.specs.Fn.{iterate}
use Rattle.std.proofs.lemmas.List.{append-nil, get_or_at, take_at, drop_at}
use Rattle.sha2.specs.Sha256.{sha256}
use Rattle.lm_ots.specs.declared.types.OtsType.{OtsType}
use Rattle.lm_ots.specs.declared.walks.Walk.{Walk}
use Rattle.lm_ots.specs.OneTime.{chain, chain_ends, coef, d_pblc, digit_bits, key_string, signature_value, step_string, stepped, u16str, u32str}
use Rattle.lm_ots.specs.Signing.{KeyParts, chain_start, chains_to, own_ends, own_values}
use Rattle.lm_ots.specs.Walks.{end_of, next_string, steps_left, values, walk_at, with_digest}
use Rattle.lm_ots.proofs.Steps.{stepped-add}
use Rattle.lm_ots.proofs.Words.{length-u16str, length-u32str}

-- ---- the strings of steps

head_size : (identifier : List ℕ) (q i : ℕ) → length identifier ≡ 16 → length (identifier ++ u32str q ++ u16str i) ≡ 22
head_size identifier q i size =
    omega (
      arith,
      length-append (identifier ++ u32str q) (u16str i),
      length-append identifier (u32str q),
      length-u32str q,
      length-u16str i,
      size,
    )

place-step_string : (identifier : List ℕ) (q i j : ℕ) (x : List ℕ) → length identifier ≡ 16
    → slice_index (step_string identifier q i j x) 22 ≡ j
place-step_string identifier q i j x size =
    get_or_at (identifier ++ u32str q ++ u16str i) j x 0 22 (head_size identifier q i size)

value-step_string : (identifier : List ℕ) (q i j : ℕ) (x : List ℕ) → length identifier ≡ 16
    → drop 23 (step_string identifier q i j x) ≡ x
value-step_string identifier q i j x size =
    let head : List ℕ = identifier ++ u32str q ++ u16str i in
    ap (drop 23) (sym (append_assoc head (j ∷ []) x))
    ∙ drop_at (head ++ (j ∷ [])) x 23 (omega (arith, length-append head (j ∷ []), head_size identifier q i size))

next-step_string : (identifier : List ℕ) (q i j : ℕ) (x : List ℕ) → length identifier ≡ 16 → j + 1 < 256
    → next_string (step_string identifier q i j x)
    ≡ step_string identifier q i (j + 1) (sha256 (step_string identifier q i j x))
next-step_string identifier q i j x size small =
    let head : List ℕ = identifier ++ u32str q ++ u16str i in
    let string : List ℕ = step_string identifier q i j x in
    let byte : (j + 1) % 256 ≡ j + 1 = omega (arith, small) in
    ap (λ (h : List ℕ). h ++ (((slice_index string 22 + 1) % 256) ∷ sha256 string)) (take_at head (j ∷ x) 22 (head_size identifier q i size))
    ∙ ap (λ (p : ℕ). head ++ (((p + 1) % 256) ∷ sha256 string)) (place-step_string identifier q i j x size)
    ∙ ap (λ (p : ℕ). head ++ (p ∷ sha256 string)) byte

-- n steps of a string are n steps of its chain
steps-step_string : (identifier : List ℕ) (q i n j : ℕ) (x : List ℕ) → length identifier ≡ 16 → (0 < n → j + n < 256)
    → iterate next_string n (step_string identifier q i j x) ≡ step_string identifier q i (j + n) (stepped identifier q i n j x)
unfolding stepped
steps-step_string identifier q i zero j x size small = rw add-zero refl
steps-step_string identifier q i (suc n) j x size small =
    let fits : j + suc n < 256 = small (omega arith) in
    let place : j + suc n ≡ j + 1 + n = omega arith in
    rw place
    (ap (iterate next_string n) (next-step_string identifier q i j x size (omega (arith, fits)))
    ∙ steps-step_string identifier q i n (j + 1) (sha256 (step_string identifier q i j x)) size (λ some. omega (arith, fits)))

-- one more step of a string
iterate-suc : (n : ℕ) (string : List ℕ) → next_string (iterate next_string n string) ≡ iterate next_string (suc n) string
iterate-suc zero string = refl
iterate-suc (suc n) string = iterate-suc n (next_string string)

pub iterate-more : (n : ℕ) (string : List ℕ) → next_string (iterate next_string n string) ≡ iterate next_string (n + 1) string
iterate-more n string = let more : n + 1 ≡ suc n = omega arith in rw more (iterate-suc n string)

-- a walk that has taken some of its steps ends as it did
pub end_of-on : (identifier : List ℕ) (q i steps : ℕ) (walk : Walk) (string : List ℕ) → length identifier ≡ 16 → walk.end < 256
    → steps ≤ steps_left walk
    → string ≡ iterate next_string steps (step_string identifier q i walk.place walk.value)
    → end_of identifier q i (record { place = slice_index string 22; end = walk.end; value = drop 23 string }) ≡ end_of identifier q i walk
end_of-on identifier q i steps walk string size small few is =
    let next : List ℕ = stepped identifier q i steps walk.place walk.value in
    let at : string ≡ step_string identifier q i (walk.place + steps) next =
    is ∙ steps-step_string identifier q i steps walk.place walk.value size (λ some. omega (arith, small, few, some)) in
    let place : slice_index string 22 ≡ walk.place + steps =
    ap (λ (s : List ℕ). slice_index s 22) at ∙ place-step_string identifier q i (walk.place + steps) next size in
    let value : drop 23 string ≡ next = ap (drop 23) at ∙ value-step_string identifier q i (walk.place + steps) next size in
    let left : steps + (walk.end - (walk.place + steps)) ≡ walk.end - walk.place = omega (arith, few) in
    ap (λ (p : ℕ). stepped identifier q i (walk.end - p) p (drop 23 string)) place
    ∙ ap (λ (v : List ℕ). stepped identifier q i (walk.end - (walk.place + steps)) (walk.place + steps) v) value
    ∙ sym (ap (λ (n : ℕ). stepped identifier q i n walk.place walk.value) (sym left)
    ∙ stepped-add identifier q i steps (walk.end - (walk.place + steps)) walk.place walk.value)

-- ---- the values of a table

-- no value, and one more, behind other bytes
pub values-none : (walks : List Walk) (front : List ℕ) → front ++ values walks 0 ≡ front
unfolding values
values-none walks front = append-nil front

pub values-more : (walks : List Walk) (n : ℕ) (front value : List ℕ) → value ≡ (walk_at walks n).value
    → front ++ values walks n ++ value ≡ front ++ values walks (n + 1)
unfolding values
values-more walks n front value is = append_assoc front (values walks n) value ∙ rw (add-one, is) refl

-- the values at the ends of a signature's chains
pub values-chain_ends : (width : OtsType) (identifier : List ℕ) (q : ℕ) (signed sig : List ℕ) (walks : List Walk) (n : ℕ)
    → ((i : ℕ) → i < n → (walk_at walks i).value
    ≡ chain identifier q i (coef signed i (digit_bits width)) (2 ^ digit_bits width - 1) (signature_value sig i))
    → values walks n ≡ chain_ends width identifier q signed sig n
unfolding values chain_ends
values-chain_ends width identifier q signed sig walks zero each = refl
values-chain_ends width identifier q signed sig walks (suc n) each =
    ap (λ (v : List ℕ). v ++ (walk_at walks n).value)
    (values-chain_ends width identifier q signed sig walks n (λ i below. each i (omega (arith, below))))
    ∙ ap (λ (v : List ℕ). chain_ends width identifier q signed sig n ++ v) (each n (omega arith))

values-chains_to : (key : KeyParts) (to : ℕ → ℕ) (walks : List Walk) (n : ℕ)
    → ((i : ℕ) → i < n → (walk_at walks i).value ≡ chain key.identifier key.q i 0 (to i) (chain_start key i))
    → values walks n ≡ chains_to key to n
unfolding values chains_to
values-chains_to key to walks zero each = refl
values-chains_to key to walks (suc n) each =
    ap (λ (v : List ℕ). v ++ (walk_at walks n).value) (values-chains_to key to walks n (λ i below. each i (omega (arith, below))))
    ∙ ap (λ (v : List ℕ). chains_to key to n ++ v) (each n (omega arith))

-- the values at the ends of a key's own chains
pub values-own_ends : (key : KeyParts) (walks : List Walk) (n : ℕ)
    → ((i : ℕ) → i < n → (walk_at walks i).value
    ≡ chain key.identifier key.q i 0 (2 ^ digit_bits key.width - 1) (chain_start key i))
    → values walks n ≡ own_ends key n
unfolding own_ends
values-own_ends key walks n each = values-chains_to key (λ i. 2 ^ digit_bits key.width - 1) walks n each

-- those at the digits of the string that is signed
pub values-own_values : (key : KeyParts) (signed : List ℕ) (walks : List Walk) (n : ℕ)
    → ((i : ℕ) → i < n → (walk_at walks i).value
    ≡ chain key.identifier key.q i 0 (coef signed i (digit_bits key.width)) (chain_start key i))
    → values walks n ≡ own_values key signed n
unfolding own_values
values-own_values key signed walks n each = values-chains_to key (λ i. coef signed i (digit_bits key.width)) walks n each
