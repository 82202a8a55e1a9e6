-- LM-OTS, the one-time signatures of RFC 8554, with SHA-256 and n = 32. Sections are the RFC's.
-- A byte string is a list of numbers below 256, and H is `sha256`. Each string that is hashed has
-- a name of its own here, and no string is hashed but by such a name.
use Rattle.std.specs.Prelude.{◌≡◌, ◌==◌, ℕ, zero, suc, ◌+◌, ◌-◌, ◌*◌, ◌/◌, ◌%◌, ◌^◌, ◌⊎◌, List, [], ◌∷◌, ◌++◌, length, take, drop, slice_index, if◌then◌else◌, Option, Some, None, Result, Ok, Err}
use Rattle.std.specs.Int.{w16, w32, to_be_bytes, from_be_bytes}
use Rattle.sha2.specs.Sha256.{sha256}
use Rattle.lm_ots.specs.declared.types.OtsType.{OtsType}
use Rattle.lm_ots.specs.declared.types.OtsType.TheVariants.{W1, W2, W4, W8}
use Rattle.lm_ots.specs.declared.chains.OtsRefusal.{OtsRefusal}
use Rattle.lm_ots.specs.declared.chains.OtsRefusal.TheVariants.{Length, Kind}

-- ---- the types (4.1, table 1)

-- the type's number in keys and signatures
abbrev pub type_number : OtsType → ℕ
type_number W1 = 1
type_number W2 = 2
type_number W4 = 3
type_number W8 = 4

-- w: the bits of a digit
abbrev pub digit_bits : OtsType → ℕ
digit_bits W1 = 1
digit_bits W2 = 2
digit_bits W4 = 4
digit_bits W8 = 8

-- p: the chains of a key, one for each digit
abbrev pub chain_count : OtsType → ℕ
chain_count W1 = 265
chain_count W2 = 133
chain_count W4 = 67
chain_count W8 = 34

-- ls: how far the checksum is shifted to the left
abbrev pub checksum_shift : OtsType → ℕ
checksum_shift W1 = 7
checksum_shift W2 = 6
checksum_shift W4 = 4
checksum_shift W8 = 0

-- the bytes of a signature: the type's word, C and p chain values (4.5)
abbrev pub signature_bytes : OtsType → ℕ
signature_bytes width = 4 + 32 + 32 * chain_count width

-- the type of a number
abbrev pub type_of_number : ℕ → Option OtsType
type_of_number n =
    if n == 1 then Some W1 else (if n == 2 then Some W2 else (if n == 3 then Some W4 else
    (if n == 4 then Some W8 else None)))

-- ---- numbers in strings (3.1)

-- the two bytes of a number, the high one first
unfoldable pub u16str : ℕ → List ℕ
u16str n = to_be_bytes w16 n

-- the four bytes of a number, the highest first
unfoldable pub u32str : ℕ → List ℕ
u32str n = to_be_bytes w32 n

-- the word at the head of a string
unfoldable pub head_word : List ℕ → ℕ
head_word s = from_be_bytes w32 (take 4 s)

-- ---- digits (3.1.3) and the checksum (4.4)

-- w is the size of a digit
abbrev pub IsDigitSize : ℕ → Type 0
IsDigitSize w = (w ≡ 1) ⊎ ((w ≡ 2) ⊎ ((w ≡ 4) ⊎ (w ≡ 8)))

-- coef(s, i, w): digit i of the string s, whose digits have w bits
abbrev pub coef : List ℕ → ℕ → ℕ → ℕ
coef s i w = slice_index s (i * w / 8) / 2 ^ (8 - (w * (i % (8 / w)) + w)) % 2 ^ w

-- the sum of 2^w - 1 - coef(s, i, w) over the first n digits
unfoldable pub complement_sum : List ℕ → ℕ → ℕ → ℕ
complement_sum s w zero = 0
complement_sum s w (suc n) = complement_sum s w n + (2 ^ w - 1 - coef s n w)

-- Cksm(Q): the sum over all digits of Q, shifted, as 16 bits
abbrev pub checksum : OtsType → List ℕ → List ℕ
checksum width digest =
    u16str (complement_sum digest (digit_bits width) (256 / digit_bits width) * 2 ^ checksum_shift width)

-- Q || Cksm(Q), whose first p digits are signed (4.5)
abbrev pub signed_string : OtsType → List ℕ → List ℕ
signed_string width digest = digest ++ checksum width digest

-- ---- the strings that are hashed

-- D_PBLC, in the string of K (4.3)
abbrev pub d_pblc : ℕ
d_pblc = 0x8080

-- D_MESG, in the string of Q (4.5)
abbrev pub d_mesg : ℕ
d_mesg = 0x8181

-- the string of Q: I || u32str(q) || u16str(D_MESG) || C || message (4.5)
abbrev pub message_string : List ℕ → ℕ → List ℕ → List ℕ → List ℕ
message_string identifier q c message = identifier ++ u32str q ++ u16str d_mesg ++ c ++ message

-- the string of a step of chain i from place j:
-- I || u32str(q) || u16str(i) || u8str(j) || tmp (4.3, 4.5, 4.6)
abbrev pub step_string : List ℕ → ℕ → ℕ → ℕ → List ℕ → List ℕ
step_string identifier q i j tmp = identifier ++ u32str q ++ u16str i ++ (j ∷ tmp)

-- the string of K: I || u32str(q) || u16str(D_PBLC) || y[0] || .. || y[p-1] (4.3, 4.6)
abbrev pub key_string : List ℕ → ℕ → List ℕ → List ℕ
key_string identifier q ends = identifier ++ u32str q ++ u16str d_pblc ++ ends

-- ---- chains and the candidate (4.6)

-- x stepped `steps` times in chain i, from place j on
unfoldable pub stepped : List ℕ → ℕ → ℕ → (steps j : ℕ) → List ℕ → List ℕ
stepped identifier q i zero j x = x
stepped identifier q i (suc steps) j x =
    stepped identifier q i steps (j + 1) (sha256 (step_string identifier q i j x))

-- the value x of chain i, stepped from place `from` to place `to`
abbrev pub chain : List ℕ → ℕ → ℕ → (from to : ℕ) → List ℕ → List ℕ
chain identifier q i from to x = stepped identifier q i (to - from) from x

-- the randomizer C of a signature
abbrev pub randomizer : List ℕ → List ℕ
randomizer sig = take 32 (drop 4 sig)

-- the value y[i] of a signature
abbrev pub signature_value : List ℕ → ℕ → List ℕ
signature_value sig i = take 32 (drop (36 + 32 * i) sig)

-- Q of a message under a randomizer C
abbrev pub message_hash : List ℕ → ℕ → List ℕ → List ℕ → List ℕ
message_hash identifier q c message = sha256 (message_string identifier q c message)

-- z[0] || .. || z[n-1]: the first n values of a signature, each stepped from its digit
-- in `signed` to the end of its chain
unfoldable pub chain_ends : OtsType → List ℕ → ℕ → (signed sig : List ℕ) → ℕ → List ℕ
chain_ends width identifier q signed sig zero = []
chain_ends width identifier q signed sig (suc n) =
    chain_ends width identifier q signed sig n
    ++ chain identifier q n (coef signed n (digit_bits width)) (2 ^ digit_bits width - 1)
    (signature_value sig n)

-- Kc: the hash K over the ends of a signature's chains
abbrev pub ots_candidate : OtsType → List ℕ → ℕ → List ℕ → List ℕ → List ℕ
ots_candidate width identifier q message sig =
    sha256 (key_string identifier q (chain_ends width identifier q
    (signed_string width (message_hash identifier q (randomizer sig) message)) sig (chain_count width)))

-- what comes of a signature: its candidate, or the first refusal
abbrev pub candidate : OtsType → List ℕ → ℕ → List ℕ → List ℕ → Result (List ℕ) OtsRefusal
candidate width identifier q message sig =
    if length sig == signature_bytes width then
    (if head_word sig == type_number width then Ok (ots_candidate width identifier q message sig)
    else Err (Kind (head_word sig) (type_number width)))
    else Err (Length (length sig) (signature_bytes width))

-- a refusal for the type, and not for the length
abbrev pub IsKind : OtsRefusal → Type 0
IsKind (Kind found expected) = Unit {0}
IsKind (Length have need) = ⊥
