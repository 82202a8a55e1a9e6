-- Numbers in strings: what is spelled is read, and what is read was spelled.
use Rattle.std.proofs.Common.{◌≡◌, ℕ, ◌<◌, ◌≤◌, ◌^◌, List, ◌++◌, length, take, get_or, refl, arith}
use Rattle.std.proofs.lemmas.List.{get_or-take, get_or_past, length-take-le}
use Rattle.std.proofs.lemmas.Nat.{be_bytes_4, from_be_bytes-to_be_bytes_4}
use Rattle.lm_ots.specs.OneTime.{head_word, u16str, u32str}

pub length-u16str : (n : ℕ) → length (u16str n) ≡ 2
unfolding u16str
length-u16str n = refl

pub length-u32str : (n : ℕ) → length (u32str n) ≡ 4
unfolding u32str
length-u32str n = refl

-- the word at the head of a string that begins with a number
pub head_word-u32str : (n : ℕ) (rest : List ℕ) → n < 2 ^ 32 → head_word (u32str n ++ rest) ≡ n
unfolding u32str head_word
head_word-u32str n rest small = from_be_bytes-to_be_bytes_4 n small

-- a string begins with the number at its head
pub u32str-head_word : (s : List ℕ) → 4 ≤ length s → ((i : ℕ) → get_or s i 0 < 256)
    → u32str (head_word s) ≡ take 4 s
unfolding u32str head_word
u32str-head_word s long bytes =
    be_bytes_4 (take 4 s) _ (length-take-le 4 s long) (taken s long bytes) refl
  where
    taken : (s : List ℕ) → 4 ≤ length s → ((i : ℕ) → get_or s i 0 < 256) → (i : ℕ) → get_or (take 4 s) i 0 < 256
    taken s long bytes i = grind (arith, get_or-take, get_or_past, length-take-le, bytes i)

-- a number is read where its bytes stand
pub head_word-take : (s : List ℕ) (n : ℕ) → n < 2 ^ 32 → take 4 s ≡ u32str n → head_word s ≡ n
unfolding u32str head_word
head_word-take s n small is_word = rw is_word (from_be_bytes-to_be_bytes_4 n small)
