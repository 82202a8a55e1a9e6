-- What a word of digits spells.
use Rattle.std.proofs.Common.{◌≡◌, ℕ, ◌<◌, ◌^◌, Bool, true, false, ◌&&◌, nat_lt, List, [], ◌∷◌, length, get_or, Some, None, Result, Ok, Err, if◌then◌else◌, refl, sym, ap, ◌∙◌, arith, codes}
use Rattle.std.specs.Prelude.{slice_index, bytes_eq, Option}
use Rattle.std.specs.Result.{OkIff, result_ok}
use Rattle.std.specs.Str.{all_ascii_digits}
use Rattle.std.specs.Str.Parse.{digits_value, ParsesUnsigned}
use Rattle.std.proofs.lemmas.Bool.{ltb-true, lt-ltb}
use Rattle.std.proofs.lemmas.Slice.Eq.{bytes_eq-Decides}
use Rattle.std.proofs.lemmas.Str.Parse.{IsNumeralModel, numerals_by_value, tells_all_ascii_digits, parse_plain}
use Rattle.dissent_words.specs.Numbers.{number_of}

own : IsNumeralModel (λ ds. all_ascii_digits ds ≡ true) (digits_value 10)
own = numerals_by_value _ tells_all_ascii_digits

-- the number of a word whose first digit is not 0
abbrev number_from_1 : List ℕ → Option ℕ
number_from_1 word =
    if nat_lt 48 (slice_index word 0) && all_ascii_digits word && nat_lt (digits_value 10 word) (2 ^ 64)
    then Some (digits_value 10 word) else None

all_hold : (a b c : Bool) (n : ℕ) → a ≡ true → b ≡ true → c ≡ true → (if a && b && c then Some n else None) ≡ Some n
all_hold a b c n ea eb ec = rw (ea, eb, ec) refl

one_fails : (a b c : Bool) (n : ℕ) → (a ≡ true → b ≡ true → c ≡ true → ⊥) → (if a && b && c then Some n else None) ≡ None
one_fails true true true n never = absurd (never refl refl refl)
one_fails false b c n never = refl
one_fails true false c n never = refl
one_fails true true false n never = refl

not_empty : (text : List ℕ) → 48 < get_or text 0 0 → 0 < length text
not_empty [] first = absurd (omega arith)
not_empty (x ∷ xs) first = omega arith

number_found : (E : Type 0) (text : List ℕ) (read : Result ℕ E) → 48 < get_or text 0 0
    → OkIff read ((all_ascii_digits text ≡ true) × (0 < length text) × (digits_value 10 text < 2 ^ 64)) (digits_value 10 text)
    → result_ok read ≡ number_from_1 text
number_found E text (Ok n) first ((digits, more, below), is) =
    ap Some is ∙ sym (all_hold (nat_lt 48 (slice_index text 0)) (all_ascii_digits text) (nat_lt (digits_value 10 text) (2 ^ 64))
    (digits_value 10 text)
    (lt-ltb _ _ first) digits (lt-ltb _ _ below))
number_found E text (Err e) first never =
    sym (one_fails (nat_lt 48 (slice_index text 0)) (all_ascii_digits text) (nat_lt (digits_value 10 text) (2 ^ 64)) (digits_value 10 text)
    (λ _ digits below. never (digits, not_empty text first, ltb-true _ _ below)))

not_zero : (text : List ℕ) → 48 < get_or text 0 0 → bytes_eq text (codes "0") ≡ false
not_zero text first = go (bytes_eq text (codes "0")) refl
  where
    go : (b : Bool) → bytes_eq text (codes "0") ≡ b → b ≡ false
    go false e = refl
    go true e =
        let is : get_or text 0 0 ≡ 48 = ap (λ t. get_or t 0 0) ((bytes_eq-Decides text (codes "0")).0 e) in
        absurd (omega (arith, is, first))

-- a text that does not begin with a sign or 0 is read as its number
pub number_read : {E : Type 0} (text : List ℕ) (read : Result ℕ E) → 48 < get_or text 0 0 → ParsesUnsigned 64 10 text read
    → result_ok read ≡ number_of text
number_read {E} text read first parses =
    number_found E text read first (parse_plain own 64 text read parses (λ plus. absurd (omega arith)))
    ∙ sym (ap (λ b. if b then Some 0 else number_from_1 text) (not_zero text first))
