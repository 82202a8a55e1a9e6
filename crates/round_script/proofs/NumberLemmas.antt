-- Decimal digits that spell a number.
use Rattle.std.proofs.Common.{◌≡◌, ℕ, ◌<◌, ◌^◌, Bool, true, false, ◌&&◌, nat_lt, List, [], ◌∷◌, length, get_or, Some, None, Result, Ok, Err, if◌then◌else◌, refl, sym, ap, ◌∙◌, arith}
use Rattle.std.specs.Prelude.{slice_index}
use Rattle.std.specs.Result.{OkIff, result_ok}
use Rattle.std.specs.Str.{all_ascii_digits, IsAscii, IsUtf8}
use Rattle.std.specs.Str.Parse.{digits_value, ParsesUnsigned}
use Rattle.std.proofs.lemmas.Bool.{ltb-true, lt-ltb}
use Rattle.std.proofs.lemmas.Str.{IsUtf8-from_ascii}
use Rattle.std.proofs.lemmas.Str.Ascii.{IsAscii-nil, IsAscii-cons}
use Rattle.std.proofs.lemmas.Str.Parse.{IsNumeralModel, numerals_by_value, tells_all_ascii_digits, parse_plain}
use Rattle.round_script.specs.Forms.{number_of}

pub own : IsNumeralModel (λ ds. all_ascii_digits ds ≡ true) (digits_value 10)
own = numerals_by_value _ tells_all_ascii_digits

all_hold : (a b c : Bool) (n : ℕ) → a ≡ true → b ≡ true → c ≡ true → (if a && b && c then Some n else None) ≡ Some n
all_hold a b c n ea eb ec = rw (ea, eb, ec) refl

one_fails : (a b c : Bool) (n : ℕ) → (a ≡ true → b ≡ true → c ≡ true → ⊥) → (if a && b && c then Some n else None) ≡ None
one_fails true true true n never = absurd (never refl refl refl)
one_fails false b c n never = refl
one_fails true false c n never = refl
one_fails true true false n never = refl

pub not_empty : (text : List ℕ) → 48 < get_or text 0 0 → 0 < length text
not_empty [] first = absurd (omega arith)
not_empty (x ∷ xs) first = omega arith

number_found : (E : Type 0) (text : List ℕ) (read : Result ℕ E) → 48 < get_or text 0 0
    → OkIff read ((all_ascii_digits text ≡ true) × (0 < length text) × (digits_value 10 text < 2 ^ 64)) (digits_value 10 text)
    → result_ok read ≡ number_of text
unfolding number_of
number_found E text (Ok n) first ((digits, more, below), is) =
    ap Some is ∙ sym (all_hold (nat_lt 48 (slice_index text 0)) (all_ascii_digits text) (nat_lt (digits_value 10 text) (2 ^ 64))
    (digits_value 10 text)
    (lt-ltb _ _ first) digits (lt-ltb _ _ below))
number_found E text (Err e) first never =
    sym (one_fails (nat_lt 48 (slice_index text 0)) (all_ascii_digits text) (nat_lt (digits_value 10 text) (2 ^ 64)) (digits_value 10 text)
    (λ _ digits below. never (digits, not_empty text first, ltb-true _ _ below)))

-- a text that does not begin with a sign or 0 is read as its number
pub number_read : {E : Type 0} (text : List ℕ) (read : Result ℕ E) → 48 < get_or text 0 0 → ParsesUnsigned 64 10 text read
    → result_ok read ≡ number_of text
number_read {E} text read first parses = number_found E text read first (parse_plain own 64 text read parses (λ plus. absurd (omega arith)))

-- digits are text
digits_ascii : (digits : List ℕ) → all_ascii_digits digits ≡ true → IsAscii digits
digits_ascii [] e = IsAscii-nil
digits_ascii (c ∷ cs) e =
    let parts = tells_all_ascii_digits.parts c cs e in
    IsAscii-cons c cs (omega (arith, parts.0)) (digits_ascii cs parts.1)

-- so bytes that are no text spell no number
pub number_of_no_text : (digits : List ℕ) → ¬ (IsUtf8 digits) → number_of digits ≡ None
unfolding number_of
number_of_no_text digits never =
    one_fails (nat_lt 48 (slice_index digits 0)) (all_ascii_digits digits) (nat_lt (digits_value 10 digits) (2 ^ 64))
    (digits_value 10 digits)
    (λ _ all _. never (IsUtf8-from_ascii digits (digits_ascii digits all)))
