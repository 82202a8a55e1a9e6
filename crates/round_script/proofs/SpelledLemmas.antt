-- What is read of lines is what they spell, and what is read as a script is one.
use Rattle.std.proofs.Common.{◌≡◌, ℕ, zero, suc, ◌+◌, ◌-◌, ◌<◌, ◌≤◌, ◌^◌, ◌&&◌, Bool, true, false, nat_lt, List, [], ◌∷◌, ◌++◌, length, take, drop, Option, Some, None, Ok, if◌then◌else◌, refl, sym, ap, subst, rules, ◌∙◌, arith}
use Rattle.std.specs.Prelude.{slice_index, option_map, option_and_then, bytes_eq, nat_le}
use Rattle.std.specs.Option.{ok_or}
use Rattle.std.specs.Fmt.{decimal}
use Rattle.std.specs.Str.{all_ascii_digits}
use Rattle.std.specs.Str.Parse.{digits_value}
use Rattle.std.proofs.lemmas.Bool.{and_parts, ltb-true, leb-true}
use Rattle.std.proofs.lemmas.Fmt.{decimal_digit, decimal-digits_value}
use Rattle.std.proofs.lemmas.List.{append_assoc, take-append-drop}
use Rattle.std.proofs.Math.Seq.{drop-append-add}
use Rattle.wire_core.specs.Reading.{Reading, ◌>>=◌}
use Rattle.wire_core.proofs.Readings.{bind_ok}
use Rattle.round_script.specs.Forms.{digit_of, number_of}
use Rattle.round_script.specs.Lines.{behind, behind_line, ended, line_at, line_of}
use Rattle.round_script.specs.Read.{value_at}
use Rattle.round_script.proofs.LineLemmas.{line_of_parts}
use Rattle.round_script.proofs.NumberLemmas.{own, not_empty}

-- ---- answers

ok_or_ok : {A E : Type 0} (o : Option A) (e : E) (x : A) → ok_or o e ≡ Ok x → o ≡ Some x
ok_or_ok (Some y) e x h = let h : Ok y ≡ Ok x = h in cc
ok_or_ok None e x h = absurd cc

pub map_some : {A B : Type 0} (f : A → B) (o : Option A) (y : B) → option_map f o ≡ Some y → (x : A) × (o ≡ Some x) × (f x ≡ y)
map_some f (Some x) y h = (x, refl, (let h : Some (f x) ≡ Some y = h in cc))
map_some f None y h = absurd cc

pub and_then_some : {A B : Type 0} (f : A → Option B) (o : Option A) (y : B) → option_and_then f o ≡ Some y → (x : A) × (o ≡ Some x)
    × (f x ≡ Some y)
and_then_some f (Some x) y h = (x, refl, h)
and_then_some f None y h = absurd cc

pub chosen_some : {A : Type 0} (b : Bool) (x y : A) → (if b then Some x else None) ≡ Some y → (b ≡ true) × (x ≡ y)
chosen_some true x y h = (refl, (let h : Some x ≡ Some y = h in cc))
chosen_some false x y h = absurd cc

-- ---- lines

-- a text begins with its first line and a line feed, and the rest is what follows
line_before : (text line : List ℕ) → line_of text ≡ Some line → text ≡ ended line ++ drop (length line + 1) text
line_before text line e =
    let parts = line_of_parts text line e in
    let tail : drop (length line + 1) text ≡ parts.0 = ap (drop (length line + 1)) parts.1 ∙ drop-append-add line (10 ∷ parts.0) 1 in
    parts.1 ∙ sym (append_assoc line (10 ∷ []) parts.0) ∙ ap (λ (rest : List ℕ). ended line ++ rest) (sym tail)

-- a line that is read is followed by a line feed and what is to come, and the next line has the next number
pub line_at_is : (r : Reading) (x : List ℕ × Reading) → line_at r ≡ Ok x → (r.rest ≡ ended x.0 ++ x.1.rest) × (x.1.place ≡ r.place + 1)
unfolding line_at
line_at_is r x e =
    let found = ok_or_ok (option_map (λ line. (line, behind_line line r)) (line_of r.rest)) r.place x e in
    let line = map_some (λ line. (line, behind_line line r)) (line_of r.rest) x found in
    subst (λ (x : List ℕ × Reading). (r.rest ≡ ended x.0 ++ x.1.rest) × (x.1.place ≡ r.place + 1)) line.2
    (line_before r.rest line.0 line.1, refl)

-- a value that is read of a line is that of the line by its form
pub value_at_is : {A : Type 0} (form : List ℕ → Option A) (r : Reading) (x : A × Reading) → value_at form r ≡ Ok x
    → (line : List ℕ) × (form line ≡ Some x.0) × (r.rest ≡ ended line ++ x.1.rest) × (x.1.place ≡ r.place + 1)
unfolding value_at
value_at_is {A} form r x e =
    let line = bind_ok (line_at r) (λ line. ok_or (form line.0) r.place >>= λ value. Ok (value, line.1)) x e in
    let value = bind_ok (ok_or (form line.0.0) r.place) (λ value. Ok (value, line.0.1)) x line.2 in
    let same : (value.0, line.0.1) ≡ x = (let h : Ok (value.0, line.0.1) ≡ Ok x = value.2 in cc) in
    let is = line_at_is r line.0 line.1 in
    subst (λ (x : A × Reading). (line : List ℕ) × (form line ≡ Some x.0) × (r.rest ≡ ended line ++ x.1.rest) × (x.1.place ≡ r.place + 1))
    same
    (line.0.0, ok_or_ok (form line.0.0) r.place value.0 value.1, is.0, is.1)

-- ---- forms

-- what follows a front
pub behind_is : (front line rest : List ℕ) → behind front line ≡ Some rest → line ≡ front ++ rest
unfolding behind
behind_is front line rest e =
    let found = chosen_some (nat_le (length front) (length line) && bytes_eq (take (length front) line) front) (drop (length front) line)
    rest e in
    let parts = and_parts (nat_le (length front) (length line)) (bytes_eq (take (length front) line) front) found.0 in
    let begins : take (length front) line ≡ front = same_bytes (take (length front) line) front parts.1 in
    sym (take-append-drop (length front) line) ∙ ap (λ (xs : List ℕ). xs ++ drop (length front) line) begins
    ∙ ap (λ (ys : List ℕ). front ++ ys) found.1
  where
    same_bytes : (xs ys : List ℕ) → bytes_eq xs ys ≡ true → xs ≡ ys
    same_bytes xs ys h = search rules

-- one digit
pub digit_is : (least most : ℕ) (digits : List ℕ) (n : ℕ) → digit_of least most digits ≡ Some n → (digits ≡ (48 + n) ∷ []) × (least ≤ n)
    × (n ≤ most)
digit_is least most [] n e = absurd cc
digit_is least most (digit ∷ []) n e =
    let found = chosen_some (nat_le (48 + least) digit && nat_le digit (48 + most)) (digit - 48) n e in
    let parts = and_parts (nat_le (48 + least) digit) (nat_le digit (48 + most)) found.0 in
    let low : 48 + least ≤ digit = leb-true _ _ parts.0 in
    let high : digit ≤ 48 + most = leb-true _ _ parts.1 in
    let value : digit ≡ 48 + n = omega (arith, found.1) in
    (ap (λ (d : ℕ). d ∷ []) value, omega arith, omega arith)
digit_is least most (digit ∷ other ∷ digits) n e = absurd cc

-- a number whose first digit is not 0 is positive
positive : (digits : List ℕ) (n : ℕ) → digits ≡ decimal n → 48 < slice_index digits 0 → 1 ≤ n
positive digits zero e high =
    let zero_digit : digits ≡ (48 + 0) ∷ [] = e ∙ decimal_digit 0 (omega arith) in
    let first : slice_index digits 0 ≡ 48 + 0 = ap (λ (ds : List ℕ). slice_index ds 0) zero_digit in
    absurd (omega (arith, first, high))
positive digits (suc n) e high = omega arith

-- a number
pub number_is : (digits : List ℕ) (n : ℕ) → number_of digits ≡ Some n → (digits ≡ decimal n) × (1 ≤ n) × (n < 2 ^ 64)
unfolding number_of
number_is digits n e =
    let found = chosen_some (nat_lt 48 (slice_index digits 0) && all_ascii_digits digits && nat_lt (digits_value 10 digits) (2 ^ 64))
    (digits_value 10 digits) n e in
    let parts = and_parts (nat_lt 48 (slice_index digits 0) && all_ascii_digits digits) (nat_lt (digits_value 10 digits) (2 ^ 64)) found.0
    in
    let front = and_parts (nat_lt 48 (slice_index digits 0)) (all_ascii_digits digits) parts.0 in
    let high : 48 < slice_index digits 0 = ltb-true _ _ front.0 in
    let below : digits_value 10 digits < 2 ^ 64 = ltb-true _ _ parts.1 in
    let text = decimal-digits_value own digits front.1 (not_empty digits high) (λ zero_first. absurd (omega (arith, zero_first))) below in
    let same : digits ≡ decimal n = sym text ∙ ap decimal found.1 in
    (same, positive digits n same high, subst (λ (m : ℕ). m < 2 ^ 64) found.1 below)
