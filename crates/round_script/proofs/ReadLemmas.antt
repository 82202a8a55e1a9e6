-- What is read as a script is one.
use Rattle.std.proofs.Common.{◌≡◌, ℕ, zero, suc, ◌+◌, ◌-◌, ◌*◌, ◌<◌, ◌≤◌, ◌^◌, ◌==◌, ◌&&◌, ◌||◌, Bool, true, false, not, List, [], ◌∷◌, ◌++◌, length, Option, Some, None, Result, Ok, Err, if◌then◌else◌, map, refl, sym, ap, subst, ◌∙◌, arith}
use Rattle.std.specs.Prelude.{IfOk, option_map, option_and_then, bytes_eq, codes, nat_le, nat_lt}
use Rattle.std.specs.Bool.{then_some}
use Rattle.std.specs.List.{AllByRecursion, list_any}
use Rattle.std.specs.Result.{result_ok}
use Rattle.std.proofs.lemmas.Bool.{and_parts, leb-true}
use Rattle.hex.specs.Hex.{decode_of, decode_sized}
use Rattle.hex.proofs.HexLemmas.{decode_of-ok, decode_sized-ok, decode_sized-twice}
use Rattle.phase_message.specs.Shape.{Shape}
use Rattle.phase_message.specs.Stages.{is_slot}
use Rattle.phase_message.specs.declared.stage.Slot.{Slot}
use Rattle.wire_core.specs.Bytes.{IsBytes}
use Rattle.wire_core.specs.Reading.{Gives, Reading, reading_at, repeated, unless, ◌>>=◌}
use Rattle.wire_core.proofs.Readings.{bind_ok}
use Rattle.round_script.specs.declared.script.FaultLine.{FaultLine}
use Rattle.round_script.specs.declared.refusal.ScriptRefusal.{ScriptRefusal}
use Rattle.round_script.specs.declared.script.Script.{Script}
use Rattle.round_script.specs.declared.script.TheConstants.{MESSAGE_LIMIT}
use Rattle.round_script.specs.Fault.{fault_of_name}
use Rattle.round_script.specs.Forms.{behind_member, digit_of, drop_line, fault_line_of, is_message_length, is_upper_case, message_of, number_of, rank_of, repeat_of, seed_of, slot_dropped, slot_of_rank}
use Rattle.round_script.specs.Lines.{bad_line, behind, behind_line, line_of, listed, optional, optionals, value_or_none}
use Rattle.round_script.specs.Read.{Opening, drops_at, faults_at, further_of, message_at, message_in, opening_at, round_of, script_read, seed_in, shape_in, value_at, version_at}
use Rattle.round_script.specs.Script.{IsMessage, IsRepeat, IsScript, IsSlotOf, Rise, shape_of_script}
use Rattle.round_script.proofs.SpelledLemmas.{and_then_some, digit_is, map_some, number_is, value_at_is}

-- ---- answers

result_some : {A E : Type 0} (r : Result A E) (x : A) → result_ok r ≡ Some x → r ≡ Ok x
result_some (Ok y) x h = let h : Some y ≡ Some x = h in cc
result_some (Err e) x h = absurd cc

refused_some : {A : Type 0} (b : Bool) (o : Option A) (x : A) → (if b then None else o) ≡ Some x → o ≡ Some x
refused_some true o x h = absurd cc
refused_some false o x h = h

then_is : {A : Type 0} (b : Bool) (x y : A) → then_some b x ≡ Some y → (b ≡ true) × (x ≡ y)
then_is true x y h = (refl, (let h : Some x ≡ Some y = h in cc))
then_is false x y h = absurd cc

unless_is : {A E : Type 0} (b : Bool) (e : E) (x y : A) → unless b e x ≡ Ok y → x ≡ y
unless_is true e x y h = absurd cc
unless_is false e x y h = let h : Ok x ≡ Ok y = h in cc

-- ---- the lines that each script has

shape_is : (line : List ℕ) (shape : Shape) → shape_in line ≡ Some shape → (shape.version ≡ 1) × (2 ≤ shape.members) × (shape.members ≤ 8)
shape_is line shape e =
    let found = map_some (λ (members : ℕ). record { version = 1; members = members })
    (option_and_then (digit_of 2 8) (behind (codes "members ") line)) shape e in
    let digits = and_then_some (digit_of 2 8) (behind (codes "members ") line) found.0 found.1 in
    let digit = digit_is 2 8 digits.0 found.0 digits.2 in
    subst (λ (shape : Shape). (shape.version ≡ 1) × (2 ≤ shape.members) × (shape.members ≤ 8)) found.2 (refl, digit.1, digit.2)

round_is : (line : List ℕ) (n : ℕ) → round_of line ≡ Some n → (1 ≤ n) × (n < 2 ^ 64)
round_is line n e =
    let digits = and_then_some number_of (behind (codes "round ") line) n e in
    let number = number_is digits.0 n digits.2 in
    (number.1, number.2)

seed_is : (line seed : List ℕ) → seed_in line ≡ Some seed → (length seed ≡ 32) × IsBytes seed
unfolding seed_of
seed_is line seed e =
    let digits = and_then_some seed_of (behind (codes "seed ") line) seed e in
    let read = result_some (decode_sized digits.0 32) seed (refused_some (list_any is_upper_case digits.0)
    (result_ok (decode_sized digits.0 32)) seed digits.2) in
    let size = decode_sized-ok digits.0 32 seed read in
    let parts = decode_of-ok digits.0 seed (sym (decode_sized-twice digits.0 32 size) ∙ read) in
    (omega (arith, size, parts.2), parts.3)

message_of_is : (digits message : List ℕ) → message_of digits ≡ Some message → IsMessage message
unfolding message_of
message_of_is digits message e = go (bytes_eq digits (codes "-")) e
  where
    rest : Option (List ℕ)
    rest = if not (is_message_length (length digits)) || list_any is_upper_case digits then None else result_ok (decode_of digits)

    short : (a b : Bool) (o : Option (List ℕ)) → (if not a || b then None else o) ≡ Some message → (a ≡ true) × (o ≡ Some message)
    short true true o h = absurd cc
    short true false o h = (refl, h)
    short false b o h = absurd cc

    go : (b : Bool) → (if b then Some [] else rest) ≡ Some message → IsMessage message
    go true h =
        let none : [] ≡ message = (let h : Some [] ≡ Some message = h in cc) in
        subst IsMessage none (omega arith, λ i. omega arith)
    go false h =
        let found = short (is_message_length (length digits)) (list_any is_upper_case digits) (result_ok (decode_of digits)) h in
        let parts = decode_of-ok digits message (result_some (decode_of digits) message found.1) in
        let lengths = and_parts (nat_lt 0 (length digits)) (nat_le (length digits) (2 * MESSAGE_LIMIT)) found.0 in
        let most : length digits ≤ 2 * MESSAGE_LIMIT = leb-true (length digits) (2 * MESSAGE_LIMIT) lengths.1 in
        (omega (arith, most, parts.2), parts.3)

message_is : (r : Reading) (x : List ℕ × Reading) → message_at r ≡ Ok x → IsMessage x.0
message_is r x e =
    let value = value_at_is (message_in (r.place - 4)) r x e in
    let digits = and_then_some message_of (behind_member (codes "message ") (r.place - 4) value.0) x.0 value.1 in
    message_of_is digits.0 x.0 digits.2

-- all that is read so often is of one kind
repeated_all : {A E : Type 0} (Good : A → Type 0) (read : Reading → Result (A × Reading) E)
    → ((r : Reading) (x : A × Reading) → read r ≡ Ok x → Good x.0)
    → (n : ℕ) (r : Reading) (x : List A × Reading) → repeated n read r ≡ Ok x → AllByRecursion Good x.0 × (length x.0 ≡ n)
unfolding repeated
repeated_all {A} {E} Good read each zero r x e =
    let same : ([], r) ≡ x = (let e : Ok ([], r) ≡ Ok x = e in cc) in
    subst (λ (x : List A × Reading). AllByRecursion Good x.0 × (length x.0 ≡ 0)) same (tt {0}, refl)
repeated_all {A} {E} Good read each (suc n) r x e =
    let first = bind_ok (read r) (λ first. repeated n read first.1 >>= λ others. Ok (first.0 ∷ others.0, others.1)) x e in
    let others = bind_ok (repeated n read first.0.1) (λ others. Ok (first.0.0 ∷ others.0, others.1)) x first.2 in
    let same : (first.0.0 ∷ others.0.0, others.0.1) ≡ x = (let e : Ok (first.0.0 ∷ others.0.0, others.0.1) ≡ Ok x = others.2 in cc) in
    let more = repeated_all Good read each n first.0.1 others.0 others.1 in
    subst (λ (x : List A × Reading). AllByRecursion Good x.0 × (length x.0 ≡ suc n)) same
    ((each r first.0 first.1, more.0), omega (arith, more.1))

-- ---- the lines that may be missing

optional_is : {A : Type 0} (before : Reading) (o : Option (A × Reading)) (x : A) → (value_or_none before o).0 ≡ Some x → (y : A × Reading)
    × (o ≡ Some y) × (y.0 ≡ x)
optional_is before (Some y) x h = (y, refl, (let h : Some y.0 ≡ Some x = h in cc))
optional_is before None x h = absurd cc

-- a value is that of a line by the form
pub optional_form : {A : Type 0} (form : List ℕ → Option A) (r : Reading) (x : A) → (optional form r).0 ≡ Some x → (line : List ℕ)
    × (form line ≡ Some x)
unfolding optional
optional_form {A} form r x h =
    let y = optional_is r (option_and_then (λ line. option_map (λ x. (x, behind_line line r)) (form line)) (line_of r.rest)) x h in
    let line = and_then_some (λ line. option_map (λ x. (x, behind_line line r)) (form line)) (line_of r.rest) y.0 y.1 in
    let value = map_some (λ x. (x, behind_line line.0 r)) (form line.0) y.0 line.2 in
    (line.0, value.1 ∙ ap Some (ap (λ (p : A × Reading). p.0) value.2 ∙ y.2))

-- what rises from a number on rises from a lesser one on
rise_from : (a b bound : ℕ) (xs : List ℕ) → a ≤ b → Rise b bound xs → Rise a bound xs
rise_from a b bound [] le rise = tt {0}
rise_from a b bound (x ∷ xs) le rise = (omega (arith, rise.0), rise.1, rise.2)

-- one value before others
one_more : {A : Type 0} (key : A → ℕ) (Good : A → Type 0) (first bound : ℕ) (one : Option A) (others : List A)
    → ((x : A) → one ≡ Some x → (key x ≡ first) × Good x) → first < bound
    → Rise (first + 1) bound (map key others) × AllByRecursion Good others
    → Rise first bound (map key (listed one ++ others)) × AllByRecursion Good (listed one ++ others)
one_more key Good first bound (Some x) others is below rest =
    let here = is x refl in (
      (omega (arith, here.0), omega (arith, here.0), subst (λ (n : ℕ). Rise (n + 1) bound (map key others)) (sym here.0) rest.0),
      (here.1, rest.1),
    )
one_more key Good first bound None others is below rest = (rise_from first (first + 1) bound (map key others) (omega arith) rest.0, rest.1)

-- the values of lines that may be missing rise as their forms do
optionals_rise : {A : Type 0} (form : ℕ → List ℕ → Option A) (key : A → ℕ) (Good : A → Type 0)
    → ((k : ℕ) (line : List ℕ) (x : A) → form k line ≡ Some x → (key x ≡ k) × Good x)
    → (first count bound : ℕ) (r : Reading) → first + count ≡ bound
    → Rise first bound (map key (optionals form first count r).0) × AllByRecursion Good (optionals form first count r).0
unfolding optionals
optionals_rise form key Good each first zero bound r ends = (tt {0}, tt {0})
optionals_rise {A} form key Good each first (suc count) bound r ends =
    let after = (optional (form first) r).1 in
    one_more key Good first bound (optional (form first) r).0 (optionals form (first + 1) count after).0
    (λ x h. let line = optional_form (form first) r x h in each first line.0 x line.1)
    (omega arith)
    (optionals_rise form key Good each (first + 1) count bound after (omega arith))

fault_is : (k : ℕ) (line : List ℕ) (x : FaultLine) → fault_line_of k line ≡ Some x → (x.member ≡ k) × Unit {0}
unfolding fault_line_of
fault_is k line x e =
    let found = map_some (λ fault. record { member = k; fault = fault })
    (option_and_then fault_of_name (behind_member (codes "fault ") k line)) x e in
    (sym (ap (λ (x : FaultLine). x.member) found.2), tt {0})

drop_is : (shape : Shape) (k : ℕ) (line : List ℕ) (x : Slot) → slot_dropped shape k line ≡ Some x → (rank_of x ≡ k) × IsSlotOf shape x
unfolding slot_dropped
drop_is shape k line x e =
    let slot = slot_of_rank k in
    let found = then_is (is_slot shape slot.stage slot.sender && bytes_eq line (drop_line slot.stage slot.sender)) slot x e in
    let parts = and_parts (is_slot shape slot.stage slot.sender) (bytes_eq line (drop_line slot.stage slot.sender)) found.0 in
    subst (λ (x : Slot). (rank_of x ≡ k) × IsSlotOf shape x) found.1 (omega arith, parts.0)

repeat_is : (o : Option ℕ) → ((x : ℕ) → o ≡ Some x → (line : List ℕ) × (repeat_of line ≡ Some x)) → IsRepeat o
unfolding repeat_of
repeat_is None is = tt {0}
repeat_is (Some x) is =
    let line = is x refl in
    let digits = and_then_some (digit_of 1 9) (behind (codes "repeat ") line.0) x line.1 in
    let digit = digit_is 1 9 digits.0 x digits.2 in
    (digit.1, digit.2)

-- ---- a script

-- what the lines say that each script has
pub record IsOpening (opening : Opening) : Type 0 where
  version : opening.shape.version ≡ 1
  least : 2 ≤ opening.shape.members
  most : opening.shape.members ≤ 8
  round_least : 1 ≤ opening.round
  round_most : opening.round < 2 ^ 64
  seed : length opening.seed ≡ 32
  seed_bytes : IsBytes opening.seed
  messages : AllByRecursion IsMessage opening.messages
  count : length opening.messages ≡ opening.shape.members

pub opening_is : (r : Reading) (x : Opening × Reading) → opening_at r ≡ Ok x → IsOpening x.0
unfolding opening_at
opening_is r x e =
    let begun = bind_ok (version_at r) (λ begun. value_at shape_in begun >>= λ shape. value_at round_of shape.1 >>= λ round. value_at
    seed_in round.1 >>= λ seed. repeated shape.0.members message_at seed.1 >>= λ messages. Ok
    (made shape.0 round.0 seed.0 messages.0, messages.1)) x e in
    let shape = bind_ok (value_at shape_in begun.0) (λ shape. value_at round_of shape.1 >>= λ round. value_at seed_in round.1 >>= λ seed.
    repeated shape.0.members message_at seed.1 >>= λ messages. Ok (made shape.0 round.0 seed.0 messages.0, messages.1)) x begun.2 in
    let round = bind_ok (value_at round_of shape.0.1) (λ round. value_at seed_in round.1 >>= λ seed. repeated shape.0.0.members message_at
    seed.1 >>= λ messages. Ok (made shape.0.0 round.0 seed.0 messages.0, messages.1)) x shape.2 in
    let seed = bind_ok (value_at seed_in round.0.1) (λ seed. repeated shape.0.0.members message_at seed.1 >>= λ messages. Ok
    (made shape.0.0 round.0.0 seed.0 messages.0, messages.1)) x round.2 in
    let messages = bind_ok (repeated shape.0.0.members message_at seed.0.1)
    (λ messages. Ok (made shape.0.0 round.0.0 seed.0.0 messages.0, messages.1)) x seed.2 in
    let same : (made shape.0.0 round.0.0 seed.0.0 messages.0.0, messages.0.1) ≡ x =
    (let e : Ok (made shape.0.0 round.0.0 seed.0.0 messages.0.0, messages.0.1) ≡ Ok x = messages.2 in cc) in
    let shape_line = value_at_is shape_in begun.0 shape.0 shape.1 in
    let round_line = value_at_is round_of shape.0.1 round.0 round.1 in
    let seed_line = value_at_is seed_in round.0.1 seed.0 seed.1 in
    let sizes = shape_is shape_line.0 shape.0.0 shape_line.1 in
    let rounds = round_is round_line.0 round.0.0 round_line.1 in
    let seeds = seed_is seed_line.0 seed.0.0 seed_line.1 in
    let all = repeated_all IsMessage message_at message_is shape.0.0.members seed.0.1 messages.0 messages.1 in
    subst (λ (x : Opening × Reading). IsOpening x.0) same (record {
      version = sizes.0;
      least = sizes.1;
      most = sizes.2;
      round_least = rounds.0;
      round_most = rounds.1;
      seed = seeds.0;
      seed_bytes = seeds.1;
      messages = all.0;
      count = all.1;
    })
  where
    made : Shape → ℕ → List ℕ → List (List ℕ) → Opening
    made shape round seed messages = record { shape = shape; round = round; seed = seed; messages = messages }

pub further_is : (opening : Opening) (before : Reading) (script : Script) → IsOpening opening → further_of opening before ≡ Ok script
    → IsScript script
unfolding further_of
further_is opening before script is e =
    let faults = faults_at opening.shape.members before in
    let drops = drops_at opening.shape faults.1 in
    let repeat = optional repeat_of drops.1 in
    let made : Script = record {
      version = 1;
      round = opening.round;
      seed = opening.seed;
      messages = opening.messages;
      faults = faults.0;
      drops = drops.0;
      repeat = repeat.0;
    } in
    let same : made ≡ script = unless_is (not (length repeat.1.rest == 0)) repeat.1.place made script e in
    let rising_faults = optionals_rise fault_line_of (λ line. line.member) (λ line. Unit {0}) fault_is 1 opening.shape.members
    (opening.shape.members + 1) before (omega arith) in
    let rising_drops = optionals_rise (slot_dropped opening.shape) rank_of (IsSlotOf opening.shape) (drop_is opening.shape) 0
    (8 * (2 * opening.shape.members + 10)) (8 * (2 * opening.shape.members + 10)) faults.1 (omega arith) in
    let shape : opening.shape ≡ shape_of_script made = (let version = is.version in let count = is.count in λ i. record
    { version = version i; members = sym count i }) in
    subst IsScript same (record {
      version = refl;
      least = omega (arith, is.least, is.count);
      most = omega (arith, is.most, is.count);
      round_least = is.round_least;
      round_most = is.round_most;
      seed = is.seed;
      seed_bytes = is.seed_bytes;
      messages = is.messages;
      faults = subst (λ (n : ℕ). Rise 1 (n + 1) (map (λ (line : FaultLine). line.member) faults.0)) (sym is.count) rising_faults.0;
      drops = subst (λ (shape : Shape). AllByRecursion (IsSlotOf shape) drops.0) shape rising_drops.1;
      order = subst (λ (n : ℕ). Rise 0 (8 * (2 * n + 10)) (map rank_of drops.0)) (sym is.count) rising_drops.0;
      repeat = repeat_is repeat.0 (λ x h. optional_form repeat_of drops.1 x h);
    })

-- what is read as a script is one
pub read_is : (bytes : List ℕ) (script : Script) → script_read bytes ≡ Ok script → IsScript script
unfolding script_read
read_is bytes script e =
    let opening = bind_ok (opening_at (reading_at 1 bytes)) (λ opening. further_of opening.0 opening.1) script e in
    further_is opening.0.0 opening.0.1 script (opening_is (reading_at 1 bytes) opening.0 opening.1) opening.2

-- of a call that gives what is read, what it returned is a script
pub found_of : (result : Result Script ScriptRefusal) (expected : Result Script ℕ)
    → ((script : Script) → expected ≡ Ok script → IsScript script)
    → Gives bad_line (λ script. script) result expected → IfOk result (λ script. IsScript script)
found_of (Ok script) expected each gives = each script gives
found_of (Err refusal) expected each gives = tt {0}
