-- What is listed of one more member, and the lines of slots one by one.
use Rattle.std.proofs.Common.{◌≡◌, ℕ, zero, suc, ◌+◌, ◌-◌, ◌<◌, ◌≤◌, List, [], ◌∷◌, ◌++◌, length, drop, take, get_or, ap, sym, ◌∙◌, refl, arith, append_assoc, append-nil}
use Rattle.std.specs.List.{flat_map, range_with_len, sum_by}
use Rattle.std.proofs.lemmas.Grind.{flat_map-append}
use Rattle.std.proofs.lemmas.List.{drop_all, take_all}
use Rattle.std.proofs.lemmas.List.Sums.{sum_by_more}
use Rattle.bulk_descriptor.specs.declared.slot_state.SlotState.{SlotState}
use Rattle.group_report.specs.Report.{listed, listed_to, message_size, slot_line, slot_lines}

range-more : (first count : ℕ) → range_with_len first (suc count) ≡ range_with_len first count ++ (first + count) ∷ []
range-more first zero = let same : first ≡ first + 0 = omega arith in ap (λ (n : ℕ). n ∷ []) same
range-more first (suc count) =
    let next : first + 1 + count ≡ first + suc count = omega arith in
    ap (λ (r : List ℕ). first ∷ r) (range-more (first + 1) count)
    ∙ ap (λ (n : ℕ). first ∷ (range_with_len (first + 1) count ++ n ∷ [])) next

-- nobody is listed yet
pub listed-none : (bits : ℕ) → listed_to bits 0 ≡ []
unfolding listed_to
listed-none bits = refl

pub listed-more : (bits count : ℕ) → listed_to bits (suc count) ≡ listed_to bits count ++ listed bits (1 + count)
unfolding listed_to
listed-more bits count =
    ap (flat_map (listed bits)) (range-more 1 count)
    ∙ flat_map-append (listed bits) (range_with_len 1 count) ((1 + count) ∷ [])
    ∙ ap (λ (s : List ℕ). flat_map (listed bits) (range_with_len 1 count) ++ s) (append-nil (listed bits (1 + count)))

-- no slot is left
pub lines-none : (number : ℕ) → slot_lines number [] ≡ []
unfolding slot_lines
lines-none number = refl

-- the lines of the slots from a place on
pub lines-from : (number place : ℕ) (slots : List SlotState) (d : SlotState) → place < length slots →
    slot_lines number (drop place slots) ≡ slot_line number (get_or slots place d) ++ slot_lines (number + 1) (drop (place + 1) slots)
unfolding slot_lines
lines-from number place [] d lt = absurd (omega arith)
lines-from number zero (slot ∷ slots) d lt = refl
lines-from number (suc place) (slot ∷ slots) d lt =
    let next : suc place + 1 ≡ suc (place + 1) = omega arith in
    lines-from number place slots d (omega (arith, lt))
    ∙ ap (λ (n : ℕ). slot_line number (get_or slots place d) ++ slot_lines (number + 1) (drop n (slot ∷ slots))) (sym next)

pub listed-next : (bits member : ℕ) (before after : List ℕ) → 1 ≤ member → before ≡ listed_to bits (member - 1) →
    after ≡ before ++ listed bits member → after ≡ listed_to bits (member + 1 - 1)
listed-next bits member before after least so_far made =
    let place : member ≡ 1 + (member - 1) = omega (arith, least) in
    let next : suc (member - 1) ≡ member + 1 - 1 = omega (arith, least) in
    made
    ∙ ap (λ (b : List ℕ). b ++ listed bits member) so_far
    ∙ ap (λ (n : ℕ). listed_to bits (member - 1) ++ listed bits n) place
    ∙ sym (listed-more bits (member - 1))
    ∙ ap (λ (n : ℕ). listed_to bits n) next

-- with the line of one slot more
pub lines-next : (text after whole : List ℕ) (place : ℕ) (slots : List SlotState) (slot : SlotState) → place < length slots →
    after ≡ text ++ slot_line (place + 1) slot → slot ≡ get_or slots place slot →
    text ++ slot_lines (place + 1) (drop place slots) ≡ whole → after ++ slot_lines (place + 1 + 1) (drop (place + 1) slots) ≡ whole
lines-next text after whole place slots slot lt made read so_far =
    let rest : List ℕ = slot_lines (place + 1 + 1) (drop (place + 1) slots) in
    ap (λ (a : List ℕ). a ++ rest) made
    ∙ append_assoc text (slot_line (place + 1) slot) rest
    ∙ ap (λ (s : SlotState). text ++ (slot_line (place + 1) s ++ rest)) read
    ∙ ap (λ (lines : List ℕ). text ++ lines) (sym (lines-from (place + 1) place slots slot lt))
    ∙ so_far

-- behind the last slot
pub lines-end : (text whole : List ℕ) (place : ℕ) (slots : List SlotState) → length slots ≤ place →
    text ++ slot_lines (place + 1) (drop place slots) ≡ whole → text ≡ whole
lines-end text whole place slots past so_far =
    sym (append-nil text)
    ∙ ap (λ (lines : List ℕ). text ++ lines) (sym (lines-none (place + 1)))
    ∙ ap (λ (left : List SlotState). text ++ slot_lines (place + 1) left) (sym (drop_all place slots past))
    ∙ so_far

-- with the size of one message more
pub size-more : (slots : List SlotState) (place : ℕ) (slot : SlotState) (size more sum : ℕ) → place < length slots
    → slot ≡ get_or slots place slot →
    more ≡ message_size slot → sum ≡ size + more → size ≡ sum_by message_size (take place slots)
    → sum ≡ sum_by message_size (take (place + 1) slots)
size-more slots place slot size more sum lt read is added so_far =
    let next = sum_by_more message_size slots place slot lt in
    let here : more ≡ message_size (get_or slots place slot) = is ∙ ap message_size read in
    omega (arith, next, here, added, so_far)

-- behind the last slot
pub size-all : (slots : List SlotState) (place size : ℕ) → length slots ≤ place → size ≡ sum_by message_size (take place slots) →
    size ≡ sum_by message_size slots
size-all slots place size past so_far = so_far ∙ ap (λ (s : List SlotState). sum_by message_size s) (take_all place slots past)
