-- That the line of an open round names exactly those that are missed.
use Rattle.std.proofs.Common.{◌≡◌, ℕ, zero, suc, ◌+◌, ◌-◌, ◌*◌, ◌/◌, ◌%◌, ◌^◌, ◌==◌, ◌<◌, ◌≤◌, List, [], ◌∷◌, ◌++◌, drop, ap, sym, ◌∙◌, refl, subst, arith, inl, inr}
use Rattle.std.specs.Prelude.{All, AllPairs, codes, decimal, if◌then◌else◌}
use Rattle.std.specs.List.{flat_map, range_with_len, sum_by}
use Rattle.std.proofs.Math.Nat.{div-div-eq-div-mul, pow-suc, pow-succ'}
use Rattle.std.proofs.lemmas.Bool.{cases_lt}
use Rattle.std.proofs.lemmas.Fmt.{decimal_digit}
use Rattle.std.proofs.lemmas.List.Sums.{sum_by-cons}
use Rattle.phase_message.proofs.SlotBounds.{slot-bounds}
use Rattle.round_spec.specs.Say.{shape_in}
use Rattle.accountability.specs.Naming.{IsMissed}
use Rattle.member_spec.specs.declared.state.State.TheVariants.{Waiting}
use Rattle.member_spec.specs.Outcomes.{bits_of}
use Rattle.member_core.specs.Promises.{KeepsPromise}
use Rattle.round_script.specs.declared.script.Script.{Script}
use Rattle.round_script.specs.Script.{IsScript, Rise}
use Rattle.group_report.specs.Report.{listed, listed_to, state_words}
use Rattle.group_spec.specs.Driver.{MemberShown}
use Rattle.group_laws.specs.Naming.{BitsListMembers, OpenMembersPrintMissed, numbers_text}
use Rattle.group_laws.specs.Promises.{config_shown}
use Rattle.group_laws.proofs.Entering.{members-many}
use Rattle.group_laws.proofs.Kept.{members_keep_their_promise}
use Rattle.group_laws.proofs.Served.{all-contained}

-- ---- the bits from a place on

-- the bits of members behind the first i
abbrev weight : ℕ → List ℕ → ℕ
weight i members = sum_by (λ member. 2 ^ (member - suc i)) members

rises-from : (a b : ℕ) (xs : List ℕ) → b ≤ a → Rise a 9 xs → Rise b 9 xs
rises-from a b [] le rise = tt
rises-from a b (x ∷ xs) le rise = let least = rise.0 in (omega (arith, least, le), rise.1, rise.2)

halved : (i : ℕ) (xs : List ℕ) → Rise (suc (suc i)) 9 xs → weight i xs ≡ 2 * weight (suc i) xs
halved i [] rise = refl
halved i (x ∷ xs) rise =
    let least = rise.0 in
    let rest = halved i xs (rises-from (x + 1) (suc (suc i)) xs (omega (arith, least)) rise.2) in
    let exponent : x - suc i ≡ suc (x - suc (suc i)) = omega (arith, least) in
    let here : 2 ^ (x - suc i) ≡ 2 * 2 ^ (x - suc (suc i)) = ap (λ (e : ℕ). 2 ^ e) exponent ∙ pow-succ' 2 (x - suc (suc i)) in
    let first = sum_by-cons (λ (member : ℕ). 2 ^ (member - suc i)) x xs in
    let second = sum_by-cons (λ (member : ℕ). 2 ^ (member - suc (suc i))) x xs in
    omega (arith, rest, here, first, second)

next-quotient : (bits i : ℕ) → bits / 2 ^ suc i ≡ bits / 2 ^ i / 2
next-quotient bits i = ap (λ (n : ℕ). bits / n) (pow-suc 2 i) ∙ sym (div-div-eq-div-mul bits (2 ^ i) 2)

-- ---- who is listed

bit-of : (bits i : ℕ) → bits / 2 ^ (suc i - 1) % 2 ≡ bits / 2 ^ i % 2
bit-of bits i = let same : suc i - 1 ≡ i = omega arith in ap (λ (e : ℕ). bits / 2 ^ e % 2) same

is-listed : (bits i : ℕ) → bits / 2 ^ i % 2 ≡ 1 → listed bits (suc i) ≡ 44 ∷ (48 + suc i) ∷ []
unfolding listed
is-listed bits i odd = ap (λ (r : ℕ). if r == 1 then 44 ∷ (48 + suc i) ∷ [] else []) (bit-of bits i ∙ odd)

is-left-out : (bits i : ℕ) → bits / 2 ^ i % 2 ≡ 0 → listed bits (suc i) ≡ []
unfolding listed
is-left-out bits i even = ap (λ (r : ℕ). if r == 1 then 44 ∷ (48 + suc i) ∷ [] else []) (bit-of bits i ∙ even)

abbrev digit_of : ℕ → List ℕ
digit_of member = 44 ∷ (48 + member) ∷ []

next-place : (bits i n : ℕ) → flat_map (listed bits) (range_with_len (suc i) (suc n))
    ≡ listed bits (suc i) ++ flat_map (listed bits) (range_with_len (suc (suc i)) n)
next-place bits i n =
    let next : suc i + 1 ≡ suc (suc i) = omega arith in
    ap (λ (a : ℕ). listed bits (suc i) ++ flat_map (listed bits) (range_with_len a n)) next

-- what is listed of the places from here on, and of those behind
abbrev ListsFrom : ℕ → ℕ → ℕ → List ℕ → Type 0
ListsFrom n i bits xs = flat_map (listed bits) (range_with_len (suc i) n) ≡ flat_map digit_of xs

abbrev ListsBehind : ℕ → ℕ → ℕ → Type 0
ListsBehind n i bits = (xs : List ℕ) → Rise (suc (suc i)) 9 xs → bits / 2 ^ suc i ≡ weight (suc i) xs → ListsFrom n (suc i) bits xs

passed : (n i bits : ℕ) (xs : List ℕ) → ListsBehind n i bits → Rise (suc (suc i)) 9 xs → bits / 2 ^ i ≡ weight i xs →
    ListsFrom (suc n) i bits xs
passed n i bits xs behind rise is =
    let twice = halved i xs rise in
    let next = next-quotient bits i in
    next-place bits i n
    ∙ ap (λ (s : List ℕ). s ++ flat_map (listed bits) (range_with_len (suc (suc i)) n)) (is-left-out bits i (omega (arith, is, twice)))
    ∙ behind xs rise (omega (arith, next, is, twice))

taken : (n i bits : ℕ) (xs : List ℕ) → ListsBehind n i bits → Rise (suc (suc i)) 9 xs → bits / 2 ^ i ≡ 1 + weight i xs →
    ListsFrom (suc n) i bits (suc i ∷ xs)
taken n i bits xs behind rise is =
    let twice = halved i xs rise in
    let next = next-quotient bits i in
    next-place bits i n
    ∙ ap (λ (s : List ℕ). s ++ flat_map (listed bits) (range_with_len (suc (suc i)) n)) (is-listed bits i (omega (arith, is, twice)))
    ∙ ap (λ (s : List ℕ). digit_of (suc i) ++ s) (behind xs rise (omega (arith, next, is, twice)))

one-place : (n i bits : ℕ) (xs : List ℕ) → ListsBehind n i bits → Rise (suc i) 9 xs → bits / 2 ^ i ≡ weight i xs →
    ListsFrom (suc n) i bits xs
one-place n i bits [] behind rise is = passed n i bits [] behind tt is
one-place n i bits (x ∷ xs) behind rise is = elim (cases_lt (suc i) x) [
  | inl later ↦ passed n i bits (x ∷ xs) behind (omega (arith, later), rise.1, rise.2) is
  | inr now ↦
      let least = rise.0 in
      let here : x ≡ suc i = omega (arith, least, now) in
      let none : x - suc i ≡ 0 = omega (arith, here) in
      let power : 2 ^ (x - suc i) ≡ 1 = ap (λ (e : ℕ). 2 ^ e) none in
      let sum = sum_by-cons (λ (member : ℕ). 2 ^ (member - suc i)) x xs in
      taken n i bits xs behind (rises-from (x + 1) (suc (suc i)) xs (omega (arith, here)) rise.2) (omega (arith, is, sum, power))
      ∙ ap (λ (m : ℕ). flat_map digit_of (m ∷ xs)) (sym here)
]

listed-from : (n i bits : ℕ) (xs : List ℕ) → i + n ≡ 8 → Rise (suc i) 9 xs → bits / 2 ^ i ≡ weight i xs → ListsFrom n i bits xs
listed-from zero i bits [] all rise is = refl
listed-from zero i bits (x ∷ xs) all rise is = let least = rise.0 in let most = rise.1 in absurd (omega (arith, all, least, most))
listed-from (suc n) i bits xs all rise is =
    one-place n i bits xs (λ ys later same. listed-from n (suc i) bits ys (omega (arith, all)) later same) rise is

-- ---- the text

commas : (a x : ℕ) (xs : List ℕ) → Rise a 9 (x ∷ xs) → flat_map digit_of (x ∷ xs) ≡ 44 ∷ numbers_text (x ∷ xs)
commas a x [] rise =
    let most = rise.1 in
    ap (λ (d : List ℕ). 44 ∷ d) (sym (decimal_digit x (omega (arith, most))))
commas a x (y ∷ ys) rise =
    let most = rise.1 in
    ap (λ (s : List ℕ). 44 ∷ (48 + x) ∷ s) (commas (x + 1) y ys rise.2)
    ∙ ap (λ (d : List ℕ). 44 ∷ (d ++ (44 ∷ numbers_text (y ∷ ys)))) (sym (decimal_digit x (omega (arith, most))))

text-is : (xs : List ℕ) → Rise 1 9 xs → drop 1 (flat_map digit_of xs) ≡ numbers_text xs
text-is [] rise = refl
text-is (x ∷ xs) rise = ap (λ (s : List ℕ). drop 1 s) (commas 1 x xs rise)

rise-by-pairs : (a : ℕ) (xs : List ℕ) → AllPairs (λ member later. member < later) xs → All (λ member. (1 ≤ member) × (member ≤ 8)) xs →
    All (λ member. a ≤ member) xs → Rise a 9 xs
rise-by-pairs a [] pairs within above = tt
rise-by-pairs a (x ∷ xs) pairs within above =
    let most = (within 0 x (omega arith)).1 in (
      above 0 x (omega arith),
      omega (arith, most),
      rise-by-pairs (x + 1) xs
          (λ i j d lt inside. pairs (suc i) (suc j) d (omega (arith, lt)) (omega (arith, inside)))
          (λ k d inside. within (suc k) d (omega (arith, inside)))
          (λ k d inside. (let later = pairs 0 (suc k) d (omega arith) (omega (arith, inside)) in omega (arith, later))),
    )

pub bits_list_members : BitsListMembers
unfolding listed_to
bits_list_members members pairs within =
    let rise = rise-by-pairs 1 members pairs within (λ k d inside. (within k d inside).0) in
    let whole : bits_of members / 2 ^ 0 ≡ weight 0 members = omega arith in
    ap (λ (s : List ℕ). drop 1 s) (listed-from 8 0 (bits_of members) members refl rise whole) ∙ text-is members rise

-- ---- an open member

-- a member that is missed is one of the script's
missed-within : (script : Script) (shown : MemberShown) (stage member : ℕ) → IsScript script →
    IsMissed (config_shown script shown) shown.delivered stage member → (1 ≤ member) × (member ≤ 8)
missed-within script shown stage member is missed =
    let bounds = slot-bounds (shape_in (config_shown script shown)) stage member missed.speaks in
    let last = bounds.2 in
    let many = members-many script in
    let most = is.most in
    (bounds.1, omega (arith, last, many, most))

pub open_members_print_missed : OpenMembersPrintMissed
open_members_print_missed script shown stage bits is in_it waiting =
    let keeps = members_keep_their_promise script shown is in_it in
    let waits = subst (KeepsPromise (config_shown script shown) shown.delivered) waiting keeps.promise in
    let within : All (λ member. (1 ≤ member) × (member ≤ 8)) waits.named
    = all-contained (λ member. (1 ≤ member) × (member ≤ 8)) waits.named
    (λ member there. missed-within script shown stage member is ((waits.names.missed member).0 there)) in
    record {
      named = waits.named;
      missed = waits.names;
      words = ap state_words waiting ∙ ap (λ (b : ℕ). state_words (Waiting stage b)) waits.bits_are
          ∙ ap (λ (s : List ℕ). codes "open stage " ++ decimal stage ++ codes " missing " ++ s)
          (bits_list_members waits.named waits.names.ascending within);
    }
