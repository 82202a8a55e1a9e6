-- The keys of a roster, one after the other.
use Rattle.std.proofs.Common.{◌≡◌, ℕ, zero, suc, ◌+◌, ◌-◌, ◌<◌, ◌≤◌, List, [], ◌∷◌, ◌++◌, length, get_or, Bool, true, false, inl, inr, Option, Some, None, Result, Ok, Err, refl, ap, subst, ◌∙◌, arith, below_more}
use Rattle.std.specs.Prelude.{option_and_then, IsOk}
use Rattle.std.specs.Result.{result_ok, is_err}
use Rattle.std.specs.List.{list_any, range_with_len}
use Rattle.std.proofs.lemmas.Bool.{cases_Bool}
use Rattle.wire_core.proofs.ListLemmas.{none_passes}
use Rattle.std.proofs.lemmas.Option.{slice_get_read}
use Rattle.std.proofs.lemmas.List.FromFn.{map-range_with_len_more}
use Rattle.lms_tree.specs.declared.keys.LmsPublic.{LmsPublic}
use Rattle.lms_tree.specs.declared.keys.KeyRefusal.{KeyRefusal}
use Rattle.lms_tree.specs.Tree.{key_read}
use Rattle.wire_core.specs.Answers.{value_unless}
use Rattle.wire_core.proofs.AnswerLemmas.{first_below-some, first_below-none, value_unless-ok, value_unless-err}
use Rattle.group_roster.specs.declared.rule.Offence.{Offence}
use Rattle.group_roster.specs.Roster.{Roster, key_of}
use Rattle.group_roster.specs.Binary.{key_at, keys_at, key_offence, keys_offence}

-- one key more
pub keys_at-more : (bytes : List ℕ) (k : ℕ) → keys_at bytes (k + 1) ≡ keys_at bytes k ++ key_at bytes k ∷ []
keys_at-more bytes k = map-range_with_len_more (key_at bytes) 0 k k (omega arith)

-- a test that one of the first numbers passes
pub some_passes : (p : ℕ → Bool) (n i : ℕ) → i < n → p i ≡ true → list_any p (range_with_len 0 n) ≡ true
some_passes p n i lt passes =
    elim (cases_Bool (list_any p (range_with_len 0 n))) [
      | inl found ↦ found
      | inr none ↦ absurd (let fails : p i ≡ false = none_passes p 0 n i none (omega arith) (omega arith) in cc)
    ]

-- ---- the loop over the keys

-- no key before k has an offence
abbrev pub AreRight : List ℕ → ℕ → Type 0
AreRight bytes k = (j : ℕ) → j < k → key_offence bytes j ≡ None

-- what a look at bytes that keeps nothing answers: the offence, where there is one
abbrev pub checked : Option Offence → Result (Unit {0}) Offence
checked found = value_unless found tt

-- the first offence of key k is that of the keys
pub keys-stop : (bytes : List ℕ) (k n : ℕ) (broken : Offence) → k < n → AreRight bytes k → checked (key_offence bytes k) ≡ Err broken
    → checked (keys_offence bytes n) ≡ Err broken
keys-stop bytes k n broken lt right fault =
    ap checked (first_below-some (key_offence bytes) n k broken lt right (value_unless-err (key_offence bytes k) tt broken fault))

pub keys-go_on : (bytes : List ℕ) (k : ℕ) (u : Unit {0}) → AreRight bytes k → checked (key_offence bytes k) ≡ Ok u → AreRight bytes (k + 1)
keys-go_on bytes k u right read = below_more _ k right (value_unless-ok (key_offence bytes k) tt u read).0

pub keys-done : (bytes : List ℕ) (k n : ℕ) → n ≤ k → AreRight bytes k → checked (keys_offence bytes n) ≡ Ok tt
keys-done bytes k n ended right =
    ap checked (first_below-none (key_offence bytes) n (λ j lt. right j (omega arith)))

-- ---- the key of a number

pub key_of-is : (r : Roster) (sender : ℕ) (bytes : List ℕ) (key : LmsPublic) → 1 ≤ sender → sender ≤ length r.keys
    → bytes ≡ get_or r.keys (sender - 1) bytes → key_read bytes ≡ Ok key → key_of r sender ≡ Some key
key_of-is r zero bytes key least most is reads = absurd (omega arith)
key_of-is r (suc k) bytes key least most is reads =
    let place : suc k - 1 ≡ k = omega arith in
    let here : bytes ≡ get_or r.keys k bytes = subst (λ (i : ℕ). bytes ≡ get_or r.keys i bytes) place is in
    ap (λ (o : Option (List ℕ)). option_and_then (λ key. result_ok (key_read key)) o)
    (slice_get_read r.keys (length r.keys) k bytes refl (omega arith) here)
    ∙ ap result_ok reads

-- a key whose reading is no error reads
pub key_reads : {read : Result LmsPublic KeyRefusal} (result : Result LmsPublic KeyRefusal) → result ≡ read → (err : Bool)
    → err ≡ is_err result → err ≡ false → IsOk read
key_reads (Ok key) same err told fine = rw (← same) refl
key_reads (Err e) same err told fine = absurd (let wrong : true ≡ false = cc in cc)
