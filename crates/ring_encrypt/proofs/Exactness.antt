-- A seed opens exactly what is sealed under its key.
use Rattle.std.proofs.Common.{◌≡◌, ◌≢◌, ℕ, ◌+◌, ◌*◌, ◌<◌, List, length, get_or, Bool, true, false, cond, arith, refl, sym, ap, subst, ◌∙◌, Option, Some, None, ⊎_elim}
use Rattle.std.specs.Option.{IfSome, IfNone}
use Rattle.std.specs.Str.{bytes_eq}
use Rattle.std.proofs.lemmas.Slice.Eq.{bytes_eq-Decides}
use Rattle.std.proofs.lemmas.List.{get_or_past}
use Rattle.std.proofs.lemmas.List.FromFn.{length-map-range_with_len, get_or-map-range_with_len}
use Rattle.std.proofs.lemmas.Bool.{cases_lt}
use Rattle.ring_encrypt.specs.Capsule.{key_of_seed, capsule_of}
use Rattle.ring_encrypt.specs.Opening.{IsMessage, number_of_bits, opened_bit, message_of, decoded, opened, OpensExactly, CapsuleDetermines, KeyOpens}
use Rattle.ring_encrypt.proofs.BitLemmas.{bits-below}
use Rattle.ring_encrypt.proofs.OpeningLemmas.{opened_bit_small, sealed_is_decoded}

length-message_of : (v us : List ℕ) → length (message_of v us) ≡ 32
unfolding message_of
length-message_of v us = length-map-range_with_len (λ j. number_of_bits (λ i. opened_bit v us (8 * j + i)) 8) 0 32

byte_small : (v us : List ℕ) (j : ℕ) → j < 32 → get_or (message_of v us) j 0 < 256
unfolding message_of
byte_small v us j h =
    rw (get_or-map-range_with_len (λ j. number_of_bits (λ i. opened_bit v us (8 * j + i)) 8) 0 32 j j 0 h (omega arith))
    (bits-below (λ i. opened_bit v us (8 * j + i)) 8 (λ i. opened_bit_small v us (8 * j + i)))

message_of_is_message : (v us : List ℕ) → IsMessage (message_of v us)
message_of_is_message v us = record {
  length = length-message_of v us;
  bytes = λ j. ⊎_elim (byte_small v us j)
      (λ past. let zero_there : get_or (message_of v us) j 0 ≡ 0 = get_or_past (message_of v us) j 0 (omega (arith, length-message_of v us))
      in omega arith)
      (cases_lt j 32);
}

pub decoded_is_message : (seed capsule : List ℕ) → IsMessage (decoded seed capsule)
unfolding decoded
decoded_is_message seed capsule = message_of_is_message _ _

-- the choice of `opened`
chosen : (b : Bool) (read m : List ℕ) → cond b (Some read) None ≡ Some m → (b ≡ true) × (read ≡ m)
chosen true read m e = (refl, cc)
chosen false read m e = cc

pub opens_exactly : OpensExactly
unfolding opened
opens_exactly seed capsule m = (
  λ e.
      let read = decoded seed capsule in
      let c = chosen (bytes_eq capsule (capsule_of (key_of_seed seed) read)) read m e in
      let same : capsule ≡ capsule_of (key_of_seed seed) read = (bytes_eq-Decides capsule (capsule_of (key_of_seed seed) read)).0 c.0 in (
        subst (λ (x : List ℕ). IsMessage x) c.1 (decoded_is_message seed capsule),
        same
            ∙ ap (λ (x : List ℕ). capsule_of (key_of_seed seed) x) c.1,
      ),
  λ h.
      let read : decoded seed capsule ≡ m = rw h.1 (sealed_is_decoded seed m h.0) in
      let test : bytes_eq capsule (capsule_of (key_of_seed seed) m) ≡ true = (bytes_eq-Decides capsule (capsule_of (key_of_seed seed) m)).1
      h.1 in
      rw (read, test) refl,
)

pub capsule_determines : CapsuleDetermines
capsule_determines seed m m' is is' same =
    sym (sealed_is_decoded seed m is) ∙ ap (λ (c : List ℕ). decoded seed c) same ∙ sealed_is_decoded seed m' is'

same_option : (o p : Option (List ℕ)) → ((x : List ℕ) → o ≡ Some x → p ≡ Some x) → ((x : List ℕ) → p ≡ Some x → o ≡ Some x) → o ≡ p
same_option None None there back = refl
same_option None (Some y) there back = back y refl
same_option (Some x) p there back = sym (there x refl)

none_from : (o : Option (List ℕ)) → ((x : List ℕ) → o ≡ Some x → ⊥) → o ≡ None
none_from None h = refl
none_from (Some x) h = absurd (h x refl)

-- what opens under one seed opens under another of the same key
opens_there : (seed seed' capsule m : List ℕ) → key_of_seed seed ≡ key_of_seed seed' → opened seed capsule ≡ Some m
    → opened seed' capsule ≡ Some m
opens_there seed seed' capsule m same e =
    let h = (opens_exactly seed capsule m).0 e in
    (opens_exactly seed' capsule m).1 (h.0, h.1 ∙ ap (λ (key : List ℕ). capsule_of key m) same)

pub key_opens : KeyOpens
key_opens seed seed' capsule same =
    same_option (opened seed capsule) (opened seed' capsule)
    (λ m. opens_there seed seed' capsule m same)
    (λ m. opens_there seed' seed capsule m (sym same))

-- ---- what the code finds
-- nothing opens where no message has this capsule
pub opens_nothing : (seed capsule : List ℕ) → ((m : List ℕ) → capsule ≢ capsule_of (key_of_seed seed) m) → opened seed capsule ≡ None
opens_nothing seed capsule none =
    none_from (opened seed capsule) (λ m e. none m ((opens_exactly seed capsule m).0 e).1)

-- the test by sealing again
pub opened_by_test : (seed capsule m again : List ℕ) → m ≡ decoded seed capsule → again ≡ capsule_of (key_of_seed seed) m
    → opened seed capsule ≡ cond (bytes_eq capsule again) (Some m) None
unfolding opened
opened_by_test seed capsule m again is-m is-again = rw (is-again, is-m) refl

-- both sides of what `open_seed` promises
pub opened_to : (seed capsule : List ℕ) (r : Option (List ℕ)) → r ≡ opened seed capsule
    → IfSome r (λ m. IsMessage m × (capsule ≡ capsule_of (key_of_seed seed) m))
    × IfNone r ((m : List ℕ) → IsMessage m → capsule ≢ capsule_of (key_of_seed seed) m)
opened_to seed capsule (Some m) e = ((opens_exactly seed capsule m).0 (sym e), tt)
opened_to seed capsule None e = (tt, λ m is same. let there = (opens_exactly seed capsule m).1 (is, same) in let here = e in cc)
