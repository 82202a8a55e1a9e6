-- The tools for decoders: what a reading that gave a value read, and that what is spelled is read
-- again. A decoder above this crate has one pair of laws for each of its fields, `takes` and `again`.
use Rattle.std.proofs.Common.{◌≡◌, ℕ, zero, suc, ◌+◌, ◌-◌, ◌<◌, ◌≤◌, ◌^◌, inl, inr, List, [], ◌∷◌, ◌++◌, length, take, drop, refl, ap, sym, ◌∙◌, subst, arith, append_assoc, append-nil, length-append, length-take-le, add-zero}
use Rattle.std.specs.Prelude.{Option, Some, None, Result, Ok, Err, nat_lt}
use Rattle.std.specs.Int.{Width, w8, w16, w32, w64, byte_len, to_be_bytes, from_be_bytes}
use Rattle.std.specs.List.{flat_map, AllByRecursion}
use Rattle.std.proofs.lemmas.Bool.{ltb-false, le-ltb}
use Rattle.std.proofs.lemmas.List.{take-append-drop}
use Rattle.std.proofs.lemmas.Nat.{be_bytes_2, be_bytes_4, be_bytes_8, from_be_bytes-to_be_bytes_2, from_be_bytes-to_be_bytes_4, from_be_bytes-to_be_bytes_8}
use Rattle.std.proofs.Math.Seq.{take-append_seam, drop-append_seam}
use Rattle.wire_core.specs.declared.cursor.Short.{Short}
pub use Rattle.wire_core.proofs.AnswerLemmas.{bind_ok, fault_as_ok, guard_ok, chosen}
use Rattle.wire_core.specs.Bytes.{IsBytes}
use Rattle.wire_core.proofs.ByteLists.{IsBytes-front, IsBytes-back}
use Rattle.wire_core.specs.Reading.{Reading, reading_at, ◌>>=◌, advanced, bytes_at, number_at, repeated, with_front, IsFault, Takes}

-- ---- what was read

pub Takes-none : (r : Reading) → Takes [] r r
Takes-none r = record { text_is = refl; place_is = sym (add-zero r.place) }

pub Takes-append : (t u : List ℕ) (a b c : Reading) → Takes t a b → Takes u b c → Takes (t ++ u) a c
Takes-append t u a b c first second = record {
  text_is = first.text_is ∙ ap (λ (x : List ℕ). t ++ x) second.text_is ∙ sym (append_assoc t u c.rest);
  place_is = omega (arith, length-append t u, first.place_is, second.place_is);
}

-- of bytes, what is read and what is left are bytes
pub Takes-bytes : (t : List ℕ) (a b : Reading) → Takes t a b → IsBytes a.rest → IsBytes t × IsBytes b.rest
Takes-bytes t a b takes bytes =
    let whole : IsBytes (t ++ b.rest) = subst (λ (x : List ℕ). IsBytes x) takes.text_is bytes in
    (IsBytes-front t b.rest whole, IsBytes-back t b.rest whole)

-- ---- bytes

-- n bytes are read where so many are left
pub bytes_at-enough : (n : ℕ) (r : Reading) → n ≤ length r.rest → bytes_at n r ≡ Ok (take n r.rest, advanced n r)
bytes_at-enough n r enough = rw (le-ltb (length r.rest) n enough) refl

bytes_at-taken : (n : ℕ) (r : Reading) → n ≤ length r.rest → Takes (take n r.rest) r (advanced n r) × (length (take n r.rest) ≡ n)
bytes_at-taken n r enough =
    let long : length (take n r.rest) ≡ n = length-take-le n r.rest enough in
    (record { text_is = sym (take-append-drop n r.rest); place_is = omega arith }, long)

-- what is read are the next bytes, so many
pub bytes_at-takes : (n : ℕ) (r : Reading) (x : List ℕ × Reading) → bytes_at n r ≡ Ok x → Takes x.0 r x.1 × (length x.0 ≡ n)
bytes_at-takes n r x e =
    let short : Result (List ℕ × Reading) Short = Err (record { at = r.place; need = n; have = length r.rest }) in
    elim (chosen (nat_lt (length r.rest) n) short (Ok (take n r.rest, advanced n r)) (Ok x) e) [
      | inl failed ↦ absurd (let no : short ≡ Ok x = failed.1 in cc)
      | inr read ↦
          let same : (take n r.rest, advanced n r) ≡ x = (let e : Ok (take n r.rest, advanced n r) ≡ Ok x = read.1 in cc) in
          subst (λ (x : List ℕ × Reading). Takes x.0 r x.1 × (length x.0 ≡ n)) same
          (bytes_at-taken n r (ltb-false (length r.rest) n read.0))
    ]

-- bytes that are spelled are read again, whatever follows
pub bytes_at-again : (n : ℕ) (text rest : List ℕ) (place : ℕ) → length text ≡ n
    → bytes_at n (reading_at place (text ++ rest)) ≡ Ok (text, reading_at (place + n) rest)
bytes_at-again n text rest place long =
    let enough : n ≤ length (text ++ rest) = omega (arith, length-append text rest) in
    let front : take n (text ++ rest) ≡ text = rw (← long) (take-append_seam text rest) in
    let back : drop n (text ++ rest) ≡ rest = rw (← long) (drop-append_seam text rest) in
    rw (le-ltb (length (text ++ rest)) n enough, front, back) refl

-- ---- numbers

-- the bytes of a number that was read
number_at-front : (w : Width) (r : Reading) (x : ℕ × Reading) → number_at w r ≡ Ok x → (front : List ℕ) × Takes front r x.1
    × (length front ≡ byte_len w) × (x.0 ≡ from_be_bytes w front)
number_at-front w r x e =
    let read = bind_ok (bytes_at (byte_len w) r) (λ front. Ok (from_be_bytes w front.0, front.1)) x e in
    let same : (from_be_bytes w read.0.0, read.0.1) ≡ x = (let e : Ok (from_be_bytes w read.0.0, read.0.1) ≡ Ok x = read.2 in cc) in
    let takes = bytes_at-takes (byte_len w) r read.0 read.1 in
    subst (λ (x : ℕ × Reading). (front : List ℕ) × Takes front r x.1 × (length front ≡ byte_len w) × (x.0 ≡ from_be_bytes w front)) same
    (read.0.0, takes.0, takes.1, refl)

one-byte : (front : List ℕ) (n : ℕ) → length front ≡ 1 → IsBytes front → n ≡ from_be_bytes w8 front → (n ∷ [] ≡ front) × (n < 2 ^ 8)
one-byte [] n long bytes e = absurd (omega arith)
one-byte (b ∷ []) n long bytes e = let same : n ≡ b = omega arith in let small : b < 256 = bytes 0 in
    (ap (λ (m : ℕ). m ∷ []) same, omega arith)
one-byte (b ∷ c ∷ more) n long bytes e = absurd (omega arith)

-- of bytes, a number that was read is spelled by what was read, and is in its range
pub number_at-takes_1 : (r : Reading) (x : ℕ × Reading) → IsBytes r.rest → number_at w8 r ≡ Ok x → Takes (x.0 ∷ []) r x.1 × (x.0 < 2 ^ 8)
number_at-takes_1 r x bytes e =
    let read = number_at-front w8 r x e in
    let fits : IsBytes read.0 = (Takes-bytes read.0 r x.1 read.1 bytes).0 in
    let byte = one-byte read.0 x.0 read.2 fits read.3 in
    (subst (λ (t : List ℕ). Takes t r x.1) (sym byte.0) read.1, byte.1)

pub number_at-takes_2 : (r : Reading) (x : ℕ × Reading) → IsBytes r.rest → number_at w16 r ≡ Ok x → Takes (to_be_bytes w16 x.0) r x.1
    × (x.0 < 2 ^ 16)
number_at-takes_2 r x bytes e =
    let read = number_at-front w16 r x e in
    let fits : IsBytes read.0 = (Takes-bytes read.0 r x.1 read.1 bytes).0 in
    let spelled : to_be_bytes w16 x.0 ≡ read.0 = be_bytes_2 read.0 x.0 read.2 fits read.3 in
    (subst (λ (t : List ℕ). Takes t r x.1) (sym spelled) read.1, omega (arith, read.3, fits 0, fits 1))

pub number_at-takes_4 : (r : Reading) (x : ℕ × Reading) → IsBytes r.rest → number_at w32 r ≡ Ok x → Takes (to_be_bytes w32 x.0) r x.1
    × (x.0 < 2 ^ 32)
number_at-takes_4 r x bytes e =
    let read = number_at-front w32 r x e in
    let fits : IsBytes read.0 = (Takes-bytes read.0 r x.1 read.1 bytes).0 in
    let spelled : to_be_bytes w32 x.0 ≡ read.0 = be_bytes_4 read.0 x.0 read.2 fits read.3 in
    (subst (λ (t : List ℕ). Takes t r x.1) (sym spelled) read.1, omega (arith, read.3, fits 0, fits 1, fits 2, fits 3))

pub number_at-takes_8 : (r : Reading) (x : ℕ × Reading) → IsBytes r.rest → number_at w64 r ≡ Ok x → Takes (to_be_bytes w64 x.0) r x.1
    × (x.0 < 2 ^ 64)
number_at-takes_8 r x bytes e =
    let read = number_at-front w64 r x e in
    let fits : IsBytes read.0 = (Takes-bytes read.0 r x.1 read.1 bytes).0 in
    let spelled : to_be_bytes w64 x.0 ≡ read.0 = be_bytes_8 read.0 x.0 read.2 fits read.3 in (
      subst (λ (t : List ℕ). Takes t r x.1) (sym spelled) read.1,
      omega
          (arith, read.3, fits 0, fits 1, fits 2, fits 3, fits 4, fits 5, fits 6, fits 7),
    )

-- a number that is spelled is read again, whatever follows
pub number_at-again_1 : (n place : ℕ) (rest : List ℕ) → number_at w8 (reading_at place (n ∷ rest)) ≡ Ok (n, reading_at (place + 1) rest)
number_at-again_1 n place rest =
    ap (λ (r : Result (List ℕ × Reading) Short). r >>= λ front. Ok (from_be_bytes w8 front.0, front.1))
    (bytes_at-again 1 (n ∷ []) rest place refl)
    ∙ ap (λ (m : ℕ). Ok (m, reading_at (place + 1) rest)) (let same : from_be_bytes w8 (n ∷ []) ≡ n = omega arith in same)

pub number_at-again_2 : (n place : ℕ) (rest : List ℕ) → n < 2 ^ 16
    → number_at w16 (reading_at place (to_be_bytes w16 n ++ rest)) ≡ Ok (n, reading_at (place + 2) rest)
number_at-again_2 n place rest small =
    ap (λ (r : Result (List ℕ × Reading) Short). r >>= λ front. Ok (from_be_bytes w16 front.0, front.1))
    (bytes_at-again 2 (to_be_bytes w16 n) rest place refl)
    ∙ ap (λ (m : ℕ). Ok (m, reading_at (place + 2) rest)) (from_be_bytes-to_be_bytes_2 n small)

pub number_at-again_4 : (n place : ℕ) (rest : List ℕ) → n < 2 ^ 32
    → number_at w32 (reading_at place (to_be_bytes w32 n ++ rest)) ≡ Ok (n, reading_at (place + 4) rest)
number_at-again_4 n place rest small =
    ap (λ (r : Result (List ℕ × Reading) Short). r >>= λ front. Ok (from_be_bytes w32 front.0, front.1))
    (bytes_at-again 4 (to_be_bytes w32 n) rest place refl)
    ∙ ap (λ (m : ℕ). Ok (m, reading_at (place + 4) rest)) (from_be_bytes-to_be_bytes_4 n small)

pub number_at-again_8 : (n place : ℕ) (rest : List ℕ) → n < 2 ^ 64
    → number_at w64 (reading_at place (to_be_bytes w64 n ++ rest)) ≡ Ok (n, reading_at (place + 8) rest)
number_at-again_8 n place rest small =
    ap (λ (r : Result (List ℕ × Reading) Short). r >>= λ front. Ok (from_be_bytes w64 front.0, front.1))
    (bytes_at-again 8 (to_be_bytes w64 n) rest place refl)
    ∙ ap (λ (m : ℕ). Ok (m, reading_at (place + 8) rest)) (from_be_bytes-to_be_bytes_8 n small)

-- ---- several values, one after the other

with_front-cons : {A E : Type 0} (front : List A) (x : A) (others : Result (List A × Reading) E)
    → with_front front (others >>= λ y. Ok (x ∷ y.0, y.1)) ≡ with_front (front ++ x ∷ []) others
with_front-cons {A} {E} front x (Ok y) =
    let told : List A → Result (List A × Reading) E = λ l. Ok (l, y.1) in
    ap told (sym (append_assoc front (x ∷ []) y.0))
with_front-cons front x (Err d) = refl

-- before a loop
pub with_front-nil : {A E : Type 0} (read : Result (List A × Reading) E) → with_front [] read ≡ read
with_front-nil (Ok x) = refl
with_front-nil (Err d) = refl

-- in a loop that reads `suc n` more, the first is read and joins the front
pub repeated-step : {A E : Type 0} (front : List A) (n : ℕ) (read : Reading → Result (A × Reading) E) (r : Reading) (x : A × Reading)
    → read r ≡ Ok x → with_front front (repeated (suc n) read r) ≡ with_front (front ++ x.0 ∷ []) (repeated n read x.1)
unfolding repeated
repeated-step front n read r x e = rw e (with_front-cons front x.0 (repeated n read x.1))

-- the first is refused, and so are all
pub repeated-stop : {A E : Type 0} (front : List A) (n : ℕ) (read : Reading → Result (A × Reading) E) (r : Reading) (d : E) → read r ≡ Err d
    → with_front front (repeated (suc n) read r) ≡ Err d
unfolding repeated
repeated-stop front n read r d e = rw e refl

-- after a loop
pub repeated-done : {A E : Type 0} (front : List A) (read : Reading → Result (A × Reading) E) (r : Reading)
    → with_front front (repeated zero read r) ≡ Ok (front, r)
unfolding repeated
repeated-done {A} {E} front read r =
    let told : List A → Result (List A × Reading) E = λ l. Ok (l, r) in
    ap told (append-nil front)

-- A loop over a count keeps this: the values so far, with those still to be read, are those of the
-- whole. It does so over one more value;
pub loop-goes_on : {A E : Type 0} (front : List A) (count i : ℕ) (read : Reading → Result (A × Reading) E) (r : Reading) (x : A)
    (after : Reading) (total : Result (List A × Reading) E) → i < count → read r ≡ Ok (x, after)
    → with_front front (repeated (count - i) read r) ≡ total → with_front (front ++ x ∷ []) (repeated (count - (i + 1)) read after) ≡ total
loop-goes_on front count i read r x after total more first so_far =
    let left : count - i ≡ suc (count - (i + 1)) = omega arith in
    sym (repeated-step front (count - (i + 1)) read r (x, after) first) ∙ (rw left at so_far)

-- it ends with the first fault;
pub loop-ends : {A E F : Type 0} (fault : E → Option F) (e : E) (front : List A) (count i : ℕ) (read : Reading → Result (A × Reading) F)
    (r : Reading) (total : Result (List A × Reading) F) → i < count → IsFault (fault e) (read r)
    → with_front front (repeated (count - i) read r) ≡ total → IsFault (fault e) total
loop-ends {A} {E} {F} fault e front count i read r total more refused so_far =
    stopped (fault e) refused
  where
    left : count - i ≡ suc (count - (i + 1))
    left = omega arith

    stopped : (f : Option F) → IsFault f (read r) → IsFault f total
    stopped None refused = tt
    stopped (Some d) refused = sym (rw left at so_far) ∙ repeated-stop front (count - (i + 1)) read r d refused

-- and it is done after the last.
pub loop-is_done : {A E : Type 0} (front : List A) (count i : ℕ) (read : Reading → Result (A × Reading) E) (r : Reading)
    (total : Result (List A × Reading) E) → count ≤ i → with_front front (repeated (count - i) read r) ≡ total → total ≡ Ok (front, r)
loop-is_done front count i read r total all so_far =
    let left : count - i ≡ zero = omega arith in
    sym (rw left at so_far) ∙ repeated-done front read r

-- of values that are each spelled by what was read, so are all
pub repeated-takes : {A E : Type 0} (spelling : A → List ℕ) (Good : A → Type 0) (read : Reading → Result (A × Reading) E)
    → ((r : Reading) (x : A × Reading) → IsBytes r.rest → read r ≡ Ok x → Takes (spelling x.0) r x.1 × Good x.0)
    → (n : ℕ) (r : Reading) (x : List A × Reading) → IsBytes r.rest → repeated n read r ≡ Ok x → Takes (flat_map spelling x.0) r x.1
    × AllByRecursion Good x.0 × (length x.0 ≡ n)
unfolding repeated
repeated-takes {A} spelling Good read each zero r x bytes e =
    let same : ([], r) ≡ x = (let e : Ok ([], r) ≡ Ok x = e in cc) in
    subst (λ (x : List A × Reading). Takes (flat_map spelling x.0) r x.1 × AllByRecursion Good x.0 × (length x.0 ≡ 0)) same
    (Takes-none r, tt, refl)
repeated-takes {A} spelling Good read each (suc n) r x bytes e =
    let first = bind_ok (read r) (λ first. repeated n read first.1 >>= λ others. Ok (first.0 ∷ others.0, others.1)) x e in
    let others = bind_ok (repeated n read first.0.1) (λ others. Ok (first.0.0 ∷ others.0, others.1)) x first.2 in
    let one = each r first.0 bytes first.1 in
    let left : IsBytes first.0.1.rest = (Takes-bytes (spelling first.0.0) r first.0.1 one.0 bytes).1 in
    let more = repeated-takes spelling Good read each n first.0.1 others.0 left others.1 in
    let same : (first.0.0 ∷ others.0.0, others.0.1) ≡ x = (let e : Ok (first.0.0 ∷ others.0.0, others.0.1) ≡ Ok x = others.2 in cc) in
    subst (λ (x : List A × Reading). Takes (flat_map spelling x.0) r x.1 × AllByRecursion Good x.0 × (length x.0 ≡ suc n)) same (
      Takes-append (spelling first.0.0) (flat_map spelling others.0.0) r first.0.1 others.0.1 one.0 more.0,
      (one.1, more.1),
      omega
          (arith, more.2),
    )

-- values that are each read again where they are spelled are read again one after the other
pub repeated-again : {A E : Type 0} (spelling : A → List ℕ) (Good : A → Type 0) (read : Reading → Result (A × Reading) E)
    → ((x : A) (place : ℕ) (rest : List ℕ) → Good x → read (reading_at place (spelling x ++ rest)) ≡ Ok
    (x, reading_at (place + length (spelling x)) rest)) → (xs : List A) (place : ℕ) (rest : List ℕ) → AllByRecursion Good xs
    → repeated (length xs) read (reading_at place (flat_map spelling xs ++ rest)) ≡ Ok
    (xs, reading_at (place + length (flat_map spelling xs)) rest)
unfolding repeated
repeated-again {A} {E} spelling Good read each [] place rest good =
    let told : ℕ → Result (List A × Reading) E = λ k. Ok ([], reading_at k rest) in
    ap told (sym (add-zero place))
repeated-again {A} {E} spelling Good read each (x ∷ xs) place rest good =
    let told : ℕ → Result (List A × Reading) E = λ k. Ok (x ∷ xs, reading_at k rest) in
    let grouped = append_assoc (spelling x) (flat_map spelling xs) rest in
    let first = each x place (flat_map spelling xs ++ rest) good.0 in
    let others = repeated-again spelling Good read each xs (place + length (spelling x)) rest good.1 in
    let ends : place + length (spelling x) + length (flat_map spelling xs) ≡ place + length (spelling x ++ flat_map spelling xs) = omega
    (arith, length-append (spelling x) (flat_map spelling xs)) in
    rw (grouped, first, others) (ap told ends)
