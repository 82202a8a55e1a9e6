-- The two laws of rosters: what has no offence is spelled so, and what is spelled so has no offence.
use Rattle.std.proofs.Common.{◌≡◌, ◌≢◌, ℕ, zero, suc, ◌+◌, ◌-◌, ◌*◌, ◌<◌, ◌≤◌, Bool, true, false, not, ◌&&◌, List, [], ◌∷◌, ◌++◌, length, get_or, take, drop, Option, None, Result, Ok, Err, refl, sym, ap, subst, ◌∙◌, arith, inl, inr, append-nil, length-append}
use Rattle.std.specs.Prelude.{All, AllPairs, IsOk, IfOk, bytes_eq, nat_le, nat_lt}
use Rattle.std.specs.Option.{option_map}
use Rattle.std.specs.List.{range_with_len, concat, list_any}
use Rattle.std.proofs.lemmas.Bool.{leb-true, le-leb, ltb-true, lt-ltb, cases_lt, false_from_ne_true}
use Rattle.std.proofs.lemmas.List.{length-take, length-drop, take_at, drop_at, drop-drop, take_all}
use Rattle.std.proofs.lemmas.List.Folds.{concat-append}
use Rattle.std.proofs.lemmas.List.FromFn.{get_or-map-range_with_len, length-map-range_with_len, fill_by_all}
use Rattle.std.proofs.lemmas.Slice.Eq.{bytes_eq-Decides}
use Rattle.lms_tree.specs.declared.keys.LmsPublic.{LmsPublic}
use Rattle.lms_tree.specs.declared.keys.KeyRefusal.{KeyRefusal}
use Rattle.lms_tree.specs.declared.keys.KeyRefusal.TheVariants.{LmsKind, OtsKind}
use Rattle.lms_tree.specs.Tree.{key_read}
use Rattle.wire_core.specs.Answers.{Gives, fault_unless, value_unless, fault_as}
use Rattle.wire_core.specs.Places.{has_byte, first_unlike}
use Rattle.wire_core.proofs.AnswerLemmas.{fault_unless-true, fault_unless-holds, value_unless-ok, value_unless-err, nothing_mapped, fault_as_ok}
use Rattle.wire_core.proofs.PlaceLemmas.{byte_there, there_byte, first_unlike-none, first_unlike-each}
use Rattle.group_roster.specs.declared.rule.Offence.{Offence}
use Rattle.group_roster.specs.declared.rule.Rule.TheVariants.{Magic, Version, Size, Short, Trailing, Duplicate}
use Rattle.group_roster.specs.declared.refusal.RosterRefusal.{RosterRefusal}
use Rattle.group_roster.specs.Roster.{Roster, roster_magic, roster_spelling, IsKey, IsRosterForm, IsRosterFile}
use Rattle.group_roster.specs.Rules.{offence, numbered, offence_told}
use Rattle.group_roster.specs.Binary.{size_of, has_size, key_place, key_at, keys_at, type_offence, repeats, key_offence, keys_offence, head_offence, roster_offence, spelled_roster, roster_read}
use Rattle.group_roster.proofs.Keys.{keys_at-more, AreRight}
use Rattle.group_roster.proofs.Faults.{both, neither, not_inverse}
use Rattle.wire_core.proofs.AnswerLemmas.{first_some-none, first_some-none_parts, first_below-none, first_below-each}

-- ---- six bytes in front

six_front : (bytes : List ℕ) → 6 ≤ length bytes → bytes ≡ get_or bytes 0 0 ∷ get_or bytes 1 0 ∷ get_or bytes 2 0 ∷ get_or bytes 3 0 ∷ get_or
    bytes 4 0 ∷ get_or bytes 5 0 ∷ drop 6 bytes
six_front (a ∷ b ∷ c ∷ d ∷ e ∷ f ∷ rest) le = refl
six_front [] le = absurd (omega arith)
six_front (a ∷ []) le = absurd (omega arith)
six_front (a ∷ b ∷ []) le = absurd (omega arith)
six_front (a ∷ b ∷ c ∷ []) le = absurd (omega arith)
six_front (a ∷ b ∷ c ∷ d ∷ []) le = absurd (omega arith)
six_front (a ∷ b ∷ c ∷ d ∷ e ∷ []) le = absurd (omega arith)

-- ---- keys that were read

take-add : {A : Type 0} (m n : ℕ) (xs : List A) → take (m + n) xs ≡ take m xs ++ take n (drop m xs)
take-add zero n xs = let e : 0 + n ≡ n = omega arith in rw e refl
take-add (suc m) n [] = let e : suc m + n ≡ suc (m + n) = omega arith in rw e (sym (take_all n [] (omega arith)))
take-add (suc m) n (x ∷ xs) = let e : suc m + n ≡ suc (m + n) = omega arith in rw e (ap (λ (t : List _). x ∷ t) (take-add m n xs))

concat-keys_at : (bytes : List ℕ) (n : ℕ) → concat (keys_at bytes n) ≡ take (56 * n) (drop 6 bytes)
concat-keys_at bytes zero = refl
concat-keys_at bytes (suc n) =
    let one : suc n ≡ n + 1 = omega arith in
    let more : 56 * suc n ≡ 56 * n + 56 = omega arith in
    ap (λ (m : ℕ). concat (keys_at bytes m)) one
    ∙ ap concat (keys_at-more bytes n)
    ∙ concat-append (keys_at bytes n) (key_at bytes n ∷ [])
    ∙ ap (λ (x : List ℕ). concat (keys_at bytes n) ++ x) (append-nil (key_at bytes n))
    ∙ ap (λ (x : List ℕ). x ++ key_at bytes n) (concat-keys_at bytes n)
    ∙ ap (λ (x : List ℕ). take (56 * n) (drop 6 bytes) ++ take 56 x) (sym (drop-drop (56 * n) 6 bytes))
    ∙ sym (take-add (56 * n) 56 (drop 6 bytes))
    ∙ ap (λ (m : ℕ). take m (drop 6 bytes)) (sym more)

none_passes : (p : ℕ → Bool) (a n i : ℕ) → list_any p (range_with_len a n) ≡ false → a ≤ i → i < a + n → p i ≡ false
none_passes p a zero i e le lt = absurd (omega arith)
none_passes p a (suc n) i e le lt =
    let parts = neither (p a) (list_any p (range_with_len (a + 1) n)) e in
    elim (cases_lt a i) [
      | inl later ↦ none_passes p (a + 1) n i parts.1 (omega arith) (omega arith)
      | inr now ↦ let same : i ≡ a = omega arith in rw same parts.0
    ]

pass_none : (p : ℕ → Bool) (a n : ℕ) → ((i : ℕ) → a ≤ i → i < a + n → p i ≡ false) → list_any p (range_with_len a n) ≡ false
pass_none p a zero h = refl
pass_none p a (suc n) h =
    rw (h a (omega arith) (omega arith)) (pass_none p (a + 1) n (λ i le lt. h i (omega arith) (omega arith)))

-- what a key without an offence is
record IsRight (bytes : List ℕ) (k : ℕ) : Type 0 where
  whole : key_place (k + 1) ≤ length bytes
  reads : IsOk (key_read (key_at bytes k))
  once : repeats bytes k ≡ false

typed : (place : ℕ) (r : Result LmsPublic KeyRefusal) → type_offence place r ≡ None → IsOk r
typed place (Ok key) e = refl
typed place (Err (LmsKind found)) e = absurd cc
typed place (Err (OtsKind found)) e = absurd cc

untyped : (place : ℕ) (r : Result LmsPublic KeyRefusal) → IsOk r → type_offence place r ≡ None
untyped place (Ok key) e = refl
untyped place (Err r) e = absurd cc

right_key : (bytes : List ℕ) (k : ℕ) → key_offence bytes k ≡ None → IsRight bytes k
right_key bytes k e =
    let o1 = fault_unless (nat_le (key_place (k + 1)) (length bytes)) (offence (key_place k) Short) in
    let o2 = type_offence (key_place k) (key_read (key_at bytes k)) in
    let o3 = fault_unless (not (repeats bytes k)) (offence (key_place k) Duplicate) in
    let p1 = first_some-none_parts o1 (o2 ∷ o3 ∷ []) e in
    let p2 = first_some-none_parts o2 (o3 ∷ []) p1.1 in
    let p3 = first_some-none_parts o3 [] p2.1 in
    record {
      whole = leb-true _ _ (fault_unless-holds (nat_le (key_place (k + 1)) (length bytes)) (offence (key_place k) Short) p1.0);
      reads = typed (key_place k) (key_read (key_at bytes k)) p2.0;
      once = not_inverse (repeats bytes k) (fault_unless-holds (not (repeats bytes k)) (offence (key_place k) Duplicate) p3.0);
    }

key_right : (bytes : List ℕ) (k : ℕ) → IsRight bytes k → key_offence bytes k ≡ None
key_right bytes k r =
    let o1 = fault_unless (nat_le (key_place (k + 1)) (length bytes)) (offence (key_place k) Short) in
    let o2 = type_offence (key_place k) (key_read (key_at bytes k)) in
    let o3 = fault_unless (not (repeats bytes k)) (offence (key_place k) Duplicate) in
    first_some-none o1 (o2 ∷ o3 ∷ []) (fault_unless-true (nat_le (key_place (k + 1)) (length bytes)) (offence (key_place k) Short)
    (le-leb _ _ r.whole))
    ∙ first_some-none o2 (o3 ∷ []) (untyped (key_place k) (key_read (key_at bytes k)) r.reads)
    ∙ first_some-none o3 [] (fault_unless-true (not (repeats bytes k)) (offence (key_place k) Duplicate) (ap not r.once))

-- ---- bytes without an offence

record IsUnoffending (bytes : List ℕ) : Type 0 where
  magic : first_unlike roster_magic bytes ≡ None
  version : has_byte bytes 4 1 ≡ true
  size : has_size bytes ≡ true
  keys : AreRight bytes (size_of bytes)
  ends : length bytes ≤ key_place (size_of bytes)

unoffending : (bytes : List ℕ) → roster_offence bytes ≡ None → IsUnoffending bytes
unfolding roster_offence
unoffending bytes e =
    let m = option_map (λ place. offence place Magic) (first_unlike roster_magic bytes) in
    let v = fault_unless (has_byte bytes 4 1) (offence 4 Version) in
    let s = fault_unless (has_size bytes) (offence 5 Size) in
    let t = fault_unless (nat_le (length bytes) (key_place (size_of bytes))) (offence (key_place (size_of bytes)) Trailing) in
    let p1 = first_some-none_parts (head_offence bytes) (keys_offence bytes (size_of bytes) ∷ t ∷ []) e in
    let p2 = first_some-none_parts (keys_offence bytes (size_of bytes)) (t ∷ []) p1.1 in
    let p3 = first_some-none_parts t [] p2.1 in
    let q1 = first_some-none_parts m (v ∷ s ∷ []) p1.0 in
    let q2 = first_some-none_parts v (s ∷ []) q1.1 in
    let q3 = first_some-none_parts s [] q2.1 in
    record {
      magic = nothing_mapped (λ place. offence place Magic) (first_unlike roster_magic bytes) q1.0;
      version = fault_unless-holds (has_byte bytes 4 1) (offence 4 Version) q2.0;
      size = fault_unless-holds (has_size bytes) (offence 5 Size) q3.0;
      keys = first_below-each (key_offence bytes) (size_of bytes) p2.0;
      ends = leb-true _ _ (fault_unless-holds (nat_le (length bytes) (key_place (size_of bytes)))
          (offence (key_place (size_of bytes)) Trailing) p3.0);
    }

offends_not : (bytes : List ℕ) → IsUnoffending bytes → roster_offence bytes ≡ None
unfolding roster_offence
offends_not bytes u =
    let m = option_map (λ place. offence place Magic) (first_unlike roster_magic bytes) in
    let v = fault_unless (has_byte bytes 4 1) (offence 4 Version) in
    let s = fault_unless (has_size bytes) (offence 5 Size) in
    let t = fault_unless (nat_le (length bytes) (key_place (size_of bytes))) (offence (key_place (size_of bytes)) Trailing) in
    let head : head_offence bytes ≡ None =
    first_some-none m (v ∷ s ∷ []) (ap (option_map (λ place. offence place Magic)) u.magic)
    ∙ first_some-none v (s ∷ []) (fault_unless-true (has_byte bytes 4 1) (offence 4 Version) u.version)
    ∙ first_some-none s [] (fault_unless-true (has_size bytes) (offence 5 Size) u.size) in
    first_some-none (head_offence bytes) (keys_offence bytes (size_of bytes) ∷ t ∷ []) head
    ∙ first_some-none (keys_offence bytes (size_of bytes)) (t ∷ []) (first_below-none (key_offence bytes) (size_of bytes) u.keys)
    ∙ first_some-none t [] (fault_unless-true (nat_le (length bytes) (key_place (size_of bytes)))
    (offence (key_place (size_of bytes)) Trailing) (le-leb _ _ u.ends))

record HasSize (bytes : List ℕ) : Type 0 where
  there : 5 < length bytes
  least : 2 ≤ size_of bytes
  most : size_of bytes ≤ 8

sized : (bytes : List ℕ) → has_size bytes ≡ true → HasSize bytes
sized bytes e =
    let p = both (nat_lt 5 (length bytes)) (nat_le 2 (size_of bytes) && nat_le (size_of bytes) 8) e in
    let q = both (nat_le 2 (size_of bytes)) (nat_le (size_of bytes) 8) p.1 in
    record { there = omega (arith, ltb-true 5 (length bytes) p.0); least = leb-true _ _ q.0; most = leb-true _ _ q.1 }

size_has : (bytes : List ℕ) → HasSize bytes → has_size bytes ≡ true
size_has bytes s = rw (lt-ltb 5 (length bytes) s.there, le-leb 2 (size_of bytes) s.least, le-leb (size_of bytes) 8 s.most) refl

right_keys : (bytes : List ℕ) (n : ℕ) → AreRight bytes n → All IsKey (keys_at bytes n)
right_keys bytes n right k d lt =
    let short : k < n = omega (arith, length-map-range_with_len (key_at bytes) 0 n) in
    let r = right_key bytes k (right k short) in
    rw (get_or-map-range_with_len (key_at bytes) 0 n k k d short (omega arith))
    (record { size = omega (arith, length-take 56 (drop (key_place k) bytes), length-drop (key_place k) bytes, r.whole); reads = r.reads })

distinct_keys : (bytes : List ℕ) (n : ℕ) → AreRight bytes n → AllPairs ◌≢◌ (keys_at bytes n)
distinct_keys bytes n right i j d lt within =
    let short : j < n = omega (arith, length-map-range_with_len (key_at bytes) 0 n) in
    let r = right_key bytes j (right j short) in
    let differ : bytes_eq (key_at bytes i) (key_at bytes j) ≡ false = none_passes (λ m. bytes_eq (key_at bytes m) (key_at bytes j)) 0 j i
    r.once (omega arith) (omega arith) in
    rw (
      get_or-map-range_with_len (key_at bytes) 0 n i i d (omega arith) (omega arith),
      get_or-map-range_with_len (key_at bytes) 0 n j j d
          short (omega arith),
    )
    (λ same. absurd (let equal : bytes_eq (key_at bytes i) (key_at bytes j) ≡ true = (bytes_eq-Decides (key_at bytes i) (key_at bytes j)).1
    same in cc))

-- what has no offence is spelled so
pub roster_found : (bytes : List ℕ) → roster_offence bytes ≡ None → IsRosterFile (spelled_roster bytes)
    × (bytes ≡ roster_spelling (spelled_roster bytes))
roster_found bytes e =
    let u = unoffending bytes e in
    let s = sized bytes u.size in
    let n = size_of bytes in
    let count = length-map-range_with_len (key_at bytes) 0 n in
    let version = byte_there bytes 4 1 u.version in
    let m0 = byte_there bytes 0 68 (first_unlike-each roster_magic bytes u.magic 0 (omega arith)) in
    let m1 = byte_there bytes 1 83 (first_unlike-each roster_magic bytes u.magic 1 (omega arith)) in
    let m2 = byte_there bytes 2 82 (first_unlike-each roster_magic bytes u.magic 2 (omega arith)) in
    let m3 = byte_there bytes 3 79 (first_unlike-each roster_magic bytes u.magic 3 (omega arith)) in
    let last = right_key bytes (n - 1) (u.keys (n - 1) (omega (arith, s.least))) in
    let rest : concat (keys_at bytes n) ≡ drop 6 bytes = concat-keys_at bytes n
    ∙ take_all (56 * n) (drop 6 bytes) (omega (arith, length-drop 6 bytes, u.ends)) in
    let form : IsRosterForm (spelled_roster bytes) = record {
      version = version.1;
      least = omega (arith, count, s.least);
      most = omega
          (arith, count, s.most);
      keys = right_keys bytes n u.keys;
    } in (
      record { form = form; distinct = distinct_keys bytes n u.keys },
      six_front bytes (omega (arith, s.there)) ∙ rw (m0.1, m1.1, m2.1, m3.1, count, rest) refl,
    )

-- ---- what is spelled

-- keys of 56 bytes each
abbrev Are56 : List (List ℕ) → Type 0
Are56 keys = (k : ℕ) → k < length keys → length (get_or keys k []) ≡ 56

length-concat : (keys : List (List ℕ)) → Are56 keys → length (concat keys) ≡ 56 * length keys
length-concat [] h = refl
length-concat (x ∷ xs) h =
    omega (arith, length-append x (concat xs), h 0 (omega arith), length-concat xs (λ k lt. h (suc k) (omega arith)))

concat-key : (keys : List (List ℕ)) (k : ℕ) → Are56 keys → k < length keys → take 56 (drop (56 * k) (concat keys)) ≡ get_or keys k []
concat-key [] k h lt = absurd (omega arith)
concat-key (x ∷ xs) zero h lt = take_at x (concat xs) 56 (h 0 lt)
concat-key (x ∷ xs) (suc k) h lt =
    let far : 56 * suc k ≡ 56 + 56 * k = omega arith in
    let first : drop 56 (x ++ concat xs) ≡ concat xs = drop_at x (concat xs) 56 (h 0 (omega arith)) in
    rw (far, ← drop-drop (56 * k) 56 (x ++ concat xs), first) (concat-key xs k (λ j lt2. h (suc j) (omega arith)) (omega arith))

keys_are_56 : (r : Roster) → IsRosterForm r → Are56 r.keys
keys_are_56 r form k lt = (form.keys k [] lt).size

spelled_key : (r : Roster) → IsRosterForm r → (k : ℕ) → k < length r.keys → key_at (roster_spelling r) k ≡ get_or r.keys k []
spelled_key r form k lt =
    rw (← drop-drop (56 * k) 6 (roster_spelling r)) (concat-key r.keys k (keys_are_56 r form) lt)

pub spelled_length : (r : Roster) → IsRosterForm r → length (roster_spelling r) ≡ 6 + 56 * length r.keys
spelled_length r form = omega (arith, length-concat r.keys (keys_are_56 r form))

spelled_magic : (r : Roster) (p : ℕ) → 6 ≤ length (roster_spelling r) → p < 4
    → has_byte (roster_spelling r) p (get_or roster_magic p 0) ≡ true
spelled_magic r zero long lt = there_byte (roster_spelling r) 0 68 (omega arith) refl
spelled_magic r (suc zero) long lt = there_byte (roster_spelling r) 1 83 (omega arith) refl
spelled_magic r (suc (suc zero)) long lt = there_byte (roster_spelling r) 2 82 (omega arith) refl
spelled_magic r (suc (suc (suc zero))) long lt = there_byte (roster_spelling r) 3 79 (omega arith) refl
spelled_magic r (suc (suc (suc (suc p)))) long lt = absurd (omega arith)

spelled_once : (r : Roster) → IsRosterFile r → (k : ℕ) → k < length r.keys → repeats (roster_spelling r) k ≡ false
spelled_once r file k lt = pass_none (λ j. bytes_eq (key_at (roster_spelling r) j) (key_at (roster_spelling r) k)) 0 k differ
  where
    differ : (i : ℕ) → 0 ≤ i → i < 0 + k → bytes_eq (key_at (roster_spelling r) i) (key_at (roster_spelling r) k) ≡ false
    differ i le before =
        rw (spelled_key r file.form i (omega arith), spelled_key r file.form k lt)
        (unequal (get_or r.keys i []) (get_or r.keys k []) (file.distinct i k [] (omega arith) lt))
      where
        unequal : (a b : List ℕ) → a ≢ b → bytes_eq a b ≡ false
        unequal a b other = false_from_ne_true (bytes_eq a b) (λ same. other ((bytes_eq-Decides a b).0 same))

-- the keys that are spelled are those of the roster
pub spelled_keys : (r : Roster) → IsRosterForm r → keys_at (roster_spelling r) (length r.keys) ≡ r.keys
spelled_keys r form = sym (fill_by_all (key_at (roster_spelling r)) r.keys (length r.keys) [] refl (λ k lt. sym (spelled_key r form k lt)))

-- what is spelled so has no offence, and is what is spelled
pub roster_again : (r : Roster) → IsRosterFile r → roster_read (roster_spelling r) ≡ Ok r
roster_again r file =
    let form = file.form in
    let bytes = roster_spelling r in
    let long = spelled_length r form in
    let n : ℕ = length r.keys in
    let right : AreRight bytes n = λ k lt. key_right bytes k (record {
      whole = omega (arith, long);
      reads = rw (spelled_key r form k lt) (form.keys k [] lt).reads;
      once = spelled_once r file k lt;
    }) in
    let none : roster_offence bytes ≡ None = offends_not bytes (record {
      magic = first_unlike-none roster_magic bytes (λ p lt. spelled_magic r p (omega (arith, long)) lt);
      version = there_byte bytes 4 1 (omega (arith, long, form.least)) form.version;
      size = size_has bytes (record { there = omega (arith, long, form.least); least = form.least; most = form.most });
      keys = right;
      ends = omega (arith, long);
    }) in
    ap (λ (o : Option Offence). fault_as numbered (value_unless o (spelled_roster bytes))) none
    ∙ ap (λ (keys : List (List ℕ)). ok (record { version = r.version; keys = keys })) (spelled_keys r form)
  where
    ok : Roster → Result Roster (ℕ × ℕ)
    ok r = Ok r

-- what is read is a roster file, and is spelled so
pub roster_read-found : (bytes : List ℕ) (r : Roster) → roster_read bytes ≡ Ok r → IsRosterFile r × (bytes ≡ roster_spelling r)
roster_read-found bytes r e =
    let parts = value_unless-ok (roster_offence bytes) (spelled_roster bytes) r
    (fault_as_ok numbered (value_unless (roster_offence bytes) (spelled_roster bytes)) r e) in
    subst (λ (r : Roster). IsRosterFile r × (bytes ≡ roster_spelling r)) parts.1 (roster_found bytes parts.0)

-- the same of what a decoder returned, seen by a view
pub decoded_found : {X : Type 0} (view : X → Roster) (bytes : List ℕ) (result : Result X RosterRefusal)
    → Gives offence_told view result (roster_read bytes) → IfOk result (λ r. IsRosterFile (view r) × (bytes ≡ roster_spelling (view r)))
decoded_found view bytes (Ok r) given = roster_read-found bytes (view r) given
decoded_found view bytes (Err e) given = tt

pub decoded_again : {X : Type 0} (view : X → Roster) (bytes : List ℕ) (result : Result X RosterRefusal) (r : Roster)
    → Gives offence_told view result (roster_read bytes) → IsRosterFile r → bytes ≡ roster_spelling r
    → Gives offence_told view result (Ok r)
decoded_again view bytes result r given file e =
    subst (λ (read : Result Roster (ℕ × ℕ)). Gives offence_told view result read) (ap roster_read e ∙ roster_again r file) given

-- bytes that announce n keys and have no offence hold them
pub whole-holds : (bytes : List ℕ) (n : ℕ) → value_unless (roster_offence bytes) (size_of bytes) ≡ Ok n → (n ≤ 8)
    × (key_place n ≤ length bytes)
whole-holds bytes n e =
    let parts = value_unless-ok (roster_offence bytes) (size_of bytes) n e in
    let u = unoffending bytes parts.0 in
    let s = sized bytes u.size in
    let last = right_key bytes (n - 1) (u.keys (n - 1) (omega (arith, s.least, parts.1))) in
    (omega (arith, s.most, parts.1), omega (arith, s.least, parts.1, last.whole))

-- and are read as the roster of these keys
pub whole-reads : (bytes : List ℕ) (n : ℕ) → value_unless (roster_offence bytes) (size_of bytes) ≡ Ok n
    → roster_read bytes ≡ Ok (record { version = 1; keys = keys_at bytes n })
whole-reads bytes n e =
    let parts = value_unless-ok (roster_offence bytes) (size_of bytes) n e in
    let version = byte_there bytes 4 1 (unoffending bytes parts.0).version in
    ap (λ (o : Option Offence). fault_as numbered (value_unless o (spelled_roster bytes))) parts.0
    ∙ ap (λ (v : ℕ). ok v (keys_at bytes (size_of bytes))) version.1
    ∙ ap (λ (m : ℕ). ok 1 (keys_at bytes m)) parts.1
  where
    ok : ℕ → List (List ℕ) → Result Roster (ℕ × ℕ)
    ok version keys = Ok (record { version = version; keys = keys })

-- the keys of such bytes are those of a roster
pub whole-form : (bytes : List ℕ) (n : ℕ) → value_unless (roster_offence bytes) (size_of bytes) ≡ Ok n
    → IsRosterForm (record { version = 1; keys = keys_at bytes n })
whole-form bytes n e = (roster_read-found bytes (record { version = 1; keys = keys_at bytes n }) (whole-reads bytes n e)).0.form

-- bytes with an offence are refused with it
pub offence-read : (bytes : List ℕ) (broken : Offence) → value_unless (roster_offence bytes) (size_of bytes) ≡ Err broken
    → roster_read bytes ≡ Err (numbered broken)
offence-read bytes broken e =
    ap (λ (o : Option Offence). fault_as numbered (value_unless o (spelled_roster bytes)))
    (value_unless-err (roster_offence bytes) (size_of bytes) broken e)

-- the same of keys that are these
pub form-keys : (bytes : List ℕ) (n : ℕ) (keys : List (List ℕ)) → keys ≡ keys_at bytes n
    → value_unless (roster_offence bytes) (size_of bytes) ≡ Ok n → IsRosterForm (record { version = 1; keys = keys })
form-keys bytes n keys same e = rw same (whole-form bytes n e)

pub read-keys : (bytes : List ℕ) (n : ℕ) (keys : List (List ℕ)) → keys ≡ keys_at bytes n
    → value_unless (roster_offence bytes) (size_of bytes) ≡ Ok n → roster_read bytes ≡ Ok (record { version = 1; keys = keys })
read-keys bytes n keys same e = rw same (whole-reads bytes n e)
