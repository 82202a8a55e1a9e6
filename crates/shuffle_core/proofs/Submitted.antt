-- What is submitted is opened again, and where it stands in a list.
use Rattle.std.proofs.Common.{◌≡◌, ℕ, ◌+◌, ◌*◌, ◌<◌, ◌≤◌, List, [], ◌∷◌, ◌++◌, length, map, get_or, Bool, true, false, cond, nat_lt, refl, sym, ap, ◌∙◌, arith, Option, Some, None, Contains, slice_get}
use Rattle.std.specs.List.{position_or_len}
use Rattle.std.specs.Option.{option_and_then, option_map}
use Rattle.std.specs.Str.{bytes_eq}
use Rattle.std.proofs.lemmas.Slice.Eq.{bytes_eq-Decides}
use Rattle.std.proofs.lemmas.Bool.Decides.{nat_tests}
use Rattle.std.proofs.lemmas.Option.{slice_get-get_or, slice_get_within, get_or_from_slice_get}
use Rattle.std.proofs.lemmas.List.Quantifiers.{position-Some}
use Rattle.std.proofs.lemmas.List.Sums.{position_or_len_is, fails_before_first}
use Rattle.ring_encrypt.specs.Capsule.{key_of_seed}
use Rattle.layer_cipher.specs.Layer.{Opens, layer_of, peeled, wrapping_of, opened_through}
use Rattle.layer_cipher.proofs.LayerLemmas.{peels_exactly}
use Rattle.layer_cipher.proofs.WrapLemmas.{wrapping_adds, wrapped_opens}
use Rattle.shuffle_core.specs.Shuffle.{body_of, opened_item, place_of}
use Rattle.shuffle_core.specs.Laws.{IsWrapped, OpensToWhatIsWrapped, OpensInParts, SubmissionOpens, SubmissionAdds, PlaceIsLeast, PlaceIsFound}
use Rattle.shuffle_core.proofs.Opened.{opened_item-nil, opened_item-cons}

-- ---- what is opened

same_found : (x y : List ℕ) → Some x ≡ Some y → x ≡ y
same_found x y e = cc

opens_body : (seed entry body : List ℕ) (o : Option (List ℕ × List ℕ)) → peeled seed entry ≡ o
    → option_map (λ (found : List ℕ × List ℕ). found.1) o ≡ Some body → (m : List ℕ) × Opens seed entry m body
opens_body seed entry body None is e = cc
opens_body seed entry body (Some p) is e =
    let same : p.1 ≡ body = same_found p.1 body e in
    (p.0, rw same at ((peels_exactly seed entry p.0 p.1).0 is))

wrapped_more : (seed entry item : List ℕ) (seeds : List (List ℕ)) (o : Option (List ℕ)) → body_of seed entry ≡ o
    → option_and_then (opened_item seeds) o ≡ Some item
    → ((body : List ℕ) → opened_item seeds body ≡ Some item → IsWrapped seeds body item) → IsWrapped (seed ∷ seeds) entry item
unfolding wrapping_of
wrapped_more seed entry item seeds None is e rest = cc
wrapped_more seed entry item seeds (Some body) is e rest =
    let inside = rest body e in
    let outside = opens_body seed entry body (peeled seed entry) refl is in (
      outside.0 ∷ inside.0,
      omega (arith, inside.1),
      (outside.1.message, inside.2),
      outside.1.is
          ∙ ap (layer_of (key_of_seed seed) outside.0) inside.3,
    )

wrapped_of : (seeds : List (List ℕ)) (entry item : List ℕ) → opened_item seeds entry ≡ Some item → IsWrapped seeds entry item
unfolding wrapping_of
wrapped_of [] entry item e = ([], refl, tt, same_found entry item (sym (opened_item-nil entry) ∙ e))
wrapped_of (seed ∷ seeds) entry item e =
    wrapped_more seed entry item seeds (body_of seed entry) refl (sym (opened_item-cons seed seeds entry) ∙ e)
    (λ body f. wrapped_of seeds body item f)

last_of : (seeds ms : List (List ℕ)) (entry item : List ℕ) → opened_through seeds entry ≡ Some (ms, item)
    → opened_item seeds entry ≡ Some item
unfolding opened_item
last_of seeds ms entry item e = ap (option_map (λ (found : List (List ℕ) × List ℕ). found.1)) e

pub opens_to_what_is_wrapped : OpensToWhatIsWrapped
opens_to_what_is_wrapped seeds entry item = (
  wrapped_of seeds entry item,
  λ wrapped.
      rw wrapped.3 (last_of seeds wrapped.0 (wrapping_of (map key_of_seed seeds) wrapped.0 item) item
      (wrapped_opens seeds wrapped.0 item (sym wrapped.1) wrapped.2)),
)

parts_more : (seed entry inside item : List ℕ) (first others : List (List ℕ)) (o : Option (List ℕ))
    → option_and_then (opened_item first) o ≡ Some inside
    → ((body : List ℕ) → opened_item first body ≡ Some inside → opened_item (first ++ others) body ≡ Some item)
    → option_and_then (opened_item (first ++ others)) o ≡ Some item
parts_more seed entry inside item first others None e rest = cc
parts_more seed entry inside item first others (Some body) e rest = rest body e

pub opens_in_parts : OpensInParts
opens_in_parts [] others entry inside item e f = let same = same_found entry inside (sym (opened_item-nil entry) ∙ e) in rw same f
opens_in_parts (seed ∷ first) others entry inside item e f =
    opened_item-cons seed (first ++ others) entry
    ∙ parts_more seed entry inside item first others (body_of seed entry) (sym (opened_item-cons seed first entry) ∙ e)
    (λ body g. opens_in_parts first others body inside item g f)

pub submission_opens : SubmissionOpens
submission_opens inner outer inner_ms outer_ms item made =
    let inside = wrapping_of (map key_of_seed inner) inner_ms item in
    let outside = wrapping_of (map key_of_seed outer) outer_ms inside in
    let first : opened_through outer outside ≡ Some (outer_ms, inside) = wrapped_opens outer outer_ms inside (sym made.outer_seeds)
    made.outer_messages in
    let second : opened_through inner inside ≡ Some (inner_ms, item) = wrapped_opens inner inner_ms item (sym made.inner_seeds)
    made.inner_messages in (
      first,
      second,
      opens_in_parts outer inner outside inside item (last_of outer outer_ms outside inside first)
          (last_of inner inner_ms inside item second),
    )

pub submission_adds : SubmissionAdds
submission_adds inner outer inner_ms outer_ms item many as_many =
    let inside = wrapping_of inner inner_ms item in
    let first : length inside ≡ length item + 2272 * length inner = wrapping_adds inner inner_ms item many in
    let second : length (wrapping_of outer outer_ms inside) ≡ length inside + 2272 * length outer = wrapping_adds outer outer_ms inside
    as_many in
    (first, omega arith)

-- ---- where an entry stands

not_true : (b : Bool) → (b ≡ true → ⊥) → b ≡ false
not_true true h = absurd (h refl)
not_true false h = refl

holds_at : (entries : List (List ℕ)) (entry : List ℕ) (place : ℕ) → slice_get entries place ≡ Some entry
    → bytes_eq (get_or entries place []) entry ≡ true
holds_at entries entry place e = (bytes_eq-Decides (get_or entries place []) entry).1 (get_or_from_slice_get entries place entry [] e)

at_place : (entries : List (List ℕ)) (entry : List ℕ) (place : ℕ) → place < length entries → bytes_eq (get_or entries place []) entry ≡ true
    → slice_get entries place ≡ Some entry
at_place entries entry place within test = slice_get-get_or entries place [] within
    ∙ ap Some ((bytes_eq-Decides (get_or entries place []) entry).0 test)

abbrev IsLeastPlace : List (List ℕ) → List ℕ → ℕ → Type 0
IsLeastPlace entries entry place = (slice_get entries place ≡ Some entry)
    × ((earlier : ℕ) → earlier < place → slice_get entries earlier ≡ Some entry → ⊥)

least : (entries : List (List ℕ)) (entry : List ℕ) (place : ℕ) → place_of entries entry ≡ Some place → IsLeastPlace entries entry place
least entries entry place e =
    let found = position-Some (λ other. bytes_eq other entry) entries place [] e in (
      at_place entries entry place found.0 found.1,
      λ earlier before is.
          let passes = holds_at entries entry earlier is in
          let fails = found.2 earlier before in
          cc,
    )

chosen_place : (n place : ℕ) → place < n → cond (nat_lt place n) (Some place) None ≡ Some place
chosen_place n place below = let test : nat_lt place n ≡ true = grind (arith, nat_tests) in rw test refl

placed : (entries : List (List ℕ)) (entry : List ℕ) (place : ℕ) → IsLeastPlace entries entry place → place_of entries entry ≡ Some place
placed entries entry place is =
    let within = slice_get_within entries place entry is.0 in
    let at : position_or_len (λ other. bytes_eq other entry) entries ≡ place
    = position_or_len_is (λ other. bytes_eq other entry) entries place [] (omega arith)
    (λ k before. not_true (bytes_eq (get_or entries k []) entry) (λ test. is.1 k before (at_place entries entry k (omega arith) test)))
    (λ _. holds_at entries entry place is.0) in
    rw at (chosen_place (length entries) place within)

pub place_is_least : PlaceIsLeast
place_is_least entries entry place = (least entries entry place, placed entries entry place)

past : (b : Bool) (place : ℕ) → cond b (Some place) None ≡ None → b ≡ false
past true place e = cc
past false place e = refl

missing : (entries : List (List ℕ)) (entry : List ℕ) → place_of entries entry ≡ None → Contains entries entry → ⊥
missing entries entry e has =
    let first = position_or_len (λ other. bytes_eq other entry) entries in
    let test : nat_lt first (length entries) ≡ false = past (nat_lt first (length entries)) first e in
    let all : length entries ≤ first = grind (arith, nat_tests) in
    let fails : bytes_eq (get_or entries has.0 entry) entry ≡ false = fails_before_first (λ other. bytes_eq other entry) entries has.0 entry
    (omega (arith, has.1)) in
    let passes : bytes_eq (get_or entries has.0 entry) entry ≡ true = (bytes_eq-Decides (get_or entries has.0 entry) entry).1 has.2 in
    cc

none_from : (o : Option ℕ) → ((place : ℕ) → o ≡ Some place → ⊥) → o ≡ None
none_from None h = refl
none_from (Some place) h = absurd (h place refl)

unplaced : (entries : List (List ℕ)) (entry : List ℕ) → (Contains entries entry → ⊥) → place_of entries entry ≡ None
unplaced entries entry absent =
    none_from (place_of entries entry) (λ place e.
    let found = position-Some (λ other. bytes_eq other entry) entries place entry e in
    absent (place, found.0, (bytes_eq-Decides (get_or entries place entry) entry).0 found.1))

pub place_is_found : PlaceIsFound
place_is_found entries entry = (missing entries entry, unplaced entries entry)
