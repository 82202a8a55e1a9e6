-- A list with many layers taken off every entry.
use Rattle.std.proofs.Common.{◌≡◌, ℕ, List, [], ◌∷◌, ◌++◌, get_or, refl, sym, ap, ◌∙◌, arith, Option, Some, None}
use Rattle.std.specs.List.{AllZip}
use Rattle.std.specs.Option.{option_and_then, option_map}
use Rattle.std.proofs.lemmas.List.Elements.{AllZip-get_or, length_all_zip}
use Rattle.layer_cipher.specs.Layer.{peeled, opened_through}
use Rattle.layer_cipher.specs.Stripping.{stripped, stripped_through, HasBody, OpensTo, StripsThroughExactly, StripsThroughMore, StripsThroughInAnyOrder, StripsThroughKeeps}
use Rattle.layer_cipher.proofs.LayerLemmas.{peels_exactly}
use Rattle.layer_cipher.proofs.StrippingLemmas.{strips_exactly, strips_in_any_order}

-- what is found on the way to an answer
record Way {A B : Type 0} (f : A → Option B) (o : Option A) (answer : B) : Type 0 where
  middle : A
  first : o ≡ Some middle
  rest : f middle ≡ Some answer

way_of : {A B : Type 0} (f : A → Option B) (o : Option A) (answer : B) → option_and_then f o ≡ Some answer → Way f o answer
way_of f None answer e = cc
way_of f (Some x) answer e = record { middle = x; first = refl; rest = e }

through-nil : (entries : List (List ℕ)) → stripped_through [] entries ≡ Some entries
unfolding stripped_through
through-nil entries = refl

through-cons : (seed : List ℕ) (seeds entries : List (List ℕ)) → stripped_through (seed ∷ seeds) entries ≡ option_and_then
    (stripped_through seeds) (stripped seed entries)
unfolding stripped_through
through-cons seed seeds entries = refl

through_way : (seed : List ℕ) (seeds entries bodies : List (List ℕ)) → stripped_through (seed ∷ seeds) entries ≡ Some bodies
    → Way (stripped_through seeds) (stripped seed entries) bodies
through_way seed seeds entries bodies e = way_of (stripped_through seeds) (stripped seed entries) bodies
    (sym (through-cons seed seeds entries) ∙ e)

same_last : (x y : List (List ℕ) × List ℕ) → Some x ≡ Some y → x.1 ≡ y.1
same_last x y e = let same : x ≡ y = cc in ap (λ (p : List (List ℕ) × List ℕ). p.1) same

same_lists : (x y : List (List ℕ)) → Some x ≡ Some y → x ≡ y
same_lists x y e = cc

-- ---- one entry
opened_more : (seed : List ℕ) (seeds : List (List ℕ)) (p : List ℕ × List ℕ) → Option (List (List ℕ) × List ℕ)
opened_more seed seeds p = option_map (λ (q : List (List ℕ) × List ℕ). (p.0 ∷ q.0, q.1)) (opened_through seeds p.1)

opened-cons : (seed : List ℕ) (seeds : List (List ℕ)) (entry : List ℕ)
    → opened_through (seed ∷ seeds) entry ≡ option_and_then (opened_more seed seeds) (peeled seed entry)
unfolding opened_through opened_more
opened-cons seed seeds entry = refl

opens_on : (seed : List ℕ) (seeds : List (List ℕ)) (entry middle body : List ℕ) → HasBody seed entry middle → OpensTo seeds middle body
    → OpensTo (seed ∷ seeds) entry body
unfolding opened_more
opens_on seed seeds entry middle body outer inner =
    let first : peeled seed entry ≡ Some (outer.0, middle) = (peels_exactly seed entry outer.0 middle).1 outer.1 in
    (outer.0 ∷ inner.0, rw (opened-cons seed seeds entry, first, inner.1) refl)

last_found : (m : List ℕ) (o : Option (List (List ℕ) × List ℕ)) (ms : List (List ℕ)) (body : List ℕ)
    → option_map {U = List (List ℕ) × List ℕ} (λ (q : List (List ℕ) × List ℕ). (m ∷ q.0, q.1)) o ≡ Some (ms, body) → (rest : List (List ℕ))
    × (o ≡ Some (rest, body))
last_found m None ms body e = cc
last_found m (Some q) ms body e =
    let same : q.1 ≡ body = same_last (m ∷ q.0, q.1) (ms, body) e in
    (q.0, ap (λ (b : List ℕ). Some (q.0, b)) same)

opens_apart : (seed : List ℕ) (seeds : List (List ℕ)) (entry body : List ℕ) → OpensTo (seed ∷ seeds) entry body
    → (middle : List ℕ) × HasBody seed entry middle × OpensTo seeds middle body
unfolding opened_more
opens_apart seed seeds entry body opens =
    let way = way_of (opened_more seed seeds) (peeled seed entry) (opens.0, body) (sym (opened-cons seed seeds entry) ∙ opens.1) in (
      way.middle.1,
      (way.middle.0, (peels_exactly seed entry way.middle.0 way.middle.1).0 way.first),
      last_found way.middle.0 (opened_through seeds way.middle.1) opens.0 body way.rest,
    )

-- ---- the entries of a list
opens_unsealed : (entries : List (List ℕ)) → AllZip (OpensTo []) entries entries
unfolding opened_through
opens_unsealed [] = tt
opens_unsealed (entry ∷ entries) = (([], refl), opens_unsealed entries)

unsealed_same : (entries bodies : List (List ℕ)) → AllZip (OpensTo []) entries bodies → entries ≡ bodies
unfolding opened_through
unsealed_same [] [] all = refl
unsealed_same [] (body ∷ bodies) all = absurd all
unsealed_same (entry ∷ entries) [] all = absurd all
unsealed_same (entry ∷ entries) (body ∷ bodies) all =
    let same : entry ≡ body = same_last ([], entry) (all.0.0, body) all.0.1 in
    rw (same, unsealed_same entries bodies all.1) refl

joined : (seed : List ℕ) (seeds entries middles bodies : List (List ℕ)) → AllZip (HasBody seed) entries middles
    → AllZip (OpensTo seeds) middles bodies → AllZip (OpensTo (seed ∷ seeds)) entries bodies
joined seed seeds [] [] [] outer inner = tt
joined seed seeds [] [] (body ∷ bodies) outer inner = absurd inner
joined seed seeds [] (middle ∷ middles) bodies outer inner = absurd outer
joined seed seeds (entry ∷ entries) [] bodies outer inner = absurd outer
joined seed seeds (entry ∷ entries) (middle ∷ middles) [] outer inner = absurd inner
joined seed seeds (entry ∷ entries) (middle ∷ middles) (body ∷ bodies) outer inner =
    (opens_on seed seeds entry middle body outer.0 inner.0, joined seed seeds entries middles bodies outer.1 inner.1)

parted : (seed : List ℕ) (seeds entries bodies : List (List ℕ)) → AllZip (OpensTo (seed ∷ seeds)) entries bodies
    → (middles : List (List ℕ)) × AllZip (HasBody seed) entries middles × AllZip (OpensTo seeds) middles bodies
parted seed seeds [] [] all = ([], tt, tt)
parted seed seeds [] (body ∷ bodies) all = absurd all
parted seed seeds (entry ∷ entries) [] all = absurd all
parted seed seeds (entry ∷ entries) (body ∷ bodies) all =
    let first = opens_apart seed seeds entry body all.0 in
    let rest = parted seed seeds entries bodies all.1 in
    (first.0 ∷ rest.0, (first.1, rest.1), (first.2, rest.2))

there : (seeds entries bodies : List (List ℕ)) → stripped_through seeds entries ≡ Some bodies → AllZip (OpensTo seeds) entries bodies
there [] entries bodies e = let same = same_lists entries bodies (sym (through-nil entries) ∙ e) in rw same (opens_unsealed bodies)
there (seed ∷ seeds) entries bodies e =
    let way = through_way seed seeds entries bodies e in
    joined seed seeds entries way.middle bodies ((strips_exactly seed entries way.middle).0 way.first)
    (there seeds way.middle bodies way.rest)

back : (seeds entries bodies : List (List ℕ)) → AllZip (OpensTo seeds) entries bodies → stripped_through seeds entries ≡ Some bodies
back [] entries bodies all = through-nil entries ∙ ap Some (unsealed_same entries bodies all)
back (seed ∷ seeds) entries bodies all =
    let parts = parted seed seeds entries bodies all in
    let first : stripped seed entries ≡ Some parts.0 = (strips_exactly seed entries parts.0).1 parts.1 in
    rw (through-cons seed seeds entries, first) (back seeds parts.0 bodies parts.2)

pub strips_through_exactly : StripsThroughExactly
strips_through_exactly seeds entries bodies = (there seeds entries bodies, back seeds entries bodies)

-- ---- one layer more
through_none : (o : Option (List (List ℕ))) → option_and_then (stripped_through []) o ≡ o
through_none None = refl
through_none (Some bodies) = through-nil bodies

pub strips_through_more : StripsThroughMore
strips_through_more [] seed entries bodies e =
    let same = same_lists entries bodies (sym (through-nil entries) ∙ e) in
    through-cons seed [] entries ∙ through_none (stripped seed entries) ∙ ap (stripped seed) same
strips_through_more (first ∷ seeds) seed entries bodies e =
    let way = through_way first seeds entries bodies e in
    through-cons first (seeds ++ seed ∷ []) entries ∙ ap (option_and_then (stripped_through (seeds ++ seed ∷ []))) way.first
    ∙ strips_through_more seeds seed way.middle bodies way.rest

-- ---- in any order
pub strips_through_in_any_order : StripsThroughInAnyOrder
strips_through_in_any_order [] entries others bodies moved e =
    let same = same_lists entries bodies (sym (through-nil entries) ∙ e) in
    (others, through-nil others, rw same at moved)
strips_through_in_any_order (seed ∷ seeds) entries others bodies moved e =
    let way = through_way seed seeds entries bodies e in
    let outer = strips_in_any_order seed entries others way.middle moved way.first in
    let inner = strips_through_in_any_order seeds way.middle outer.0 bodies outer.2 way.rest in
    (inner.0, rw (through-cons seed seeds others, outer.1) inner.1, inner.2)

-- ---- what an entry opens to is there
same_body : (seeds : List (List ℕ)) (entry x y : List ℕ) → OpensTo seeds entry x → OpensTo seeds entry y → x ≡ y
same_body seeds entry x y first second = same_last (first.0, x) (second.0, y) (sym first.1 ∙ second.1)

pub strips_through_keeps : StripsThroughKeeps
strips_through_keeps seeds entries bodies entry body e has opens =
    let all = there seeds entries bodies e in
    let long = length_all_zip (OpensTo seeds) entries bodies all in
    let here : OpensTo seeds (get_or entries has.0 entry) (get_or bodies has.0 body) = AllZip-get_or (OpensTo seeds) entries bodies has.0
    entry body all has.1 in
    let at : OpensTo seeds entry (get_or bodies has.0 body) = rw has.2 at here in
    (has.0, omega (arith, has.1, long), same_body seeds entry (get_or bodies has.0 body) body at opens)
