-- A list with the outermost layer taken off every entry.
use Rattle.std.proofs.Common.{◌≡◌, ℕ, zero, suc, ◌<◌, List, [], ◌∷◌, ◌++◌, length, map, get_or, refl, sym, ap, ◌∙◌, arith, Option, Some, None, Any, IsPermutation}
use Rattle.std.specs.List.{AllZip}
use Rattle.std.specs.Option.{option_and_then, option_map}
use Rattle.std.proofs.lemmas.List.Sorted.{IsPermutation-map}
use Rattle.layer_cipher.specs.Layer.{Opens, peeled}
use Rattle.layer_cipher.specs.Stripping.{stripped, HasBody, IsClosed, StripsExactly, StripsUnlessClosed, StripsAll, StripsInAnyOrder, KeyStrips}
use Rattle.layer_cipher.proofs.LayerLemmas.{peels_exactly, key_peels}
use Rattle.layer_cipher.proofs.Swaps.{from_mapped}

-- one entry more: what the seed finds in it, and the bodies of the others
next : Option (List ℕ × List ℕ) → Option (List (List ℕ)) → Option (List (List ℕ))
next found others = option_and_then (λ (x : List ℕ × List ℕ). option_map (λ (bodies : List (List ℕ)). x.1 ∷ bodies) others) found

stripped-cons : (seed entry : List ℕ) (entries : List (List ℕ))
    → stripped seed (entry ∷ entries) ≡ next (peeled seed entry) (stripped seed entries)
unfolding stripped next
stripped-cons seed entry entries = refl

stripped-nil : (seed : List ℕ) → stripped seed [] ≡ Some []
unfolding stripped
stripped-nil seed = refl

record Parts (found : Option (List ℕ × List ℕ)) (others : Option (List (List ℕ))) (bodies : List (List ℕ)) : Type 0 where
  first : List ℕ × List ℕ
  rest : List (List ℕ)
  found_is : found ≡ Some first
  others_are : others ≡ Some rest
  bodies_are : bodies ≡ first.1 ∷ rest

parts_of : (found : Option (List ℕ × List ℕ)) (others : Option (List (List ℕ))) (bodies : List (List ℕ)) → next found others ≡ Some bodies
    → Parts found others bodies
unfolding next
parts_of None others bodies e = cc
parts_of (Some x) None bodies e = cc
parts_of (Some x) (Some rest) bodies e = record { first = x; rest = rest; found_is = refl; others_are = refl; bodies_are = cc }

next_none : (found : Option (List ℕ × List ℕ)) (others : Option (List (List ℕ))) → others ≡ None → next found others ≡ None
unfolding next
next_none None others e = refl
next_none (Some x) others e = rw e refl

-- ---- exactness
there : (seed : List ℕ) (entries bodies : List (List ℕ)) → stripped seed entries ≡ Some bodies → AllZip (HasBody seed) entries bodies
there seed [] [] e = tt
there seed [] (body ∷ bodies) e = let none : Some [] ≡ Some (body ∷ bodies) = sym (stripped-nil seed) ∙ e in cc
there seed (entry ∷ entries) bodies e =
    let parts = parts_of (peeled seed entry) (stripped seed entries) bodies (sym (stripped-cons seed entry entries) ∙ e) in
    rw parts.bodies_are (
      (parts.first.0, (peels_exactly seed entry parts.first.0 parts.first.1).0 parts.found_is),
      there seed entries parts.rest parts.others_are,
    )

back : (seed : List ℕ) (entries bodies : List (List ℕ)) → AllZip (HasBody seed) entries bodies → stripped seed entries ≡ Some bodies
unfolding next
back seed [] [] all = stripped-nil seed
back seed [] (body ∷ bodies) all = absurd all
back seed (entry ∷ entries) [] all = absurd all
back seed (entry ∷ entries) (body ∷ bodies) all =
    let first : peeled seed entry ≡ Some (all.0.0, body) = (peels_exactly seed entry all.0.0 body).1 all.0.1 in
    rw (stripped-cons seed entry entries, first, back seed entries bodies all.1) refl

pub strips_exactly : StripsExactly
strips_exactly seed entries bodies = (there seed entries bodies, back seed entries bodies)

pub strips_all : StripsAll
strips_all seed [] [] e = refl
strips_all seed [] (body ∷ bodies) e = absurd (there seed [] (body ∷ bodies) e)
strips_all seed (entry ∷ entries) [] e = absurd (there seed (entry ∷ entries) [] e)
strips_all seed (entry ∷ entries) (body ∷ bodies) e =
    let all = there seed (entry ∷ entries) (body ∷ bodies) e in
    let rest : length bodies ≡ length entries = strips_all seed entries bodies (back seed entries bodies all.1) in
    omega arith

-- ---- an entry that is no layer
closed_from : (seed entry : List ℕ) → peeled seed entry ≡ None → IsClosed seed entry
closed_from seed entry none m body opens = let some : peeled seed entry ≡ Some (m, body) = (peels_exactly seed entry m body).1 opens in cc

none_from : (o : Option (List ℕ × List ℕ)) → ((x : List ℕ × List ℕ) → o ≡ Some x → ⊥) → o ≡ None
none_from None h = refl
none_from (Some x) h = absurd (h x refl)

peeled_none : (seed entry : List ℕ) → IsClosed seed entry → peeled seed entry ≡ None
peeled_none seed entry closed = none_from (peeled seed entry) (λ x e. closed x.0 x.1 ((peels_exactly seed entry x.0 x.1).0 e))

later : (P : List ℕ → Type 0) (x : List ℕ) (xs : List (List ℕ)) → Any P xs → Any P (x ∷ xs)
later P x xs any = (suc any.0, any.1, omega (arith, any.2), any.3, any.4)

first_or_later : (seed entry : List ℕ) (entries : List (List ℕ)) (o : Option (List ℕ × List ℕ)) (r : Option (List (List ℕ)))
    → peeled seed entry ≡ o → stripped seed entries ≡ r
    → next o r ≡ None → (stripped seed entries ≡ None → Any (IsClosed seed) entries) → Any (IsClosed seed) (entry ∷ entries)
unfolding next
first_or_later seed entry entries None r is are e rest = (zero, entry, omega arith, refl, closed_from seed entry is)
first_or_later seed entry entries (Some x) None is are e rest = later (IsClosed seed) entry entries (rest are)
first_or_later seed entry entries (Some x) (Some bodies) is are e rest = cc

closed_there : (seed : List ℕ) (entries : List (List ℕ)) → stripped seed entries ≡ None → Any (IsClosed seed) entries
closed_there seed [] e = let none : Some [] ≡ None = sym (stripped-nil seed) ∙ e in cc
closed_there seed (entry ∷ entries) e =
    first_or_later seed entry entries (peeled seed entry) (stripped seed entries) refl refl (sym (stripped-cons seed entry entries) ∙ e)
    (closed_there seed entries)

closed_back : (seed : List ℕ) (entries : List (List ℕ)) (k : ℕ) (x : List ℕ) → k < length entries → get_or entries k x ≡ x → IsClosed seed x
    → stripped seed entries ≡ None
unfolding next
closed_back seed [] k x below is closed = absurd (omega arith)
closed_back seed (entry ∷ entries) zero x below is closed =
    let same : entry ≡ x = is in
    rw (stripped-cons seed entry entries, same, peeled_none seed x closed) refl
closed_back seed (entry ∷ entries) (suc k) x below is closed =
    stripped-cons seed entry entries ∙ next_none (peeled seed entry) (stripped seed entries)
    (closed_back seed entries k x (omega arith) is closed)

pub strips_unless_closed : StripsUnlessClosed
strips_unless_closed seed entries = (closed_there seed entries, λ any. closed_back seed entries any.0 any.1 any.2 any.3 any.4)

-- ---- in any order
found_in : List ℕ → List ℕ → Option (List ℕ)
found_in seed entry = option_map (λ (x : List ℕ × List ℕ). x.1) (peeled seed entry)

mapped : (seed : List ℕ) (entries bodies : List (List ℕ)) → AllZip (HasBody seed) entries bodies
    → map (found_in seed) entries ≡ map Some bodies
unfolding found_in
mapped seed [] [] all = refl
mapped seed [] (body ∷ bodies) all = absurd all
mapped seed (entry ∷ entries) [] all = absurd all
mapped seed (entry ∷ entries) (body ∷ bodies) all =
    let first : peeled seed entry ≡ Some (all.0.0, body) = (peels_exactly seed entry all.0.0 body).1 all.0.1 in
    let here : option_map (λ (x : List ℕ × List ℕ). x.1) (peeled seed entry) ≡ Some body = ap (option_map (λ (x : List ℕ × List ℕ). x.1))
    first in
    rw (here, mapped seed entries bodies all.1) refl

found_from : (o : Option (List ℕ × List ℕ)) (body : List ℕ) → option_map (λ (x : List ℕ × List ℕ). x.1) o ≡ Some body
    → (x : List ℕ × List ℕ) × (o ≡ Some x) × (x.1 ≡ body)
found_from None body e = cc
found_from (Some x) body e = (x, refl, cc)

unmapped : (seed : List ℕ) (entries bodies : List (List ℕ)) → map (found_in seed) entries ≡ map Some bodies
    → stripped seed entries ≡ Some bodies
unfolding found_in next
unmapped seed [] [] e = stripped-nil seed
unmapped seed [] (body ∷ bodies) e = cc
unmapped seed (entry ∷ entries) [] e = cc
unmapped seed (entry ∷ entries) (body ∷ bodies) e =
    let first : option_map (λ (x : List ℕ × List ℕ). x.1) (peeled seed entry) ≡ Some body = cc in
    let rest : map (found_in seed) entries ≡ map Some bodies = cc in
    let found = found_from (peeled seed entry) body first in
    rw (stripped-cons seed entry entries, found.1, unmapped seed entries bodies rest, found.2) refl

pub strips_in_any_order : StripsInAnyOrder
strips_in_any_order seed entries others bodies moved e =
    let across : IsPermutation (map Some bodies) (map (found_in seed) others) = rw
    (mapped seed entries bodies (there seed entries bodies e)) at (IsPermutation-map (found_in seed) entries others moved) in
    let rest = from_mapped Some bodies (map (found_in seed) others) across in
    (rest.0, unmapped seed others rest.0 rest.1, rest.2)

-- ---- seeds of one key
pub key_strips : KeyStrips
key_strips seed seed' [] same = stripped-nil seed ∙ sym (stripped-nil seed')
key_strips seed seed' (entry ∷ entries) same =
    rw (
      stripped-cons seed entry entries,
      stripped-cons seed' entry entries,
      key_peels seed seed' entry same,
      key_strips seed seed' entries
          same,
    ) refl

-- ---- a loop over the entries
AllZip-push : {A B : Type 0} (R : A → B → Type 0) (xs : List A) (ys : List B) (x : A) (y : B) → AllZip R xs ys → R x y
    → AllZip R (xs ++ x ∷ []) (ys ++ y ∷ [])
AllZip-push R [] [] x y all one = (one, tt)
AllZip-push R [] (b ∷ rest) x y all one = absurd all
AllZip-push R (a ∷ more) [] x y all one = absurd all
AllZip-push R (a ∷ more) (b ∷ rest) x y all one = (all.0, AllZip-push R more rest x y all.1 one)

pub stripped_none : (seed : List ℕ) → stripped seed [] ≡ Some []
stripped_none seed = stripped-nil seed

pub stripped_push : (seed : List ℕ) (entries bodies : List (List ℕ)) (entry m body : List ℕ) → stripped seed entries ≡ Some bodies
    → Opens seed entry m body
    → stripped seed (entries ++ entry ∷ []) ≡ Some (bodies ++ body ∷ [])
stripped_push seed entries bodies entry m body so_far opens =
    (strips_exactly seed (entries ++ entry ∷ []) (bodies ++ body ∷ [])).1
    (AllZip-push (HasBody seed) entries bodies entry body ((strips_exactly seed entries bodies).0 so_far) (m, opens))

pub stripped_closed : (seed : List ℕ) (entries : List (List ℕ)) (k : ℕ) (entry : List ℕ) → k < length entries
    → get_or entries k entry ≡ entry → IsClosed seed entry → stripped seed entries ≡ None
stripped_closed seed entries k entry below is closed = closed_back seed entries k entry below is closed
