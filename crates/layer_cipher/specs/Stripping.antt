-- Taking the outermost layer off every entry of a list.
use Rattle.std.specs.Prelude.{◌≡◌, ℕ, List, [], ◌∷◌, ◌++◌, length, Option, Some, None, ◌↔◌, Any, Contains, IsPermutation}
use Rattle.std.specs.List.{AllZip}
use Rattle.std.specs.Option.{option_and_then, option_map}
use Rattle.ring_encrypt.specs.Capsule.{key_of_seed}
use Rattle.layer_cipher.specs.Layer.{Opens, peeled, opened_through}

-- the bodies of the entries, in their order, if the seed opens every entry
unfoldable pub stripped : List ℕ → List (List ℕ) → Option (List (List ℕ))
stripped seed [] = Some []
stripped seed (entry ∷ entries) =
    option_and_then (λ (found : List ℕ × List ℕ). option_map (λ (bodies : List (List ℕ)). found.1 ∷ bodies) (stripped seed entries))
    (peeled seed entry)

-- under the key of the seed, the entry is a layer of this body
abbrev pub HasBody : List ℕ → List ℕ → List ℕ → Type 0
HasBody seed entry body = (m : List ℕ) × Opens seed entry m body

-- under the key of the seed, the entry is a layer of no m and body
abbrev pub IsClosed : List ℕ → List ℕ → Type 0
IsClosed seed entry = (m body : List ℕ) → Opens seed entry m body → ⊥

-- a list is stripped to just those bodies of which its entries are the layers, one by one
abbrev pub StripsExactly : Type 0
StripsExactly = (seed : List ℕ) (entries bodies : List (List ℕ)) →
    (stripped seed entries ≡ Some bodies) ↔ AllZip (HasBody seed) entries bodies

-- it is not stripped exactly where some entry is no layer
abbrev pub StripsUnlessClosed : Type 0
StripsUnlessClosed = (seed : List ℕ) (entries : List (List ℕ)) → (stripped seed entries ≡ None) ↔ Any (IsClosed seed) entries

-- a stripped list has a body for each entry
abbrev pub StripsAll : Type 0
StripsAll = (seed : List ℕ) (entries bodies : List (List ℕ)) → stripped seed entries ≡ Some bodies → length bodies ≡ length entries

-- entries in another order are stripped to the bodies in another order
abbrev pub StripsInAnyOrder : Type 0
StripsInAnyOrder = (seed : List ℕ) (entries others bodies : List (List ℕ)) → IsPermutation entries others →
    stripped seed entries ≡ Some bodies →
    (rest : List (List ℕ)) × (stripped seed others ≡ Some rest) × IsPermutation bodies rest

-- seeds of one key strip alike
abbrev pub KeyStrips : Type 0
KeyStrips = (seed seed' : List ℕ) (entries : List (List ℕ)) → key_of_seed seed ≡ key_of_seed seed' →
    stripped seed entries ≡ stripped seed' entries

-- ---- through many layers

-- the bodies with as many layers off as there are seeds, if each layer of every entry opens
unfoldable pub stripped_through : List (List ℕ) → List (List ℕ) → Option (List (List ℕ))
stripped_through [] entries = Some entries
stripped_through (seed ∷ seeds) entries = option_and_then (stripped_through seeds) (stripped seed entries)

-- under the keys of the seeds, the entry opens to this body
abbrev pub OpensTo : List (List ℕ) → List ℕ → List ℕ → Type 0
OpensTo seeds entry body = (ms : List (List ℕ)) × (opened_through seeds entry ≡ Some (ms, body))

-- a list is stripped through many layers to just what its entries open to, one by one
abbrev pub StripsThroughExactly : Type 0
StripsThroughExactly = (seeds entries bodies : List (List ℕ)) →
    (stripped_through seeds entries ≡ Some bodies) ↔ AllZip (OpensTo seeds) entries bodies

-- one layer more
abbrev pub StripsThroughMore : Type 0
StripsThroughMore = (seeds : List (List ℕ)) (seed : List ℕ) (entries bodies : List (List ℕ)) →
    stripped_through seeds entries ≡ Some bodies →
    stripped_through (seeds ++ seed ∷ []) entries ≡ stripped seed bodies

-- entries in another order come through to the bodies in another order
abbrev pub StripsThroughInAnyOrder : Type 0
StripsThroughInAnyOrder = (seeds entries others bodies : List (List ℕ)) → IsPermutation entries others →
    stripped_through seeds entries ≡ Some bodies →
    (rest : List (List ℕ)) × (stripped_through seeds others ≡ Some rest) × IsPermutation bodies rest

-- what an entry of the list opens to is among the bodies
abbrev pub StripsThroughKeeps : Type 0
StripsThroughKeeps = (seeds entries bodies : List (List ℕ)) (entry body : List ℕ) → stripped_through seeds entries ≡ Some bodies →
    Contains entries entry → OpensTo seeds entry body →
    Contains bodies body
