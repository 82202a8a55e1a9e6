-- Where the order of deliveries changes nothing.
use Rattle.std.specs.Prelude.{◌≡◌, ℕ, List, IsPermutation, IsTrue, Contains, is_ok, Some}
use Rattle.round_spec.specs.Embedded.{slot_named}
use Rattle.round_spec.specs.Say.{Configuration}
use Rattle.round_spec.specs.Result.{Heard, heard_of, posts_of, result_of}

-- all that is heard of deliveries has a body in the grammar, and no two different strings are heard for one slot
pub record AreOrderless (c : Configuration) (delivered : List (List ℕ)) : Type 0 where
  pub read : (bytes : List ℕ) (heard : Heard) → Contains delivered bytes → heard_of c bytes ≡ Some heard →
      IsTrue (is_ok heard.content)
  pub single : (bytes other : List ℕ) (heard second : Heard) → Contains delivered bytes → Contains delivered other →
      heard_of c bytes ≡ Some heard → heard_of c other ≡ Some second →
      slot_named heard.header ≡ slot_named second.header → bytes ≡ other

-- then every reordering has the same result and the same posts
abbrev pub OrderChangesNothing : Type 0
OrderChangesNothing = (c : Configuration) (delivered reordered : List (List ℕ)) → AreOrderless c delivered →
    IsPermutation delivered reordered →
    (result_of c reordered ≡ result_of c delivered) × (posts_of c reordered ≡ posts_of c delivered)
