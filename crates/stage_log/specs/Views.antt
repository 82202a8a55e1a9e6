-- The strings of which the views are hashes.
use Rattle.std.specs.Prelude.{ℕ, zero, suc, List, [], ◌∷◌, Contains}
use Rattle.wire_core.specs.declared.tag.Tag.TheVariants.{View}
use Rattle.wire_core.specs.Hash.{Collides, hashed}
use Rattle.phase_message.specs.Shape.{Shape}
use Rattle.stage_log.specs.Log.{contents_at, view_of}

-- the string that is hashed for the view at a stage
abbrev pub view_string : Shape → List (List ℕ) → ℕ → List ℕ
view_string shape past zero = hashed View []
view_string shape past (suc stage) = hashed View (view_of shape past stage ∷ contents_at shape past stage)

-- those of the views up to a stage, the last first
abbrev pub view_strings : Shape → List (List ℕ) → ℕ → List (List ℕ)
view_strings shape past zero = view_string shape past zero ∷ []
view_strings shape past (suc stage) = view_string shape past (suc stage) ∷ view_strings shape past stage

-- a string of one list and a string of another are different and have one SHA-256
pub record SomeCollide (strings others : List (List ℕ)) : Type 0 where
  pub string : List ℕ
  pub other : List ℕ
  pub first : Contains strings string
  pub second : Contains others other
  pub collide : Collides string other
