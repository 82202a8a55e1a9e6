-- What the calls that peel return.
use Rattle.std.specs.Prelude.{ℕ, List, Option, Some, None}
use Rattle.layer_cipher.specs.declared.peeling.Peeled.{Peeled}
use Rattle.layer_cipher.specs.declared.peeling.Peeled.TheVariants.{Layer, NoLayer}
use Rattle.layer_cipher.specs.Layer.{Opens}

-- what was found, as it is returned
abbrev pub returned : Option (List ℕ × List ℕ) → Peeled
returned None = NoLayer
returned (Some found) = Layer found.0 found.1

-- a layer is these bytes opened, and no layer means that no m and body open them
abbrev pub Finds : Peeled → List ℕ → List ℕ → Type 0
Finds (Layer m body) seed layer = Opens seed layer m body
Finds NoLayer seed layer = (m body : List ℕ) → Opens seed layer m body → ⊥
