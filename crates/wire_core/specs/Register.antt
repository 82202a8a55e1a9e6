-- What a register holds.
use Rattle.std.specs.Prelude.{ℕ, List}
use Rattle.sha2.specs.Hashers.{Holds256}
use Rattle.wire_core.specs.declared.tag.Tag.{Tag}
use Rattle.wire_core.specs.declared.register.Register as declared
use Rattle.wire_core.specs.Hash.{hashed}

-- the register holds this tag and these pieces, in order: its hasher holds their hashed string
unfoldable pub Holds : declared.Register → Tag → List (List ℕ) → Type 0
Holds register tag pieces = Holds256 register.hasher (hashed tag pieces)
