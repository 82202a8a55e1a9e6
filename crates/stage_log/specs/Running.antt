-- What a running view holds.
use Rattle.std.specs.Prelude.{◌≡◌, ℕ, List, [], ◌∷◌, Bool, true, false}
use Rattle.wire_core.specs.declared.tag.Tag.TheVariants.{View}
use Rattle.wire_core.specs.Hash.{hash_of}
use Rattle.wire_core.specs.Register.{Holds}
use Rattle.stage_log.specs.declared.running.RunningView.{RunningView}

-- a running view holds a view, and what was said since then
unfoldable pub Carries : RunningView → List ℕ → List (List ℕ) → Type 0
Carries running view said = (running.view ≡ view) × Holds running.register View (view ∷ said)

-- what it holds after one content more of the stage, which may be the last
abbrev pub CarriesOn : RunningView → List ℕ → List (List ℕ) → Bool → Type 0
CarriesOn running view said true = Carries running (hash_of View (view ∷ said)) []
CarriesOn running view said false = Carries running view said
