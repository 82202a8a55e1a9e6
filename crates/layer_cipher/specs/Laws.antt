-- What holds of layers.
use Rattle.std.specs.Prelude.{◌≡◌, ℕ, ◌+◌, ◌*◌, List, ◌∷◌, length, map, Some, ◌↔◌}
use Rattle.std.specs.List.{AllByRecursion}
use Rattle.ring_encrypt.specs.Capsule.{key_of_seed}
use Rattle.ring_encrypt.specs.Opening.{IsMessage}
use Rattle.layer_cipher.specs.declared.sealing.TheConstants.{LAYER_BYTES}
use Rattle.layer_cipher.specs.Layer.{layer_of, Opens, peeled, wrapping_of, opened_through}

-- a seed finds exactly what makes the bytes a layer under its key
abbrev pub PeelsExactly : Type 0
PeelsExactly = (seed layer m body : List ℕ) → (peeled seed layer ≡ Some (m, body)) ↔ Opens seed layer m body

-- seeds of one key find the same
abbrev pub KeyPeels : Type 0
KeyPeels = (seed seed' layer : List ℕ) → key_of_seed seed ≡ key_of_seed seed' → peeled seed layer ≡ peeled seed' layer

-- each layer adds 2,272 bytes
abbrev pub LayerAdds : Type 0
LayerAdds = (key m body : List ℕ) → length (layer_of key m body) ≡ length body + LAYER_BYTES

abbrev pub WrappingAdds : Type 0
WrappingAdds = (keys ms : List (List ℕ)) (blob : List ℕ) → length keys ≡ length ms →
    length (wrapping_of keys ms blob) ≡ length blob + LAYER_BYTES * length keys

-- the seeds of all keys, in their order, find what each layer carries, and in the end the blob
abbrev pub WrappedOpens : Type 0
WrappedOpens = (seeds ms : List (List ℕ)) (blob : List ℕ) → length seeds ≡ length ms → AllByRecursion IsMessage ms →
    opened_through seeds (wrapping_of (map key_of_seed seeds) ms blob) ≡ Some (ms, blob)

-- what the outermost layer carries is determined by the bytes and its key
abbrev pub OutermostDetermined : Type 0
OutermostDetermined = (seed m m' : List ℕ) (keys keys' ms ms' : List (List ℕ)) (blob blob' : List ℕ) → IsMessage m → IsMessage m' →
    wrapping_of (key_of_seed seed ∷ keys) (m ∷ ms) blob ≡ wrapping_of (key_of_seed seed ∷ keys') (m' ∷ ms') blob' → m ≡ m'
