-- Layers: a body that is hidden under a public key, by 32 bytes that the layer carries sealed.
use Rattle.std.specs.Prelude.{◌≡◌, ℕ, List, [], ◌∷◌, ◌++◌, length, take, drop, Option, Some, None, if◌then◌else◌}
use Rattle.std.specs.Option.{option_and_then, option_map}
use Rattle.std.specs.Str.{bytes_eq}
use Rattle.wire_core.specs.declared.tag.Tag.TheVariants.{LayerStream, LayerTag}
use Rattle.wire_core.specs.Hash.{hash_of}
use Rattle.pad_stream.specs.Stream.{stream_of}
use Rattle.pad_stream.specs.ExclusiveOr.{exclusive_or}
use Rattle.ring_encrypt.specs.declared.TheConstants.{CAPSULE_BYTES}
use Rattle.ring_encrypt.specs.Capsule.{key_of_seed, capsule_of}
use Rattle.ring_encrypt.specs.Opening.{IsMessage, opened}
use Rattle.layer_cipher.specs.declared.sealing.TheConstants.{LAYER_BYTES}

-- a body under the mask that is drawn from m, or out from under it
abbrev pub masked : List ℕ → List ℕ → List ℕ
masked m body = exclusive_or body (stream_of (hash_of LayerStream (m ∷ [])) (length body))

-- the layer of m and a body under a key: the capsule of m, the check value, the masked body
unfoldable pub layer_of : List ℕ → List ℕ → List ℕ → List ℕ
layer_of key m body = capsule_of key m ++ hash_of LayerTag (m ∷ masked m body ∷ []) ++ masked m body

-- under the key of a seed, these bytes are the layer of m and a body
pub record Opens (seed layer m body : List ℕ) : Type 0 where
  pub message : IsMessage m
  pub is : layer ≡ layer_of (key_of_seed seed) m body

-- What a seed finds in bytes: what its key's capsule opens to and the body out from under that mask, if the layer of these is these very bytes
unfoldable pub peeled : List ℕ → List ℕ → Option (List ℕ × List ℕ)
peeled seed layer =
    option_and_then (λ m.
    let body = masked m (drop LAYER_BYTES layer) in
    if bytes_eq layer (layer_of (key_of_seed seed) m body) then Some (m, body) else None) (opened seed (take CAPSULE_BYTES layer))

-- layer upon layer, the first key outermost
unfoldable pub wrapping_of : List (List ℕ) → List (List ℕ) → List ℕ → List ℕ
wrapping_of (key ∷ keys) (m ∷ ms) blob = layer_of key m (wrapping_of keys ms blob)
wrapping_of _ _ blob = blob

-- Peeling by one seed after the other: what each layer carries sealed, and what is left
unfoldable pub opened_through : List (List ℕ) → List ℕ → Option (List (List ℕ) × List ℕ)
opened_through [] layer = Some ([], layer)
opened_through (seed ∷ seeds) layer =
    option_and_then (λ (p : List ℕ × List ℕ). option_map (λ (q : List (List ℕ) × List ℕ). (p.0 ∷ q.0, q.1)) (opened_through seeds p.1))
    (peeled seed layer)
