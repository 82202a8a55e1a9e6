-- The seeds of a member's layers.
use Rattle.std.proofs.Common.{ℕ, zero, suc, ◌+◌, List, [], map, arith}
use Rattle.std.specs.List.{AllByRecursion, range_with_len}
use Rattle.std.proofs.lemmas.List.FromFn.{length-map-range_with_len, get_or-map-range_with_len}
use Rattle.wire_core.specs.declared.tag.Tag.TheVariants.{LayerSeed}
use Rattle.wire_core.specs.Hash.{layer_seed, layer_seed_pieces}
use Rattle.wire_core.proofs.ByteLists.{hash_bytes}
use Rattle.ring_encrypt.specs.Opening.{IsMessage}
use Rattle.shuffle_core.specs.Laws.{SeedsAreMessages, SeedsAreByLayer}

all_messages : (f : ℕ → List ℕ) (from n : ℕ) → ((layer : ℕ) → IsMessage (f layer))
    → AllByRecursion IsMessage (map f (range_with_len from n))
all_messages f from zero each = tt
all_messages f from (suc n) each = (each from, all_messages f (from + 1) n each)

seed_is_message : (opening : List ℕ) (round shuffle side member layer : ℕ) → IsMessage (layer_seed opening round shuffle side member layer)
seed_is_message opening round shuffle side member layer =
    let bytes = hash_bytes LayerSeed (layer_seed_pieces opening round shuffle side member layer) in
    record { length = bytes.0; bytes = bytes.1 }

pub seeds_are_messages : SeedsAreMessages
seeds_are_messages opening round shuffle side member n = (
  length-map-range_with_len (layer_seed opening round shuffle side member) 1 n,
  all_messages (layer_seed opening round shuffle side member) 1 n (seed_is_message opening round shuffle side member),
)

pub seeds_are_by_layer : SeedsAreByLayer
seeds_are_by_layer opening round shuffle side member n place below =
    get_or-map-range_with_len (layer_seed opening round shuffle side member) 1 n place (place + 1) [] below (omega arith)
