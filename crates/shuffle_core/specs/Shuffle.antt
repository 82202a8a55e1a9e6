-- A shuffle: what a member submits to it, what each turn says of its input, and what is in the last list.
use Rattle.std.specs.Prelude.{ℕ, List, [], ◌∷◌, length, map, Bool, false, ◌||◌, Option, Some, None, slice_index_or, position, if◌then◌else◌}
use Rattle.std.specs.List.{list_any, range_with_len}
use Rattle.std.specs.Option.{option_map}
use Rattle.std.specs.Str.{bytes_eq}
use Rattle.rand_core.specs.Stream.{Stream}
use Rattle.rand_core.specs.Steps.{steps_u32, stream_of}
use Rattle.rand_chacha.specs.ChaCha.{next_word, of_seed}
use Rattle.rand.specs.Shuffle.{shuffled}
use Rattle.wire_core.specs.Hash.{layer_seed}
use Rattle.layer_cipher.specs.Layer.{peeled, wrapping_of, opened_through}
use Rattle.layer_cipher.specs.Stripping.{stripped}
use Rattle.phase_message.specs.declared.content.Body.{Body}
use Rattle.phase_message.specs.declared.content.Body.TheVariants.{Shuffled, Abort}
use Rattle.shuffle_core.specs.declared.entry.Submission.{Submission}

-- ---- what a member submits

-- the seeds of a member's layers on one side of a shuffle, those of layers 1 to n
abbrev pub layer_seeds_of : List ℕ → ℕ → ℕ → ℕ → ℕ → ℕ → List (List ℕ)
layer_seeds_of opening round shuffle side member n = map (layer_seed opening round shuffle side member) (range_with_len 1 n)

-- the item under all inner keys, and that under all outer keys
abbrev pub submission_of : List (List ℕ) → List (List ℕ) → List (List ℕ) → List (List ℕ) → List ℕ → Submission
submission_of inner outer inner_seeds outer_seeds item =
    let inside = wrapping_of inner inner_seeds item in
    record { inner_ciphertext = inside; ciphertext = wrapping_of outer outer_seeds inside }

-- ---- what a turn says

-- whether an entry stands in the list twice
unfoldable pub has_equal : List (List ℕ) → Bool
has_equal [] = false
has_equal (entry ∷ entries) = list_any (bytes_eq entry) entries || has_equal entries

-- what a generator gives that is seeded with these 32 bytes
abbrev pub drawn_stream : List ℕ → Stream
drawn_stream seed = stream_of (steps_u32 (next_word 10)) (of_seed seed)

-- the drawn order of n places: the numbers 0 to n - 1, shuffled
unfoldable pub drawn_order : List ℕ → ℕ → List ℕ
drawn_order seed n = (shuffled (range_with_len 0 n) 0 (drawn_stream seed)).0

-- the entries in the drawn order: at each place stands the entry that the order names there
unfoldable pub in_drawn_order : List ℕ → List (List ℕ) → List (List ℕ)
in_drawn_order seed entries = map (λ place. slice_index_or entries place []) (drawn_order seed (length entries))

-- a list is said as it is, and where there is none Abort
abbrev pub list_or_abort : Option (List (List ℕ)) → Body
list_or_abort None = Abort
list_or_abort (Some list) = Shuffled list

-- what a turn says of its input: Abort where two entries are equal or one is no layer, else the bodies in the drawn order
unfoldable pub turn_of : List ℕ → List ℕ → List (List ℕ) → Body
turn_of seed order_seed entries =
    if has_equal entries then Abort else list_or_abort (option_map (in_drawn_order order_seed) (stripped seed entries))

-- ---- what comes out

-- the least place of an entry, counted from 0
abbrev pub place_of : List (List ℕ) → List ℕ → Option ℕ
place_of entries entry = position (λ other. bytes_eq other entry) entries

-- what is in an entry under one layer, if it opens
abbrev pub body_of : List ℕ → List ℕ → Option (List ℕ)
body_of seed entry = option_map (λ (found : List ℕ × List ℕ). found.1) (peeled seed entry)

-- what is in an entry under the layers of these seeds, if each layer opens
unfoldable pub opened_item : List (List ℕ) → List ℕ → Option (List ℕ)
opened_item seeds entry = option_map (λ (found : List (List ℕ) × List ℕ). found.1) (opened_through seeds entry)

-- the opened list
abbrev pub opened_list : List (List ℕ) → List (List ℕ) → List (Option (List ℕ))
opened_list seeds entries = map (opened_item seeds) entries
