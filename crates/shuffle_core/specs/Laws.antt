-- What holds of shuffles.
use Rattle.std.specs.Prelude.{◌≡◌, ℕ, ◌+◌, ◌*◌, ◌^◌, ◌<◌, List, [], ◌++◌, length, map, true, false, ◌⊎◌, ◌↔◌, Some, Any, AllPairs, Contains, IsPermutation, None, slice_get, slice_index_or}
use Rattle.std.specs.List.{AllByRecursion, range_with_len}
use Rattle.wire_core.specs.Hash.{layer_seed}
use Rattle.ring_encrypt.specs.Capsule.{key_of_seed}
use Rattle.ring_encrypt.specs.Opening.{IsMessage}
use Rattle.layer_cipher.specs.declared.sealing.TheConstants.{LAYER_BYTES}
use Rattle.layer_cipher.specs.Layer.{wrapping_of, opened_through}
use Rattle.layer_cipher.specs.Stripping.{stripped, IsClosed}
use Rattle.phase_message.specs.declared.content.Body.TheVariants.{Shuffled, Abort}
use Rattle.shuffle_core.specs.Shuffle.{layer_seeds_of, submission_of, has_equal, drawn_order, in_drawn_order, turn_of, place_of, opened_item}

-- ---- the seeds of layers

-- a seed for each layer, each of 32 bytes
abbrev pub SeedsAreMessages : Type 0
SeedsAreMessages = (opening : List ℕ) (round shuffle side member n : ℕ) →
    (length (layer_seeds_of opening round shuffle side member n) ≡ n)
    × AllByRecursion IsMessage (layer_seeds_of opening round shuffle side member n)

-- the first is that of layer 1
abbrev pub SeedsAreByLayer : Type 0
SeedsAreByLayer = (opening : List ℕ) (round shuffle side member n place : ℕ) → place < n →
    slice_index_or (layer_seeds_of opening round shuffle side member n) place [] ≡ layer_seed opening round shuffle side member (place + 1)

-- ---- the drawn order

-- the drawn order names each place once
abbrev pub DrawnOrderPermutes : Type 0
DrawnOrderPermutes = (seed : List ℕ) (n : ℕ) → n < 2 ^ 32 → IsPermutation (range_with_len 0 n) (drawn_order seed n)

-- what stands in the drawn order are the entries in another order
abbrev pub EntriesArePermuted : Type 0
EntriesArePermuted = (seed : List ℕ) (entries : List (List ℕ)) → length entries < 2 ^ 32 →
    IsPermutation entries (in_drawn_order seed entries)

-- ---- lists in another order

-- no entry is equal to a later one
abbrev pub AreDistinct : List (List ℕ) → Type 0
AreDistinct entries = AllPairs (λ entry later. entry ≡ later → ⊥) entries

-- one entry stands at two places
abbrev pub HasTwins : List (List ℕ) → Type 0
HasTwins entries = (i j : ℕ) × (i < j) × (j < length entries) × (slice_index_or entries i [] ≡ slice_index_or entries j [])

abbrev pub EqualsAreFound : Type 0
EqualsAreFound = (entries : List (List ℕ)) → (has_equal entries ≡ true) ↔ HasTwins entries

abbrev pub DistinctAreFound : Type 0
DistinctAreFound = (entries : List (List ℕ)) → (has_equal entries ≡ false) ↔ AreDistinct entries

-- another order has as many entries, the same ones, and distinct ones where they were distinct
abbrev pub PermutationKeeps : Type 0
PermutationKeeps = (entries others : List (List ℕ)) → IsPermutation entries others →
    (length others ≡ length entries)
    × ((entry : List ℕ) → Contains entries entry ↔ Contains others entry)
    × (AreDistinct entries → AreDistinct others)

-- ---- a turn

-- a turn over distinct entries that are layers says their bodies, in another order
abbrev pub TurnPermutes : Type 0
TurnPermutes = (seed order_seed : List ℕ) (entries bodies : List (List ℕ)) → length entries < 2 ^ 32 → AreDistinct entries →
    stripped seed entries ≡ Some bodies →
    (list : List (List ℕ)) × (turn_of seed order_seed entries ≡ Shuffled list) × IsPermutation bodies list

-- a turn that says a list had distinct entries that are layers
abbrev pub TurnSaysBodies : Type 0
TurnSaysBodies = (seed order_seed : List ℕ) (entries list : List (List ℕ)) → turn_of seed order_seed entries ≡ Shuffled list →
    AreDistinct entries × ((bodies : List (List ℕ)) × (stripped seed entries ≡ Some bodies) × (list ≡ in_drawn_order order_seed bodies))

-- a turn says Abort exactly where two entries are equal or one is no layer
abbrev pub TurnAborts : Type 0
TurnAborts = (seed order_seed : List ℕ) (entries : List (List ℕ)) →
    (turn_of seed order_seed entries ≡ Abort) ↔ (HasTwins entries ⊎ Any (IsClosed seed) entries)

-- ---- submitting and opening

-- what is opened to an item is the item in layers under the keys of the seeds
abbrev pub IsWrapped : List (List ℕ) → List ℕ → List ℕ → Type 0
IsWrapped seeds entry item = (ms : List (List ℕ)) × (length ms ≡ length seeds) × AllByRecursion IsMessage ms
    × (entry ≡ wrapping_of (map key_of_seed seeds) ms item)

-- a list of seeds opens an entry exactly to the item that is in it
abbrev pub OpensToWhatIsWrapped : Type 0
OpensToWhatIsWrapped = (seeds : List (List ℕ)) (entry item : List ℕ) → (opened_item seeds entry ≡ Some item) ↔ IsWrapped seeds entry item

-- the layers of some seeds, and then those of the others
abbrev pub OpensInParts : Type 0
OpensInParts = (first others : List (List ℕ)) (entry inside item : List ℕ) → opened_item first entry ≡ Some inside →
    opened_item others inside ≡ Some item →
    opened_item (first ++ others) entry ≡ Some item

-- four lists of one length, and layer seeds of 32 bytes: what a submission is made with
pub record IsSubmissionOf (inner outer inner_ms outer_ms : List (List ℕ)) : Type 0 where
  pub inner_seeds : length inner_ms ≡ length inner
  pub outer_seeds : length outer_ms ≡ length outer
  pub inner_messages : AllByRecursion IsMessage inner_ms
  pub outer_messages : AllByRecursion IsMessage outer_ms

-- the outer key seeds open a submission to its inner ciphertext, each layer carrying its seed, and the inner key seeds that to the item
abbrev pub SubmissionOpens : Type 0
SubmissionOpens = (inner outer inner_ms outer_ms : List (List ℕ)) (item : List ℕ) → IsSubmissionOf inner outer inner_ms outer_ms →
    let submission = submission_of (map key_of_seed inner) (map key_of_seed outer) inner_ms outer_ms item in
    (opened_through outer submission.ciphertext ≡ Some (outer_ms, submission.inner_ciphertext))
    × (opened_through inner submission.inner_ciphertext ≡ Some (inner_ms, item))
    × (opened_item (outer ++ inner) submission.ciphertext ≡ Some item)

-- a submission is 2,272 bytes longer than its item for each of its keys
abbrev pub SubmissionAdds : Type 0
SubmissionAdds = (inner outer inner_ms outer_ms : List (List ℕ)) (item : List ℕ) → length inner ≡ length inner_ms →
    length outer ≡ length outer_ms →
    let submission = submission_of inner outer inner_ms outer_ms item in
    (length submission.inner_ciphertext ≡ length item + LAYER_BYTES * length inner)
    × (length submission.ciphertext ≡ length item + LAYER_BYTES * (length inner + length outer))

-- the place of an entry holds it, and no place before does
abbrev pub PlaceIsLeast : Type 0
PlaceIsLeast = (entries : List (List ℕ)) (entry : List ℕ) (place : ℕ) → (place_of entries entry ≡ Some place)
    ↔ ((slice_get entries place ≡ Some entry) × ((earlier : ℕ) → earlier < place → slice_get entries earlier ≡ Some entry → ⊥))

-- an entry without a place is not in the list
abbrev pub PlaceIsFound : Type 0
PlaceIsFound = (entries : List (List ℕ)) (entry : List ℕ) → (place_of entries entry ≡ None) ↔ (Contains entries entry → ⊥)
