-- A member's own secrets, and what it submits by them.
use Rattle.std.proofs.Common.{◌≡◌, ℕ, List, map, Option, ap, sym, ◌∙◌}
use Rattle.std.specs.List.{range_with_len}
use Rattle.wire_core.specs.Hash.{derived}
use Rattle.phase_message.specs.Shape.{Shape}
use Rattle.shuffle_core.specs.Shuffle.{layer_seeds_of, submission_of}
use Rattle.bulk_descriptor.specs.Descriptor.{made_descriptor, own_pad}
use Rattle.bulk_descriptor.specs.declared.slot_state.SlotState.{SlotState}
use Rattle.accusation.specs.Item.{item_row}
use Rattle.shuffle_blame.specs.Replay.{outer_place}
use Rattle.round_spec.specs.Slots.{bulk_place, inner_place, items_opened, keys_said, slots_of_past}
use Rattle.round_spec.specs.Say.{Configuration, own_description, own_item, own_layer_seeds, own_opening, own_pad_seeds, own_submission, shape_in}
use Rattle.honest_say.specs.declared.group_keys.ShuffleKeys.{ShuffleKeys}
use Rattle.honest_say.specs.declared.seat.Seat.{Seat}
use Rattle.honest_say.specs.declared.secrets.BulkSecrets.{BulkSecrets}
use Rattle.honest_say.specs.declared.secrets.ShuffleSecrets.{ShuffleSecrets}
use Rattle.honest_say.specs.Own.{AreBulkSecrets, AreShuffleKeys, AreShuffleSecrets}
use Rattle.honest_say.specs.Seats.{IsSeatOf}

-- a secret from the fresh bytes of a member is that of its configuration
pub derives : (c : Configuration) (fresh : List ℕ) (round label other : ℕ) → c.fresh ≡ fresh → c.round ≡ round → label ≡ other
    → derived fresh round label 0 ≡ derived c.fresh c.round other 0
derives c fresh round label other same same_round same_label =
    ap (λ (f : List ℕ). derived f round label 0) (sym same)
    ∙ ap (λ (r : ℕ). derived c.fresh r label 0) (sym same_round)
    ∙ ap (λ (l : ℕ). derived c.fresh c.round l 0) same_label

layers : (c : Configuration) (seat : Seat) (opening : List ℕ) (shuffle side : ℕ) → IsSeatOf c seat → opening ≡ own_opening c shuffle side
    → layer_seeds_of opening seat.round shuffle side seat.number seat.shape.members ≡ own_layer_seeds c shuffle side
layers c seat opening shuffle side is own =
    ap (λ (o : List ℕ). layer_seeds_of o seat.round shuffle side seat.number seat.shape.members) own
    ∙ ap (λ (r : ℕ). layer_seeds_of (own_opening c shuffle side) r shuffle side seat.number seat.shape.members) is.round
    ∙ ap (λ (n : ℕ). layer_seeds_of (own_opening c shuffle side) c.round shuffle side n seat.shape.members) is.number
    ∙ ap (λ (s : Shape). layer_seeds_of (own_opening c shuffle side) c.round shuffle side c.number s.members) is.shape

pub submits : (c : Configuration) (seat : Seat) (secrets : ShuffleSecrets) (keys : ShuffleKeys) (own item : List ℕ) (past : List (List ℕ))
    (shuffle : ℕ)
    → IsSeatOf c seat → AreShuffleSecrets c shuffle secrets → AreShuffleKeys (shape_in c) past shuffle keys
    → item ≡ own_item c own past shuffle
    → submission_of keys.inner keys.outer (layer_seeds_of secrets.inner_opening seat.round shuffle 1 seat.number seat.shape.members)
    (layer_seeds_of secrets.outer_opening seat.round shuffle 2 seat.number seat.shape.members) item
    ≡ own_submission c own past shuffle
unfolding own_submission
submits c seat secrets keys own item past shuffle is own_secrets said own_item_is =
    let inner_seeds = layers c seat secrets.inner_opening shuffle 1 is own_secrets.inner_opening in
    let outer_seeds = layers c seat secrets.outer_opening shuffle 2 is own_secrets.outer_opening in
    let given_inner : List (List ℕ) = layer_seeds_of secrets.inner_opening seat.round shuffle 1 seat.number seat.shape.members in
    let given_outer : List (List ℕ) = layer_seeds_of secrets.outer_opening seat.round shuffle 2 seat.number seat.shape.members in
    ap (λ (k : List (List ℕ)). submission_of k keys.outer given_inner given_outer item) said.inner
    ∙ ap (λ (k : List (List ℕ)). submission_of (keys_said (shape_in c) past (inner_place shuffle)) k given_inner given_outer item)
    said.outer
    ∙ ap (λ (s : List (List ℕ)). submission_of (keys_said (shape_in c) past (inner_place shuffle))
    (keys_said (shape_in c) past (outer_place shuffle)) s given_outer item) inner_seeds
    ∙ ap (λ (s : List (List ℕ)). submission_of (keys_said (shape_in c) past (inner_place shuffle))
    (keys_said (shape_in c) past (outer_place shuffle)) (own_layer_seeds c shuffle 1) s item) outer_seeds
    ∙ ap (λ (x : List ℕ). submission_of (keys_said (shape_in c) past (inner_place shuffle))
    (keys_said (shape_in c) past (outer_place shuffle)) (own_layer_seeds c shuffle 1) (own_layer_seeds c shuffle 2) x) own_item_is

-- with keys and seeds as a call has them
pub submitted : (c : Configuration) (seat : Seat) (secrets : ShuffleSecrets) (keys : ShuffleKeys) (own item : List ℕ) (past : List (List ℕ))
    (shuffle : ℕ) (inner outer inner_seeds outer_seeds : List (List ℕ))
    → inner ≡ keys.inner → outer ≡ keys.outer
    → inner_seeds ≡ layer_seeds_of secrets.inner_opening seat.round shuffle 1 seat.number seat.shape.members
    → outer_seeds ≡ layer_seeds_of secrets.outer_opening seat.round shuffle 2 seat.number seat.shape.members
    → IsSeatOf c seat → AreShuffleSecrets c shuffle secrets → AreShuffleKeys (shape_in c) past shuffle keys
    → item ≡ own_item c own past shuffle
    → submission_of inner outer inner_seeds outer_seeds item ≡ own_submission c own past shuffle
submitted c seat secrets keys own item past shuffle inner outer inner_seeds outer_seeds is_inner is_outer are_inner are_outer is own_secrets
    said own_item_is =
    ap (λ (k : List (List ℕ)). submission_of k outer inner_seeds outer_seeds item) is_inner
    ∙ ap (λ (k : List (List ℕ)). submission_of keys.inner k inner_seeds outer_seeds item) is_outer
    ∙ ap (λ (s : List (List ℕ)). submission_of keys.inner keys.outer s outer_seeds item) are_inner
    ∙ ap (λ (s : List (List ℕ)). submission_of keys.inner keys.outer
    (layer_seeds_of secrets.inner_opening seat.round shuffle 1 seat.number seat.shape.members) s item) are_outer
    ∙ submits c seat secrets keys own item past shuffle is own_secrets said own_item_is

-- its item of shuffle B
pub accuses : (c : Configuration) (secrets : BulkSecrets) (own : List ℕ) (past : List (List ℕ)) (opened : List (Option (List ℕ)))
    (states : List SlotState) (seeds : List (List ℕ))
    → AreBulkSecrets c secrets → opened ≡ items_opened (shape_in c) past 1 → states ≡ slots_of_past (shape_in c) past
    → seeds ≡ secrets.pad_seeds
    → item_row own opened states seeds ≡ own_item c own past 2
unfolding own_item
accuses c secrets own past opened states seeds own_secrets is_opened are_states are_seeds =
    ap (λ (o : List (Option (List ℕ))). item_row own o states seeds) is_opened
    ∙ ap (λ (t : List SlotState). item_row own (items_opened (shape_in c) past 1) t seeds) are_states
    ∙ ap (item_row own (items_opened (shape_in c) past 1) (slots_of_past (shape_in c) past)) (are_seeds ∙ own_secrets.pad_seeds)

pub describes : (c : Configuration) (seat : Seat) (secrets : BulkSecrets) (keys past : List (List ℕ)) (message : List ℕ) → IsSeatOf c seat
    → AreBulkSecrets c secrets
    → message ≡ c.message → keys ≡ keys_said (shape_in c) past bulk_place
    → made_descriptor keys secrets.pad_seeds seat.number message ≡ own_description c past
describes c seat secrets keys past message is own same said =
    ap (λ (k : List (List ℕ)). made_descriptor k secrets.pad_seeds seat.number message) said
    ∙ ap (λ (s : List (List ℕ)). made_descriptor (keys_said (shape_in c) past bulk_place) s seat.number message) own.pad_seeds
    ∙ ap (λ (n : ℕ). made_descriptor (keys_said (shape_in c) past bulk_place) (own_pad_seeds c) n message) is.number
    ∙ ap (λ (m : List ℕ). made_descriptor (keys_said (shape_in c) past bulk_place) (own_pad_seeds c) c.number m) same

pub pad-is : (c : Configuration) (seat : Seat) (secrets : BulkSecrets) (message : List ℕ) → IsSeatOf c seat → AreBulkSecrets c secrets
    → message ≡ c.message
    → own_pad secrets.pad_seeds seat.number message ≡ own_pad (own_pad_seeds c) c.number c.message
pad-is c seat secrets message is own same =
    ap (λ (s : List (List ℕ)). own_pad s seat.number message) own.pad_seeds
    ∙ ap (λ (n : ℕ). own_pad (own_pad_seeds c) n message) is.number
    ∙ ap (λ (m : List ℕ). own_pad (own_pad_seeds c) c.number m) same

-- and so are the seeds of its pads
pub pad-seeds : (c : Configuration) (fresh : List ℕ) (round members : ℕ) → c.fresh ≡ fresh → c.round ≡ round
    → (shape_in c).members ≡ members
    → map (derived fresh round 12) (range_with_len 1 members) ≡ own_pad_seeds c
pad-seeds c fresh round members same same_round count =
    ap (λ (f : List ℕ). map (derived f round 12) (range_with_len 1 members)) (sym same)
    ∙ ap (λ (r : ℕ). map (derived c.fresh r 12) (range_with_len 1 members)) (sym same_round)
    ∙ ap (λ (n : ℕ). map (derived c.fresh c.round 12) (range_with_len 1 n)) (sym count)
