-- A member's own secrets of a round, and the keys that all members said.
use Rattle.std.specs.Prelude.{◌≡◌, ℕ, List, length}
use Rattle.phase_message.specs.Shape.{Shape}
use Rattle.shuffle_blame.specs.Replay.{outer_place}
use Rattle.round_spec.specs.Slots.{bulk_place, inner_place, keys_said}
use Rattle.round_spec.specs.Say.{Configuration, own_key_seed, own_opening, own_order_seed, own_pad_seeds}
use Rattle.honest_say.specs.declared.secrets.BulkSecrets.{BulkSecrets}
use Rattle.honest_say.specs.declared.secrets.ShuffleSecrets.{ShuffleSecrets}
use Rattle.honest_say.specs.declared.group_keys.GroupKeys.{GroupKeys}
use Rattle.honest_say.specs.declared.group_keys.ShuffleKeys.{ShuffleKeys}

-- the member's own secrets of a shuffle
pub record AreShuffleSecrets (c : Configuration) (shuffle : ℕ) (secrets : ShuffleSecrets) : Type 0 where
  pub inner : secrets.inner ≡ own_key_seed c (inner_place shuffle)
  pub outer : secrets.outer ≡ own_key_seed c (outer_place shuffle)
  pub order : secrets.order_seed ≡ own_order_seed c shuffle
  pub inner_opening : secrets.inner_opening ≡ own_opening c shuffle 1
  pub outer_opening : secrets.outer_opening ≡ own_opening c shuffle 2

-- and those of the messages
pub record AreBulkSecrets (c : Configuration) (secrets : BulkSecrets) : Type 0 where
  pub key : secrets.key ≡ own_key_seed c bulk_place
  pub pad_seeds : secrets.pad_seeds ≡ own_pad_seeds c

-- the keys of a shuffle that all members said
pub record AreShuffleKeys (shape : Shape) (past : List (List ℕ)) (shuffle : ℕ) (keys : ShuffleKeys) : Type 0 where
  pub inner : keys.inner ≡ keys_said shape past (inner_place shuffle)
  pub outer : keys.outer ≡ keys_said shape past (outer_place shuffle)

-- all five kinds of them
pub record AreGroupKeys (shape : Shape) (past : List (List ℕ)) (keys : GroupKeys) : Type 0 where
  pub first : AreShuffleKeys shape past 1 keys.first
  pub bulk : keys.bulk ≡ keys_said shape past bulk_place
  pub second : AreShuffleKeys shape past 2 keys.second

-- there are so many of each kind
pub record AreOfEach (members : ℕ) (keys : GroupKeys) : Type 0 where
  pub inner_a : length keys.first.inner ≡ members
  pub outer_a : length keys.first.outer ≡ members
  pub bulk_keys : length keys.bulk ≡ members
  pub inner_b : length keys.second.inner ≡ members
  pub outer_b : length keys.second.outer ≡ members
