-- What a member says at each stage, and signs: a function of its configuration and of the posts before the stage. The
-- row of each kind of stage stands where its subject does; here one is chosen among them.
use Rattle.std.specs.Prelude.{ℕ, ◌+◌, ◌-◌, ◌*◌, List, [], map, ◌==◌, Option, Some, None, if◌then◌else◌, count_by}
use Rattle.std.specs.List.{range_with_len}
use Rattle.wire_core.specs.Hash.{derived}
use Rattle.ring_encrypt.specs.Capsule.{key_of_seed}
use Rattle.lms_tree.specs.Secret.{SecretParts, lms_signature}
use Rattle.phase_message.specs.declared.content.Body.{Body}
use Rattle.phase_message.specs.declared.content.Body.TheVariants.{Keys as KeysBody, Submit as SubmitBody, Abort, Pads}
use Rattle.phase_message.specs.declared.content.Content.{Content}
use Rattle.phase_message.specs.declared.header.Header.{Header}
use Rattle.phase_message.specs.declared.post.Post.{Post}
use Rattle.phase_message.specs.declared.stage.StageKind.{StageKind}
use Rattle.phase_message.specs.declared.stage.StageKind.TheVariants.{Keys, Submit, Shuffle, Go, Final, Pad, Check, Confirm}
use Rattle.phase_message.specs.Grammar.{content_text}
use Rattle.phase_message.specs.Shape.{Shape}
use Rattle.phase_message.specs.Stages.{kind_of_stage, is_slot}
use Rattle.group_roster.specs.Roster.{Roster, roster_id, shape_of_roster}
use Rattle.stage_log.specs.Log.{contents_of, view_of}
use Rattle.shuffle_core.specs.declared.entry.Submission.{Submission}
use Rattle.shuffle_core.specs.Shuffle.{layer_seeds_of, submission_of, turn_of}
use Rattle.bulk_descriptor.specs.Descriptor.{Description, descriptor_text, made_descriptor, own_pad, pad_row}
use Rattle.accusation.specs.Item.{item_row}
use Rattle.go_nogo.specs.Rows.{go_row, check_row, final_row, confirm_row}
use Rattle.shuffle_blame.specs.Replay.{outer_place}
use Rattle.round_spec.specs.Slots.{keys_said, inner_place, bulk_place, list_said, items_opened, slots_of_past}

-- ---- a member in a round

-- what a member enters a round with: the group, its number, the round, 32 fresh bytes, its message, and its signature
-- key (the height, the width, the identifier and the SEED) with the first of the leaves that it may use
pub record Configuration : Type 0 where
  pub roster : Roster
  pub number : ℕ
  pub round : ℕ
  pub fresh : List ℕ
  pub message : List ℕ
  pub key : SecretParts
  pub first : ℕ

-- the shape of its round
abbrev pub shape_in : Configuration → Shape
shape_in c = shape_of_roster c.roster

-- a secret of the round, by its label: the first five are seeds of keys, and then come two seeds of orders and four
-- openings
abbrev pub own_secret : Configuration → ℕ → List ℕ
own_secret c label = derived c.fresh c.round label 0

-- the seed of one of its five keys, by the key's place from 0
abbrev pub own_key_seed : Configuration → ℕ → List ℕ
own_key_seed c place = own_secret c (place + 1)

-- the seed of the order in which it says what it stripped in a shuffle
abbrev pub own_order_seed : Configuration → ℕ → List ℕ
own_order_seed c shuffle = own_secret c (5 + shuffle)

-- the opening of its layers on a side of a shuffle, which is 1 for the inner one and 2 for the outer one
abbrev pub own_opening : Configuration → ℕ → ℕ → List ℕ
own_opening c shuffle side = own_secret c (5 + 2 * shuffle + side)

-- the seeds of the pads that it asks of all members
abbrev pub own_pad_seeds : Configuration → List (List ℕ)
own_pad_seeds c = map (derived c.fresh c.round 12) (range_with_len 1 (shape_in c).members)

-- the seeds of its layers on a side of a shuffle
abbrev pub own_layer_seeds : Configuration → ℕ → ℕ → List (List ℕ)
own_layer_seeds c shuffle side =
    layer_seeds_of (own_opening c shuffle side) c.round shuffle side c.number (shape_in c).members

-- ---- its message

-- the descriptor that it makes of its message, by the bulk keys that were said
abbrev pub own_description : Configuration → List (List ℕ) → Description
own_description c past = made_descriptor (keys_said (shape_in c) past bulk_place) (own_pad_seeds c) c.number c.message

-- its bytes
unfoldable pub own_descriptor : Configuration → List (List ℕ) → List ℕ
own_descriptor c past = descriptor_text (own_description c past)

-- its item of a shuffle: in shuffle A the bytes of its own descriptor, and in shuffle B what it accuses of
unfoldable pub own_item : Configuration → List ℕ → List (List ℕ) → ℕ → List ℕ
own_item c own past shuffle =
    if shuffle == 1 then own
    else item_row own (items_opened (shape_in c) past 1) (slots_of_past (shape_in c) past) (own_pad_seeds c)

-- what it submits to a shuffle: its item under the inner keys that were said, and that under the outer keys
unfoldable pub own_submission : Configuration → List ℕ → List (List ℕ) → ℕ → Submission
own_submission c own past shuffle = submission_of
    (keys_said (shape_in c) past (inner_place shuffle))
    (keys_said (shape_in c) past (outer_place shuffle))
    (own_layer_seeds c shuffle 1) (own_layer_seeds c shuffle 2)
    (own_item c own past shuffle)

-- ---- the rows

-- its five keys
unfoldable pub keys_row : Configuration → Body
keys_row c = KeysBody (map (λ place. key_of_seed (own_key_seed c place)) (range_with_len 0 5))

-- its turn: Abort where the turn before said Abort, and else what a turn says of the list before
abbrev pub turn_over : Configuration → ℕ → Option (List (List ℕ)) → Body
turn_over c shuffle None = Abort
turn_over c shuffle (Some entries) = turn_of (own_key_seed c (outer_place shuffle)) (own_order_seed c shuffle) entries

unfoldable pub turn_row : Configuration → List (List ℕ) → ℕ → Body
turn_row c past shuffle = turn_over c shuffle (list_said (shape_in c) past shuffle (c.number - 1))

-- the pad that it sends for an entry of the opened list; the empty one where the entry did not open
abbrev pub pad_for : Configuration → List ℕ → Option (List ℕ) → List ℕ
pad_for c own None = []
pad_for c own (Some entry) = pad_row (shape_in c).members own
    (own_pad (own_pad_seeds c) c.number c.message) c.number (own_key_seed c bulk_place) entry

-- its pads, one for each slot of the list
unfoldable pub pads_row : Configuration → List ℕ → List (List ℕ) → Body
pads_row c own past = Pads (map (pad_for c own) (items_opened (shape_in c) past 1))

-- what it says at a stage of a kind, where its own descriptor has these bytes and these are the posts before
abbrev pub own_body_at : Configuration → List ℕ → List Post → ℕ → StageKind → Body
own_body_at c own posts stage Keys = keys_row c
own_body_at c own posts stage (Submit shuffle) = SubmitBody (own_submission c own (contents_of posts) shuffle).ciphertext
own_body_at c own posts stage (Shuffle shuffle k) = turn_row c (contents_of posts) shuffle
own_body_at c own posts stage (Go shuffle) =
    go_row (shape_in c) (contents_of posts) stage (own_submission c own (contents_of posts) shuffle).inner_ciphertext
own_body_at c own posts stage (Final shuffle) = final_row (shape_in c) posts stage
    (own_key_seed c (inner_place shuffle)) (own_key_seed c (outer_place shuffle)) (own_opening c shuffle 2)
own_body_at c own posts stage Pad = pads_row c own (contents_of posts)
own_body_at c own posts stage Check = check_row (shape_in c) (contents_of posts) stage
own_body_at c own posts stage Confirm = confirm_row (shape_in c) posts stage

-- at a stage that the round does not have the body would be Abort, but nobody speaks there
abbrev pub own_body_if : Configuration → List ℕ → List Post → ℕ → Option StageKind → Body
own_body_if c own posts stage None = Abort
own_body_if c own posts stage (Some kind) = own_body_at c own posts stage kind

-- ---- what it says

-- the header of its content at a stage: the version of the group's rounds, the group's id, the round, the stage, its
-- number, and the view of what was said before
abbrev pub own_header : Configuration → List Post → ℕ → Header
own_header c posts stage = record {
  version = c.roster.version;
  group = roster_id c.roster;
  round = c.round;
  stage = stage;
  sender = c.number;
  view = view_of (shape_in c) (contents_of posts) stage;
}

-- its content at a stage, where its own descriptor has these bytes
unfoldable pub content_with : Configuration → List ℕ → List Post → ℕ → Content
content_with c own posts stage = record {
  header = own_header c posts stage;
  body = own_body_if c own posts stage (kind_of_stage (shape_in c) stage);
}

-- the bytes of its content at a stage, by the posts before it
unfoldable pub own_content : Configuration → List Post → ℕ → List ℕ
own_content c posts stage = content_text (content_with c (own_descriptor c (contents_of posts)) posts stage)

-- how many posts it has said before a stage
unfoldable pub number_said_before : Configuration → ℕ → ℕ
number_said_before c stage = count_by (λ earlier. is_slot (shape_in c) earlier c.number) (range_with_len 0 stage)

-- a content as it posts it at a stage: signed with its next leaf
abbrev pub signed_at : Configuration → ℕ → List ℕ → Post
signed_at c stage content = record { content = content; signature = lms_signature c.key (c.first + number_said_before c stage) content }

-- its post at a stage
unfoldable pub own_post : Configuration → List Post → ℕ → Post
own_post c posts stage = signed_at c stage (own_content c posts stage)
