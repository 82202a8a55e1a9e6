-- Whom a replay blames: the first fault in what was said before a closing stage, by what the members show there.
use Rattle.std.specs.Prelude.{ℕ, zero, suc, ◌+◌, ◌-◌, List, [], ◌∷◌, map, take, Bool, true, false, ◌==◌, Option, Some, None, Result, Ok, Err, bytes_eq, slice_index_or, option_map, option_and_then, position, if◌then◌else◌}
use Rattle.std.specs.List.{range_with_len, remove}
use Rattle.wire_core.specs.Answers.{fault_unless, first_below, first_some}
use Rattle.wire_core.specs.Hash.{layer_seed}
use Rattle.ring_encrypt.specs.Capsule.{key_of_seed}
use Rattle.layer_cipher.specs.Layer.{opened_through, peeled}
use Rattle.layer_cipher.specs.Stripping.{stripped}
use Rattle.phase_message.specs.declared.content.Body.{Body}
use Rattle.phase_message.specs.declared.content.Body.TheVariants.{Keys, Submit, Shuffled, Abort, Go, Check}
use Rattle.phase_message.specs.declared.content.Content.{Content}
use Rattle.phase_message.specs.declared.stage.StageKind.{StageKind}
use Rattle.phase_message.specs.declared.stage.StageKind.TheVariants.{Final}
use Rattle.phase_message.specs.declared.offence.Offence.{Offence}
use Rattle.phase_message.specs.Offence.{content_read}
use Rattle.phase_message.specs.Shape.{Shape}
use Rattle.phase_message.specs.Slots.{slot_number}
use Rattle.phase_message.specs.Stages.{kind_of_stage}
use Rattle.stage_log.specs.Log.{first_wrong}
use Rattle.shuffle_blame.specs.declared.fault.Cause.{Cause}
use Rattle.shuffle_blame.specs.declared.fault.Cause.TheVariants.{View, OuterSeed, Submission, Shuffle, FalseNoGo}
use Rattle.shuffle_blame.specs.declared.fault.Fault.{Fault}
use Rattle.shuffle_blame.specs.declared.fault.Shown.{Shown}

-- what a replay looks at: the contents of the slots before a closing stage, in the order of slots, and what each member
-- shows there, by member
pub record Inquiry : Type 0 where
  pub shape : Shape
  pub past : List (List ℕ)
  pub stage : ℕ
  pub round : ℕ
  pub shown : List Shown

-- ---- what was said

-- the body of what was read; of bytes that spell nothing it is Abort
abbrev pub body_of : Result Content Offence → Body
body_of (Ok content) = content.body
body_of (Err offence) = Abort

-- the bytes that stand in a slot
abbrev pub bytes_in : Inquiry → ℕ → ℕ → List ℕ
bytes_in q stage sender = slice_index_or q.past (slot_number q.shape stage sender) []

-- what a member said in a stage
abbrev pub body_in : Inquiry → ℕ → ℕ → Body
body_in q stage sender = body_of (content_read q.shape (bytes_in q stage sender))

-- which of a member's five keys is its outer key of a shuffle, counted from 0
abbrev pub outer_place : ℕ → ℕ
outer_place shuffle = if shuffle == 1 then 1 else 4

-- whether keys were said, and the outer one is that of a seed
abbrev pub has_outer_key : ℕ → List ℕ → Body → Bool
has_outer_key shuffle seed (Keys keys) = bytes_eq (key_of_seed seed) (slice_index_or keys (outer_place shuffle) [])
has_outer_key shuffle seed _ = false

-- the ciphertext that was submitted
abbrev pub ciphertext_of : Body → List ℕ
ciphertext_of (Submit ciphertext) = ciphertext
ciphertext_of _ = []

-- the list that was said in a turn, unless it was Abort
abbrev pub list_of : Body → Option (List (List ℕ))
list_of (Shuffled list) = Some list
list_of _ = None

-- whether a vote is yes
abbrev pub is_yes : Body → Bool
is_yes (Go vote) = vote
is_yes (Check vote) = vote
is_yes _ = false

-- ---- faults of views and votes

abbrev pub fault : Cause → ℕ → Fault
fault cause member = record { member = member; cause = cause }

-- the sender of the least slot whose content does not carry the view of its stage
abbrev pub view_fault : Inquiry → Option Fault
view_fault q = option_map (λ slot. fault View slot.sender) (first_wrong q.shape q.past q.stage)

-- the first fault of members 1, 2, .., to the last
abbrev pub first_member : Inquiry → (ℕ → Option Fault) → Option Fault
first_member q fault_at = first_below q.shape.members (λ place. fault_at (place + 1))

-- whether a member voted yes in the stage before
abbrev pub votes_yes : Inquiry → ℕ → Bool
votes_yes q member = is_yes (body_in q (q.stage - 1) member)

-- the least member that voted no
abbrev pub vote_fault : Inquiry → Option Fault
vote_fault q = first_member q (λ member. fault_unless (votes_yes q member) (fault FalseNoGo member))

-- ---- faults of outer seeds

-- the outer seeds that the members show
abbrev pub outer_seeds : Inquiry → List (List ℕ)
outer_seeds q = map (λ shown. shown.outer_seed) q.shown

-- that of a member
abbrev pub outer_seed : Inquiry → ℕ → List ℕ
outer_seed q member = slice_index_or (outer_seeds q) (member - 1) []

-- the opening of its outer layers that a member shows
abbrev pub outer_opening : Inquiry → ℕ → List ℕ
outer_opening q member = slice_index_or (map (λ shown. shown.outer_opening) q.shown) (member - 1) []

-- whether the outer seed that a member shows is that of its outer key
abbrev pub shows_its_seed : Inquiry → ℕ → ℕ → Bool
shows_its_seed q shuffle member = has_outer_key shuffle (outer_seed q member) (body_in q 0 member)

-- the least member that shows another
abbrev pub seed_fault : Inquiry → ℕ → Option Fault
seed_fault q shuffle = first_member q (λ member. fault_unless (shows_its_seed q shuffle member) (fault OuterSeed member))

-- ---- faults of submissions

-- the stage of a shuffle's submissions: before the closing stage stand the votes and a turn of each member
abbrev pub submit_stage : Inquiry → ℕ
submit_stage q = q.stage - (q.shape.members + 2)

-- what a member submitted
abbrev pub submission : Inquiry → ℕ → List ℕ
submission q member = ciphertext_of (body_in q (submit_stage q) member)

-- what is left of a ciphertext with its first layers off, if they open by the shown outer seeds
abbrev pub inside : Inquiry → List ℕ → ℕ → Option (List ℕ)
inside q ciphertext layers =
    option_map (λ (found : List (List ℕ) × List ℕ). found.1) (opened_through (take layers (outer_seeds q)) ciphertext)

-- what a layer carries sealed, if the layers to this one open
abbrev pub sealed_in : Inquiry → List ℕ → ℕ → Option (List ℕ)
sealed_in q ciphertext layer =
    option_map (λ (found : List ℕ × List ℕ). found.0) (option_and_then (peeled (outer_seed q layer)) (inside q ciphertext (layer - 1)))

-- the side of the outer layers: the inner ones are side 1
abbrev pub OUTER : ℕ
OUTER = 2

-- the seed of a layer of a member's submission, by the opening that it shows
abbrev pub own_layer_seed : Inquiry → ℕ → ℕ → ℕ → List ℕ
own_layer_seed q shuffle member layer = layer_seed (outer_opening q member) q.round shuffle OUTER member layer

-- whether a value is there and passes
abbrev pub is_passed : {A : Type 0} → (A → Bool) → Option A → Bool
is_passed passes None = false
is_passed passes (Some x) = passes x

-- whether a layer of a member's submission opens and carries its seed
abbrev pub has_layer : Inquiry → ℕ → ℕ → ℕ → Bool
has_layer q shuffle member layer =
    is_passed (λ m. bytes_eq m (own_layer_seed q shuffle member layer)) (sealed_in q (submission q member) layer)

-- the least layer of a member's submission that does not
abbrev pub layer_fault : Inquiry → ℕ → ℕ → Option Fault
layer_fault q shuffle member =
    first_member q (λ layer. fault_unless (has_layer q shuffle member layer) (fault (Submission layer) member))

-- that of the least member that has one
abbrev pub submission_fault : Inquiry → ℕ → Option Fault
submission_fault q shuffle = first_member q (layer_fault q shuffle)

-- ---- faults of turns

-- all submissions, by member
abbrev pub submissions : Inquiry → List (List ℕ)
submissions q = map (submission q) (range_with_len 1 q.shape.members)

-- the list after so many turns, unless the last of them said Abort. Before the first turn it is the submissions
abbrev pub list_after : Inquiry → ℕ → Option (List (List ℕ))
list_after q zero = Some (submissions q)
list_after q (suc turn) = list_of (body_in q (submit_stage q + suc turn) (suc turn))

-- Whether a list is another in some order: each of its entries is taken out of the other, and then nothing is left
unfoldable pub is_permutation : List (List ℕ) → List (List ℕ) → Bool
is_permutation [] [] = true
is_permutation [] (other ∷ others) = false
is_permutation (entry ∷ entries) others =
    is_passed (λ place. is_permutation entries (remove others place)) (position (bytes_eq entry) others)

-- whether bodies are there and so is a list, which is them in some order
abbrev pub is_order_of : Option (List (List ℕ)) → Option (List (List ℕ)) → Bool
is_order_of (Some bodies) (Some list) = is_permutation list bodies
is_order_of _ _ = false

-- the bodies of the list before a turn, if each of its entries opens by the outer seed of the member whose turn it is
abbrev pub bodies_before : Inquiry → ℕ → Option (List (List ℕ))
bodies_before q turn = option_and_then (stripped (outer_seed q turn)) (list_after q (turn - 1))

-- whether a turn says these in some order
abbrev pub is_turn : Inquiry → ℕ → Bool
is_turn q turn = is_order_of (bodies_before q turn) (list_after q turn)

-- the least turn that does not
abbrev pub turn_fault : Inquiry → Option Fault
turn_fault q = first_member q (λ turn. fault_unless (is_turn q turn) (fault Shuffle turn))

-- ---- the culprit

-- at the end of a shuffle the first fault of all five rules, in their order, and else of views and votes alone
abbrev pub culprit_at : Option StageKind → Inquiry → Option Fault
culprit_at (Some (Final shuffle)) q =
    first_some (view_fault q ∷ seed_fault q shuffle ∷ submission_fault q shuffle ∷ turn_fault q ∷ vote_fault q ∷ [])
culprit_at _ q = first_some (view_fault q ∷ vote_fault q ∷ [])

-- whom a replay blames, and why
abbrev pub culprit_of : Inquiry → Option Fault
culprit_of q = culprit_at (kind_of_stage q.shape q.stage) q
