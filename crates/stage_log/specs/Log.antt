-- What was said before a stage, and the views of it. A past is the list of the contents of a round's slots so far, in
-- the order of slots.
use Rattle.std.specs.Prelude.{ℕ, zero, suc, ◌+◌, List, [], ◌∷◌, map, take, option_and_then, Bool, false, Option, Some, None, Result, Ok, Err, bytes_eq, if◌then◌else◌}
use Rattle.std.specs.List.{filter_map, slice_get, slice_range}
use Rattle.std.specs.Option.{option_map}
use Rattle.wire_core.specs.declared.cursor.Short.{Short}
use Rattle.wire_core.specs.declared.tag.Tag.TheVariants.{View}
use Rattle.wire_core.specs.Answers.{first_below}
use Rattle.wire_core.specs.Hash.{hash_of}
use Rattle.phase_message.specs.declared.header.Header.{Header}
use Rattle.phase_message.specs.declared.post.Post.{Post}
use Rattle.phase_message.specs.declared.stage.Slot.{Slot}
use Rattle.phase_message.specs.declared.stage.StageKind.{StageKind}
use Rattle.phase_message.specs.declared.stage.StageKind.TheVariants.{Shuffle}
use Rattle.phase_message.specs.Header.{header_of}
use Rattle.phase_message.specs.Shape.{Shape}
use Rattle.phase_message.specs.Slots.{slot_at, slot_number, slots_before}
use Rattle.stage_log.specs.Table.{Log}

-- ---- what was said before a stage

-- all values of a list, if none is missing
abbrev pub all_some : {A : Type 0} → List (Option A) → Option (List A)
all_some [] = Some []
all_some (None ∷ others) = None
all_some (Some x ∷ others) = option_map (λ xs. x ∷ xs) (all_some others)

-- the posts of the slots before a stage, if all are there
abbrev pub before : Log → ℕ → Option (List Post)
before log stage = all_some (take (slots_before log.shape stage) log.posts)

-- the contents of posts
abbrev pub contents_of : List Post → List (List ℕ)
contents_of posts = map (λ post. post.content) posts

-- the contents of a stage, by sender
abbrev pub contents_at : Shape → List (List ℕ) → ℕ → List (List ℕ)
contents_at shape past stage = slice_range past (slots_before shape stage) (slots_before shape (stage + 1))

-- ---- views

-- the view of the stages before a stage: a hash without pieces at the first, and then at each the hash of the view
-- before it and of the contents of one stage more
abbrev pub view_of : Shape → List (List ℕ) → ℕ → List ℕ
view_of shape past zero = hash_of View []
view_of shape past (suc stage) = hash_of View (view_of shape past stage ∷ contents_at shape past stage)

-- whether a header carries a view
abbrev pub has_view : List ℕ → Result Header Short → Bool
has_view view (Ok header) = bytes_eq header.view view
has_view view (Err short) = false

-- whether a content carries a view in its header
abbrev pub carries : List ℕ → List ℕ → Bool
carries view content = has_view view (header_of content)

-- whether there is a content and it carries a view
abbrev pub is_carried : List ℕ → Option (List ℕ) → Bool
is_carried view None = false
is_carried view (Some content) = carries view content

-- whether the content of a slot carries the view of its stage
abbrev pub is_right : Shape → List (List ℕ) → Slot → Bool
is_right shape past slot =
    is_carried (view_of shape past slot.stage) (slice_get past (slot_number shape slot.stage slot.sender))

-- a slot that is not right
abbrev pub wrong_slot : Shape → List (List ℕ) → Slot → Option Slot
wrong_slot shape past slot = if is_right shape past slot then None else Some slot

-- the slot of a number, where it is not right
abbrev pub wrong_at : Shape → List (List ℕ) → ℕ → Option Slot
wrong_at shape past number = option_and_then (wrong_slot shape past) (slot_at shape number)

-- the first slot before a stage that is not right
abbrev pub first_wrong : Shape → List (List ℕ) → ℕ → Option Slot
first_wrong shape past stage = first_below (slots_before shape stage) (wrong_at shape past)

-- ---- of a log

-- the content of a place, if there is a post
abbrev pub content_in : Option Post → Option (List ℕ)
content_in kept = option_map (λ post. post.content) kept

-- the contents of the places that have a post
abbrev pub contents_in : List (Option Post) → List (List ℕ)
contents_in places = filter_map content_in places

-- the posts of the places that have one
abbrev pub posts_kept : List (Option Post) → List Post
posts_kept places = filter_map (λ kept. kept) places

-- a place whose content does not carry a view
abbrev pub unlike_at : List ℕ → List (Option Post) → ℕ → Option ℕ
unlike_at view places place =
    if is_carried view (option_and_then content_in (slice_get places place)) then None else Some place

-- who speaks at a place of a stage of this kind
abbrev pub sender_of : Option StageKind → ℕ → ℕ
sender_of (Some (Shuffle shuffle k)) place = k
sender_of _ place = place + 1

-- the view of a log at a stage, if all stages before are complete
abbrev pub log_view : Log → ℕ → Option (List ℕ)
log_view log stage = option_map (λ posts. view_of log.shape (contents_of posts) stage) (before log stage)

-- the first slot of a log before a stage that is not right, if all stages before are complete
abbrev pub log_first_wrong : Log → ℕ → Option (Option Slot)
log_first_wrong log stage = option_map (λ posts. first_wrong log.shape (contents_of posts) stage) (before log stage)
