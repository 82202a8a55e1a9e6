-- The posts that a closing content embeds, and the log that they are: each has to be a post that checks, in the slot
-- that it is embedded for. Else the content is justified by nothing.
use Rattle.std.specs.Prelude.{ℕ, ◌+◌, List, [], ◌∷◌, map, Bool, false, not, ◌&&◌, ◌==◌, fold, zip, Result, Ok, Err}
use Rattle.wire_core.specs.Answers.{◌>>=◌, fault_as, unless}
use Rattle.phase_message.specs.declared.content.Content.{Content}
use Rattle.phase_message.specs.declared.header.Header.{Header}
use Rattle.phase_message.specs.declared.post.Post.{Post}
use Rattle.phase_message.specs.declared.stage.Slot.{Slot}
use Rattle.phase_message.specs.Shape.{Shape}
use Rattle.group_roster.specs.Roster.{Roster, shape_of_roster}
use Rattle.signed_post.specs.declared.post.PostRefusal.{PostRefusal}
use Rattle.signed_post.specs.declared.post.PostRefusal.TheVariants.{Frame}
use Rattle.signed_post.specs.Frame.{frame_of}
use Rattle.signed_post.specs.Admission.{check_of}
use Rattle.stage_log.specs.Log.{contents_of}
use Rattle.stage_log.specs.Table.{Log, empty_log, filled}
use Rattle.go_nogo.specs.Closing.{slots_embedded, posts_embedded, is_justified}

-- ---- one post

-- why bytes are not the post of a slot: the first of the eight checks that refuses them, or that the post stands in
-- another slot
pub data WhyNot : Type 0 where
  Refused : PostRefusal → WhyNot
  Misplaced : Slot → WhyNot

-- the slot that a header names
abbrev pub slot_named : Header → Slot
slot_named header = record { stage = header.stage; sender = header.sender }

-- whether a header names a slot
abbrev pub names_slot : Slot → Header → Bool
names_slot slot header = (header.stage == slot.stage) && (header.sender == slot.sender)

-- the post that bytes spell and the content that it says, if all eight checks take it
unfoldable pub checked_post : Roster → ℕ → List ℕ → Result (Post × Content) PostRefusal
checked_post roster round bytes = do
  post ← fault_as (λ at. Frame at) (frame_of bytes)
  content ← check_of roster round post
  Ok (post, content)

-- the post that bytes spell, if it checks and stands in a slot, or why not
unfoldable pub post_for_slot : Roster → ℕ → Slot → List ℕ → Result Post WhyNot
post_for_slot roster round slot bytes = do
  checked ← fault_as Refused (checked_post roster round bytes)
  unless (not (names_slot slot checked.1.header)) (Misplaced (slot_named checked.1.header)) checked.0

-- ---- all of them

-- the first of a list of posts that is not one: its place from 0, and why
pub record BadPost : Type 0 where
  pub place : ℕ
  pub why : WhyNot

-- the posts that byte strings spell, each for the slot at its place, or the first that is none. The first has this
-- place
unfoldable pub posts_for : Roster → ℕ → ℕ → List (Slot × List ℕ) → Result (List Post) BadPost
posts_for roster round place [] = Ok []
posts_for roster round place (pair ∷ pairs) = do
  post ← fault_as (λ why. record { place = place; why = why }) (post_for_slot roster round pair.0 pair.1)
  posts ← posts_for roster round (place + 1) pairs
  Ok (post ∷ posts)

-- the byte strings that a closing content embeds, in their order, each with the slot that it is embedded for
abbrev pub embedded_pairs : Roster → Content → List (Slot × List ℕ)
embedded_pairs roster content = zip (slots_embedded (shape_of_roster roster) content) (posts_embedded content.body)

-- the posts that a closing content embeds, or the first that does not check or does not stand in its slot
abbrev pub posts_in_content : Roster → ℕ → Content → Result (List Post) BadPost
posts_in_content roster round content = posts_for roster round 0 (embedded_pairs roster content)

-- the log that keeps posts in slots, and nothing else
abbrev pub log_of : Shape → List (Slot × Post) → Log
log_of shape kept = fold (λ log (pair : Slot × Post). filled log pair.0 pair.1) (empty_log shape) kept

-- the log of the posts that stand at the places of slots, or the first that does not check or stand in its slot
abbrev pub log_for : Roster → ℕ → List (Slot × List ℕ) → Result Log BadPost
log_for roster round pairs = do
  posts ← posts_for roster round 0 pairs
  Ok (log_of (shape_of_roster roster) (zip (map (λ (pair : Slot × List ℕ). pair.0) pairs) posts))

-- the log that a closing content embeds, or the first embedded post that does not check or does not stand in its slot
unfoldable pub embedded_log : Roster → ℕ → Content → Result Log BadPost
embedded_log roster round content = log_for roster round (embedded_pairs roster content)

-- ---- justified closing contents

-- whether posts were found, and they justify a closing content
abbrev pub is_justified_by : Shape → Content → Result (List Post) BadPost → Bool
is_justified_by shape content (Ok posts) = is_justified shape content (contents_of posts)
is_justified_by shape content (Err bad) = false

-- whether a closing content is justified: each embedded post checks and stands in its slot; the votes are unanimous
-- where it says so; and else they are not, and its header carries the view of what it embeds
unfoldable pub is_content_justified : Roster → ℕ → Content → Bool
is_content_justified roster round content =
    is_justified_by (shape_of_roster roster) content (posts_in_content roster round content)
