-- What the code finds of the posts that a closing content embeds.
use Rattle.std.specs.Prelude.{◌≡◌, ℕ, ◌+◌, ◌-◌, List, ◌++◌, length, map, replicate, Option, Some, None, Result, Ok, IsErr, IsTrue, if◌then◌else◌}
use Rattle.phase_message.specs.declared.content.Content.{Content}
use Rattle.phase_message.specs.declared.post.Post.{Post}
use Rattle.phase_message.specs.Shape.{Shape}
use Rattle.phase_message.specs.Slots.{slot_count, slots_before}
use Rattle.phase_message.specs.Stages.{is_slot}
use Rattle.signed_post.specs.declared.post.PostRefusal.{PostRefusal}
use Rattle.group_roster.specs.Roster.{Roster, shape_of_roster}
use Rattle.stage_log.specs.Table.{IsKept, Log}
use Rattle.go_nogo.specs.Closing.{is_assent, posts_embedded}
use Rattle.go_nogo.specs.Stands.{StandAll, StandsIn}
use Rattle.round_spec.specs.Embedded.{WhyNot, posts_in_content}
use Rattle.embedded_log.specs.declared.embedding.Checked.{Checked}
use Rattle.embedded_log.specs.declared.embedding.EmbeddedRefusal.{EmbeddedRefusal}
use Rattle.embedded_log.specs.declared.embedding.EmbeddedRefusal.TheVariants.{Bad, Memory}
use Rattle.embedded_log.specs.declared.embedding.Placed.{Placed}
use Rattle.embedded_log.specs.declared.known.KnownLog.{KnownLog}

-- the number of the first slot that a closing content embeds
abbrev pub first_embedded : Shape → Content → ℕ
first_embedded shape content = if is_assent content.body then slots_before shape (content.header.stage - 1) else 0

-- the place of the first post that is none, as a refusal tells it
abbrev pub place_of_bad : EmbeddedRefusal → Option ℕ
place_of_bad (Bad index) = Some index
place_of_bad Memory = None

-- a content and a signature where they lie, with the header of the content
abbrev pub post_checked : Checked → Post
post_checked checked = record { content = checked.content.now; signature = checked.signature.now }

-- bytes are a post that checks, of this content, signature and header, or they are none
abbrev pub IsChecked : Option Checked → Result (Post × Content) PostRefusal → Type 0
IsChecked None read = IsErr read
IsChecked (Some checked) read =
    (content : Content) × (read ≡ Ok (post_checked checked, content)) × (content.header ≡ checked.header)

-- bytes are the post of a slot, or they are none
abbrev pub IsPlacedPost : Option Placed → Result Post WhyNot → Type 0
IsPlacedPost None read = IsErr read
IsPlacedPost (Some placed) read = read ≡ Ok placed.post

-- a content of the grammar that stands in the slot that its header names, and can be kept there
pub record StandsThere (shape : Shape) (stage sender : ℕ) (content : List ℕ) : Type 0 where
  pub there : IsTrue (is_slot shape stage sender)
  pub kept : IsKept content
  pub stands : StandsIn shape (record { stage = stage; sender = sender }) content

-- the places of a log that keeps posts in the slots from a number on, and nothing else
abbrev pub places_of : ℕ → ℕ → List Post → List (Option Post)
places_of first count posts = replicate first None ++ (map (λ x. Some x) posts ++ replicate (count - (first + length posts)) None)

-- a log keeps the posts that a closing content embeds, and nothing else
pub record KeepsEmbedded (roster : Roster) (round : ℕ) (content : Content) (log : Log) : Type 0 where
  pub posts : List Post
  pub found : posts_in_content roster round content ≡ Ok posts
  pub long : length posts ≡ length (posts_embedded content.body)
  pub keeps : log ≡ record {
    shape = shape_of_roster roster;
    posts = places_of (first_embedded (shape_of_roster roster) content)
        (slot_count (shape_of_roster roster)) posts;
  }

-- a log is that of what its content embeds, and all that it keeps is of the grammar and stands in its slots
pub record IsKnown (roster : Roster) (round : ℕ) (known : KnownLog) : Type 0 where
  pub keeps : KeepsEmbedded roster round known.content known.log
  pub stand : StandAll known.log

-- two closing contents embed the same posts for the same slots
pub record EmbedsSame (known content : Content) : Type 0 where
  pub stage : known.header.stage ≡ content.header.stage
  pub assent : is_assent known.body ≡ is_assent content.body
  pub posts : posts_embedded known.body ≡ posts_embedded content.body
