-- When a closing content is justified, in the words of posts, votes and views.
use Rattle.std.specs.Prelude.{◌≡◌, ◌↔◌, ℕ, ◌-◌, ◌<◌, List, All, Bool, true, false, IsTrue, Some, Ok, Err, slice_get}
use Rattle.std.specs.List.{AllZip}
use Rattle.wire_core.specs.Bytes.{IsBytes}
use Rattle.phase_message.specs.declared.content.Content.{Content}
use Rattle.phase_message.specs.declared.post.Post.{Post}
use Rattle.phase_message.specs.declared.stage.Slot.{Slot}
use Rattle.phase_message.specs.Offence.{content_read}
use Rattle.phase_message.specs.Post.{post_spelling}
use Rattle.phase_message.specs.Shape.{Shape}
use Rattle.group_roster.specs.Roster.{Roster, shape_of_roster}
use Rattle.signed_post.specs.Admission.{Admitted}
use Rattle.stage_log.specs.Log.{contents_at, contents_of, view_of}
use Rattle.go_nogo.specs.declared.votes.Vote.{Vote}
use Rattle.go_nogo.specs.Closing.{is_assent, posts_embedded}
use Rattle.go_nogo.specs.Votes.{AreUnanimous, votes_of}
use Rattle.round_spec.specs.Embedded.{BadPost, embedded_pairs, is_content_justified, post_for_slot, posts_for, slot_named}

-- ---- posts

-- a byte string is the post file of a slot: it spells a post that is admitted for the round, whose content is of the
-- grammar and names the slot
pub record IsPostOf (roster : Roster) (round : ℕ) (slot : Slot) (bytes : List ℕ) (post : Post) : Type 0 where
  pub spelled : bytes ≡ post_spelling post
  pub content : Content
  pub admitted : Admitted roster round post content.header
  pub reads : content_read (shape_of_roster roster) post.content ≡ Ok content
  pub named : slot_named content.header ≡ slot

-- byte strings are the post files of their slots, one by one
abbrev pub ArePostsOf : Roster → ℕ → List (Slot × List ℕ) → List Post → Type 0
ArePostsOf roster round pairs posts = AllZip (λ pair post. IsPostOf roster round pair.0 pair.1 post) pairs posts

-- the posts of all are found exactly where each string is the post file of its slot
abbrev pub PostsAreFound : Type 0
PostsAreFound = (roster : Roster) (round place : ℕ) (pairs : List (Slot × List ℕ)) (posts : List Post) →
    All (λ pair. IsBytes pair.1) pairs → (posts_for roster round place pairs ≡ Ok posts) ↔ ArePostsOf roster round pairs posts

-- the first string that is not the post of its slot, and why
pub record IsFirstBad (roster : Roster) (round : ℕ) (pairs : List (Slot × List ℕ)) (bad : BadPost) : Type 0 where
  pub pair : Slot × List ℕ
  pub at : slice_get pairs bad.place ≡ Some pair
  pub why : post_for_slot roster round pair.0 pair.1 ≡ Err bad.why
  pub earlier : (place : ℕ) (other : Slot × List ℕ) → place < bad.place → slice_get pairs place ≡ Some other →
      (post : Post) × (post_for_slot roster round other.0 other.1 ≡ Ok post)

-- what is told of others is the first that is not
abbrev pub FirstBadIsTold : Type 0
FirstBadIsTold = (roster : Roster) (round : ℕ) (pairs : List (Slot × List ℕ)) (bad : BadPost) →
    (posts_for roster round 0 pairs ≡ Err bad) ↔ IsFirstBad roster round pairs bad

-- ---- justified closing contents

-- contents are votes, all of them say yes, and they carry one view
abbrev pub AreUnanimousVotes : Shape → List (List ℕ) → Type 0
AreUnanimousVotes shape contents = (votes : List Vote) × (votes_of shape contents ≡ Some votes) × AreUnanimous votes

-- what a content says of those that it embeds is so: where it assents, they are unanimous votes; else the votes among
-- them are not, and its header carries the view of all of them
abbrev pub IsTrueOf : Bool → Shape → Content → List (List ℕ) → Type 0
IsTrueOf true shape content embedded = AreUnanimousVotes shape embedded
IsTrueOf false shape content embedded =
    (AreUnanimousVotes shape (contents_at shape embedded (content.header.stage - 1)) → ⊥)
    × (content.header.view ≡ view_of shape embedded content.header.stage)

-- a closing content is justified: it embeds the post files of its slots, and what it says of them is so
pub record IsJustified (roster : Roster) (round : ℕ) (content : Content) : Type 0 where
  pub posts : List Post
  pub embeds : ArePostsOf roster round (embedded_pairs roster content) posts
  pub says : IsTrueOf (is_assent content.body) (shape_of_roster roster) content (contents_of posts)

-- a closing content that embeds bytes counts as justified exactly where it is
abbrev pub JustifiedExactly : Type 0
JustifiedExactly = (roster : Roster) (round : ℕ) (content : Content) → All IsBytes (posts_embedded content.body) →
    IsTrue (is_content_justified roster round content) ↔ IsJustified roster round content
