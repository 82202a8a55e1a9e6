-- What a member of the group signs itself.
use Rattle.std.specs.Prelude.{◌≡◌, ℕ, ◌+◌, ◌≤◌, ◌<◌, List, length, IsTrue, Some, Ok}
use Rattle.phase_message.specs.declared.header.Header.{Header}
use Rattle.phase_message.specs.declared.post.TheConstants.{LEAST_CONTENT, POST_LIMIT}
use Rattle.phase_message.specs.Header.{header_of}
use Rattle.phase_message.specs.Stages.{is_member, is_slot}
use Rattle.lms_tree.specs.Secret.{SecretParts, leaves, lms_signature, own_public}
use Rattle.group_roster.specs.Roster.{Roster, key_of, roster_id, shape_of_roster}
use Rattle.signed_post.specs.declared.post.TheConstants.{LONGEST_SIGNATURE}
use Rattle.signed_post.specs.Admission.{Admitted}

-- a content that a member may send: its header names the version, the group, the round and a slot of the group, and with
-- the longest signature it is within the limit of a post
pub record IsSendable (roster : Roster) (round : ℕ) (content : List ℕ) (header : Header) : Type 0 where
  pub reads : header_of content ≡ Ok header
  pub version : header.version ≡ 1
  pub group : header.group ≡ roster_id roster
  pub this_round : header.round ≡ round
  pub member : IsTrue (is_member (length roster.keys) header.sender)
  pub slot : IsTrue (is_slot (shape_of_roster roster) header.stage header.sender)
  pub least : LEAST_CONTENT ≤ length content
  pub most : 4 + length content + LONGEST_SIGNATURE ≤ POST_LIMIT

-- such a content is admitted with the signature that the sender's own key makes with any leaf
abbrev pub OwnPostsAreAdmitted : Type 0
OwnPostsAreAdmitted = (roster : Roster) (round : ℕ) (content : List ℕ) (header : Header) (secret : SecretParts) (q : ℕ)
    → IsSendable roster round content header
    → key_of roster header.sender ≡ Some (own_public secret) → q < leaves secret
    → Admitted roster round (record { content = content; signature = lms_signature secret q content }) header
