-- Runs of honest members: what a member kept in a round, and what makes it honest; lists of such runs, and what it
-- means that no signature of theirs was forged.
use Rattle.std.specs.Prelude.{◌≡◌, ◌≢◌, ℕ, ◌+◌, ◌^◌, ◌<◌, ◌≤◌, ◌⊎◌, List, length, map, take, filter, filter_map, ◌==◌, All, AllPairs, Contains, IsTrue, Some, Ok}
use Rattle.std.specs.List.{flat_map, range_with_len}
use Rattle.wire_core.specs.Bytes.{IsBytes}
use Rattle.lms_tree.specs.Secret.{leaves, own_public}
use Rattle.phase_message.specs.declared.content.Content.{Content}
use Rattle.phase_message.specs.declared.header.Header.{Header}
use Rattle.phase_message.specs.declared.post.Post.{Post}
use Rattle.phase_message.specs.declared.stage.Slot.{Slot}
use Rattle.phase_message.specs.Offence.{content_read}
use Rattle.phase_message.specs.Slots.{slots_before, stage_count}
use Rattle.phase_message.specs.Stages.{is_member}
use Rattle.bulk_descriptor.specs.declared.making.TheConstants.{MESSAGE_LIMIT}
use Rattle.group_roster.specs.Roster.{IsRosterForm, Roster, key_of, shape_of_roster}
use Rattle.signed_post.specs.Admission.{Admitted, check_of}
use Rattle.signed_post.specs.declared.post.TheConstants.{LONGEST_SIGNATURE}
use Rattle.signed_post.specs.Frame.{FitsFrame, frame_of}
use Rattle.stage_log.specs.Log.{before}
use Rattle.stage_log.specs.Table.{IsLog, Log, kept_in}
use Rattle.go_nogo.specs.Closing.{IsClosing, posts_embedded}
use Rattle.round_spec.specs.Embedded.{slot_named}
use Rattle.round_spec.specs.Say.{Configuration, own_post, shape_in}
use Rattle.round_spec.specs.Verdict.{Goes, verdict_of}
use Rattle.round_spec.specs.Course.{closing_of}
use Rattle.round_spec.specs.Result.{log_after}

-- ---- configurations

-- a member can enter a round: its number is one of a group whose roster is of the form, the round has eight bytes, the
-- message has at most 65,536 bytes, and twelve leaves are left of its key, which need not be the roster's
pub record CanEnter (c : Configuration) : Type 0 where
  pub round : c.round < 2 ^ 64
  pub bytes : IsBytes c.message
  pub roster : IsRosterForm c.roster
  pub member : IsTrue (is_member (shape_in c).members c.number)
  pub message : length c.message ≤ MESSAGE_LIMIT
  pub leaves : c.first + 12 ≤ leaves c.key

-- a member that can be honest in a round: it can enter it, and the roster has its key under its number
pub record IsConfiguration (c : Configuration) : Type 0 where
  pub enter : CanEnter c
  pub key : key_of c.roster c.number ≡ Some (own_public c.key)

-- ---- runs

-- what a member kept of a round, with what it entered the round with
pub record Run : Type 0 where
  pub config : Configuration
  pub log : Log

-- the member's own slot at a stage
abbrev pub own_slot : Run → ℕ → Slot
own_slot run stage = record { stage = stage; sender = run.config.number }

-- the posts of its own that it kept, by stage
abbrev pub posts_said : Run → List Post
posts_said run = filter_map (λ stage. kept_in run.log (own_slot run stage)) (range_with_len 0 (stage_count run.log.shape))

-- the run of a member that these byte strings were delivered to
abbrev pub run_after : Configuration → List (List ℕ) → Run
run_after c delivered = record { config = c; log = log_after c delivered }

-- what it sent: the contents of these
unfoldable pub sent : Run → List (List ℕ)
sent run = map (λ post. post.content) (posts_said run)

-- the round goes on behind each stage before a stage, by what was said so far
abbrev pub AllGo : Configuration → List Post → ℕ → Type 0
AllGo c past stage = (earlier : ℕ) → earlier < stage →
    verdict_of (closing_of c (take (slots_before (shape_in c) (earlier + 1)) past) earlier) ≡ Goes

-- a post is what the member says at a stage: all stages before are complete, none of them has a verdict that ends the
-- round, and the content is what the member has to say, signed with its next leaf
pub record IsOwnPost (run : Run) (stage : ℕ) (post : Post) : Type 0 where
  pub past : List Post
  pub before : before run.log stage ≡ Some past
  pub goes : AllGo run.config past stage
  pub said : post ≡ own_post run.config past stage

-- a post checks, its body is in the grammar, and it stands in its slot
pub record ChecksIn (c : Configuration) (slot : Slot) (post : Post) : Type 0 where
  pub content : Content
  pub checks : check_of c.roster c.round post ≡ Ok content
  pub content_bytes : IsBytes post.content
  pub signature_bytes : IsBytes post.signature
  pub named : slot_named content.header ≡ slot

-- a post reads in a slot, whoever signed it: its body is in the grammar, it stands in the slot, and content and signature
-- are of a length that can be sent
pub record ReadsIn (c : Configuration) (slot : Slot) (post : Post) : Type 0 where
  pub content : Content
  pub reads : content_read (shape_in c) post.content ≡ Ok content
  pub content_bytes : IsBytes post.content
  pub signature_bytes : IsBytes post.signature
  pub named : slot_named content.header ≡ slot
  pub frame : FitsFrame post
  pub short : length post.signature ≤ LONGEST_SIGNATURE

-- a run of an honest member, which may have ended anywhere: what it kept are posts that check, each in its slot, and in
-- its own slots there is nothing but what it has to say
pub record HonestRun (run : Run) : Type 0 where
  pub config : IsConfiguration run.config
  pub log : IsLog run.log
  pub shape : run.log.shape ≡ shape_in run.config
  pub posts : (slot : Slot) (post : Post) → kept_in run.log slot ≡ Some post → ChecksIn run.config slot post
  pub own : (stage : ℕ) (post : Post) → kept_in run.log (own_slot run stage) ≡ Some post → IsOwnPost run stage post

-- ---- lists of runs

-- two runs are of different members or of different rounds
abbrev pub AreApart : Run → Run → Type 0
AreApart run other = run.config.number ≡ other.config.number → run.config.round ≢ other.config.round

-- honest runs of members of one group, of each member at most one in a round
pub record AreHonest (roster : Roster) (runs : List Run) : Type 0 where
  pub honest : All HonestRun runs
  pub one_roster : All (λ run. run.config.roster ≡ roster) runs
  pub apart : AllPairs AreApart runs

-- one of the runs is of this member
abbrev pub HasNumber : List Run → ℕ → Type 0
HasNumber runs number = (run : Run) × Contains runs run × (run.config.number ≡ number)

-- the runs of a member
abbrev pub runs_of : List Run → ℕ → List Run
runs_of runs number = filter (λ run. run.config.number == number) runs

-- all that the runs of a member sent
unfoldable pub contents_sent : List Run → ℕ → List (List ℕ)
contents_sent runs number = flat_map sent (runs_of runs number)

-- a run of a member sent a content
abbrev pub Sent : List Run → ℕ → List ℕ → Type 0
Sent runs number content = Contains (contents_sent runs number) content

-- a member is faulty in a round: none of the runs is of this member and this round
abbrev pub IsFaulty : List Run → ℕ → ℕ → Type 0
IsFaulty runs round number = (run : Run) → Contains runs run → run.config.number ≡ number → run.config.round ≢ round

-- ---- forging

-- a byte string is embedded in one that spells a post of a closing content
pub record IsEmbedded (roster : Roster) (outer bytes : List ℕ) : Type 0 where
  pub post : Post
  pub content : Content
  pub spelled : frame_of outer ≡ Ok post
  pub reads : content_read (shape_of_roster roster) post.content ≡ Ok content
  pub closing : IsClosing (shape_of_roster roster) content
  pub embedded : Contains (posts_embedded content.body) bytes

-- a byte string is given in a list, or embedded in a closing content that is
abbrev pub IsGiven : Roster → List (List ℕ) → List ℕ → Type 0
IsGiven roster given bytes =
    Contains given bytes ⊎ ((outer : List ℕ) × Contains given outer × IsEmbedded roster outer bytes)

-- no signature was forged: each post that is given, or embedded in a closing content that is, and that is admitted for
-- its own round with the number of a run for its sender, has a content that a run of that number sent
abbrev pub NoForgery : Roster → List (List ℕ) → List Run → Type 0
NoForgery roster given runs = (bytes : List ℕ) (post : Post) (header : Header) → IsGiven roster given bytes →
    frame_of bytes ≡ Ok post → Admitted roster header.round post header → HasNumber runs header.sender →
    Sent runs header.sender post.content

-- each post of a list that is admitted for a round with a member for its sender has a content that a run of that member
-- sent
abbrev pub SaidBy : Roster → List Run → ℕ → ℕ → List (List ℕ) → Type 0
SaidBy roster runs number round posts = (bytes : List ℕ) (post : Post) (header : Header) → Contains posts bytes →
    frame_of bytes ≡ Ok post → Admitted roster round post header → header.sender ≡ number →
    Sent runs number post.content
