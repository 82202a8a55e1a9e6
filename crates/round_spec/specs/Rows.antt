-- What the runs of honest members sent.
use Rattle.std.specs.Prelude.{◌≡◌, ℕ, ◌≤◌, List, take, Contains, Some, Ok}
use Rattle.phase_message.specs.declared.content.Content.{Content}
use Rattle.phase_message.specs.declared.header.Header.{Header}
use Rattle.phase_message.specs.declared.post.Post.{Post}
use Rattle.phase_message.specs.Grammar.{OfGrammar, content_text}
use Rattle.phase_message.specs.Header.{header_of}
use Rattle.phase_message.specs.Slots.{slots_before}
use Rattle.group_roster.specs.Roster.{Roster}
use Rattle.stage_log.specs.Log.{before}
use Rattle.stage_log.specs.Table.{kept_in}
use Rattle.round_spec.specs.Say.{own_content, own_header, shape_in}
use Rattle.round_spec.specs.Runs.{AllGo, AreHonest, HonestRun, Run, contents_sent, own_slot, sent}

-- a content that a run sent is what the member had to say at a stage by the posts before it; it is of the grammar, and
-- its header is the member's
pub record IsOwnRow (run : Run) (content : List ℕ) : Type 0 where
  pub stage : ℕ
  pub post : Post
  pub kept : kept_in run.log (own_slot run stage) ≡ Some post
  pub content_is : post.content ≡ content
  pub past : List Post
  pub before : before run.log stage ≡ Some past
  pub goes : AllGo run.config past stage
  pub said : content ≡ own_content run.config past stage
  pub read : Content
  pub grammar : OfGrammar (shape_in run.config) read
  pub spelled : content ≡ content_text read
  pub header : header_of content ≡ Ok (own_header run.config past stage)

-- so is each content that an honest run sent
abbrev pub OwnRow : Type 0
OwnRow = (run : Run) (content : List ℕ) → HonestRun run → Contains (sent run) content → IsOwnRow run content

-- the past at a stage is the front of the past at every later stage
abbrev pub RowPast : Type 0
RowPast = (run : Run) (stage later : ℕ) (past later_past : List Post) → stage ≤ later → before run.log stage ≡ Some past →
    before run.log later ≡ Some later_past → past ≡ take (slots_before run.log.shape stage) later_past

-- one of the runs is of this member and this round
pub record IsRunOf (runs : List Run) (member its_round : ℕ) (run : Run) : Type 0 where
  pub listed : Contains runs run
  pub number : run.config.number ≡ member
  pub round : run.config.round ≡ its_round

-- a content that runs of a member sent was sent by its run of the content's round
abbrev pub RunOfContent : Type 0
RunOfContent = (roster : Roster) (runs : List Run) (number : ℕ) (content : List ℕ) (header : Header) → AreHonest roster runs →
    Contains (contents_sent runs number) content → header_of content ≡ Ok header →
    (run : Run) × IsRunOf runs number header.round run × Contains (sent run) content

-- a member has at most one run in a round
abbrev pub RunUnique : Type 0
RunUnique = (roster : Roster) (runs : List Run) (number round : ℕ) (run other : Run) → AreHonest roster runs →
    IsRunOf runs number round run → IsRunOf runs number round other → run ≡ other

-- of two contents that runs of a member sent in one round and one stage, one is the other
abbrev pub OnePerSlot : Type 0
OnePerSlot = (roster : Roster) (runs : List Run) (number : ℕ) (a b : List ℕ) (h g : Header) → AreHonest roster runs →
    Contains (contents_sent runs number) a → Contains (contents_sent runs number) b → header_of a ≡ Ok h → header_of b ≡ Ok g →
    h.round ≡ g.round → h.stage ≡ g.stage → a ≡ b
