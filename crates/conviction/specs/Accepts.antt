-- What convicts a member: what each claim asks of the posts that a transcript lists.
use Rattle.std.specs.Prelude.{◌≡◌, ◌≢◌, ◌≤◌, ℕ, ◌-◌, List, [], ◌∷◌, length, Option, Some, Ok, false, ◌==◌, IsTrue, IsSome, slice_get, slice_index_or, if◌then◌else◌}
use Rattle.ring_encrypt.specs.Capsule.{key_of_seed}
use Rattle.phase_message.specs.declared.content.Body.TheVariants.{Keys, Reveal, Pads}
use Rattle.phase_message.specs.declared.content.Content.{Content}
use Rattle.phase_message.specs.declared.header.Header.{Header}
use Rattle.phase_message.specs.declared.post.Post.{Post}
use Rattle.phase_message.specs.declared.stage.StageKind.{StageKind}
use Rattle.phase_message.specs.declared.stage.StageKind.TheVariants.{Keys as AtKeys, Final}
use Rattle.phase_message.specs.Closing.{ClosesVotes}
use Rattle.phase_message.specs.Grammar.{OfGrammar, content_text}
use Rattle.phase_message.specs.Shape.{Shape}
use Rattle.phase_message.specs.Slots.{slots_before}
use Rattle.phase_message.specs.Stages.{kind_of_stage}
use Rattle.group_roster.specs.Roster.{Roster, shape_of_roster}
use Rattle.signed_post.specs.Admission.{IsPostFile, Says}
use Rattle.stage_log.specs.Log.{contents_of, view_of}
use Rattle.transcript_form.specs.declared.accusation.Accusation.{Accusation}
use Rattle.transcript_form.specs.declared.claim.Claim.{Claim}
use Rattle.transcript_form.specs.declared.claim.Claim.TheVariants.{Equivocation, Malformed, WrongSeed, BadLog, Replay, Pad}
use Rattle.transcript_form.specs.declared.transcript.Transcript.{Transcript}
use Rattle.transcript_form.specs.Transcript.{IsTranscript, transcript_spelling}
use Rattle.accusation.specs.Accusation.{Holds}
use Rattle.go_nogo.specs.Closing.{IsClosing}
use Rattle.shuffle_blame.specs.declared.fault.Fault.{Fault}
use Rattle.shuffle_blame.specs.declared.fault.Shown.{Shown}
use Rattle.shuffle_blame.specs.Replay.{Inquiry, culprit_of}
use Rattle.round_spec.specs.Slots.{bulk_place, by_member, descriptors_opened, final_stage, inner_place, keys_said, list_said, pad_stage, said_in}
use Rattle.round_spec.specs.Embedded.{is_content_justified, posts_for, posts_in_content}
use Rattle.round_spec.specs.Premises.{pairs_listed}
use Rattle.round_spec.specs.Verdict.{is_dissent, shown_in}

-- ---- what one or two posts show

-- Equivocation: the transcript lists two posts of the accused in one slot, whose contents differ.
pub record Equivocates (roster : Roster) (t : Transcript) : Type 0 where
  pub first : List ℕ
  pub second : List ℕ
  pub listed : t.posts ≡ first ∷ second ∷ []
  pub first_content : List ℕ
  pub second_content : List ℕ
  pub first_header : Header
  pub second_header : Header
  pub first_says : Says roster t.round first first_content first_header
  pub second_says : Says roster t.round second second_content second_header
  pub first_sender : first_header.sender ≡ t.accused
  pub second_sender : second_header.sender ≡ t.accused
  pub one_stage : second_header.stage ≡ first_header.stage
  pub differ : first_content ≢ second_content

-- Malformed: the transcript lists one post of the accused, whose content is none of the grammar.
pub record SaysMalformed (roster : Roster) (t : Transcript) : Type 0 where
  pub post : List ℕ
  pub listed : t.posts ≡ post ∷ []
  pub content : List ℕ
  pub header : Header
  pub says : Says roster t.round post content header
  pub sender : header.sender ≡ t.accused
  pub outside : (c : Content) → OfGrammar (shape_of_roster roster) c → content ≢ content_text c

-- the inner key of a shuffle among the keys that a member says
abbrev pub inner_key : ℕ → List (List ℕ) → List ℕ
inner_key shuffle keys = slice_index_or keys (inner_place shuffle) []

-- WrongSeed: the transcript lists the keys of the accused, and a Reveal of it at the end of a shuffle, whose seed has
-- another key than the inner one of that shuffle.
pub record RevealsWrongSeed (roster : Roster) (t : Transcript) : Type 0 where
  pub keys_post : List ℕ
  pub final_post : List ℕ
  pub listed : t.posts ≡ keys_post ∷ final_post ∷ []
  pub keys_header : Header
  pub final_header : Header
  pub keys : List (List ℕ)
  pub votes : List (List ℕ)
  pub seed : List ℕ
  pub keys_are : IsPostFile roster t.round keys_post (record { header = keys_header; body = Keys keys })
  pub final_is : IsPostFile roster t.round final_post (record { header = final_header; body = Reveal votes seed })
  pub keys_sender : keys_header.sender ≡ t.accused
  pub final_sender : final_header.sender ≡ t.accused
  pub keys_stage : kind_of_stage (shape_of_roster roster) keys_header.stage ≡ Some AtKeys
  pub shuffle : ℕ
  pub final_stage : kind_of_stage (shape_of_roster roster) final_header.stage ≡ Some (Final shuffle)
  pub other : key_of_seed seed ≢ inner_key shuffle keys

-- BadLog: the transcript lists a closing post of the accused, whose content is not justified.
pub record ShowsBadLog (roster : Roster) (t : Transcript) : Type 0 where
  pub post : List ℕ
  pub listed : t.posts ≡ post ∷ []
  pub content : Content
  pub file : IsPostFile roster t.round post content
  pub sender : content.header.sender ≡ t.accused
  pub closing : IsClosing (shape_of_roster roster) content
  pub unjustified : is_content_justified roster t.round content ≡ false

-- ---- what a replay shows

-- the post that a transcript lists at a place, counted from 1
abbrev pub post_listed : Transcript → ℕ → List ℕ
post_listed t number = slice_index_or t.posts (number - 1) []

-- a post of a member objects at a closing stage: its content is justified, and what it embeds has these contents
pub record Objects (roster : Roster) (round stage : ℕ) (past : List (List ℕ)) (member : ℕ) (bytes : List ℕ) (content : Content) : Type 0
  where
    pub file : IsPostFile roster round bytes content
    pub sender : content.header.sender ≡ member
    pub at : content.header.stage ≡ stage
    pub dissents : IsTrue (is_dissent content.body)
    pub justified : IsTrue (is_content_justified roster round content)
    pub posts : List Post
    pub embeds : posts_in_content roster round content ≡ Ok posts
    pub contents : contents_of posts ≡ past

-- what members show who said these contents at a stage of a kind: at the end of a shuffle each shows its part, and
-- elsewhere nobody shows anything
abbrev pub parts_shown : Shape → Option StageKind → (ℕ → Content) → List Shown
parts_shown shape (Some (Final shuffle)) said = by_member shape (λ member. shown_in (said member).body)
parts_shown shape kind said = []

-- what is replayed: these contents, by what the members show who said such contents at the closing stage
abbrev pub inquiry_by : Shape → ℕ → ℕ → List (List ℕ) → (ℕ → Content) → Inquiry
inquiry_by shape round stage past said = record {
  shape = shape;
  past = past;
  stage = stage;
  round = round;
  shown = parts_shown shape (kind_of_stage shape stage) said;
}

-- Replay: the transcript lists a post of each member in one closing stage; all of them object and embed logs of one
-- list of contents, and the replay of this log, by what they show, blames the accused.
pub record ReplaysFault (roster : Roster) (t : Transcript) : Type 0 where
  pub count : length t.posts ≡ (shape_of_roster roster).members
  pub stage : ℕ
  pub closing : ClosesVotes (shape_of_roster roster) stage
  pub past : List (List ℕ)
  pub said : ℕ → Content
  pub object : (member : ℕ) → 1 ≤ member → member ≤ (shape_of_roster roster).members →
      Objects roster t.round stage past member (post_listed t member) (said member)
  pub fault : Fault
  pub blames : culprit_of (inquiry_by (shape_of_roster roster) t.round stage past said) ≡ Some fault
  pub accused : fault.member ≡ t.accused

-- ---- what a pad shows

-- pads of the accused, in a table that has nothing of the other members
abbrev pub table_of : Shape → ℕ → List (List ℕ) → List (List (List ℕ))
table_of shape accused pads = by_member shape (λ member. if member == accused then pads else [])

-- a log reveals what the last list of shuffle A holds: each member said a Reveal at its end, and the last turn a list
pub record OpensList (shape : Shape) (past : List (List ℕ)) : Type 0 where
  pub reveals : (member : ℕ) → 1 ≤ member → member ≤ shape.members →
      (votes : List (List ℕ)) × (seed : List ℕ) × (said_in shape past (final_stage shape 1) member ≡ Reveal votes seed)
  pub list : IsSome (list_said shape past 1 shape.members)

-- Pad: the transcript lists the post of each slot before the pads, and the pads of the accused, which carry the view of
-- these; the log opens the last list of shuffle A; and the accusation names the accused and holds.
pub record ShowsBadPad (roster : Roster) (t : Transcript) : Type 0 where
  pub log : List Post
  pub whole : length log ≡ slots_before (shape_of_roster roster) (pad_stage (shape_of_roster roster))
  pub stands : posts_for roster t.round 0 (pairs_listed roster t) ≡ Ok log
  pub pads_post : List ℕ
  pub last : slice_get t.posts (slots_before (shape_of_roster roster) (pad_stage (shape_of_roster roster))) ≡ Some pads_post
  pub header : Header
  pub pads : List (List ℕ)
  pub pads_are : IsPostFile roster t.round pads_post (record { header = header; body = Pads pads })
  pub sender : header.sender ≡ t.accused
  pub at : header.stage ≡ pad_stage (shape_of_roster roster)
  pub view : header.view ≡ view_of (shape_of_roster roster) (contents_of log) (pad_stage (shape_of_roster roster))
  pub opens : OpensList (shape_of_roster roster) (contents_of log)
  pub accusation : Accusation
  pub detail : t.detail ≡ Some accusation
  pub accused : accusation.member ≡ t.accused
  pub holds : Holds accusation (descriptors_opened (shape_of_roster roster) (contents_of log))
      (table_of (shape_of_roster roster) t.accused pads) (keys_said (shape_of_roster roster) (contents_of log) bulk_place)

-- ---- what is accepted

-- what a claim asks of the listed posts
abbrev pub Convicts : Roster → Transcript → Claim → Type 0
Convicts roster t Equivocation = Equivocates roster t
Convicts roster t Malformed = SaysMalformed roster t
Convicts roster t WrongSeed = RevealsWrongSeed roster t
Convicts roster t BadLog = ShowsBadLog roster t
Convicts roster t Replay = ReplaysFault roster t
Convicts roster t Pad = ShowsBadPad roster t

-- bytes convict a member under a roster: they spell a transcript with that accused and claim, and its posts are what
-- the claim asks
pub record Accepts (roster : Roster) (bytes : List ℕ) (accused : ℕ) (claim : Claim) : Type 0 where
  pub transcript : Transcript
  pub form : IsTranscript (shape_of_roster roster) transcript
  pub spelled : bytes ≡ transcript_spelling transcript
  pub accused_is : transcript.accused ≡ accused
  pub claim_is : transcript.claim ≡ claim
  pub convicts : Convicts roster transcript claim
