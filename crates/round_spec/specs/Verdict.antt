-- What a closing stage comes to once all its posts are there: the round goes on, or it is done, or somebody is
-- convicted, by a transcript that is part of the verdict.
use Rattle.std.specs.Prelude.{ℕ, ◌+◌, List, [], ◌∷◌, ◌++◌, map, take, Bool, true, false, ◌==◌, is_none, is_some, Option, Some, None, Result, Ok, Err, bytes_eq, slice_index_or, option_map, option_and_then, unwrap_or, if◌then◌else◌}
use Rattle.std.specs.List.{list_all, list_any}
use Rattle.wire_core.specs.Answers.{first_below, first_some}
use Rattle.ring_encrypt.specs.Capsule.{key_of_seed}
use Rattle.phase_message.specs.declared.content.Body.{Body}
use Rattle.phase_message.specs.declared.content.Body.TheVariants.{Dispute, Differ}
use Rattle.phase_message.specs.declared.content.Content.{Content}
use Rattle.phase_message.specs.declared.post.Post.{Post}
use Rattle.phase_message.specs.declared.stage.Slot.{Slot}
use Rattle.phase_message.specs.declared.stage.StageKind.{StageKind}
use Rattle.phase_message.specs.declared.stage.StageKind.TheVariants.{Final, Confirm}
use Rattle.phase_message.specs.declared.offence.Offence.{Offence}
use Rattle.phase_message.specs.Offence.{content_read}
use Rattle.phase_message.specs.Post.{post_spelling}
use Rattle.phase_message.specs.Shape.{Shape}
use Rattle.phase_message.specs.Slots.{slot_number, slots_before}
use Rattle.phase_message.specs.Stages.{kind_of_stage, vote_of}
use Rattle.group_roster.specs.Roster.{Roster, shape_of_roster}
use Rattle.signed_post.specs.Frame.{frame_of}
use Rattle.stage_log.specs.Log.{contents_of}
use Rattle.transcript_form.specs.declared.accusation.Accusation.{Accusation}
use Rattle.transcript_form.specs.declared.claim.Claim.{Claim}
use Rattle.transcript_form.specs.declared.claim.Claim.TheVariants.{Equivocation, WrongSeed, BadLog, Replay, Pad as BadPad}
use Rattle.transcript_form.specs.declared.transcript.Transcript.{Transcript}
use Rattle.transcript_form.specs.Accusation.{accusation_of}
use Rattle.bulk_descriptor.specs.declared.slot_state.SlotState.{SlotState}
use Rattle.bulk_descriptor.specs.declared.slot_state.SlotState.TheVariants.{Bad}
use Rattle.accusation.specs.Accusation.{refusal_of}
use Rattle.go_nogo.specs.Closing.{is_assent}
use Rattle.shuffle_blame.specs.declared.fault.Fault.{Fault}
use Rattle.shuffle_blame.specs.declared.fault.Shown.{Shown}
use Rattle.shuffle_blame.specs.Replay.{Inquiry, culprit_of}
use Rattle.round_spec.specs.Slots.{by_member, said_in, key_said, keys_said, inner_place, bulk_place, pad_stage, seed_in, items_opened, descriptors_opened, pads_sent, slots_of_past}
use Rattle.round_spec.specs.Embedded.{embedded_pairs, is_content_justified}

-- the round goes on; or it is done; or a transcript convicts the member that it accuses
pub data Verdict : Type 0 where
  Goes : Verdict
  Done : Verdict
  Convicts : Transcript → Verdict

-- a stage that is closed: the posts of all slots to its end, in a round of a group
pub record ClosedStage : Type 0 where
  pub roster : Roster
  pub round : ℕ
  pub posts : List Post
  pub stage : ℕ

-- ---- what was said

abbrev pub shape_at : ClosedStage → Shape
shape_at v = shape_of_roster v.roster

-- the contents of the posts
abbrev pub past_at : ClosedStage → List (List ℕ)
past_at v = contents_of v.posts

-- a post without bytes
abbrev pub no_post : Post
no_post = record { content = []; signature = [] }

-- the post of a slot
abbrev pub post_in : ClosedStage → ℕ → ℕ → Post
post_in v stage member = slice_index_or v.posts (slot_number (shape_at v) stage member) no_post

-- that post as it was sent
abbrev pub sent_in : ClosedStage → ℕ → ℕ → List ℕ
sent_in v stage member = post_spelling (post_in v stage member)

-- what a member said at the closing stage
abbrev pub closing_body : ClosedStage → ℕ → Body
closing_body v member = said_in (shape_at v) (past_at v) v.stage member

-- the same as a content with its header, if it is one
abbrev pub closing_content : ClosedStage → ℕ → Result Content Offence
closing_content v member = content_read (shape_at v) (post_in v v.stage member).content

-- the first verdict that there is on members 1, 2, .., to the last
abbrev pub first_on : ClosedStage → (ℕ → Option Verdict) → Option Verdict
first_on v verdict_on = first_below (shape_at v).members (λ place. verdict_on (place + 1))

-- a claim against a member, with the posts that show it
abbrev pub conviction : ℕ → ℕ → Claim → List (List ℕ) → Verdict
conviction round member claim posts =
    Convicts (record { claim = claim; accused = member; round = round; detail = None; posts = posts })

-- ---- the log that is embedded

-- whether what was read is a justified closing content
abbrev pub is_read_justified : ClosedStage → Result Content Offence → Bool
is_read_justified v (Ok content) = is_content_justified v.roster v.round content
is_read_justified v (Err offence) = false

-- a bad log: where a member's closing content is not justified, it convicts the member
abbrev pub bad_log_of : ClosedStage → ℕ → Option Verdict
bad_log_of v member =
    if is_read_justified v (closing_content v member) then None
    else Some (conviction v.round member BadLog (sent_in v v.stage member ∷ []))

-- that of the least member
unfoldable pub bad_log : ClosedStage → Option Verdict
bad_log v = first_on v (bad_log_of v)

-- the content of bytes that spell a post
abbrev pub content_of_post : Result Post ℕ → List ℕ
content_of_post (Ok post) = post.content
content_of_post (Err at) = []

-- two contents in one slot: an embedded post says another content than the post that was kept for its slot, and both
-- convict the sender of the slot
abbrev pub second_content : ClosedStage → Slot × List ℕ → Option Verdict
second_content v pair =
    if bytes_eq (content_of_post (frame_of pair.1)) (post_in v pair.0.stage pair.0.sender).content then None
    else Some (conviction v.round pair.0.sender Equivocation (sent_in v pair.0.stage pair.0.sender ∷ pair.1 ∷ []))

-- what was read embeds these, each for a slot
abbrev pub pairs_read : ClosedStage → Result Content Offence → List (Slot × List ℕ)
pairs_read v (Ok content) = embedded_pairs v.roster content
pairs_read v (Err offence) = []

-- that of the first slot among those that a member embeds
abbrev pub equivocation_in : ClosedStage → ℕ → Option Verdict
equivocation_in v member = first_some (map (second_content v) (pairs_read v (closing_content v member)))

-- that of the least member
unfoldable pub equivocation : ClosedStage → Option Verdict
equivocation v = first_on v (equivocation_in v)

-- ---- where all agree

-- the inner key of a shuffle is that of a seed
abbrev pub is_inner_seed : ClosedStage → ℕ → ℕ → Bool
is_inner_seed v shuffle member =
    bytes_eq (key_of_seed (seed_in (closing_body v member))) (key_said (shape_at v) (past_at v) (inner_place shuffle) member)

-- a wrong seed: one that a member revealed, and that is not the seed of its inner key
abbrev pub wrong_seed_of : ClosedStage → ℕ → ℕ → Option Verdict
wrong_seed_of v shuffle member =
    if is_inner_seed v shuffle member then None
    else Some (conviction v.round member WrongSeed (sent_in v 0 member ∷ sent_in v v.stage member ∷ []))

-- that of the least member
unfoldable pub wrong_seed : ClosedStage → ℕ → Option Verdict
wrong_seed v shuffle = first_on v (wrong_seed_of v shuffle)

-- what shows that an accusation of a pad holds: all posts before the pads, and the pads of the accused
abbrev pub bad_pad : ClosedStage → Accusation → Verdict
bad_pad v a = Convicts (record {
  claim = BadPad;
  accused = a.member;
  round = v.round;
  detail = Some a;
  posts = map post_spelling (take (slots_before (shape_at v) (pad_stage (shape_at v))) v.posts)
      ++ sent_in v (pad_stage (shape_at v)) a.member ∷ [];
})

-- whether an accusation holds, by the descriptors and the pads of the round and the members' bulk keys
unfoldable pub is_held : Shape → List (List ℕ) → Accusation → Bool
is_held shape past a = is_none (refusal_of a (descriptors_opened shape past) (pads_sent shape past) (keys_said shape past bulk_place))

-- an accusation that holds convicts
abbrev pub bad_pad_if : ClosedStage → Accusation → Option Verdict
bad_pad_if v a = if is_held (shape_at v) (past_at v) a then Some (bad_pad v a) else None

-- an item of shuffle B that opened and is an accusation that holds
abbrev pub bad_pad_by : ClosedStage → Option (List ℕ) → Option Verdict
bad_pad_by v item = option_and_then (bad_pad_if v) (option_and_then accusation_of item)

-- the first such item of the last list
unfoldable pub first_bad_pad : ClosedStage → Option Verdict
first_bad_pad v = first_some (map (bad_pad_by v) (items_opened (shape_at v) (past_at v) 2))

-- whether a pad that was sent for a slot does not fit
abbrev pub is_bad : SlotState → Bool
is_bad (Bad first) = true
is_bad state = false

-- what all Reveals or Confirms come to: shuffle A goes on, shuffle B ends the round, and behind the checks it is done
-- where no slot is bad
abbrev pub agreed_at : ClosedStage → Option StageKind → Verdict
agreed_at v (Some (Final shuffle)) =
    unwrap_or (wrong_seed v shuffle) (if shuffle == 1 then Goes else unwrap_or (first_bad_pad v) Done)
agreed_at v (Some Confirm) = if list_any is_bad (slots_of_past (shape_at v) (past_at v)) then Goes else Done
agreed_at v _ = Goes

-- ---- where all dissent

-- whether a body is a Dispute or a Differ, which say that the votes are not unanimous
abbrev pub is_dissent : Body → Bool
is_dissent (Dispute posts seed opening) = true
is_dissent (Differ posts) = true
is_dissent _ = false

-- what a Dispute shows of the outer layers
abbrev pub shown_in : Body → Shown
shown_in (Dispute posts seed opening) = record { outer_seed = seed; outer_opening = opening }
shown_in _ = record { outer_seed = []; outer_opening = [] }

-- what the members show at the end of a shuffle, by member; behind the checks nobody shows anything
abbrev pub shown_at : ClosedStage → Option StageKind → List Shown
shown_at v (Some (Final shuffle)) = by_member (shape_at v) (λ member. shown_in (closing_body v member))
shown_at v _ = []

-- what is replayed: what was said before the closing stage, by what the members show in it
abbrev pub inquiry_into : ClosedStage → Inquiry
inquiry_into v = record {
  shape = shape_at v;
  past = take (slots_before (shape_at v) v.stage) (past_at v);
  stage = v.stage;
  round = v.round;
  shown = shown_at v (kind_of_stage (shape_at v) v.stage);
}

-- the closing posts of all members convict whom the replay blames
abbrev pub replay_conviction : ClosedStage → Fault → Verdict
replay_conviction v fault = conviction v.round fault.member Replay (by_member (shape_at v) (sent_in v v.stage))

-- what all Disputes or Differs come to
unfoldable pub dissented_at : ClosedStage → Verdict
dissented_at v = unwrap_or (option_map (replay_conviction v) (culprit_of (inquiry_into v))) Goes

-- ---- the verdict

-- whether each member said a body of this sort at the closing stage
abbrev pub all_say : ClosedStage → (Body → Bool) → Bool
all_say v is_one = list_all (λ body. is_one body) (by_member (shape_at v) (closing_body v))

-- what a closing stage comes to whose contents are justified and embed what was kept; of contents of two kinds, which
-- never come, nothing is said
unfoldable pub concluded_at : ClosedStage → Verdict
concluded_at v =
    if all_say v is_assent then agreed_at v (kind_of_stage (shape_at v) v.stage)
    else (if all_say v is_dissent then dissented_at v else Goes)

-- whether a stage is a closing stage of a round
abbrev pub is_closing : Shape → ℕ → Bool
is_closing shape stage = is_some (option_and_then vote_of (kind_of_stage shape stage))

-- the verdict of a stage all posts of which are there: of a closing stage a bad log, else an equivocation, else what
-- its contents come to; a round goes on behind any other stage
unfoldable pub verdict_of : ClosedStage → Verdict
verdict_of v =
    if is_closing (shape_at v) v.stage
    then unwrap_or (first_some (bad_log v ∷ equivocation v ∷ [])) (concluded_at v)
    else Goes
