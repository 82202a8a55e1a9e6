-- The cases of a verdict: what each means, and that nothing that is looked at before it was found.
use Rattle.std.specs.Prelude.{◌≡◌, ◌≢◌, ◌⊎◌, ℕ, ◌+◌, ◌<◌, ◌≤◌, List, [], ◌∷◌, length, Bool, false, IsTrue, Contains, Some, None, Ok}
use Rattle.std.specs.List.{list_any}
use Rattle.phase_message.specs.declared.content.Content.{Content}
use Rattle.phase_message.specs.declared.post.Post.{Post}
use Rattle.phase_message.specs.declared.stage.Slot.{Slot}
use Rattle.phase_message.specs.declared.stage.StageKind.TheVariants.{Final, Confirm}
use Rattle.phase_message.specs.Slots.{slots_before}
use Rattle.phase_message.specs.Stages.{kind_of_stage}
use Rattle.signed_post.specs.Frame.{frame_of}
use Rattle.stage_log.specs.Log.{contents_of}
use Rattle.transcript_form.specs.declared.accusation.Accusation.{Accusation}
use Rattle.transcript_form.specs.declared.claim.Claim.TheVariants.{Equivocation, WrongSeed, BadLog}
use Rattle.transcript_form.specs.declared.transcript.Transcript.{Transcript}
use Rattle.transcript_form.specs.Accusation.{accusation_of}
use Rattle.go_nogo.specs.Closing.{embedded_of, is_assent}
use Rattle.go_nogo.specs.Votes.{votes_agree}
use Rattle.shuffle_blame.specs.declared.fault.Fault.{Fault}
use Rattle.shuffle_blame.specs.Replay.{culprit_of}
use Rattle.round_spec.specs.Slots.{items_opened, slots_of_past}
use Rattle.round_spec.specs.Embedded.{embedded_pairs, posts_in_content, is_content_justified}
use Rattle.round_spec.specs.Verdict.{ClosedStage, Verdict, Goes, Done, Convicts, conviction, bad_log, bad_pad, closing_content, content_of_post, equivocation, equivocation_in, first_bad_pad, inquiry_into, is_bad, is_closing, is_dissent, is_held, is_inner_seed, is_read_justified, past_at, post_in, replay_conviction, sent_in, shape_at, verdict_of}

-- ---- what is supposed

-- a member of the round
pub record IsMemberOf (v : ClosedStage) (member : ℕ) : Type 0 where
  pub least : 1 ≤ member
  pub most : member ≤ (shape_at v).members

-- a closing stage with a post for each slot to its end, where each content that reads names the stage
pub record IsWhole (v : ClosedStage) : Type 0 where
  pub members : 1 ≤ (shape_at v).members
  pub closing : IsTrue (is_closing (shape_at v) v.stage)
  pub posts : length v.posts ≡ slots_before (shape_at v) (v.stage + 1)
  pub named : (member : ℕ) (content : Content) → IsMemberOf v member → closing_content v member ≡ Ok content
      → content.header.stage ≡ v.stage

-- ---- what all said

-- whether the votes before the stage are unanimous
abbrev pub agree_before : ClosedStage → Bool
agree_before v = votes_agree (shape_at v) (past_at v) v.stage

-- each member's closing content is justified
abbrev pub AllJustified : ClosedStage → Type 0
AllJustified v = (member : ℕ) → IsMemberOf v member → IsTrue (is_read_justified v (closing_content v member))

-- a member said a justified closing content that embeds the contents that were kept; it says that the votes are
-- unanimous where they are, and else objects
pub record IsFaithful (v : ClosedStage) (member : ℕ) : Type 0 where
  pub content : Content
  pub reads : closing_content v member ≡ Ok content
  pub justified : IsTrue (is_content_justified v.roster v.round content)
  pub posts : List Post
  pub embeds : posts_in_content v.roster v.round content ≡ Ok posts
  pub contents : contents_of posts ≡ embedded_of (shape_at v) content (past_at v)
  pub assents : is_assent content.body ≡ agree_before v
  pub dissents : agree_before v ≡ false → IsTrue (is_dissent content.body)

-- so did all members
abbrev pub AreFaithful : ClosedStage → Type 0
AreFaithful v = (member : ℕ) → IsMemberOf v member → IsFaithful v member

-- all members agree: the votes are unanimous, and at the end of a shuffle each revealed the seed of its inner key
pub record AllAgree (v : ClosedStage) : Type 0 where
  pub faithful : AreFaithful v
  pub votes : IsTrue (agree_before v)
  pub seeds : (shuffle member : ℕ) → kind_of_stage (shape_at v) v.stage ≡ Some (Final shuffle) → IsMemberOf v member →
      IsTrue (is_inner_seed v shuffle member)

-- ---- the cases

-- the least member whose closing content is not justified
pub record IsBadLog (v : ClosedStage) (verdict : Verdict) : Type 0 where
  pub member : ℕ
  pub is_member : IsMemberOf v member
  pub bad : is_read_justified v (closing_content v member) ≡ false
  pub earlier : (other : ℕ) → IsMemberOf v other → other < member → IsTrue (is_read_justified v (closing_content v other))
  pub verdict_is : verdict ≡ conviction v.round member BadLog (sent_in v v.stage member ∷ [])

-- the least member that embeds another content than was kept, in the first such slot
pub record IsEquivocation (v : ClosedStage) (verdict : Verdict) : Type 0 where
  pub justified : AllJustified v
  pub member : ℕ
  pub is_member : IsMemberOf v member
  pub content : Content
  pub reads : closing_content v member ≡ Ok content
  pub earlier : (other : ℕ) → IsMemberOf v other → other < member → equivocation_in v other ≡ None
  pub pair : Slot × List ℕ
  pub embedded : Contains (embedded_pairs v.roster content) pair
  pub other_content : content_of_post (frame_of pair.1) ≢ (post_in v pair.0.stage pair.0.sender).content
  pub verdict_is : verdict ≡ conviction v.round pair.0.sender Equivocation (sent_in v pair.0.stage pair.0.sender ∷ pair.1 ∷ [])

-- the least member that revealed another seed than that of its inner key
pub record IsWrongSeed (v : ClosedStage) (verdict : Verdict) : Type 0 where
  pub faithful : AreFaithful v
  pub votes : IsTrue (agree_before v)
  pub shuffle : ℕ
  pub kind : kind_of_stage (shape_at v) v.stage ≡ Some (Final shuffle)
  pub member : ℕ
  pub is_member : IsMemberOf v member
  pub wrong : is_inner_seed v shuffle member ≡ false
  pub earlier : (other : ℕ) → IsMemberOf v other → other < member → IsTrue (is_inner_seed v shuffle other)
  pub verdict_is : verdict ≡ conviction v.round member WrongSeed (sent_in v 0 member ∷ sent_in v v.stage member ∷ [])

-- all dissent, and the replay blames a member
pub record IsReplay (v : ClosedStage) (verdict : Verdict) : Type 0 where
  pub faithful : AreFaithful v
  pub votes : agree_before v ≡ false
  pub fault : Fault
  pub culprit : culprit_of (inquiry_into v) ≡ Some fault
  pub verdict_is : verdict ≡ replay_conviction v fault

-- all agree at the end of shuffle B, and an item that opened is an accusation that holds
pub record IsBadPad (v : ClosedStage) (verdict : Verdict) : Type 0 where
  pub agree : AllAgree v
  pub shuffle : ℕ
  pub kind : kind_of_stage (shape_at v) v.stage ≡ Some (Final shuffle)
  pub second : shuffle ≢ 1
  pub item : List ℕ
  pub accusation : Accusation
  pub opened : Contains (items_opened (shape_at v) (past_at v) 2) (Some item)
  pub spelled : accusation_of item ≡ Some accusation
  pub holds : IsTrue (is_held (shape_at v) (past_at v) accusation)
  pub verdict_is : verdict ≡ bad_pad v accusation

-- the stage is the end of shuffle A, or that behind the checks and a slot is bad
abbrev pub LeavesWork : ClosedStage → Type 0
LeavesWork v =
    (kind_of_stage (shape_at v) v.stage ≡ Some (Final 1))
    ⊎ ((kind_of_stage (shape_at v) v.stage ≡ Some Confirm) × IsTrue (list_any is_bad (slots_of_past (shape_at v) (past_at v))))

-- the stage is the end of shuffle B and no accusation holds, or that behind the checks and no slot is bad
abbrev pub LeavesNoWork : ClosedStage → Type 0
LeavesNoWork v =
    ((shuffle : ℕ) × (kind_of_stage (shape_at v) v.stage ≡ Some (Final shuffle)) × (shuffle ≢ 1) × (first_bad_pad v ≡ None))
    ⊎ ((kind_of_stage (shape_at v) v.stage ≡ Some Confirm) × (list_any is_bad (slots_of_past (shape_at v) (past_at v)) ≡ false))

-- why a verdict is what it is
pub data Case (v : ClosedStage) (verdict : Verdict) : Type 0 where
  ByBadLog : IsBadLog v verdict → Case v verdict
  ByEquivocation : IsEquivocation v verdict → Case v verdict
  ByWrongSeed : IsWrongSeed v verdict → Case v verdict
  ByReplay : IsReplay v verdict → Case v verdict
  ByBadPad : IsBadPad v verdict → Case v verdict
  GoesOn : AllAgree v → LeavesWork v → verdict ≡ Goes → Case v verdict
  Ends : AllAgree v → LeavesNoWork v → verdict ≡ Done → Case v verdict

-- a verdict on a whole stage is in one of the cases
abbrev pub VerdictCases : Type 0
VerdictCases = (v : ClosedStage) → IsWhole v → Case v (verdict_of v)

-- where there is no bad log and no equivocation, all said justified contents that embed what was kept, and all of one kind
abbrev pub OneKind : Type 0
OneKind = (v : ClosedStage) → IsWhole v → bad_log v ≡ None → equivocation v ≡ None → AreFaithful v

-- a verdict that convicts nobody means that all agree
abbrev pub SparingMeansAgreed : Type 0
SparingMeansAgreed = (v : ClosedStage) → IsWhole v → ((t : Transcript) → verdict_of v ≢ Convicts t) → AllAgree v

-- the end of shuffle B has a verdict that ends the round
abbrev pub FinalBEnds : Type 0
FinalBEnds = (v : ClosedStage) → IsWhole v → kind_of_stage (shape_at v) v.stage ≡ Some (Final 2) → verdict_of v ≢ Goes
