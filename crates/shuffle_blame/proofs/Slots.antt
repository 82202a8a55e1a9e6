-- The slots of a replay, and what a log keeps in them.
use Rattle.std.proofs.Common.{◌≡◌, ℕ, ◌+◌, ◌-◌, ◌<◌, ◌≤◌, List, true, Option, Some, None, inl, inr, refl, ap, ◌∙◌, arith}
use Rattle.std.specs.Prelude.{IsSome, option_and_then, nat_le}
use Rattle.std.proofs.lemmas.Bool.{and_from, eq-eqb, le-leb}
use Rattle.phase_message.specs.declared.stage.Slot.{Slot}
use Rattle.phase_message.specs.declared.stage.StageKind.{StageKind}
use Rattle.phase_message.specs.declared.stage.StageKind.TheVariants.{Keys, Submit, Shuffle, Go, Final, Pad, Check, Confirm}
use Rattle.phase_message.specs.Shape.{Shape}
use Rattle.phase_message.specs.Stages.{is_member, is_sender, is_slot, kind_of_stage, speaks, vote_of}
use Rattle.phase_message.proofs.Closings.{closing-follows}
use Rattle.stage_log.specs.Log.{before}
use Rattle.stage_log.specs.Table.{Log}
use Rattle.stage_log.proofs.Pasts.{some_of}
use Rattle.shuffle_blame.specs.declared.ended.Ended.{Ended}
use Rattle.shuffle_blame.specs.declared.fault.Shown.{Shown}
use Rattle.shuffle_blame.specs.declared.parts.Part.{Part}
use Rattle.phase_message.specs.Closing.{ClosesVotes}
use Rattle.shuffle_blame.specs.Asked.{inquiry_of}
use Rattle.shuffle_blame.specs.Rules.{IsEnd, body_kept, inquiry_at, shown_by}
use Rattle.shuffle_blame.specs.Replay.{body_in, submit_stage}
use Rattle.shuffle_blame.proofs.Endings.{ends_at, submit_there, turn_there}
use Rattle.shuffle_blame.proofs.Kept.{body_kept-past}

member-there : (n sender : ℕ) → 1 ≤ sender → sender ≤ n → is_member n sender ≡ true
member-there n sender least most = and_from (nat_le 1 sender) (nat_le sender n) (le-leb 1 sender least) (le-leb sender n most)

-- what a log keeps in a slot of a stage of this kind, before the closing stage
said-there : (log : Log) (stage round : ℕ) (shown : List Shown) (slot : Slot) (kind : StageKind) → IsSome (before log stage)
    → kind_of_stage log.shape slot.stage ≡ Some kind → is_sender log.shape kind slot.sender ≡ true → slot.stage < stage
    → body_kept log slot ≡ body_in (inquiry_of log stage round shown) slot.stage slot.sender
said-there log stage round shown slot kind complete at speaks_there lt =
    let posts = some_of (before log stage) complete in
    let is : is_slot log.shape slot.stage slot.sender ≡ true = ap (λ (o : Option StageKind). speaks log.shape o slot.sender) at
    ∙ speaks_there in
    body_kept-past log stage round shown posts.0 slot posts.1 is lt

-- ---- votes

-- a stage stands before, in which all members speak
record HasVotes (shape : Shape) (stage : ℕ) : Type 0 where
  kind : StageKind
  least : 1 ≤ stage
  at : kind_of_stage shape (stage - 1) ≡ Some kind
  all_speak : (member : ℕ) → is_member shape.members member ≡ true → is_sender shape kind member ≡ true

votes-before : (shape : Shape) (stage : ℕ) → ClosesVotes shape stage → HasVotes shape stage
votes-before shape stage closing = by_kind (kind_of_stage shape stage) refl closing
  where
    by_kind : (o : Option StageKind) → kind_of_stage shape stage ≡ o → IsSome (option_and_then vote_of o) → HasVotes shape stage
    by_kind None e is = absurd cc
    by_kind (Some (Final shuffle)) e is =
        let follows = closing-follows shape stage (Final shuffle) (Go shuffle) e refl in
        record { kind = Go shuffle; least = follows.0; at = follows.1; all_speak = λ member there. there }
    by_kind (Some Confirm) e is =
        let follows = closing-follows shape stage Confirm Check e refl in
        record { kind = Check; least = follows.0; at = follows.1; all_speak = λ member there. there }
    by_kind (Some Keys) e is = absurd cc
    by_kind (Some (Submit shuffle)) e is = absurd cc
    by_kind (Some (Shuffle shuffle k)) e is = absurd cc
    by_kind (Some (Go shuffle)) e is = absurd cc
    by_kind (Some Pad) e is = absurd cc
    by_kind (Some Check) e is = absurd cc

pub closing-least : (shape : Shape) (stage : ℕ) → ClosesVotes shape stage → 1 ≤ stage
closing-least shape stage closing = (votes-before shape stage closing).least

pub vote-said : (log : Log) (stage round member : ℕ) (shown : List Shown) → ClosesVotes log.shape stage → IsSome (before log stage)
    → 1 ≤ member → member ≤ log.shape.members
    → body_kept log (record { stage = stage - 1; sender = member }) ≡ body_in (inquiry_of log stage round shown) (stage - 1) member
vote-said log stage round member shown closing complete least most =
    let votes = votes-before log.shape stage closing in
    said-there log stage round shown (record { stage = stage - 1; sender = member }) votes.kind complete votes.at
    (votes.all_speak member (member-there log.shape.members member least most)) (omega (arith, votes.least))

-- ---- the end of a shuffle

pub end-least : (shape : Shape) (stage shuffle : ℕ) → kind_of_stage shape stage ≡ Some (Final shuffle) → shape.members + 3 ≤ stage
end-least shape stage shuffle e = elim (ends_at shape stage shuffle e) [ inl a ↦ omega (arith, a.1) | inr b ↦ omega (arith, b.1) ]

pub keys-said : (log : Log) (ended : Ended) (parts : List Part) (member : ℕ) → IsEnd log ended parts → 1 ≤ member
    → member ≤ log.shape.members
    → body_kept log (record { stage = 0; sender = member }) ≡ body_in (inquiry_at log ended parts) 0 member
keys-said log ended parts member is least most =
    said-there log ended.stage ended.round (shown_by parts) (record { stage = 0; sender = member }) Keys is.complete refl
    (member-there log.shape.members member least most)
    (omega (arith, end-least log.shape ended.stage ended.shuffle is.ends))

pub submission-said : (log : Log) (ended : Ended) (parts : List Part) (member : ℕ)
    → kind_of_stage log.shape ended.stage ≡ Some (Final ended.shuffle) → IsSome (before log ended.stage)
    → 1 ≤ member → member ≤ log.shape.members
    → body_kept log (record { stage = ended.stage - (log.shape.members + 2); sender = member }) ≡ body_in (inquiry_at log ended parts)
    (submit_stage (inquiry_at log ended parts)) member
submission-said log ended parts member ends complete least most =
    said-there log ended.stage ended.round (shown_by parts) (record { stage = ended.stage - (log.shape.members + 2); sender = member })
    (Submit ended.shuffle) complete
    (submit_there log.shape ended.stage ended.shuffle ends) (member-there log.shape.members member least most)
    (omega (arith, end-least log.shape ended.stage ended.shuffle ends))

pub turn-said : (log : Log) (ended : Ended) (parts : List Part) (turn : ℕ) → IsEnd log ended parts → 1 ≤ turn → turn ≤ log.shape.members
    → body_kept log (record { stage = ended.stage - (log.shape.members + 2) + turn; sender = turn })
    ≡ body_in (inquiry_at log ended parts) (submit_stage (inquiry_at log ended parts) + turn) turn
turn-said log ended parts turn is least most =
    said-there log ended.stage ended.round (shown_by parts) (record { stage = ended.stage - (log.shape.members + 2) + turn; sender = turn })
    (Shuffle ended.shuffle turn) is.complete
    (turn_there log.shape ended.stage ended.shuffle turn is.ends least most) (eq-eqb turn turn refl)
    (omega (arith, end-least log.shape ended.stage ended.shuffle is.ends))
