-- The culprit by the rules in their order.
use Rattle.std.proofs.Common.{sym, ◌≡◌, ℕ, List, [], ◌∷◌, Option, Some, None, refl, ap, ◌∙◌, length, subst}
use Rattle.std.specs.Prelude.{unwrap_or}
use Rattle.std.specs.Option.{option_map}
use Rattle.wire_core.specs.Answers.{first_some}
use Rattle.wire_core.proofs.AnswerLemmas.{first_some-none, first_some-some}
use Rattle.phase_message.specs.declared.post.Post.{Post}
use Rattle.phase_message.specs.declared.stage.Slot.{Slot}
use Rattle.phase_message.specs.declared.stage.StageKind.{StageKind}
use Rattle.phase_message.specs.declared.stage.StageKind.TheVariants.{Keys, Submit, Shuffle, Go, Final, Pad, Check, Confirm}
use Rattle.phase_message.specs.Shape.{Shape}
use Rattle.phase_message.specs.Stages.{kind_of_stage}
use Rattle.stage_log.specs.Log.{before, contents_of, first_wrong, log_first_wrong}
use Rattle.stage_log.specs.Table.{Log}
use Rattle.stage_log.proofs.Pasts.{option_map-some}
use Rattle.shuffle_blame.specs.declared.fault.Cause.TheVariants.{View}
use Rattle.shuffle_blame.specs.declared.fault.Fault.{Fault}
use Rattle.shuffle_blame.specs.declared.fault.Shown.{Shown}
use Rattle.shuffle_blame.specs.declared.parts.Part.{Part}
use Rattle.shuffle_blame.specs.Asked.{AreShown, inquiry_of}
use Rattle.shuffle_blame.specs.Rules.{fault_shown, shown_by}
use Rattle.shuffle_blame.specs.Replay.{Inquiry, culprit_at, fault, seed_fault, submission_fault, turn_fault, view_fault, vote_fault}

in_turn : (v s u t n : Option Fault) → first_some (v ∷ s ∷ u ∷ t ∷ n ∷ []) ≡ first_some (v ∷ first_some (s ∷ u ∷ t ∷ []) ∷ n ∷ [])
in_turn (Some x) s u t n = refl
in_turn None (Some x) u t n = refl
in_turn None None (Some x) t n = refl
in_turn None None None (Some x) n = refl
in_turn None None None None n = refl

none_between : (v n : Option Fault) → first_some (v ∷ n ∷ []) ≡ first_some (v ∷ None ∷ n ∷ [])
none_between (Some x) n = refl
none_between None n = refl

-- the culprit is the first of the fault of a view, of that which is found by what is shown, and of that of a vote
pub culprit-parts : (o : Option StageKind) (q : Inquiry) → culprit_at o q ≡ first_some (view_fault q ∷ fault_shown o q ∷ vote_fault q ∷ [])
culprit-parts (Some (Final shuffle)) q = in_turn (view_fault q) (seed_fault q shuffle) (submission_fault q shuffle) (turn_fault q)
    (vote_fault q)
culprit-parts None q = none_between (view_fault q) (vote_fault q)
culprit-parts (Some Keys) q = none_between (view_fault q) (vote_fault q)
culprit-parts (Some (Submit shuffle)) q = none_between (view_fault q) (vote_fault q)
culprit-parts (Some (Shuffle shuffle k)) q = none_between (view_fault q) (vote_fault q)
culprit-parts (Some (Go shuffle)) q = none_between (view_fault q) (vote_fault q)
culprit-parts (Some Pad) q = none_between (view_fault q) (vote_fault q)
culprit-parts (Some Check) q = none_between (view_fault q) (vote_fault q)
culprit-parts (Some Confirm) q = none_between (view_fault q) (vote_fault q)

pub first-is : (v s n : Option Fault) (x : Fault) → v ≡ Some x → first_some (v ∷ s ∷ n ∷ []) ≡ Some x
first-is v s n x e = first_some-some x v (s ∷ n ∷ []) e

pub second-is : (v s n : Option Fault) (x : Fault) → v ≡ None → s ≡ Some x → first_some (v ∷ s ∷ n ∷ []) ≡ Some x
second-is v s n x none e = first_some-none v (s ∷ n ∷ []) none ∙ first_some-some x s (n ∷ []) e

last_of : (n : Option Fault) → first_some (n ∷ []) ≡ n
last_of (Some x) = refl
last_of None = refl

pub third-is : (v s n : Option Fault) → v ≡ None → s ≡ None → first_some (v ∷ s ∷ n ∷ []) ≡ n
third-is v s n none none' = first_some-none v (s ∷ n ∷ []) none ∙ first_some-none s (n ∷ []) none' ∙ last_of n

-- the fault of a view, by the first slot that is not right
pub view-told : (log : Log) (stage round : ℕ) (shown : List Shown) (found : Option Slot) → log_first_wrong log stage ≡ Some found
    → view_fault (inquiry_of log stage round shown) ≡ option_map (λ slot. fault View slot.sender) found
view-told log stage round shown found e =
    let posts = option_map-some (λ (posts : List Post). first_wrong log.shape (contents_of posts) stage) (before log stage) found e in
    ap (λ (o : Option (List Post)). option_map (λ (slot : Slot). fault View slot.sender)
    (first_wrong log.shape (contents_of (unwrap_or o [])) stage)) posts.1
    ∙ ap (option_map (λ (slot : Slot). fault View slot.sender)) posts.2

-- what is shown at the end of a shuffle, made ready for use
pub shown-length : (shape : Shape) (o : Option StageKind) (shuffle : ℕ) (shown : List Shown) → o ≡ Some (Final shuffle)
    → AreShown shape o shown → length shown ≡ shape.members
shown-length shape o shuffle shown e are = subst (λ (o : Option StageKind). AreShown shape o shown) e are

pub shown-told : (log : Log) (stage round shuffle : ℕ) (shown : List Shown) (parts : List Part)
    → kind_of_stage log.shape stage ≡ Some (Final shuffle) → shown_by parts ≡ shown
    → fault_shown (Some (Final shuffle)) (inquiry_of log stage round (shown_by parts)) ≡ fault_shown (kind_of_stage log.shape stage)
    (inquiry_of log stage round shown)
shown-told log stage round shuffle shown parts kind same =
    ap (λ (s : List Shown). fault_shown (Some (Final shuffle)) (inquiry_of log stage round s)) same
    ∙ ap (λ (o : Option StageKind). fault_shown o (inquiry_of log stage round shown)) (sym kind)
