-- What a member says at a stage of each kind.
use Rattle.std.specs.Prelude.{◌≡◌, ◌↔◌, ℕ, ◌<◌, ◌≤◌, ◌^◌, List, length, Some}
use Rattle.std.specs.List.{AllByRecursion}
use Rattle.ring_poly.specs.PublicKey.{IsPublicKey}
use Rattle.phase_message.specs.declared.content.Body.{Body}
use Rattle.phase_message.specs.declared.content.Body.TheVariants.{Keys, Submit, Shuffled, Abort, Go, Reveal, Dispute, Pads, Check, Confirm, Differ}
use Rattle.phase_message.specs.declared.stage.StageKind.{StageKind}
use Rattle.phase_message.specs.declared.stage.StageKind.TheVariants.{Keys as AtKeys, Submit as AtSubmit, Shuffle as AtShuffle, Go as AtGo, Final as AtFinal, Pad as AtPad, Check as AtCheck, Confirm as AtConfirm}
use Rattle.phase_message.specs.Body.{level}
use Rattle.phase_message.specs.Grammar.{IsBody}
use Rattle.phase_message.specs.Shape.{Shape}
use Rattle.phase_message.specs.Slots.{slots_before}
use Rattle.phase_message.specs.Stages.{kind_of_stage}

-- so many posts, the length of each in four bytes
abbrev pub ArePosts : ℕ → List (List ℕ) → Type 0
ArePosts count posts = AllByRecursion (λ post. length post < 2 ^ 32) posts × (length posts ≡ count)

-- Five keys; an entry with all its layers; the entries of a turn, or none; a flag; at the end of a shuffle the votes and a
-- seed, or all posts before, a seed and an opening; a pad for each slot; and behind the checks the votes, or all posts
-- before. So many slots are before the stage.
abbrev pub IsBodyAt : Shape → ℕ → StageKind → Body → Type 0
IsBodyAt shape before AtKeys (Keys keys) = AllByRecursion IsPublicKey keys × (length keys ≡ 5)
IsBodyAt shape before (AtSubmit shuffle) (Submit ciphertext) = length ciphertext ≡ level shape.members shuffle 0
IsBodyAt shape before (AtShuffle shuffle k) (Shuffled list) =
    AllByRecursion (λ entry. length entry ≡ level shape.members shuffle k) list × (length list ≡ shape.members)
IsBodyAt shape before (AtShuffle shuffle k) Abort = Unit {0}
IsBodyAt shape before (AtGo shuffle) (Go vote) = Unit {0}
IsBodyAt shape before (AtFinal shuffle) (Reveal votes seed) = ArePosts shape.members votes × (length seed ≡ 32)
IsBodyAt shape before (AtFinal shuffle) (Dispute posts seed opening) =
    ArePosts before posts × (length seed ≡ 32) × (length opening ≡ 32)
IsBodyAt shape before AtPad (Pads pads) = AllByRecursion (λ pad. length pad ≤ 65536) pads × (length pads ≡ shape.members)
IsBodyAt shape before AtCheck (Check vote) = Unit {0}
IsBodyAt shape before AtConfirm (Confirm votes) = ArePosts shape.members votes
IsBodyAt shape before AtConfirm (Differ posts) = ArePosts before posts
IsBodyAt shape before kind body = ⊥

-- the bodies of the grammar at a stage are exactly those of its kind
abbrev pub BodiesAreOfKinds : Type 0
BodiesAreOfKinds = (shape : Shape) (stage : ℕ) (kind : StageKind) (body : Body) → kind_of_stage shape stage ≡ Some kind →
    IsBody shape stage body ↔ IsBodyAt shape (slots_before shape stage) kind body
