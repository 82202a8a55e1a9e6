-- What is said at a stage of keys, of turns and of pads.
use Rattle.std.proofs.Common.{◌≡◌, ℕ, List, length, Some, refl, inl, inr}
use Rattle.std.specs.Prelude.{◌⊎◌}
use Rattle.std.specs.List.{AllByRecursion}
use Rattle.ring_poly.specs.PublicKey.{IsPublicKey}
use Rattle.phase_message.specs.declared.content.Body.{Body}
use Rattle.phase_message.specs.declared.content.Body.TheVariants.{Keys, Shuffled, Abort, Pads}
use Rattle.phase_message.specs.declared.stage.StageKind.TheVariants.{Keys as AtKeys, Shuffle as AtShuffle, Pad as AtPad}
use Rattle.phase_message.specs.Grammar.{IsBody}
use Rattle.phase_message.specs.Kinds.{IsBodyAt}
use Rattle.phase_message.specs.Shape.{Shape}
use Rattle.phase_message.specs.Slots.{slots_before}
use Rattle.phase_message.specs.Stages.{kind_of_stage}
use Rattle.phase_message.proofs.BodyKinds.{bodies_are_of_kinds}

abbrev pub AreFiveKeys : Body → Type 0
AreFiveKeys body = (keys : List (List ℕ)) × (body ≡ Keys keys) × AllByRecursion IsPublicKey keys × (length keys ≡ 5)

keys-in : (shape : Shape) (before : ℕ) (body : Body) → IsBodyAt shape before AtKeys body → AreFiveKeys body
keys-in shape before (Keys keys) is = (keys, refl, is.0, is.1)
keys-in shape before _ is = absurd is

pub keys-form : (shape : Shape) (stage : ℕ) (body : Body) → kind_of_stage shape stage ≡ Some AtKeys → IsBody shape stage body
    → AreFiveKeys body
keys-form shape stage body at is = keys-in shape (slots_before shape stage) body ((bodies_are_of_kinds shape stage AtKeys body at).0 is)

abbrev pub IsTurnBody : Shape → Body → Type 0
IsTurnBody shape body = (body ≡ Abort) ⊎ ((list : List (List ℕ)) × (body ≡ Shuffled list) × (length list ≡ shape.members))

turn-in : (shape : Shape) (before shuffle k : ℕ) (body : Body) → IsBodyAt shape before (AtShuffle shuffle k) body → IsTurnBody shape body
turn-in shape before shuffle k (Shuffled list) is = inr (list, refl, is.1)
turn-in shape before shuffle k Abort is = inl refl
turn-in shape before shuffle k _ is = absurd is

pub turn-form : (shape : Shape) (stage shuffle k : ℕ) (body : Body) → kind_of_stage shape stage ≡ Some (AtShuffle shuffle k)
    → IsBody shape stage body → IsTurnBody shape body
turn-form shape stage shuffle k body at is = turn-in shape (slots_before shape stage) shuffle k body
    ((bodies_are_of_kinds shape stage (AtShuffle shuffle k) body at).0 is)

abbrev pub ArePads : Shape → Body → Type 0
ArePads shape body = (pads : List (List ℕ)) × (body ≡ Pads pads) × (length pads ≡ shape.members)

pads-in : (shape : Shape) (before : ℕ) (body : Body) → IsBodyAt shape before AtPad body → ArePads shape body
pads-in shape before (Pads pads) is = (pads, refl, is.1)
pads-in shape before _ is = absurd is

pub pads-form : (shape : Shape) (stage : ℕ) (body : Body) → kind_of_stage shape stage ≡ Some AtPad → IsBody shape stage body
    → ArePads shape body
pads-form shape stage body at is = pads-in shape (slots_before shape stage) body ((bodies_are_of_kinds shape stage AtPad body at).0 is)
