-- The slots before the pads: how many there are, and what is said in them.
use Rattle.std.proofs.Common.{◌≡◌, ℕ, zero, suc, ◌+◌, ◌<◌, ◌≤◌, ◌^◌, true, List, [], ◌∷◌, length, All, get_or, Option, Some, None, refl, sym, ap, subst, ◌∙◌, arith}
use Rattle.std.specs.Prelude.{nat_le}
use Rattle.std.specs.List.{AllByRecursion}
use Rattle.std.proofs.lemmas.Bool.{and_from, eq-eqb, le-leb}
use Rattle.ring_encrypt.specs.PublicKey.{IsPublicKey}
use Rattle.phase_message.specs.declared.content.Body.{Body}
use Rattle.phase_message.specs.declared.content.Body.TheVariants.{Keys, Submit, Shuffled, Abort, Go, Reveal, Dispute, Pads, Check, Confirm, Differ}
use Rattle.phase_message.specs.declared.stage.Slot.{Slot}
use Rattle.phase_message.specs.declared.stage.StageKind.{StageKind}
use Rattle.phase_message.specs.declared.stage.StageKind.TheVariants.{Keys as AtKeys, Submit as AtSubmit, Shuffle as AtShuffle, Go as AtGo, Final as AtFinal, Pad as AtPad, Check as AtCheck, Confirm as AtConfirm}
use Rattle.phase_message.specs.Body.{level}
use Rattle.phase_message.specs.Grammar.{IsBody}
use Rattle.phase_message.specs.Kinds.{IsBodyAt}
use Rattle.phase_message.specs.Shape.{Shape, IsShape}
use Rattle.phase_message.specs.Slots.{senders_of, slot_at, slot_number, slots_before}
use Rattle.phase_message.specs.Stages.{is_member, is_sender, is_slot, kind_of_stage, speaks}
use Rattle.phase_message.proofs.BodyKinds.{bodies_are_of_kinds}
use Rattle.phase_message.proofs.Counts.{slots_next}
use Rattle.phase_message.proofs.StageCounts.{before-pads}
use Rattle.phase_message.proofs.SlotLists.{past-stage, slot_at-number, slot_number-within, slots_before-rises}
use Rattle.phase_message.proofs.Table.{final_a_is, keys_is, turn_a}
use Rattle.shuffle_blame.specs.Replay.{list_of}
use Rattle.round_spec.specs.Slots.{pad_stage}
use Rattle.judge_core.specs.Pad.{count_before_pads}
use Rattle.judge_core.specs.PadLog.{AreEntries, AreFiveKeys}

-- ---- how many

senders-some : (shape : Shape) (kind : StageKind) → IsShape shape.version shape.members → 0 < senders_of shape kind
senders-some shape (AtShuffle shuffle k) is = omega arith
senders-some shape AtKeys is = omega (arith, is.least)
senders-some shape (AtSubmit shuffle) is = omega (arith, is.least)
senders-some shape (AtGo shuffle) is = omega (arith, is.least)
senders-some shape (AtFinal shuffle) is = omega (arith, is.least)
senders-some shape AtPad is = omega (arith, is.least)
senders-some shape AtCheck is = omega (arith, is.least)
senders-some shape AtConfirm is = omega (arith, is.least)

-- a stage before the pads has a slot
pub stage-some : (shape : Shape) (stage : ℕ) → IsShape shape.version shape.members → stage < pad_stage shape
    → slots_before shape stage < slots_before shape (stage + 1)
stage-some shape stage is lt = by_kind (kind_of_stage shape stage) refl
  where
    by_kind : (o : Option StageKind) → kind_of_stage shape stage ≡ o → slots_before shape stage < slots_before shape (stage + 1)
    by_kind (Some kind) e = omega (arith, slots_next shape stage kind e, senders-some shape kind is)
    by_kind None e = absurd (omega (arith, past-stage shape stage e, lt))

-- and none behind the last before them
pub stage-within : (shape : Shape) (stage : ℕ) → stage < pad_stage shape → slots_before shape (stage + 1) ≤ count_before_pads shape
stage-within shape stage lt = omega (arith, slots_before-rises shape (stage + 1) (pad_stage shape) (omega (arith, lt)), before-pads shape)

pub slot-within : (shape : Shape) (stage sender : ℕ) → is_slot shape stage sender ≡ true → stage < pad_stage shape
    → slot_number shape stage sender < count_before_pads shape
slot-within shape stage sender there lt = omega (arith, (slot_number-within shape stage sender there).1, stage-within shape stage lt)

-- ---- which

member-there : (n sender : ℕ) → 1 ≤ sender → sender ≤ n → is_member n sender ≡ true
member-there n sender least most = and_from (nat_le 1 sender) (nat_le sender n) (le-leb 1 sender least) (le-leb sender n most)

slot-of : (shape : Shape) (stage sender : ℕ) (kind : StageKind) → kind_of_stage shape stage ≡ Some kind → is_sender shape kind sender ≡ true
    → is_slot shape stage sender ≡ true
slot-of shape stage sender kind at there = ap (λ (o : Option StageKind). speaks shape o sender) at ∙ there

pub keys-slot : (shape : Shape) (sender : ℕ) → 1 ≤ sender → sender ≤ shape.members → is_slot shape 0 sender ≡ true
keys-slot shape sender least most = slot-of shape 0 sender AtKeys (keys_is shape 0 refl) (member-there shape.members sender least most)

pub final-slot : (shape : Shape) (stage sender : ℕ) → stage ≡ shape.members + 3 → 1 ≤ sender → sender ≤ shape.members
    → is_slot shape stage sender ≡ true
final-slot shape stage sender e least most = slot-of shape stage sender (AtFinal 1) (final_a_is shape stage e)
    (member-there shape.members sender least most)

pub last_turn-slot : (shape : Shape) → 1 ≤ shape.members → is_slot shape (shape.members + 1) shape.members ≡ true
last_turn-slot shape least =
    slot-of shape (shape.members + 1) shape.members (AtShuffle 1 shape.members)
    (turn_a shape (shape.members + 1) shape.members refl least (omega arith)) (eq-eqb shape.members shape.members refl)

-- slots of one number are one
pub same-slot : (shape : Shape) (stage sender other who : ℕ) → is_slot shape stage sender ≡ true → is_slot shape other who ≡ true
    → slot_number shape stage sender ≡ slot_number shape other who → (stage ≡ other) × (sender ≡ who)
same-slot shape stage sender other who there here same =
    let e : slot_some (record { stage = stage; sender = sender }) ≡ slot_some (record { stage = other; sender = who }) =
    sym (slot_at-number shape stage sender there) ∙ ap (slot_at shape) same ∙ slot_at-number shape other who here in
    let one = slot_is (record { stage = stage; sender = sender }) (record { stage = other; sender = who }) e in
    (ap (λ (s : Slot). s.stage) one, ap (λ (s : Slot). s.sender) one)
  where
    slot_some : Slot → Option Slot
    slot_some s = Some s

    slot_is : (a b : Slot) → slot_some a ≡ slot_some b → a ≡ b
    slot_is a b e = cc

-- ---- what is said in them

all-of : {A : Type 0} (P : A → Type 0) (xs : List A) → AllByRecursion P xs → All P xs
all-of {A} P [] each k d below = absurd (omega arith)
all-of {A} P (x ∷ xs) each zero d below = each.0
all-of {A} P (x ∷ xs) each (suc k) d below = all-of P xs each.1 k d (omega arith)

body-at : (shape : Shape) (stage : ℕ) (kind : StageKind) (body : Body) → kind_of_stage shape stage ≡ Some kind → IsBody shape stage body
    → IsBodyAt shape (slots_before shape stage) kind body
body-at shape stage kind body at is = (bodies_are_of_kinds shape stage kind body at).0 is

-- at the stage of keys five keys
five-keys : (shape : Shape) (before : ℕ) (body : Body) → IsBodyAt shape before AtKeys body → AreFiveKeys body
five-keys shape before (Keys keys) is = (keys, refl, is.0, is.1)
five-keys shape before (Submit ciphertext) is = absurd is
five-keys shape before (Shuffled list) is = absurd is
five-keys shape before Abort is = absurd is
five-keys shape before (Go vote) is = absurd is
five-keys shape before (Reveal votes seed) is = absurd is
five-keys shape before (Dispute posts seed opening) is = absurd is
five-keys shape before (Pads pads) is = absurd is
five-keys shape before (Check vote) is = absurd is
five-keys shape before (Confirm votes) is = absurd is
five-keys shape before (Differ posts) is = absurd is

pub keys-said : (shape : Shape) (body : Body) → IsBody shape 0 body → AreFiveKeys body
keys-said shape body is = five-keys shape (slots_before shape 0) body (body-at shape 0 AtKeys body (keys_is shape 0 refl) is)

-- the bulk key is one
pub bulk-key : (body : Body) (keys : List (List ℕ)) (d : List ℕ) → AreFiveKeys body → body ≡ Keys keys → IsPublicKey (get_or keys 2 d)
bulk-key body keys d five is =
    let same = keys_are five.0 keys (sym five.1 ∙ is) in
    subst (λ (k : List (List ℕ)). IsPublicKey (get_or k 2 d)) same (all-of IsPublicKey five.0 five.2 2 d (omega (arith, five.3)))
  where
    keys_are : (a b : List (List ℕ)) → Keys a ≡ Keys b → a ≡ b
    keys_are a b e = cc

-- a turn's entries are short, and one for each member
level-small : (n k : ℕ) → n ≤ 8 → level n 1 k < 2 ^ 32
level-small n k most = omega (arith, most)

turn-entries : (shape : Shape) (before k : ℕ) (body : Body) (list : List (List ℕ)) → shape.members ≤ 8
    → IsBodyAt shape before (AtShuffle 1 k) body
    → list_of body ≡ Some list → AreEntries shape list
turn-entries shape before k (Shuffled entries) list most is e =
    let same = list_is entries list e in
    subst (AreEntries shape) same (
      (λ i d lt. let long = all-of (λ (entry : List ℕ). length entry ≡ level shape.members 1 k) entries is.0 i d lt in
          let small = level-small shape.members k most in
          subst (λ (m : ℕ). m < 2 ^ 32) (sym long) small),
      is.1,
    )
  where
    list_some : List (List ℕ) → Option (List (List ℕ))
    list_some l = Some l

    list_is : (a b : List (List ℕ)) → list_some a ≡ list_some b → a ≡ b
    list_is a b e = cc
turn-entries shape before k Abort list most is e = absurd cc
turn-entries shape before k (Keys keys) list most is e = absurd is
turn-entries shape before k (Submit ciphertext) list most is e = absurd is
turn-entries shape before k (Go vote) list most is e = absurd is
turn-entries shape before k (Reveal votes seed) list most is e = absurd is
turn-entries shape before k (Dispute posts seed opening) list most is e = absurd is
turn-entries shape before k (Pads pads) list most is e = absurd is
turn-entries shape before k (Check vote) list most is e = absurd is
turn-entries shape before k (Confirm votes) list most is e = absurd is
turn-entries shape before k (Differ posts) list most is e = absurd is

pub last-entries : (shape : Shape) (stage : ℕ) (body : Body) (list : List (List ℕ)) → IsShape shape.version shape.members
    → stage ≡ shape.members + 1
    → IsBody shape stage body → list_of body ≡ Some list → AreEntries shape list
last-entries shape stage body list is at said e =
    turn-entries shape (slots_before shape stage) shape.members body list is.most
    (body-at shape stage (AtShuffle 1 shape.members) body (turn_a shape stage shape.members at (omega (arith, is.least)) (omega arith))
    said) e

-- pads, one for each slot of the list
pub pads-said : (shape : Shape) (stage : ℕ) (body : Body) → kind_of_stage shape stage ≡ Some AtPad → IsBody shape stage body
    → (pads : List (List ℕ)) × (body ≡ Pads pads) × (length pads ≡ shape.members)
pads-said shape stage body at is = pads_in (slots_before shape stage) body (body-at shape stage AtPad body at is)
  where
    pads_in : (before : ℕ) (body : Body) → IsBodyAt shape before AtPad body
        → (pads : List (List ℕ)) × (body ≡ Pads pads) × (length pads ≡ shape.members)
    pads_in before (Pads pads) is = (pads, refl, is.1)
    pads_in before (Keys keys) is = absurd is
    pads_in before (Submit ciphertext) is = absurd is
    pads_in before (Shuffled list) is = absurd is
    pads_in before Abort is = absurd is
    pads_in before (Go vote) is = absurd is
    pads_in before (Reveal votes seed) is = absurd is
    pads_in before (Dispute posts seed opening) is = absurd is
    pads_in before (Check vote) is = absurd is
    pads_in before (Confirm votes) is = absurd is
    pads_in before (Differ posts) is = absurd is
