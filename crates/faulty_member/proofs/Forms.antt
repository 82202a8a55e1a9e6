-- What a fault makes of a body of the grammar is of the grammar.
use Rattle.std.proofs.Common.{◌≡◌, ◌≢◌, ℕ, zero, suc, ◌<◌, ◌^◌, ◌≤◌, true, List, [], ◌∷◌, Option, Some, None, length, sym, ◌∙◌, refl, subst, arith}
use Rattle.std.specs.Prelude.{slice_index_or}
use Rattle.std.specs.List.{AllByRecursion, slice_set}
use Rattle.std.proofs.lemmas.Bool.{false≢true}
use Rattle.std.proofs.lemmas.List.{length-set}
use Rattle.phase_message.specs.declared.content.Body.{Body}
use Rattle.phase_message.specs.declared.content.Body.TheVariants.{Abort, Dispute, Go, Pads, Reveal, Shuffled}
use Rattle.phase_message.specs.declared.stage.StageKind.{StageKind}
use Rattle.phase_message.specs.declared.stage.StageKind.TheVariants.{Final as AtFinal, Go as AtGo, Keys as AtKeys, Pad as AtPad, Shuffle as AtShuffle, Submit as AtSubmit}
use Rattle.phase_message.specs.Grammar.{IsBody}
use Rattle.phase_message.specs.Kinds.{IsBodyAt}
use Rattle.phase_message.specs.Shape.{Shape}
use Rattle.phase_message.specs.Slots.{slots_before}
use Rattle.phase_message.specs.Stages.{kind_of_stage}
use Rattle.phase_message.proofs.BodyKinds.{bodies_are_of_kinds}
use Rattle.round_script.specs.declared.fault.Fault.{Fault}
use Rattle.round_script.specs.declared.fault.Fault.TheVariants.{BadVotes, CopySubmit, DropEntry, FalseAbort, FalseNogo, FlipPad, Malformed, WrongSeed}
use Rattle.group_spec.specs.Alterations.{body_altered, is_altered_at, pads_changed, with_bit_changed, with_changed, with_last_bit_changed, with_last_copied}
use Rattle.faulty_member.proofs.Changes.{length-bit, length-changed}

-- ---- lists of which one item is changed

set-keeps : {X : Type 0} (P : X → Type 0) (xs : List X) (i : ℕ) (x : X) → AllByRecursion P xs → P x → AllByRecursion P (slice_set xs i x)
set-keeps P [] i x all is = all
set-keeps P (y ∷ ys) zero x all is = (is, all.1)
set-keeps P (y ∷ ys) (suc i) x all is = (all.0, set-keeps P ys i x all.1 is)

get-keeps : {X : Type 0} (P : X → Type 0) (xs : List X) (i : ℕ) (d : X) → AllByRecursion P xs → P d → P (slice_index_or xs i d)
get-keeps P [] i d all is = is
get-keeps P (y ∷ ys) zero d all is = all.0
get-keeps P (y ∷ ys) (suc i) d all is = get-keeps P ys i d all.1 is

-- a bound on the lengths of items is kept by a change that keeps the length
changed-keeps : (P : ℕ → Type 0) (change : List ℕ → List ℕ) → ((bytes : List ℕ) → length (change bytes) ≡ length bytes) →
    (place : ℕ) (items : List (List ℕ)) → P 0 → AllByRecursion (λ (item : List ℕ). P (length item)) items →
    AllByRecursion (λ (item : List ℕ). P (length item)) (with_changed change place items)
unfolding with_changed
changed-keeps P change same place items least all =
    let item : List ℕ = slice_index_or items place [] in
    set-keeps (λ (x : List ℕ). P (length x)) items place (change item) all
    (subst P (sym (same item)) (get-keeps (λ (x : List ℕ). P (length x)) items place [] all least))

pub copied-keeps : (P : List ℕ → Type 0) (list : List (List ℕ)) → AllByRecursion P list → AllByRecursion P (with_last_copied list)
unfolding with_last_copied
copied-keeps P [] all = all
copied-keeps P (entry ∷ entries) all = set-keeps P (entry ∷ entries) _ entry all all.0

pub length-copied : (list : List (List ℕ)) → length (with_last_copied list) ≡ length list
unfolding with_last_copied
length-copied list = length-set list _ _

-- ---- the kinds of stages at which faults alter something

pub keys-kind : (kind : Option StageKind) → is_altered_at Malformed kind ≡ true → kind ≡ Some AtKeys
keys-kind (Some AtKeys) is = refl
keys-kind _ is = absurd (false≢true is)

pub submit-kind : (kind : Option StageKind) → is_altered_at CopySubmit kind ≡ true → (shuffle : ℕ) × (kind ≡ Some (AtSubmit shuffle))
submit-kind (Some (AtSubmit shuffle)) is = (shuffle, refl)
submit-kind _ is = absurd (false≢true is)

pub drop-kind : (kind : Option StageKind) → is_altered_at DropEntry kind ≡ true → (shuffle : ℕ) × (k : ℕ)
    × (kind ≡ Some (AtShuffle shuffle k))
drop-kind (Some (AtShuffle shuffle k)) is = (shuffle, k, refl)
drop-kind _ is = absurd (false≢true is)

abort-kind : (kind : Option StageKind) → is_altered_at FalseAbort kind ≡ true → (shuffle : ℕ) × (k : ℕ)
    × (kind ≡ Some (AtShuffle shuffle k))
abort-kind (Some (AtShuffle shuffle k)) is = (shuffle, k, refl)
abort-kind _ is = absurd (false≢true is)

nogo-kind : (kind : Option StageKind) → is_altered_at FalseNogo kind ≡ true → (shuffle : ℕ) × (kind ≡ Some (AtGo shuffle))
nogo-kind (Some (AtGo shuffle)) is = (shuffle, refl)
nogo-kind _ is = absurd (false≢true is)

seed-kind : (kind : Option StageKind) → is_altered_at WrongSeed kind ≡ true → (shuffle : ℕ) × (kind ≡ Some (AtFinal shuffle))
seed-kind (Some (AtFinal shuffle)) is = (shuffle, refl)
seed-kind _ is = absurd (false≢true is)

votes-kind : (kind : Option StageKind) → is_altered_at BadVotes kind ≡ true → (shuffle : ℕ) × (kind ≡ Some (AtFinal shuffle))
votes-kind (Some (AtFinal shuffle)) is = (shuffle, refl)
votes-kind _ is = absurd (false≢true is)

pub pads-kind : (kind : Option StageKind) → is_altered_at FlipPad kind ≡ true → kind ≡ Some AtPad
pads-kind (Some AtPad) is = refl
pads-kind _ is = absurd (false≢true is)

-- ---- forms

drop-form : (shape : Shape) (before shuffle k : ℕ) (body : Body) → IsBodyAt shape before (AtShuffle shuffle k) body →
    IsBodyAt shape before (AtShuffle shuffle k) (body_altered DropEntry body)
drop-form shape before shuffle k (Shuffled list) at = (copied-keeps _ list at.0, length-copied list ∙ at.1)
drop-form shape before shuffle k Abort at = at
drop-form shape before shuffle k _ at = absurd at

nogo-form : (shape : Shape) (before shuffle : ℕ) (body : Body) → IsBodyAt shape before (AtGo shuffle) body →
    IsBodyAt shape before (AtGo shuffle) (body_altered FalseNogo body)
nogo-form shape before shuffle (Go vote) at = at
nogo-form shape before shuffle _ at = absurd at

seed-form : (shape : Shape) (before shuffle : ℕ) (body : Body) → IsBodyAt shape before (AtFinal shuffle) body →
    IsBodyAt shape before (AtFinal shuffle) (body_altered WrongSeed body)
seed-form shape before shuffle (Reveal votes seed) at = (at.0, length-bit 0 seed ∙ at.1)
seed-form shape before shuffle (Dispute posts seed opening) at = at
seed-form shape before shuffle _ at = absurd at

votes-form : (shape : Shape) (before shuffle : ℕ) (body : Body) → IsBodyAt shape before (AtFinal shuffle) body →
    IsBodyAt shape before (AtFinal shuffle) (body_altered BadVotes body)
votes-form shape before shuffle (Reveal votes seed) at = (
  (
    changed-keeps (λ n. n < 2 ^ 32) with_last_bit_changed (λ bytes. length-bit _ bytes) 0 votes (omega arith) at.0.0,
    length-changed with_last_bit_changed 0 votes ∙ at.0.1,
  ),
  at.1,
)
votes-form shape before shuffle (Dispute posts seed opening) at = at
votes-form shape before shuffle _ at = absurd at

pub flipped-form : (shape : Shape) (before : ℕ) (pads : List (List ℕ)) (place : Option ℕ) → IsBodyAt shape before AtPad (Pads pads) →
    IsBodyAt shape before AtPad (Pads (pads_changed pads place))
flipped-form shape before pads None at = at
flipped-form shape before pads (Some place) at = (
  changed-keeps (λ n. n ≤ 65536) (with_bit_changed 0) (length-bit 0) place pads (omega arith) at.0,
  length-changed (with_bit_changed 0)
      place pads ∙ at.1,
)

-- ---- bodies of the grammar

-- a body of a kind's form in the place of another
pub replaced : (shape : Shape) (stage : ℕ) (kind : StageKind) (body other : Body) → kind_of_stage shape stage ≡ Some kind →
    (IsBodyAt shape (slots_before shape stage) kind body → IsBodyAt shape (slots_before shape stage) kind other) →
    IsBody shape stage body → IsBody shape stage other
replaced shape stage kind body other at keeps is =
    (bodies_are_of_kinds shape stage kind other at).1 (keeps ((bodies_are_of_kinds shape stage kind body at).0 is))

-- a body that a fault alters by itself, unless it is one of keys
pub altered-is_body : (fault : Fault) (shape : Shape) (stage : ℕ) (body : Body) → fault ≢ Malformed →
    is_altered_at fault (kind_of_stage shape stage) ≡ true → IsBody shape stage body → IsBody shape stage (body_altered fault body)
altered-is_body Malformed shape stage body not at is = absurd (not refl)
altered-is_body DropEntry shape stage body not at is =
    let kind = drop-kind (kind_of_stage shape stage) at in
    replaced shape stage (AtShuffle kind.0 kind.1) body (body_altered DropEntry body) kind.2
    (drop-form shape (slots_before shape stage) kind.0 kind.1 body) is
altered-is_body FalseAbort shape stage body not at is =
    let kind = abort-kind (kind_of_stage shape stage) at in
    replaced shape stage (AtShuffle kind.0 kind.1) body Abort kind.2 (λ form. tt) is
altered-is_body FalseNogo shape stage body not at is =
    let kind = nogo-kind (kind_of_stage shape stage) at in
    replaced shape stage (AtGo kind.0) body (body_altered FalseNogo body) kind.1 (nogo-form shape (slots_before shape stage) kind.0 body) is
altered-is_body WrongSeed shape stage body not at is =
    let kind = seed-kind (kind_of_stage shape stage) at in
    replaced shape stage (AtFinal kind.0) body (body_altered WrongSeed body) kind.1 (seed-form shape (slots_before shape stage) kind.0 body)
    is
altered-is_body BadVotes shape stage body not at is =
    let kind = votes-kind (kind_of_stage shape stage) at in
    replaced shape stage (AtFinal kind.0) body (body_altered BadVotes body) kind.1 (votes-form shape (slots_before shape stage) kind.0 body)
    is
altered-is_body _ shape stage body not at is = is
