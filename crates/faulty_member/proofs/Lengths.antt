-- What a faulty member says is no longer than what it was given, or than a post may be.
use Rattle.std.proofs.Common.{◌≡◌, ◌≢◌, ℕ, zero, suc, ◌+◌, ◌*◌, ◌≤◌, ◌==◌, true, false, List, [], ◌∷◌, Option, Some, None, length, ap, sym, ◌∙◌, refl, arith, zero-mul, length-append}
use Rattle.std.specs.Prelude.{slice_index_or, if◌then◌else◌}
use Rattle.std.specs.Int.{w32, to_be_bytes}
use Rattle.std.specs.List.{AllByRecursion, flat_map, slice_set}
use Rattle.wire_core.specs.Bytes.{prefixed}
use Rattle.phase_message.specs.declared.content.Body.{Body}
use Rattle.phase_message.specs.declared.content.Body.TheVariants.{Go, Pads, Reveal, Shuffled, Submit}
use Rattle.phase_message.specs.declared.header.Header.{Header}
use Rattle.phase_message.specs.declared.post.TheConstants.{LEAST_CONTENT, POST_LIMIT}
use Rattle.phase_message.specs.declared.stage.StageKind.{StageKind}
use Rattle.phase_message.specs.declared.stage.StageKind.TheVariants.{Shuffle as AtShuffle, Submit as AtSubmit}
use Rattle.phase_message.specs.Body.{body_form, level}
use Rattle.phase_message.specs.Grammar.{IsBody, body_text, content_text, header_text, kind_number}
use Rattle.phase_message.specs.Kinds.{IsBodyAt}
use Rattle.phase_message.specs.Shape.{IsShape, Shape}
use Rattle.phase_message.specs.Slots.{slots_before}
use Rattle.phase_message.specs.Stages.{kind_of_stage}
use Rattle.phase_message.proofs.BodyKinds.{bodies_are_of_kinds}
use Rattle.shuffle_blame.specs.Replay.{ciphertext_of}
use Rattle.round_script.specs.declared.fault.Fault.{Fault}
use Rattle.round_script.specs.declared.fault.Fault.TheVariants.{BadVotes, DropEntry, FalseAbort, FalseNogo, Malformed, WrongSeed}
use Rattle.group_spec.specs.Alterations.{body_altered, is_altered_at, pads_changed, with_bit_changed, with_changed, with_last_bit_changed, with_last_copied}
use Rattle.group_spec.proofs.Made.{choose}
use Rattle.faulty_member.proofs.Changes.{length-bit}
use Rattle.faulty_member.proofs.Forms.{copied-keeps, drop-kind, length-copied}

-- ---- lists of items

entries-long : (n : ℕ) (entries : List (List ℕ)) → AllByRecursion (λ (entry : List ℕ). length entry ≡ n) entries →
    length (flat_map (λ (entry : List ℕ). entry) entries) ≡ length entries * n
entries-long n [] all = sym (zero-mul n)
entries-long n (entry ∷ entries) all =
    grind (arith, length-append entry (flat_map (λ (e : List ℕ). e) entries), entries-long n entries all.1)

prefixed-set : (items : List (List ℕ)) (place : ℕ) (item : List ℕ) → length item ≡ length (slice_index_or items place []) →
    length (flat_map prefixed (slice_set items place item)) ≡ length (flat_map prefixed items)
prefixed-set [] place item same = refl
prefixed-set (first ∷ items) zero item same =
    let new = length-append (prefixed item) (flat_map prefixed items) in
    let old = length-append (prefixed first) (flat_map prefixed items) in
    let new_item = length-append (to_be_bytes w32 (length item)) item in
    let old_item = length-append (to_be_bytes w32 (length first)) first in
    omega (arith, new, old, new_item, old_item, same)
prefixed-set (first ∷ items) (suc place) item same =
    let new = length-append (prefixed first) (flat_map prefixed (slice_set items place item)) in
    let old = length-append (prefixed first) (flat_map prefixed items) in
    let others = prefixed-set items place item same in
    omega (arith, new, old, others)

prefixed-changed : (change : List ℕ → List ℕ) → ((bytes : List ℕ) → length (change bytes) ≡ length bytes)
    → (place : ℕ) (items : List (List ℕ)) →
    length (flat_map prefixed (with_changed change place items)) ≡ length (flat_map prefixed items)
unfolding with_changed
prefixed-changed change same place items =
    prefixed-set items place (change (slice_index_or items place [])) (same (slice_index_or items place []))

-- ---- bodies

go-long : (body : Body) → length (body_text (body_altered FalseNogo body)) ≤ length (body_text body)
go-long (Go true) = omega arith
go-long (Go false) = omega arith
go-long _ = omega arith

seed-long : (body : Body) → length (body_text (body_altered WrongSeed body)) ≤ length (body_text body)
seed-long (Reveal votes seed) =
    let new = length-append (flat_map prefixed votes) (with_bit_changed 0 seed) in
    let old = length-append (flat_map prefixed votes) seed in
    let same = length-bit 0 seed in
    omega (arith, new, old, same)
seed-long _ = omega arith

votes-long : (body : Body) → length (body_text (body_altered BadVotes body)) ≤ length (body_text body)
votes-long (Reveal votes seed) =
    let new = length-append (flat_map prefixed (with_changed with_last_bit_changed 0 votes)) seed in
    let old = length-append (flat_map prefixed votes) seed in
    let same = prefixed-changed with_last_bit_changed (λ bytes. length-bit _ bytes) 0 votes in
    omega (arith, new, old, same)
votes-long _ = omega arith

drop-long : (shape : Shape) (before shuffle k : ℕ) (body : Body) → IsBodyAt shape before (AtShuffle shuffle k) body →
    length (body_text (body_altered DropEntry body)) ≤ length (body_text body)
drop-long shape before shuffle k (Shuffled list) at =
    let n : ℕ = level shape.members shuffle k in
    let new = entries-long n (with_last_copied list) (copied-keeps (λ (entry : List ℕ). length entry ≡ n) list at.0) in
    let old = entries-long n list at.0 in
    let same : length (with_last_copied list) * n ≡ length list * n = ap (λ (m : ℕ). m * n) (length-copied list) in
    omega (arith, new ∙ same ∙ sym old)
drop-long shape before shuffle k _ at = omega arith

-- a body that a fault alters by itself, unless it is one of keys
pub altered-long : (fault : Fault) (shape : Shape) (stage : ℕ) (body : Body) → fault ≢ Malformed →
    is_altered_at fault (kind_of_stage shape stage) ≡ true → IsBody shape stage body →
    length (body_text (body_altered fault body)) ≤ length (body_text body)
altered-long Malformed shape stage body not at is = absurd (not refl)
altered-long DropEntry shape stage body not at is =
    let kind = drop-kind (kind_of_stage shape stage) at in
    drop-long shape (slots_before shape stage) kind.0 kind.1 body
    ((bodies_are_of_kinds shape stage (AtShuffle kind.0 kind.1) body kind.2).0 is)
altered-long FalseAbort shape stage body not at is = omega arith
altered-long FalseNogo shape stage body not at is = go-long body
altered-long WrongSeed shape stage body not at is = seed-long body
altered-long BadVotes shape stage body not at is = votes-long body
altered-long _ shape stage body not at is = omega arith

pub pads-long : (pads : List (List ℕ)) (place : Option ℕ) → length (body_text (Pads (pads_changed pads place))) ≤ length
    (body_text (Pads pads))
pads-long pads None = omega arith
pads-long pads (Some place) = let same = prefixed-changed (with_bit_changed 0) (length-bit 0) place pads in omega (arith, same)

-- ---- contents

pub text-long : (h : Header) (body other : Body) → length (body_text other) ≤ length (body_text body) →
    length (content_text (record { header = h; body = other })) ≤ length (content_text (record { header = h; body = body }))
text-long h body other shorter =
    let new = length-append (header_text h) (kind_number other ∷ body_text other) in
    let old = length-append (header_text h) (kind_number body ∷ body_text body) in
    omega (arith, new, old, shorter)

-- ---- submissions

submitted-at : (shape : Shape) (before : ℕ) (kind : StageKind) (body : Body) → shape.members ≤ 8 → IsBodyAt shape before kind body →
    LEAST_CONTENT + length (ciphertext_of body) ≤ POST_LIMIT
submitted-at shape before (AtSubmit shuffle) (Submit ciphertext) most at =
    let n : ℕ = shape.members in
    let head : (if shuffle == 1 then 36 + 2272 * n else 34) ≤ 36 + 2272 * n
    = choose (λ (x : ℕ). x ≤ 36 + 2272 * n) (shuffle == 1) (36 + 2272 * n) 34 (λ _. omega arith) (λ _. omega arith) in
    omega (arith, most, at, head)
submitted-at shape before _ (Submit ciphertext) most at = absurd at
submitted-at shape before _ _ most at = omega arith

no-form : (shape : Shape) (stage number : ℕ) → kind_of_stage shape stage ≡ None → body_form shape stage number ≡ None
unfolding body_form
no-form shape stage number e = rw e refl

by-kind : (shape : Shape) (stage : ℕ) (body : Body) → IsShape shape.version shape.members → IsBody shape stage body
    → (kind : Option StageKind) →
    kind_of_stage shape stage ≡ kind → LEAST_CONTENT + length (ciphertext_of body) ≤ POST_LIMIT
by-kind shape stage body form is None e = absurd (let none = sym (no-form shape stage (kind_number body) e) ∙ is.1 in cc)
by-kind shape stage body form is (Some kind) e =
    submitted-at shape (slots_before shape stage) kind body form.most ((bodies_are_of_kinds shape stage kind body e).0 is)

-- what a content of the grammar submits is short
pub submitted-short : (shape : Shape) (stage : ℕ) (body : Body) → IsShape shape.version shape.members → IsBody shape stage body →
    LEAST_CONTENT + length (ciphertext_of body) ≤ POST_LIMIT
submitted-short shape stage body form is = by-kind shape stage body form is (kind_of_stage shape stage) refl
