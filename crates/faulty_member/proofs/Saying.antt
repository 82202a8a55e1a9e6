-- What a faulty member says, by what was read, as the definitions choose it.
use Rattle.std.proofs.Common.{◌≡◌, ◌≢◌, ℕ, suc, ◌+◌, ◌≤◌, true, List, [], ◌∷◌, ◌++◌, Option, Some, length, take, ap, sym, ◌∙◌, refl, subst, arith, length-append}
use Rattle.std.specs.Prelude.{◌==◌, ◌*◌, ◌/◌, slice_index_or, if◌then◌else◌, IfOk, Result, Ok, Err}
use Rattle.std.specs.List.{slice_set}
use Rattle.std.proofs.lemmas.Bool.{cond-false, cond-true, eqb-true, false_from_ne_true}
use Rattle.phase_message.specs.declared.content.Body.{Body}
use Rattle.phase_message.specs.declared.content.Body.TheVariants.{Keys, Pads, Submit}
use Rattle.phase_message.specs.declared.content.Content.{Content}
use Rattle.phase_message.specs.declared.header.Header.{Header}
use Rattle.wire_core.specs.Bytes.{IsBytes}
use Rattle.phase_message.specs.declared.post.TheConstants.{POST_LIMIT}
use Rattle.phase_message.specs.declared.stage.StageKind.{StageKind}
use Rattle.phase_message.specs.declared.stage.StageKind.TheVariants.{Keys as AtKeys, Pad as AtPad, Submit as AtSubmit}
use Rattle.phase_message.specs.Grammar.{IsBody, IsHeader, OfGrammar, body_text, content_text, header_text, kind_number}
use Rattle.phase_message.specs.Kinds.{IsBodyAt}
use Rattle.phase_message.specs.Offence.{content_read}
use Rattle.phase_message.specs.Shape.{Shape}
use Rattle.phase_message.specs.Slots.{slots_before}
use Rattle.phase_message.specs.Stages.{kind_of_stage}
use Rattle.phase_message.proofs.BodyKinds.{bodies_are_of_kinds}
use Rattle.phase_message.proofs.Lengths.{fixed-length}
use Rattle.phase_message.proofs.Whole.{length-header_text}
use Rattle.stage_log.specs.Table.{Log}
use Rattle.member_spec.specs.declared.conduct.Speech.{Speech}
use Rattle.member_spec.specs.declared.conduct.Speech.TheVariants.{Say, Silent as SaysNothing}
use Rattle.member_spec.specs.Replies.{HasAtMost}
use Rattle.round_script.specs.declared.fault.Fault.{Fault}
use Rattle.round_script.specs.declared.fault.Fault.TheVariants.{CopySubmit, FalseView, FlipPad, Malformed, Silent}
use Rattle.group_spec.specs.Alterations.{body_altered, is_altered_at, items_in, pads_altered, place_of_pad, with_last_bit_changed}
use Rattle.group_spec.specs.Faulty.{FaultyMember, faulty_speech, speech_by, speech_if_read, speech_in_place}
use Rattle.faulty_member.proofs.Changes.{length-bit}
use Rattle.faulty_member.proofs.KeysText.{changed-text}
use Rattle.faulty_member.proofs.Forms.{flipped-form, keys-kind, pads-kind, replaced, submit-kind}
use Rattle.faulty_member.proofs.Lengths.{pads-long, text-long}

-- ---- kinds

-- a fault alters keys alone, at their stage
pub at-keys : (fault : Fault) (kind : Option StageKind) → fault ≡ Malformed → is_altered_at fault kind ≡ true → kind ≡ Some AtKeys
at-keys fault kind is at = keys-kind kind (subst (λ (f : Fault). is_altered_at f kind ≡ true) is at)

-- keys are at least 110 bytes, with what stands before them
pub keys-least : (shape : Shape) (fault : Fault) (bytes : List ℕ) (content : Content) → fault ≡ Malformed →
    is_altered_at fault (kind_of_stage shape content.header.stage) ≡ true → OfGrammar shape content → bytes ≡ content_text content
    → 110 ≤ length bytes
keys-least shape fault bytes content is at of spelled =
    let long = fixed-length shape content AtKeys of (at-keys fault (kind_of_stage shape content.header.stage) is at) (omega arith) in
    let same : length bytes ≡ length (content_text content) = ap (λ (b : List ℕ). length b) spelled in
    omega (arith, long, same)

submits-at : (shape : Shape) (before shuffle : ℕ) (body : Body) → IsBodyAt shape before (AtSubmit shuffle) body → kind_number body ≡ 2
submits-at shape before shuffle (Submit ciphertext) at = refl
submits-at shape before shuffle _ at = absurd at

-- what is copied is a submission
pub submits : (shape : Shape) (fault : Fault) (content : Content) → fault ≡ CopySubmit →
    is_altered_at fault (kind_of_stage shape content.header.stage) ≡ true → OfGrammar shape content → kind_number content.body ≡ 2
submits shape fault content is at of =
    let stage : ℕ = content.header.stage in
    let kind = submit-kind (kind_of_stage shape stage) (subst (λ (f : Fault). is_altered_at f (kind_of_stage shape stage) ≡ true) is at) in
    submits-at shape (slots_before shape stage) kind.0 content.body
    ((bodies_are_of_kinds shape stage (AtSubmit kind.0) content.body kind.1).0 of.1)

-- ---- bodies in place

-- a content with another body of the grammar
pub in-place : (given shape : Shape) (content : Content) (body : Body) → given ≡ shape → OfGrammar shape content →
    IsBody shape content.header.stage body → OfGrammar given (record { header = content.header; body = body })
in-place given shape content body is of fits =
    subst (λ (s : Shape). OfGrammar s (record { header = content.header; body = body })) (sym is) (of.0, fits)

-- a flipped pad stays of the grammar
flipped-body : (log : Log) (own : List ℕ) (stage : ℕ) (body : Body) → kind_of_stage log.shape stage ≡ Some AtPad →
    IsBodyAt log.shape (slots_before log.shape stage) AtPad body
    → IsBodyAt log.shape (slots_before log.shape stage) AtPad (pads_altered log own body)
flipped-body log own stage (Pads pads) e at = flipped-form log.shape (slots_before log.shape stage) pads
    (place_of_pad log.shape own (items_in log) pads) at
flipped-body log own stage _ e at = absurd at

pub flipped-is_body : (log : Log) (own : List ℕ) (fault : Fault) (stage : ℕ) (body : Body) → fault ≡ FlipPad →
    is_altered_at fault (kind_of_stage log.shape stage) ≡ true → IsBody log.shape stage body
    → IsBody log.shape stage (pads_altered log own body)
flipped-is_body log own fault stage body is at fits =
    let kind = pads-kind (kind_of_stage log.shape stage) (subst (λ (f : Fault). is_altered_at f (kind_of_stage log.shape stage) ≡ true) is
    at) in
    replaced log.shape stage AtPad body (pads_altered log own body) kind (flipped-body log own stage body kind) fits

pub flipped-long : (log : Log) (own : List ℕ) (body : Body) → length (body_text (pads_altered log own body)) ≤ length (body_text body)
flipped-long log own (Pads pads) = pads-long pads (place_of_pad log.shape own (items_in log) pads)
flipped-long log own _ = omega arith

-- ---- what is chosen

-- a fault that looks at nothing else alters the body by itself
pub in-default : (faulty : FaultyMember) (fault : Fault) (bytes : List ℕ) (log : Log) (content : Content) → fault ≢ CopySubmit
    → fault ≢ FalseView → fault ≢ FlipPad →
    speech_in_place faulty fault bytes log content ≡ Say (content_text
    (record { header = content.header; body = body_altered fault content.body }))
in-default faulty CopySubmit bytes log content a b d = absurd (a refl)
in-default faulty FalseView bytes log content a b d = absurd (b refl)
in-default faulty FlipPad bytes log content a b d = absurd (d refl)
in-default faulty _ bytes log content a b d = refl

by-silence : (faulty : FaultyMember) (fault : Fault) (stage : ℕ) (bytes : List ℕ) (log : Log) → fault ≡ Silent →
    speech_by faulty fault stage bytes log ≡ (if stage == 0 then Say bytes else SaysNothing)
by-silence faulty fault stage bytes log is = ap (λ (f : Fault). speech_by faulty f stage bytes log) is

-- a silent member says its keys
pub silent-first : (faulty : FaultyMember) (stage : ℕ) (bytes : List ℕ) (log : Log) → faulty.fault ≡ Silent → stage ≡ 0 →
    faulty_speech faulty stage bytes log ≡ Say bytes
unfolding faulty_speech
silent-first faulty stage bytes log is first =
    by-silence faulty faulty.fault stage bytes log is ∙ cond-true (stage == 0) (Say bytes) SaysNothing (ap (λ (s : ℕ). s == 0) first)

-- and nothing later
pub silent-later : (faulty : FaultyMember) (stage : ℕ) (bytes : List ℕ) (log : Log) → faulty.fault ≡ Silent → stage ≢ 0 →
    faulty_speech faulty stage bytes log ≡ SaysNothing
unfolding faulty_speech
silent-later faulty stage bytes log is later =
    by-silence faulty faulty.fault stage bytes log is ∙ cond-false (stage == 0) (Say bytes) SaysNothing
    (false_from_ne_true (stage == 0) (λ e. later (eqb-true stage 0 e)))

by-reading : (faulty : FaultyMember) (fault : Fault) (stage : ℕ) (bytes : List ℕ) (log : Log) → fault ≢ Silent →
    speech_by faulty fault stage bytes log ≡ speech_if_read faulty bytes log (content_read log.shape bytes)
by-reading faulty Silent stage bytes log not = absurd (not refl)
by-reading faulty _ stage bytes log not = refl

-- another says what it says by what is read
pub speaks-by_reading : (faulty : FaultyMember) (stage : ℕ) (bytes : List ℕ) (log : Log) → faulty.fault ≢ Silent →
    faulty_speech faulty stage bytes log ≡ speech_if_read faulty bytes log (content_read log.shape bytes)
unfolding faulty_speech
speaks-by_reading faulty stage bytes log not = by-reading faulty faulty.fault stage bytes log not

-- ---- a copied submission

take-front : (front : List ℕ) (x : ℕ) (rest : List ℕ) → take (length front + 1) (front ++ x ∷ rest) ≡ front ++ x ∷ []
take-front [] x rest = refl
take-front (y ∷ front) x rest =
    let next : suc (length front) + 1 ≡ suc (length front + 1) = omega arith in
    ap (λ (n : ℕ). take n (y ∷ (front ++ x ∷ rest))) next ∙ ap (λ (s : List ℕ). y ∷ s) (take-front front x rest)

append-front : (front : List ℕ) (x : ℕ) (rest : List ℕ) → (front ++ x ∷ []) ++ rest ≡ front ++ x ∷ rest
append-front [] x rest = refl
append-front (y ∷ front) x rest = ap (λ (s : List ℕ). y ∷ s) (append-front front x rest)

-- the bytes of a submission with another ciphertext
pub copied-text : (shape : Shape) (bytes : List ℕ) (content : Content) (ciphertext : List ℕ) → bytes ≡ content_text content
    → OfGrammar shape content →
    kind_number content.body ≡ 2 → take 76 bytes ++ ciphertext ≡ content_text (record { header = content.header; body = Submit ciphertext })
copied-text shape bytes content ciphertext spelled of submission =
    let front : List ℕ = header_text content.header in
    let rest : List ℕ = body_text content.body in
    let long : 76 ≡ length front + 1 = (let size = length-header_text shape content.header of.0 in omega (arith, size)) in
    ap (λ (b : List ℕ). take 76 b ++ ciphertext) spelled
    ∙ ap (λ (n : ℕ). take n (front ++ kind_number content.body ∷ rest) ++ ciphertext) long
    ∙ ap (λ (s : List ℕ). s ++ ciphertext) (take-front front (kind_number content.body) rest)
    ∙ ap (λ (k : ℕ). (front ++ k ∷ []) ++ ciphertext) submission
    ∙ append-front front 2 ciphertext

-- ---- keys out of range

keys-at : (shape : Shape) (before : ℕ) (h : Header) (body : Body) (bytes result : List ℕ) → length (header_text h) ≡ 75
    → IsBodyAt shape before AtKeys body →
    bytes ≡ content_text (record { header = h; body = body }) → IsBytes bytes →
    result ≡ slice_set (slice_set bytes 108 1) 109 (slice_index_or bytes 109 0 / 64 * 64 + 48) →
    result ≡ content_text (record { header = h; body = body_altered Malformed body })
keys-at shape before h (Keys (key ∷ keys)) bytes result size at spelled are made = changed-text h key keys bytes result size at.0.0 spelled
    are made
keys-at shape before h (Keys []) bytes result size at spelled are made = absurd (let none : 0 ≡ 5 = at.1 in cc)
keys-at shape before h _ bytes result size at spelled are made = absurd at

-- the bytes of keys with two bytes changed are what is said in place of them
pub keys-said : (faulty : FaultyMember) (fault : Fault) (bytes result : List ℕ) (log : Log) (content : Content) → fault ≡ Malformed →
    is_altered_at fault (kind_of_stage log.shape content.header.stage) ≡ true → OfGrammar log.shape content → bytes ≡ content_text content
    → IsBytes bytes →
    result ≡ slice_set (slice_set bytes 108 1) 109 (slice_index_or bytes 109 0 / 64 * 64 + 48) →
    Say result ≡ speech_in_place faulty fault bytes log content
keys-said faulty fault bytes result log content is at of spelled are made =
    let stage : ℕ = content.header.stage in
    let kind = at-keys fault (kind_of_stage log.shape stage) is at in
    let form = (bodies_are_of_kinds log.shape stage AtKeys content.body kind).0 of.1 in
    ap (λ (text : List ℕ). Say text) (keys-at log.shape (slots_before log.shape stage) content.header content.body bytes result
    (length-header_text log.shape content.header of.0) form spelled are made)
    ∙ sym (ap (λ (f : Fault). speech_in_place faulty f bytes log content) is)

-- ---- answers

-- what is told of an answer is told of what is said
pub told-as : {E : Type 0} (r : Result Speech E) (said wanted : Speech) → IfOk r (λ speech. speech ≡ said) → said ≡ wanted
    → IfOk r (λ speech. speech ≡ wanted)
told-as (Ok speech) said wanted told same = told ∙ same
told-as (Err e) said wanted told same = tt

short-text : (most : ℕ) (bytes text : List ℕ) → length text ≤ length bytes → length bytes ≤ most → HasAtMost most (Say text)
short-text most bytes text shorter long = omega (arith, shorter, long)

-- a content is no longer than bytes, so its answer is short
pub said-short : {E : Type 0} (r : Result Speech E) (bytes text : List ℕ) → IfOk r (λ speech. speech ≡ Say text)
    → length text ≤ length bytes →
    IfOk r (λ speech. (most : ℕ) → POST_LIMIT ≤ most → length bytes ≤ most → HasAtMost most speech)
said-short (Ok speech) bytes text told shorter =
    λ most limit long. subst (λ (s : Speech). HasAtMost most s) (sym told) (short-text most bytes text shorter long)
said-short (Err e) bytes text told shorter = tt

-- what an answer is told to be for a slot
pub told-slot : {E : Type 0} (r : Result Speech E) (wanted : Speech) (P : Speech → Type 0) → IfOk r (λ speech. speech ≡ wanted) → P wanted
    → IfOk r P
told-slot (Ok speech) wanted P told has = subst P (sym told) has
told-slot (Err e) wanted P told has = tt

-- a content with a false view is as long
pub view-long : (shape : Shape) (content : Content) → OfGrammar shape content →
    length (content_text (record {
      header = record content.header { view = with_last_bit_changed content.header.view };
      body = content.body;
    }))
    ≤ length (content_text content)
view-long shape content of =
    let h : Header = content.header in
    let other : Header = record h { view = with_last_bit_changed h.view } in
    let is = of.0 in
    let form : IsHeader shape other = record {
      version_is = is.version_is;
      group_long = is.group_long;
      round_small = is.round_small;
      slot_is = is.slot_is;
      view_long = length-bit _ h.view ∙ is.view_long;
    } in
    let rest : List ℕ = kind_number content.body ∷ body_text content.body in
    let new = length-append (header_text other) rest in
    let old = length-append (header_text h) rest in
    let new_head = length-header_text shape other form in
    let old_head = length-header_text shape h is in
    omega (arith, new, old, new_head, old_head)

-- the same content with another body is no longer than the bytes of the content
pub in-place-long : (bytes : List ℕ) (content : Content) (body other : Body) → bytes ≡ content_text content → body ≡ other →
    length (body_text other) ≤ length (body_text content.body) → length (content_text (record { header = content.header; body = body })) ≤
    length bytes
in-place-long bytes content body other spelled is shorter =
    let long = text-long content.header content.body other shorter in
    let same : length bytes ≡ length (content_text content) = ap (λ (b : List ℕ). length b) spelled in
    let moved : length (content_text (record { header = content.header; body = body })) ≡ length
    (content_text (record { header = content.header; body = other }))
    = ap (λ (b : Body). length (content_text (record { header = content.header; body = b }))) is in
    omega (arith, long, same, moved)
