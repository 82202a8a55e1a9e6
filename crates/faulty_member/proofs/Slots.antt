-- What a faulty member answers is of the slot that it was asked about.
use Rattle.std.proofs.Common.{◌≡◌, ℕ, ◌==◌, List, [], ◌∷◌, ◌++◌, Option, Some, None, ap, ◌∙◌, refl}
use Rattle.std.specs.Prelude.{Result, Ok, Err}
use Rattle.wire_core.specs.Bytes.{IsBytes}
use Rattle.wire_core.specs.declared.cursor.Short.{Short}
use Rattle.phase_message.specs.declared.content.Body.{Body}
use Rattle.phase_message.specs.declared.content.Body.TheVariants.{Submit}
use Rattle.phase_message.specs.declared.content.Content.{Content}
use Rattle.phase_message.specs.declared.header.Header.{Header}
use Rattle.phase_message.specs.declared.offence.Offence.{Offence}
use Rattle.phase_message.specs.declared.post.Post.{Post}
use Rattle.phase_message.specs.declared.stage.Slot.{Slot}
use Rattle.phase_message.specs.Grammar.{BeginsWith, HasWidths, IsHeader, body_text, content_text, kind_number}
use Rattle.phase_message.specs.Header.{header_of}
use Rattle.phase_message.specs.Offence.{content_read}
use Rattle.phase_message.specs.Shape.{Shape}
use Rattle.phase_message.specs.Stages.{kind_of_stage}
use Rattle.phase_message.proofs.Whole.{begins-header_of, content-header, content-is_spelled}
use Rattle.stage_log.specs.Table.{Log}
use Rattle.round_spec.specs.Embedded.{slot_named}
use Rattle.member_spec.specs.declared.conduct.Speech.{Speech}
use Rattle.member_spec.specs.declared.conduct.Speech.TheVariants.{Say, Silent as Nothing}
use Rattle.member_spec.specs.Replies.{HasSlot, IsForSlot, KeepsSlot}
use Rattle.round_script.specs.declared.fault.Fault.{Fault}
use Rattle.round_script.specs.declared.fault.Fault.TheVariants.{CopySubmit, FalseView, FlipPad, Silent}
use Rattle.group_spec.specs.Alterations.{body_altered, ciphertext_in, is_altered_at, least_other, pads_altered, submission_kept, with_last_bit_changed}
use Rattle.group_spec.specs.Faulty.{FaultyMember, faulty_speech, own_bytes, says_copy, speech_by, speech_if_read, speech_in_place}
use Rattle.group_spec.proofs.Made.{choose}
use Rattle.faulty_member.proofs.Changes.{length-bit}

header-same : (a b : Header) (r : Result Header Short) → r ≡ Ok a → r ≡ Ok b → a ≡ b
header-same a b (Ok h) first second = cc
header-same a b (Err short) first second = absurd cc

widths-of : (shape : Shape) (h : Header) → IsHeader shape h → HasWidths h
widths-of shape h is = record { group_long = is.group_long; round_small = is.round_small; view_long = is.view_long }

-- a content with a header of the slot
written-slot : (shape : Shape) (slot : Slot) (h : Header) (body : Body) → HasWidths h → slot_named h ≡ slot →
    KeepsSlot shape slot (content_text (record { header = h; body = body }))
written-slot shape slot h body widths named content read =
    let text : List ℕ = content_text (record { header = h; body = body }) in
    let begins : BeginsWith h text = record { widths = widths; rest = (kind_number body ∷ []) ++ body_text body; spelled = refl } in
    ap slot_named (header-same content.header h (header_of text) (content-header shape text content read) (begins-header_of text h begins))
    ∙ named

-- bytes that name the slot
pub same-slot : (shape : Shape) (slot : Slot) (bytes : List ℕ) → HasSlot slot bytes → KeepsSlot shape slot bytes
same-slot shape slot bytes has content read =
    ap slot_named (header-same content.header has.0 (header_of bytes) (content-header shape bytes content read) has.1) ∙ has.2

copy-slot : (shape : Shape) (slot : Slot) (bytes : List ℕ) (content : Content) (post : Option Post) → HasSlot slot bytes
    → HasWidths content.header →
    slot_named content.header ≡ slot → IsForSlot shape slot (says_copy shape bytes content post)
copy-slot shape slot bytes content None has widths named = has
copy-slot shape slot bytes content (Some post) has widths named = written-slot shape slot content.header (Submit (ciphertext_in shape post))
    widths named

view-widths : (h : Header) → HasWidths h → HasWidths (record h { view = with_last_bit_changed h.view })
view-widths h widths =
    record { group_long = widths.group_long; round_small = widths.round_small; view_long = length-bit _ h.view ∙ widths.view_long }

place-slot : (faulty : FaultyMember) (fault : Fault) (bytes : List ℕ) (log : Log) (content : Content) (slot : Slot) → HasSlot slot bytes →
    HasWidths content.header → slot_named content.header ≡ slot → IsForSlot log.shape slot (speech_in_place faulty fault bytes log content)
place-slot faulty CopySubmit bytes log content slot has widths named =
    copy-slot log.shape slot bytes content (submission_kept log (least_other faulty.member)) has widths named
place-slot faulty FalseView bytes log content slot has widths named =
    written-slot log.shape slot (record content.header { view = with_last_bit_changed content.header.view }) content.body
    (view-widths content.header widths) named
place-slot faulty FlipPad bytes log content slot has widths named =
    written-slot log.shape slot content.header (pads_altered log (own_bytes faulty) content.body) widths named
place-slot faulty fault bytes log content slot has widths named =
    written-slot log.shape slot content.header (body_altered fault content.body) widths named

read-slot : (faulty : FaultyMember) (bytes : List ℕ) (log : Log) (slot : Slot) (read : Result Content Offence)
    → content_read log.shape bytes ≡ read →
    IsBytes bytes → HasSlot slot bytes → IsForSlot log.shape slot (speech_if_read faulty bytes log read)
read-slot faulty bytes log slot (Ok content) e are has =
    let spelled = content-is_spelled log.shape bytes content are e in
    let named : slot_named content.header ≡ slot
    = ap slot_named (header-same content.header has.0 (header_of bytes) (content-header log.shape bytes content e) has.1) ∙ has.2 in
    choose (λ (s : Speech). IsForSlot log.shape slot s) (is_altered_at faulty.fault (kind_of_stage log.shape content.header.stage))
    (speech_in_place faulty faulty.fault bytes log content) (Say bytes)
    (λ _. place-slot faulty faulty.fault bytes log content slot has (widths-of log.shape content.header spelled.1.0) named)
    (λ _. same-slot log.shape slot bytes has)
read-slot faulty bytes log slot (Err offence) e are has = same-slot log.shape slot bytes has

by-slot : (faulty : FaultyMember) (fault : Fault) (stage : ℕ) (bytes : List ℕ) (log : Log) (slot : Slot) → IsBytes bytes
    → HasSlot slot bytes →
    IsForSlot log.shape slot (speech_by faulty fault stage bytes log)
by-slot faulty Silent stage bytes log slot are has =
    choose (λ (s : Speech). IsForSlot log.shape slot s) (stage == 0) (Say bytes) Nothing (λ _. same-slot log.shape slot bytes has) (λ _. tt)
by-slot faulty fault stage bytes log slot are has = read-slot faulty bytes log slot (content_read log.shape bytes) refl are has

-- whatever it is asked
pub speech-slot : (faulty : FaultyMember) (stage : ℕ) (bytes : List ℕ) (log : Log) (slot : Slot) → IsBytes bytes → HasSlot slot bytes →
    IsForSlot log.shape slot (faulty_speech faulty stage bytes log)
unfolding faulty_speech
speech-slot faulty stage bytes log slot are has = by-slot faulty faulty.fault stage bytes log slot are has
