-- A member with a fault: it forms its contents by the rules, alters what its fault alters, and says all else as it is.
use Rattle.std.specs.Prelude.{ℕ, ◌==◌, List, [], Option, Some, None, Result, Ok, Err, if◌then◌else◌}
use Rattle.std.specs.Option.{option_map_or}
use Rattle.phase_message.specs.declared.content.Body.TheVariants.{Submit}
use Rattle.phase_message.specs.declared.content.Content.{Content}
use Rattle.phase_message.specs.declared.offence.Offence.{Offence}
use Rattle.phase_message.specs.declared.post.Post.{Post}
use Rattle.phase_message.specs.Grammar.{content_text}
use Rattle.phase_message.specs.Offence.{content_read}
use Rattle.phase_message.specs.Shape.{Shape}
use Rattle.phase_message.specs.Stages.{kind_of_stage}
use Rattle.stage_log.specs.Table.{Log}
use Rattle.bulk_descriptor.specs.Descriptor.{Description, descriptor_text}
use Rattle.member_spec.specs.declared.conduct.Speech.{Speech}
use Rattle.member_spec.specs.declared.conduct.Speech.TheVariants.{Say, Wait, Silent as SaysNothing}
use Rattle.member_spec.specs.Replies.{IsPlain, Replies}
use Rattle.round_script.specs.declared.fault.Fault.{Fault}
use Rattle.round_script.specs.declared.fault.Fault.TheVariants.{None as Honest, Silent, TwoVotes, CopySubmit, FalseView, FlipPad}
use Rattle.group_spec.specs.Alterations.{body_altered, ciphertext_in, description_altered, is_altered_at, least_other, pads_altered, submission_kept, with_last_bit_changed}

-- a member with its fault, its number, and the descriptor that it last answered
pub record FaultyMember : Type 0 where
  pub fault : Fault
  pub member : ℕ
  pub own : Option Description

-- one that has not been asked about a descriptor
abbrev pub faulty_member : Fault → ℕ → FaultyMember
faulty_member fault member = record { fault = fault; member = member; own = None }

-- the bytes of its descriptor
abbrev pub own_bytes : FaultyMember → List ℕ
own_bytes faulty = option_map_or descriptor_text faulty.own []

-- it says what the other one submits, once that is there, and puts its own content off until then
abbrev pub says_copy : Shape → List ℕ → Content → Option Post → Speech
says_copy shape bytes content None = Wait bytes
says_copy shape bytes content (Some post) =
    Say (content_text (record { header = content.header; body = Submit (ciphertext_in shape post) }))

-- it says a view whose last byte has another lowest bit
abbrev pub says_false_view : Content → Speech
says_false_view content = Say (content_text (record {
  header = record content.header { view = with_last_bit_changed content.header.view };
  body = content.body;
}))

-- what it says in place of a content that its fault alters
abbrev pub speech_in_place : FaultyMember → Fault → List ℕ → Log → Content → Speech
speech_in_place faulty CopySubmit bytes log content =
    says_copy log.shape bytes content (submission_kept log (least_other faulty.member))
speech_in_place faulty FalseView bytes log content = says_false_view content
speech_in_place faulty FlipPad bytes log content =
    Say (content_text (record { header = content.header; body = pads_altered log (own_bytes faulty) content.body }))
speech_in_place faulty fault bytes log content =
    Say (content_text (record { header = content.header; body = body_altered fault content.body }))

-- what it says about bytes that are read so: those of a stage at which its fault alters nothing it says as they are
abbrev pub speech_if_read : FaultyMember → List ℕ → Log → Result Content Offence → Speech
speech_if_read faulty bytes log (Ok content) =
    if is_altered_at faulty.fault (kind_of_stage log.shape content.header.stage)
    then speech_in_place faulty faulty.fault bytes log content else Say bytes
speech_if_read faulty bytes log (Err offence) = Say bytes

-- what it says by its fault: a silent one says its keys and nothing more
abbrev pub speech_by : FaultyMember → Fault → ℕ → List ℕ → Log → Speech
speech_by faulty Silent stage bytes log = if stage == 0 then Say bytes else SaysNothing
speech_by faulty fault stage bytes log = speech_if_read faulty bytes log (content_read log.shape bytes)

-- what it says at a stage about the bytes of a content, where it keeps this log
unfoldable pub faulty_speech : FaultyMember → ℕ → List ℕ → Log → Speech
faulty_speech faulty stage bytes log = speech_by faulty faulty.fault stage bytes log

-- the descriptor that it makes of its own one
abbrev pub faulty_description : FaultyMember → Description → Description
faulty_description faulty own = description_altered faulty.fault faulty.member own

-- its conduct
abbrev pub faulty_replies : FaultyMember → Replies
faulty_replies faulty = record {
  descriptor = faulty_description faulty;
  speech = faulty_speech faulty;
  speech_after = λ own. faulty_speech (record faulty { own = Some (faulty_description faulty own) });
}

-- without a fault, and with two votes, of which the member itself says one, its conduct is plain
abbrev pub HonestConductsArePlain : Type 0
HonestConductsArePlain = (member : ℕ) (own : Option Description)
    → IsPlain (faulty_replies (record { fault = Honest; member = member; own = own }))
    × IsPlain (faulty_replies (record { fault = TwoVotes; member = member; own = own }))
