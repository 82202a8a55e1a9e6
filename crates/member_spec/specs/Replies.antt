-- What a conduct answers. A conduct stands between the rules and what a member posts: it may change the member's
-- descriptor and each of its contents, put a content off, or say nothing more.
use Rattle.std.specs.Prelude.{◌≡◌, ◌≤◌, ℕ, List, length, Ok}
use Rattle.phase_message.specs.declared.content.Content.{Content}
use Rattle.phase_message.specs.declared.header.Header.{Header}
use Rattle.phase_message.specs.declared.stage.Slot.{Slot}
use Rattle.phase_message.specs.Header.{header_of}
use Rattle.phase_message.specs.Offence.{content_read}
use Rattle.phase_message.specs.Shape.{Shape}
use Rattle.stage_log.specs.Table.{Log}
use Rattle.bulk_descriptor.specs.Descriptor.{Description}
use Rattle.round_spec.specs.Embedded.{slot_named}
use Rattle.member_spec.specs.declared.conduct.Speech.{Speech}
use Rattle.member_spec.specs.declared.conduct.Speech.TheVariants.{Say, Wait, Silent}

-- the answers of a conduct as it stands: to a descriptor; to a stage, the bytes of a content and the log that the member
-- keeps; and to these once it has been asked about a descriptor
pub record Replies : Type 0 where
  pub descriptor : Description → Description
  pub speech : ℕ → List ℕ → Log → Speech
  pub speech_after : Description → ℕ → List ℕ → Log → Speech

-- a plain conduct changes nothing: it leaves the descriptor as it is, and says the bytes that it is given, before it has
-- been asked about the descriptor and after
pub record IsPlain (replies : Replies) : Type 0 where
  pub descriptor : (own : Description) → replies.descriptor own ≡ own
  pub speech : (stage : ℕ) (bytes : List ℕ) (log : Log) → replies.speech stage bytes log ≡ Say bytes
  pub speech_after : (own : Description) (stage : ℕ) (bytes : List ℕ) (log : Log) →
      replies.speech_after own stage bytes log ≡ Say bytes

-- the answers of a plain conduct
abbrev pub plain_replies : Replies
plain_replies = record {
  descriptor = λ own. own;
  speech = λ stage bytes log. Say bytes;
  speech_after = λ own stage bytes log. Say bytes;
}

-- ---- what is asked of a conduct

-- bytes have a header, which names a slot
abbrev pub HasSlot : Slot → List ℕ → Type 0
HasSlot slot bytes = (header : Header) × (header_of bytes ≡ Ok header) × (slot_named header ≡ slot)

-- bytes name a slot as far as they are a content of the grammar
abbrev pub KeepsSlot : Shape → Slot → List ℕ → Type 0
KeepsSlot shape slot bytes = (content : Content) → content_read shape bytes ≡ Ok content → slot_named content.header ≡ slot

-- an answer about a slot: what is said is of the slot, if it is a content of the grammar, and what is put off names it
abbrev pub IsForSlot : Shape → Slot → Speech → Type 0
IsForSlot shape slot (Say bytes) = KeepsSlot shape slot bytes
IsForSlot shape slot (Wait bytes) = HasSlot slot bytes
IsForSlot shape slot Silent = Unit {0}

-- the bytes of an answer are at most so many
abbrev pub HasAtMost : ℕ → Speech → Type 0
HasAtMost most (Say bytes) = length bytes ≤ most
HasAtMost most (Wait bytes) = length bytes ≤ most
HasAtMost most Silent = Unit {0}
