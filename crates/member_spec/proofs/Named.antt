-- Which slot bytes name.
use Rattle.std.proofs.Common.{◌≡◌, ℕ, List, Result, Ok, ap, sym, ◌∙◌}
use Rattle.wire_core.specs.declared.cursor.Short.{Short}
use Rattle.phase_message.specs.declared.header.Header.{Header}
use Rattle.phase_message.specs.declared.stage.Slot.{Slot}
use Rattle.phase_message.specs.Header.{header_of}
use Rattle.phase_message.specs.Shape.{Shape}
use Rattle.phase_message.proofs.Whole.{content-header}
use Rattle.round_spec.specs.Embedded.{slot_named}
use Rattle.member_spec.specs.Replies.{HasSlot, KeepsSlot}

same-header : (a b : Header) (r : Result Header Short) → r ≡ Ok a → r ≡ Ok b → a ≡ b
same-header a b r e e' = let both = sym e ∙ e' in cc

-- a content is of the slot that its bytes name
pub names_slot : (shape : Shape) (slot : Slot) (bytes : List ℕ) → HasSlot slot bytes → KeepsSlot shape slot bytes
names_slot shape slot bytes has content reads =
    ap slot_named (same-header content.header has.0 (header_of bytes) (content-header shape bytes content reads) has.1) ∙ has.2
