use Rattle.std.proofs.Common.{List, ℕ, ap, sym, ◌∙◌, refl, subst}
use Rattle.phase_message.specs.declared.stage.Slot.{Slot}
use Rattle.phase_message.specs.Offence.{content_read}
use Rattle.member_spec.specs.declared.conduct.Speech.{Speech}
use Rattle.member_spec.specs.declared.conduct.Speech.TheVariants.{Say}
use Rattle.member_spec.specs.Replies.{HasSlot, IsForSlot, KeepsSlot}
use Rattle.group_spec.specs.Faulty.{faulty_speech, speech_if_read}
use Rattle.faulty_member.specs.Given.{faulty_of}
use Rattle.faulty_member.proofs.Saying.{silent-first, silent-later, speaks-by_reading, told-as, told-slot}
use Rattle.faulty_member.proofs.Slots.{same-slot, speech-slot}
use Rattle.faulty_member.proofs.faulty.FaultyConduct.content.Goals as goal

pub returns-then-stage-eq0-clause-told : goal.returns-then-stage-eq0-clause-told
returns-then-stage-eq0-clause-told c =
    ap (λ (t : List ℕ). Say t) c.of.ensures ∙ sym (silent-first (faulty_of c.args.self.now) c.args.stage c.args.bytes.items c.args.log.now
    c.in-Silent.is c.if-stage-eq0.true)

pub returns-then-stage-eq0-clause-slot : goal.returns-then-stage-eq0-clause-slot
returns-then-stage-eq0-clause-slot c =
    λ slot has. subst (λ (t : List ℕ). KeepsSlot c.args.log.now.shape slot t) (sym c.of.ensures)
    (same-slot c.args.log.now.shape slot c.args.bytes.items has)

pub returns-else-stage-eq0-clause-told : goal.returns-else-stage-eq0-clause-told
returns-else-stage-eq0-clause-told c =
    sym (silent-later (faulty_of c.args.self.now) c.args.stage c.args.bytes.items c.args.log.now c.in-Silent.is c.if-stage-eq0.false)

pub returns-in_default : goal.returns-in_default
returns-in_default c =
    let faulty = faulty_of c.args.self.now in
    let bytes = c.args.bytes.items in
    let log = c.args.log.now in
    let said : Speech = speech_if_read faulty bytes log (content_read log.shape bytes) in
    let wanted : Speech = faulty_speech faulty c.args.stage bytes log in
    let told = told-as c.speech.result said wanted c.speech.ensures.told
    (sym (speaks-by_reading faulty c.args.stage bytes log c.in_default.not-Silent)) in
    record {
      told = told;
      same = refl;
      slot = told-slot c.speech.result wanted (λ (speech : Speech). (slot : Slot) → HasSlot slot bytes → IsForSlot log.shape slot speech)
          told
          (λ slot has. speech-slot faulty c.args.stage bytes log slot c.speech.ensures.bytes has);
      short = c.speech.ensures.short;
    }
