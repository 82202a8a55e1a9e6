-- What is read stands in the slot of its header, and a log goes on to hold only what stands.
use Rattle.std.proofs.Common.{◌≡◌, ℕ, true, List, Option, Some, None, inl, inr, refl, ap, sym, subst}
use Rattle.std.specs.Prelude.{Ok}
use Rattle.wire_core.specs.Bytes.{IsBytes}
use Rattle.phase_message.specs.declared.content.Content.{Content}
use Rattle.phase_message.specs.declared.post.Post.{Post}
use Rattle.phase_message.specs.declared.stage.Slot.{Slot}
use Rattle.phase_message.specs.Grammar.{OfGrammar, content_text}
use Rattle.phase_message.specs.Offence.{content_read}
use Rattle.phase_message.specs.Shape.{Shape}
use Rattle.phase_message.specs.Stages.{is_slot}
use Rattle.phase_message.proofs.Whole.{content-is_spelled}
use Rattle.stage_log.specs.Put.{filled_if, put_log}
use Rattle.stage_log.specs.Table.{Log, empty_log, filled, kept_in}
use Rattle.stage_log.proofs.KeptPosts.{empty-keeps, kept-filled}
use Rattle.go_nogo.specs.Stands.{StandAll, StandAt, StandsIn, slot_of}

-- ---- what stands

pub stand-empty : (shape : Shape) (stage : ℕ) → StandAt (empty_log shape) stage
stand-empty shape stage = λ sender post e. absurd (empty-keeps shape (record { stage = stage; sender = sender }) post e)

pub stand-put : (log : Log) (slot : Slot) (post : Post) (stage : ℕ) → is_slot log.shape slot.stage slot.sender ≡ true → StandAt log stage
    → (slot.stage ≡ stage → StandsIn log.shape slot post.content) → StandAt (put_log log slot post) stage
stand-put log slot post stage speaks stand said = by_kept (kept_in log slot) refl
  where
    one-more : StandAt (filled log slot post) stage
    one-more sender kept e =
        let here : Slot = record { stage = stage; sender = sender } in
        elim (kept-filled log slot here post kept speaks e) [
          | inl old ↦ stand sender kept old
          | inr new ↦
              let stands = said (sym (ap (λ (s : Slot). s.stage) new.0)) in
              subst (λ (s : Slot). StandsIn log.shape s kept.content) (sym new.0)
              (subst (λ (p : Post). StandsIn log.shape slot p.content) (sym new.1) stands)
        ]

    by_kept : (o : Option Post) → kept_in log slot ≡ o → StandAt (put_log log slot post) stage
    by_kept (Some kept) is = subst (λ (o : Option Post). StandAt (filled_if o log (filled log slot post)) stage) (sym is) stand
    by_kept None is = subst (λ (o : Option Post). StandAt (filled_if o log (filled log slot post)) stage) (sym is) one-more

pub stand-read : (shape : Shape) (bytes : List ℕ) (content : Content) → IsBytes bytes → content_read shape bytes ≡ Ok content
    → StandsIn shape (slot_of content) bytes
stand-read shape bytes content are e =
    let is = content-is_spelled shape bytes content are e in
    record { said = content; spelled = is.0; grammar = is.1; stage_is = refl; sender_is = refl }

-- a content of the grammar, put into the slot of its header
pub stand-all : (log now : Log) (post : Post) (said : Content) → StandAll log → OfGrammar log.shape said → post.content ≡ content_text said
    → now ≡ put_log log (slot_of said) post → StandAll now
stand-all log now post said stand grammar spelled is =
    let stands : StandsIn log.shape (slot_of said) post.content = record
    { said = said; spelled = spelled; grammar = grammar; stage_is = refl; sender_is = refl } in
    subst (λ (l : Log). StandAll l) (sym is) (λ stage. stand-put log (slot_of said) post stage grammar.0.slot_is (stand stage)
    (λ _. stands))
