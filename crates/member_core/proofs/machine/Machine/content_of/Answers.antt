-- The bytes of the content, which is of the grammar.
use Rattle.std.proofs.Common.{◌≡◌, ℕ, List, length, ap, sym, ◌∙◌, subst, rules}
use Rattle.std.proofs.lemmas.Result.{IfOk-weaker}
use Rattle.phase_message.specs.declared.header.Header.{Header}
use Rattle.phase_message.specs.Grammar.{IsHeader, OfGrammar, content_text}
use Rattle.phase_message.specs.Stages.{shape_of}
use Rattle.round_spec.proofs.OwnLengths.{content-long}
use Rattle.member_spec.specs.Replies.{HasSlot}
use Rattle.member_core.specs.Asking.{content_here}
use Rattle.member_core.specs.Sound.{slot_here}
use Rattle.member_core.proofs.Dispatch.{content-form}
use Rattle.member_core.proofs.Saying.{text-slot}
use Rattle.member_core.proofs.machine.Machine.content_of.Goals as goal
use Rattle.member_core.proofs.machine.Machine.content_of.Goals.{Joined-this}

header-form : (c : Joined-this) → IsHeader (shape_of c.args.self.now.seat.shape) c.header_here-header.result
header-form c = search rules

grammar : (c : Joined-this) → OfGrammar c.args.self.now.log.shape (content_here c.args.self.now c.args.body)
grammar c =
    content-form c.args.self.now c.header_here-header.result c.args.body c.requires.formed c.header_here-header.ensures (header-form c)
    c.requires.fits

spelled-here : (c : Joined-this) (bytes : List ℕ) → bytes ≡ content_text
    (record { header = c.header_here-header.result; body = c.args.body })
    → bytes ≡ content_text (content_here c.args.self.now c.args.body)
spelled-here c bytes spelled = spelled ∙ ap (λ (header : Header). content_text (record { header = header; body = c.args.body }))
    c.header_here-header.ensures

pub returns-clause-spelled : goal.returns-clause-spelled
returns-clause-spelled c = IfOk-weaker c.encode.result _ _ (λ bytes spelled. spelled-here c bytes.items spelled) c.encode.ensures

pub returns-clause-slot : goal.returns-clause-slot
returns-clause-slot c = IfOk-weaker c.encode.result _ _ (λ bytes spelled.
    subst (HasSlot (slot_here c.args.self.now)) (sym (spelled-here c bytes.items spelled))
    (text-slot c.args.self.now.log.shape (content_here c.args.self.now c.args.body) (grammar c))) c.encode.ensures

pub returns-clause-long : goal.returns-clause-long
returns-clause-long c = IfOk-weaker c.encode.result _ _ (λ bytes spelled.
    ap (λ (b : List ℕ). length b) (spelled-here c bytes.items spelled)
    ∙ content-long c.args.self.now.log.shape (content_here c.args.self.now c.args.body) (grammar c)) c.encode.ensures
