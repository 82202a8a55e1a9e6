use Rattle.std.proofs.Common.{◌≡◌, List, ℕ, length, ap, sym, ◌∙◌, subst, arith}
use Rattle.phase_message.specs.declared.content.Body.{Body}
use Rattle.phase_message.specs.Grammar.{IsBody, content_text}
use Rattle.phase_message.specs.Stages.{shape_of}
use Rattle.member_spec.specs.declared.conduct.Speech.TheVariants.{Say}
use Rattle.group_spec.specs.Alterations.{body_altered, pads_altered}
use Rattle.group_spec.specs.Faulty.{speech_in_place}
use Rattle.faulty_member.specs.Given.{faulty_of}
use Rattle.faulty_member.proofs.Forms.{altered-is_body}
use Rattle.faulty_member.proofs.Lengths.{altered-long}
use Rattle.faulty_member.proofs.Saying.{flipped-is_body, flipped-long, in-default, in-place, in-place-long, keys-least, keys-said, said-short, submits, told-as, view-long}
use Rattle.faulty_member.proofs.faulty.Faulty.speech_in_place.Goals as goal

pub with_key_out_of_range-requires : goal.with_key_out_of_range-requires
with_key_out_of_range-requires c =
    keys-least c.args.log.now.shape c.args.self.now.fault c.args.bytes.items c.args.content c.in-Malformed.is c.requires.altered
    c.requires.grammar c.requires.spelled

pub copy-requires-clause-submits : goal.copy-requires-clause-submits
copy-requires-clause-submits c =
    submits c.args.log.now.shape c.args.self.now.fault c.args.content c.in-CopySubmit.is c.requires.altered c.requires.grammar

pub said-requires : goal.said-requires
said-requires c =
    let log = c.args.log.now in
    let content = c.args.content in
    let fits = flipped-is_body log c.deref.result.now c.args.self.now.fault content.header.stage content.body c.in-FlipPad.is
    c.requires.altered c.requires.grammar.1 in
    in-place (shape_of c.shape-shape.result) log.shape content c.in_ok-body-in-FlipPad.body c.shape-shape.ensures.shape c.requires.grammar
    (subst (λ (b : Body). IsBody log.shape content.header.stage b) (sym c.in_ok-body-in-FlipPad.ensures) fits)

pub said-requires-in_default : goal.said-requires-in_default
said-requires-in_default c =
    let log = c.args.log.now in
    let content = c.args.content in
    let fits = altered-is_body c.args.self.now.fault log.shape content.header.stage content.body c.in_default.not-Malformed
    c.requires.altered c.requires.grammar.1 in
    in-place (shape_of c.shape-shape.result) log.shape content c.in_ok-body-in_default.body c.shape-shape.ensures.shape c.requires.grammar
    (subst (λ (b : Body). IsBody log.shape content.header.stage b) (sym c.in_ok-body-in_default.ensures) fits)

pub returns-in-Malformed-clause-told : goal.returns-in-Malformed-clause-told
returns-in-Malformed-clause-told c =
    keys-said (faulty_of c.args.self.now) c.args.self.now.fault c.args.bytes.items c.of.result c.args.log.now c.args.content
    c.in-Malformed.is c.requires.altered
    c.requires.grammar c.requires.spelled c.requires.bytes (c.of.ensures ∙ c.with_key_out_of_range.ensures)

pub returns-in-FalseView-clause-short : goal.returns-in-FalseView-clause-short
returns-in-FalseView-clause-short c =
    let content = c.args.content in
    let long = view-long c.args.log.now.shape content c.requires.grammar in
    let same : length c.args.bytes.items ≡ length (content_text content) = ap (λ (b : List ℕ). length b) c.requires.spelled in
    said-short c.false_view.result c.args.bytes.items _ c.false_view.ensures (omega (arith, long, same))

pub returns-in_ok-body-in-FlipPad-clause-short : goal.returns-in_ok-body-in-FlipPad-clause-short
returns-in_ok-body-in-FlipPad-clause-short c =
    let log = c.args.log.now in
    let content = c.args.content in
    let own = c.deref.result.now in
    said-short c.said.result c.args.bytes.items _ c.said.ensures (in-place-long c.args.bytes.items content c.in_ok-body-in-FlipPad.body
    (pads_altered log own content.body) c.requires.spelled c.in_ok-body-in-FlipPad.ensures (flipped-long log own content.body))

pub returns-in_ok-body-in_default : goal.returns-in_ok-body-in_default
returns-in_ok-body-in_default c =
    let log = c.args.log.now in
    let content = c.args.content in
    let fault = c.args.self.now.fault in
    let body = c.in_ok-body-in_default.body in
    let chosen = in-default (faulty_of c.args.self.now) fault c.args.bytes.items log content c.in_default.not-CopySubmit
    c.in_default.not-FalseView c.in_default.not-FlipPad in
    let shorter = altered-long fault log.shape content.header.stage content.body c.in_default.not-Malformed c.requires.altered
    c.requires.grammar.1 in
    record {
      told = told-as c.said-in_default.result _ (speech_in_place (faulty_of c.args.self.now) fault c.args.bytes.items log content)
          c.said-in_default.ensures
          (ap (λ (b : Body). Say (content_text (record { header = content.header; body = b }))) c.in_ok-body-in_default.ensures
          ∙ sym chosen);
      short = said-short c.said-in_default.result c.args.bytes.items _ c.said-in_default.ensures
          (in-place-long c.args.bytes.items content body (body_altered fault content.body) c.requires.spelled
          c.in_ok-body-in_default.ensures shorter);
    }
