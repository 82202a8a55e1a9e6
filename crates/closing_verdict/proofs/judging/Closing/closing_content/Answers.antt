use Rattle.std.proofs.Common.{◌≡◌, Bor, Option, ap, sym, ◌∙◌}
use Rattle.std.specs.Option.{option_copied}
use Rattle.phase_message.specs.Offence.{content_read}
use Rattle.phase_message.specs.declared.post.Post.{Post}
use Rattle.phase_message.specs.Stages.{shape_of}
use Rattle.closing_verdict.specs.Judgement.{Completed, completed_of}
use Rattle.closing_verdict.proofs.ClosingSaid.{closing-is, closing-missing, closing-read, closing-said, said-fault}
use Rattle.closing_verdict.proofs.judging.Closing.closing_content.Goals as goal

pub unreachable-requires : goal.unreachable-requires
unreachable-requires c =
    closing-missing (completed_of c.args.self) c.requires.closing.complete c.args.member c.requires.least c.requires.most
    (sym c.kept.ensures.post ∙ ap (λ (o : Option (Bor Post)). option_copied o) c.in_default.is)

pub unreachable-requires-in-Err-Malformed : goal.unreachable-requires-in-Err-Malformed
unreachable-requires-in-Err-Malformed c =
    let of : Completed = completed_of c.args.self in
    let shape : shape_of c.shape.result ≡ of.log.shape = c.shape.ensures ∙ sym c.requires.closing.complete.shape in
    let read = closing-read of c.requires.closing.complete c.args.member c.requires.least c.requires.most (shape_of c.shape.result)
    c.in-Some.post.now c.deref.result.now
    c.in-Some.ensures.post (c.deref.ensures.value ∙ c.items.ensures) shape in
    said-fault c.in-Err-Malformed.field-0 c.in-Err-Malformed.field-0-0 c.in-Err-Malformed.field-0-1
    (content_read (shape_of c.shape.result) c.deref.result.now)
    (closing-said of c.requires.closing.complete c.args.member c.requires.least c.requires.most).content c.in-Err-Malformed.field-0-is
    c.in-Err-Malformed.ensures.exact read

pub returns-in-Ok-clause-value : goal.returns-in-Ok-clause-value
returns-in-Ok-clause-value c =
    let of : Completed = completed_of c.args.self in
    let shape : shape_of c.shape.result ≡ of.log.shape = c.shape.ensures ∙ sym c.requires.closing.complete.shape in
    (closing-is of c.requires.closing.complete c.args.member c.requires.least c.requires.most (shape_of c.shape.result) c.in-Some.post.now
    c.deref.result.now c.in-Ok.content
    c.in-Some.ensures.post (c.deref.ensures.value ∙ c.items.ensures) shape c.in-Ok.ensures.exact).0

pub returns-in-Ok-clause-stage : goal.returns-in-Ok-clause-stage
returns-in-Ok-clause-stage c =
    let of : Completed = completed_of c.args.self in
    let shape : shape_of c.shape.result ≡ of.log.shape = c.shape.ensures ∙ sym c.requires.closing.complete.shape in
    (closing-is of c.requires.closing.complete c.args.member c.requires.least c.requires.most (shape_of c.shape.result) c.in-Some.post.now
    c.deref.result.now c.in-Ok.content
    c.in-Some.ensures.post (c.deref.ensures.value ∙ c.items.ensures) shape c.in-Ok.ensures.exact).1
