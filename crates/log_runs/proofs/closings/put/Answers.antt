use Rattle.std.proofs.Common.{sym, ◌∙◌, subst}
use Rattle.phase_message.specs.Grammar.{OfGrammar}
use Rattle.phase_message.specs.Shape.{Shape}
use Rattle.go_nogo.proofs.Standing.{stand-all}
use Rattle.log_runs.proofs.closings.put.Goals as goal

pub returns : goal.returns
returns c =
    let grammar = subst (λ (shape : Shape). OfGrammar shape c.in-Ok.read) c.shape.ensures.shape c.in-Ok.ensures.found.0 in
    let spelled = c.of-content.ensures ∙ sym c.deref.ensures.value ∙ c.in-Ok.ensures.found.1 in
    stand-all c.args.log.now c.put.new.self _ c.in-Ok.read c.requires grammar spelled c.put.ensures.log
