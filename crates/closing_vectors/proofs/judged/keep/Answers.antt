use Rattle.std.proofs.Common.{◌∙◌, sym, subst}
use Rattle.phase_message.specs.Grammar.{OfGrammar}
use Rattle.phase_message.specs.Shape.{Shape}
use Rattle.go_nogo.proofs.Standing.{stand-all}
use Rattle.closing_vectors.proofs.ShortLogs.{short-put}
use Rattle.closing_vectors.proofs.judged.keep.Goals as goal

pub returns-clause-stand : goal.returns-clause-stand
returns-clause-stand c =
    let said = c.in-Ok.content in
    let grammar = subst (λ (s : Shape). OfGrammar s said) c.shape.ensures.shape c.in-Ok.ensures.found.0 in
    stand-all c.args.log.now c.put-put.new.self c.in_ok-post.post said c.requires.stand grammar
    (sym (c.deref.ensures.value ∙ c.items.ensures) ∙ c.in-Ok.ensures.found.1) c.put-put.ensures.log

pub returns-clause-short : goal.returns-clause-short
returns-clause-short c =
    short-put c.args.log.now c.put-put.new.self (record { stage = c.in-Ok.content.header.stage; sender = c.in-Ok.content.header.sender })
    c.in_ok-post.post c.requires.short c.in_ok-post.ensures c.put-put.ensures.log
