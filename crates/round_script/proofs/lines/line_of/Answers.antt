use Rattle.std.proofs.Common.{sym, arith}
use Rattle.round_script.proofs.LineLemmas.{line_of_found, line_of_none}
use Rattle.round_script.proofs.lines.line_of.Goals as goal

pub returns-then-text-i-eq10 : goal.returns-then-text-i-eq10
returns-then-text-i-eq10 c = sym (line_of_found c.args.text.now c.loop-i.i (omega arith) c.if-text-i-eq10.true c.loop-i.invariant)

pub returns : goal.returns
returns c = sym (line_of_none c.args.text.now (λ k below. c.loop-i.invariant k (omega arith)))
