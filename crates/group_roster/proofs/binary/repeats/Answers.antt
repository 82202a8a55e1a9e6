use Rattle.std.proofs.Common.{◌≡◌, ◌∙◌, false, true, ap, sym, arith, below_more}
use Rattle.std.specs.Prelude.{bytes_eq}
use Rattle.wire_core.proofs.ListLemmas.{pass_none}
use Rattle.group_roster.specs.Binary.{key_at}
use Rattle.group_roster.proofs.Keys.{some_passes}
use Rattle.group_roster.proofs.binary.repeats.Goals as goal

pub returns-then-are_equal : goal.returns-then-are_equal
returns-then-are_equal c =
    let bytes = c.args.bytes.now in
    let same : bytes_eq (key_at bytes c.loop-j.j) (key_at bytes c.args.k) ≡ true = rw (← c.key_at.ensures, ← c.key_at-key.ensures)
    (sym c.are_equal.ensures ∙ c.if-are_equal.true) in
    sym (some_passes (λ j. bytes_eq (key_at bytes j) (key_at bytes c.args.k)) c.args.k c.loop-j.j c.loop-j-test.true same)

pub loop-j-preserved : goal.loop-j-preserved
loop-j-preserved c =
    let bytes = c.args.bytes.now in
    let other : bytes_eq (key_at bytes c.loop-j.j) (key_at bytes c.args.k) ≡ false = rw (← c.key_at.ensures, ← c.key_at-key.ensures)
    (sym c.are_equal.ensures ∙ c.if-are_equal.false) in
    below_more _ c.loop-j.j c.loop-j.invariant other

pub returns : goal.returns
returns c =
    sym (pass_none (λ j. bytes_eq (key_at c.args.bytes.now j) (key_at c.args.bytes.now c.args.k)) 0 c.args.k
    (λ i le lt. c.loop-j.invariant i (omega arith)))
