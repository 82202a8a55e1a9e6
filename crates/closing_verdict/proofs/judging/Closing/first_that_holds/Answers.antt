use Rattle.std.proofs.Common.{length, refl, sym, ◌∙◌}
use Rattle.std.proofs.lemmas.Option.{slice_get_read}
use Rattle.closing_verdict.specs.Judgement.{completed_of, stage_closed}
use Rattle.closing_verdict.proofs.Accusings.{first-at}
use Rattle.closing_verdict.proofs.judging.Closing.first_that_holds.Goals as goal

pub returns-in-Some : goal.returns-in-Some
returns-in-Some c =
    first-at (stage_closed (completed_of c.args.self)) c.args.items.now c.loop-item.item-index c.item-item.result c.in-Some.accusation
    c.loop-item.invariant
    (slice_get_read c.args.items.now (length c.args.items.now) c.loop-item.item-index c.item-item.result refl c.loop-item-test.true
    c.item-item.is)
    (sym c.accusation_in.ensures ∙ c.in-Some.is)
