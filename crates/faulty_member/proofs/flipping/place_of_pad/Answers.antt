use Rattle.std.proofs.Common.{Bool, [], length, ap, sym, ◌∙◌, arith}
use Rattle.std.specs.Bool.{then_some}
use Rattle.std.proofs.lemmas.List.{get_or_read}
use Rattle.phase_message.specs.Stages.{shape_of}
use Rattle.wire_core.proofs.AnswerLemmas.{first_below-none, first_below-some}
use Rattle.group_spec.specs.Alterations.{place_of_pad}
use Rattle.faulty_member.proofs.Pads.{flipped-at, none-more, tested}
use Rattle.faulty_member.proofs.flipping.place_of_pad.Goals as goal

pub returns-then-is_flipped : goal.returns-then-is_flipped
unfolding place_of_pad
returns-then-is_flipped c =
    let shape = shape_of c.args.shape in
    let items = c.args.items.now.items in
    let pads = c.args.pads.now.items in
    let place = c.loop-place.place in
    let lt = c.loop-place-test.true in
    let here = tested shape c.args.own.now items pads place c.in_ok-holds.holds c.is_flipped.result c.index.result.now c.in_ok-holds.ensures
    (sym (get_or_read pads place c.index.result.now (omega (arith, lt)) c.index.ensures [])) c.is_flipped.ensures in
    sym (first_below-some (flipped-at shape c.args.own.now items pads) (length pads) place place (omega (arith, lt)) c.loop-place.invariant
    (here ∙ ap (λ (b : Bool). then_some b place) c.if-is_flipped.true))

pub loop-place-preserved : goal.loop-place-preserved
loop-place-preserved c =
    let shape = shape_of c.args.shape in
    let items = c.args.items.now.items in
    let pads = c.args.pads.now.items in
    let place = c.loop-place.place in
    let here = tested shape c.args.own.now items pads place c.in_ok-holds.holds c.is_flipped.result c.index.result.now c.in_ok-holds.ensures
    (sym (get_or_read pads place c.index.result.now (omega (arith, c.loop-place-test.true)) c.index.ensures [])) c.is_flipped.ensures in
    none-more (flipped-at shape c.args.own.now items pads) place c.loop-place.invariant
    (here ∙ ap (λ (b : Bool). then_some b place) c.if-is_flipped.false)

pub returns : goal.returns
unfolding place_of_pad
returns c =
    let pads = c.args.pads.now.items in
    sym (first_below-none (flipped-at (shape_of c.args.shape) c.args.own.now c.args.items.now.items pads) (length pads)
    (λ k lt. c.loop-place.invariant k (omega (arith, lt, c.loop-place-test.false))))
