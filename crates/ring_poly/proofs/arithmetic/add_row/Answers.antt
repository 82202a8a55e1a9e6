use Rattle.std.proofs.Common.{◌≡◌, ◌-◌, length, arith, ◌∙◌, to_z, of_z, w32}
use Rattle.ring_poly.proofs.Words.{read_back, read_turned}
use Rattle.ring_poly.proofs.Rows.{row_at, high_long, low_long, whole_long}
use Rattle.ring_poly.proofs.arithmetic.add_row.Goals as goal

pub returns : goal.returns
returns c = λ i h.
    let f = c.args.factor in
    let small = c.requires.factor in
    let factor : to_z w32 (of_z w32 f) ≡ f = read_back f (omega arith) in
    let turned = read_turned f c.past_the_top.result small c.past_the_top.ensures.value in
    let high = rw factor at c.add_multiple.ensures in
    let low = rw turned at c.add_multiple-2.ensures in
    let xs = c.args.sums.now in
    let ys = c.add_multiple.new.sums in
    let zs = c.add_multiple-2.new.sums in
    let a = c.args.a.now in
    let r = c.args.row in
    let ly : length ys ≡ 1024 - r = c.add_multiple.auto.sums ∙ high_long xs ys zs a r f c.requires.row c.told-sums in
    let lz : length zs ≡ r = c.add_multiple-2.auto.sums ∙ low_long xs ys zs a r f c.requires.row c.told-sums in
    let long = whole_long xs ys zs a r f c.requires.row c.told-sums ly lz in
    row_at xs ys zs a r f c.requires.row c.told-sums ly lz high low i (omega arith)
