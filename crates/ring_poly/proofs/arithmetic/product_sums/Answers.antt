use Rattle.std.proofs.Common.{◌≡◌, ◌<◌, ◌≤◌, ◌^◌, get_or, map, arith, pos, sym, ap, ◌∙◌, ◌+ℤ◌, to_z, of_z, w32, unsigned_abs}
use Rattle.std.proofs.Math.IntN.{◌*ℤ◌}
use Rattle.ring_poly.specs.Product.{turned}
use Rattle.ring_poly.proofs.Rows.{row_sum-none, row_sum-more, row_sum-all, row_sum-size}
use Rattle.std.proofs.lemmas.List.Elements.{All-from_get_or}
use Rattle.std.proofs.lemmas.List.{get_or-replicate, length-replicate, length-map}
use Rattle.ring_poly.proofs.Words.{read_back, read_back_byte}
use Rattle.ring_poly.proofs.arithmetic.product_sums.Goals as goal

pub loop-row-init : goal.loop-row-init
loop-row-init c = record {
  long = length-replicate 1024 (pos 0);
  added = λ k h. get_or-replicate 1024 k (pos 0) (pos 0) h ∙ sym (row_sum-none (map pos c.args.a.now) c.args.b.now k);
}

pub add_row-requires-clause-sums : goal.add_row-requires-clause-sums
add_row-requires-clause-sums c = All-from_get_or (λ s. unsigned_abs s ≤ 2 ^ 30) c.loop-row.sums (pos 0) (λ k h.
    let e = c.loop-row.invariant.added k (omega (arith, c.loop-row.invariant.long)) in
    rw e (row_sum-size c.args.a.now c.args.b.now c.requires.polynomial c.requires.ternary c.loop-row.row k (omega arith)))

pub loop-row-preserved : goal.loop-row-preserved
loop-row-preserved c =
    let row = c.loop-row.row in
    let z = get_or c.args.b.now row (pos 0) in
    let small : unsigned_abs z ≤ 1 = c.requires.ternary.trits row (pos 0) (omega arith) in
    let read : c.from.result ≡ z = c.from.ensures ∙ read_back_byte z (omega arith) in
    let factor : to_z w32 (of_z w32 c.from.result) ≡ z = ap (λ y. to_z w32 (of_z w32 y)) read ∙ read_back z (omega arith) in
    record {
      long = c.add_row.array_long;
      added = λ k h.
          let e = rw factor at (c.add_row.ensures k (omega (arith, c.add_row.array_long))) in
          let before = c.loop-row.invariant.added k h in
          e ∙ ap (λ y. y +ℤ (turned (map pos c.args.a.now) row k *ℤ z)) before
          ∙ sym (row_sum-more (map pos c.args.a.now) c.args.b.now row k);
    }

pub returns : goal.returns
returns c = λ k h.
    let inside : k < 1024 = omega (arith, c.loop-row.invariant.long) in
    let all : c.loop-row.row ≡ 1024 = omega arith in
    let e = rw all at (c.loop-row.invariant.added k inside) in
    e ∙ sym (row_sum-all (map pos c.args.a.now) c.args.b.now k (omega (arith, length-map c.args.a.now pos)) (omega arith) inside)
