use Rattle.std.proofs.Common.{length, refl, sym, ap, ◌∙◌, List, ℕ}
use Rattle.std.proofs.lemmas.List.{take_all}
use Rattle.bulk_descriptor.specs.Descriptor.{hidden_under}
use Rattle.bulk_descriptor.specs.SlotState.{pads_for}
use Rattle.bulk_recovery.proofs.RecoveryLemmas.{pad_of_row, size_of_row, joined-more}
use Rattle.bulk_recovery.proofs.joining.join_rows.Goals as goal

pub xor_into-requires : goal.xor_into-requires
xor_into-requires c =
    let rows = c.args.rows.now in
    let pad = pad_of_row rows rows c.args.slot c.loop-row.row-index c.row-item.result c.items.result.now.items c.index.result.now
    c.deref.result.now c.loop-row-test.true refl c.row-item.is c.items.ensures
    c.requires.pads c.index.ensures (c.deref.ensures.value ∙ c.items-in-loop-row.ensures) in
    c.loop-row.auto.bytes ∙ sym (size_of_row (length c.args.bytes.now) rows c.args.slot c.loop-row.row-index c.deref.result.now
    c.loop-row-test.true c.requires.sizes pad)

pub loop-row-preserved : goal.loop-row-preserved
loop-row-preserved c =
    let rows = c.args.rows.now in
    let pad = pad_of_row rows rows c.args.slot c.loop-row.row-index c.row-item.result c.items.result.now.items c.index.result.now
    c.deref.result.now c.loop-row-test.true refl c.row-item.is c.items.ensures
    c.requires.pads c.index.ensures (c.deref.ensures.value ∙ c.items-in-loop-row.ensures) in
    c.xor_into.ensures ∙ joined-more c.args.bytes.now c.loop-row.bytes c.deref.result.now rows c.args.slot c.loop-row.row-index
    c.loop-row-test.true c.loop-row.invariant pad

pub returns : goal.returns
returns c =
    c.loop-row.invariant ∙ ap (λ (rows : List (List (List ℕ))). hidden_under c.args.bytes.now (pads_for rows c.args.slot))
    (take_all c.loop-row.row-index c.args.rows.now c.loop-row-test.false)
