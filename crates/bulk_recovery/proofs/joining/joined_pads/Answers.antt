use Rattle.std.proofs.Common.{◌≡◌, length, drop, ap, ◌∙◌, List, ℕ}
use Rattle.std.proofs.lemmas.List.{take_at}
use Rattle.bulk_descriptor.specs.Descriptor.{hidden_under}
use Rattle.bulk_descriptor.specs.SlotState.{pads_for}
use Rattle.bulk_recovery.proofs.RecoveryLemmas.{pad_of_row, size_of_row, sizes_of_tail, joined_from}
use Rattle.bulk_recovery.proofs.joining.joined_pads.Goals as goal

pub join_rows-requires-clause-sizes : goal.join_rows-requires-clause-sizes
join_rows-requires-clause-sizes c =
    let table = c.args.pads.now.members in
    let slot = c.args.slot in
    let rest : c.split_at.result.1.now ≡ drop 1 table = c.split_at.ensures.back
    ∙ ap (λ (l : List (List (List ℕ))). drop 1 l) (c.deref-2.ensures.value ∙ c.items-rows.ensures) in
    let pad = pad_of_row table c.items-rows.result.now.items slot 0 c.index.result.now c.items.result.now.items c.index-2.result.now
    c.deref.result.now c.requires.members c.items-rows.ensures c.index.ensures c.items.ensures
    c.requires.pads c.index-2.ensures (c.deref.ensures.value ∙ c.items-2.ensures) in
    let first : c.deref_mut.result.now ≡ c.deref.result.now = c.deref_mut.ensures.value ∙ c.in_ok-joined.ensures.items in
    let long : length c.deref_mut.result.now ≡ c.args.count = ap (λ (x : List ℕ). length x) first
    ∙ size_of_row c.args.count table slot 0 c.deref.result.now c.requires.members c.requires.sizes pad in
    rw (long, rest) (sizes_of_tail c.args.count table slot c.requires.sizes)

pub returns : goal.returns
returns c =
    let table = c.args.pads.now.members in
    let slot = c.args.slot in
    let rest : c.split_at.result.1.now ≡ drop 1 table = c.split_at.ensures.back
    ∙ ap (λ (l : List (List (List ℕ))). drop 1 l) (c.deref-2.ensures.value ∙ c.items-rows.ensures) in
    let pad = pad_of_row table c.items-rows.result.now.items slot 0 c.index.result.now c.items.result.now.items c.index-2.result.now
    c.deref.result.now c.requires.members c.items-rows.ensures c.index.ensures c.items.ensures
    c.requires.pads c.index-2.ensures (c.deref.ensures.value ∙ c.items-2.ensures) in
    let held = c.deref_mut.result.now in
    let first : held ≡ c.deref.result.now = c.deref_mut.ensures.value ∙ c.in_ok-joined.ensures.items in
    let new = c.join_rows.new.bytes in
    let size : length new ≡ c.in_ok-joined.joined.len = c.join_rows.auto.bytes ∙ c.deref_mut.ensures.len in
    take_at new (drop (length new) c.in_ok-joined.joined.items) c.in_ok-joined.joined.len size
    ∙ c.join_rows.ensures
    ∙ ap (λ (l : List (List (List ℕ))). hidden_under held (pads_for l slot)) rest
    ∙ joined_from table slot held c.requires.members (first ∙ pad)
