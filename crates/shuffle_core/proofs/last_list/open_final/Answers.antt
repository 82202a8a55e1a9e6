use Rattle.std.proofs.Common.{◌≡◌, ◌<◌, ◌^◌, [], length, take, get_or}
use Rattle.std.proofs.lemmas.List.{take_more}
use Rattle.shuffle_core.proofs.Opened.{opened_list-nil, opened_list-push, opened_list_short}
use Rattle.shuffle_core.proofs.last_list.open_final.Goals as goal

pub loop-seed-init : goal.loop-seed-init
loop-seed-init c = rw (c.in_ok-items.ensures, c.deref.ensures.value) (opened_list-nil c.args.list.now.items)

pub open_all-opened-requires : goal.open_all-opened-requires
open_all-opened-requires c =
    rw c.loop-seed.invariant (opened_list_short (take c.loop-seed.seed-index c.args.seeds.now.items) c.args.list.now.items (2 ^ 32)
    c.requires)

pub loop-seed-preserved : goal.loop-seed-preserved
loop-seed-preserved c =
    let seeds = c.args.seeds.now.items in
    let k = c.loop-seed.seed-index in
    let entries = c.args.list.now.items in
    let below : k < length seeds = rw c.deref-seed-items.ensures.value at c.loop-seed-test.true in
    let seed : c.new-key.result ≡ get_or seeds k [] = rw c.deref-seed-items.ensures.value at c.new-key.ensures in
    rw (c.in_ok-items-2.ensures, seed, c.loop-seed.invariant, take_more seeds k [] below)
    (opened_list-push (get_or seeds k []) (take k seeds) entries)
