use Rattle.std.proofs.Common.{◌<◌, ◌-◌, [], length, ap, arith, List}
use Rattle.std.proofs.lemmas.List.{get_or_read}
use Rattle.bulk_descriptor.specs.declared.slot_state.SlotState.{SlotState}
use Rattle.accusation.proofs.ItemLemmas.{found_in, item_found, item_none, named}
use Rattle.accusation.proofs.item.own_item.Goals as goal

pub returns-in-Some : goal.returns-in-Some
returns-in-Some c =
    let own = c.args.own.now in
    let opened = c.args.opened.now.items in
    let states = c.args.states.now.items in
    let seeds = c.args.seeds.now.items in
    let k = c.loop-place.place in
    let below : k < length states = omega (
      arith,
      c.loop-place-test.true,
      ap (λ (l : List SlotState). length l)
          c.deref-state-items.ensures.value,
    ) in
    let below' : k < length opened = omega (arith, below, c.requires.as_many, c.args.opened.now.ok.0, c.args.states.now.ok.0) in
    let told = found_in own opened states c.deref-state-items.result.now k c.index.result.now c.state-item.result c.first_in.result
    c.deref-state-items.ensures.value below' below c.index.ensures c.state-item.is c.first_in.ensures in
    let member = named own opened states c.args.seeds.now.len k c.in-Some.first c.first_in.result below c.requires.members told c.in-Some.is
    in
    let within : c.in-Some.first - 1 < length seeds = omega (arith, member.0, member.1, c.args.seeds.now.ok.0) in
    item_found own opened states seeds k c.in-Some.first c.index-in-Some.result.now c.encode.result c.first_in.result below
    c.loop-place.invariant told c.in-Some.is
    (get_or_read seeds (c.in-Some.first - 1) c.index-in-Some.result.now within c.index-in-Some.ensures []) c.encode.ensures

pub returns : goal.returns
returns c =
    let states = c.args.states.now.items in
    item_none c.args.own.now c.args.opened.now.items states c.args.seeds.now.items c.loop-place.place
    (omega (arith, c.loop-place-test.false, ap (λ (l : List SlotState). length l) c.deref-state-items.ensures.value)) c.loop-place.invariant
