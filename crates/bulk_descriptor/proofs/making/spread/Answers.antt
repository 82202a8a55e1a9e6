use Rattle.std.proofs.Common.{◌≡◌, ◌+◌, length, drop, ap, ◌∙◌, arith, List, ℕ}
use Rattle.std.proofs.lemmas.List.{take_at}
use Rattle.bulk_descriptor.specs.Descriptor.{own_pad}
use Rattle.bulk_descriptor.proofs.CodeLemmas.{own_pad_is, length_other_hashes, hashes_are}
use Rattle.bulk_descriptor.proofs.making.spread.Goals as goal

pub insert-requires : goal.insert-requires
insert-requires c =
    let made = c.hide_but.new.hashes in
    omega (
      arith,
      made.ok.0,
      length_other_hashes c.args.seeds.now c.in_ok-hashes.hashes.items made.items c.args.place
          (length c.deref_mut.result.now) c.requires.place c.in_ok-hashes.ensures.items c.in_ok-hide_but.ensures.hashes,
    )

pub returns-clause-pad : goal.returns-clause-pad
returns-clause-pad c =
    let new = c.hide_but.new.bytes in
    let size : length new ≡ c.in_ok-own_pad.own_pad.len = c.hide_but.auto.bytes ∙ c.deref_mut.ensures.len in
    take_at new (drop (length new) c.in_ok-own_pad.own_pad.items) c.in_ok-own_pad.own_pad.len size
    ∙ own_pad_is c.args.seeds.now c.args.place c.args.message.now c.deref_mut.result.now new
    (c.deref_mut.ensures.value ∙ c.in_ok-own_pad.ensures.items) c.in_ok-hide_but.ensures.bytes

pub returns-clause-hashes : goal.returns-clause-hashes
returns-clause-hashes c =
    let new = c.hide_but.new.bytes in
    let held = c.deref_mut.result.now in
    let is-held : held ≡ c.args.message.now = c.deref_mut.ensures.value ∙ c.in_ok-own_pad.ensures.items in
    let size : length new ≡ c.in_ok-own_pad.own_pad.len = c.hide_but.auto.bytes ∙ c.deref_mut.ensures.len in
    let own : c.deref.result.now ≡ own_pad c.args.seeds.now (c.args.place + 1) c.args.message.now =
    c.deref.ensures.value ∙ take_at new (drop (length new) c.in_ok-own_pad.own_pad.items) c.in_ok-own_pad.own_pad.len size
    ∙ own_pad_is c.args.seeds.now c.args.place c.args.message.now held new is-held c.in_ok-hide_but.ensures.bytes in
    hashes_are c.args.seeds.now c.in_ok-hashes.hashes.items c.hide_but.new.hashes.items c.insert.new.self.items c.args.place (length held)
    c.args.message.now c.deref.result.now c.hash_of_pad.result
    (ap (λ (x : List ℕ). length x) is-held) c.in_ok-hashes.ensures.items c.in_ok-hide_but.ensures.hashes own c.hash_of_pad.ensures
    c.in_ok-insert.ensures.items
