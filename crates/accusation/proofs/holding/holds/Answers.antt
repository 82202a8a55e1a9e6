use Rattle.std.proofs.Common.{◌≡◌, ◌-◌, ◌<◌, ◌≤◌, [], length, map, get_or, ap, ◌∙◌, arith}
use Rattle.std.specs.Option.{option_map}
use Rattle.std.proofs.lemmas.Bool.{both_ways}
use Rattle.std.proofs.lemmas.List.{length-map, get_or_read}
use Rattle.std.proofs.lemmas.List.Elements.{All-get_or}
use Rattle.bulk_descriptor.specs.Fields.{description_of}
use Rattle.accusation.proofs.TestLemmas.{no_descriptor_at, entry_at, refused_without, refused_member, answered_by_seed, sent_read, members_of}
use Rattle.accusation.proofs.holding.holds.Goals as goal

pub returns-then-not-is_within : goal.returns-then-not-is_within
returns-then-not-is_within c =
    let items = c.args.descriptors.now.items in
    let descriptors = map (option_map description_of) items in
    let long : length descriptors ≡ length items = length-map items (option_map description_of) in
    refused_without c.args.accusation.now descriptors c.args.pads.now.members c.args.keys.now.items
    (no_descriptor_at descriptors c.args.accusation.now.slot
    (λ w. both_ways c.is_within.result c.if-not-is_within.true
    (c.is_within.ensures.1 (w.0, omega (arith, w.1, long, c.len.ensures, c.requires.keys, c.args.descriptors.now.ok.0)))))

pub returns-in_default : goal.returns-in_default
returns-in_default c =
    let items = c.args.descriptors.now.items in
    let within = c.is_within.ensures.0 c.if-not-is_within.false in
    let at = entry_at items c.args.accusation.now.slot c.index.result.now within.0
    (omega (arith, within.1, c.len.ensures, c.requires.keys, c.args.descriptors.now.ok.0)) c.index.ensures in
    refused_without c.args.accusation.now (map (option_map description_of) items) c.args.pads.now.members c.args.keys.now.items
    (at ∙ ap (option_map description_of) c.in_default.is)

pub returns-then-not-is_within-2 : goal.returns-then-not-is_within-2
returns-then-not-is_within-2 c =
    let items = c.args.descriptors.now.items in
    let within = c.is_within.ensures.0 c.if-not-is_within.false in
    let at = entry_at items c.args.accusation.now.slot c.index.result.now within.0
    (omega (arith, within.1, c.len.ensures, c.requires.keys, c.args.descriptors.now.ok.0)) c.index.ensures in
    refused_member c.args.accusation.now (map (option_map description_of) items) c.args.pads.now.members c.args.keys.now.items
    (description_of c.in-Some.descriptor) (at ∙ ap (option_map description_of) c.in-Some.is)
    (λ w. both_ways c.is_within-2.result c.if-not-is_within-2.true
    (c.is_within-2.ensures.1 (w.0, omega (arith, w.1, c.len-2.ensures, c.args.keys.now.ok.0))))

pub check_seed-requires-clause-last : goal.check_seed-requires-clause-last
check_seed-requires-clause-last c =
    let items = c.args.descriptors.now.items in
    let descriptors = map (option_map description_of) items in
    let long : length descriptors ≡ length items = length-map items (option_map description_of) in
    let within = c.is_within.ensures.0 c.if-not-is_within.false in
    let within' = c.is_within-2.ensures.0 c.if-not-is_within-2.false in
    let at = entry_at items c.args.accusation.now.slot c.index.result.now within.0
    (omega (arith, within.1, c.len.ensures, c.requires.keys, c.args.descriptors.now.ok.0)) c.index.ensures in
    let members = members_of descriptors c.args.pads.now.members c.args.accusation.now.slot (description_of c.in-Some.descriptor)
    c.requires.slots within.0
    (omega (arith, within.1, long, c.len.ensures, c.requires.keys, c.args.descriptors.now.ok.0))
    (at ∙ ap (option_map description_of) c.in-Some.is) in
    omega (arith, members, long, within'.1, c.len-2.ensures, c.requires.keys, c.args.descriptors.now.ok.0)

pub returns : goal.returns
returns c =
    let items = c.args.descriptors.now.items in
    let descriptors = map (option_map description_of) items in
    let table = c.args.pads.now.members in
    let keys = c.args.keys.now.items in
    let a = c.args.accusation.now in
    let long : length descriptors ≡ length items = length-map items (option_map description_of) in
    let within = c.is_within.ensures.0 c.if-not-is_within.false in
    let within' = c.is_within-2.ensures.0 c.if-not-is_within-2.false in
    let at = entry_at items a.slot c.index.result.now within.0 (omega
    (arith, within.1, c.len.ensures, c.requires.keys, c.args.descriptors.now.ok.0)) c.index.ensures in
    let last : a.member ≤ length keys = omega (arith, within'.1, c.len-2.ensures, c.args.keys.now.ok.0) in
    let row : a.member - 1 < length table = omega (
      arith,
      within'.0,
      within'.1,
      c.len-2.ensures,
      c.requires.keys,
      c.args.descriptors.now.ok.0,
      c.requires.slots.members,
      long,
    ) in
    let wide : length (get_or table (a.member - 1) []) ≡ length descriptors = All-get_or (λ row. length row ≡ length descriptors) table
    (a.member - 1) [] row c.requires.slots.pads in
    let room : a.slot - 1 < length (get_or table (a.member - 1) []) = omega
    (arith, wide, long, within.0, within.1, c.len.ensures, c.requires.keys, c.args.descriptors.now.ok.0) in
    answered_by_seed a descriptors table keys (description_of c.in-Some.descriptor) c.index-4.result.now c.deref.result.now
    c.check_seed.result (at ∙ ap (option_map description_of) c.in-Some.is) within'.0 last
    (get_or_read keys (a.member - 1) c.index-4.result.now (omega (arith, within'.0, last)) c.index-4.ensures [])
    (sent_read table c.items.result.now.items a.member a.slot c.index-2.result.now c.items-2.result.now.items c.index-3.result.now
    c.deref.result.now row c.items.ensures c.index-2.ensures c.items-2.ensures
    room c.index-3.ensures (c.deref.ensures.value ∙ c.items-sent.ensures))
    c.check_seed.ensures
