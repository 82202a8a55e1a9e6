use Rattle.std.proofs.Common.{◌≡◌, ◌-◌, arith}
use Rattle.std.proofs.lemmas.Bool.{both_ways}
use Rattle.bulk_descriptor.specs.Descriptor.{pad_hash_for, capsule_for}
use Rattle.bulk_descriptor.specs.Fields.{description_of}
use Rattle.accusation.proofs.TestLemmas.{capsule_refused, hash_refused, pad_refused, seed_taken, item_read}
use Rattle.accusation.proofs.holding.check_seed.Goals as goal
use Rattle.accusation.proofs.holding.check_seed.Goals.{After-is_same, After-is_hash}

-- the capsule that is looked at is the member's
capsule : (c : After-is_same) → c.index.result.now ≡ capsule_for (description_of c.args.descriptor.now) c.args.accusation.now.member
capsule c =
    let d = c.args.descriptor.now in
    item_read d.capsules c.items.result.now.items (c.args.accusation.now.member - 1) c.index.result.now c.items.ensures
    (omega (arith, c.requires.first, c.requires.last, d.form.as_many)) c.index.ensures

-- and so is the hash
given : (c : After-is_hash) → c.index-2.result.now ≡ pad_hash_for (description_of c.args.descriptor.now) c.args.accusation.now.member
given c =
    item_read c.args.descriptor.now.pad_hashes c.items-2.result.now.items (c.args.accusation.now.member - 1) c.index-2.result.now
    c.items-2.ensures (omega (arith, c.requires.first, c.requires.last)) c.index-2.ensures

pub returns-then-not-is_same : goal.returns-then-not-is_same
returns-then-not-is_same c =
    let a = c.args.accusation.now in
    capsule_refused (description_of c.args.descriptor.now) a.member a.seed c.args.key.now c.args.sent.now c.index.result.now
    c.seal_seed.result c.is_same.result
    (capsule (goal.at.returns-then-not-is_same c).After-is_same) c.seal_seed.ensures c.is_same.ensures c.if-not-is_same.true

pub returns-then-not-is_hash : goal.returns-then-not-is_hash
returns-then-not-is_hash c =
    let a = c.args.accusation.now in
    let at = goal.at.returns-then-not-is_hash c in
    hash_refused (description_of c.args.descriptor.now) a.member a.seed c.args.key.now c.args.sent.now c.index.result.now
    c.seal_seed.result c.index-2.result.now c.pad_hash.result c.is_same.result c.is_hash.result
    (capsule at.After-is_same) c.seal_seed.ensures c.is_same.ensures c.if-not-is_same.false
    (given at.After-is_hash) c.pad_hash.ensures c.is_hash.ensures c.if-not-is_hash.true

pub returns-then-is_pad : goal.returns-then-is_pad
returns-then-is_pad c =
    let a = c.args.accusation.now in
    let at = goal.at.returns-then-is_pad c in
    pad_refused (description_of c.args.descriptor.now) a.member a.seed c.args.key.now c.args.sent.now c.index.result.now
    c.seal_seed.result c.index-2.result.now c.pad_hash.result c.is_same.result c.is_hash.result
    (capsule at.After-is_same) c.seal_seed.ensures c.is_same.ensures c.if-not-is_same.false
    (given at.After-is_hash) c.pad_hash.ensures c.is_hash.ensures c.if-not-is_hash.false (c.is_pad.ensures.0 c.if-is_pad.true)

pub returns : goal.returns
returns c =
    let a = c.args.accusation.now in
    let at = goal.at.returns c in
    seed_taken (description_of c.args.descriptor.now) a.member a.seed c.args.key.now c.args.sent.now c.index.result.now
    c.seal_seed.result c.index-2.result.now c.pad_hash.result c.is_same.result c.is_hash.result
    (capsule at.After-is_same) c.seal_seed.ensures c.is_same.ensures c.if-not-is_same.false
    (given at.After-is_hash) c.pad_hash.ensures c.is_hash.ensures c.if-not-is_hash.false
    (λ same. both_ways c.is_pad.result c.if-is_pad.false (c.is_pad.ensures.1 same))
