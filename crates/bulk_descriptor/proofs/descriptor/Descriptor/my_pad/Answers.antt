use Rattle.std.proofs.Common.{◌-◌, ap, ◌∙◌, refl, arith, Some, List, ℕ}
use Rattle.std.specs.Prelude.{IsSome}
use Rattle.bulk_descriptor.specs.Fields.{description_of}
use Rattle.bulk_descriptor.specs.Descriptor.{pad_found}
use Rattle.bulk_descriptor.proofs.CodeLemmas.{on_err, item_read, closed_has_none, unlike_has_none, like_has_pad}
use Rattle.bulk_descriptor.proofs.descriptor.Descriptor.my_pad.Goals as goal

pub returns-in_default-clause-value : goal.returns-in_default-clause-value
returns-in_default-clause-value c =
    let d = c.args.self.now in
    let place = c.args.member - 1 in
    let capsule = item_read d.capsules c.items.result.now.items place c.index.result.now c.items.ensures
    (omega (arith, c.requires.first, c.requires.last, d.form.as_many)) c.index.ensures in
    closed_has_none (description_of d) c.args.member c.args.seed.now c.index.result.now c.open_with.result capsule c.open_with.ensures.value
    c.in_default.is

pub returns-then-ne-clause-value : goal.returns-then-ne-clause-value
returns-then-ne-clause-value c =
    let d = c.args.self.now in
    let place = c.args.member - 1 in
    let capsule = item_read d.capsules c.items.result.now.items place c.index.result.now c.items.ensures
    (omega (arith, c.requires.first, c.requires.last, d.form.as_many)) c.index.ensures in
    let own = item_read d.pad_hashes c.items-2.result.now.items place c.index-2.result.now c.items-2.ensures
    (omega (arith, c.requires.first, c.requires.last)) c.index-2.ensures in
    unlike_has_none (description_of d) c.args.member c.args.seed.now c.index.result.now c.in-Some.pad_seed c.pad_hash.result
    c.index-2.result.now c.open_with.result c.ne.result
    capsule c.open_with.ensures.value c.in-Some.is c.pad_hash.ensures own c.ne.ensures c.if-ne.true

pub returns-in_err-pad-clause-memory : goal.returns-in_err-pad-clause-memory
returns-in_err-pad-clause-memory c =
    let d = c.args.self.now in
    let place = c.args.member - 1 in
    let capsule = item_read d.capsules c.items.result.now.items place c.index.result.now c.items.ensures
    (omega (arith, c.requires.first, c.requires.last, d.form.as_many)) c.index.ensures in
    let own = item_read d.pad_hashes c.items-2.result.now.items place c.index-2.result.now c.items-2.ensures
    (omega (arith, c.requires.first, c.requires.last)) c.index-2.ensures in
    let found = like_has_pad (description_of d) c.args.member c.args.seed.now c.index.result.now c.in-Some.pad_seed c.pad_hash.result
    c.index-2.result.now c.open_with.result c.ne.result
    capsule c.open_with.ensures.value c.in-Some.is c.pad_hash.ensures own c.ne.ensures c.if-ne.false in
    on_err c.from_residual.result (IsSome (pad_found (description_of d) c.args.member c.args.seed.now)) (rw (← found) refl)

pub returns-clause-value : goal.returns-clause-value
returns-clause-value c =
    let d = c.args.self.now in
    let place = c.args.member - 1 in
    let capsule = item_read d.capsules c.items.result.now.items place c.index.result.now c.items.ensures
    (omega (arith, c.requires.first, c.requires.last, d.form.as_many)) c.index.ensures in
    let own = item_read d.pad_hashes c.items-2.result.now.items place c.index-2.result.now c.items-2.ensures
    (omega (arith, c.requires.first, c.requires.last)) c.index-2.ensures in
    ap (λ (pad : List ℕ). Some pad) (c.of.ensures ∙ c.in_ok-pad.ensures)
    ∙ like_has_pad (description_of d) c.args.member c.args.seed.now c.index.result.now c.in-Some.pad_seed c.pad_hash.result
    c.index-2.result.now c.open_with.result c.ne.result
    capsule c.open_with.ensures.value c.in-Some.is c.pad_hash.ensures own c.ne.ensures c.if-ne.false
