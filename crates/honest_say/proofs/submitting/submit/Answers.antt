use Rattle.std.proofs.Common.{ℕ, List, length, ap, ◌∙◌, arith}
use Rattle.std.proofs.lemmas.List.FromFn.{length-map-range_with_len}
use Rattle.wire_core.specs.Hash.{layer_seed}
use Rattle.honest_say.proofs.OwnSecrets.{submitted}
use Rattle.honest_say.proofs.submitting.submit.Goals as goal

pub submission-requires-clause-inner_seeds : goal.submission-requires-clause-inner_seeds
submission-requires-clause-inner_seeds c =
    let seat = c.args.seat.now in
    let seeds = c.in_ok-inner_seeds.inner_seeds in
    let keys = c.items-inner_keys.result.now in
    let made = ap (λ (t : List (List ℕ)). length t) c.in_ok-inner_seeds.ensures in
    let count = length-map-range_with_len (layer_seed c.args.secrets.now.inner_opening seat.round c.args.shuffle 1 seat.number) 1
    seat.shape.members in
    let said = ap (λ (t : List (List ℕ)). length t) c.items-inner_keys.ensures in
    omega (arith, seeds.ok.0, keys.ok.0, made, count, said, c.requires.inner)

pub submission-requires-clause-outer_seeds : goal.submission-requires-clause-outer_seeds
submission-requires-clause-outer_seeds c =
    let seat = c.args.seat.now in
    let seeds = c.in_ok-outer_seeds.outer_seeds in
    let keys = c.items-inner_keys.result.now in
    let made = ap (λ (t : List (List ℕ)). length t) c.in_ok-outer_seeds.ensures in
    let count = length-map-range_with_len (layer_seed c.args.secrets.now.outer_opening seat.round c.args.shuffle 2 seat.number) 1
    seat.shape.members in
    let said = ap (λ (t : List (List ℕ)). length t) c.items-inner_keys.ensures in
    omega (arith, seeds.ok.0, keys.ok.0, made, count, said, c.requires.inner)

pub returns : goal.returns
returns c = λ config own past is secrets said item.
    c.in_ok-submission.ensures
    ∙ submitted config c.args.seat.now c.args.secrets.now c.args.keys.now own c.args.item.now past c.args.shuffle _ _ _ _
    c.items-inner_keys.ensures c.items-outer_keys.ensures c.in_ok-inner_seeds.ensures c.in_ok-outer_seeds.ensures is secrets said item
