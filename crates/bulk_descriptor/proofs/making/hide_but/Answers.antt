use Rattle.std.proofs.Common.{length}
use Rattle.bulk_descriptor.proofs.CodeLemmas.{hidden_in_two, hashes_in_two, behind}
use Rattle.bulk_descriptor.proofs.making.hide_but.Goals as goal

pub returns-clause-bytes : goal.returns-clause-bytes
returns-clause-bytes c =
    let seeds = c.args.seeds.now in
    let after = behind seeds c.split_at.result.1.now c.split_at-2.result.1.now c.args.place c.split_at.ensures.back
    c.split_at-2.ensures.back in
    hidden_in_two c.args.bytes.now c.hide.new.bytes c.hide-2.new.bytes seeds c.split_at.result.0.now c.split_at-2.result.1.now c.args.place
    c.split_at.ensures.front after c.hide.auto.bytes
    c.in_ok-hide.ensures.bytes c.in_ok-hide-2.ensures.bytes

pub returns-clause-hashes : goal.returns-clause-hashes
returns-clause-hashes c =
    let seeds = c.args.seeds.now in
    let after = behind seeds c.split_at.result.1.now c.split_at-2.result.1.now c.args.place c.split_at.ensures.back
    c.split_at-2.ensures.back in
    hashes_in_two c.args.hashes.now.items c.hide.new.hashes.items c.hide-2.new.hashes.items seeds c.split_at.result.0.now
    c.split_at-2.result.1.now c.args.place (length c.args.bytes.now) (length c.hide.new.bytes)
    c.split_at.ensures.front after c.hide.auto.bytes c.in_ok-hide.ensures.hashes c.in_ok-hide-2.ensures.hashes
