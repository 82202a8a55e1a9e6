use Rattle.std.proofs.Common.{length, refl, ◌∙◌, arith}
use Rattle.bulk_descriptor.specs.Descriptor.{Description}
use Rattle.bulk_descriptor.proofs.CodeLemmas.{made_by_parts, form_of_made}
use Rattle.bulk_descriptor.proofs.making.make.Goals as goal

pub invariant_of-descriptor : goal.invariant_of-descriptor
invariant_of-descriptor c =
    let keys = c.args.keys.now.items in
    let seeds = c.args.seeds.now.items in
    let d : Description = record {
      length = length c.args.message.now;
      message_hash = c.message_hash.result;
      pad_hashes = c.of.result;
      capsules = c.of-2.result;
    } in
    let n = c.requires in
    record {
      form = form_of_made (length seeds) keys seeds c.args.member c.args.message.now d
          (record {
            least = omega (arith, c.args.seeds.now.ok.0, n.least);
            most = omega (arith, c.args.seeds.now.ok.0, n.most);
            as_many_keys = omega (arith, c.args.seeds.now.ok.0, c.args.keys.now.ok.0, n.as_many);
            as_many_seeds = refl;
            first = n.first;
            last = omega (arith, c.args.seeds.now.ok.0, n.last);
            short = n.short;
          })
          (made_by_parts keys seeds c.deref.result.now c.of.result c.of-2.result c.args.member c.args.message.now c.message_hash.result
          n.first c.deref.ensures.value c.message_hash.ensures
          (c.of.ensures ∙ c.in_ok-own_pad.ensures.hashes) (c.of-2.ensures ∙ c.in_ok-capsules.ensures));
    }

pub returns-clause-descriptor : goal.returns-clause-descriptor
returns-clause-descriptor c =
    made_by_parts c.args.keys.now.items c.args.seeds.now.items c.deref.result.now c.of.result c.of-2.result c.args.member c.args.message.now
    c.message_hash.result c.requires.first c.deref.ensures.value c.message_hash.ensures
    (c.of.ensures ∙ c.in_ok-own_pad.ensures.hashes) (c.of-2.ensures ∙ c.in_ok-capsules.ensures)
