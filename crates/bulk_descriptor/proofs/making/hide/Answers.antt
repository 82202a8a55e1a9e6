use Rattle.std.proofs.Common.{◌≡◌, [], length, get_or, refl, sym, ◌∙◌, arith, append-nil}
use Rattle.pad_stream.specs.Stream.{pad_of}
use Rattle.bulk_descriptor.specs.Descriptor.{pads_of}
use Rattle.bulk_descriptor.proofs.MakingLemmas.{length-pad_of}
use Rattle.bulk_descriptor.proofs.CodeLemmas.{hidden_under-more, hashes-more}
use Rattle.bulk_descriptor.proofs.making.hide.Goals as goal

pub loop-seed-init : goal.loop-seed-init
unfolding pads_of
loop-seed-init c = record { hidden = refl; hashed = sym (append-nil c.args.hashes.now.items) }

pub xor_into-requires : goal.xor_into-requires
xor_into-requires c =
    let pad : c.deref.result.now ≡ pad_of (get_or c.args.seeds.now c.loop-seed.seed-index []) (length c.args.bytes.now) =
    c.deref.ensures.value ∙ c.in_ok-pad.ensures in
    rw pad (c.loop-seed.auto.bytes ∙ sym (length-pad_of (get_or c.args.seeds.now c.loop-seed.seed-index []) (length c.args.bytes.now)))

pub hash_of_pad-requires : goal.hash_of_pad-requires
hash_of_pad-requires c =
    let pad : c.deref-in-loop-seed.result.now ≡ pad_of (get_or c.args.seeds.now c.loop-seed.seed-index []) (length c.args.bytes.now) =
    c.deref-in-loop-seed.ensures.value ∙ c.in_ok-pad.ensures in
    rw pad (omega (arith, length-pad_of (get_or c.args.seeds.now c.loop-seed.seed-index []) (length c.args.bytes.now), c.requires))

pub loop-seed-preserved : goal.loop-seed-preserved
loop-seed-preserved c =
    let seeds = c.args.seeds.now in
    let count = length c.args.bytes.now in
    let k = c.loop-seed.seed-index in
    let first : c.deref.result.now ≡ pad_of (get_or seeds k []) count = c.deref.ensures.value ∙ c.in_ok-pad.ensures in
    let second : c.deref-in-loop-seed.result.now ≡ pad_of (get_or seeds k []) count = c.deref-in-loop-seed.ensures.value
    ∙ c.in_ok-pad.ensures in
    record {
      hidden = c.xor_into.ensures ∙ hidden_under-more c.args.bytes.now c.loop-seed.bytes c.deref.result.now seeds count k
          c.loop-seed-test.true c.loop-seed.invariant.hidden first;
      hashed = c.in_ok-push.ensures.items ∙ hashes-more c.args.hashes.now.items c.loop-seed.hashes.items c.hash_of_pad.result
          c.deref-in-loop-seed.result.now seeds count k c.loop-seed-test.true c.loop-seed.invariant.hashed second c.hash_of_pad.ensures;
    }
