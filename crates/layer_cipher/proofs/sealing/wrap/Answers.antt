use Rattle.std.proofs.Common.{◌≡◌, ◌+◌, ◌-◌, length, drop, arith, sym, ◌∙◌}
use Rattle.std.proofs.lemmas.List.{length-drop}
use Rattle.layer_cipher.specs.Layer.{wrapping_of}
use Rattle.layer_cipher.proofs.WrapLemmas.{wrapping_adds, wrapping_of-none, wrapping_of-more}
use Rattle.layer_cipher.proofs.sealing.wrap.Goals as goal

pub loop-k-init : goal.loop-k-init
loop-k-init c = record {
  within = omega (arith, c.len-k.ensures);
  wrapped = c.in_ok-layers.ensures.items
      ∙ sym (wrapping_of-none c.args.keys.now.items c.args.seeds.now.items c.args.blob.now c.len-k.result
      (omega (arith, c.len-k.ensures, c.args.keys.now.ok.0)));
}

pub seal-requires : goal.seal-requires
seal-requires c =
    let keys = c.args.keys.now.items in
    let seeds = c.args.seeds.now.items in
    let k = c.loop-k.k in
    let as_many : length (drop k keys) ≡ length (drop k seeds) = omega
    (arith, length-drop k keys, length-drop k seeds, c.args.keys.now.ok.0, c.args.seeds.now.ok.0, c.requires.as_many) in
    rw (c.deref.ensures.value, c.loop-k.invariant.wrapped)
    (omega (
      arith,
      wrapping_adds (drop k keys) (drop k seeds) c.args.blob.now as_many,
      length-drop k keys,
      c.args.keys.now.ok.0,
      c.requires.length,
    ))

pub loop-k-preserved : goal.loop-k-preserved
loop-k-preserved c =
    let keys = c.args.keys.now.items in
    let seeds = c.args.seeds.now.items in
    let k = c.loop-k.k - 1 in
    let next : k + 1 ≡ c.loop-k.k = omega arith in
    let inside : c.deref.result.now ≡ wrapping_of (drop (k + 1) keys) (drop (k + 1) seeds) c.args.blob.now = rw next
    (c.deref.ensures.value ∙ c.loop-k.invariant.wrapped) in
    record {
      within = omega (arith, c.loop-k.invariant.within);
      wrapped = c.in_ok-layers-2.ensures
          ∙ wrapping_of-more keys seeds c.args.blob.now c.deref.result.now k c.index.result.now c.index-in-loop-k.result.now
          (omega (arith, c.args.keys.now.ok.0, c.loop-k.invariant.within))
          (omega (arith, c.args.seeds.now.ok.0, c.loop-k.invariant.within, c.requires.as_many)) c.index.ensures
          c.index-in-loop-k.ensures inside;
    }
