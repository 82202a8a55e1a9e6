use Rattle.std.proofs.Common.{◌≡◌, ℕ, ◌+◌, ◌-◌, ◌*◌, ◌≤◌, length, take, drop, ap, ◌∙◌, arith, rules}
use Rattle.wire_core.specs.Bytes.{IsBytes}
use Rattle.judge_core.proofs.SeedPlaces.{keys-laid}
use Rattle.judge_core.proofs.wrong_seed.key_in.Goals as goal

pub slice_bounds-result-end : goal.slice_bounds-result-end
slice_bounds-result-end c =
    let fits : IsBytes c.args.content.now = λ i. omega (arith, c.type_inv.content i) in
    let long : length c.args.content.now ≡ 9196 = (keys-laid c.requires.keys.0 c.args.content.now fits c.requires.keys.1).long in
    let within : 76 + 1824 * c.args.place + 1824 ≤ length c.args.content.now = omega (arith, long, c.requires.place) in
    search rules

pub returns : goal.returns
returns c = λ shape is.
    let fits : IsBytes c.args.content.now = λ i. omega (arith, c.type_inv.content i) in
    let laid = keys-laid shape c.args.content.now fits is in
    let whole : 76 + 1824 * c.args.place + 1824 - (76 + 1824 * c.args.place) ≡ 1824 = omega arith in
    record {
      header = laid.header;
      keys = laid.keys;
      reads = laid.reads;
      is = ap (λ (n : ℕ). take n (drop (76 + 1824 * c.args.place) c.args.content.now)) whole ∙ laid.at c.args.place c.requires.place;
    }
