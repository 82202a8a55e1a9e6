use Rattle.std.proofs.Common.{◌≡◌, ◌∙◌, ◌<◌, ◌≤◌, ℕ, [], List, ap, slice_index, slice_index_or, length, length-set, arith, drop}
use Rattle.std.specs.Fn.{iterate}
use Rattle.std.proofs.lemmas.List.Elements.{All-get_or}
use Rattle.lm_ots.specs.declared.walks.Walk.{Walk}
use Rattle.lm_ots.specs.Walks.{end_of, next_step_of, next_string, walk_at}
use Rattle.lm_ots.proofs.Tables.{all_set}
use Rattle.lm_ots.proofs.Walking.{end_of-on}
use Rattle.lm_ots.proofs.walks.walk_lanes.Goals as goal

pub loop-k-preserved : goal.loop-k-preserved
loop-k-preserved c =
    let invariant = c.loop-k.invariant in
    let identifier : List ℕ = c.args.identifier.now in
    let k : ℕ = c.loop-k.k in
    let i : ℕ = slice_index c.args.lanes.now k in
    let walk : Walk = walk_at c.args.walks.now i in
    let string : List ℕ = slice_index_or c.step_four.new.strings k [] in
    let idle : Walk = record { place = 0; end = 0; value = [] } in
    let below : k < 4 = omega arith in
    let size : length identifier ≡ 16 = omega arith in
    let in_table : i < 268 = All-get_or (λ i. i < 268) c.args.lanes.now k 0 (omega arith) c.requires.in_table in
    let inside : i < length c.loop-k.walks = omega (arith, invariant.size, in_table) in
    let at : c.from-i.result ≡ i = c.from-i.ensures in
    let is_string : string ≡ iterate next_string c.args.steps (next_step_of identifier c.args.q c.args.walks.now i) =
    c.step_four.ensures k below ∙ ap (iterate next_string c.args.steps) (c.next_steps-strings.ensures k below) in
    let is_end : (walk_at c.loop-k.walks c.from-i.result).end ≡ walk.end =
    ap (λ (j : ℕ). (walk_at c.loop-k.walks j).end) at ∙ invariant.ends i in_table in
    let made : ℕ → Walk = λ end. record { place = slice_index string 22; end = end; value = drop 23 string } in
    let is : c.at_string.result ≡ made walk.end = c.at_string.ensures.walk ∙ ap made is_end in
    let small : walk.end < 256 = rw is_end at c.at_string.ensures.byte in
    rw at (record {
      size = length-set _ _ _ ∙ invariant.size;
      values = all_set (λ j (w : Walk). end_of identifier c.args.q j w ≡ end_of identifier c.args.q j (walk_at c.args.walks.now j))
          c.loop-k.walks idle 268 i c.at_string.result inside
          (ap (λ (w : Walk). end_of identifier c.args.q i w) is
          ∙ end_of-on identifier c.args.q i c.args.steps walk string size small (c.requires.left k below) is_string)
          invariant.values;
      ends = all_set (λ j (w : Walk). w.end ≡ (walk_at c.args.walks.now j).end)
          c.loop-k.walks idle 268 i c.at_string.result inside (ap (λ (w : Walk). w.end) is) invariant.ends;
    })
