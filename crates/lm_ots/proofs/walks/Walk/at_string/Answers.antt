use Rattle.std.proofs.Common.{◌∙◌, ℕ, List, ap, arith, drop, length-drop, slice_index}
use Rattle.std.proofs.lemmas.List.{take_all}
use Rattle.lm_ots.specs.declared.walks.Walk.{Walk}
use Rattle.lm_ots.proofs.walks.Walk.at_string.Goals as goal

pub returns-clause-walk : goal.returns-clause-walk
returns-clause-walk c =
    let string : List ℕ = c.args.string.now in
    let made : List ℕ → Walk = λ value. record { place = slice_index string 22; end = c.args.end; value = value } in
    ap made (c.copy_from_slice.ensures.after ∙ take_all 32 (drop 23 string) (omega (arith, length-drop 23 string)))
