use Rattle.std.proofs.Common.{◌≡◌, ℕ, ◌+◌, List, map, ◌++◌, [], ◌∷◌, ap, sym, ◌∙◌, arith}
use Rattle.std.specs.List.{range_with_len}
use Rattle.std.proofs.lemmas.List.FromFn.{map-range_with_len_more}
use Rattle.round_script.specs.declared.fault.Fault.{Fault}
use Rattle.group_spec.specs.Scripts.{fault_in}
use Rattle.group_threads.proofs.scripted.faults_of.Goals as goal

pub loop-place-preserved : goal.loop-place-preserved
loop-place-preserved c =
    let n : ℕ = c.loop-place.place in
    let same : 1 + n ≡ n + 1 = omega arith in
    c.in_ok-push.ensures.items ∙ ap (λ (l : List Fault). l ++ c.fault_in-fault.result ∷ []) c.loop-place.invariant
    ∙ ap (λ (f : Fault). map (fault_in c.args.script.now.faults) (range_with_len 1 n) ++ f ∷ []) c.fault_in-fault.ensures
    ∙ sym (map-range_with_len_more (fault_in c.args.script.now.faults) 1 n (n + 1) same)
