use Rattle.std.proofs.Common.{◌≡◌, ℕ, ◌+◌, List, map, ◌++◌, [], ◌∷◌, ap, sym, ◌∙◌, arith}
use Rattle.std.specs.List.{range_with_len}
use Rattle.std.proofs.lemmas.List.FromFn.{map-range_with_len_more}
use Rattle.lms_tree.specs.States.{SecretState}
use Rattle.group_threads.specs.Scripted.{script_secret}
use Rattle.group_threads.proofs.scripted.secrets_of.Goals as goal

pub loop-place-preserved : goal.loop-place-preserved
loop-place-preserved c =
    let n : ℕ = c.loop-place.place in
    let same : 1 + n ≡ n + 1 = omega arith in
    c.in_ok-push.ensures.items ∙ ap (λ (l : List SecretState). l ++ c.in_ok-key.key ∷ []) c.loop-place.invariant
    ∙ ap (λ (k : SecretState). map (script_secret c.args.script.now) (range_with_len 1 n) ++ k ∷ []) c.in_ok-key.ensures
    ∙ sym (map-range_with_len_more (script_secret c.args.script.now) 1 n (n + 1) same)
