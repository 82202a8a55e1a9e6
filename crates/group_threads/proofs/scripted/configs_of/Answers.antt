use Rattle.std.proofs.Common.{◌≡◌, ℕ, ◌+◌, List, map, ◌++◌, [], ◌∷◌, ap, sym, ◌∙◌, arith}
use Rattle.std.specs.List.{range_with_len}
use Rattle.std.proofs.lemmas.List.FromFn.{map-range_with_len_more}
use Rattle.group_roster.specs.Given.{roster_of}
use Rattle.group_threads.specs.Scripted.{Entrance, entrance_of, script_entrance}
use Rattle.group_threads.proofs.Groups.{mapped-last}
use Rattle.member_parts.specs.declared.config.Config.{Config}
use Rattle.group_threads.proofs.scripted.configs_of.Goals as goal

pub loop-place-preserved : goal.loop-place-preserved
loop-place-preserved c =
    let n : ℕ = c.loop-place.place in
    let same : 1 + n ≡ n + 1 = omega arith in
    ap (λ (l : List Config). map entrance_of l) c.in_ok-push.ensures.items ∙ mapped-last entrance_of c.loop-place.configs.items c.in_ok-config.config
    ∙ ap (λ (l : List Entrance). l ++ entrance_of c.in_ok-config.config ∷ []) c.loop-place.invariant
    ∙ ap (λ (e : Entrance). map (script_entrance c.args.script.now (roster_of c.args.roster.now)) (range_with_len 1 n) ++ e ∷ []) c.in_ok-config.ensures
    ∙ sym (map-range_with_len_more (script_entrance c.args.script.now (roster_of c.args.roster.now)) 1 n (n + 1) same)
