use Rattle.std.proofs.Common.{◌≡◌, map}
use Rattle.std.specs.Map.{keys_of}
use Rattle.group_roster.proofs.TomlLemmas.{any_beside}
use Rattle.group_roster.proofs.toml_form.has_key_beside.Given as goal

abbrev pub invariant-loop-key : goal.invariant-loop-key
invariant-loop-key l =
    (goal.iterator-loop-key).can_next l.key-iterator
    × (goal.iterator-loop-key).is_finite l.key-iterator
    × (any_beside (map (λ name. name.now) l.names) l.key-iterator ≡ any_beside (map (λ name. name.now) l.names) (keys_of l.table.entries))
