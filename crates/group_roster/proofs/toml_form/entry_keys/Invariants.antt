use Rattle.std.proofs.Common.{◌≡◌, drop, ◌+◌, length, map}
use Rattle.toml.specs.View.{view}
use Rattle.group_roster.specs.Toml.{keys_from}
use Rattle.group_roster.proofs.TomlLemmas.{with_keys}
use Rattle.group_roster.proofs.toml_form.entry_keys.Given as goal

abbrev pub invariant-loop-k : goal.invariant-loop-k
invariant-loop-k l =
    (with_keys l.keys.items (keys_from (l.k + 1) (map view (drop l.k l.fn.entries.items))) ≡ keys_from 1 (map view l.fn.entries.items))
    × (length l.keys.items ≡ l.k)
