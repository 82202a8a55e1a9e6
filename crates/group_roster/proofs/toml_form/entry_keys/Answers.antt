use Rattle.std.proofs.Common.{◌≡◌, ◌+◌, ◌∷◌, length, List, map, drop, subst, sym, ap, ◌∙◌, rules, arith}
use Rattle.toml.specs.Data.{Data}
use Rattle.toml.specs.View.{view}
use Rattle.group_roster.specs.Toml.{keys_from, list_of}
use Rattle.group_roster.proofs.TomlLemmas.{with_keys, keys-none, keys-some, keys-done, entry-next, entries-end, length-more, list_of-items}
use Rattle.group_roster.proofs.toml_form.entry_keys.Goals as goal

pub returns-in-None-clause-keys : goal.returns-in-None-clause-keys
returns-in-None-clause-keys c =
    let vs = c.args.entries.now.items in
    let k = c.loop-k.k in
    let v = c.entry-item.result in
    let next = entry-next vs c.deref-entry-items.result.now k v c.deref-entry-items.ensures.value c.loop-k-test.true c.entry-item.is in
    let keys = c.loop-k.keys.items in
    rw c.of.ensures (ap (keys_from 1) (list_of-items (map view vs))
    ∙ keys-none keys (k + 1) (view v) (map view (drop (k + 1) vs)) (keys_from 1 (map view vs)) (sym c.entry_key.ensures ∙ c.in-None.is)
    (ap (λ (xs : List Data). with_keys keys (keys_from (k + 1) xs)) (sym next) ∙ c.loop-k.invariant.0))

pub loop-k-preserved : goal.loop-k-preserved
loop-k-preserved c =
    let vs = c.args.entries.now.items in
    let k = c.loop-k.k in
    let v = c.entry-item.result in
    let next = entry-next vs c.deref-entry-items.result.now k v c.deref-entry-items.ensures.value c.loop-k-test.true c.entry-item.is in
    let keys = c.loop-k.keys.items in
    let more = keys-some keys (k + 1) (view v) (map view (drop (k + 1) vs)) c.in-Some.key (keys_from 1 (map view vs))
    (sym c.entry_key.ensures ∙ c.in-Some.is)
    (ap (λ (xs : List Data). with_keys keys (keys_from (k + 1) xs)) (sym next) ∙ c.loop-k.invariant.0) in
    rw c.in_ok-push-in-Some.ensures.items (more, length-more keys c.in-Some.key k c.loop-k.invariant.1)

pub returns-clause-keys : goal.returns-clause-keys
returns-clause-keys c =
    let vs = c.args.entries.now.items in
    let k = c.loop-k.k in
    let keys = c.loop-k.keys.items in
    ap (keys_from 1) (list_of-items (map view vs))
    ∙ keys-done keys (k + 1) (keys_from 1 (map view vs))
    (ap (λ (xs : List Data). with_keys keys (keys_from (k + 1) xs))
    (sym (entries-end vs c.deref-entry-items.result.now k c.deref-entry-items.ensures.value c.loop-k-test.false))
    ∙ c.loop-k.invariant.0)
