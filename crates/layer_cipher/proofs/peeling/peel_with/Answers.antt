use Rattle.std.proofs.Common.{◌≡◌, ℕ, ◌<◌, ◌≤◌, true, List, [], ◌∷◌, length, take, drop, sym, ap, ◌∙◌, Some, None, ⊎_elim}
use Rattle.std.proofs.lemmas.Bool.{cases_lt}
use Rattle.wire_core.specs.declared.tag.Tag.TheVariants.{LayerTag}
use Rattle.wire_core.specs.Hash.{hash_of}
use Rattle.ring_encrypt.specs.Opening.{opened}
use Rattle.layer_cipher.specs.Layer.{masked, Opens}
use Rattle.layer_cipher.proofs.LayerLemmas.{returns_no_layer, returns_layer, short_opens_nothing, closed_opens_nothing, other_opens_nothing, layer_found, bytes_differ, bytes_same, hidden_of}
use Rattle.layer_cipher.proofs.peeling.peel_with.Goals as goal
use Rattle.layer_cipher.proofs.peeling.peel_with.Goals.{In_default, Then-ne, After-of}

-- the bytes are as many as those of a layer
long : (c : After-of) → 2272 ≤ length c.args.ct.now
long c = ⊎_elim
    (λ (short : length c.args.ct.now < 2272). let test : c.is_too_short.result ≡ true = c.is_too_short.ensures.1 short in let fails =
    c.if-is_too_short.false in cc)
    (λ (enough : 2272 ≤ length c.args.ct.now). enough)
    (cases_lt (length c.args.ct.now) 2272)

-- the capsule does not open
closed : (c : In_default) (m body : List ℕ) → Opens c.args.seed.now c.args.ct.now m body → ⊥
closed c m body =
    let capsule : c.read_capsule.result ≡ take 2240 c.args.ct.now = c.read_capsule.ensures ∙ c.split_at.ensures.front in
    let none : opened c.args.seed.now (take 2240 c.args.ct.now) ≡ None = sym (rw capsule at c.open_with.ensures.value) ∙ c.in_default.is in
    closed_opens_nothing c.args.seed.now c.args.ct.now m body none

-- the check value is another
other : (c : Then-ne) (m body : List ℕ) → Opens c.args.seed.now c.args.ct.now m body → ⊥
other c m body =
    let layer = c.args.ct.now in
    let capsule : c.read_capsule.result ≡ take 2240 layer = c.read_capsule.ensures ∙ c.split_at.ensures.front in
    let some : opened c.args.seed.now (take 2240 layer) ≡ Some c.in-Some.m = sym (rw capsule at c.open_with.ensures.value) ∙ c.in-Some.is in
    let hidden : c.split_at-2.result.1.now ≡ drop 2272 layer = hidden_of layer c.split_at.result.1.now c.split_at-2.result.1.now
    c.split_at.ensures.back c.split_at-2.ensures.back in
    let there : c.split_at-2.result.0.now ≡ take 32 (drop 2240 layer) = c.split_at-2.ensures.front
    ∙ ap (λ (x : List ℕ). take 32 x) c.split_at.ensures.back in
    let value : c.check_value.result ≡ hash_of LayerTag (c.in-Some.m ∷ drop 2272 layer ∷ []) = rw hidden at c.check_value.ensures in
    other_opens_nothing c.args.seed.now layer m c.in-Some.m body c.check_value.result some value
    (λ same. bytes_differ c.as_slice.result.now c.split_at-2.result.0.now c.ne.result c.ne.ensures c.if-ne.true
    (c.as_slice.ensures ∙ same ∙ sym there))

-- the parts are those of a layer
found : (c : After-of) → Opens c.args.seed.now c.args.ct.now c.in-Some.m c.of.result
found c =
    let layer = c.args.ct.now in
    let capsule : c.read_capsule.result ≡ take 2240 layer = c.read_capsule.ensures ∙ c.split_at.ensures.front in
    let some : opened c.args.seed.now (take 2240 layer) ≡ Some c.in-Some.m = sym (rw capsule at c.open_with.ensures.value) ∙ c.in-Some.is in
    let hidden : c.split_at-2.result.1.now ≡ drop 2272 layer = hidden_of layer c.split_at.result.1.now c.split_at-2.result.1.now
    c.split_at.ensures.back c.split_at-2.ensures.back in
    let there : c.split_at-2.result.0.now ≡ take 32 (drop 2240 layer) = c.split_at-2.ensures.front
    ∙ ap (λ (x : List ℕ). take 32 x) c.split_at.ensures.back in
    let value : c.check_value.result ≡ hash_of LayerTag (c.in-Some.m ∷ drop 2272 layer ∷ []) = rw hidden at c.check_value.ensures in
    let same : c.as_slice.result.now ≡ c.split_at-2.result.0.now = bytes_same c.as_slice.result.now c.split_at-2.result.0.now c.ne.result
    c.ne.ensures c.if-ne.false in
    let body : c.in_ok-body.body.items ≡ masked c.in-Some.m (drop 2272 layer) = rw hidden at c.in_ok-body.ensures in
    layer_found c.args.seed.now layer c.in-Some.m c.of.result c.check_value.result (long c) some value
    (sym c.as_slice.ensures ∙ same ∙ there) (c.of.ensures ∙ body)

pub returns-then-is_too_short-clause-value : goal.returns-then-is_too_short-clause-value
returns-then-is_too_short-clause-value c = returns_no_layer c.args.seed.now c.args.ct.now
    (λ m body. short_opens_nothing c.args.seed.now c.args.ct.now m body (c.is_too_short.ensures.0 c.if-is_too_short.true))

pub returns-then-is_too_short-clause-finds : goal.returns-then-is_too_short-clause-finds
returns-then-is_too_short-clause-finds c = λ m body. short_opens_nothing c.args.seed.now c.args.ct.now m body
    (c.is_too_short.ensures.0 c.if-is_too_short.true)

pub returns-in_default-clause-value : goal.returns-in_default-clause-value
returns-in_default-clause-value c = returns_no_layer c.args.seed.now c.args.ct.now (closed c)

pub returns-in_default-clause-finds : goal.returns-in_default-clause-finds
returns-in_default-clause-finds c = closed c

pub returns-then-ne-clause-value : goal.returns-then-ne-clause-value
returns-then-ne-clause-value c = returns_no_layer c.args.seed.now c.args.ct.now (other c)

pub returns-then-ne-clause-finds : goal.returns-then-ne-clause-finds
returns-then-ne-clause-finds c = other c

pub returns-clause-value : goal.returns-clause-value
returns-clause-value c = returns_layer c.args.seed.now c.args.ct.now c.in-Some.m c.of.result (found c)

pub returns-clause-finds : goal.returns-clause-finds
returns-clause-finds c = found c
