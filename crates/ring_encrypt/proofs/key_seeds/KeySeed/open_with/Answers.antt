use Rattle.std.proofs.Common.{◌≡◌, List, ℕ, sym, ap, ◌∙◌}
use Rattle.ring_encrypt.specs.Capsule.{key_of_seed, capsule_of}
use Rattle.ring_encrypt.proofs.Exactness.{opens_nothing, opened_by_test, opened_to}
use Rattle.ring_encrypt.proofs.key_seeds.KeySeed.open_with.Goals as goal

pub returns-in_err-m-clause-value : goal.returns-in_err-m-clause-value
returns-in_err-m-clause-value c =
    c.from_residual.ensures ∙ sym (opens_nothing c.args.self.now c.args.c.now
    (λ m. c.in_err-m.ensures.refused (key_of_seed c.args.self.now) m))

pub returns-then-is_same-clause-value : goal.returns-then-is_same-clause-value
returns-then-is_same-clause-value c =
    let again : c.seal_seed-again.result ≡ capsule_of (key_of_seed c.args.self.now) c.in_ok-m.m = c.seal_seed-again.ensures
    ∙ ap (λ (key : List ℕ). capsule_of key c.in_ok-m.m) (c.self.invariant.0 ∙ ap key_of_seed c.self.view_is) in
    let chosen = opened_by_test c.args.self.now c.args.c.now c.in_ok-m.m c.seal_seed-again.result c.in_ok-m.ensures.value again in
    sym (rw (← c.is_same.ensures, c.if-is_same.true) at chosen)

pub returns-else-is_same-clause-value : goal.returns-else-is_same-clause-value
returns-else-is_same-clause-value c =
    let again : c.seal_seed-again.result ≡ capsule_of (key_of_seed c.args.self.now) c.in_ok-m.m = c.seal_seed-again.ensures
    ∙ ap (λ (key : List ℕ). capsule_of key c.in_ok-m.m) (c.self.invariant.0 ∙ ap key_of_seed c.self.view_is) in
    let chosen = opened_by_test c.args.self.now c.args.c.now c.in_ok-m.m c.seal_seed-again.result c.in_ok-m.ensures.value again in
    sym (rw (← c.is_same.ensures, c.if-is_same.false) at chosen)

pub returns-in_err-m-clause-opens : goal.returns-in_err-m-clause-opens
returns-in_err-m-clause-opens c = (opened_to c.args.self.now c.args.c.now _ (returns-in_err-m-clause-value c)).0

pub returns-in_err-m-clause-refuses : goal.returns-in_err-m-clause-refuses
returns-in_err-m-clause-refuses c = (opened_to c.args.self.now c.args.c.now _ (returns-in_err-m-clause-value c)).1

pub returns-then-is_same-clause-opens : goal.returns-then-is_same-clause-opens
returns-then-is_same-clause-opens c = (opened_to c.args.self.now c.args.c.now _ (returns-then-is_same-clause-value c)).0

pub returns-else-is_same-clause-refuses : goal.returns-else-is_same-clause-refuses
returns-else-is_same-clause-refuses c = (opened_to c.args.self.now c.args.c.now _ (returns-else-is_same-clause-value c)).1
