use Rattle.std.proofs.Common.{List, ℕ, ap, ◌∙◌}
use Rattle.ring_encrypt.specs.Opening.{opened}
use Rattle.ring_encrypt.proofs.Exactness.{opened_to}
use Rattle.ring_encrypt.proofs.key_seeds.open_seed.Goals as goal

pub returns-clause-opens : goal.returns-clause-opens
returns-clause-opens c = (opened_to c.args.seed.now c.args.c.now c.open_with-m.result
    (c.open_with-m.ensures.value ∙ ap (λ (seed : List ℕ). opened seed c.args.c.now) c.new-key.ensures)).0

pub returns-clause-refuses : goal.returns-clause-refuses
returns-clause-refuses c = (opened_to c.args.seed.now c.args.c.now c.open_with-m.result
    (c.open_with-m.ensures.value ∙ ap (λ (seed : List ℕ). opened seed c.args.c.now) c.new-key.ensures)).1
