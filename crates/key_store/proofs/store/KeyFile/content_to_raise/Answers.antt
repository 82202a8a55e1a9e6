use Rattle.std.proofs.Common.{ap, sym, ◌∙◌}
use Rattle.key_store.specs.Store.{KeyState}
use Rattle.key_store.proofs.Keys.{is_exhausted, is_of, is_old, may_begin}
use Rattle.key_store.proofs.store.KeyFile.content_to_raise.Goals as goal

pub returns-then-round-last-clause-refused : goal.returns-then-round-last-clause-refused
returns-then-round-last-clause-refused c =
    is_old c.args.self.now c.in-Ok.content c.args.round c.args.leaves
    (is_of c.args.self.now c.self.inside.image c.self.inside.secret c.self.inside.failed c.in-Ok.content c.self.view_is
    (c.self.invariant c.if-self.false) (sym c.in-Ok.ensures.value))
    (sym (ap (λ (k : KeyState). k.failed) c.self.view_is) ∙ c.if-self.false) c.if-round-last.true

pub returns-then-leaves-next-clause-refused : goal.returns-then-leaves-next-clause-refused
returns-then-leaves-next-clause-refused c =
    is_exhausted c.args.self.now c.in-Ok.content c.args.round c.args.leaves
    (is_of c.args.self.now c.self.inside.image c.self.inside.secret c.self.inside.failed c.in-Ok.content c.self.view_is
    (c.self.invariant c.if-self.false) (sym c.in-Ok.ensures.value))
    (sym (ap (λ (k : KeyState). k.failed) c.self.view_is) ∙ c.if-self.false) c.leaves.result c.leaves.ensures
    c.if-round-last.false c.if-leaves-next.true

pub returns-clause-raisable : goal.returns-clause-raisable
returns-clause-raisable c =
    may_begin c.args.self.now c.in-Ok.content c.args.round c.args.leaves
    (is_of c.args.self.now c.self.inside.image c.self.inside.secret c.self.inside.failed c.in-Ok.content c.self.view_is
    (c.self.invariant c.if-self.false) (sym c.in-Ok.ensures.value))
    (sym (ap (λ (k : KeyState). k.failed) c.self.view_is) ∙ c.if-self.false) c.leaves.result c.leaves.ensures
    c.if-round-last.false c.if-leaves-next.false
    c.in-Ok.ensures.within
