use Rattle.std.proofs.Common.{◌≡◌, ℕ, ◌+◌, ◌-◌, ◌<◌, List, ◌∷◌, length, sym, ap, ◌∙◌, arith}
use Rattle.transcript_form.specs.Listed.{PostsLie, posts_of}
use Rattle.transcript_form.proofs.Listings.{walked}
use Rattle.transcript_form.proofs.listed.ListedPostsIterator.next.Goals as goal

pub invariant_of-self : goal.invariant_of-self
invariant_of-self c =
    (walked c.self.inside.left _ c.self.inside.rest.now _ _ _ _ c.if-self-eq0.false c.self.invariant c.split_at.ensures.front
    c.split_at.ensures.back c.from_be_bytes-length.ensures c.split_at-2.ensures.front c.split_at-2.ensures.back).0

pub returns-clause-steps : goal.returns-clause-steps
returns-clause-steps c =
    sym c.self.view_is ∙ (walked c.self.inside.left _ c.self.inside.rest.now _ _ _ _ c.if-self-eq0.false c.self.invariant
    c.split_at.ensures.front c.split_at.ensures.back c.from_be_bytes-length.ensures c.split_at-2.ensures.front
    c.split_at-2.ensures.back).1

pub returns-clause-goes : goal.returns-clause-goes
returns-clause-goes c =
    let shown = sym c.self.view_is ∙ (walked c.self.inside.left _ c.self.inside.rest.now _ _ _ _ c.if-self-eq0.false c.self.invariant
    c.split_at.ensures.front c.split_at.ensures.back c.from_be_bytes-length.ensures c.split_at-2.ensures.front
    c.split_at-2.ensures.back).1 in
    let fewer : length (posts_of (c.self.inside.left - 1) c.split_at-2.result.1.now) < length c.args.self.now = omega
    (arith, ap length shown) in
    record { on = λ finite. (tt, tt, fewer); keeps = tt; rests = λ finite. tt }
