use Rattle.std.proofs.Common.{◌≡◌, ℕ, List, length, ap, arith}
use Rattle.shuffle_blame.proofs.Shorts.{short_body}
use Rattle.honest_say.proofs.said.body_kept.Goals as goal

pub returns-in-Ok-clause-short : goal.returns-in-Ok-clause-short
returns-in-Ok-clause-short c =
    let same : c.deref.result.now ≡ c.in-Some.post.now.content = cc in
    let kept = c.in-Some.ensures.content in
    short_body c.in-Ok.content c.deref.result.now c.in-Ok.ensures.found.1 (omega (arith, kept.most, ap (λ (b : List ℕ). length b) same))
