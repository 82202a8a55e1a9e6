use Rattle.std.proofs.Common.{◌≡◌, ◌∙◌, ap, refl, arith}
use Rattle.group_roster.specs.Binary.{keys_at}
use Rattle.group_roster.proofs.Keys.{keys_at-more}
use Rattle.group_roster.proofs.binary.keys.Goals as goal

pub loop-k-preserved : goal.loop-k-preserved
loop-k-preserved c = rw (c.in_ok-push.ensures.items, c.loop-k.invariant, c.key_at.ensures, keys_at-more c.args.bytes.now c.loop-k.k) refl

pub returns : goal.returns
returns c =
    let all : c.loop-k.k ≡ c.args.size = omega arith in
    c.loop-k.invariant ∙ ap (keys_at c.args.bytes.now) all
