use Rattle.std.proofs.Common.{arith, subst, sym, ◌∙◌}
use Rattle.std.specs.Io.KnownBytes.{Consumes}
use Rattle.std.proofs.KnownBytes.{Consumes-trans}
use Rattle.tcp_link.proofs.frame.read_bytes.Goals as goal

pub loop-preserved : goal.loop-preserved
loop-preserved g c =
    let made = c.in_ok-read_front.ensures in (
      made.room ∙ c.loop.invariant.0,
      omega (arith, made.longer, c.loop.invariant.1),
      subst (Consumes _ _) (sym made.kept) (Consumes-trans _ _ _ _ _ c.loop.invariant.2 made.taken),
    )
