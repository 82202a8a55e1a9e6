use Rattle.std.proofs.Common.{subst, sym}
use Rattle.std.specs.Io.KnownBytes.{Consumes}
use Rattle.tcp_link.proofs.frame.read_size.Goals as goal

pub returns : goal.returns
returns g c =
    subst (Consumes (g.S.Read.remaining c.args.stream.now) (g.S.Read.remaining c.read_exact.new.self)) (sym c.number_of.ensures) c.in_ok-read_exact.ensures.bytes
