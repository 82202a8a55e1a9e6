use Rattle.std.proofs.Common.{◌≡◌, ℕ, ◌++◌, arith, length, subst}
use Rattle.std.specs.Int.{w32, to_be_bytes}
use Rattle.std.specs.Io.KnownBytes.{Consumes}
use Rattle.std.proofs.KnownBytes.{Consumes-trans}
use Rattle.tcp_link.proofs.frame.read_frame.Goals as goal

pub returns-clause-taken : goal.returns-clause-taken
returns-clause-taken g c =
    let bytes = c.in_ok-bytes.bytes in
    let same : c.in_ok-size.size ≡ length bytes.items = omega (arith, c.in_ok-bytes.ensures.whole, bytes.ok.0) in
    subst (λ (n : ℕ). Consumes (g.S.Read.remaining c.args.stream.now) (g.S.Read.remaining c.read_bytes.new.stream) (to_be_bytes w32 n ++ bytes.items)) same (Consumes-trans _ _ _ _ _ c.in_ok-size.ensures c.in_ok-bytes.ensures.taken)
