use Rattle.std.proofs.Common.{◌≡◌, ◌*◌, length, vec_len}
use Rattle.std.specs.Io.KnownBytes.{Consumes}
use Rattle.tcp_link.proofs.frame.read_bytes.Given as goal

abbrev pub invariant-loop : goal.invariant-loop
invariant-loop g l =
    (length l.piece ≡ length l.fn.piece) × (vec_len l.bytes ≡ 16384 * l.counter)
    × Consumes (g.S.Read.remaining l.fn.stream) (g.S.Read.remaining l.stream) l.bytes.items
