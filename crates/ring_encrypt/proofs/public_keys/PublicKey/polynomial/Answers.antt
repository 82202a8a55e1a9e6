use Rattle.std.proofs.Common.{◌≡◌, List, ℕ, drop, ap, ◌∙◌, Ok, arith}
use Rattle.ring_poly.specs.Packing.{unpacked}
use Rattle.ring_encrypt.proofs.KeyLemmas.{key_reads}
use Rattle.ring_encrypt.proofs.public_keys.PublicKey.polynomial.Goals as goal

pub unreachable-requires : goal.unreachable-requires
unreachable-requires c =
    let reads : c.unpack.result ≡ Ok (unpacked (drop 32 c.self.inside.bytes)) = key_reads c.self.inside.bytes 1792 c.unpack.result
    c.self.invariant c.unpack.ensures.value (omega (arith, c.self.invariant.length)) in
    cc

pub returns : goal.returns
returns c =
    let reads : c.unpack.result ≡ Ok (unpacked (drop 32 c.self.inside.bytes)) = key_reads c.self.inside.bytes 1792 c.unpack.result
    c.self.invariant c.unpack.ensures.value (omega (arith, c.self.invariant.length)) in
    let is : c.in-Ok.polynomial ≡ unpacked (drop 32 c.self.inside.bytes) = cc in
    is ∙ ap (λ (bytes : List ℕ). unpacked (drop 32 bytes)) c.self.view_is
