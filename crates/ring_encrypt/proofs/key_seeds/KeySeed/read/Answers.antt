use Rattle.std.proofs.Common.{◌≡◌, List, ℕ, take, drop, length, ◌≤◌, sym, ap, ◌∙◌, arith}
use Rattle.std.proofs.lemmas.List.{take_all, length-drop}
use Rattle.ring_poly.specs.Packing.{read_packed}
use Rattle.ring_encrypt.specs.Capsule.{secret_of}
use Rattle.ring_encrypt.proofs.OpeningLemmas.{sealed_reads, reads_decoded}
use Rattle.ring_encrypt.proofs.key_seeds.KeySeed.read.Goals as goal

-- the rest of a capsule's bytes, as the code takes it
back_of : (bytes capsule : List ℕ) → bytes ≡ capsule → length capsule ≡ 2240 → take 448 (drop 1792 bytes) ≡ drop 1792 capsule
back_of bytes capsule same long =
    let room : length (drop 1792 capsule) ≤ 448 = omega (arith, length-drop 1792 capsule) in
    ap (λ (b : List ℕ). take 448 (drop 1792 b)) same ∙ take_all 448 (drop 1792 capsule) room

pub returns-in_default-clause-refused : goal.returns-in_default-clause-refused
returns-in_default-clause-refused c = λ key m sealed.
    let front = ap (λ (bytes : List ℕ). read_packed (take 1792 bytes)) (sym c.bytes-bytes.ensures.value) in
    (sealed_reads c.args.c.now key m sealed).0 c.in_default.field-0 (front ∙ sym c.unpack.ensures.value ∙ c.in_default.is)

pub returns-in_default-unpack_short-clause-refused : goal.returns-in_default-unpack_short-clause-refused
returns-in_default-unpack_short-clause-refused c = λ key m sealed.
    let back = ap read_packed (sym (back_of c.bytes-bytes.result.now c.args.c.now c.bytes-bytes.ensures.value c.bytes-bytes.ensures.length))
    in
    (sealed_reads c.args.c.now key m sealed).1 c.in_default-unpack_short.field-0
    (back ∙ sym c.unpack_short.ensures.value ∙ c.in_default-unpack_short.is)

pub returns-clause-value : goal.returns-clause-value
returns-clause-value c =
    let bytes = c.bytes-bytes.result.now in
    let secret = c.self.invariant.1 ∙ ap secret_of c.self.view_is in
    reads_decoded c.args.self.now c.args.c.now (take 1792 bytes) (take 448 (drop 1792 bytes)) c.in-Ok.u c.in-Ok-unpack_short.v c.mul.result
    c.read_message.result
    (ap (λ (b : List ℕ). take 1792 b) c.bytes-bytes.ensures.value)
    (back_of bytes c.args.c.now c.bytes-bytes.ensures.value c.bytes-bytes.ensures.length)
    (sym c.unpack.ensures.value ∙ c.in-Ok.is)
    (sym c.unpack_short.ensures.value ∙ c.in-Ok-unpack_short.is)
    (rw secret at c.mul.ensures.value)
    c.read_message.ensures
