use Rattle.std.proofs.Common.{◌-◌, length, refl, arith}
use Rattle.ring_encrypt.proofs.KeyLemmas.{key_refused, refused_is_no_key, key_read}
use Rattle.ring_encrypt.proofs.public_keys.read_key.Goals as goal

pub returns-in-Err-clause-ok : goal.returns-in-Err-clause-ok
returns-in-Err-clause-ok c =
    let refused = key_refused c.args.b.now (length c.args.b.now - 32) c.unpack.result c.in-Err.refusal c.requires (omega arith)
    c.unpack.ensures.value c.in-Err.is in
    (λ e. cc, λ key. absurd (refused_is_no_key c.args.b.now c.in-Err.refusal refused key))

pub returns-in-Err-clause-refusal : goal.returns-in-Err-clause-refusal
returns-in-Err-clause-refusal c = key_refused c.args.b.now (length c.args.b.now - 32) c.unpack.result c.in-Err.refusal c.requires
    (omega arith) c.unpack.ensures.value c.in-Err.is

pub invariant_of-result : goal.invariant_of-result
invariant_of-result c = rw c.copy_from_slice.ensures.after (key_read c.args.b.now (length c.args.b.now - 32) c.unpack.result
    c.in_default.field-0 c.requires (omega arith) c.unpack.ensures.value c.in_default.is)

pub returns-clause-ok : goal.returns-clause-ok
returns-clause-ok c =
    let key = key_read c.args.b.now (length c.args.b.now - 32) c.unpack.result c.in_default.field-0 c.requires (omega arith)
    c.unpack.ensures.value c.in_default.is in
    (λ e. key, λ e. refl)
