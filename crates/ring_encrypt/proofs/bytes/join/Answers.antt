use Rattle.std.proofs.Common.{◌-◌, ◌++◌, length, drop, arith, length-append, length-drop}
use Rattle.ring_encrypt.proofs.KeyLemmas.{joined}
use Rattle.ring_encrypt.proofs.bytes.join.Goals as goal

pub returns : goal.returns
returns c =
    let front = c.args.front.now in
    let bytes = c.args.bytes.now in
    rw (c.copy_from_slice.ensures.after, c.copy_from_slice-2.ensures.after)
    (joined front c.args.back.now bytes (length (front ++ drop (length front) bytes) - length front) c.requires
    (omega (arith, length-append front (drop (length front) bytes), length-drop (length front) bytes)))
