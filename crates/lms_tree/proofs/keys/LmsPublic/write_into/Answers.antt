use Rattle.std.proofs.Common.{arith}
use Rattle.lms_tree.proofs.Blocks.{key_written}
use Rattle.lms_tree.proofs.keys.LmsPublic.write_into.Goals as goal

pub returns : goal.returns
returns c =
    rw (
      ← c.number.ensures,
      ← c.number-2.ensures,
      ← c.u32str.ensures,
      ← c.u32str-2.ensures,
      ← c.copy_from_slice.ensures.after,
      ← c.copy_from_slice-2.ensures.after,
      ← c.copy_from_slice-3.ensures.after,
      ← c.copy_from_slice-4.ensures.after,
    )
    (key_written c.args.b.now c.copy_from_slice.new.self c.copy_from_slice-2.new.self
    c.copy_from_slice-3.new.self c.copy_from_slice-4.new.self
    (omega arith) (omega arith) (omega arith) (omega arith) (omega arith))
