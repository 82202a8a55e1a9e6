use Rattle.std.proofs.Common.{sym, arith}
use Rattle.phase_message.proofs.Fields.{bytes_at-length}
use Rattle.phase_message.proofs.field.key.Goals as goal

pub split_at-requires : goal.split_at-requires
split_at-requires c = let long = bytes_at-length 1824 _ _ c.in_ok-bytes.ensures.read in omega arith

pub bad_group-requires : goal.bad_group-requires
bad_group-requires c =
    let long = bytes_at-length 1824 _ _ c.in_ok-bytes.ensures.read in
    omega (arith, c.split_at.ensures.back_len)

pub copy_from_slice-requires : goal.copy_from_slice-requires
copy_from_slice-requires c = sym (bytes_at-length 1824 _ _ c.in_ok-bytes.ensures.read)
