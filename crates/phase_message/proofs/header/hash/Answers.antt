use Rattle.std.proofs.Common.{sym}
use Rattle.phase_message.proofs.Fields.{bytes_at-length}
use Rattle.phase_message.proofs.header.hash.Goals as goal

pub copy_from_slice-requires : goal.copy_from_slice-requires
copy_from_slice-requires c = sym (bytes_at-length 32 _ _ c.in_ok-bytes.ensures.read)
