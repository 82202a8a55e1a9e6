use Rattle.std.proofs.Common.{◌∙◌}
use Rattle.group_spec.specs.Alterations.{with_bit_changed}
use Rattle.faulty_member.proofs.Changes.{changed-taken}
use Rattle.faulty_member.proofs.bits.change_first_in.Goals as goal

pub returns-then-place-len : goal.returns-then-place-len
returns-then-place-len c = changed-taken (with_bit_changed 0) c.args.items.now.items c.taken-bytes.new.items.items c.args.place
    c.taken-bytes.result.items c.of.result
    c.taken-bytes.ensures.others c.taken-bytes.ensures.item (c.of.ensures ∙ c.with_bit_changed.ensures)
