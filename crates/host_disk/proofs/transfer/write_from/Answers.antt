use Rattle.std.proofs.Common.{ap, sym, ◌∙◌}
use Rattle.host_disk.specs.Placed.{told_in}
use Rattle.host_disk.proofs.Calls.{not_begun, on_err}
use Rattle.host_disk.proofs.transfer.write_from.Goals as goal

pub returns-in_err-seek_to-clause-part : goal.returns-in_err-seek_to-clause-part
returns-in_err-seek_to-clause-part g c =
    let told = g.F.PlacedFile.told in
    on_err c.from_residual.result (not_begun (told_in told c.args.file.now) (told c.seek_to.new.self) c.args.at c.args.bytes.now
    (c.in_err-seek_to.ensures.kept ∙ sym (ap (told_in told) c.in-Some.is)))
