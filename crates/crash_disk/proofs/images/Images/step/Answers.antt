use Rattle.crash_disk.proofs.Picked.{write_small, wrote_is}
use Rattle.crash_disk.proofs.images.Images.step.Goals as goal

pub returns-in-Wrote : goal.returns-in-Wrote
returns-in-Wrote c =
    wrote_is c.args.self.now _ _ c.args.step.now c.in-Wrote.at c.in-Wrote.size c.in-Wrote.bytes c.in-Wrote.is
    (write_small c.args.self.now.file c.args.step.now c.in-Wrote.at c.in-Wrote.size c.in-Wrote.bytes c.in-Wrote.is c.requires.fits)
    c.write.ensures c.write-in-Wrote.ensures
