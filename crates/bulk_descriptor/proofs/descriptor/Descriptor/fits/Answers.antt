use Rattle.std.proofs.Common.{◌-◌, arith}
use Rattle.bulk_descriptor.specs.Fields.{description_of}
use Rattle.bulk_descriptor.proofs.CodeLemmas.{fits_as_told, fits_no_length, item_read}
use Rattle.bulk_descriptor.proofs.descriptor.Descriptor.fits.Goals as goal

pub returns-then-pad-self : goal.returns-then-pad-self
returns-then-pad-self c =
    let d = c.args.self.now in
    fits_as_told (description_of d) c.args.member c.args.pad.now c.index.result.now c.is_hashed_to.result c.if-pad-self.true
    c.is_hashed_to.ensures
    (item_read d.pad_hashes c.items.result.now.items (c.args.member - 1) c.index.result.now c.items.ensures
    (omega (arith, c.requires.first, c.requires.last)) c.index.ensures)

pub returns-else-pad-self : goal.returns-else-pad-self
returns-else-pad-self c = fits_no_length (description_of c.args.self.now) c.args.member c.args.pad.now c.if-pad-self.false
