use Rattle.group_roster.specs.Given.{roster_of}
use Rattle.std.proofs.Common.{arith, sym}
use Rattle.wire_core.specs.Bytes.{IsBytes}
use Rattle.phase_message.specs.declared.post.Post.{Post}
use Rattle.signed_post.proofs.Frames.{framed-bytes, framed-fits}
use Rattle.signed_post.proofs.Admits.{admit-found}
use Rattle.judge_core.proofs.hearing.hear.Goals as goal

pub check_parts-requires-clause-least : goal.check_parts-requires-clause-least
check_parts-requires-clause-least c =
    (framed-fits c.args.bytes.now (record { content = c.in-Ok.parts.content.now; signature = c.in-Ok.parts.signature.now })
    c.in-Ok.ensures).least

pub check_parts-requires-clause-most : goal.check_parts-requires-clause-most
check_parts-requires-clause-most c =
    let fits = framed-fits c.args.bytes.now (record { content = c.in-Ok.parts.content.now; signature = c.in-Ok.parts.signature.now })
    c.in-Ok.ensures in
    omega (arith, fits.most)

pub check_parts-requires-clause-signature : goal.check_parts-requires-clause-signature
check_parts-requires-clause-signature c =
    let fits = framed-fits c.args.bytes.now (record { content = c.in-Ok.parts.content.now; signature = c.in-Ok.parts.signature.now })
    c.in-Ok.ensures in
    omega (arith, fits.most)

pub is_asked-requires-clause-slot : goal.is_asked-requires-clause-slot
is_asked-requires-clause-slot c =
    let post : Post = record { content = c.in-Ok.parts.content.now; signature = c.in-Ok.parts.signature.now } in
    let bytes : IsBytes c.args.bytes.now = λ i. omega (arith, c.type_inv.bytes i) in
    let fits = framed-fits c.args.bytes.now post c.in-Ok.ensures in
    (admit-found (roster_of c.args.case.roster.now) c.args.case.round post c.in-Ok-check_parts.header fits
    (framed-bytes c.args.bytes.now post bytes c.in-Ok.ensures) (sym c.in-Ok-check_parts.ensures)).slot

pub returns-clause-short : goal.returns-clause-short
returns-clause-short c =
    let fits = framed-fits c.args.bytes.now (record { content = c.in-Ok.parts.content.now; signature = c.in-Ok.parts.signature.now })
    c.in-Ok.ensures in
    omega (arith, fits.most)
