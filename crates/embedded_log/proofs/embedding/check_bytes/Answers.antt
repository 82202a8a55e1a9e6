use Rattle.group_roster.specs.Given.{roster_of}
use Rattle.std.proofs.Common.{◌≡◌, sym, ap, ◌∙◌, arith}
use Rattle.wire_core.specs.Bytes.{IsBytes}
use Rattle.phase_message.specs.declared.post.Post.{Post}
use Rattle.phase_message.specs.Offence.{content_read, first_offence}
use Rattle.phase_message.specs.Shape.{Shape}
use Rattle.group_roster.specs.Roster.{Roster, shape_of_roster}
use Rattle.signed_post.specs.Frame.{FitsFrame}
use Rattle.signed_post.proofs.Frames.{framed-fits}
use Rattle.embedded_log.proofs.EmbeddedPosts.{admitted, checked-found, checked-offends, checked-refused, checked-unframed, framed_content, header-same, read_by, stands-there}
use Rattle.embedded_log.proofs.embedding.check_bytes.Goals as goal
use Rattle.embedded_log.proofs.embedding.check_bytes.Goals.{In-Ok, After-first_offence}

-- what was read as a frame
abbrev framed : In-Ok → Post
framed c = record { content = c.in-Ok.parts.content.now; signature = c.in-Ok.parts.signature.now }

-- its parts have lengths of a post
fits : (c : In-Ok) → FitsFrame (framed c)
fits c = framed-fits c.args.bytes.now (framed c) c.in-Ok.ensures

-- what was looked for is the first offence of its content
offence_is : (c : After-first_offence)
    → c.first_offence.result ≡ first_offence (shape_of_roster (roster_of c.args.roster.now)) c.in-Ok.parts.content.now
offence_is c = c.first_offence.ensures ∙ ap (λ (shape : Shape). first_offence shape c.in-Ok.parts.content.now) c.shape.ensures

pub returns-in_default-clause-value : goal.returns-in_default-clause-value
returns-in_default-clause-value c = checked-unframed (roster_of c.args.roster.now) c.args.round c.args.bytes.now c.in_default.field-0
    c.in_default.ensures

pub check_parts-requires-clause-least : goal.check_parts-requires-clause-least
check_parts-requires-clause-least c = (fits (goal.at.check_parts-requires-clause-least c).In-Ok).least

pub check_parts-requires-clause-most : goal.check_parts-requires-clause-most
check_parts-requires-clause-most c =
    omega (arith, (fits (goal.at.check_parts-requires-clause-most c).In-Ok).most)

pub check_parts-requires-clause-signature : goal.check_parts-requires-clause-signature
check_parts-requires-clause-signature c =
    omega (arith, (fits (goal.at.check_parts-requires-clause-signature c).In-Ok).most)

pub first_offence-requires : goal.first_offence-requires
first_offence-requires c = omega (arith, (fits (goal.at.first_offence-requires c).In-Ok).most)

pub returns-in_default-check_parts-clause-value : goal.returns-in_default-check_parts-clause-value
returns-in_default-check_parts-clause-value c =
    let post : Post = framed (goal.at.returns-in_default-check_parts-clause-value c).In-Ok in
    let bytes : IsBytes c.args.bytes.now = λ i. omega (arith, c.type_inv.bytes i) in
    checked-refused (roster_of c.args.roster.now) c.args.round c.args.bytes.now post c.in_default-check_parts.field-0 bytes c.in-Ok.ensures
    (sym c.in_default-check_parts.ensures)

pub returns-then-is_some-clause-value : goal.returns-then-is_some-clause-value
returns-then-is_some-clause-value c =
    let roster : Roster = roster_of c.args.roster.now in
    let here = goal.at.returns-then-is_some-clause-value c in
    let post : Post = framed here.In-Ok in
    let bytes : IsBytes c.args.bytes.now = λ i. omega (arith, c.type_inv.bytes i) in
    let offends = (read_by (content_read (shape_of_roster roster) post.content) c.first_offence.result (offence_is here.After-first_offence)).0
    (sym c.is_some.ensures ∙ c.if-is_some.true) in
    checked-offends roster c.args.round c.args.bytes.now post c.in-Ok-check_parts.header offends.0 bytes c.in-Ok.ensures
    (sym c.in-Ok-check_parts.ensures) offends.1

pub returns-clause-value : goal.returns-clause-value
returns-clause-value c =
    let roster : Roster = roster_of c.args.roster.now in
    let here = goal.at.returns-clause-value c in
    let post : Post = framed here.In-Ok in
    let bytes : IsBytes c.args.bytes.now = λ i. omega (arith, c.type_inv.bytes i) in
    let read = (read_by (content_read (shape_of_roster roster) post.content) c.first_offence.result (offence_is here.After-first_offence)).1
    (sym c.is_some.ensures ∙ c.if-is_some.false) in
    let there = admitted roster c.args.round c.args.bytes.now post c.in-Ok-check_parts.header bytes c.in-Ok.ensures
    (sym c.in-Ok-check_parts.ensures) in (
      read.0,
      checked-found roster c.args.round c.args.bytes.now post c.in-Ok-check_parts.header read.0 bytes c.in-Ok.ensures
          (sym c.in-Ok-check_parts.ensures) read.1,
      header-same roster c.args.round post c.in-Ok-check_parts.header read.0 there read.1,
    )

pub returns-clause-stands : goal.returns-clause-stands
returns-clause-stands c =
    let roster : Roster = roster_of c.args.roster.now in
    let here = goal.at.returns-clause-stands c in
    let post : Post = framed here.In-Ok in
    let bytes : IsBytes c.args.bytes.now = λ i. omega (arith, c.type_inv.bytes i) in
    let read = (read_by (content_read (shape_of_roster roster) post.content) c.first_offence.result (offence_is here.After-first_offence)).1
    (sym c.is_some.ensures ∙ c.if-is_some.false) in
    let there = admitted roster c.args.round c.args.bytes.now post c.in-Ok-check_parts.header bytes c.in-Ok.ensures
    (sym c.in-Ok-check_parts.ensures) in
    stands-there roster c.args.round post c.in-Ok-check_parts.header read.0 (framed_content c.args.bytes.now post bytes c.in-Ok.ensures)
    there read.1
