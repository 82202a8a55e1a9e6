use Rattle.group_roster.specs.Given.{roster_of}
use Rattle.std.proofs.Common.{◌≡◌, ℕ, List, Result, Ok, refl, sym, ap, ◌∙◌}
use Rattle.phase_message.specs.declared.post.Post.{Post}
use Rattle.phase_message.specs.Shape.{Shape}
use Rattle.phase_message.specs.Slots.{slot_number}
use Rattle.round_spec.specs.Embedded.{WhyNot}
use Rattle.embedded_log.specs.Embedding.{post_checked}
use Rattle.embedded_log.proofs.EmbeddedPosts.{placed-elsewhere, placed-there, placed-unchecked}
use Rattle.embedded_log.proofs.embedding.post_for.Goals as goal

pub returns-in_default-clause-value : goal.returns-in_default-clause-value
returns-in_default-clause-value c = λ slot at. placed-unchecked (roster_of c.args.roster.now) c.args.round slot c.args.bytes.now
    c.in_default.ensures.value

pub returns-then-slot_number-number-clause-value : goal.returns-then-slot_number-number-clause-value
returns-then-slot_number-number-clause-value c = λ slot at.
    let checked = c.in-Some.checked in
    let is = c.slot_number.ensures ∙ ap (λ (shape : Shape). slot_number shape checked.header.stage checked.header.sender) c.shape.ensures in
    let value = c.in-Some.ensures.value in
    placed-elsewhere (roster_of c.args.roster.now) c.args.round c.args.number slot c.args.bytes.now (post_checked checked) value.0
    checked.header value.1 value.2 at (λ same. c.if-slot_number-number.true (is ∙ same))

pub returns-clause-value : goal.returns-clause-value
returns-clause-value c = λ slot at.
    let checked = c.in-Some.checked in
    let is = c.slot_number.ensures ∙ ap (λ (shape : Shape). slot_number shape checked.header.stage checked.header.sender) c.shape.ensures in
    let value = c.in-Some.ensures.value in
    placed-there (roster_of c.args.roster.now) c.args.round c.args.number slot c.args.bytes.now (post_checked checked) value.0
    checked.header value.1 value.2 c.in-Some.ensures.stands.there at (sym is ∙ c.if-slot_number-number.false)
    ∙ ap post_ok (same_post (post_checked checked) c.of.result c.of-2.result (c.of.ensures ∙ c.in_ok-from_slice.ensures.items)
    (c.of-2.ensures ∙ c.in_ok-from_slice-2.ensures.items))
  where
    post_ok : Post → Result Post WhyNot
    post_ok p = Ok p

    same_post : (p : Post) (content signature : List ℕ) → content ≡ p.content → signature ≡ p.signature
        → p ≡ record { content = content; signature = signature }
    same_post p content signature e1 e2 = rw (e1, e2) refl

pub returns-clause-numbered : goal.returns-clause-numbered
returns-clause-numbered c =
    let checked = c.in-Some.checked in
    sym (c.slot_number.ensures ∙ ap (λ (shape : Shape). slot_number shape checked.header.stage checked.header.sender) c.shape.ensures)
    ∙ c.if-slot_number-number.false
