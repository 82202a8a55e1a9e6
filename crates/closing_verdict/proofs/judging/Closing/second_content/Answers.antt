use Rattle.std.proofs.Common.{◌≡◌, ℕ, ◌+◌, ◌-◌, ◌<◌, ◌≤◌, ◌^◌, List, [], ap, sym, ◌∙◌, subst, arith, length, get_or}
use Rattle.phase_message.specs.Shape.{Shape}
use Rattle.phase_message.specs.Slots.{slot_number}
use Rattle.phase_message.specs.Stages.{shape_of}
use Rattle.phase_message.proofs.SlotBounds.{slot-bounds}
use Rattle.go_nogo.specs.Closing.{posts_embedded}
use Rattle.embedded_log.specs.Embedding.{first_embedded}
use Rattle.closing_verdict.specs.Judgement.{Completed, completed_of}
use Rattle.closing_verdict.proofs.SecondContents.{IsEmbedded, embedded-short, kept-within, nothing-told, second-told}
use Rattle.closing_verdict.proofs.judging.Closing.second_content.Goals as goal

pub returns-in_default : goal.returns-in_default
returns-in_default c =
    let of : Completed = completed_of c.args.self in
    let e : IsEmbedded of c.args.content.now c.args.embedded.now = record
    { grammar = c.requires.grammar; stage_is = c.requires.stage; keeps = c.requires.embeds } in
    nothing-told of c.requires.closing.complete c.args.content.now c.args.embedded.now e c.in_default.ensures.first

pub embedded_for-other-requires-clause-first : goal.embedded_for-other-requires-clause-first
embedded_for-other-requires-clause-first c =
    let of : Completed = completed_of c.args.self in
    let e : IsEmbedded of c.args.content.now c.args.embedded.now = record
    { grammar = c.requires.grammar; stage_is = c.requires.stage; keeps = c.requires.embeds } in
    let differ = c.in-Some.ensures.first.differ in
    let range = kept-within of c.requires.closing.complete c.args.content.now c.args.embedded.now e c.in-Some.slot differ.post differ.kept
    in
    let shape : of.log.shape ≡ shape_of c.shape.result = c.requires.closing.complete.shape ∙ sym c.shape.ensures in
    subst (λ (s : Shape). first_embedded s c.args.content.now ≤ slot_number s c.in-Some.slot.stage c.in-Some.slot.sender) shape range.1

pub embedded_for-other-requires-clause-last : goal.embedded_for-other-requires-clause-last
embedded_for-other-requires-clause-last c =
    let of : Completed = completed_of c.args.self in
    let e : IsEmbedded of c.args.content.now c.args.embedded.now = record
    { grammar = c.requires.grammar; stage_is = c.requires.stage; keeps = c.requires.embeds } in
    let differ = c.in-Some.ensures.first.differ in
    let range = kept-within of c.requires.closing.complete c.args.content.now c.args.embedded.now e c.in-Some.slot differ.post differ.kept
    in
    let shape : of.log.shape ≡ shape_of c.shape.result = c.requires.closing.complete.shape ∙ sym c.shape.ensures in
    subst (λ (s : Shape). slot_number s c.in-Some.slot.stage c.in-Some.slot.sender < first_embedded s c.args.content.now + length
    (posts_embedded c.args.content.now.body)) shape range.2

pub contradicted-requires-clause-least : goal.contradicted-requires-clause-least
contradicted-requires-clause-least c =
    let of : Completed = completed_of c.args.self in
    let e : IsEmbedded of c.args.content.now c.args.embedded.now = record
    { grammar = c.requires.grammar; stage_is = c.requires.stage; keeps = c.requires.embeds } in
    let differ = c.in-Some.ensures.first.differ in
    let range = kept-within of c.requires.closing.complete c.args.content.now c.args.embedded.now e c.in-Some.slot differ.post differ.kept
    in
    let bounds = slot-bounds of.log.shape c.in-Some.slot.stage c.in-Some.slot.sender range.0 in
    omega (arith, bounds.1)

pub contradicted-requires-clause-most : goal.contradicted-requires-clause-most
contradicted-requires-clause-most c =
    let of : Completed = completed_of c.args.self in
    let e : IsEmbedded of c.args.content.now c.args.embedded.now = record
    { grammar = c.requires.grammar; stage_is = c.requires.stage; keeps = c.requires.embeds } in
    let differ = c.in-Some.ensures.first.differ in
    let range = kept-within of c.requires.closing.complete c.args.content.now c.args.embedded.now e c.in-Some.slot differ.post differ.kept
    in
    let bounds = slot-bounds of.log.shape c.in-Some.slot.stage c.in-Some.slot.sender range.0 in
    omega (arith, bounds.2, c.requires.closing.complete.form.shape.most)

pub contradicted-requires-clause-short : goal.contradicted-requires-clause-short
contradicted-requires-clause-short c =
    let of : Completed = completed_of c.args.self in
    let short = embedded-short of.log.shape c.args.content.now
    (slot_number (shape_of c.shape.result) c.in-Some.slot.stage c.in-Some.slot.sender - first_embedded (shape_of c.shape.result)
    c.args.content.now) c.requires.grammar in
    subst (λ (b : List ℕ). length b < 2 ^ 32) (sym c.embedded_for-other.ensures) short

pub returns : goal.returns
returns c =
    let of : Completed = completed_of c.args.self in
    let e : IsEmbedded of c.args.content.now c.args.embedded.now = record
    { grammar = c.requires.grammar; stage_is = c.requires.stage; keeps = c.requires.embeds } in
    let shape : shape_of c.shape.result ≡ of.log.shape = c.shape.ensures ∙ sym c.requires.closing.complete.shape in
    let bytes : c.embedded_for-other.result.now ≡ get_or (posts_embedded c.args.content.now.body)
    (slot_number of.log.shape c.in-Some.slot.stage c.in-Some.slot.sender - first_embedded of.log.shape c.args.content.now) []
    = c.embedded_for-other.ensures
    ∙ ap (λ (s : Shape). get_or (posts_embedded c.args.content.now.body)
    (slot_number s c.in-Some.slot.stage c.in-Some.slot.sender - first_embedded s c.args.content.now) []) shape in
    second-told of c.requires.closing.complete c.args.content.now c.args.embedded.now e c.in-Some.slot c.in-Some.ensures.first
    c.in-Some-kept.kept.now c.embedded_for-other.result.now c.in_ok-conviction.conviction (sym c.in-Some-kept.ensures.post) bytes
    c.in_ok-conviction.ensures
