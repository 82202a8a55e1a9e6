use Rattle.std.proofs.Common.{◌≡◌, ℕ, ◌+◌, ◌-◌, ◌≤◌, List, true, Some, ap, sym, ◌∙◌, arith}
use Rattle.std.specs.Prelude.{unwrap_or}
use Rattle.std.proofs.lemmas.List.{length-map}
use Rattle.phase_message.specs.Shape.{Shape}
use Rattle.shuffle_blame.specs.declared.fault.Cause.TheVariants.{Submission}
use Rattle.shuffle_blame.specs.declared.parts.Part.{Part}
use Rattle.shuffle_blame.specs.Rules.{inquiry_at}
use Rattle.shuffle_blame.specs.Laws.{IsMember}
use Rattle.shuffle_blame.specs.Replay.{Inquiry, fault, has_layer, inside, submission}
use Rattle.shuffle_blame.proofs.Looks.{layer-told}
use Rattle.shuffle_blame.proofs.Loops.{all_pass, one_fails, up_to}
use Rattle.shuffle_blame.proofs.Steps.{layer-next, layer-stops, nothing-off}
use Rattle.shuffle_blame.proofs.submissions.wrong_layer.Goals as goal

pub loop-layer-init : goal.loop-layer-init
loop-layer-init c =
    let q : Inquiry = inquiry_at c.args.log.now c.args.ended c.args.parts.now in (
      nothing-off q c.args.member ∙ ap (λ (bytes : List ℕ). Some bytes) (sym c.requires.said),
      c.requires.short,
      λ earlier least lt. absurd
          (omega arith),
    )

pub returns-in_default : goal.returns-in_default
returns-in_default c =
    let q : Inquiry = inquiry_at c.args.log.now c.args.ended c.args.parts.now in
    let shuffle : ℕ = c.args.ended.shuffle in
    let layer : ℕ = c.loop-layer.layer in
    let bytes : List ℕ = unwrap_or c.loop-layer.inside c.args.bytes.now in
    let members = ap (λ (shape : Shape). shape.members) c.shape-shape.ensures.shape in
    let is : IsMember q layer = record { least = omega arith; most = omega (arith, members) } in
    let told = layer-told c.args.log.now c.args.ended c.args.parts.now c.args.member layer c.in_ok-body.field-0 bytes
    c.from.result c.from-in-loop-layer.result c.index-parts-from.result c.index-parts-from-in-loop-layer.result c.layer_seed-m.result
    c.rest_of.result.now
    c.requires.is_end c.requires.least c.requires.most is.least is.most
    c.from.ensures c.index-parts-from.is c.from-in-loop-layer.ensures c.index-parts-from-in-loop-layer.is c.layer_seed-m.ensures
    c.rest_of.ensures c.in_ok-body.ensures.value in
    sym (one_fails q (has_layer q shuffle c.args.member) (λ layer. fault (Submission layer) c.args.member) layer is c.loop-layer.invariant.2
    (layer-stops q shuffle c.args.member layer bytes c.loop-layer.invariant.0 (sym c.in_default.is ∙ told)))

pub loop-layer-preserved : goal.loop-layer-preserved
loop-layer-preserved c =
    let q : Inquiry = inquiry_at c.args.log.now c.args.ended c.args.parts.now in
    let shuffle : ℕ = c.args.ended.shuffle in
    let layer : ℕ = c.loop-layer.layer in
    let bytes : List ℕ = unwrap_or c.loop-layer.inside c.args.bytes.now in
    let members = ap (λ (shape : Shape). shape.members) c.shape-shape.ensures.shape in
    let least : 1 ≤ layer = omega arith in
    let most : layer ≤ c.args.log.now.shape.members = omega (arith, members) in
    let told = layer-told c.args.log.now c.args.ended c.args.parts.now c.args.member layer c.in_ok-body.field-0 bytes
    c.from.result c.from-in-loop-layer.result c.index-parts-from.result c.index-parts-from-in-loop-layer.result c.layer_seed-m.result
    c.rest_of.result.now
    c.requires.is_end c.requires.least c.requires.most least most
    c.from.ensures c.index-parts-from.is c.from-in-loop-layer.ensures c.index-parts-from-in-loop-layer.is c.layer_seed-m.ensures
    c.rest_of.ensures c.in_ok-body.ensures.value in
    let next = layer-next q shuffle c.args.member layer bytes c.in-Some.body least
    (omega (arith, most, c.requires.is_end.each_shows, length-map c.args.parts.now (λ (part : Part). part.shown)))
    c.loop-layer.invariant.0 (sym c.in-Some.is ∙ told) in
    let short = rw c.in-Some.is at c.in_ok-body.ensures.short in
    let place : layer + 1 - 1 ≡ layer = omega arith in (
      ap (inside q (submission q c.args.member)) place ∙ next.0,
      short,
      up_to (λ (layer : ℕ). has_layer q shuffle c.args.member layer ≡ true) layer c.loop-layer.invariant.2 next.1,
    )

pub returns : goal.returns
returns c =
    let q : Inquiry = inquiry_at c.args.log.now c.args.ended c.args.parts.now in
    let members = ap (λ (shape : Shape). shape.members) c.shape-shape.ensures.shape in
    sym (all_pass q (has_layer q c.args.ended.shuffle c.args.member) (λ layer. fault (Submission layer) c.args.member)
    (λ layer least most. c.loop-layer.invariant.2 layer least (omega (arith, members))))
