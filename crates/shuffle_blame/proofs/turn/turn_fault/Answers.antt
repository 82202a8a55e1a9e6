use Rattle.std.proofs.Common.{◌≡◌, ℕ, ◌+◌, ◌-◌, ◌≤◌, true, Some, None, ap, sym, ◌∙◌, arith}
use Rattle.phase_message.specs.Shape.{Shape}
use Rattle.shuffle_blame.specs.declared.fault.Cause.TheVariants.{Shuffle}
use Rattle.shuffle_blame.specs.Rules.{inquiry_at}
use Rattle.shuffle_blame.specs.Laws.{IsMember}
use Rattle.shuffle_blame.specs.Replay.{Inquiry, fault, is_turn, list_after}
use Rattle.shuffle_blame.proofs.Looks.{turn-told}
use Rattle.shuffle_blame.proofs.Loops.{all_pass, one_fails, up_to}
use Rattle.shuffle_blame.proofs.Steps.{turn-next, turn-stops}
use Rattle.shuffle_blame.proofs.turn.turn_fault.Goals as goal

pub returns-in_default : goal.returns-in_default
returns-in_default c =
    let q : Inquiry = inquiry_at c.args.log.now c.args.ended c.args.parts.now in
    let turn : ℕ = c.loop-turn.turn in
    let members = ap (λ (shape : Shape). shape.members) c.shape-shape.ensures.shape in
    let is : IsMember q turn = record { least = omega arith; most = omega (arith, members) } in
    let first : c.submit_stage-first.result ≡ c.args.ended.stage - (c.args.log.now.shape.members + 2) = c.submit_stage-first.ensures
    ∙ ap (λ (n : ℕ). c.args.ended.stage - (n + 2)) members in
    let found = rw c.in_default.is at c.in_ok-output.ensures.value in
    let told = turn-told c.args.log.now c.args.ended c.args.parts.now turn c.submit_stage-first.result None c.deref.result.now
    c.loop-turn.input.items
    c.from.result c.index-parts-from.result c.requires.is_end is.least is.most first c.from.ensures c.index-parts-from.is
    c.deref.ensures.value found in
    sym (one_fails q (is_turn q) (fault Shuffle) turn is c.loop-turn.invariant.2
    (turn-stops q turn c.loop-turn.input.items is.least c.loop-turn.invariant.0 told))

pub loop-turn-preserved : goal.loop-turn-preserved
loop-turn-preserved c =
    let q : Inquiry = inquiry_at c.args.log.now c.args.ended c.args.parts.now in
    let turn : ℕ = c.loop-turn.turn in
    let members = ap (λ (shape : Shape). shape.members) c.shape-shape.ensures.shape in
    let least : 1 ≤ turn = omega arith in
    let most : turn ≤ c.args.log.now.shape.members = omega (arith, members) in
    let first : c.submit_stage-first.result ≡ c.args.ended.stage - (c.args.log.now.shape.members + 2) = c.submit_stage-first.ensures
    ∙ ap (λ (n : ℕ). c.args.ended.stage - (n + 2)) members in
    let found = rw c.in-Some.is at c.in_ok-output.ensures.value in
    let told = turn-told c.args.log.now c.args.ended c.args.parts.now turn c.submit_stage-first.result (Some c.in-Some.output.items)
    c.deref.result.now c.loop-turn.input.items
    c.from.result c.index-parts-from.result c.requires.is_end least most first c.from.ensures c.index-parts-from.is c.deref.ensures.value
    found in
    let next = turn-next q turn c.loop-turn.input.items c.in-Some.output.items least c.loop-turn.invariant.0 told in
    let short = rw c.in-Some.is at c.in_ok-output.ensures.short in
    let place : turn + 1 - 1 ≡ turn = omega arith in
    (ap (list_after q) place ∙ next.1, short, up_to (λ (turn : ℕ). is_turn q turn ≡ true) turn c.loop-turn.invariant.2 next.0)

pub returns : goal.returns
returns c =
    let q : Inquiry = inquiry_at c.args.log.now c.args.ended c.args.parts.now in
    let members = ap (λ (shape : Shape). shape.members) c.shape-shape.ensures.shape in
    sym (all_pass q (is_turn q) (fault Shuffle) (λ turn least most. c.loop-turn.invariant.2 turn least (omega (arith, members))))
