use Rattle.std.proofs.Common.{◌≡◌, ℕ, true, ap, sym, ◌∙◌, arith}
use Rattle.phase_message.specs.Shape.{Shape}
use Rattle.shuffle_blame.specs.declared.fault.Cause.TheVariants.{OuterSeed}
use Rattle.shuffle_blame.specs.Rules.{inquiry_at}
use Rattle.shuffle_blame.specs.Laws.{IsMember}
use Rattle.shuffle_blame.specs.Replay.{Inquiry, fault, shows_its_seed}
use Rattle.shuffle_blame.proofs.Loops.{all_pass, one_fails, up_to}
use Rattle.shuffle_blame.proofs.Looks.{seed-told}
use Rattle.shuffle_blame.proofs.seeds.seed_fault.Goals as goal

pub returns-then-not-has : goal.returns-then-not-has
returns-then-not-has c =
    let q : Inquiry = inquiry_at c.args.log.now c.args.ended c.args.parts.now in
    let members = ap (λ (shape : Shape). shape.members) c.shape-shape.ensures.shape in
    let is : IsMember q c.loop-member.member = record { least = omega arith; most = omega (arith, members) } in
    let told = seed-told c.args.log.now c.args.ended c.args.parts.now c.loop-member.member c.from.result c.index-parts-from.result
    c.in_ok-has.has
    c.requires is.least is.most c.from.ensures c.index-parts-from.is c.in_ok-has.ensures in
    sym (one_fails q (shows_its_seed q c.args.ended.shuffle) (fault OuterSeed) c.loop-member.member is c.loop-member.invariant
    (told ∙ c.if-not-has.true))

pub loop-member-preserved : goal.loop-member-preserved
loop-member-preserved c =
    let q : Inquiry = inquiry_at c.args.log.now c.args.ended c.args.parts.now in
    let members = ap (λ (shape : Shape). shape.members) c.shape-shape.ensures.shape in
    let told = seed-told c.args.log.now c.args.ended c.args.parts.now c.loop-member.member c.from.result c.index-parts-from.result
    c.in_ok-has.has
    c.requires (omega arith) (omega (arith, members)) c.from.ensures c.index-parts-from.is c.in_ok-has.ensures in
    up_to (λ (member : ℕ). shows_its_seed q c.args.ended.shuffle member ≡ true) c.loop-member.member c.loop-member.invariant
    (told ∙ c.if-not-has.false)

pub returns : goal.returns
returns c =
    let q : Inquiry = inquiry_at c.args.log.now c.args.ended c.args.parts.now in
    let members = ap (λ (shape : Shape). shape.members) c.shape-shape.ensures.shape in
    sym (all_pass q (shows_its_seed q c.args.ended.shuffle) (fault OuterSeed)
    (λ member least most. c.loop-member.invariant member least (omega (arith, members))))
