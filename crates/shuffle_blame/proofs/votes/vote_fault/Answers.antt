use Rattle.std.proofs.Common.{◌≡◌, ℕ, [], true, false, ap, sym, ◌∙◌, arith}
use Rattle.phase_message.specs.Shape.{Shape}
use Rattle.shuffle_blame.specs.declared.fault.Cause.TheVariants.{FalseNoGo}
use Rattle.shuffle_blame.specs.Asked.{inquiry_of}
use Rattle.shuffle_blame.specs.Laws.{IsMember}
use Rattle.shuffle_blame.specs.Replay.{Inquiry, fault, is_yes, votes_yes}
use Rattle.shuffle_blame.proofs.Loops.{all_pass, one_fails, up_to}
use Rattle.shuffle_blame.proofs.Slots.{vote-said}
use Rattle.shuffle_blame.proofs.votes.vote_fault.Goals as goal

pub returns-then-not-yes : goal.returns-then-not-yes
returns-then-not-yes c =
    let q : Inquiry = inquiry_of c.args.log.now c.args.stage 0 [] in
    let members = ap (λ (shape : Shape). shape.members) c.shape-shape.ensures.shape in
    let is : IsMember q c.loop-member.member = record { least = omega arith; most = omega (arith, members) } in
    let said = vote-said c.args.log.now c.args.stage 0 c.loop-member.member [] c.requires.closing c.requires.complete is.least is.most in
    let no_said : c.in_ok-yes.yes ≡ false = cc in
    sym (one_fails q (votes_yes q) (fault FalseNoGo) c.loop-member.member is c.loop-member.invariant
    (ap is_yes (sym said) ∙ sym c.in_ok-yes.ensures ∙ no_said))

pub loop-member-preserved : goal.loop-member-preserved
loop-member-preserved c =
    let q : Inquiry = inquiry_of c.args.log.now c.args.stage 0 [] in
    let members = ap (λ (shape : Shape). shape.members) c.shape-shape.ensures.shape in
    let said = vote-said c.args.log.now c.args.stage 0 c.loop-member.member [] c.requires.closing c.requires.complete (omega arith)
    (omega (arith, members)) in
    let yes_said : c.in_ok-yes.yes ≡ true = cc in
    up_to (λ (member : ℕ). votes_yes q member ≡ true) c.loop-member.member c.loop-member.invariant
    (ap is_yes (sym said) ∙ sym c.in_ok-yes.ensures ∙ yes_said)

pub returns : goal.returns
returns c =
    let q : Inquiry = inquiry_of c.args.log.now c.args.stage 0 [] in
    let members = ap (λ (shape : Shape). shape.members) c.shape-shape.ensures.shape in
    sym (all_pass q (votes_yes q) (fault FalseNoGo) (λ member least most. c.loop-member.invariant member least (omega (arith, members))))
