use Rattle.std.proofs.Common.{◌≡◌, ℕ, ◌+◌, ap, ◌∙◌, arith}
use Rattle.phase_message.specs.Shape.{Shape}
use Rattle.phase_message.specs.declared.content.Body.{Body}
use Rattle.shuffle_blame.specs.Rules.{body_kept}
use Rattle.round_spec.specs.Slots.{final_stage}
use Rattle.faulty_member.proofs.Members.{member-next}
use Rattle.faulty_member.proofs.flipping.ends_in.Goals as goal

pub loop-sender-preserved : goal.loop-sender-preserved
loop-sender-preserved c =
    let log = c.args.log.now in
    let end : ℕ → Body = λ member. body_kept log (record { stage = final_stage log.shape 1; sender = member }) in
    let stage : 1 + (c.shape-members.result.members + 2) ≡ final_stage log.shape 1 = ap (λ (s : Shape). 1 + (s.members + 2))
    c.shape-members.ensures.shape in
    let said : c.in_ok-end.end ≡ end c.loop-sender.sender
    = c.in_ok-end.ensures.value ∙ ap (λ (t : ℕ). body_kept log (record { stage = t; sender = c.loop-sender.sender })) stage in
    c.in_ok-push.ensures.items ∙ member-next end c.loop-sender.sender c.loop-sender.ends.items c.in_ok-end.end (omega arith)
    c.loop-sender.invariant said
