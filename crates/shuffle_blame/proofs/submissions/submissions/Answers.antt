use Rattle.std.proofs.Common.{◌≡◌, ℕ, ◌+◌, ◌-◌, List, [], ◌∷◌, ◌++◌, ap, sym, ◌∙◌, arith, subst, length, ◌<◌, ◌^◌, All}
use Rattle.std.proofs.lemmas.List.Elements.{All-push}
use Rattle.phase_message.specs.Shape.{Shape}
use Rattle.shuffle_blame.specs.Rules.{body_kept, inquiry_at}
use Rattle.shuffle_blame.specs.Replay.{Inquiry, ciphertext_of, submission}
use Rattle.shuffle_blame.proofs.Loops.{submissions-next}
use Rattle.shuffle_blame.proofs.Slots.{submission-said}
use Rattle.shuffle_blame.proofs.submissions.submissions.Goals as goal

pub loop-sender-preserved : goal.loop-sender-preserved
loop-sender-preserved c =
    let q : Inquiry = inquiry_at c.args.log.now c.args.ended [] in
    let members = ap (λ (shape : Shape). shape.members) c.shape-shape.ensures.shape in
    let said = submission-said c.args.log.now c.args.ended [] c.loop-sender.sender c.requires.ends c.requires.complete (omega arith)
    (omega (arith, members)) in
    let stage : c.submit_stage-stage.result ≡ c.args.ended.stage - (c.args.log.now.shape.members + 2) = c.submit_stage-stage.ensures
    ∙ ap (λ (n : ℕ). c.args.ended.stage - (n + 2)) members in
    let bytes : c.in_ok-bytes.bytes ≡ submission q c.loop-sender.sender
    = c.in_ok-bytes.ensures.value ∙ ap (λ (t : ℕ). ciphertext_of
    (body_kept c.args.log.now (record { stage = t; sender = c.loop-sender.sender }))) stage ∙ ap ciphertext_of said in
    let pushed : c.push.new.self.items ≡ c.loop-sender.list.items ++ c.in_ok-bytes.bytes ∷ [] = c.in_ok-push.ensures.items in (
      pushed ∙ submissions-next q c.loop-sender.sender c.loop-sender.list.items c.in_ok-bytes.bytes (omega arith) c.loop-sender.invariant.0
          bytes,
      subst (λ (list : List (List ℕ)). All (λ entry. length entry < 2 ^ 32) list) (sym pushed)
          (All-push (λ entry. length entry < 2 ^ 32) c.loop-sender.list.items c.in_ok-bytes.bytes c.loop-sender.invariant.1
          c.in_ok-bytes.ensures.short),
    )
