use Rattle.std.proofs.Common.{◌≡◌, ℕ, List, [], ◌∷◌, ◌++◌, ap, sym, ◌∙◌, arith, subst, length, ◌<◌, ◌^◌, All}
use Rattle.std.proofs.lemmas.List.Elements.{All-push}
use Rattle.phase_message.specs.Shape.{Shape}
use Rattle.shuffle_blame.specs.Asked.{past_of}
use Rattle.round_spec.specs.Slots.{submit_stage}
use Rattle.honest_say.proofs.Members.{member-next, submission_by}
use Rattle.honest_say.proofs.StageLemmas.{submit-slot}
use Rattle.honest_say.proofs.said.submissions_said.Goals as goal

pub loop-sender-preserved : goal.loop-sender-preserved
loop-sender-preserved c =
    let log = c.args.log.now in
    let past : List (List ℕ) = past_of log c.args.stage in
    let stage : c.submit_stage-submit.result ≡ submit_stage log.shape c.args.shuffle
    = c.submit_stage-submit.ensures.value ∙ ap (λ (s : Shape). submit_stage s c.args.shuffle) c.shape-shape.ensures.shape in
    let bytes : c.in_ok-bytes.bytes ≡ submission_by log.shape past (submit_stage log.shape c.args.shuffle) c.loop-sender.sender
    = c.in_ok-bytes.ensures.value ∙ ap (λ (t : ℕ). submission_by log.shape past t c.loop-sender.sender) stage in
    let pushed : c.push.new.self.items ≡ c.loop-sender.list.items ++ c.in_ok-bytes.bytes ∷ [] = c.in_ok-push.ensures.items in (
      pushed ∙ member-next (submission_by log.shape past (submit_stage log.shape c.args.shuffle)) c.loop-sender.sender
          c.loop-sender.list.items c.in_ok-bytes.bytes (omega arith) c.loop-sender.invariant.0 bytes,
      subst (λ (list : List (List ℕ)). All (λ entry. length entry < 2 ^ 32) list) (sym pushed)
          (All-push (λ entry. length entry < 2 ^ 32) c.loop-sender.list.items c.in_ok-bytes.bytes c.loop-sender.invariant.1
          c.in_ok-bytes.ensures.short),
    )

pub submission_said-requires-clause-slot : goal.submission_said-requires-clause-slot
submission_said-requires-clause-slot c =
    let log = c.args.log.now in
    let members = ap (λ (shape : Shape). shape.members) c.shape-shape.ensures.shape in
    let stage : submit_stage log.shape c.args.shuffle ≡ c.submit_stage-submit.result
    = ap (λ (s : Shape). submit_stage s c.args.shuffle) (sym c.shape-shape.ensures.shape) ∙ sym c.submit_stage-submit.ensures.value in
    rw (← stage) (submit-slot log.shape c.args.shuffle c.loop-sender.sender c.requires.first c.requires.last (omega arith)
    (omega (arith, members)))

pub submission_said-requires-clause-earlier : goal.submission_said-requires-clause-earlier
submission_said-requires-clause-earlier c =
    let log = c.args.log.now in
    let stage : submit_stage log.shape c.args.shuffle ≡ c.submit_stage-submit.result
    = ap (λ (s : Shape). submit_stage s c.args.shuffle) (sym c.shape-shape.ensures.shape) ∙ sym c.submit_stage-submit.ensures.value in
    omega (arith, stage, c.requires.earlier)
