use Rattle.std.proofs.Common.{◌≡◌, ℕ, ◌+◌, List, All, length, ap, sym, ◌∙◌, arith, subst}
use Rattle.std.proofs.lemmas.List.Elements.{All-push}
use Rattle.phase_message.specs.Shape.{Shape}
use Rattle.shuffle_blame.specs.Asked.{past_of}
use Rattle.round_spec.specs.Slots.{pad_stage, pads_in, said_in}
use Rattle.honest_say.specs.Rows.{IsPads}
use Rattle.honest_say.proofs.Members.{member-next, pads_by}
use Rattle.honest_say.proofs.OpeningLemmas.{pads-stand}
use Rattle.honest_say.proofs.StageLemmas.{pad-slot}
use Rattle.honest_say.proofs.opening.pads_said.Goals as goal

pub said_in-requires-clause-slot : goal.said_in-requires-clause-slot
said_in-requires-clause-slot c =
    let members = ap (λ (shape : Shape). shape.members) c.shape-members.ensures.shape in
    rw members (pad-slot c.args.log.now.shape c.loop-sender.sender (omega arith) (omega (arith, members)))

pub said_in-requires-clause-earlier : goal.said_in-requires-clause-earlier
said_in-requires-clause-earlier c =
    let members = ap (λ (shape : Shape). shape.members) c.shape-members.ensures.shape in
    omega (arith, members, c.requires.later)

pub pads_in-pads-requires : goal.pads_in-pads-requires
pads_in-pads-requires c =
    let log = c.args.log.now in
    let members = ap (λ (shape : Shape). shape.members) c.shape-members.ensures.shape in
    let body = c.in_ok-body.ensures.value ∙ ap (λ (n : ℕ). said_in log.shape (past_of log c.args.stage) (n + 4) c.loop-sender.sender)
    members in
    let said = pads-stand log c.args.stage c.loop-sender.sender c.shape-members.ensures.form c.requires.complete c.requires.later
    c.requires.stand (omega arith) (omega (arith, members)) in
    subst IsPads (sym (body ∙ said.1)) (tt {0})

pub loop-sender-preserved : goal.loop-sender-preserved
loop-sender-preserved c =
    let log = c.args.log.now in
    let members = ap (λ (shape : Shape). shape.members) c.shape-members.ensures.shape in
    let body = c.in_ok-body.ensures.value ∙ ap (λ (n : ℕ). said_in log.shape (past_of log c.args.stage) (n + 4) c.loop-sender.sender)
    members in
    let said = pads-stand log c.args.stage c.loop-sender.sender c.shape-members.ensures.form c.requires.complete c.requires.later
    c.requires.stand (omega arith) (omega (arith, members)) in
    let row : c.pads_in-pads.result ≡ pads_by log.shape (past_of log c.args.stage) (pad_stage log.shape) c.loop-sender.sender =
    c.pads_in-pads.ensures ∙ ap pads_in body in
    let count = ap (λ (t : List (List ℕ)). length t) (row ∙ ap pads_in said.1) ∙ said.2 in
    let pushed = c.in_ok-push.ensures.items in (
      pushed ∙ member-next (pads_by log.shape (past_of log c.args.stage) (pad_stage log.shape)) c.loop-sender.sender
          c.loop-sender.rows.items c.pads_in-pads.result (omega arith) c.loop-sender.invariant.0 row,
      subst (λ (rows : List (List (List ℕ))). All (λ row. length row ≡ log.shape.members) rows) (sym pushed)
          (All-push (λ row. length row ≡ log.shape.members) c.loop-sender.rows.items c.pads_in-pads.result c.loop-sender.invariant.1 count),
    )
