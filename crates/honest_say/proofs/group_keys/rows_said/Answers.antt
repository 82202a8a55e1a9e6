use Rattle.std.proofs.Common.{◌≡◌, ℕ, List, All, ap, sym, ◌∙◌, arith, subst}
use Rattle.std.proofs.lemmas.List.Elements.{All-push}
use Rattle.ring_poly.specs.PublicKey.{IsPublicKey}
use Rattle.phase_message.specs.Shape.{Shape}
use Rattle.shuffle_blame.specs.Asked.{past_of}
use Rattle.round_spec.specs.Slots.{keys_in}
use Rattle.honest_say.specs.Rows.{IsKeys}
use Rattle.honest_say.proofs.Members.{keys_by, member-next}
use Rattle.honest_say.proofs.OpeningLemmas.{all-of, keys-stand}
use Rattle.honest_say.proofs.StageLemmas.{keys-slot}
use Rattle.honest_say.proofs.group_keys.rows_said.Goals as goal

pub said_in-requires-clause-slot : goal.said_in-requires-clause-slot
said_in-requires-clause-slot c =
    let members = ap (λ (shape : Shape). shape.members) c.shape-members.ensures.shape in
    keys-slot c.args.log.now.shape c.loop-sender.sender (omega arith) (omega (arith, members))

pub keys_in-keys-requires : goal.keys_in-keys-requires
keys_in-keys-requires c =
    let members = ap (λ (shape : Shape). shape.members) c.shape-members.ensures.shape in
    let said = keys-stand c.args.log.now c.args.stage c.loop-sender.sender c.shape-members.ensures.form c.requires.complete c.requires.later
    c.requires.stand (omega arith) (omega (arith, members)) in
    subst IsKeys (sym (c.in_ok-body.ensures.value ∙ said.1)) (tt {0})

pub loop-sender-preserved : goal.loop-sender-preserved
loop-sender-preserved c =
    let log = c.args.log.now in
    let members = ap (λ (shape : Shape). shape.members) c.shape-members.ensures.shape in
    let said = keys-stand log c.args.stage c.loop-sender.sender c.shape-members.ensures.form c.requires.complete c.requires.later
    c.requires.stand (omega arith) (omega (arith, members)) in
    let row : c.keys_in-keys.result ≡ keys_by log.shape (past_of log c.args.stage) c.loop-sender.sender = c.keys_in-keys.ensures
    ∙ ap keys_in c.in_ok-body.ensures.value in
    let keys : c.keys_in-keys.result ≡ said.0 = row ∙ ap keys_in said.1 in
    let pushed = c.in_ok-push.ensures.items in (
      pushed ∙ member-next (keys_by log.shape (past_of log c.args.stage)) c.loop-sender.sender c.loop-sender.rows.items
          c.keys_in-keys.result (omega arith) c.loop-sender.invariant.0 row,
      subst (λ (rows : List (List (List ℕ))). All (All IsPublicKey) rows) (sym pushed)
          (All-push (All IsPublicKey) c.loop-sender.rows.items c.keys_in-keys.result c.loop-sender.invariant.1
          (subst (All IsPublicKey) (sym keys) (all-of IsPublicKey said.0 said.2))),
    )
