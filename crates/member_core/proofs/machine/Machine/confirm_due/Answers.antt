use Rattle.std.proofs.Common.{◌≡◌, ℕ, ◌+◌, sym, subst}
use Rattle.std.specs.Prelude.{IsSome}
use Rattle.std.proofs.lemmas.Result.{IfOk-weaker}
use Rattle.phase_message.specs.declared.stage.StageKind.TheVariants.{Confirm}
use Rattle.stage_log.specs.Log.{before}
use Rattle.go_nogo.specs.Rows.{confirm_row}
use Rattle.honest_say.specs.Pasts.{posts_before}
use Rattle.member_core.proofs.Due.{confirm-due}
use Rattle.member_core.proofs.StageKinds.{kind-place}
use Rattle.member_core.proofs.machine.Machine.confirm_due.Goals as goal

pub confirm_body-requires-clause-complete : goal.confirm_body-requires-clause-complete
confirm_body-requires-clause-complete c =
    let m = c.args.self.now in
    subst (λ (s : ℕ). IsSome (before m.log s)) (kind-place m.log.shape m.stage Confirm c.requires.kind).at c.requires.ready.past

pub confirm_body-requires-clause-stand : goal.confirm_body-requires-clause-stand
confirm_body-requires-clause-stand c = c.requires.formed.stand (c.args.self.now.log.shape.members + 5)

pub returns : goal.returns
returns c = IfOk-weaker c.confirm_body.result _ _ (λ body said now.
    let m = c.args.self.now in
    let at = (kind-place m.log.shape m.stage Confirm c.requires.kind).at in
    confirm-due now m body c.requires.formed c.requires.ready c.requires.asked c.requires.kind
    (subst (λ (s : ℕ). body ≡ confirm_row m.log.shape (posts_before m.log s) s) (sym at) said)) c.confirm_body.ensures
