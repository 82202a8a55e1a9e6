use Rattle.std.proofs.Common.{◌≡◌, ℕ, ◌-◌, ap, sym, ◌∙◌, subst}
use Rattle.std.specs.Prelude.{IsSome}
use Rattle.std.proofs.lemmas.Result.{IfOk-weaker}
use Rattle.phase_message.specs.declared.stage.StageKind.TheVariants.{Go}
use Rattle.shuffle_blame.specs.Asked.{past_of}
use Rattle.stage_log.specs.Log.{before}
use Rattle.go_nogo.specs.Rows.{all_right, go_row}
use Rattle.round_spec.specs.Slots.{final_stage}
use Rattle.member_core.proofs.Due.{go-due, seen-right}
use Rattle.member_core.proofs.StageKinds.{kind-place}
use Rattle.member_core.proofs.machine.Machine.go_due.Goals as goal

pub go_body-requires-clause-first : goal.go_body-requires-clause-first
go_body-requires-clause-first c = (kind-place c.args.self.now.log.shape c.args.self.now.stage (Go c.args.shuffle) c.requires.kind).kind_in.0

pub go_body-requires-clause-last : goal.go_body-requires-clause-last
go_body-requires-clause-last c = (kind-place c.args.self.now.log.shape c.args.self.now.stage (Go c.args.shuffle) c.requires.kind).kind_in.1

pub go_body-requires-clause-complete : goal.go_body-requires-clause-complete
go_body-requires-clause-complete c =
    let m = c.args.self.now in
    subst (λ (s : ℕ). IsSome (before m.log s)) (kind-place m.log.shape m.stage (Go c.args.shuffle) c.requires.kind).at c.requires.ready.past

pub go_body-requires-clause-stand : goal.go_body-requires-clause-stand
go_body-requires-clause-stand c = c.requires.formed.stand

pub go_body-requires-clause-right : goal.go_body-requires-clause-right
go_body-requires-clause-right c =
    let m = c.args.self.now in
    subst (λ (s : ℕ). c.all_right.result ≡ all_right m.log.shape (past_of m.log s) s)
    (kind-place m.log.shape m.stage (Go c.args.shuffle) c.requires.kind).at
    (seen-right m c.all_right.result c.requires.ready c.all_right.ensures)

pub returns : goal.returns
returns c = IfOk-weaker c.go_body.result _ _ (λ body said now.
    let m = c.args.self.now in
    let at = (kind-place m.log.shape m.stage (Go c.args.shuffle) c.requires.kind).at in
    go-due now m c.args.shuffle body c.requires.formed c.requires.asked c.requires.kind
    (subst (λ (s : ℕ). body ≡ go_row m.log.shape (past_of m.log s) s m.own.inner_ciphertext) (sym at)
    (said ∙ ap (go_row m.log.shape (past_of m.log (final_stage m.log.shape c.args.shuffle - 1))
    (final_stage m.log.shape c.args.shuffle - 1)) (c.as_slice-own.ensures.value ∙ c.items.ensures)))) c.go_body.ensures
