use Rattle.std.proofs.Common.{ℕ, ap, sym, ◌∙◌, subst, arith}
use Rattle.std.specs.Prelude.{IsSome}
use Rattle.std.proofs.lemmas.Result.{IfOk-weaker}
use Rattle.phase_message.specs.declared.stage.StageKind.TheVariants.{Shuffle}
use Rattle.shuffle_blame.specs.Asked.{past_of}
use Rattle.stage_log.specs.Log.{before}
use Rattle.round_spec.specs.Say.{turn_row}
use Rattle.member_core.proofs.Belonging.{holds-shuffle, secrets-for}
use Rattle.member_core.proofs.Due.{turn-due}
use Rattle.member_core.proofs.StageKinds.{kind-place}
use Rattle.member_core.proofs.machine.Machine.turn_due.Goals as goal

pub of_shuffle-secrets-requires : goal.of_shuffle-secrets-requires
of_shuffle-secrets-requires c =
    let m = c.args.self.now in
    let placed = kind-place m.log.shape m.stage (Shuffle c.args.shuffle m.seat.number) c.requires.kind in
    let within = placed.kind_in in
    let at = placed.at in
    holds-shuffle m c.args.shuffle c.requires.needed c.requires.asked within.0 within.1 (omega (arith, at, within.3))

pub turn_body-requires-clause-shape : goal.turn_body-requires-clause-shape
turn_body-requires-clause-shape c = c.requires.formed.shape

pub turn_body-requires-clause-first : goal.turn_body-requires-clause-first
turn_body-requires-clause-first c =
    let m = c.args.self.now in
    (kind-place m.log.shape m.stage (Shuffle c.args.shuffle m.seat.number) c.requires.kind).kind_in.0

pub turn_body-requires-clause-last : goal.turn_body-requires-clause-last
turn_body-requires-clause-last c =
    let m = c.args.self.now in
    (kind-place m.log.shape m.stage (Shuffle c.args.shuffle m.seat.number) c.requires.kind).kind_in.1

pub turn_body-requires-clause-complete : goal.turn_body-requires-clause-complete
turn_body-requires-clause-complete c =
    let m = c.args.self.now in
    subst (λ (s : ℕ). IsSome (before m.log s)) (kind-place m.log.shape m.stage (Shuffle c.args.shuffle m.seat.number) c.requires.kind).at
    c.requires.ready.past

pub returns : goal.returns
returns c = IfOk-weaker c.turn_body.result _ _ (λ body said now.
    let m = c.args.self.now in
    let placed = kind-place m.log.shape m.stage (Shuffle c.args.shuffle m.seat.number) c.requires.kind in
    let within = placed.kind_in in
    turn-due now m c.args.shuffle body c.requires.formed c.requires.ready c.requires.asked c.requires.kind (λ config seat secrets.
    said config seat (secrets-for config m.secrets c.args.shuffle c.of_shuffle-secrets.result.now secrets within.0 within.1
    c.of_shuffle-secrets.ensures)
    ∙ ap (λ (s : ℕ). turn_row config (past_of m.log s) c.args.shuffle) (sym placed.at))) c.turn_body.ensures
