use Rattle.std.proofs.Common.{◌≡◌, ℕ, ◌-◌, refl, sym, ◌∙◌, subst, arith}
use Rattle.std.specs.Prelude.{IsSome}
use Rattle.std.proofs.lemmas.Result.{IfOk-weaker}
use Rattle.phase_message.specs.declared.stage.StageKind.TheVariants.{Final}
use Rattle.stage_log.specs.Log.{before}
use Rattle.go_nogo.specs.Rows.{final_row}
use Rattle.round_spec.specs.Slots.{final_stage}
use Rattle.honest_say.specs.Pasts.{posts_before}
use Rattle.member_parts.specs.declared.secrets.Secrets.{Secrets}
use Rattle.member_parts.specs.Secrets.{shuffle_secrets, without_shuffle}
use Rattle.member_core.specs.Asking.{StandsAsked, asked_at}
use Rattle.member_core.specs.Membership.{holdings_of}
use Rattle.member_core.specs.Needs.{HoldsNeeded}
use Rattle.member_core.specs.Sound.{IsFormed}
use Rattle.member_spec.specs.declared.mood.Mood.TheVariants.{Spoken}
use Rattle.member_core.proofs.Changes.{formed-with, held-with}
use Rattle.member_core.proofs.Belonging.{holds-shuffle, not-missing, secrets-for}
use Rattle.member_core.proofs.BeingAsked.{asked-with, goes-on_as, needed-shuffle, own-asked, secrets-shuffle}
use Rattle.member_core.proofs.Due.{final-due}
use Rattle.member_core.proofs.StageKinds.{final-apart, kind-place}
use Rattle.member_core.proofs.machine.Machine.end_due.Goals as goal

pub unreachable-requires : goal.unreachable-requires
unreachable-requires c =
    let m = c.args.self.now in
    let placed = kind-place m.log.shape m.stage (Final c.args.shuffle) c.requires.kind in
    let within = placed.kind_in in
    let at = placed.at in
    not-missing (shuffle_secrets m.secrets c.args.shuffle) (holds-shuffle m c.args.shuffle c.requires.needed c.requires.asked within.0
    within.1 (omega (arith, at)))
    (sym c.take_shuffle.ensures.taken ∙ c.in_default.is)

pub unreachable-unreachable : goal.unreachable-unreachable
unreachable-unreachable c = c.unreachable.type_inv

pub final_body-requires-clause-first : goal.final_body-requires-clause-first
final_body-requires-clause-first c = (kind-place c.args.self.now.log.shape c.args.self.now.stage (Final c.args.shuffle)
    c.requires.kind).kind_in.0

pub final_body-requires-clause-last : goal.final_body-requires-clause-last
final_body-requires-clause-last c = (kind-place c.args.self.now.log.shape c.args.self.now.stage (Final c.args.shuffle)
    c.requires.kind).kind_in.1

pub final_body-requires-clause-complete : goal.final_body-requires-clause-complete
final_body-requires-clause-complete c =
    let m = c.args.self.now in
    subst (λ (s : ℕ). IsSome (before m.log s)) (kind-place m.log.shape m.stage (Final c.args.shuffle) c.requires.kind).at
    c.requires.ready.past

pub final_body-requires-clause-stand : goal.final_body-requires-clause-stand
final_body-requires-clause-stand c = c.requires.formed.stand (final_stage c.args.self.now.log.shape c.args.shuffle - 1)

pub returns-clause-formed : goal.returns-clause-formed
returns-clause-formed c =
    let m = c.args.self.now in
    let entered = c.requires.formed.entered in
    subst (λ (s : Secrets). IsFormed (record m { secrets = s })) (sym c.take_shuffle.ensures.left)
    (formed-with m (without_shuffle m.secrets c.args.shuffle) m.own c.requires.formed (
      entered.0,
      held-with entered.0 m (without_shuffle m.secrets c.args.shuffle) entered.1
          (secrets-shuffle entered.0 m.secrets c.args.shuffle entered.1.secrets),
    ))

pub returns-clause-same : goal.returns-clause-same
returns-clause-same c = refl

pub returns-clause-needed : goal.returns-clause-needed
returns-clause-needed c = IfOk-weaker c.final_body.result _ _ (λ body said.
    let m = c.args.self.now in
    let placed = kind-place m.log.shape m.stage (Final c.args.shuffle) c.requires.kind in
    let within = placed.kind_in in
    subst (λ (s : Secrets). HoldsNeeded (asked_at (holdings_of (record m { secrets = s })) Spoken)) (sym c.take_shuffle.ensures.left)
    (needed-shuffle m c.args.shuffle c.requires.asked c.requires.needed within.0 within.1 placed.at)) c.final_body.ensures

pub returns-clause-due : goal.returns-clause-due
returns-clause-due c = IfOk-weaker c.final_body.result _ _ (λ body said now.
    let m = c.args.self.now in
    let placed = kind-place m.log.shape m.stage (Final c.args.shuffle) c.requires.kind in
    let within = placed.kind_in in
    final-due now m c.args.shuffle body c.in-Some.secrets c.requires.formed c.requires.ready c.requires.asked c.requires.kind
    (λ config secrets. secrets-for config m.secrets c.args.shuffle c.in-Some.secrets secrets within.0 within.1
    (sym c.take_shuffle.ensures.taken ∙ c.in-Some.is))
    (subst (λ (s : ℕ). body ≡ final_row m.log.shape (posts_before m.log s) s c.in-Some.secrets.inner c.in-Some.secrets.outer
    c.in-Some.secrets.outer_opening) (sym placed.at) said)) c.final_body.ensures

pub returns-clause-stands : goal.returns-clause-stands
returns-clause-stands c = IfOk-weaker c.final_body.result _ _ (λ body said now start config a stands.
    let m = c.args.self.now in
    let placed = kind-place m.log.shape m.stage (Final c.args.shuffle) c.requires.kind in
    let apart = final-apart m.log.shape m.stage c.args.shuffle placed in
    let later = apart.0 in
    let not_first : 1 ≡ m.stage → ⊥ = λ e. omega (arith, e, later) in
    let left : Secrets = without_shuffle m.secrets c.args.shuffle in
    subst (λ (s : Secrets). StandsAsked now start config a (holdings_of (record m { secrets = s }))) (sym c.take_shuffle.ensures.left)
    (asked-with now now start config a m left m.own stands (secrets-shuffle config m.secrets c.args.shuffle stands.entered.secrets)
    (goes-on_as now start config a m c.requires.asked stands not_first)
    (own-asked now start config a m left c.requires.asked stands not_first apart.1))) c.final_body.ensures
