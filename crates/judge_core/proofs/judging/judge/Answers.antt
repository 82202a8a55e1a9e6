use Rattle.group_roster.specs.Given.{roster_of}
use Rattle.std.proofs.Common.{◌≡◌, arith, sym, ap, subst, Result, Ok, Err}
use Rattle.wire_core.specs.Bytes.{IsBytes}
use Rattle.wire_core.specs.Answers.{Gives, fault_as}
use Rattle.judge_core.specs.declared.judging.Accepted.{Accepted}
use Rattle.judge_core.specs.declared.failed_check.FailedCheck.{FailedCheck}
use Rattle.transcript_form.specs.declared.refusal.Refused.{Refused}
use Rattle.transcript_form.specs.declared.refusal.Refused.TheVariants.{Check}
use Rattle.transcript_form.specs.Refusals.{failure_of_refusal}
use Rattle.judge_core.specs.Checks.{judgement_of}
use Rattle.judge_core.specs.Failures.{failed_number, failed_post, failed_at, failure_of_check}
use Rattle.conviction.proofs.Framings.{no_framing, nobody_honest_is_convicted}
use Rattle.judge_core.proofs.Convictions.{judgement-found, answered-only}
use Rattle.judge_core.proofs.judging.judge.Goals as goal

abbrev refusal : Refused → Result Accepted Refused
refusal e = Err e

pub returns-in-Ok-clause-accepted : goal.returns-in-Ok-clause-accepted
returns-in-Ok-clause-accepted c =
    judgement-found (roster_of c.args.roster.now) c.args.bytes.now c.in-Ok.accepted (λ i. omega (arith, c.type_inv.bytes i))
    c.in-Ok.ensures.exact

pub returns-in-Ok-clause-honest : goal.returns-in-Ok-clause-honest
returns-in-Ok-clause-honest c =
    let fits : IsBytes c.args.bytes.now = λ i. omega (arith, c.type_inv.bytes i) in
    nobody_honest_is_convicted (roster_of c.args.roster.now) c.args.bytes.now c.in-Ok.accepted.accused c.in-Ok.accepted.claim fits
    (judgement-found (roster_of c.args.roster.now) c.args.bytes.now c.in-Ok.accepted fits c.in-Ok.ensures.exact)

pub returns-in-Ok-clause-no_framing : goal.returns-in-Ok-clause-no_framing
returns-in-Ok-clause-no_framing c =
    let fits : IsBytes c.args.bytes.now = λ i. omega (arith, c.type_inv.bytes i) in
    no_framing (roster_of c.args.roster.now) c.args.bytes.now c.in-Ok.accepted.accused c.in-Ok.accepted.claim fits
    (judgement-found (roster_of c.args.roster.now) c.args.bytes.now c.in-Ok.accepted fits c.in-Ok.ensures.exact)

pub returns-in-Ok-clause-only : goal.returns-in-Ok-clause-only
returns-in-Ok-clause-only c = λ accused claim accepts.
    answered-only (roster_of c.args.roster.now) c.args.bytes.now (Ok c.in-Ok.accepted) accused claim c.args.roster.now.form
    (λ i. omega (arith, c.type_inv.bytes i)) (ap (fault_as failure_of_check) c.in-Ok.ensures.exact) accepts

pub returns-in-Err-Failed-clause-only : goal.returns-in-Err-Failed-clause-only
returns-in-Err-Failed-clause-only c = λ accused claim accepts.
    let failed : FailedCheck = c.in-Err-Failed.failed in
    let ends : judgement_of (roster_of c.args.roster.now) c.args.bytes.now ≡ Err failed = rw c.in-Err-Failed.field-0-is at
    c.in-Err-Failed.ensures.exact in
    let told : Refused = Check (failed_number failed) (failed_post failed) (failed_at failed) in
    let gives = answered-only (roster_of c.args.roster.now) c.args.bytes.now (Err told) accused claim c.args.roster.now.form
    (λ i. omega (arith, c.type_inv.bytes i)) (ap (fault_as failure_of_check) ends) accepts in
    subst (λ (e : Refused). Gives failure_of_refusal (λ a. a) (refusal e) (Ok (record { accused = accused; claim = claim })))
    (sym c.from.ensures) gives
