use Rattle.std.proofs.Common.{◌≡◌, ℕ, List, length, refl, ap, sym, ◌∙◌, subst, arith, rules}
use Rattle.std.proofs.lemmas.Result.{err_from_is_err_and}
use Rattle.phase_message.specs.declared.stage.StageKind.TheVariants.{Submit}
use Rattle.shuffle_blame.specs.Asked.{past_of}
use Rattle.round_spec.specs.Say.{Configuration, own_submission}
use Rattle.honest_say.specs.Seats.{IsSeatOf}
use Rattle.shuffle_core.specs.declared.entry.Submission.{Submission}
use Rattle.member_parts.specs.declared.own.Own.{Own}
use Rattle.member_parts.specs.declared.secrets.Secrets.{Secrets}
use Rattle.member_parts.specs.Secrets.{AreSecretsOf}
use Rattle.member_core.specs.Asking.{StandsAsked, asked_at}
use Rattle.member_core.specs.Membership.{holdings_of}
use Rattle.member_core.specs.Needs.{HoldsNeeded}
use Rattle.member_core.specs.Sound.{IsFormed}
use Rattle.member_spec.specs.declared.mood.Mood.TheVariants.{Spoken}
use Rattle.member_core.proofs.Belonging.{holds-bulk, holds-second, seat-of}
use Rattle.member_core.proofs.BeingAsked.{needed-bulk}
use Rattle.member_core.proofs.StageKinds.{kind-place}
use Rattle.member_core.proofs.Submitted.{formed-second, stands-second, submit-due}
use Rattle.member_core.proofs.Submitting.{descriptor-kept}
use Rattle.member_core.proofs.machine.Machine.second_submission_due.Goals as goal

pub accusation_due-item-requires : goal.accusation_due-item-requires
accusation_due-item-requires c =
    let m = c.args.self.now in
    let at = (kind-place m.log.shape m.stage (Submit 2) c.requires.kind).at in
    record {
      formed = c.requires.formed;
      ready = c.requires.ready;
      stage = at;
      held = holds-bulk m c.requires.needed c.requires.asked (omega (arith, at));
    }

pub slice_bounds-submission_of-end : goal.slice_bounds-submission_of-end
slice_bounds-submission_of-end c = search rules

pub submission_of-requires : goal.submission_of-requires
submission_of-requires c =
    let m = c.args.self.now in
    let at = (kind-place m.log.shape m.stage (Submit 2) c.requires.kind).at in
    record {
      formed = c.requires.formed;
      ready = c.requires.ready;
      behind = omega (arith, at);
      first = omega arith;
      last = omega arith;
      held = holds-second m c.requires.needed c.requires.asked (omega (arith, at));
      short = search rules;
    }

pub returns-in_err-submission : goal.returns-in_err-submission
returns-in_err-submission c =
    let p = err_from_is_err_and c.from_residual.result c.from_residual.ensures.1 in
    record {
      formed = c.requires.formed;
      same = refl;
      needed = rw p.1 tt;
      due = rw p.1 tt;
      stands = rw p.1 tt;
    }

pub returns : goal.returns
returns c =
    let m = c.args.self.now in
    let at = (kind-place m.log.shape m.stage (Submit 2) c.requires.kind).at in
    let inner : List ℕ = c.in_ok-submission.submission.inner_ciphertext in
    let own : Own = record m.own { inner_ciphertext = inner } in
    let item = c.accusation_due-item.ensures in
    let long : length c.accusation_due-item.result ≡ 34 = search rules in
    let submitted : (config : Configuration) → IsSeatOf config m.seat → AreSecretsOf config m.secrets
    → c.in_ok-submission.submission ≡ own_submission config m.own.descriptor (past_of m.log m.stage) 2 = λ config seat secrets.
    c.in_ok-submission.ensures config m.own.descriptor seat secrets (item config seat secrets) in
    record {
      formed = subst (λ (s : Secrets). IsFormed (record m { secrets = s; own = own })) (sym c.end_bulk.ensures)
          (formed-second m inner c.requires.formed);
      same = refl;
      needed = subst (λ (s : Secrets). HoldsNeeded (asked_at (holdings_of (record m { secrets = s; own = own })) Spoken))
          (sym c.end_bulk.ensures) (needed-bulk m own c.requires.asked c.requires.needed at);
      due = λ now. submit-due now m 2 m.own.descriptor c.in_ok-submission.submission c.requires.formed c.requires.asked c.requires.kind
          (λ config is. ap (λ (t : List ℕ). length t) (sym (item config is.seat is.secrets)) ∙ long) submitted
          (λ start config a stands. descriptor-kept now start config a m c.requires.formed c.requires.asked stands (omega (arith, at)));
      stands = λ now start config a stands.
          subst (λ (s : Secrets). StandsAsked now start config a (holdings_of (record m { secrets = s; own = own }))) (sym c.end_bulk.ensures)
          (stands-second now start config a m inner c.requires.asked stands at (ap (λ (x : Submission). x.inner_ciphertext)
          (submitted config (seat-of config m c.requires.formed stands.entered) stands.entered.secrets)));
    }
