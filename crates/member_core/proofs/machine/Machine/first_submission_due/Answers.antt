use Rattle.std.proofs.Common.{◌≡◌, ℕ, List, length, refl, ap, sym, ◌∙◌, arith}
use Rattle.std.proofs.lemmas.Result.{err_from_is_err_and}
use Rattle.phase_message.specs.declared.stage.StageKind.TheVariants.{Submit}
use Rattle.shuffle_blame.specs.Asked.{past_of}
use Rattle.round_spec.specs.Say.{Configuration, own_submission}
use Rattle.honest_say.specs.Seats.{IsSeatOf}
use Rattle.shuffle_core.specs.declared.entry.Submission.{Submission}
use Rattle.member_spec.specs.Replies.{Replies}
use Rattle.member_parts.specs.declared.own.Own.{Own}
use Rattle.member_parts.specs.Secrets.{AreSecretsOf}
use Rattle.member_core.proofs.Belonging.{holds-bulk, holds-first, of-group, seat-of}
use Rattle.member_core.proofs.BeingAsked.{needed-asked}
use Rattle.member_core.proofs.StageKinds.{kind-place}
use Rattle.member_core.proofs.Submitted.{formed-first, made-first, stands-first, submit-due}
use Rattle.member_core.proofs.Submitting.{first-item}
use Rattle.member_core.proofs.machine.Machine.first_submission_due.Goals as goal

pub descriptor_due-requires : goal.descriptor_due-requires
descriptor_due-requires g c =
    let m = c.args.self.now in
    let at = (kind-place m.log.shape m.stage (Submit 1) c.requires.kind).at in
    record {
      formed = c.requires.formed;
      ready = c.requires.ready;
      behind = omega (arith, at);
      held = holds-bulk m c.requires.needed c.requires.asked (omega (arith, at));
    }

pub submission_of-requires : goal.submission_of-requires
submission_of-requires g c =
    let m = c.args.self.now in
    let at = (kind-place m.log.shape m.stage (Submit 1) c.requires.kind).at in
    let most = (of-group m c.requires.formed).most in
    let same = ap (λ (t : List ℕ). length t) (c.deref.ensures.value ∙ c.items.ensures) in
    record {
      formed = c.requires.formed;
      ready = c.requires.ready;
      behind = omega (arith, at);
      first = omega arith;
      last = omega arith;
      held = holds-first m c.requires.needed c.requires.asked (omega (arith, at));
      short = omega (arith, most, same, c.in_ok-descriptor.ensures.long);
    }

pub same-descriptor : goal.same-descriptor
same-descriptor g c = refl

pub same-pad : goal.same-pad
same-pad g c = refl

pub returns : goal.returns
returns g c =
    let m = c.args.self.now in
    let now : Replies = g.C.Conduct.replies c.args.conduct.now in
    let after : Replies = g.C.Conduct.replies c.descriptor_due.new.conduct in
    let at = (kind-place m.log.shape m.stage (Submit 1) c.requires.kind).at in
    let past : List (List ℕ) = past_of m.log m.stage in
    let descriptor : List ℕ = c.in_ok-descriptor.descriptor in
    let made = c.in_ok-descriptor.ensures in
    let submission = c.in_ok-submission.submission in
    let own : Own = record {
      descriptor = descriptor;
      pad = c.in_ok-descriptor.pad;
      inner_ciphertext = submission.inner_ciphertext;
    } in
    let submitted : (config : Configuration) → IsSeatOf config m.seat → AreSecretsOf config m.secrets
    → submission ≡ own_submission config descriptor past 1 = λ config seat secrets.
    c.in_ok-submission.ensures config descriptor seat secrets
    (c.deref.ensures.value ∙ c.items.ensures ∙ first-item config descriptor past) in
    record {
      formed = formed-first m own c.requires.formed (λ config is. made.pad config is.seat is.secrets is.message);
      same = refl;
      needed = needed-asked m own c.requires.asked c.requires.needed (λ e. omega (arith, e, at)) (λ e. omega (arith, e, at))
          (λ e. omega (arith, e, at));
      due = submit-due now m 1 descriptor submission c.requires.formed c.requires.asked c.requires.kind
          (λ config is. ap (λ (t : List ℕ). length t) (sym (first-item config descriptor past)) ∙ made.long) submitted
          (λ start config a stands. made-first now start config a m descriptor c.requires.asked stands (omega (arith, at))
          (made.told config (seat-of config m c.requires.formed stands.entered) stands.entered.secrets stands.entered.message));
      stands = λ start config a stands.
          let seat = seat-of config m c.requires.formed stands.entered in
          let secrets = stands.entered.secrets in
          let message = stands.entered.message in
          stands-first now after start config a m own c.requires.asked stands at (made.told config seat secrets message)
          (made.pad config seat secrets message)
          (ap (λ (x : Submission). x.inner_ciphertext) (submitted config seat secrets)) (made.then config seat secrets message);
    }

pub returns-in_err-descriptor : goal.returns-in_err-descriptor
returns-in_err-descriptor g c =
    let p = err_from_is_err_and c.from_residual.result c.from_residual.ensures.1 in
    record {
      formed = c.requires.formed;
      same = refl;
      needed = rw p.1 tt;
      due = rw p.1 tt;
      stands = rw p.1 tt;
    }

pub returns-in_err-submission : goal.returns-in_err-submission
returns-in_err-submission g c =
    let p = err_from_is_err_and c.from_residual-in_err-submission.result c.from_residual-in_err-submission.ensures.1 in
    record {
      formed = c.requires.formed;
      same = refl;
      needed = rw p.1 tt;
      due = rw p.1 tt;
      stands = rw p.1 tt;
    }
