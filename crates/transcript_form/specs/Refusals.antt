-- The checks of the form as they are printed.
use Rattle.std.specs.Prelude.{ℕ, Option, Some, None}
use Rattle.transcript_form.specs.declared.refusal.FailedForm.{FailedForm}
use Rattle.transcript_form.specs.declared.refusal.FailedForm.TheVariants.{Magic, Form, Count}
use Rattle.transcript_form.specs.declared.refusal.Refused.{Refused}
use Rattle.transcript_form.specs.declared.refusal.Refused.TheVariants.{Check, Memory}

-- the number of a check of the form
abbrev pub check_of : FailedForm → ℕ
check_of (Magic at) = 1
check_of (Form at) = 2
check_of (Count at) = 3

-- the offset where it fails
abbrev pub at_of : FailedForm → ℕ
at_of (Magic at) = at
at_of (Form at) = at
at_of (Count at) = at

-- a failed check in three numbers: which, at which listed post, and where
pub record Failure : Type 0 where
  pub check : ℕ
  pub post : ℕ
  pub at : ℕ

-- a check of the form is of no post
abbrev pub failure_of_form : FailedForm → Failure
failure_of_form failed = record { check = check_of failed; post = 0; at = at_of failed }

-- the failed check that a refusal tells; out of memory tells none
abbrev pub failure_of_refusal : Refused → Option Failure
failure_of_refusal (Check check post at) = Some (record { check = check; post = post; at = at })
failure_of_refusal Memory = None
