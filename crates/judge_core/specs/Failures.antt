-- The failed checks in numbers, as they are printed.
use Rattle.std.specs.Prelude.{ℕ}
use Rattle.signed_post.specs.Admission.{refusal_number}
use Rattle.transcript_form.specs.Refusals.{Failure, at_of, check_of}
use Rattle.accusation.specs.declared.holding.AccusationRefusal.{AccusationRefusal}
use Rattle.accusation.specs.declared.holding.AccusationRefusal.TheVariants.{Slot as BadSlot, Member as BadMember, Capsule as BadCapsule, PadHash as BadPadHash, PadSent}
use Rattle.judge_core.specs.declared.failed_check.FailedCheck.{FailedCheck}
use Rattle.judge_core.specs.declared.failed_check.FailedCheck.TheVariants.{Form, Post, Slot, Body, Kind, Same, WellFormed, SeedFits, Justified, NotJustified, LogsDiffer, Culprit, View, NotOpened, OtherMember, Accusation}

-- the number of a check
abbrev pub failed_number : FailedCheck → ℕ
failed_number (Form failed) = check_of failed
failed_number (Post post refusal) = 4
failed_number (Slot post stage) = 5
failed_number (Body post at) = 6
failed_number (Kind post kind) = 7
failed_number Same = 8
failed_number WellFormed = 9
failed_number SeedFits = 10
failed_number Justified = 11
failed_number (NotJustified post) = 12
failed_number (LogsDiffer post slot) = 13
failed_number (Culprit member) = 14
failed_number (View post) = 15
failed_number (NotOpened stage) = 16
failed_number OtherMember = 17
failed_number (Accusation refusal) = 17

-- the number of the listed post where it fails, from 1, or 0
abbrev pub failed_post : FailedCheck → ℕ
failed_post (Form failed) = 0
failed_post (Post post refusal) = post
failed_post (Slot post stage) = post
failed_post (Body post at) = post
failed_post (Kind post kind) = post
failed_post Same = 2
failed_post WellFormed = 1
failed_post SeedFits = 2
failed_post Justified = 1
failed_post (NotJustified post) = post
failed_post (LogsDiffer post slot) = post
failed_post (Culprit member) = 0
failed_post (View post) = post
failed_post (NotOpened stage) = 0
failed_post OtherMember = 0
failed_post (Accusation refusal) = 0

-- the number of an accusation's refusal
abbrev pub accusation_number : AccusationRefusal → ℕ
accusation_number BadSlot = 1
accusation_number BadMember = 2
accusation_number BadCapsule = 3
accusation_number BadPadHash = 4
accusation_number PadSent = 5

-- where it fails
abbrev pub failed_at : FailedCheck → ℕ
failed_at (Form failed) = at_of failed
failed_at (Post post refusal) = refusal_number refusal
failed_at (Slot post stage) = stage
failed_at (Body post at) = at
failed_at (Kind post kind) = kind
failed_at Same = 0
failed_at WellFormed = 0
failed_at SeedFits = 0
failed_at Justified = 0
failed_at (NotJustified post) = 0
failed_at (LogsDiffer post slot) = slot
failed_at (Culprit member) = member
failed_at (View post) = 0
failed_at (NotOpened stage) = stage
failed_at OtherMember = 0
failed_at (Accusation refusal) = accusation_number refusal

-- the three numbers of a failed check
abbrev pub failure_of_check : FailedCheck → Failure
failure_of_check failed = record { check = failed_number failed; post = failed_post failed; at = failed_at failed }
