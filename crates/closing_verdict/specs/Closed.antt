-- What the closing contents of a stage come to, before their kinds are looked at.
use Rattle.std.specs.Prelude.{◌≡◌, ℕ, List, true, false, Option, Some, None}
use Rattle.phase_message.specs.declared.content.Body.{Body}
use Rattle.phase_message.specs.declared.content.Body.TheVariants.{Reveal, Dispute, Confirm}
use Rattle.embedded_log.specs.Embedding.{IsKnown}
use Rattle.round_spec.specs.Slots.{by_member}
use Rattle.round_spec.specs.Verdict.{Verdict, bad_log, closing_body, closing_content, equivocation, equivocation_in, is_read_justified}
use Rattle.closing_verdict.specs.declared.convicting.Conviction.{Conviction}
use Rattle.closing_verdict.specs.declared.reading.Found.{Found}
use Rattle.closing_verdict.specs.declared.reading.Found.TheVariants.{Bad, Justified}
use Rattle.closing_verdict.specs.declared.reading.Reading.{Reading}
use Rattle.closing_verdict.specs.declared.reading.Reading.TheVariants.{Convicts, Sound}
use Rattle.closing_verdict.specs.declared.reading.Told.{Told}
use Rattle.closing_verdict.specs.declared.reading.Told.TheVariants.{Reveals, Confirms, Disputes, Differs}
use Rattle.closing_verdict.specs.Convicting.{TellsConviction}
use Rattle.closing_verdict.specs.Judgement.{Completed, stage_closed, verdict_in}

-- what a closing body tells
abbrev pub told_of : Body → Told
told_of (Reveal votes seed) = Reveals seed
told_of (Confirm votes) = Confirms
told_of (Dispute posts seed opening) = Disputes (record { outer_seed = seed; outer_opening = opening })
told_of body = Differs

-- all closing contents are justified and embed what was kept, and these are what the members tell
pub record AreTold (c : Completed) (told : List Told) : Type 0 where
  pub justified : bad_log (stage_closed c) ≡ None
  pub same : equivocation (stage_closed c) ≡ None
  pub are : told ≡ by_member c.log.shape (λ member. told_of (closing_body (stage_closed c) member))

-- what all come to
abbrev pub ReadsClosing : Completed → Reading → Type 0
ReadsClosing c (Convicts conviction) = TellsConviction (verdict_in c) conviction
ReadsClosing c (Sound told) = AreTold c told.items

-- ---- one member

-- what convicts is told, if something does
abbrev pub TellsSecond : Option Verdict → Option Conviction → Type 0
TellsSecond None None = Unit {0}
TellsSecond (Some verdict) (Some conviction) = TellsConviction verdict conviction
TellsSecond verdict conviction = ⊥

-- a member's closing content is justified: what it tells, and what it shows against the sender of a slot that it embeds
pub record IsJustifiedOf (c : Completed) (member : ℕ) (told : Told) (second : Option Conviction) : Type 0 where
  pub justified : is_read_justified (stage_closed c) (closing_content (stage_closed c) member) ≡ true
  pub told_is : told ≡ told_of (closing_body (stage_closed c) member)
  pub second_is : TellsSecond (equivocation_in (stage_closed c) member) second

-- what one content comes to
abbrev pub FindsOf : Completed → ℕ → Found → Type 0
FindsOf c member Bad = is_read_justified (stage_closed c) (closing_content (stage_closed c) member) ≡ false
FindsOf c member (Justified told second known) = IsJustifiedOf c member told second × IsKnown c.roster c.round known
