use Rattle.group_roster.specs.Given.{roster_of}
use Rattle.std.proofs.Common.{◌≡◌, ℕ, ◌<◌, List, length, Result, Ok, Err, Option, None, sym, ap, ◌∙◌, arith, rules}
use Rattle.wire_core.specs.Bytes.{IsBytes}
use Rattle.phase_message.specs.declared.content.Content.{Content}
use Rattle.phase_message.specs.declared.offence.Offence.{Offence}
use Rattle.phase_message.specs.Offence.{content_read, first_offence}
use Rattle.phase_message.specs.Shape.{Shape}
use Rattle.group_roster.specs.Roster.{shape_of_roster}
use Rattle.judge_core.specs.declared.failed_check.FailedCheck.{FailedCheck}
use Rattle.judge_core.specs.declared.failed_check.FailedCheck.TheVariants.{Kind}
use Rattle.judge_core.specs.Case.{case_of}
use Rattle.judge_core.proofs.BodyKinds.{kind-byte, look-kind, look-passes, no_offence}
use Rattle.judge_core.proofs.hearing.look.Goals as goal

-- bytes in which a look finds no offence are read
passed : (shape given : Shape) (bytes : List ℕ) (found : Option Offence) → given ≡ shape → found ≡ first_offence given bytes → found ≡ None
    → (c : Content) × (content_read shape bytes ≡ Ok c)
passed shape given bytes found same e none = no_offence (content_read shape bytes)
    (sym none ∙ e ∙ ap (λ (s : Shape). first_offence s bytes) same)

pub bounds-bytes-75 : goal.bounds-bytes-75
bounds-bytes-75 c =
    let shape : Shape = shape_of_roster (roster_of c.args.case.roster.now) in
    let fits : IsBytes c.args.bytes.now = λ i. omega (arith, c.type_inv.bytes i) in
    let read = passed shape _ c.args.bytes.now c.first_offence.result c.shape.ensures c.first_offence.ensures c.in_default.is in
    let within : 75 < length c.args.bytes.now = (kind-byte shape c.args.bytes.now read.0 fits read.1).0 in
    search rules

pub returns-then-not-is_kind_asked : goal.returns-then-not-is_kind_asked
returns-then-not-is_kind_asked c =
    let shape : Shape = shape_of_roster (roster_of c.args.case.roster.now) in
    let fits : IsBytes c.args.bytes.now = λ i. omega (arith, c.type_inv.bytes i) in
    let read = passed shape _ c.args.bytes.now c.first_offence.result c.shape.ensures c.first_offence.ensures c.in_default.is in
    let kind = (kind-byte shape c.args.bytes.now read.0 fits read.1).1 in
    let asked = sym (c.is_kind_asked.ensures read.0.body kind) ∙ c.if-not-is_kind_asked.true in
    look-kind (case_of c.args.case) c.args.first c.args.number c.args.bytes.now read.0 read.1 asked
    ∙ ap (λ (k : ℕ). failed (Kind c.args.number k)) (sym kind)
  where
    failed : FailedCheck → Result Content FailedCheck
    failed e = Err e

pub returns : goal.returns
returns c =
    let shape : Shape = shape_of_roster (roster_of c.args.case.roster.now) in
    let fits : IsBytes c.args.bytes.now = λ i. omega (arith, c.type_inv.bytes i) in
    let read = passed shape _ c.args.bytes.now c.first_offence.result c.shape.ensures c.first_offence.ensures c.in_default.is in
    let kind = (kind-byte shape c.args.bytes.now read.0 fits read.1).1 in
    look-passes (case_of c.args.case) c.args.first c.args.number c.args.bytes.now read.0 read.1
    (sym (c.is_kind_asked.ensures read.0.body kind) ∙ c.if-not-is_kind_asked.false)
