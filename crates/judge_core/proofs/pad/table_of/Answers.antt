use Rattle.std.proofs.Common.{◌≡◌, ℕ, List, All, length, sym, subst, ◌∙◌, arith}
use Rattle.std.proofs.lemmas.List.Elements.{All-push}
use Rattle.judge_core.specs.Case.{Case, case_of, said_of, shape_in}
use Rattle.judge_core.specs.Pad.{pads_row, row_of}
use Rattle.judge_core.proofs.PadReadings.{member-next}
use Rattle.judge_core.proofs.pad.table_of.Goals as goal

pub loop-member-preserved : goal.loop-member-preserved
loop-member-preserved c =
    let case : Case = case_of c.args.case in
    let pushed = c.in_ok-push.ensures.items in (
      pushed ∙ member-next (row_of case (pads_row case (said_of c.args.pads))) c.loop-member.member c.loop-member.rows.items c.in_ok-row.row
          (omega arith) c.loop-member.invariant.0 c.in_ok-row.ensures.value,
      subst (λ (rows : List (List (List ℕ))). All (λ row. length row ≡ (shape_in case).members) rows) (sym pushed)
          (All-push (λ row. length row ≡ (shape_in case).members) c.loop-member.rows.items c.in_ok-row.row c.loop-member.invariant.1
          c.in_ok-row.ensures.count),
    )
