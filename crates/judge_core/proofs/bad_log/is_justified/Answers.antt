use Rattle.group_roster.specs.Given.{roster_of}
use Rattle.std.proofs.Common.{◌≡◌, Result, Ok, sym, subst, ◌∙◌}
use Rattle.std.specs.Prelude.{IsSome, option_and_then}
use Rattle.wire_core.specs.declared.cursor.Short.{Short}
use Rattle.phase_message.specs.declared.header.Header.{Header}
use Rattle.phase_message.specs.Stages.{kind_of_stage, vote_of}
use Rattle.phase_message.proofs.Whole.{content-header}
use Rattle.group_roster.specs.Roster.{Roster, shape_of_roster}
use Rattle.judge_core.proofs.bad_log.is_justified.Goals as goal

abbrev header_ok : Header → Result Header Short
header_ok header = Ok header

same_header : (a b : Header) → header_ok a ≡ header_ok b → a ≡ b
same_header a b e = cc

pub justifying_log-requires-clause-closing : goal.justifying_log-requires-clause-closing
justifying_log-requires-clause-closing c =
    let roster : Roster = roster_of c.args.case.roster.now in
    let header = content-header _ c.args.said.content.now c.in_ok-content.content c.in_ok-content.ensures.value in
    let same = same_header c.args.said.header c.in_ok-content.content.header (sym c.requires.closing.header ∙ header) in
    subst (λ (h : Header). IsSome (option_and_then vote_of (kind_of_stage (shape_of_roster roster) h.stage))) same
    c.requires.closing.closing
