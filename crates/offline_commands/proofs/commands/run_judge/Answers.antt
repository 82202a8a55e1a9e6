use Rattle.group_roster.specs.Given.{roster_of}
use Rattle.group_roster.specs.Roster.{Roster}
use Rattle.group_roster.specs.Binary.{roster_read}
use Rattle.judge_core.specs.declared.judging.Accepted.{Accepted}
use Rattle.judge_core.specs.Checks.{printed_judgement_of}
use Rattle.offline_commands.specs.declared.commands.TheConstants.{TRANSCRIPT_LIMIT}
use Rattle.offline_commands.specs.Outcome.{accepted_line}
use Rattle.std.proofs.lemmas.Result.{err_from_is_err_and}
use Rattle.offline_commands.proofs.TwoFiles.{roster_unread, roster_refused, transcript_unread, judge_refused, judge_accepted, no_memory, rose_earlier}
use Rattle.offline_commands.proofs.Promised.{convicted, roster_status-not_done, judge_status-not_done}
use Rattle.offline_commands.proofs.commands.run_judge.Goals as goal

pub returns-in_err-roster_bytes-clause-answers : goal.returns-in_err-roster_bytes-clause-answers
returns-in_err-roster_bytes-clause-answers g c =
    let p = err_from_is_err_and c.from_residual.result c.from_residual.ensures.1 in
    rw (p.1, p.2) (roster_unread Roster Accepted TRANSCRIPT_LIMIT accepted_line roster_read printed_judgement_of _ _ _ _ _
    c.in_err-roster_bytes.ensures.answer)

pub returns-in_err-roster-clause-answers : goal.returns-in_err-roster-clause-answers
returns-in_err-roster-clause-answers g c =
    let p = err_from_is_err_and c.from_residual-in_err-roster.result c.from_residual-in_err-roster.ensures.1 in
    rw (p.1, p.2) (roster_refused Roster Accepted TRANSCRIPT_LIMIT accepted_line roster_read printed_judgement_of _ _ _ _ _
    c.in_ok-roster_bytes.roster_bytes.items c.deref.result.now c.in_err-roster.field-0.0 c.deref.ensures.value
    c.in_ok-roster_bytes.ensures.answer c.in_err-roster.ensures.exact)

pub returns-in_err-bytes-clause-answers : goal.returns-in_err-bytes-clause-answers
returns-in_err-bytes-clause-answers g c =
    let p = err_from_is_err_and c.from_residual-in_err-bytes.result c.from_residual-in_err-bytes.ensures.1 in
    rw (p.1, p.2) (transcript_unread Roster Accepted TRANSCRIPT_LIMIT accepted_line roster_read printed_judgement_of _ _ _ _ _ _ _
    c.in_ok-roster_bytes.roster_bytes.items c.deref.result.now (roster_of c.in_ok-roster.roster) c.in_err-bytes.field-0.0
    (rose_earlier _ _ _ c.in_ok-roster_bytes.ensures.no_fall)
    c.in_ok-roster_bytes.ensures.kept c.deref.ensures.value c.in_ok-roster_bytes.ensures.answer c.in_ok-roster.ensures.exact
    c.in_err-bytes.ensures.answer)

pub returns-in_err-accepted-clause-answers : goal.returns-in_err-accepted-clause-answers
returns-in_err-accepted-clause-answers g c =
    let p = err_from_is_err_and c.from_residual-in_err-accepted.result c.from_residual-in_err-accepted.ensures.1 in
    rw (p.1, p.2) (judge_refused Roster Accepted TRANSCRIPT_LIMIT accepted_line roster_read printed_judgement_of _ _ _ _ _ _ _
    c.in_ok-roster_bytes.roster_bytes.items c.deref.result.now c.in_ok-bytes.bytes.items c.deref-2.result.now
    (roster_of c.in_ok-roster.roster) c.in_err-accepted.field-0.0 c.in_ok-roster_bytes.ensures.kept c.deref.ensures.value
    c.deref-2.ensures.value c.in_ok-roster_bytes.ensures.answer c.in_ok-roster.ensures.exact c.in_ok-bytes.ensures.answer
    c.in_err-accepted.ensures.exact)

pub returns-in_err-accepted_text-clause-answers : goal.returns-in_err-accepted_text-clause-answers
returns-in_err-accepted_text-clause-answers g c =
    let p = err_from_is_err_and c.from_residual-in_err-accepted_text.result c.from_residual-in_err-accepted_text.ensures.1 in
    rw (p.1, p.2) (no_memory Roster Accepted TRANSCRIPT_LIMIT accepted_line roster_read printed_judgement_of _ _ _ _)

pub returns-clause-answers : goal.returns-clause-answers
returns-clause-answers g c =
    judge_accepted Roster Accepted TRANSCRIPT_LIMIT accepted_line roster_read printed_judgement_of _ _ _ _ _ _ _
    c.in_ok-roster_bytes.roster_bytes.items c.deref.result.now c.in_ok-bytes.bytes.items c.deref-2.result.now
    (roster_of c.in_ok-roster.roster) c.in_ok-accepted.accepted c.in_ok-accepted_text.field-0.items c.in_ok-roster_bytes.ensures.kept
    c.deref.ensures.value
    c.deref-2.ensures.value c.in_ok-roster_bytes.ensures.answer c.in_ok-roster.ensures.exact c.in_ok-bytes.ensures.answer
    c.in_ok-accepted.ensures.exact c.in_ok-accepted_text.ensures

pub returns-in_err-roster_bytes-clause-convicts : goal.returns-in_err-roster_bytes-clause-convicts
returns-in_err-roster_bytes-clause-convicts g c =
    let p = err_from_is_err_and c.from_residual.result c.from_residual.ensures.1 in
    rw (p.1, p.2) c.in_err-roster_bytes.ensures.status

pub returns-in_err-roster-clause-convicts : goal.returns-in_err-roster-clause-convicts
returns-in_err-roster-clause-convicts g c =
    let p = err_from_is_err_and c.from_residual-in_err-roster.result c.from_residual-in_err-roster.ensures.1 in
    rw (p.1, p.2) (roster_status-not_done c.in_err-roster.field-0.0)

pub returns-in_err-bytes-clause-convicts : goal.returns-in_err-bytes-clause-convicts
returns-in_err-bytes-clause-convicts g c =
    let p = err_from_is_err_and c.from_residual-in_err-bytes.result c.from_residual-in_err-bytes.ensures.1 in
    rw (p.1, p.2) c.in_err-bytes.ensures.status

pub returns-in_err-accepted-clause-convicts : goal.returns-in_err-accepted-clause-convicts
returns-in_err-accepted-clause-convicts g c =
    let p = err_from_is_err_and c.from_residual-in_err-accepted.result c.from_residual-in_err-accepted.ensures.1 in
    rw (p.1, p.2) (judge_status-not_done c.in_err-accepted.field-0.0)

pub returns-clause-convicts : goal.returns-clause-convicts
returns-clause-convicts g c =
    convicted _ _ _ _ c.in_ok-roster_bytes.roster_bytes.items c.deref.result.now c.in_ok-bytes.bytes.items c.deref-2.result.now
    c.in_ok-accepted_text.field-0.items (roster_of c.in_ok-roster.roster) c.in_ok-accepted.accepted
    c.in_ok-roster_bytes.ensures.shown c.in_ok-roster_bytes.ensures.kept c.in_ok-bytes.ensures.shown c.deref.ensures.value
    c.deref-2.ensures.value
    c.in_ok-roster.ensures.found c.in_ok-accepted.ensures.accepted c.in_ok-accepted.ensures.honest c.in_ok-accepted.ensures.no_framing
    c.in_ok-accepted_text.ensures
