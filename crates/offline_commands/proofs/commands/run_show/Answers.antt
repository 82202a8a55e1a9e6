use Rattle.group_roster.specs.Given.{roster_of}
use Rattle.group_roster.specs.Roster.{Roster}
use Rattle.group_roster.specs.Binary.{roster_read}
use Rattle.phase_message.specs.declared.content.Content.{Content}
use Rattle.offline_commands.specs.declared.commands.TheConstants.{POST_FILE_LIMIT}
use Rattle.offline_commands.specs.Show.{file_checked, shown_line}
use Rattle.std.proofs.lemmas.Result.{err_from_is_err_and}
use Rattle.offline_commands.proofs.TwoFiles.{roster_unread, roster_refused, transcript_unread, judge_refused, judge_accepted, no_memory, rose_earlier}
use Rattle.offline_commands.proofs.Promised.{shown, roster_status-not_done, judge_status-not_done}
use Rattle.offline_commands.proofs.commands.run_show.Goals as goal

pub returns-in_err-roster_file-clause-answers : goal.returns-in_err-roster_file-clause-answers
returns-in_err-roster_file-clause-answers g c =
    let p = err_from_is_err_and c.from_residual.result c.from_residual.ensures.1 in
    rw (p.1, p.2) (roster_unread Roster Content POST_FILE_LIMIT shown_line roster_read (file_checked c.args.round) _ _ _ _ _
    c.in_err-roster_file.ensures.answer)

pub returns-in_err-roster-clause-answers : goal.returns-in_err-roster-clause-answers
returns-in_err-roster-clause-answers g c =
    let p = err_from_is_err_and c.from_residual-in_err-roster.result c.from_residual-in_err-roster.ensures.1 in
    rw (p.1, p.2) (roster_refused Roster Content POST_FILE_LIMIT shown_line roster_read (file_checked c.args.round) _ _ _ _ _
    c.in_ok-roster_file.roster_file.items c.deref.result.now c.in_err-roster.field-0.0 c.deref.ensures.value
    c.in_ok-roster_file.ensures.answer c.in_err-roster.ensures.exact)

pub returns-in_err-bytes-clause-answers : goal.returns-in_err-bytes-clause-answers
returns-in_err-bytes-clause-answers g c =
    let p = err_from_is_err_and c.from_residual-in_err-bytes.result c.from_residual-in_err-bytes.ensures.1 in
    rw (p.1, p.2) (transcript_unread Roster Content POST_FILE_LIMIT shown_line roster_read (file_checked c.args.round) _ _ _ _ _ _ _
    c.in_ok-roster_file.roster_file.items c.deref.result.now (roster_of c.in_ok-roster.roster) c.in_err-bytes.field-0.0
    (rose_earlier _ _ _ c.in_ok-roster_file.ensures.no_fall)
    c.in_ok-roster_file.ensures.kept c.deref.ensures.value c.in_ok-roster_file.ensures.answer c.in_ok-roster.ensures.exact
    c.in_err-bytes.ensures.answer)

pub returns-in_err-content-clause-answers : goal.returns-in_err-content-clause-answers
returns-in_err-content-clause-answers g c =
    let p = err_from_is_err_and c.from_residual-in_err-content.result c.from_residual-in_err-content.ensures.1 in
    rw (p.1, p.2) (judge_refused Roster Content POST_FILE_LIMIT shown_line roster_read (file_checked c.args.round) _ _ _ _ _ _ _
    c.in_ok-roster_file.roster_file.items c.deref.result.now c.in_ok-bytes.bytes.items c.deref-2.result.now
    (roster_of c.in_ok-roster.roster) c.in_err-content.field-0.0 c.in_ok-roster_file.ensures.kept c.deref.ensures.value
    c.deref-2.ensures.value c.in_ok-roster_file.ensures.answer c.in_ok-roster.ensures.exact c.in_ok-bytes.ensures.answer
    c.in_err-content.ensures.exact)

pub returns-in_err-shown_text-clause-answers : goal.returns-in_err-shown_text-clause-answers
returns-in_err-shown_text-clause-answers g c =
    let p = err_from_is_err_and c.from_residual-in_err-shown_text.result c.from_residual-in_err-shown_text.ensures.1 in
    rw (p.1, p.2) (no_memory Roster Content POST_FILE_LIMIT shown_line roster_read (file_checked c.args.round) _ _ _ _)

pub returns-clause-answers : goal.returns-clause-answers
returns-clause-answers g c =
    judge_accepted Roster Content POST_FILE_LIMIT shown_line roster_read (file_checked c.args.round) _ _ _ _ _ _ _
    c.in_ok-roster_file.roster_file.items c.deref.result.now c.in_ok-bytes.bytes.items c.deref-2.result.now
    (roster_of c.in_ok-roster.roster) c.in_ok-content.content c.in_ok-shown_text.field-0.items c.in_ok-roster_file.ensures.kept
    c.deref.ensures.value
    c.deref-2.ensures.value c.in_ok-roster_file.ensures.answer c.in_ok-roster.ensures.exact c.in_ok-bytes.ensures.answer
    c.in_ok-content.ensures.exact c.in_ok-shown_text.ensures

pub returns-in_err-roster_file-clause-shows : goal.returns-in_err-roster_file-clause-shows
returns-in_err-roster_file-clause-shows g c =
    let p = err_from_is_err_and c.from_residual.result c.from_residual.ensures.1 in
    rw (p.1, p.2) c.in_err-roster_file.ensures.status

pub returns-in_err-roster-clause-shows : goal.returns-in_err-roster-clause-shows
returns-in_err-roster-clause-shows g c =
    let p = err_from_is_err_and c.from_residual-in_err-roster.result c.from_residual-in_err-roster.ensures.1 in
    rw (p.1, p.2) (roster_status-not_done c.in_err-roster.field-0.0)

pub returns-in_err-bytes-clause-shows : goal.returns-in_err-bytes-clause-shows
returns-in_err-bytes-clause-shows g c =
    let p = err_from_is_err_and c.from_residual-in_err-bytes.result c.from_residual-in_err-bytes.ensures.1 in
    rw (p.1, p.2) c.in_err-bytes.ensures.status

pub returns-in_err-content-clause-shows : goal.returns-in_err-content-clause-shows
returns-in_err-content-clause-shows g c =
    let p = err_from_is_err_and c.from_residual-in_err-content.result c.from_residual-in_err-content.ensures.1 in
    rw (p.1, p.2) (judge_status-not_done c.in_err-content.field-0.0)

pub returns-clause-shows : goal.returns-clause-shows
returns-clause-shows g c =
    shown _ _ _ _ _ c.in_ok-roster_file.roster_file.items c.deref.result.now c.in_ok-bytes.bytes.items c.deref-2.result.now
    c.in_ok-shown_text.field-0.items (roster_of c.in_ok-roster.roster) c.in_ok-content.content
    c.in_ok-roster_file.ensures.shown c.in_ok-roster_file.ensures.kept c.in_ok-bytes.ensures.shown c.deref.ensures.value
    c.deref-2.ensures.value
    c.in_ok-roster.ensures.found c.in_ok-content.ensures.passes c.in_ok-shown_text.ensures
