use Rattle.std.proofs.Common.{refl, []}
use Rattle.std.proofs.lemmas.Result.{err_from_is_err_and}
use Rattle.group_roster.specs.Given.{roster_of}
use Rattle.offline_commands.proofs.Promised.{roster_status-not_done}
use Rattle.offline_commands.proofs.Written.{unread, refused_or_memory, bad_roster, no_memory, unwritten, written, good_roster, roster_held, one_written}
use Rattle.offline_commands.proofs.commands.run_roster.Goals as goal

pub returns-in_err-bytes : goal.returns-in_err-bytes
returns-in_err-bytes g c =
    let p = err_from_is_err_and c.from_residual.result c.from_residual.ensures.1 in
    rw (p.1, p.2) (unread _ _ _ _ _ _ _ (λ s. refl) c.in_err-bytes.ensures.answer c.in_err-bytes.ensures.status c.in_err-bytes.ensures.kept
    c.in_err-bytes.ensures.no_fall)

pub returns-in_err-roster : goal.returns-in_err-roster
returns-in_err-roster g c =
    let p = err_from_is_err_and c.from_residual-in_err-roster.result c.from_residual-in_err-roster.ensures.1 in
    rw (p.1, p.2) (refused_or_memory _ _ _ _ _ _ c.in_ok-bytes.bytes.items _ c.in_ok-bytes.ensures.shown
    c.in_ok-bytes.ensures.bounded
    (bad_roster c.in_ok-bytes.bytes.items c.deref.result.now c.in_err-roster.field-0.0 c.deref.ensures.value c.in_err-roster.ensures.exact)
    (roster_status-not_done c.in_err-roster.field-0.0) c.in_ok-bytes.ensures.kept c.in_ok-bytes.ensures.no_fall)

pub returns-in_err-spelled : goal.returns-in_err-spelled
returns-in_err-spelled g c =
    let p = err_from_is_err_and c.from_residual-in_err-spelled.result c.from_residual-in_err-spelled.ensures.1 in
    rw (p.1, p.2) (no_memory _ _ _ _ _ _ c.in_ok-bytes.ensures.kept c.in_ok-bytes.ensures.no_fall)

pub returns-in_err-text : goal.returns-in_err-text
returns-in_err-text g c =
    let p = err_from_is_err_and c.from_residual-in_err-text.result c.from_residual-in_err-text.ensures.1 in
    rw (p.1, p.2) (no_memory _ _ _ _ _ _ c.in_ok-bytes.ensures.kept c.in_ok-bytes.ensures.no_fall)

pub returns-in_err-write_whole : goal.returns-in_err-write_whole
returns-in_err-write_whole g c =
    let p = err_from_is_err_and c.from_residual-in_err-write_whole.result c.from_residual-in_err-write_whole.ensures.1 in
    rw (p.1, p.2) (unwritten _ _ _ _ _ _ _ _ _ c.in_ok-bytes.ensures.kept (one_written _ _ _ [] c.in_err-write_whole.ensures.others)
    c.in_ok-bytes.ensures.no_fall c.in_err-write_whole.ensures.no_fall c.in_err-write_whole.ensures.failed)

pub returns : goal.returns
returns g c =
    written _ _ _ _ _ _ c.in_ok-bytes.bytes.items _ _ _ c.in_ok-bytes.ensures.shown c.in_ok-bytes.ensures.bounded
    (good_roster c.in_ok-bytes.bytes.items c.deref.result.now _ (roster_of c.in_ok-roster.roster) c.deref.ensures.value
    c.in_ok-roster.ensures.exact c.in_ok-text.ensures)
    (roster_held _ _ _ c.in_ok-bytes.bytes.items c.deref.result.now _ _ _ (roster_of c.in_ok-roster.roster) c.in_ok-bytes.ensures.shown
    c.deref.ensures.value c.in_ok-roster.ensures.exact c.in_ok-roster.ensures.found c.in_ok-bytes.ensures.kept
    c.in_ok-write_whole.ensures.written c.in_ok-spelled.ensures c.in_ok-text.ensures)
    c.in_ok-bytes.ensures.kept (one_written _ _ _ [] c.in_ok-write_whole.ensures.others) c.in_ok-bytes.ensures.no_fall
    c.in_ok-write_whole.ensures.no_fall
