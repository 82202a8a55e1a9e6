use Rattle.std.proofs.Common.{refl, ◌∙◌, ap}
use Rattle.std.proofs.lemmas.Result.{err_from_is_err_and}
use Rattle.group_roster.specs.Roster.{roster_spelling}
use Rattle.group_report.specs.Report.{evidence_seen, group_output}
use Rattle.offline_commands.proofs.Written.{unread, refused_or_memory, bad_script, script_status-not_done, no_memory, unwritten, written, good_script, group_held}
use Rattle.offline_commands.proofs.rounds.run_group.Goals as goal

pub returns-in_err-bytes : goal.returns-in_err-bytes
returns-in_err-bytes g c =
    let p = err_from_is_err_and c.from_residual.result c.from_residual.ensures.1 in
    rw (p.1, p.2) (unread _ _ _ _ _ _ _ (λ s. refl) c.in_err-bytes.ensures.answer c.in_err-bytes.ensures.status c.in_err-bytes.ensures.kept
    c.in_err-bytes.ensures.no_fall)

pub returns-in_err-script : goal.returns-in_err-script
returns-in_err-script g c =
    let p = err_from_is_err_and c.from_residual-in_err-script.result c.from_residual-in_err-script.ensures.1 in
    rw (p.1, p.2) (refused_or_memory _ _ _ _ _ _ c.in_ok-bytes.bytes.items _ c.in_ok-bytes.ensures.shown
    c.in_ok-bytes.ensures.bounded
    (bad_script c.in_ok-bytes.bytes.items c.deref.result.now c.in_err-script.field-0.0 c.deref.ensures.value c.in_err-script.ensures.exact)
    (script_status-not_done c.in_err-script.field-0.0) c.in_ok-bytes.ensures.kept c.in_ok-bytes.ensures.no_fall)

pub returns-in_err-end : goal.returns-in_err-end
returns-in_err-end g c =
    let p = err_from_is_err_and c.from_residual-in_err-end.result c.from_residual-in_err-end.ensures.1 in
    rw (p.1, p.2) (no_memory _ _ _ _ _ _ c.in_ok-bytes.ensures.kept c.in_ok-bytes.ensures.no_fall)

pub returns-in_err-spelled : goal.returns-in_err-spelled
returns-in_err-spelled g c =
    let p = err_from_is_err_and c.from_residual-in_err-spelled.result c.from_residual-in_err-spelled.ensures.1 in
    rw (p.1, p.2) (no_memory _ _ _ _ _ _ c.in_ok-bytes.ensures.kept c.in_ok-bytes.ensures.no_fall)

pub returns-in_err-text : goal.returns-in_err-text
returns-in_err-text g c =
    let p = err_from_is_err_and c.from_residual-in_err-text.result c.from_residual-in_err-text.ensures.1 in
    rw (p.1, p.2) (no_memory _ _ _ _ _ _ c.in_ok-bytes.ensures.kept c.in_ok-bytes.ensures.no_fall)

pub returns-in_err-write_group : goal.returns-in_err-write_group
returns-in_err-write_group g c =
    let p = err_from_is_err_and c.from_residual-in_err-write_group.result c.from_residual-in_err-write_group.ensures.1 in
    rw (p.1, p.2) (unwritten _ _ _ _ _ _ _ _ _ c.in_ok-bytes.ensures.kept c.in_err-write_group.ensures.others
    c.in_ok-bytes.ensures.no_fall c.in_err-write_group.ensures.no_fall c.in_err-write_group.ensures.failed)

pub returns : goal.returns
returns g c =
    let shown = c.items-members.ensures ∙ c.in_ok-end.ensures.exact.members in
    let prints = c.in_ok-text.ensures ∙ ap group_output shown in
    written _ _ _ _ _ _ c.in_ok-bytes.bytes.items _ _ _ c.in_ok-bytes.ensures.shown c.in_ok-bytes.ensures.bounded
    (good_script c.in_ok-bytes.bytes.items c.deref.result.now _ c.in_ok-script.script c.deref.ensures.value
    c.in_ok-script.ensures.exact prints)
    (group_held _ _ _ _ c.in_ok-bytes.bytes.items c.deref.result.now _ _ _ _ c.in_ok-script.script c.in_ok-bytes.ensures.shown
    c.deref.ensures.value c.in_ok-script.ensures.exact c.in_ok-script.ensures.found c.in_ok-bytes.ensures.kept
    c.in_ok-write_group.ensures.written (c.in_ok-spelled.ensures ∙ ap roster_spelling c.in_ok-end.ensures.roster)
    (c.evidence.ensures ∙ ap evidence_seen shown) prints)
    c.in_ok-bytes.ensures.kept c.in_ok-write_group.ensures.others c.in_ok-bytes.ensures.no_fall
    c.in_ok-write_group.ensures.no_fall
