use Rattle.std.proofs.Common.{refl}
use Rattle.std.proofs.lemmas.Result.{err_from_is_err_and}
use Rattle.offline_commands.proofs.Promised.{refused_answered, judge_answered, show_answered, keygen_answered, roster_answered, group_answered}
use Rattle.offline_commands.proofs.offline.answer_words.Goals as goal

pub returns-in_err-command : goal.returns-in_err-command
returns-in_err-command g c =
    let p = err_from_is_err_and c.from_residual.result c.from_residual.ensures.1 in
    rw (p.1, p.2) (refused_answered _ _ _ c.in_err-command.field-0.0 c.in_err-command.ensures.exact refl refl refl refl)

pub returns-in-Judge : goal.returns-in-Judge
returns-in-Judge g c =
    judge_answered _ _ _ _ _ _ (rw c.in-Judge.is at c.in_ok-command.ensures.exact) c.run_judge.ensures.answers
    c.run_judge.ensures.convicts c.run_judge.ensures.kept c.run_judge.ensures.no_fall refl refl

pub returns-in-Show : goal.returns-in-Show
returns-in-Show g c =
    show_answered _ _ _ _ _ _ _ (rw c.in-Show.is at c.in_ok-command.ensures.exact) c.run_show.ensures.answers
    c.run_show.ensures.shows c.run_show.ensures.kept c.run_show.ensures.no_fall refl refl

pub returns-in-Keygen : goal.returns-in-Keygen
returns-in-Keygen g c =
    keygen_answered _ _ _ _ _ _ _ (rw c.in-Keygen.is at c.in_ok-command.ensures.exact) c.run_keygen.ensures.answers
    c.run_keygen.ensures.made c.run_keygen.ensures.stood c.run_keygen.ensures.no_fall refl refl

pub returns-in-Roster : goal.returns-in-Roster
returns-in-Roster g c =
    roster_answered _ _ _ _ _ _ (rw c.in-Roster.is at c.in_ok-command.ensures.exact) c.run_roster.ensures refl refl

pub returns-in-Group : goal.returns-in-Group
returns-in-Group g c =
    group_answered _ _ _ _ _ _ _ (rw c.in-Group.is at c.in_ok-command.ensures.exact) c.run_group.ensures refl refl
