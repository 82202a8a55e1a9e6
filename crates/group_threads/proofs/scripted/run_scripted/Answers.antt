use Rattle.std.proofs.Common.{◌≡◌, ℕ, List, sym, ◌∙◌, subst, arith}
use Rattle.group_roster.specs.Given.{roster_of}
use Rattle.group_spec.specs.Driver.{MemberShown}
use Rattle.group_threads.specs.Given.{ShowsGroup}
use Rattle.group_threads.proofs.Members.{ok-so}
use Rattle.group_threads.proofs.Scripts.{end-is, is-made, made-group, made-roster, made-seats, repeat-least, repeat-most}
use Rattle.group_threads.proofs.scripted.run_scripted.Goals as goal

pub drive-requires-clause-group : goal.drive-requires-clause-group
drive-requires-clause-group c = made-group c.args.script.now (roster_of c.in_ok-roster.roster) c.in_ok-configs.configs.items c.in_ok-runs.runs.0.items c.in_ok-runs.runs.1.items
    c.in_ok-faults.faults.items c.requires
    (is-made c.args.script.now (roster_of c.in_ok-roster.roster) c.in_ok-configs.configs.items c.in_ok-runs.runs.0.items c.in_ok-runs.runs.1.items
    c.in_ok-faults.faults.items c.in_ok-keys.keys.items c.in_ok-keys.ensures c.in_ok-roster.ensures c.in_ok-configs.ensures c.in_ok-runs.ensures.own
    c.in_ok-runs.ensures.spare c.in_ok-faults.ensures)

pub drive-requires-clause-least : goal.drive-requires-clause-least
drive-requires-clause-least c = omega (arith, c.unwrap_or-repeat.ensures, repeat-least c.args.script.now.repeat c.requires.repeat)

pub drive-requires-clause-most : goal.drive-requires-clause-most
drive-requires-clause-most c = omega (arith, c.unwrap_or-repeat.ensures, repeat-most c.args.script.now.repeat c.requires.repeat)

pub returns-clause-exact : goal.returns-clause-exact
returns-clause-exact c = ok-so c.drive.result _ _ c.drive.ensures.exact (λ end shows.
    let seats = made-seats c.args.script.now (roster_of c.in_ok-roster.roster) c.in_ok-configs.configs.items c.in_ok-runs.runs.0.items c.in_ok-runs.runs.1.items
    c.in_ok-faults.faults.items
    (is-made c.args.script.now (roster_of c.in_ok-roster.roster) c.in_ok-configs.configs.items c.in_ok-runs.runs.0.items c.in_ok-runs.runs.1.items
    c.in_ok-faults.faults.items c.in_ok-keys.keys.items c.in_ok-keys.ensures c.in_ok-roster.ensures c.in_ok-configs.ensures c.in_ok-runs.ensures.own
    c.in_ok-runs.ensures.spare c.in_ok-faults.ensures) in
    subst (λ (l : List MemberShown). ShowsGroup l end) (end-is c.args.script.now _ _ _ c.items.ensures c.unwrap_or-repeat.ensures seats) shows)

pub returns-clause-roster : goal.returns-clause-roster
returns-clause-roster c = ok-so c.drive.result _ _ c.drive.ensures.roster (λ end all.
    made-roster c.args.script.now (roster_of c.in_ok-roster.roster) (roster_of end.roster) c.in_ok-configs.configs.items c.in_ok-runs.runs.0.items
    c.in_ok-runs.runs.1.items c.in_ok-faults.faults.items c.requires
    (is-made c.args.script.now (roster_of c.in_ok-roster.roster) c.in_ok-configs.configs.items c.in_ok-runs.runs.0.items c.in_ok-runs.runs.1.items
    c.in_ok-faults.faults.items c.in_ok-keys.keys.items c.in_ok-keys.ensures c.in_ok-roster.ensures c.in_ok-configs.ensures c.in_ok-runs.ensures.own
    c.in_ok-runs.ensures.spare c.in_ok-faults.ensures) all)
