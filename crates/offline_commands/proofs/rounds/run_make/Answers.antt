use Rattle.std.proofs.Common.{sym, ◌∙◌, ap, subst}
use Rattle.round_script.specs.declared.script.Script.{Script}
use Rattle.round_script.specs.Script.{IsScript}
use Rattle.round_script.proofs.MadeLemmas.{made_is}
use Rattle.group_laws.proofs.Accountable.{is_accountable}
use Rattle.group_report.specs.Report.{make_output}
use Rattle.offline_commands.specs.Outcome.{members_seen}
use Rattle.offline_commands.proofs.rounds.run_make.Goals as goal

pub run_scripted-requires : goal.run_scripted-requires
run_scripted-requires c =
    subst (λ (s : Script). IsScript s) (sym c.in_ok-script.ensures)
    (made_is c.args.number c.args.members c.args.bytes c.args.fault c.requires.least c.requires.most c.requires.short)

pub returns-clause-made : goal.returns-clause-made
returns-clause-made c = record {
  form = made_is c.args.number c.args.members c.args.bytes c.args.fault c.requires.least c.requires.most c.requires.short;
  accountable = is_accountable _
      (made_is c.args.number c.args.members c.args.bytes c.args.fault c.requires.least c.requires.most c.requires.short);
  printed = c.in_ok-make_text.ensures
      ∙ ap make_output (c.items.ensures ∙ (c.in_ok-end.ensures.exact.members ∙ ap members_seen c.in_ok-script.ensures));
}
