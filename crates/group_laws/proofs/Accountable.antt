-- That the group of every script is accountable.
use Rattle.round_script.specs.declared.script.Script.{Script}
use Rattle.round_script.specs.Script.{IsScript}
use Rattle.group_laws.specs.Accountable.{IsAccountable}
use Rattle.group_laws.proofs.Kept.{members_keep_their_promise}
use Rattle.group_laws.proofs.Members.{faults_are_shown, members_are_shown}
use Rattle.group_laws.proofs.Naming.{open_members_print_missed}
use Rattle.group_laws.proofs.Served.{blamed_are_faulty, done_members_agree, honest_members_are_served}
use Rattle.group_laws.proofs.Undisturbed.{undisturbed_groups_are_done}

pub is_accountable : (script : Script) → IsScript script → IsAccountable script
is_accountable script form = record {
  members = members_are_shown script form;
  faults = λ shown listed. faults_are_shown script shown form listed;
  promise = λ shown honest. members_keep_their_promise script shown form honest;
  names = λ shown stage bits honest waiting. open_members_print_missed script shown stage bits form honest waiting;
  messages = λ distinct shown slots honest shows. honest_members_are_served script shown slots form distinct honest shows;
  faulty = λ shown bytes accused claim distinct honest shows blames.
      blamed_are_faulty script shown bytes accused claim form distinct honest shows blames;
  one_list = λ distinct shown other slots others_slots honest others shows others_shows.
      done_members_agree script shown other slots others_slots form distinct honest others shows others_shows;
  undisturbed = λ is distinct shown listed. undisturbed_groups_are_done script shown form is distinct listed;
}
