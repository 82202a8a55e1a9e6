use Rattle.group_laws.proofs.Naming.{bits_list_members, open_members_print_missed}
use Rattle.group_laws.proofs.laws.open_members_print_who_is_missed.Goals as goal

pub returns-clause-bits : goal.returns-clause-bits
returns-clause-bits c = bits_list_members

pub returns-clause-missed : goal.returns-clause-missed
returns-clause-missed c = open_members_print_missed
