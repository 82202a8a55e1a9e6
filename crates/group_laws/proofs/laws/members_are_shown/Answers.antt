use Rattle.group_laws.proofs.Members.{faults_are_shown, members_are_shown}
use Rattle.group_laws.proofs.laws.members_are_shown.Goals as goal

pub returns-clause-members : goal.returns-clause-members
returns-clause-members c = members_are_shown

pub returns-clause-faults : goal.returns-clause-faults
returns-clause-faults c = faults_are_shown
