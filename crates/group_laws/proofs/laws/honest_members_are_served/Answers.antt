use Rattle.group_laws.proofs.Served.{blamed_are_faulty, done_members_agree, honest_members_are_served}
use Rattle.group_laws.proofs.laws.honest_members_are_served.Goals as goal

pub returns-clause-served : goal.returns-clause-served
returns-clause-served c = honest_members_are_served

pub returns-clause-one_list : goal.returns-clause-one_list
returns-clause-one_list c = done_members_agree

pub returns-clause-faulty : goal.returns-clause-faulty
returns-clause-faulty c = blamed_are_faulty
