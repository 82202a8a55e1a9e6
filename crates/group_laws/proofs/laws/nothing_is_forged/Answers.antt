use Rattle.group_laws.proofs.Forging.{nothing_is_forged}
use Rattle.group_laws.proofs.Served.{honest_stand_among, runs_are_honest}
use Rattle.group_laws.proofs.laws.nothing_is_forged.Goals as goal

pub returns-clause-honest : goal.returns-clause-honest
returns-clause-honest c = runs_are_honest

pub returns-clause-unforged : goal.returns-clause-unforged
returns-clause-unforged c = nothing_is_forged

pub returns-clause-among : goal.returns-clause-among
returns-clause-among c = honest_stand_among
