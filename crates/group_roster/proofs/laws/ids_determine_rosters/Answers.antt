use Rattle.group_roster.proofs.Ids.{ids_determine}
use Rattle.group_roster.proofs.laws.ids_determine_rosters.Goals as goal

pub returns : goal.returns
returns c = ids_determine
