use Rattle.std.proofs.Common.{ap, ◌∙◌}
use Rattle.group_roster.specs.Binary.{roster_read}
use Rattle.group_roster.proofs.Rosters.{roster_read-found, roster_again}
use Rattle.group_roster.proofs.laws.rosters_are_spelled.Goals as goal

pub returns : goal.returns
returns c = λ bytes r. (roster_read-found bytes r, λ spelled. ap roster_read spelled.1 ∙ roster_again r spelled.0)
