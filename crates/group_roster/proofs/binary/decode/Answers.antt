use Rattle.group_roster.specs.Given.{roster_of}
use Rattle.group_roster.proofs.Rosters.{decoded_found, decoded_again}
use Rattle.group_roster.proofs.binary.decode.Goals as goal

pub returns-clause-found : goal.returns-clause-found
returns-clause-found c = decoded_found roster_of c.args.bytes.now c.read.result c.read.ensures.exact

pub returns-clause-only : goal.returns-clause-only
returns-clause-only c = λ r file e. decoded_again roster_of c.args.bytes.now c.read.result r c.read.ensures.exact file e
