use Rattle.round_script.specs.Given.{opening_of}
use Rattle.round_script.specs.Read.{further_of}
use Rattle.round_script.proofs.ReadLemmas.{found_of, further_is, opening_is}
use Rattle.round_script.proofs.reading.parse_script.Goals as goal

pub returns-clause-found : goal.returns-clause-found
returns-clause-found c =
    let opening = opening_of c.in_ok-opening.opening in
    found_of c.read_further.result (further_of opening c.read_opening.new.lines)
    (λ script e. further_is opening c.read_opening.new.lines script
    (opening_is _ (opening, c.read_opening.new.lines) c.in_ok-opening.ensures) e) c.read_further.ensures
