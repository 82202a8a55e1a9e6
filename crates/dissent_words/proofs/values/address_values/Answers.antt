use Rattle.clap.specs.Matches.{found_of}
use Rattle.dissent_words.proofs.Reading.{some_addresses, no_addresses}
use Rattle.dissent_words.proofs.values.address_values.Goals as goal

pub returns-in-Some : goal.returns-in-Some
returns-in-Some c = some_addresses (found_of c.args.matches.now) c.in-Some.addresses.now c.from_slice.result c.from_slice.ensures.items c.in-Some.ensures

pub returns-in-None : goal.returns-in-None
returns-in-None c = no_addresses (found_of c.args.matches.now) c.new.result.items c.new.ensures.items c.in-None.ensures
