use Rattle.ring_poly.proofs.Packings.{packed_is_read_back, read_is_packed_back, refusal_names_least}
use Rattle.ring_poly.proofs.laws.packing_undone.Goals as goal

pub returns-clause-read_back : goal.returns-clause-read_back
returns-clause-read_back c = packed_is_read_back

pub returns-clause-packed_back : goal.returns-clause-packed_back
returns-clause-packed_back c = read_is_packed_back

pub returns-clause-refused : goal.returns-clause-refused
returns-clause-refused c = refusal_names_least
