use Rattle.std.proofs.Common.{arith}
use Rattle.round_script.proofs.reading.read_opening.Goals as goal

pub read_messages-requires-clause-fifth : goal.read_messages-requires-clause-fifth
read_messages-requires-clause-fifth c =
    omega (
      arith,
      c.requires,
      c.in_ok-read_version.ensures.next,
      c.in_ok-shape.ensures.next,
      c.in_ok-round.ensures.next,
      c.in_ok-seed.ensures.next,
    )
