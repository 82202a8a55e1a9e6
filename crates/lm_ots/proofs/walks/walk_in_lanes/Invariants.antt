use Rattle.std.proofs.Common.{◌<◌, All, length, ◌≡◌}
use Rattle.lm_ots.specs.Walks.{SameEnds}
use Rattle.lm_ots.proofs.walks.walk_in_lanes.Given as goal

-- each lane has a chain of the table, and no chain's end has changed
abbrev pub invariant-loop-next : goal.invariant-loop-next
invariant-loop-next l = record {
  size : length l.lanes ≡ 4;
  in_table : All (λ i. i < 268) l.lanes;
  values : SameEnds l.identifier l.q l.fn.walks l.walks;
}
