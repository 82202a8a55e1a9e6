use Rattle.std.proofs.Common.{◌≡◌, ◌-◌, ◌++◌, length, take}
use Rattle.lm_ots.specs.OneTime.{stepped, u16str, u32str}
use Rattle.lm_ots.proofs.chains.chain.Given as goal

-- the block keeps its size and its head, and the steps left lead from tmp to where all steps lead from x
abbrev pub invariant-loop-j : goal.invariant-loop-j
invariant-loop-j l = record {
  size : length l.block ≡ 55;
  head : take 22 l.block ≡ l.identifier ++ u32str l.q ++ u16str l.i;
  steps_left : stepped l.identifier l.q l.i (l.to - l.j) l.j l.tmp
      ≡ stepped l.identifier l.q l.i (l.to - l.from) l.from l.fn.x;
}
