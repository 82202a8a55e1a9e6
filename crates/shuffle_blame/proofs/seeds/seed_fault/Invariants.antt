use Rattle.std.proofs.Common.{◌≡◌, ◌<◌, ◌≤◌, ℕ, true}
use Rattle.shuffle_blame.specs.Rules.{inquiry_at}
use Rattle.shuffle_blame.specs.Replay.{shows_its_seed}
use Rattle.shuffle_blame.proofs.seeds.seed_fault.Given as goal

-- each earlier member shows the seed of its outer key
abbrev pub invariant-loop-member : goal.invariant-loop-member
invariant-loop-member l =
    (earlier : ℕ) → 1 ≤ earlier → earlier < l.member → shows_its_seed (inquiry_at l.fn.log l.fn.ended l.fn.parts) l.fn.ended.shuffle earlier
    ≡ true
