use Rattle.std.proofs.Common.{◌≡◌, ℕ, ◌<◌, ◌≤◌, false}
use Rattle.honest_say.proofs.VotingLemmas.{is_aborted}
use Rattle.honest_say.proofs.voting.has_abort.Given as goal

-- no earlier turn is Abort
abbrev pub invariant-loop-turn : goal.invariant-loop-turn
invariant-loop-turn l = (turn : ℕ) → 1 ≤ turn → turn < l.turn → is_aborted l.log l.shuffle turn ≡ false
