use Rattle.std.proofs.Common.{◌≡◌, ◌∙◌}
use Rattle.group_threads.proofs.player.Player.end.Goals as goal

pub returns : goal.returns
returns c = λ seat count p. (c.in_ok-end.ensures seat count p, c.of.ensures ∙ p.delivered)
