use Rattle.std.proofs.Common.{◌≡◌}
use Rattle.std.specs.Fn.{iterate}
use Rattle.round_spec.specs.Say.{Configuration}
use Rattle.member_spec.specs.Actor.{Actor, actor_behind_step}
use Rattle.member_spec.specs.Replies.{Replies}
use Rattle.member_parts.specs.Endings.{IsRunning}
use Rattle.member_core.specs.Membership.{holdings_of}
use Rattle.member_core.specs.Sound.{IsSound}
use Rattle.member_core.specs.Stands.{StandsFor}
use Rattle.member_core.proofs.machine.Machine.advance.Given as goal

abbrev pub invariant-loop : goal.invariant-loop
invariant-loop g l =
    IsSound l.self × IsRunning l.self.ending × (l.self.handed ≡ l.fn.self.handed)
    × ((start : Replies) (c : Configuration) (a : Actor) → StandsFor (g.C.Conduct.replies l.fn.conduct) start c a (holdings_of l.fn.self)
    → StandsFor (g.C.Conduct.replies l.conduct) start c (iterate (actor_behind_step start c) l.counter a) (holdings_of l.self))
