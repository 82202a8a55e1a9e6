use Rattle.group_spec.specs.World.{seat_behind}
use Rattle.group_threads.specs.Playing.{posts_of}
use Rattle.group_threads.proofs.Members.{ok-so}
use Rattle.group_threads.proofs.player.Player.serve.Goals as goal

pub returns-clause-entries : goal.returns-clause-entries
returns-clause-entries c = ok-so c.posts.result _ _ c.posts.ensures.entries (λ ok given carriage onway seat repeat is p.
    given (seat_behind carriage onway seat) (posts_of seat) (c.in_ok-take.ensures carriage onway seat (posts_of seat) repeat is p))

pub returns-clause-plays : goal.returns-clause-plays
returns-clause-plays c = ok-so c.posts.result _ _ c.posts.ensures.plays (λ ok given carriage onway seat repeat is p.
    given (seat_behind carriage onway seat) (posts_of seat) (c.in_ok-take.ensures carriage onway seat (posts_of seat) repeat is p))
