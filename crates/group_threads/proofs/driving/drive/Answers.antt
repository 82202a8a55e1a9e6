use Rattle.std.proofs.Common.{◌≡◌, ◌≤◌, ◌+◌, ◌*◌, length, ap, sym, ◌∙◌, subst, arith}
use Rattle.std.specs.Fn.{iterate}
use Rattle.group_roster.specs.Given.{roster_of}
use Rattle.group_spec.specs.World.{Carriage, World, first_world, last_world, world_behind_step}
use Rattle.group_threads.specs.Given.{seats_of}
use Rattle.group_threads.specs.Playing.{ArePlayed, IsWorld, posts_of}
use Rattle.group_threads.proofs.Groups.{carried, few, shows-group, steps-most}
use Rattle.group_threads.proofs.Members.{ok-so}
use Rattle.group_threads.proofs.Worlds.{first-world, one-more}
use Rattle.member_parts.specs.declared.config.Config.{Config}
use Rattle.group_threads.proofs.driving.drive.Goals as goal

pub loop-place-init : goal.loop-place-init
loop-place-init c =
    let seats = seats_of c.args.configs.now.items c.args.leaves.items c.args.spare.items c.args.faults.now.items in
    let asked = c.in_ok-queue.ensures seats c.in_ok-players.ensures in
    first-world c.first_posts.new.players.items c.in_ok-queue.queue.items seats asked.0 asked.1

pub loop-place-preserved : goal.loop-place-preserved
loop-place-preserved c =
    let carriage : Carriage = record { drops = c.args.drops.now.items; repeat = c.args.repeat } in
    let seats = seats_of c.args.configs.now.items c.args.leaves.items c.args.spare.items c.args.faults.now.items in
    subst (λ (w : World). IsWorld c.step.new.players.items c.step.new.queue.items (c.loop-place.place + 1) w)
    (sym (one-more (world_behind_step carriage) c.loop-place.place (first_world seats)))
    (c.in_ok-step.ensures (iterate (world_behind_step carriage) c.loop-place.place (first_world seats)) c.loop-place.invariant)

pub returns-clause-exact : goal.returns-clause-exact
returns-clause-exact c = ok-so c.end_of.result _ _ c.end_of.ensures.shows (λ end shows.
    let carriage : Carriage = record { drops = c.args.drops.now.items; repeat = c.args.repeat } in
    let seats = seats_of c.args.configs.now.items c.args.leaves.items c.args.spare.items c.args.faults.now.items in
    let most = steps-most c.args.configs.now.items c.args.leaves.items c.args.spare.items c.args.faults.now.items in
    let all = carried carriage seats c.loop-place.place (omega (arith, most, c.loop-place-test.false, c.len-place-end.ensures, c.args.configs.now.ok.0)) in
    shows-group carriage seats end (shows (last_world carriage seats).seats
    (subst (λ (w : World). ArePlayed c.loop-place.players.items w.seats posts_of) all c.loop-place.invariant.seats)))

pub returns-clause-roster : goal.returns-clause-roster
returns-clause-roster c = ok-so c.end_of.result _ _ c.end_of.ensures.roster (λ end same k d within.
    let now = c.index.result.now in
    same ∙ ap (λ (x : Config). roster_of x.roster) c.index.ensures
    ∙ c.requires.group.rosters 0 now (omega (arith, c.requires.group.least)) k d within)
