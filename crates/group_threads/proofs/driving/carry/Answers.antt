use Rattle.std.proofs.Common.{◌≡◌, ◌+◌, List, ap, sym, ◌∙◌, refl, subst}
use Rattle.group_spec.specs.World.{Carriage, world_behind_step}
use Rattle.group_threads.specs.declared.queue.Entry.{Entry}
use Rattle.group_threads.specs.Playing.{IsWorld}
use Rattle.group_threads.proofs.Groups.{indexed}
use Rattle.group_threads.proofs.Members.{ok-so}
use Rattle.group_threads.proofs.Worlds.{carried-step, dropped-step, first-is}
use Rattle.group_threads.proofs.driving.carry.Goals as goal

pub returns-then-dropped : goal.returns-then-dropped
returns-then-dropped c = λ world is.
    let carriage : Carriage = record { drops = c.args.drops.now.items; repeat = c.args.repeat } in
    let held = c.index-entry.result.now in
    let first = first-is c.args.queue.now.items c.args.place held world
    (indexed c.args.queue.now.items c.args.place held c.requires c.index-entry.ensures) is.queue in
    dropped-step carriage c.args.players.now.items c.args.queue.now.items c.args.place held world is first
    (sym (c.in_ok-dropped.ensures first.entry.post (ap (λ (h : Entry). h.bytes) first.written)) ∙ c.if-dropped.true)

pub returns : goal.returns
returns c = ok-so c.append.result _ _ c.append.ensures (λ ok put world is.
    let carriage : Carriage = record { drops = c.args.drops.now.items; repeat = c.args.repeat } in
    let held = c.index-entry.result.now in
    let first = first-is c.args.queue.now.items c.args.place held world
    (indexed c.args.queue.now.items c.args.place held c.requires c.index-entry.ensures) is.queue in
    let served = c.in_ok-posted.ensures carriage first.entry world.seats refl first.written is.seats in
    subst (λ (q : List Entry). IsWorld c.serve_all.new.players.items q (c.args.place + 1) (world_behind_step carriage world)) (sym put)
    (carried-step carriage c.args.players.now.items c.serve_all.new.players.items c.args.queue.now.items c.in_ok-posted.posted.items c.args.place held world is
    c.requires first (sym (c.in_ok-dropped.ensures first.entry.post (ap (λ (h : Entry). h.bytes) first.written)) ∙ c.if-dropped.false) served.0 served.1))
