use Rattle.std.proofs.Common.{◌≡◌, ℕ, ◌<◌, ◌≤◌, List, [], length, sym, ◌∙◌, refl, subst, arith}
use Rattle.std.proofs.lemmas.List.{length-set}
use Rattle.group_spec.specs.World.{entries_behind, seat_behind}
use Rattle.group_threads.specs.declared.queue.Entry.{Entry}
use Rattle.group_threads.specs.Playing.{HaveTurned, posts_of}
use Rattle.group_threads.proofs.Groups.{indexed}
use Rattle.group_threads.proofs.Worlds.{all-turned, none-turned, one-turned}
use Rattle.group_threads.proofs.driving.serve_all.Goals as goal

pub loop-place-init : goal.loop-place-init
loop-place-init c = record {
  same = refl;
  turned = λ carriage onway seats repeat is are. subst (λ (held : List Entry). HaveTurned (seat_behind carriage onway) posts_of (entries_behind carriage onway) seats
      c.args.players.now.items [] held 0) (sym c.new-posted.ensures.items)
      (none-turned (seat_behind carriage onway) posts_of (entries_behind carriage onway) seats c.args.players.now.items [] are);
}

pub loop-place-preserved : goal.loop-place-preserved
loop-place-preserved c =
    let within : c.loop-place.place < length c.loop-place.players.items = omega (
      arith,
      c.loop-place-test.true,
      c.loop-place.invariant.same,
      c.len-count.ensures,
      c.args.players.now.ok.0,
    ) in
    record {
      same = length-set c.loop-place.players.items c.loop-place.place c.serve.new.self ∙ c.loop-place.invariant.same;
      turned = λ carriage onway seats repeat is are. one-turned (seat_behind carriage onway) posts_of (entries_behind carriage onway) seats
          c.loop-place.players.items [] c.loop-place.posted.items c.serve.new.entries.items c.loop-place.place c.index_mut.result.now c.serve.new.self
          (c.loop-place.invariant.turned carriage onway seats repeat is are)
          (indexed c.loop-place.players.items c.loop-place.place c.index_mut.result.now within c.index_mut.ensures.value)
          (λ seat p. c.in_ok-serve.ensures.entries carriage onway seat repeat is p)
          (λ seat p. c.in_ok-serve.ensures.plays carriage onway seat repeat is p);
    }

pub returns : goal.returns
returns c = λ carriage onway seats repeat is are.
    let past : length c.loop-place.players.items ≤ c.loop-place.place = omega (
      arith,
      c.loop-place-test.false,
      c.loop-place.invariant.same,
      c.len-count.ensures,
      c.args.players.now.ok.0,
    ) in
    let all = all-turned (seat_behind carriage onway) posts_of (entries_behind carriage onway) seats c.loop-place.players.items [] c.loop-place.posted.items
    c.loop-place.place (c.loop-place.invariant.turned carriage onway seats repeat is are) past in
    (all.0, all.1)
