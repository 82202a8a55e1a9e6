use Rattle.std.proofs.Common.{◌≡◌, ℕ, ◌<◌, ◌≤◌, List, [], length, sym, ◌∙◌, refl, subst, arith}
use Rattle.std.proofs.lemmas.List.{length-set}
use Rattle.group_spec.specs.World.{Seat, entries_beyond}
use Rattle.group_threads.specs.declared.queue.Entry.{Entry}
use Rattle.group_threads.specs.Playing.{ArePlayed, HaveTurned, posts_of}
use Rattle.group_threads.proofs.Groups.{indexed, mapped-same}
use Rattle.group_threads.proofs.Worlds.{all-turned, none-turned, one-turned}
use Rattle.group_threads.proofs.driving.first_posts.Goals as goal

pub loop-place-init : goal.loop-place-init
loop-place-init c = record {
  same = refl;
  turned = λ seats are. subst (λ (held : List Entry). HaveTurned (λ s. s) (λ _. 0) (entries_beyond 0) seats c.args.players.now.items [] held 0)
      (sym c.new-posted.ensures.items) (none-turned (λ s. s) (λ _. 0) (entries_beyond 0) seats c.args.players.now.items [] are);
}

pub loop-place-preserved : goal.loop-place-preserved
loop-place-preserved c =
    let within : c.loop-place.place < length c.loop-place.players.items = omega (
      arith,
      c.loop-place-test.true,
      c.loop-place.invariant.same,
      c.len-place-end.ensures,
      c.args.players.now.ok.0,
    ) in
    record {
      same = length-set c.loop-place.players.items c.loop-place.place c.posts.new.self ∙ c.loop-place.invariant.same;
      turned = λ seats are. one-turned (λ s. s) (λ _. 0) (entries_beyond 0) seats c.loop-place.players.items [] c.loop-place.posted.items c.posts.new.entries.items
          c.loop-place.place c.index_mut.result.now c.posts.new.self (c.loop-place.invariant.turned seats are)
          (indexed c.loop-place.players.items c.loop-place.place c.index_mut.result.now within c.index_mut.ensures.value)
          (λ seat p. c.in_ok-posts.ensures.entries seat 0 p) (λ seat p. c.in_ok-posts.ensures.plays seat 0 p);
    }

pub returns : goal.returns
returns c = λ seats are.
    let past : length c.loop-place.players.items ≤ c.loop-place.place = omega (
      arith,
      c.loop-place-test.false,
      c.loop-place.invariant.same,
      c.len-place-end.ensures,
      c.args.players.now.ok.0,
    ) in
    let all = all-turned (λ s. s) (λ _. 0) (entries_beyond 0) seats c.loop-place.players.items [] c.loop-place.posted.items c.loop-place.place
    (c.loop-place.invariant.turned seats are) past in
    (all.0, subst (λ (ss : List Seat). ArePlayed c.loop-place.players.items ss posts_of) (mapped-same seats) all.1)
