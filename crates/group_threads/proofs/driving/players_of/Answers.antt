use Rattle.std.proofs.Common.{◌≡◌, ℕ, ◌+◌, ◌<◌, List, ◌++◌, [], ◌∷◌, take, length, sym, ◌∙◌, subst, arith}
use Rattle.group_threads.specs.declared.player.Player.{Player}
use Rattle.group_threads.specs.Given.{seats_of}
use Rattle.group_threads.specs.Playing.{ArePlayed}
use Rattle.group_threads.proofs.Groups.{all-begun, begun, can-take, indexed, taken-get}
use Rattle.group_threads.proofs.driving.players_of.Goals as goal

pub player_of-requires-clause-first : goal.player_of-requires-clause-first
player_of-requires-clause-first c = (can-take c.args.configs.now.items c.args.leaves.items c.args.spare.items c.args.faults.now.items c.loop-place.place
    c.index.result.now c.in-Some.own c.in-Some-next.second _ _ c.requires
    (omega (arith, c.loop-place-test.true, c.len-place-end.ensures, c.args.configs.now.ok.0)) c.index.ensures
    (sym c.loop-place.invariant.runs ∙ c.in-Some.ensures.cases.0) (sym c.loop-place.invariant.spares ∙ c.in-Some-next.ensures.cases.0)).first

pub player_of-requires-clause-last : goal.player_of-requires-clause-last
player_of-requires-clause-last c = (can-take c.args.configs.now.items c.args.leaves.items c.args.spare.items c.args.faults.now.items c.loop-place.place
    c.index.result.now c.in-Some.own c.in-Some-next.second _ _ c.requires
    (omega (arith, c.loop-place-test.true, c.len-place-end.ensures, c.args.configs.now.ok.0)) c.index.ensures
    (sym c.loop-place.invariant.runs ∙ c.in-Some.ensures.cases.0) (sym c.loop-place.invariant.spares ∙ c.in-Some-next.ensures.cases.0)).last

pub player_of-requires-clause-leaves : goal.player_of-requires-clause-leaves
player_of-requires-clause-leaves c = (can-take c.args.configs.now.items c.args.leaves.items c.args.spare.items c.args.faults.now.items c.loop-place.place
    c.index.result.now c.in-Some.own c.in-Some-next.second _ _ c.requires
    (omega (arith, c.loop-place-test.true, c.len-place-end.ensures, c.args.configs.now.ok.0)) c.index.ensures
    (sym c.loop-place.invariant.runs ∙ c.in-Some.ensures.cases.0) (sym c.loop-place.invariant.spares ∙ c.in-Some-next.ensures.cases.0)).leaves_left

pub player_of-requires-clause-spare : goal.player_of-requires-clause-spare
player_of-requires-clause-spare c = (can-take c.args.configs.now.items c.args.leaves.items c.args.spare.items c.args.faults.now.items c.loop-place.place
    c.index.result.now c.in-Some.own c.in-Some-next.second _ _ c.requires
    (omega (arith, c.loop-place-test.true, c.len-place-end.ensures, c.args.configs.now.ok.0)) c.index.ensures
    (sym c.loop-place.invariant.runs ∙ c.in-Some.ensures.cases.0) (sym c.loop-place.invariant.spares ∙ c.in-Some-next.ensures.cases.0)).single

pub loop-place-preserved : goal.loop-place-preserved
loop-place-preserved c =
    let own = taken-get c.args.leaves.items c.loop-place.place c.in-Some.own _ (sym c.loop-place.invariant.runs ∙ c.in-Some.ensures.cases.0) in
    let second = taken-get c.args.spare.items c.loop-place.place c.in-Some-next.second _ (sym c.loop-place.invariant.spares ∙ c.in-Some-next.ensures.cases.0) in
    let within : c.loop-place.place < length c.args.configs.now.items = omega (arith, c.loop-place-test.true, c.len-place-end.ensures, c.args.configs.now.ok.0) in
    let faulty : c.loop-place.place < length c.args.faults.now.items = omega (arith, within, c.requires.faulty) in
    record {
      runs = own.1;
      runs_left = omega (arith, c.loop-place.invariant.runs_left, c.in-Some.ensures.cases.1);
      spares = second.1;
      spares_left = omega (arith, c.loop-place.invariant.spares_left, c.in-Some-next.ensures.cases.1);
      players = subst (λ (ps : List Player). ArePlayed ps
          (take (c.loop-place.place + 1) (seats_of c.args.configs.now.items c.args.leaves.items c.args.spare.items c.args.faults.now.items)) (λ _. 0))
          (sym c.in_ok-push.ensures.items)
          (begun c.args.configs.now.items c.args.leaves.items c.args.spare.items c.args.faults.now.items c.loop-place.place c.index.result.now c.in-Some.own
          c.in-Some-next.second c.index-in-loop-place.result.now c.loop-place.players.items c.in_ok-player.player
          (indexed c.args.configs.now.items c.loop-place.place c.index.result.now within c.index.ensures) own.0 second.0
          (indexed c.args.faults.now.items c.loop-place.place c.index-in-loop-place.result.now faulty c.index-in-loop-place.ensures)
          c.loop-place.invariant.players c.in_ok-player.ensures);
    }

pub returns : goal.returns
returns c = all-begun c.args.configs.now.items c.args.leaves.items c.args.spare.items c.args.faults.now.items c.loop-place.place c.loop-place.players.items
    (omega (arith, c.loop-place-test.false, c.len-place-end.ensures, c.args.configs.now.ok.0)) c.loop-place.invariant.players
