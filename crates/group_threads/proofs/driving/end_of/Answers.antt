use Rattle.std.proofs.Common.{◌≡◌, ℕ, List, map, ◌++◌, [], ◌∷◌, ap, sym, ◌∙◌, subst}
use Rattle.std.proofs.lemmas.Iterator.Adapters.{YieldsList-from_vec}
use Rattle.std.proofs.lemmas.Iterator.Consumers.{YieldsList-end}
use Rattle.group_spec.specs.World.{Seat}
use Rattle.group_spec.specs.declared.ending.MemberEnd.{MemberEnd}
use Rattle.group_threads.specs.declared.player.Player.{Player}
use Rattle.group_threads.specs.Playing.{ArePlayed, posts_of}
use Rattle.group_threads.proofs.Groups.{mapped-last, mapped-same, played-last, shown-end, shows}
use Rattle.group_threads.proofs.driving.end_of.Goals as goal

pub loop-player-preserved : goal.loop-player-preserved
loop-player-preserved c = λ seats are.
    let last = played-last c.loop-player.yielded c.in-Some.player seats posts_of are in
    let before = c.loop-player.invariant last.front last.others in
    let end = c.in_ok-end.ensures last.seat (posts_of last.seat) last.plays in (
      c.in_ok-push.ensures.items ∙ ap (λ (l : List MemberEnd). l ++ c.in_ok-end.end ∷ []) before.0
          ∙ ap (λ (e : MemberEnd). map shown-end last.front ++ e ∷ []) end.0 ∙ sym (mapped-last shown-end last.front last.seat)
          ∙ ap (λ (l : List Seat). map shown-end l) (sym last.all),
      c.in_ok-push-2.ensures.items ∙ ap (λ (l : List (List (List ℕ))). l ++ c.in_ok-end.delivered ∷ []) before.1
          ∙ ap (λ (e : List (List ℕ)). map (λ (s : Seat). s.delivered) last.front ++ e ∷ []) end.1
          ∙ sym (mapped-last (λ (s : Seat). s.delivered) last.front last.seat)
          ∙ ap (λ (l : List Seat). map (λ (s : Seat). s.delivered) l) (sym last.all),
    )

pub returns-clause-shows : goal.returns-clause-shows
returns-clause-shows c = λ seats are.
    let gives = c.into_iter-player-iterator.ensures.into_iter_gives in
    let t = YieldsList-end (YieldsList-from_vec {s = c.into_iter-player-iterator.result} c.args.players.items gives.0 (gives.1 ∙ c.args.players.ok.0))
    c.loop-player.yielded c.loop-player.player-iterator c.loop-player.yielded_by c.next.result c.next.new.self c.in-None.is c.next.ensures.steps in
    let whole : c.loop-player.yielded ≡ c.args.players.items = sym (mapped-same c.loop-player.yielded) ∙ t.0 in
    let all = c.loop-player.invariant seats (subst (λ (ps : List Player). ArePlayed ps seats posts_of) (sym whole) are) in
    shows seats _ (c.of.ensures ∙ all.0) (c.of-2.ensures ∙ all.1)
