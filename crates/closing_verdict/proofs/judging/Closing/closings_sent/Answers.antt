use Rattle.std.proofs.Common.{◌≡◌, ℕ, List, [], ◌∷◌, ◌++◌, sym, ◌∙◌, arith, subst, length, ◌<◌, ◌^◌, All}
use Rattle.std.proofs.lemmas.List.Elements.{All-push}
use Rattle.honest_say.proofs.Members.{member-next}
use Rattle.round_spec.specs.Verdict.{sent_in}
use Rattle.closing_verdict.specs.Judgement.{Completed, completed_of, stage_closed}
use Rattle.closing_verdict.proofs.judging.Closing.closings_sent.Goals as goal

pub loop-sender-preserved : goal.loop-sender-preserved
loop-sender-preserved c =
    let of : Completed = completed_of c.args.self in
    let pushed : c.push.new.self.items ≡ c.loop-sender.posts.items ++ c.in_ok-post.post ∷ [] = c.in_ok-push.ensures.items in (
      pushed ∙ member-next (sent_in (stage_closed of) of.stage) c.loop-sender.sender c.loop-sender.posts.items c.in_ok-post.post
          (omega arith) c.loop-sender.invariant.0 c.in_ok-post.ensures.value,
      subst (λ (list : List (List ℕ)). All (λ entry. length entry < 2 ^ 32) list) (sym pushed)
          (All-push (λ entry. length entry < 2 ^ 32) c.loop-sender.posts.items c.in_ok-post.post c.loop-sender.invariant.1
          c.in_ok-post.ensures.short),
    )
