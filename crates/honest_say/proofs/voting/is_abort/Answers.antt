use Rattle.std.proofs.Common.{◌≡◌, ℕ, List, length, get_or, Option, ap, sym, ◌∙◌, arith}
use Rattle.std.specs.Prelude.{is_none, ◌==◌}
use Rattle.std.proofs.lemmas.List.{get_or_read}
use Rattle.phase_message.specs.declared.post.Post.{Post}
use Rattle.shuffle_blame.specs.Replay.{list_of}
use Rattle.shuffle_blame.specs.Rules.{body_of_post}
use Rattle.honest_say.proofs.VotingLemmas.{abort-kept}
use Rattle.honest_say.proofs.voting.is_abort.Goals as goal

pub returns-in-None : goal.returns-in-None
returns-in-None c = ap (λ (o : Option Post). is_none (list_of (body_of_post c.args.log.now.shape o))) c.in-None.ensures.post

pub returns-in-Some : goal.returns-in-Some
returns-in-Some c =
    let post = c.in-Some.post.now in
    let same : c.items.result.now.items ≡ post.content = c.items.ensures in
    let least = c.in-Some.ensures.content.least in
    let read = get_or_read c.items.result.now.items 75 c.index.result.now (omega (arith, least, ap (λ (t : List ℕ). length t) same))
    c.index.ensures 0 in
    ap (λ (b : ℕ). b == 4) (read ∙ ap (λ (t : List ℕ). get_or t 75 0) same)
    ∙ abort-kept c.args.log.now c.args.slot post (sym c.in-Some.ensures.post) c.requires.stand c.requires.turn
