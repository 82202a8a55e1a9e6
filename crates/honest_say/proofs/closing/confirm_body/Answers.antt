use Rattle.std.proofs.Common.{◌≡◌, ℕ, ◌+◌, ap, sym, ◌∙◌, subst}
use Rattle.std.specs.Prelude.{IsSome, option_and_then}
use Rattle.phase_message.specs.declared.content.Body.TheVariants.{Confirm, Differ}
use Rattle.phase_message.specs.Shape.{Shape}
use Rattle.phase_message.specs.Stages.{kind_of_stage, vote_of}
use Rattle.go_nogo.specs.Rows.{confirm_row}
use Rattle.honest_say.specs.Pasts.{posts_before}
use Rattle.honest_say.specs.Closings.{embedded_in}
use Rattle.honest_say.proofs.ClosingRows.{confirm-all, confirm-votes}
use Rattle.honest_say.proofs.StageLemmas.{confirm-closes}
use Rattle.honest_say.specs.declared.closing.Embedded.TheVariants.{Votes, All}
use Rattle.honest_say.proofs.closing.confirm_body.Goals as goal

pub embedded_posts-requires-clause-closing : goal.embedded_posts-requires-clause-closing
embedded_posts-requires-clause-closing c =
    let log = c.args.log.now in
    let members = ap (λ (s : Shape). s.members) c.shape-stage.ensures.shape in
    subst (λ (n : ℕ). IsSome (option_and_then vote_of (kind_of_stage log.shape (n + 6)))) (sym members) (confirm-closes log.shape)

pub returns-in-Votes : goal.returns-in-Votes
returns-in-Votes c =
    let log = c.args.log.now in
    let stage : ℕ = c.shape-stage.result.members + 6 in
    let members = ap (λ (s : Shape). s.members) c.shape-stage.ensures.shape in
    let embedded : Votes c.in-Votes.votes ≡ embedded_in log.shape (posts_before log stage) stage = sym c.in-Votes.is
    ∙ c.in_ok-votes.ensures in
    subst (λ (n : ℕ). Confirm c.in-Votes.votes ≡ confirm_row log.shape (posts_before log (n + 6)) (n + 6)) members
    (confirm-votes log.shape (posts_before log stage) stage c.in-Votes.votes embedded)

pub returns-in-All : goal.returns-in-All
returns-in-All c =
    let log = c.args.log.now in
    let stage : ℕ = c.shape-stage.result.members + 6 in
    let members = ap (λ (s : Shape). s.members) c.shape-stage.ensures.shape in
    let embedded : All c.in-All.posts ≡ embedded_in log.shape (posts_before log stage) stage = sym c.in-All.is ∙ c.in_ok-votes.ensures in
    subst (λ (n : ℕ). Differ c.in-All.posts ≡ confirm_row log.shape (posts_before log (n + 6)) (n + 6)) members
    (confirm-all log.shape (posts_before log stage) stage c.in-All.posts embedded)
