use Rattle.std.proofs.Common.{◌≡◌, ℕ, ◌-◌, ap, sym, ◌∙◌, subst}
use Rattle.std.specs.Prelude.{IsSome, option_and_then}
use Rattle.phase_message.specs.Shape.{Shape}
use Rattle.phase_message.specs.Stages.{kind_of_stage, vote_of}
use Rattle.stage_log.specs.Log.{before}
use Rattle.go_nogo.specs.Rows.{final_row}
use Rattle.go_nogo.specs.Stands.{StandAt}
use Rattle.round_spec.specs.Slots.{final_stage}
use Rattle.honest_say.specs.Pasts.{posts_before}
use Rattle.honest_say.proofs.ClosingRows.{final-all, final-votes}
use Rattle.honest_say.proofs.StageLemmas.{final-closes}
use Rattle.honest_say.proofs.closing.final_body.Goals as goal

pub embedded_posts-requires-clause-closing : goal.embedded_posts-requires-clause-closing
embedded_posts-requires-clause-closing c =
    let log = c.args.log.now in
    let stage : c.final_stage-stage.result ≡ final_stage log.shape c.args.shuffle
    = c.final_stage-stage.ensures ∙ ap (λ (s : Shape). final_stage s c.args.shuffle) c.shape.ensures.shape in
    subst (λ (t : ℕ). IsSome (option_and_then vote_of (kind_of_stage log.shape t))) (sym stage)
    (final-closes log.shape c.args.shuffle c.requires.first c.requires.last)

pub embedded_posts-requires-clause-complete : goal.embedded_posts-requires-clause-complete
embedded_posts-requires-clause-complete c =
    let log = c.args.log.now in
    let stage : c.final_stage-stage.result ≡ final_stage log.shape c.args.shuffle
    = c.final_stage-stage.ensures ∙ ap (λ (s : Shape). final_stage s c.args.shuffle) c.shape.ensures.shape in
    subst (λ (t : ℕ). IsSome (before log t)) (sym stage) c.requires.complete

pub embedded_posts-requires-clause-stand : goal.embedded_posts-requires-clause-stand
embedded_posts-requires-clause-stand c =
    let log = c.args.log.now in
    let stage : c.final_stage-stage.result ≡ final_stage log.shape c.args.shuffle
    = c.final_stage-stage.ensures ∙ ap (λ (s : Shape). final_stage s c.args.shuffle) c.shape.ensures.shape in
    subst (λ (t : ℕ). StandAt log (t - 1)) (sym stage) c.requires.stand

pub returns-in-Ok-Votes : goal.returns-in-Ok-Votes
returns-in-Ok-Votes c =
    let log = c.args.log.now in
    let own = c.args.secrets in
    let stage : c.final_stage-stage.result ≡ final_stage log.shape c.args.shuffle
    = c.final_stage-stage.ensures ∙ ap (λ (s : Shape). final_stage s c.args.shuffle) c.shape.ensures.shape in
    let embedded = rw c.in-Ok-Votes.field-0-is at c.in-Ok-Votes.ensures in
    subst (λ (t : ℕ). c.revealed.result ≡ final_row log.shape (posts_before log t) t own.inner own.outer own.outer_opening) stage
    (c.revealed.ensures ∙ final-votes log.shape (posts_before log c.final_stage-stage.result) c.final_stage-stage.result c.in-Ok-Votes.votes
    own.inner own.outer own.outer_opening embedded)

pub returns-in-Ok-All : goal.returns-in-Ok-All
returns-in-Ok-All c =
    let log = c.args.log.now in
    let own = c.args.secrets in
    let stage : c.final_stage-stage.result ≡ final_stage log.shape c.args.shuffle
    = c.final_stage-stage.ensures ∙ ap (λ (s : Shape). final_stage s c.args.shuffle) c.shape.ensures.shape in
    let embedded = rw c.in-Ok-All.field-0-is at c.in-Ok-All.ensures in
    subst (λ (t : ℕ). c.disputed.result ≡ final_row log.shape (posts_before log t) t own.inner own.outer own.outer_opening) stage
    (c.disputed.ensures ∙ final-all log.shape (posts_before log c.final_stage-stage.result) c.final_stage-stage.result c.in-Ok-All.posts
    own.inner own.outer own.outer_opening embedded)
