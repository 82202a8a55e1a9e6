use Rattle.std.proofs.Common.{ap, sym, ◌∙◌, subst}
use Rattle.std.specs.Prelude.{◌<◌, ◌^◌, IfSome, Option, length}
use Rattle.phase_message.specs.declared.post.Post.{Post as Kept}
use Rattle.phase_message.specs.Post.{post_spelling}
use Rattle.stage_log.specs.Table.{kept_in}
use Rattle.member_parts.proofs.finding.shown.Goals as goal

pub contradicted-requires-clause-kept : goal.contradicted-requires-clause-kept
contradicted-requires-clause-kept c =
    subst (λ (o : Option Kept). IfSome o (λ (first : Kept). length (post_spelling first) < 2 ^ 32))
    (sym (ap (kept_in c.args.log.now) c.slot_of.ensures) ∙ sym c.in-Some.ensures.post) c.requires.short
