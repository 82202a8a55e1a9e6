use Rattle.shuffle_blame.proofs.Shorts.{short_body}
use Rattle.phase_message.specs.Stages.{shape_of}
use Rattle.faulty_member.proofs.Lengths.{submitted-short}
use Rattle.faulty_member.proofs.kept.body_of.Goals as goal

pub returns-in-Ok-clause-short : goal.returns-in-Ok-clause-short
returns-in-Ok-clause-short c = short_body c.in-Ok.content c.args.content.now c.in-Ok.ensures.found.1 c.requires

pub returns-in-Ok-clause-submitted : goal.returns-in-Ok-clause-submitted
returns-in-Ok-clause-submitted c =
    submitted-short (shape_of c.args.shape) c.in-Ok.content.header.stage c.in-Ok.content.body c.args.shape.form c.in-Ok.ensures.found.0.1
