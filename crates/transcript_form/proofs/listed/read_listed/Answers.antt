use Rattle.std.proofs.Common.{length}
use Rattle.phase_message.specs.Stages.{shape_of}
use Rattle.transcript_form.specs.Claim.{claim_posts}
use Rattle.transcript_form.proofs.Listings.{repeated-count}
use Rattle.transcript_form.proofs.listed.read_listed.Goals as goal

pub returns-clause-count : goal.returns-clause-count
returns-clause-count c =
    repeated-count (length c.args.bytes.now) (claim_posts (shape_of c.args.shape) c.in_ok-head.head.claim) c.read_head.new.cursor
    (c.in_ok-posts.posts, c.read_posts.new.cursor) c.in_ok-posts.ensures
