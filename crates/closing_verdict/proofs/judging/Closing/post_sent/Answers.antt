use Rattle.closing_verdict.proofs.ClosingPosts.{closed-there, if-sent, if-short}
use Rattle.closing_verdict.specs.Judgement.{completed_of}
use Rattle.closing_verdict.proofs.judging.Closing.post_sent.Goals as goal

pub post_written-requires : goal.post_written-requires
post_written-requires c = record {
  there = closed-there (completed_of c.args.self) c.requires.closing.complete c.args.slot c.requires.slot
      c.requires.there;
}

pub returns-clause-value : goal.returns-clause-value
returns-clause-value c = if-sent (completed_of c.args.self) c.requires.closing.complete c.args.slot c.requires.slot c.requires.there
    c.post_written.result c.post_written.ensures

pub returns-clause-short : goal.returns-clause-short
returns-clause-short c = if-short (completed_of c.args.self) c.requires.closing.complete c.args.slot c.requires.slot c.requires.there
    c.post_written.result c.post_written.ensures
