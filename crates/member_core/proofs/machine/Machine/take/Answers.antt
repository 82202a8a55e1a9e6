use Rattle.std.proofs.Common.{arith, refl}
use Rattle.signed_post.specs.declared.post.PostRefusal.TheVariants.{Frame}
use Rattle.signed_post.proofs.Frames.{framed-fits}
use Rattle.member_spec.specs.declared.taken.Taken.TheVariants.{Ignored, Own}
use Rattle.member_core.proofs.Answering.{idle-tells, open-runs}
use Rattle.member_core.proofs.Hearing.{another, takes-own, takes-refused, takes-unframed}
use Rattle.member_core.proofs.machine.Machine.take.Goals as goal

pub returns-in-Err : goal.returns-in-Err
returns-in-Err g c = record {
  formed = c.requires.sound.formed;
  sound = c.requires.sound;
  runs = open-runs c.args.self.now.ending c.requires.going;
  handed = refl;
  leaves = λ leaves. refl;
  conduct = λ leaves. refl;
  ending = idle-tells (Ignored (Frame c.in-Err.at)) c.args.self.now.ending c.requires.going (λ e. cc) (λ e. cc);
  takes = λ start c' delivered s. takes-unframed (g.C.Conduct.replies c.args.conduct.now) start c' delivered
      c.args.self.now c.args.bytes.now c.in-Err.at c.requires.going c.in-Err.ensures s;
  idle = λ start c' delivered s leaves. refl;
}

pub check_parts-requires : goal.check_parts-requires
check_parts-requires g c =
    let frame = framed-fits c.args.bytes.now (record { content = c.in-Ok.parts.content.now; signature = c.in-Ok.parts.signature.now })
    c.in-Ok.ensures in
    let least = frame.least in
    let most = frame.most in
    record { least = omega (arith, least, most); most = omega (arith, least, most); signature = omega (arith, least, most) }

pub returns-in-Err-check_parts : goal.returns-in-Err-check_parts
returns-in-Err-check_parts g c = record {
  formed = c.requires.sound.formed;
  sound = c.requires.sound;
  runs = open-runs c.args.self.now.ending c.requires.going;
  handed = refl;
  leaves = λ leaves. refl;
  conduct = λ leaves. refl;
  ending = idle-tells (Ignored c.in-Err-check_parts.refusal) c.args.self.now.ending c.requires.going
      (λ e. cc) (λ e. cc);
  takes = λ start c' delivered s. takes-refused (g.C.Conduct.replies c.args.conduct.now) start c'
      delivered c.args.self.now c.args.bytes.now (record { content = c.in-Ok.parts.content.now; signature = c.in-Ok.parts.signature.now })
      c.in-Err-check_parts.refusal c.requires.going c.in-Ok.ensures c.in-Err-check_parts.ensures s;
  idle = λ start c' delivered s leaves. refl;
}

pub returns-then-header-self : goal.returns-then-header-self
returns-then-header-self g c = record {
  formed = c.requires.sound.formed;
  sound = c.requires.sound;
  runs = open-runs c.args.self.now.ending c.requires.going;
  handed = refl;
  leaves = λ leaves. refl;
  conduct = λ leaves. refl;
  ending = idle-tells (Own) c.args.self.now.ending c.requires.going (λ e. cc) (λ e. cc);
  takes = λ start c' delivered s. takes-own (g.C.Conduct.replies c.args.conduct.now) start c' delivered
      c.args.self.now c.args.bytes.now c.in-Ok-check_parts.header
      (record { content = c.in-Ok.parts.content.now; signature = c.in-Ok.parts.signature.now })
      c.requires.going c.in-Ok.ensures c.in-Ok-check_parts.ensures c.if-header-self.true s;
  idle = λ start c' delivered s leaves. refl;
}

pub hear-requires : goal.hear-requires
hear-requires g c = record {
  sound = c.requires.sound;
  going = c.requires.going;
  post = another c.args.self.now c.args.bytes.now c.in-Ok-check_parts.header
      (record { content = c.in-Ok.parts.content.now; signature = c.in-Ok.parts.signature.now }) c.in-Ok.ensures
      c.in-Ok-check_parts.ensures c.if-header-self.false;
}

pub returns : goal.returns
returns g c = record {
  formed = c.hear.ensures.formed;
  sound = c.hear.ensures.sound;
  runs = c.hear.ensures.runs;
  handed = c.hear.ensures.handed;
  leaves = c.hear.ensures.leaves;
  conduct = c.hear.ensures.conduct;
  ending = c.hear.ensures.ending;
  takes = c.hear.ensures.takes;
  idle = c.hear.ensures.idle;
}
