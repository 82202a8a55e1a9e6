use Rattle.std.proofs.Common.{◌∙◌, ap, arith, refl}
use Rattle.crash_disk.specs.declared.disk.DiskRead.TheVariants.{Read}
use Rattle.key_store.proofs.Fronts.{front_ended, front_more, none_read}
use Rattle.crash_disk.proofs.Moments.{goes_on, started}
use Rattle.crash_disk.proofs.Beside.{beside-trans, beside_itself}
use Rattle.key_store.proofs.front.read_front.Goals as goal

pub returns-then-taken-eq0-clause-read : goal.returns-then-taken-eq0-clause-read
returns-then-taken-eq0-clause-read g c =
    front_ended _ _ c.loop-size.size c.in-Read.taken c.loop-size.image c.read_more.new.image c.loop-size.invariant.kept
    c.loop-size.invariant.read c.if-taken-eq0.true c.loop-size.invariant.within c.in-Read.ensures.read
    (c.in-Read.ensures.ended (ap Read c.if-taken-eq0.true))

pub loop-size-preserved : goal.loop-size-preserved
loop-size-preserved g c = record {
  within = c.in-Read.ensures.bounded;
  read = front_more _ _ c.loop-size.size c.in-Read.taken c.loop-size.image c.read_more.new.image c.loop-size.invariant.kept
      c.loop-size.invariant.read c.in-Read.ensures.read c.in-Read.ensures.within;
  images = λ image left. c.loop-size.invariant.images image (c.read_more.ensures.images image left);
  moments = goes_on g.D.Disk.may_leave g.D.Disk.moment g.D.Disk.left_since _ c.loop-size.disk c.read_more.new.disk _
      c.loop-size.invariant.moments c.read_more.ensures.time
      (λ image left. c.loop-size.invariant.images image (c.read_more.ensures.images image left));
  kept = c.read_more.ensures.kept ∙ c.loop-size.invariant.kept;
  beside = beside-trans _ _ _ c.loop-size.invariant.beside c.read_more.ensures.beside;
  no_fall = omega (arith, c.read_more.ensures.no_fall, c.loop-size.invariant.no_fall);
}

pub loop-size-init : goal.loop-size-init
loop-size-init g c = record {
  within = omega arith;
  read = none_read _ c.args.image.now;
  images = λ image left. left;
  moments = started g.D.Disk.may_leave g.D.Disk.moment g.D.Disk.left_since g.met.D.Disk.only_now c.args.disk.now _ (λ image left. left);
  kept = refl;
  beside = beside_itself _;
  no_fall = omega arith;
}

pub returns-then-taken-eq0-clause-beside : goal.returns-then-taken-eq0-clause-beside
returns-then-taken-eq0-clause-beside g c = beside-trans _ _ _ c.loop-size.invariant.beside c.read_more.ensures.beside

pub returns-in-Failed-clause-beside : goal.returns-in-Failed-clause-beside
returns-in-Failed-clause-beside g c = beside-trans _ _ _ c.loop-size.invariant.beside c.read_more.ensures.beside

pub returns-clause-beside : goal.returns-clause-beside
returns-clause-beside g c = c.loop-size.invariant.beside
