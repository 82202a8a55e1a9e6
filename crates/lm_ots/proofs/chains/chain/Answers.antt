use Rattle.std.proofs.Common.{◌≡◌, ◌∙◌, sym, length, take, arith}
use Rattle.std.proofs.lemmas.List.{length-take-le, take_at}
use Rattle.sha2.specs.Sha256.{sha256}
use Rattle.lm_ots.specs.OneTime.{step_string}
use Rattle.lm_ots.proofs.Steps.{stepped_all, stepped_more}
use Rattle.lm_ots.proofs.chains.chain.Goals as goal

pub loop-j-preserved : goal.loop-j-preserved
loop-j-preserved c =
    let size : length (take 22 c.loop-j.block) ≡ 22 = length-take-le 22 c.loop-j.block (omega arith) in
    let next : c.digest-tmp.result
    ≡ sha256 (step_string c.args.identifier.now c.args.q c.args.i c.loop-j.j c.loop-j.tmp) =
    rw (← c.loop-j.invariant.head, ← c.set_step.ensures) c.digest-tmp.ensures in
    record {
      size = c.set_step.array_long;
      head = rw (c.set_step.ensures, take_at (take 22 c.loop-j.block) _ 22 size) c.loop-j.invariant.head;
      steps_left = stepped_more _ _ _ _ _ c.loop-j.tmp _ c.loop-j-test.true next ∙ c.loop-j.invariant.steps_left;
    }

pub returns : goal.returns
returns c =
    sym (stepped_all c.args.identifier.now c.args.q c.args.i c.loop-j.j c.args.to c.loop-j.tmp c.loop-j-test.false)
    ∙ c.loop-j.invariant.steps_left
