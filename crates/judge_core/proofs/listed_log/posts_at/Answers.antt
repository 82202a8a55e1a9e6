use Rattle.std.proofs.Common.{◌+◌, ◌≤◌, length, arith}
use Rattle.phase_message.specs.Stages.{shape_of}
use Rattle.phase_message.proofs.SlotLists.{slots_before-rises}
use Rattle.judge_core.proofs.PadSlots.{stage-within}
use Rattle.judge_core.proofs.listed_log.posts_at.Goals as goal

pub slice_bounds-result-count : goal.slice_bounds-result-count
slice_bounds-result-count c =
    let rises = slots_before-rises (shape_of c.args.shape) c.args.stage (c.args.stage + 1) (omega arith) in
    omega (arith, c.slots_before-first.ensures.value, c.slots_before-end.ensures.value, rises)

pub slice_bounds-result-start : goal.slice_bounds-result-start
slice_bounds-result-start c =
    let rises = slots_before-rises (shape_of c.args.shape) c.args.stage (c.args.stage + 1) (omega arith) in
    let e : c.slots_before-first.result ≤ c.slots_before-end.result = omega
    (arith, c.slots_before-first.ensures.value, c.slots_before-end.ensures.value, rises) in
    e

pub slice_bounds-result-end : goal.slice_bounds-result-end
slice_bounds-result-end c =
    let within = stage-within (shape_of c.args.shape) c.args.stage c.requires.earlier in
    let e : c.slots_before-end.result ≤ length c.args.log.now = omega
    (arith, c.slots_before-end.ensures.value, within, c.requires.log.whole) in
    e
