use Rattle.std.proofs.Common.{rules, refl, subst, ◌≡◌, ◌+◌, sym, ◌∙◌, arith}
use Rattle.std.specs.List.{slice_range}
use Rattle.phase_message.specs.Slots.{slots_before}
use Rattle.phase_message.specs.Stages.{shape_of}
use Rattle.phase_message.proofs.SlotLists.{slots_before-rises}
use Rattle.stage_log.specs.Table.{Log, AreKept, posts_in}
use Rattle.stage_log.proofs.Entries.{before-within, before-next}
use Rattle.stage_log.proofs.Pasts.{AreKept-slice_range}
use Rattle.stage_log.proofs.log.StageLog.row.Goals as goal

pub slice_bounds-result-count : goal.slice_bounds-result-count
slice_bounds-result-count c =
    let next = before-next _ c.args.stage c.saturating_add.result c.self.invariant (omega arith) c.saturating_add.ensures in
    omega (arith, slots_before-rises (shape_of c.self.inside.shape) c.args.stage (c.args.stage + 1) (omega arith))

pub slice_bounds-result-start : goal.slice_bounds-result-start
slice_bounds-result-start c =
    let next = before-next _ c.args.stage c.saturating_add.result c.self.invariant (omega arith) c.saturating_add.ensures in
    let rises = slots_before-rises (shape_of c.self.inside.shape) c.args.stage (c.args.stage + 1) (omega arith) in
    let within = before-within _ c.saturating_add.result c.self.invariant in
    let first = before-within _ c.args.stage c.self.invariant in
    search rules

pub slice_bounds-result-end : goal.slice_bounds-result-end
slice_bounds-result-end c =
    let next = before-next _ c.args.stage c.saturating_add.result c.self.invariant (omega arith) c.saturating_add.ensures in
    let within = before-within _ c.saturating_add.result c.self.invariant in
    omega arith

pub returns-clause-posts : goal.returns-clause-posts
returns-clause-posts c =
    let next : c.slots_before-end.result ≡ slots_before (shape_of c.self.inside.shape) (c.args.stage + 1) = c.slots_before-end.ensures.value
    ∙ before-next _ c.args.stage c.saturating_add.result c.self.invariant (omega arith) c.saturating_add.ensures in
    subst (λ (log : Log). slice_range c.deref.result.now c.slots_before-first.result c.slots_before-end.result ≡ posts_in log c.args.stage)
    c.self.view_is
    (rw (c.deref.ensures.value, c.slots_before-first.ensures.value, next) refl)

pub returns-clause-kept : goal.returns-clause-kept
returns-clause-kept c =
    AreKept-slice_range c.deref.result.now c.slots_before-first.result c.slots_before-end.result
    (subst AreKept (sym c.deref.ensures.value) c.self.invariant.contents)
