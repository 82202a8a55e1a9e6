use Rattle.std.proofs.Common.{◌≡◌, subst, sym, ◌∙◌, arith}
use Rattle.std.specs.Option.{option_copied}
use Rattle.stage_log.specs.Table.{Log, kept_in}
use Rattle.stage_log.proofs.Entries.{number-within, kept_in-at, entry-kept, copied-kept}
use Rattle.stage_log.proofs.log.StageLog.kept.Goals as goal

pub index-requires : goal.index-requires
index-requires c = omega (arith, number-within _ c.args.slot c.self.invariant (sym c.is_slot.ensures ∙ c.if-not-is_slot.false))

pub returns-clause-post : goal.returns-clause-post
returns-clause-post c =
    subst (λ (log : Log). option_copied c.as_ref.result ≡ kept_in log c.args.slot) c.self.view_is
    (c.as_ref.ensures.value ∙ sym (kept_in-at _ c.args.slot c.slot_number-number.result c.index.result.now c.self.invariant
    (sym c.is_slot.ensures ∙ c.if-not-is_slot.false) c.slot_number-number.ensures c.index.ensures))

pub returns-clause-content : goal.returns-clause-content
returns-clause-content c =
    let within = number-within _ c.args.slot c.self.invariant (sym c.is_slot.ensures ∙ c.if-not-is_slot.false) in
    copied-kept c.as_ref.result c.index.result.now c.as_ref.ensures.value
    (entry-kept _ c.slot_number-number.result c.index.result.now c.self.invariant (omega arith) c.index.ensures)
