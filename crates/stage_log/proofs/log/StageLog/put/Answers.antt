use Rattle.std.proofs.Common.{◌≡◌, Option, sym, ◌∙◌, arith, subst, ap, true}
use Rattle.phase_message.specs.declared.post.Post.{Post}
use Rattle.phase_message.specs.Stages.{is_slot}
use Rattle.stage_log.specs.Table.{Log, kept_in}
use Rattle.stage_log.specs.declared.log.Put.TheVariants.{Stored, Same, Other}
use Rattle.stage_log.specs.Put.{put_answer, put_log}
use Rattle.stage_log.proofs.Entries.{number-within, kept_in-at}
use Rattle.stage_log.proofs.Puts.{put_log-empty, put_log-full, put_answer-same, put_answer-other}
use Rattle.stage_log.proofs.log.StageLog.put.Goals as goal

pub index-requires : goal.index-requires
index-requires c =
    let speaks = subst (λ (log : Log). is_slot log.shape c.args.slot.stage c.args.slot.sender ≡ true) (sym c.self.view_is) c.requires.slot
    in
    omega (arith, number-within _ c.args.slot c.self.invariant speaks)

pub index_mut-requires : goal.index_mut-requires
index_mut-requires c =
    let speaks = subst (λ (log : Log). is_slot log.shape c.args.slot.stage c.args.slot.sender ≡ true) (sym c.self.view_is) c.requires.slot
    in
    omega (arith, number-within _ c.args.slot c.self.invariant speaks)

pub returns-in-None-clause-answer : goal.returns-in-None-clause-answer
returns-in-None-clause-answer c =
    let speaks = subst (λ (log : Log). is_slot log.shape c.args.slot.stage c.args.slot.sender ≡ true) (sym c.self.view_is) c.requires.slot
    in
    let kept = kept_in-at _ c.args.slot c.slot_number-number.result c.index.result.now c.self.invariant speaks c.slot_number-number.ensures
    c.index.ensures in
    subst (λ (log : Log). Stored ≡ put_answer (kept_in log c.args.slot) c.args.post) c.self.view_is
    (ap (λ (o : Option Post). put_answer o c.args.post) (sym (kept ∙ c.in-None.is)))

pub returns-in-None-clause-log : goal.returns-in-None-clause-log
returns-in-None-clause-log c =
    let speaks = subst (λ (log : Log). is_slot log.shape c.args.slot.stage c.args.slot.sender ≡ true) (sym c.self.view_is) c.requires.slot
    in
    let kept = kept_in-at _ c.args.slot c.slot_number-number.result c.index.result.now c.self.invariant speaks c.slot_number-number.ensures
    c.index.ensures in
    put_log-empty _ c.args.slot c.args.post c.slot_number-number.result (kept ∙ c.in-None.is) c.slot_number-number.ensures
    ∙ ap (λ (log : Log). put_log log c.args.slot c.args.post) c.self.view_is

pub returns-in-Some-clause-answer : goal.returns-in-Some-clause-answer
returns-in-Some-clause-answer c =
    let speaks = subst (λ (log : Log). is_slot log.shape c.args.slot.stage c.args.slot.sender ≡ true) (sym c.self.view_is) c.requires.slot
    in
    let kept = kept_in-at _ c.args.slot c.slot_number-number.result c.index.result.now c.self.invariant speaks c.slot_number-number.ensures
    c.index.ensures in
    subst (λ (log : Log). Same c.args.post ≡ put_answer (kept_in log c.args.slot) c.args.post) c.self.view_is
    (put_answer-same _ c.args.post c.in-Some.kept (kept ∙ c.in-Some.is) (sym c.is_content.ensures ∙ c.if-is_content.true))

pub returns-in-Some-clause-log : goal.returns-in-Some-clause-log
returns-in-Some-clause-log c =
    let speaks = subst (λ (log : Log). is_slot log.shape c.args.slot.stage c.args.slot.sender ≡ true) (sym c.self.view_is) c.requires.slot
    in
    let kept = kept_in-at _ c.args.slot c.slot_number-number.result c.index.result.now c.self.invariant speaks c.slot_number-number.ensures
    c.index.ensures in
    subst (λ (log : Log). log ≡ put_log log c.args.slot c.args.post) c.self.view_is
    (put_log-full _ c.args.slot c.args.post c.in-Some.kept (kept ∙ c.in-Some.is))

pub returns-in-Some-2-clause-answer : goal.returns-in-Some-2-clause-answer
returns-in-Some-2-clause-answer c =
    let speaks = subst (λ (log : Log). is_slot log.shape c.args.slot.stage c.args.slot.sender ≡ true) (sym c.self.view_is) c.requires.slot
    in
    let kept = kept_in-at _ c.args.slot c.slot_number-number.result c.index.result.now c.self.invariant speaks c.slot_number-number.ensures
    c.index.ensures in
    subst (λ (log : Log). Other c.args.post ≡ put_answer (kept_in log c.args.slot) c.args.post) c.self.view_is
    (put_answer-other _ c.args.post c.in-Some.kept (kept ∙ c.in-Some.is) (sym c.is_content.ensures ∙ c.if-is_content.false))

pub returns-in-Some-2-clause-log : goal.returns-in-Some-2-clause-log
returns-in-Some-2-clause-log c =
    let speaks = subst (λ (log : Log). is_slot log.shape c.args.slot.stage c.args.slot.sender ≡ true) (sym c.self.view_is) c.requires.slot
    in
    let kept = kept_in-at _ c.args.slot c.slot_number-number.result c.index.result.now c.self.invariant speaks c.slot_number-number.ensures
    c.index.ensures in
    subst (λ (log : Log). log ≡ put_log log c.args.slot c.args.post) c.self.view_is
    (put_log-full _ c.args.slot c.args.post c.in-Some.kept (kept ∙ c.in-Some.is))
