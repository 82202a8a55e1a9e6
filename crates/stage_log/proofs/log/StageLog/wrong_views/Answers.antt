use Rattle.std.proofs.Common.{◌≡◌, ◌<◌, ◌+◌, List, ℕ, [], ◌∷◌, length, Some, ap, sym, ◌∙◌, subst, arith}
use Rattle.std.specs.Prelude.{Option}
use Rattle.std.specs.Option.{option_map}
use Rattle.wire_core.specs.declared.tag.Tag.TheVariants.{View}
use Rattle.wire_core.specs.Answers.{first_below}
use Rattle.wire_core.specs.Hash.{hash_of}
use Rattle.wire_core.proofs.AnswerLemmas.{first_below-none}
use Rattle.phase_message.specs.declared.post.Post.{Post}
use Rattle.phase_message.specs.declared.stage.Slot.{Slot}
use Rattle.phase_message.specs.Slots.{slot_at, slots_before}
use Rattle.stage_log.specs.Table.{Log, IsLog, posts_in}
use Rattle.stage_log.specs.Log.{before, contents_of, contents_in, first_wrong, unlike_at, view_of, wrong_at}
use Rattle.stage_log.specs.Running.{Carries}
use Rattle.stage_log.proofs.Pasts.{some_of}
use Rattle.stage_log.proofs.Views.{next_view, place-within, stage-right, stage-wrong}
use Rattle.stage_log.proofs.log.StageLog.wrong_views.Goals as goal

pub slot_of-requires : goal.slot_of-requires
slot_of-requires c =
    let is : IsLog c.args.self.now = subst IsLog c.self.view_is c.self.invariant in
    let found = ap (λ (row : List (Option Post)). first_below (length row) (unlike_at c.view.result row)) (sym c.row-row.ensures.posts)
    ∙ sym c.first_unlike.ensures ∙ c.in-Some.is in
    subst (λ (log : Log). slots_before log.shape c.loop-earlier.earlier + c.in-Some.place < slots_before log.shape
    (c.loop-earlier.earlier + 1)) (sym c.self.view_is)
    (place-within c.args.self.now c.loop-earlier.earlier c.in-Some.place c.view.result is found)

pub returns-in-Some : goal.returns-in-Some
returns-in-Some c =
    let is : IsLog c.args.self.now = subst IsLog c.self.view_is c.self.invariant in
    let past = some_of (before c.args.self.now c.args.stage) c.requires in
    let invariant = c.loop-earlier.invariant past.0 past.1 in
    let view = c.view.ensures (view_of c.args.self.now.shape (contents_of past.0) c.loop-earlier.earlier) [] invariant.0 in
    let row = posts_in c.args.self.now c.loop-earlier.earlier in
    let found = ap (λ (v : List ℕ). first_below (length row) (unlike_at v row)) (sym view)
    ∙ ap (λ (row : List (Option Post)). first_below (length row) (unlike_at c.view.result row)) (sym c.row-row.ensures.posts)
    ∙ sym c.first_unlike.ensures ∙ c.in-Some.is in
    let slot = subst (λ (log : Log). slot_at log.shape (slots_before log.shape c.loop-earlier.earlier + c.in-Some.place) ≡ Some
    c.slot_of.result) c.self.view_is c.slot_of.ensures in
    ap (λ (o : Option (List Post)). option_map (λ posts. first_wrong c.args.self.now.shape (contents_of posts) c.args.stage) o) past.1
    ∙ ap (λ (o : Option Slot). Some o) (stage-wrong c.args.self.now c.loop-earlier.earlier c.args.stage past.0 c.in-Some.place
    c.slot_of.result is c.loop-earlier-test.true past.1 invariant.1 found slot)

pub loop-earlier-preserved : goal.loop-earlier-preserved
loop-earlier-preserved c = λ posts e.
    let is : IsLog c.args.self.now = subst IsLog c.self.view_is c.self.invariant in
    let invariant = c.loop-earlier.invariant posts e in
    let view : List ℕ = view_of c.args.self.now.shape (contents_of posts) c.loop-earlier.earlier in
    let view_is = c.view.ensures view [] invariant.0 in
    let row = posts_in c.args.self.now c.loop-earlier.earlier in
    let none = ap (λ (v : List ℕ). first_below (length row) (unlike_at v row)) (sym view_is)
    ∙ ap (λ (row : List (Option Post)). first_below (length row) (unlike_at c.view.result row)) (sym c.row-row.ensures.posts)
    ∙ sym c.first_unlike.ensures ∙ c.in_default.is in
    let next = ap (λ (row : List (Option Post)). hash_of View (view ∷ contents_in row)) c.row-row.ensures.posts
    ∙ next_view c.args.self.now c.loop-earlier.earlier c.args.stage posts c.loop-earlier-test.true e in (
      subst (λ (v : List ℕ). Carries c.carry.new.running v []) next (c.carry.ensures view invariant.0),
      stage-right c.args.self.now c.loop-earlier.earlier c.args.stage posts is c.loop-earlier-test.true e invariant.1 none,
    )

pub returns : goal.returns
returns c =
    let past = some_of (before c.args.self.now c.args.stage) c.requires in
    let invariant = c.loop-earlier.invariant past.0 past.1 in
    let at : c.loop-earlier.earlier ≡ c.args.stage = omega arith in
    let rises = ap (λ (stage : ℕ). slots_before c.args.self.now.shape stage) at in
    ap (λ (o : Option (List Post)). option_map (λ posts. first_wrong c.args.self.now.shape (contents_of posts) c.args.stage) o) past.1
    ∙ ap (λ (o : Option Slot). Some o) (first_below-none (wrong_at c.args.self.now.shape (contents_of past.0))
    (slots_before c.args.self.now.shape c.args.stage) (λ number lt. invariant.1 number (omega (arith, rises))))
