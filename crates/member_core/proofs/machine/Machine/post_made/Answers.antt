use Rattle.std.proofs.Common.{◌≡◌, ℕ, zero, suc, ◌+◌, ◌<◌, ◌≤◌, List, Option, Some, None, refl, ap, sym, ◌∙◌, arith}
use Rattle.std.specs.List.{slice_get}
use Rattle.std.specs.Option.{option_copied, option_to_list}
use Rattle.phase_message.specs.declared.post.Post.{Post}
use Rattle.phase_message.specs.Slots.{stage_count}
use Rattle.member_core.proofs.MadePosts.{first-from, from-first, from-last, later-from, posts_from, same-from}
use Rattle.member_core.proofs.machine.Machine.post_made.Goals.{in-Some+else-left-eq0, in_default}
use Rattle.member_core.proofs.machine.Machine.post_made.Goals as goal

pub loop-stage-init : goal.loop-stage-init
loop-stage-init c =
    let m = c.args.self.now in
    sym (ap (λ (posts : List Post). slice_get posts c.args.place) (from-first m.log m.seat.number m.stray))

pub returns-then-left-eq0-clause-post : goal.returns-then-left-eq0-clause-post
returns-then-left-eq0-clause-post c =
    let m = c.args.self.now in
    let count = c.stage_count-stage-end.ensures ∙ sym (ap stage_count c.requires.shape) in
    let within : c.loop-stage.stage < stage_count m.log.shape = omega (arith, c.loop-stage-test.true, count) in
    let none : 0 ≡ c.loop-stage.left = omega (arith, c.if-left-eq0.true) in
    sym (first-from m.log m.seat.number m.stray c.loop-stage.stage c.in-Some.post.now within (sym c.in-Some.ensures.post))
    ∙ ap (slice_get (posts_from m.log m.seat.number m.stray c.loop-stage.stage)) none ∙ c.loop-stage.invariant

pub loop-stage-preserved : goal.loop-stage-preserved
loop-stage-preserved c =
    let m = c.args.self.now in
    let count = c.stage_count-stage-end.ensures ∙ sym (ap stage_count c.requires.shape) in
    let within : c.loop-stage.stage < stage_count m.log.shape = omega (arith, c.loop-stage-test.true, count) in
    elim c.match-kept.branch [
      | in-Some+else-left-eq0 w ↦
          ap (slice_get (posts_from m.log m.seat.number m.stray (c.loop-stage.stage + 1))) w.left-is
          ∙ later-from m.log m.seat.number m.stray c.loop-stage.stage c.loop-stage.left w.in-Some.post.now within
          (sym w.in-Some.ensures.post) w.if-left-eq0.false
          ∙ c.loop-stage.invariant
      | in_default w ↦
          ap (slice_get (posts_from m.log m.seat.number m.stray (c.loop-stage.stage + 1))) w.left-is
          ∙ same-from m.log m.seat.number m.stray c.loop-stage.stage c.loop-stage.left within
          (sym c.kept.ensures.post ∙ ap option_copied w.in_default.is)
          ∙ c.loop-stage.invariant
    ]

one-there : (o : Option Post) → o ≡ slice_get (option_to_list o) 0
one-there None = refl
one-there (Some post) = refl

pub returns-then-left-eq0-2-clause-post : goal.returns-then-left-eq0-2-clause-post
returns-then-left-eq0-2-clause-post c =
    let m = c.args.self.now in
    let count = c.stage_count-stage-end.ensures ∙ sym (ap stage_count c.requires.shape) in
    let within : stage_count m.log.shape ≤ c.loop-stage.stage = omega (arith, c.loop-stage-test.false, count) in
    let none : 0 ≡ c.loop-stage.left = omega (arith, c.if-left-eq0-2.true) in
    c.as_ref.ensures.value ∙ one-there m.stray
    ∙ ap (λ (posts : List Post). slice_get posts 0) (sym (from-last m.log m.seat.number m.stray c.loop-stage.stage within))
    ∙ ap (slice_get (posts_from m.log m.seat.number m.stray c.loop-stage.stage)) none ∙ c.loop-stage.invariant

none-there : (o : Option Post) (place : ℕ) → (place ≡ 0 → ⊥) → None ≡ slice_get (option_to_list o) place
none-there o zero apart = absurd (apart refl)
none-there None (suc place) apart = refl
none-there (Some post) (suc place) apart = refl

pub returns-else-left-eq0-2-clause-post : goal.returns-else-left-eq0-2-clause-post
returns-else-left-eq0-2-clause-post c =
    let m = c.args.self.now in
    let count = c.stage_count-stage-end.ensures ∙ sym (ap stage_count c.requires.shape) in
    let within : stage_count m.log.shape ≤ c.loop-stage.stage = omega (arith, c.loop-stage-test.false, count) in
    none-there m.stray c.loop-stage.left c.if-left-eq0-2.false
    ∙ ap (λ (posts : List Post). slice_get posts c.loop-stage.left) (sym (from-last m.log m.seat.number m.stray c.loop-stage.stage within))
    ∙ c.loop-stage.invariant
