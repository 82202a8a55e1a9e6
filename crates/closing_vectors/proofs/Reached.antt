-- A log to the end of FINAL A, as it is judged.
use Rattle.std.proofs.Common.{◌≡◌, ℕ, ◌+◌, ◌≤◌, take, true, false, List, Bool, Option, Some, None, refl, sym, ap, ◌∙◌, arith}
use Rattle.std.specs.Prelude.{IsSome, is_some, option_and_then}
use Rattle.std.proofs.lemmas.Bool.{cond-false, cond-true}
use Rattle.wire_core.proofs.AnswerLemmas.{first_below-found}
use Rattle.phase_message.specs.declared.stage.StageKind.{StageKind}
use Rattle.phase_message.specs.Shape.{Shape}
use Rattle.phase_message.specs.declared.post.Post.{Post}
use Rattle.phase_message.specs.Slots.{slots_before, stage_count}
use Rattle.phase_message.specs.Stages.{vote_of}
use Rattle.phase_message.proofs.Table.{final_a_is}
use Rattle.stage_log.specs.Log.{before}
use Rattle.stage_log.specs.Table.{Log, first_incomplete_of, incomplete_stage, is_complete}
use Rattle.stage_log.proofs.Fronts.{before-complete, before-front, some_is}
use Rattle.honest_say.specs.Pasts.{posts_before}
use Rattle.honest_say.proofs.PastLemmas.{complete-posts}
use Rattle.round_spec.specs.Verdict.{is_closing}

-- a stage that is not the first incomplete one is complete
complete-there : (log : Log) (stage : ℕ) → incomplete_stage log stage ≡ None → is_complete log stage ≡ true
complete-there log stage e = by_bool (is_complete log stage) refl
  where
    by_bool : (b : Bool) → is_complete log stage ≡ b → is_complete log stage ≡ true
    by_bool true is = is
    by_bool false is = absurd (let both = sym (cond-false (is_complete log stage) None (Some stage) is) ∙ e in cc)

same-stage : (log : Log) (k stage : ℕ) → incomplete_stage log k ≡ Some stage → k ≡ stage
same-stage log k stage e = by_bool (is_complete log k) refl
  where
    by_bool : (b : Bool) → is_complete log k ≡ b → k ≡ stage
    by_bool true is = absurd (let both = sym (cond-true (is_complete log k) None (Some k) is) ∙ e in cc)
    by_bool false is = let both = sym (cond-false (is_complete log k) None (Some k) is) ∙ e in cc

-- all stages before the first incomplete one are there
pub reached : (log : Log) (stage : ℕ) → first_incomplete_of log ≡ Some stage → IsSome (before log stage)
reached log stage e =
    let found = first_below-found (incomplete_stage log) (stage_count log.shape) stage e in
    let here : found.0 ≡ stage = same-stage log found.0 stage found.2 in
    let posts = before-complete log stage (λ earlier lt. complete-there log earlier (found.3 earlier (omega (arith, lt, here)))) in
    some_is (before log stage) posts.0 posts.1

-- the end of shuffle A closes votes
pub closes : (shape : Shape) (stage : ℕ) → stage ≡ shape.members + 3 → is_closing shape stage ≡ true
closes shape stage e = ap (λ (o : Option StageKind). is_some (option_and_then vote_of o)) (final_a_is shape stage e)

-- the stages before an earlier one are there
pub reached-earlier : (log : Log) (stage next : ℕ) → IsSome (before log next) → stage ≤ next → IsSome (before log stage)
reached-earlier log stage next there le =
    let posts : List Post = posts_before log next in
    some_is (before log stage) (take (slots_before log.shape stage) posts)
    (before-front log stage next posts le (complete-posts log next there))
