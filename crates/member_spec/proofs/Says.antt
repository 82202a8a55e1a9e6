-- What a member has to say is of the grammar, whatever was delivered.
use Rattle.std.proofs.Common.{◌≡◌, ℕ, zero, suc, ◌+◌, ◌-◌, ◌≤◌, true, List, ◌++◌, length, take, Some, None, Ok, ap, sym, ◌∙◌, refl, subst, arith, inl, inr, length-append}
use Rattle.std.specs.Prelude.{All, is_ok}
use Rattle.std.proofs.lemmas.Bool.{cases_lt}
use Rattle.std.proofs.lemmas.List.{take-append-le, take-take, take_all}
use Rattle.wire_core.specs.Bytes.{IsBytes}
use Rattle.phase_message.specs.declared.content.Content.{Content}
use Rattle.phase_message.specs.declared.post.Post.{Post}
use Rattle.phase_message.specs.Offence.{content_read}
use Rattle.phase_message.specs.Slots.{slots_before, stage_count}
use Rattle.round_spec.specs.Say.{Configuration, own_content, own_post, shape_in}
use Rattle.round_spec.specs.Verdict.{verdict_of}
use Rattle.round_spec.specs.Course.{Others, Stand, closing_of, course_from, course_of, first_stand, is_open, next_stand, stand_behind}
use Rattle.round_spec.specs.Honesty.{OthersCheck}
use Rattle.round_spec.specs.Reached.{IsReached}
use Rattle.round_spec.specs.Result.{first_posts}
use Rattle.round_spec.specs.Runs.{AllGo, CanEnter, IsOwnPost}
use Rattle.round_spec.specs.Settled.{settled_run}
use Rattle.round_spec.proofs.Courses.{cases_Some, course-adds, course-next, course-stays}
use Rattle.round_spec.proofs.Given.{first_posts_delivered, first_posts_name}
use Rattle.round_spec.proofs.Honesty.{own_posts_read}
use Rattle.round_spec.proofs.Reached.{behind-at, next-parts, open-goes, stands_are_reached}
use Rattle.round_spec.proofs.Settling.{before-settled, reached-end}
use Rattle.round_spec.proofs.Stopping.{course_stops}
use Rattle.member_spec.proofs.Steps.{SaysGrammar}

-- ---- a course goes on from its stands

-- a later stand of the course: it is not before this one, and its past begins with the past here
record IsLater (stand later : Stand) : Type 0 where
  at : stand.at ≤ later.at
  past : take (length stand.past) later.past ≡ stand.past

same-later : (stand : Stand) → IsLater stand stand
same-later stand = record { at = omega arith; past = take_all (length stand.past) stand.past (omega arith) }

behind-past : (c : Configuration) (stand : Stand) (posts : List Post) → (stand_behind c stand posts).past ≡ stand.past ++ posts
unfolding stand_behind
behind-past c stand posts = refl

next-later : (c : Configuration) (others : Others) (stand next later : Stand) → next_stand c others stand ≡ Some next → IsLater next later
    → IsLater stand later
next-later c others stand next later e is =
    let parts = next-parts c others stand next e in
    let posts : List Post = parts.1.0 in
    let step : next.at ≡ stand.at + 1 = sym (ap (λ (s : Stand). s.at) parts.1.2) ∙ behind-at c stand posts in
    let longer : next.past ≡ stand.past ++ posts = sym (ap (λ (s : Stand). s.past) parts.1.2) ∙ behind-past c stand posts in
    let reach = is.at in
    let more = ap length longer in
    record {
      at = omega (arith, step);
      past = sym (take-take (length stand.past) (length next.past) later.past (omega (arith, more, length-append stand.past posts)))
          ∙ ap (take (length stand.past)) (is.past ∙ longer) ∙ take-append-le (length stand.past) stand.past posts (omega arith)
          ∙ take_all (length stand.past) stand.past (omega arith);
    }

goes-later : (c : Configuration) (others : Others) (stages : ℕ) (stand : Stand) → IsLater stand (course_from c others stages stand)
unfolding course_from
goes-later c others zero stand = same-later stand
goes-later c others (suc stages) stand = elim (cases_Some (next_stand c others stand)) [
  | inl none ↦ subst (IsLater stand) (sym (course-stays c others (suc stages) stand none)) (same-later stand)
  | inr next ↦ subst (IsLater stand) (sym (course-next c others stages stand next.0 next.1))
      (next-later c others stand next.0 _ next.1 (goes-later c others stages next.0))
]

-- the end of the course is later than each of its stands
end-later : (c : Configuration) (others : Others) (stages : ℕ) → next_stand c others (course_of c others) ≡ None
    → IsLater (course_from c others stages first_stand) (course_of c others)
unfolding course_of
end-later c others stages stops = elim (cases_lt stages (stage_count (shape_in c))) [
  | inl lt ↦
      let split : stage_count (shape_in c) ≡ stages + (stage_count (shape_in c) - stages) = omega arith in
      subst (IsLater (course_from c others stages first_stand)) (sym (ap (λ (k : ℕ). course_from c others k first_stand) split
      ∙ course-adds c others stages (stage_count (shape_in c) - stages) first_stand))
      (goes-later c others (stage_count (shape_in c) - stages) (course_from c others stages first_stand))
  | inr le ↦
      let split : stages ≡ stage_count (shape_in c) + (stages - stage_count (shape_in c)) = omega arith in
      let same = ap (λ (k : ℕ). course_from c others k first_stand) split
      ∙ course-adds c others (stage_count (shape_in c)) (stages - stage_count (shape_in c)) first_stand
      ∙ course-stays c others (stages - stage_count (shape_in c)) (course_from c others (stage_count (shape_in c)) first_stand) stops in
      subst (λ (s : Stand). IsLater s (course_from c others (stage_count (shape_in c)) first_stand)) (sym same)
      (same-later (course_from c others (stage_count (shape_in c)) first_stand))
]

-- ---- what it has to say at an open stand

stand-goes : (c : Configuration) (others : Others) (stand : Stand) → IsReached c others stand → is_open stand.verdict ≡ true
    → AllGo c stand.past stand.at
stand-goes c others stand is still earlier lt = elim (cases_lt (earlier + 1) stand.at) [
  | inl before_it ↦ is.goes earlier before_it
  | inr now ↦
      let next : earlier + 1 ≡ stand.at = omega arith in
      let whole : slots_before (shape_in c) (earlier + 1) ≡ length stand.past = ap (λ (s : ℕ). slots_before (shape_in c) s) next
      ∙ sym is.whole in
      ap (λ (posts : List Post). verdict_of (closing_of c posts earlier))
      (take_all (slots_before (shape_in c) (earlier + 1)) stand.past (omega (arith, whole)))
      ∙ is.last earlier next ∙ open-goes stand.verdict still
]

own-is : (c : Configuration) (others : Others) (stages : ℕ) → let stand = course_from c others stages first_stand in
    next_stand c others (course_of c others) ≡ None → is_open stand.verdict ≡ true
    → IsOwnPost (settled_run c others) stand.at (own_post c stand.past stand.at)
own-is c others stages stops still =
    let stand : Stand = course_from c others stages first_stand in
    let is = stands_are_reached c others stages in
    let later = end-later c others stages stops in
    record {
      past = stand.past;
      before = before-settled c others stand.at (reached-end c others) later.at
          ∙ ap (λ (n : ℕ). Some (take n (course_of c others).past)) (sym is.whole) ∙ ap (λ (past : List Post). Some past) later.past;
      goes = stand-goes c others stand is still;
      said = refl;
    }

ok-when : (c : Configuration) (past : List Post) (stage : ℕ) (content : Content)
    → content_read (shape_in c) (own_post c past stage).content ≡ Ok content
    → is_ok (content_read (shape_in c) (own_content c past stage)) ≡ true
unfolding own_post
ok-when c past stage content e = ap is_ok e

pub says-grammar : (c : Configuration) → CanEnter c → (part : List (List ℕ)) → All IsBytes part → SaysGrammar c (first_posts c part)
says-grammar c is part are stages still speaks =
    let others : Others = first_posts c part in
    let stand : Stand = course_from c others stages first_stand in
    let least : 1 ≤ (shape_in c).members = (let two = is.roster.least in omega arith) in
    let check : OthersCheck c others = λ slot post e. (first_posts_delivered c part slot post are e).checks in
    let stops = course_stops c others is.round least (first_posts_name c part are) in
    let own = own_posts_read c others is check stand.at (own_post c stand.past stand.at) speaks (own-is c others stages stops.no_next still)
    in
    ok-when c stand.past stand.at own.content own.reads
