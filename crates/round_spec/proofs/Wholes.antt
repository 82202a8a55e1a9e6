-- Deliveries that may be taken whole.
use Rattle.std.proofs.Common.{◌≡◌, ℕ, suc, ◌-◌, true, false, List, [], ◌∷◌, length, take, Option, Some, None, ap, sym, ◌∙◌, refl, subst, arith}
use Rattle.std.specs.Prelude.{is_ok, Contains, bytes_eq, option_and_then}
use Rattle.std.specs.List.{slice_get}
use Rattle.std.proofs.lemmas.Bool.{cond-true, cond-false}
use Rattle.std.proofs.lemmas.List.{get_or-take, length-take}
use Rattle.std.proofs.lemmas.Option.{get_or_from_slice_get, none-some, slice_get_within}
use Rattle.std.proofs.lemmas.Slice.Eq.{bytes_eq-Decides}
use Rattle.wire_core.specs.Answers.{first_some}
use Rattle.wire_core.proofs.AnswerLemmas.{first_below-each, first_below-found, first_some-none, nothing_mapped}
use Rattle.phase_message.specs.declared.post.Post.{Post}
use Rattle.phase_message.specs.Slots.{stage_count}
use Rattle.stage_log.proofs.Pasts.{option_map-some}
use Rattle.round_spec.specs.Embedded.{slot_named}
use Rattle.round_spec.specs.Say.{Configuration, shape_in}
use Rattle.round_spec.specs.Verdict.{Convicts, Done, Goes, Verdict}
use Rattle.round_spec.specs.Course.{Others, Stand, course_of, first_stand, is_open, own_posts}
use Rattle.round_spec.specs.Result.{Heard, contradiction, contradiction_with, counted_part, ending_at, ending_of, ending_verdict, fault_shown, first_posts, heard_of, last_of, least_ending, malformed_conviction, outcome_by, outcome_ended, posts_of, result_of, stand_after, waiting_outcome}
use Rattle.round_spec.specs.Deliveries.{AreConsistent, IsWholeCourse, WholeCourse, outcome_of_stand}
use Rattle.round_spec.proofs.Courses.{course-end-unique}
use Rattle.round_spec.proofs.Deliveries.{ending-all, ending-none, ending-parts, first_posts_contained}

-- ---- no prefix ends by its last string

part-contains : (delivered : List (List ℕ)) (count i : ℕ) (bytes : List ℕ) → slice_get (take count delivered) i ≡ Some bytes
    → Contains delivered bytes
part-contains delivered count i bytes e =
    let within = slice_get_within (take count delivered) i bytes e in
    let long = length-take count delivered in (
      i,
      omega (arith, long),
      sym (get_or-take count delivered i bytes (omega (arith, long)))
          ∙ get_or_from_slice_get (take count delivered) i bytes bytes e,
    )

sound-heard : (c : Configuration) (delivered : List (List ℕ)) (count : ℕ) (bytes : List ℕ) (heard : Heard) → is_ok heard.content ≡ true
    → ((first : Post) → first_posts c delivered (slot_named heard.header) ≡ Some first → first.content ≡ heard.post.content)
    → first_some (malformed_conviction c bytes heard ∷ contradiction c (first_posts c (take count delivered)) bytes heard ∷ []) ≡ None
sound-heard c delivered count bytes heard reads same =
    first_some-none (malformed_conviction c bytes heard) (contradiction c firsts bytes heard ∷ [])
    (cond-true (is_ok heard.content) None _ reads)
    ∙ first_some-none (contradiction c firsts bytes heard) [] (by_first (firsts (slot_named heard.header)) refl)
  where
    firsts : Others
    firsts = first_posts c (take count delivered)

    by_first : (o : Option Post) → firsts (slot_named heard.header) ≡ o → contradiction c firsts bytes heard ≡ None
    by_first None e = ap (option_and_then (contradiction_with c bytes heard)) e
    by_first (Some first) e =
        let kept = first_posts_contained c delivered count (slot_named heard.header) first e in
        let equal : bytes_eq first.content heard.post.content ≡ true = (bytes_eq-Decides first.content heard.post.content).1
        (same first kept) in
        ap (option_and_then (contradiction_with c bytes heard)) e ∙ cond-true (bytes_eq first.content heard.post.content) None _ equal

sound-string : (c : Configuration) (delivered : List (List ℕ)) (count : ℕ) (bytes : List ℕ) → AreConsistent c delivered
    → Contains delivered bytes
    → fault_shown c (first_posts c (take count delivered)) bytes ≡ None
sound-string c delivered count bytes consistent listed = by_heard (heard_of c bytes) refl
  where
    by_heard : (o : Option Heard) → heard_of c bytes ≡ o → fault_shown c (first_posts c (take count delivered)) bytes ≡ None
    by_heard None e = ap (option_and_then (λ (heard : Heard). first_some
        (malformed_conviction c bytes heard ∷ contradiction c (first_posts c (take count delivered)) bytes heard ∷ []))) e
    by_heard (Some heard) e =
        let is = consistent bytes heard listed e in
        ap (option_and_then (λ (heard : Heard). first_some (malformed_conviction c bytes heard ∷ contradiction c
        (first_posts c (take count delivered)) bytes heard ∷ []))) e
        ∙ sound-heard c delivered count bytes heard is.0 is.1

sound-part : (c : Configuration) (delivered : List (List ℕ)) (count : ℕ) → AreConsistent c delivered
    → option_and_then (fault_shown c (first_posts c (take count delivered))) (last_of (take count delivered)) ≡ None
sound-part c delivered count consistent = by_last (last_of (take count delivered)) refl
  where
    by_last : (o : Option (List ℕ)) → last_of (take count delivered) ≡ o
        → option_and_then (fault_shown c (first_posts c (take count delivered))) (last_of (take count delivered)) ≡ None
    by_last None e = ap (option_and_then (fault_shown c (first_posts c (take count delivered)))) e
    by_last (Some bytes) e =
        ap (option_and_then (fault_shown c (first_posts c (take count delivered)))) e
        ∙ sound-string c delivered count bytes consistent (part-contains delivered count (length (take count delivered) - 1) bytes e)

-- ---- verdicts that end

pub ending-open : (verdict : Verdict) → ending_verdict verdict ≡ None → is_open verdict ≡ true
ending-open Goes e = refl
ending-open Done e = absurd cc
ending-open (Convicts t) e = absurd cc

pub ending-closed : (verdict ending : Verdict) → ending_verdict verdict ≡ Some ending → (is_open verdict ≡ false) × (verdict ≡ ending)
ending-closed Goes ending e = absurd (none-some ending e)
ending-closed Done ending e = (refl, told_same Done ending e)
  where
    told_same : (x y : Verdict) → (let told : Verdict → Option Verdict = λ z. Some z in told x ≡ told y) → x ≡ y
    told_same x y e = cc
ending-closed (Convicts t) ending e = (refl, told_same (Convicts t) ending e)
  where
    told_same : (x y : Verdict) → (let told : Verdict → Option Verdict = λ z. Some z in told x ≡ told y) → x ≡ y
    told_same x y e = cc

-- what ends is a first part, by its course
pub least-ends : (c : Configuration) (delivered : List (List ℕ)) (ending : ℕ × Verdict) → least_ending c delivered ≡ Some ending
    → ending_of c (take ending.0 delivered) ≡ Some ending.1
unfolding least_ending
least-ends c delivered ending e =
    let found = first_below-found (ending_at c delivered) (suc (length delivered)) ending e in
    let parts = option_map-some (λ (verdict : Verdict). (found.0, verdict)) (ending_of c (take found.0 delivered)) ending found.2 in
    subst (λ (x : ℕ × Verdict). ending_of c (take x.0 delivered) ≡ Some x.1) parts.2 parts.1

pub none-ends : (c : Configuration) (delivered : List (List ℕ)) → least_ending c delivered ≡ None → ending_of c delivered ≡ None
unfolding least_ending
none-ends c delivered e =
    nothing_mapped (λ (verdict : Verdict). (length delivered, verdict)) (ending_of c delivered)
    (sym (ending-all c delivered (length delivered) (omega arith))
    ∙ first_below-each (ending_at c delivered) (suc (length delivered)) e (length delivered) (omega arith))

-- where the course of a first part has ended, so has that of the whole
same-end : (c : Configuration) (delivered : List (List ℕ)) (count : ℕ) → is_open (stand_after c (take count delivered)).verdict ≡ false
    → stand_after c delivered ≡ stand_after c (take count delivered)
unfolding course_of
same-end c delivered count ended =
    course-end-unique c (first_posts c (take count delivered)) (first_posts c delivered) (stage_count (shape_in c))
    (stage_count (shape_in c)) first_stand
    (first_posts_contained c delivered count) ended (omega arith)

-- ---- the result

outcome-open : (c : Configuration) (others : Others) (stand : Stand) → is_open stand.verdict ≡ true
    → waiting_outcome c others stand ≡ outcome_of_stand c others stand
outcome-open c others stand still = sym (cond-true (is_open stand.verdict) (waiting_outcome c others stand)
    (outcome_ended c stand stand.verdict) still)

outcome-ended : (c : Configuration) (others : Others) (stand : Stand) → is_open stand.verdict ≡ false
    → outcome_ended c stand stand.verdict ≡ outcome_of_stand c others stand
outcome-ended c others stand ended = sym (cond-false (is_open stand.verdict) (waiting_outcome c others stand)
    (outcome_ended c stand stand.verdict) ended)

pub whole_course : WholeCourse
unfolding result_of posts_of
whole_course c delivered consistent = by_least (least_ending c delivered) refl
  where
    by_least : (o : Option (ℕ × Verdict)) → least_ending c delivered ≡ o → IsWholeCourse c delivered
    by_least None e = record {
      result = ap (outcome_by c delivered) e ∙ outcome-open c (first_posts c delivered) (stand_after c delivered)
          (ending-open _ (ending-parts c delivered (none-ends c delivered e)));
      posts = ap (λ (o : Option (ℕ × Verdict)). own_posts c (stand_after c (counted_part delivered o))) e;
    }
    by_least (Some ending) e =
        let part : List (List ℕ) = take ending.0 delivered in
        let by_course = sym (ending-none c part (sound-part c delivered ending.0 consistent)) ∙ least-ends c delivered ending e in
        let closed = ending-closed (stand_after c part).verdict ending.1 by_course in
        let same : stand_after c delivered ≡ stand_after c part = same-end c delivered ending.0 closed.0 in
        record {
          result =
              ap (outcome_by c delivered) e
              ∙ ap (outcome_ended c (stand_after c part)) (sym closed.1)
              ∙ ap (λ (s : Stand). outcome_ended c s s.verdict) (sym same)
              ∙ outcome-ended c (first_posts c delivered) (stand_after c delivered) (ap (λ (s : Stand). is_open s.verdict) same ∙ closed.0);
          posts = ap (λ (o : Option (ℕ × Verdict)). own_posts c (stand_after c (counted_part delivered o))) e ∙ ap (own_posts c) (sym same);
        }
