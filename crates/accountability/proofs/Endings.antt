-- What ends a list of deliveries, and what an open one has.
use Rattle.std.proofs.Common.{◌≡◌, ◌≢◌, ℕ, suc, ◌-◌, true, false, List, [], ◌∷◌, length, take, Option, Some, None, ap, sym, ◌∙◌, refl, subst, arith, inl, inr, ◌⊎◌}
use Rattle.std.specs.Prelude.{is_ok, Contains, bytes_eq, option_and_then}
use Rattle.std.proofs.lemmas.Bool.{cases_Bool, cond-true, cond-false}
use Rattle.std.proofs.lemmas.Option.{get_or_from_slice_get, none-some, slice_get_within}
use Rattle.std.proofs.lemmas.Slice.Eq.{bytes_eq-Decides}
use Rattle.wire_core.specs.Answers.{first_some}
use Rattle.wire_core.proofs.AnswerLemmas.{first_below-each, first_below-found, first_some-some_parts, nothing_mapped}
use Rattle.phase_message.specs.declared.post.Post.{Post}
use Rattle.phase_message.specs.Post.{post_spelling}
use Rattle.stage_log.proofs.Pasts.{option_map-some}
use Rattle.transcript_form.specs.declared.claim.Claim.TheVariants.{Equivocation, Malformed}
use Rattle.round_spec.specs.Embedded.{slot_named}
use Rattle.round_spec.specs.Say.{Configuration}
use Rattle.round_spec.specs.Verdict.{Convicts, Done, Goes, Verdict, conviction}
use Rattle.round_spec.specs.Course.{Others, is_open}
use Rattle.round_spec.specs.Result.{Heard, Outcome, contradiction, contradiction_with, ending_at, ending_of, ending_verdict, fault_shown, first_posts, heard_of, last_of, least_ending, malformed_conviction, outcome_by, outcome_ended, result_of, stand_after, waiting_outcome}
use Rattle.round_spec.proofs.Deliveries.{ending-all, ending-parts}

-- ---- verdicts that end

verdict-same : (x y : Verdict) → (let told : Verdict → Option Verdict = λ z. Some z in told x ≡ told y) → x ≡ y
verdict-same x y e = cc

pub ending-open : (verdict : Verdict) → ending_verdict verdict ≡ None → is_open verdict ≡ true
ending-open Goes e = refl
ending-open Done e = absurd cc
ending-open (Convicts t) e = absurd cc

pub ending-closed : (verdict ending : Verdict) → ending_verdict verdict ≡ Some ending → (is_open ending ≡ false) × (verdict ≡ ending)
ending-closed Goes ending e = absurd (none-some ending e)
ending-closed Done ending e = (let same = verdict-same Done ending e in (ap is_open (sym same), same))
ending-closed (Convicts t) ending e = (let same = verdict-same (Convicts t) ending e in (ap is_open (sym same), same))

-- ---- the least part that ends

least-ends : (c : Configuration) (delivered : List (List ℕ)) (ending : ℕ × Verdict) → least_ending c delivered ≡ Some ending
    → ending_of c (take ending.0 delivered) ≡ Some ending.1
unfolding least_ending
least-ends c delivered ending e =
    let found = first_below-found (ending_at c delivered) (suc (length delivered)) ending e in
    let parts = option_map-some (λ (verdict : Verdict). (found.0, verdict)) (ending_of c (take found.0 delivered)) ending found.2 in
    subst (λ (x : ℕ × Verdict). ending_of c (take x.0 delivered) ≡ Some x.1) parts.2 parts.1

none-ends : (c : Configuration) (delivered : List (List ℕ)) → least_ending c delivered ≡ None → ending_of c delivered ≡ None
unfolding least_ending
none-ends c delivered e =
    nothing_mapped (λ (verdict : Verdict). (length delivered, verdict)) (ending_of c delivered)
    (sym (ending-all c delivered (length delivered) (omega arith))
    ∙ first_below-each (ending_at c delivered) (suc (length delivered)) e (length delivered) (omega arith))

-- ---- what a string shows

pub and-then-parts : {A B : Type 0} (f : A → Option B) (o : Option A) (y : B) → option_and_then f o ≡ Some y → (x : A) × (o ≡ Some x)
    × (f x ≡ Some y)
and-then-parts f None y e = absurd (none-some y e)
and-then-parts f (Some x) y e = (x, refl, e)

-- what is heard of a string is malformed
pub record IsMalformed (c : Configuration) (bytes : List ℕ) (verdict : Verdict) : Type 0 where
  pub heard : Heard
  pub is : heard_of c bytes ≡ Some heard
  pub offends : is_ok heard.content ≡ false
  pub verdict_is : verdict ≡ conviction c.round heard.header.sender Malformed (bytes ∷ [])

-- or it contradicts the first post of its slot
pub record IsContradiction (c : Configuration) (firsts : Others) (bytes : List ℕ) (verdict : Verdict) : Type 0 where
  pub heard : Heard
  pub is : heard_of c bytes ≡ Some heard
  pub first : Post
  pub kept : firsts (slot_named heard.header) ≡ Some first
  pub differ : first.content ≢ heard.post.content
  pub verdict_is : verdict ≡ conviction c.round heard.header.sender Equivocation (post_spelling first ∷ bytes ∷ [])

pub fault-cases : (c : Configuration) (firsts : Others) (bytes : List ℕ) (verdict : Verdict) → fault_shown c firsts bytes ≡ Some verdict
    → IsMalformed c bytes verdict ⊎ IsContradiction c firsts bytes verdict
fault-cases c firsts bytes verdict e =
    let heard = and-then-parts (λ (heard : Heard). first_some (malformed_conviction c bytes heard ∷ contradiction c firsts bytes heard ∷
    [])) (heard_of c bytes) verdict e in
    by_fault heard.0 heard.1 (first_some-some_parts (malformed_conviction c bytes heard.0) (contradiction c firsts bytes heard.0 ∷ [])
    verdict heard.2)
  where
    by_malformed : (heard : Heard) → heard_of c bytes ≡ Some heard → malformed_conviction c bytes heard ≡ Some verdict
        → IsMalformed c bytes verdict
    by_malformed heard is here = elim (cases_Bool (is_ok heard.content)) [
      | inl reads ↦ absurd (none-some verdict (sym (cond-true (is_ok heard.content) None _ reads) ∙ here))
      | inr offends ↦ record {
        heard = heard;
        is = is;
        offends = offends;
        verdict_is = verdict-same _ _ (sym here ∙ cond-false (is_ok heard.content) None _ offends);
      }
    ]

    by_first : (heard : Heard) → heard_of c bytes ≡ Some heard → (first : Post) → firsts (slot_named heard.header) ≡ Some first
        → contradiction_with c bytes heard first ≡ Some verdict → IsContradiction c firsts bytes verdict
    by_first heard is first kept here = elim (cases_Bool (bytes_eq first.content heard.post.content)) [
      | inl same ↦ absurd (none-some verdict (sym (cond-true (bytes_eq first.content heard.post.content) None _ same) ∙ here))
      | inr other ↦ record {
        heard = heard;
        is = is;
        first = first;
        kept = kept;
        differ = λ same. (let equal = (bytes_eq-Decides first.content heard.post.content).1 same in let both = sym equal ∙ other in cc);
        verdict_is = verdict-same _ _ (sym here ∙ cond-false (bytes_eq first.content heard.post.content) None _ other);
      }
    ]

    by_fault : (heard : Heard) → heard_of c bytes ≡ Some heard
        → (malformed_conviction c bytes heard ≡ Some verdict) ⊎
        ((malformed_conviction c bytes heard ≡ None) × (first_some (contradiction c firsts bytes heard ∷ []) ≡ Some verdict))
        → IsMalformed c bytes verdict ⊎ IsContradiction c firsts bytes verdict
    by_fault heard is (inl here) = inl (by_malformed heard is here)
    by_fault heard is (inr later) = elim (first_some-some_parts (contradiction c firsts bytes heard) [] verdict later.1) [
      | inl here ↦ (let first = and-then-parts (contradiction_with c bytes heard) (firsts (slot_named heard.header)) verdict here in inr
          (by_first heard is first.0 first.1 first.2))
      | inr nothing ↦ absurd (none-some verdict nothing.1)
    ]

-- ---- why deliveries end

-- their last string shows a fault
pub record EndsByLast (c : Configuration) (delivered : List (List ℕ)) (verdict : Verdict) : Type 0 where
  pub bytes : List ℕ
  pub listed : Contains delivered bytes
  pub shows_it : fault_shown c (first_posts c delivered) bytes ≡ Some verdict
  pub shows : IsMalformed c bytes verdict ⊎ IsContradiction c (first_posts c delivered) bytes verdict

last-listed : (delivered : List (List ℕ)) (bytes : List ℕ) → last_of delivered ≡ Some bytes → Contains delivered bytes
last-listed delivered bytes e = (
  length delivered - 1,
  slice_get_within delivered (length delivered - 1) bytes e,
  get_or_from_slice_get
      delivered (length delivered - 1) bytes bytes e,
)

-- or the course has come to a verdict that ends the round
pub ending-cases : (c : Configuration) (delivered : List (List ℕ)) (verdict : Verdict) → ending_of c delivered ≡ Some verdict
    → EndsByLast c delivered verdict ⊎ ((is_open verdict ≡ false) × ((stand_after c delivered).verdict ≡ verdict))
unfolding ending_of
ending-cases c delivered verdict e =
    elim (first_some-some_parts (option_and_then (fault_shown c (first_posts c delivered)) (last_of delivered))
    (ending_verdict (stand_after c delivered).verdict ∷ []) verdict e) [
      | inl here ↦
          let last = and-then-parts (fault_shown c (first_posts c delivered)) (last_of delivered) verdict here in
          inl (record {
            bytes = last.0;
            listed = last-listed delivered last.0 last.1;
            shows_it = last.2;
            shows = fault-cases c
                (first_posts c delivered) last.0 verdict last.2;
          })
      | inr later ↦ elim (first_some-some_parts (ending_verdict (stand_after c delivered).verdict) [] verdict later.1) [
        | inl here ↦ inr (ending-closed (stand_after c delivered).verdict verdict here)
        | inr nothing ↦ absurd (none-some verdict nothing.1)
      ]
    ]

-- ---- how a round stands

-- nothing ended it
pub record IsOpenEnd (c : Configuration) (delivered : List (List ℕ)) (outcome : Outcome) : Type 0 where
  pub least : least_ending c delivered ≡ None
  pub goes_on : is_open (stand_after c delivered).verdict ≡ true
  pub outcome_is : outcome ≡ waiting_outcome c (first_posts c delivered) (stand_after c delivered)

-- a first part ended, by a verdict
pub record IsEnded (c : Configuration) (delivered : List (List ℕ)) (outcome : Outcome) : Type 0 where
  pub count : ℕ
  pub verdict : Verdict
  pub least : least_ending c delivered ≡ Some (count, verdict)
  pub ends : ending_of c (take count delivered) ≡ Some verdict
  pub closed : is_open verdict ≡ false
  pub outcome_is : outcome ≡ outcome_ended c (stand_after c (take count delivered)) verdict

ending-is_closed : (c : Configuration) (delivered : List (List ℕ)) (verdict : Verdict) → ending_of c delivered ≡ Some verdict
    → is_open verdict ≡ false
ending-is_closed c delivered verdict e = elim (ending-cases c delivered verdict e) [
  | inl last ↦ elim last.shows [
    | inl malformed ↦ ap is_open malformed.verdict_is
    | inr other ↦ ap is_open other.verdict_is
  ]
  | inr course ↦ course.0
]

pub outcome-cases : (c : Configuration) (delivered : List (List ℕ)) → IsOpenEnd c delivered (result_of c delivered)
    ⊎ IsEnded c delivered (result_of c delivered)
unfolding result_of
outcome-cases c delivered = by_least (least_ending c delivered) refl
  where
    by_least : (o : Option (ℕ × Verdict)) → least_ending c delivered ≡ o
        → IsOpenEnd c delivered (outcome_by c delivered (least_ending c delivered))
        ⊎ IsEnded c delivered (outcome_by c delivered (least_ending c delivered))
    by_least None e = inl (record {
      least = e;
      goes_on = ending-open (stand_after c delivered).verdict (ending-parts c delivered (none-ends c delivered e));
      outcome_is = ap (outcome_by c delivered) e;
    })
    by_least (Some (count, verdict)) e = inr (record {
      count = count;
      verdict = verdict;
      least = e;
      ends = least-ends c delivered (count, verdict) e;
      closed = ending-is_closed c (take count delivered) verdict (least-ends c delivered (count, verdict) e);
      outcome_is = ap (outcome_by c delivered) e;
    })
