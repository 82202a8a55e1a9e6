-- Whatever ends a round by a conviction has evidence that is accepted.
use Rattle.std.proofs.Common.{arith, refl, All, List, Some, ap, false, inl, inr, subst, suc, sym, take, true, zero, ◌≡◌, ◌≢◌, ◌∙◌, ◌⊎◌, ◌≤◌, ◌+◌, ◌-◌, ℕ}
use Rattle.round_spec.specs.Verdict.{Convicts, Done, Goes, ClosedStage, Verdict, is_closing, shape_at, verdict_of}
use Rattle.std.proofs.lemmas.List.Elements.{All-contains, All-take}
use Rattle.round_spec.specs.Result.{Blamed, ending_of, first_posts, outcome_ended, stand_after, waiting_outcome}
use Rattle.round_spec.specs.Cases.{ByBadLog, ByBadPad, ByEquivocation, ByReplay, ByWrongSeed, Case, Ends, GoesOn, IsBadLog, IsBadPad, IsEquivocation, IsReplay, IsWrongSeed}
use Rattle.round_spec.specs.Say.{Configuration, shape_in}
use Rattle.accountability.specs.Evidence.{EvidenceAccepted, IsAccepted, IsKeptEnd, VerdictAccepted}
use Rattle.wire_core.specs.Bytes.{IsBytes}
use Rattle.round_spec.specs.Runs.{IsConfiguration}
use Rattle.round_spec.specs.Reached.{IsReached}
use Rattle.round_spec.specs.Course.{Others, Stand, closing_of, course_of, settled_log}
use Rattle.round_spec.specs.Honesty.{OthersCheck}
use Rattle.phase_message.specs.declared.post.Post.{Post}
use Rattle.transcript_form.specs.declared.transcript.Transcript.{Transcript}
use Rattle.accountability.proofs.OnePost.{bad_log_accepted, fault_accepted, wrong_seed_accepted}
use Rattle.accountability.proofs.PadEvidence.{bad_pad_accepted}
use Rattle.stage_log.specs.Log.{before}
use Rattle.round_spec.proofs.Settling.{before-settled, reached-end}
use Rattle.std.proofs.lemmas.Bool.{cases_Bool, cond-false}
use Rattle.accountability.proofs.Endings.{ending-cases, outcome-cases}
use Rattle.accountability.proofs.Equivocations.{equivocation_accepted}
use Rattle.round_spec.proofs.Given.{first_posts_delivered}
use Rattle.accountability.proofs.Replays.{replay_accepted}
use Rattle.round_spec.specs.Settled.{settled_run}
use Rattle.round_spec.proofs.Honesty.{settled_run_is_honest}
use Rattle.phase_message.specs.Slots.{slots_before}
use Rattle.std.proofs.lemmas.List.{take_all}
use Rattle.round_spec.proofs.Verdicts.{verdict_cases}
use Rattle.accountability.proofs.Kept.{whole-end}

-- ---- a verdict on what a run kept

pub convicts-not : (t : Transcript) (verdict : Verdict) → verdict ≡ Goes ⊎ verdict ≡ Done → Convicts t ≡ verdict → ⊥
convicts-not t verdict (inl goes) e = (let both = e ∙ goes in cc)
convicts-not t verdict (inr done) e = (let both = e ∙ done in cc)

pub verdict_accepted : VerdictAccepted
verdict_accepted run stage posts t end e =
    by_case (verdict_cases (closing_of run.config posts stage) (whole-end run stage posts end))
  where
    v : ClosedStage
    v = closing_of run.config posts stage

    by_case : Case v (verdict_of v) → IsAccepted run.config.roster t
    by_case (ByBadLog is) = bad_log_accepted run stage posts t end (subst (IsBadLog v) e is)
    by_case (ByEquivocation is) = equivocation_accepted run stage posts t end (subst (IsEquivocation v) e is)
    by_case (ByWrongSeed is) = wrong_seed_accepted run stage posts t end (subst (IsWrongSeed v) e is)
    by_case (ByReplay is) = replay_accepted run stage posts t end (subst (IsReplay v) e is)
    by_case (ByBadPad is) = bad_pad_accepted run stage posts t end (subst (IsBadPad v) e is)
    by_case (GoesOn agree work goes) = absurd (convicts-not t (verdict_of v) (inl goes) (sym e))
    by_case (Ends agree done ends) = absurd (convicts-not t (verdict_of v) (inr ends) (sym e))

-- ---- the end of deliveries

pub transcript-of : (x y : Transcript) → Blamed x ≡ Blamed y → x ≡ y
transcript-of x y e = cc

not-closing : (v : ClosedStage) → is_closing (shape_at v) v.stage ≡ false → verdict_of v ≡ Goes
unfolding verdict_of
not-closing v e = cond-false (is_closing (shape_at v) v.stage) _ Goes e

-- the verdict of a stand is that of a closing stage which the run kept
pub record IsClosed (c : Configuration) (others : Others) (stage : ℕ) (verdict : Verdict) : Type 0 where
  pub kept : IsKeptEnd (settled_run c others) stage (course_of c others).past
  pub verdict_is : verdict_of (closing_of c (course_of c others).past stage) ≡ verdict

pub stand-closed : (c : Configuration) (others : Others) (verdict : Verdict) → IsConfiguration c → OthersCheck c others
    → (course_of c others).verdict ≡ verdict → verdict ≢ Goes → (stage : ℕ) × IsClosed c others stage verdict
stand-closed c others verdict is check e ends = (
  stage,
  record {
    kept = record { honest = settled_run_is_honest c others is check; closing = closing; kept = kept };
    verdict_is = given;
  },
)
  where
    stand : Stand
    stand = course_of c others

    reached : IsReached c others stand
    reached = reached-end c others

    started : (n : ℕ) → stand.at ≡ n → 1 ≤ n
    started zero at = absurd (ends (sym e ∙ reached.first at))
    started (suc n) at = omega arith

    some : 1 ≤ stand.at
    some = started stand.at refl

    stage : ℕ
    stage = stand.at - 1

    at : stage + 1 ≡ stand.at
    at = omega (arith, some)

    given : verdict_of (closing_of c stand.past stage) ≡ verdict
    given = reached.last stage at ∙ e

    closing : is_closing (shape_in c) stage ≡ true
    closing = elim (cases_Bool (is_closing (shape_in c) stage)) [
      | inl is_closing_there ↦ is_closing_there
      | inr none ↦ absurd (ends (sym given ∙ not-closing (closing_of c stand.past stage) none))
    ]

    kept : before (settled_log c others) (stage + 1) ≡ Some stand.past
    kept = ap (before (settled_log c others)) at ∙ before-settled c others stand.at reached (omega arith)
        ∙ ap (λ (xs : List Post). Some xs) (take_all (slots_before (shape_in c) stand.at) stand.past
        (let whole = reached.whole in omega (arith, whole)))

pub firsts-check : (c : Configuration) (delivered : List (List ℕ)) → All IsBytes delivered → OthersCheck c (first_posts c delivered)
firsts-check c delivered all slot post e = (first_posts_delivered c delivered slot post all e).checks

pub evidence_accepted : EvidenceAccepted
evidence_accepted c delivered t is all e = elim (outcome-cases c delivered) [
  | inl open_end ↦ absurd (waits-not (first_posts c delivered) (stand_after c delivered) (sym e ∙ open_end.outcome_is))
  | inr ended ↦ convicted ended.count ended.verdict ended.ends (sym e ∙ ended.outcome_is)
]
  where
    waits-not : (others : Others) (stand : Stand) → Blamed t ≡ waiting_outcome c others stand → ⊥
    waits-not others stand w = absurd cc

    by_ending : (part : List (List ℕ)) → All IsBytes part → ending_of c part ≡ Some (Convicts t) → IsAccepted c.roster t
    by_ending part bytes ends = elim (ending-cases c part (Convicts t) ends) [
      | inl last ↦ fault_accepted c (first_posts c part) last.bytes t is (firsts-check c part bytes)
          (All-contains IsBytes part last.bytes bytes last.listed) last.shows_it
      | inr course ↦
          let closed = stand-closed c (first_posts c part) (Convicts t) is (firsts-check c part bytes) course.1
          (λ goes. convicts-not t Goes (inl refl) goes) in
          verdict_accepted (settled_run c (first_posts c part)) closed.0 (course_of c (first_posts c part)).past t closed.1.kept
          closed.1.verdict_is
    ]

    convicted : (count : ℕ) (verdict : Verdict) → ending_of c (take count delivered) ≡ Some verdict
        → Blamed t ≡ outcome_ended c (stand_after c (take count delivered)) verdict → IsAccepted c.roster t
    convicted count Goes ends w = absurd cc
    convicted count Done ends w = absurd cc
    convicted count (Convicts other) ends w =
        let same : other ≡ t = sym (transcript-of t other w) in
        by_ending (take count delivered) (All-take IsBytes count delivered all) (ends ∙ ap (λ (x : Transcript). Some (Convicts x)) same)
