-- Where a member stands behind a stage that is complete: where the pure machine does.
use Rattle.std.proofs.Common.{◌≡◌, ◌⊎◌, ℕ, ◌+◌, ◌<◌, true, false, List, ◌++◌, Option, Some, Vec, Global, ap, sym, ◌∙◌, refl, subst, arith, inl, inr}
use Rattle.std.specs.Prelude.{IsSome, if◌then◌else◌}
use Rattle.std.proofs.lemmas.Bool.{cond-false}
use Rattle.phase_message.specs.declared.post.Post.{Post}
use Rattle.phase_message.specs.Slots.{stage_count}
use Rattle.group_roster.specs.Roster.{Roster}
use Rattle.stage_log.specs.declared.seen.Seen.{Seen}
use Rattle.stage_log.specs.Log.{all_some, before, contents_of}
use Rattle.stage_log.specs.Table.{posts_in}
use Rattle.bulk_descriptor.specs.declared.slot_state.SlotState.{SlotState}
use Rattle.shuffle_blame.specs.Asked.{past_of}
use Rattle.round_spec.specs.Course.{closing_of, is_open, stand_behind}
use Rattle.round_spec.specs.Result.{Outcome, Waiting as WaitingFor, outcome_ended}
use Rattle.round_spec.specs.Say.{Configuration, shape_in}
use Rattle.round_spec.specs.Slots.{slots_of_past, submit_stage}
use Rattle.round_spec.specs.Verdict.{ClosedStage, Verdict, Goes, Done, Convicts, is_closing, shape_at, verdict_of}
use Rattle.honest_say.specs.declared.group_keys.GroupKeys.{GroupKeys}
use Rattle.honest_say.specs.declared.opening.Slots.{Slots}
use Rattle.honest_say.specs.Pasts.{posts_before}
use Rattle.honest_say.proofs.PastLemmas.{posts-are}
use Rattle.honest_say.proofs.StageLemmas.{submit-slot}
use Rattle.closing_verdict.specs.declared.convicting.Conviction.{Conviction}
use Rattle.closing_verdict.specs.Convicting.{TellsConviction}
use Rattle.closing_verdict.specs.Judgement.{verdict_in}
use Rattle.member_spec.specs.declared.mood.Mood.{Mood}
use Rattle.member_spec.specs.declared.mood.Mood.TheVariants.{Unasked, PutOff, Spoken, Mute}
use Rattle.member_spec.specs.Actor.{Actor, actor_behind_stage, actor_behind_step}
use Rattle.member_spec.specs.Outcomes.{members_missing, outcome_of}
use Rattle.member_spec.specs.Replies.{Replies}
use Rattle.member_spec.proofs.Steps.{open-step, posts-within}
use Rattle.member_parts.specs.declared.ending.Ending.{Ending}
use Rattle.member_parts.specs.declared.ending.Ending.TheVariants.{Open, Done as EndingDone, Blamed}
use Rattle.member_parts.specs.declared.secrets.Secrets.{Secrets}
use Rattle.member_parts.specs.Secrets.{AreSecretsOf}
use Rattle.member_core.specs.declared.machine.Machine.{Machine}
use Rattle.member_core.specs.Membership.{Holdings, completed_of, holdings_of}
use Rattle.member_core.specs.Needs.{was_asked}
use Rattle.member_core.specs.Sound.{IsFormed, IsReady}
use Rattle.member_core.specs.Stands.{AnswersBy, GoesOn, HasEntered, IsAt, IsOwnOf, KeepsOwn, ShowsOutcome, StandsFor}
use Rattle.member_core.proofs.Changes.{entry-with}
use Rattle.member_core.proofs.Belonging.{IsOfGroup, of-group}
use Rattle.member_core.proofs.Passing.{asked-behind, machine_past, spoken-or-silent}

-- ---- the pure machine

-- it passes a stage whose posts are all there
pub passes-step : (start : Replies) (c : Configuration) (a : Actor) (posts : List Post) → is_open a.ending ≡ true
    → a.stand.at < stage_count (shape_in c)
    → all_some (posts_in a.log a.stand.at) ≡ Some posts
    → actor_behind_step start c a ≡ actor_behind_stage c a (stand_behind c a.stand posts)
passes-step start c a posts still within here = open-step start c a (Some posts) still (posts-within c a within ∙ here)

-- the verdict of the stage is that of what the member holds
pub verdict-is : (c : Configuration) (a : Actor) (h : Holdings) (posts : List Post) → HasEntered c h → IsAt c a h
    → before h.log (h.stage + 1) ≡ Some (a.stand.past ++ posts)
    → verdict_of (closing_of c (a.stand.past ++ posts) a.stand.at) ≡ verdict_in (completed_of h)
verdict-is c a h posts entered at next =
    let all : List Post = a.stand.past ++ posts in
    sym (ap (λ (r : Roster). verdict_of (record { roster = r; round = h.round; posts = posts_before h.log (h.stage + 1); stage = h.stage }))
    entered.roster
    ∙ ap (λ (n : ℕ). verdict_of (record { roster = c.roster; round = n; posts = posts_before h.log (h.stage + 1); stage = h.stage }))
    entered.round
    ∙ ap (λ (ps : List Post). verdict_of (record { roster = c.roster; round = c.round; posts = ps; stage = h.stage }))
    (posts-are h.log (h.stage + 1) all next)
    ∙ ap (λ (n : ℕ). verdict_of (record { roster = c.roster; round = c.round; posts = all; stage = n })) at.stage)

-- what it shows behind the stage, by the verdict
abbrev pub outcome_past : Configuration → Actor → List Post → Verdict → Outcome
outcome_past c a posts v =
    if is_open v then WaitingFor (stand_behind c a.stand posts).at
    (members_missing c (actor_behind_stage c a (stand_behind c a.stand posts)))
    else outcome_ended c (stand_behind c a.stand posts) v

pub outcome-is : (c : Configuration) (a : Actor) (posts : List Post) (v : Verdict)
    → verdict_of (closing_of c (a.stand.past ++ posts) a.stand.at) ≡ v
    → outcome_of c (actor_behind_stage c a (stand_behind c a.stand posts)) ≡ outcome_past c a posts v
unfolding stand_behind
outcome-is c a posts v e = ap (outcome_past c a posts) e

-- ---- where it stands

-- the moods behind which a member was asked
asks-by : (now start : Replies) (c : Configuration) (h : Holdings) (mood : Mood) → GoesOn now start c h mood
    → ((mood ≡ Spoken) ⊎ (mood ≡ Unasked)) → AnswersBy now start c (past_of h.log 1) (was_asked h.stage h.mood 1)
asks-by now start c h Unasked is which = is
asks-by now start c h (PutOff bytes) is which = is
asks-by now start c h Spoken is which = is
asks-by now start c h Mute is (inl e) = absurd cc
asks-by now start c h Mute is (inr e) = absurd cc

owns-by : (start : Replies) (c : Configuration) (h : Holdings) (mood : Mood) → KeepsOwn start c h mood
    → ((mood ≡ Spoken) ⊎ (mood ≡ Unasked)) → IsOwnOf start c h
owns-by start c h Unasked is which = is
owns-by start c h (PutOff bytes) is which = is
owns-by start c h Spoken is which = is
owns-by start c h Mute is (inl e) = absurd cc
owns-by start c h Mute is (inr e) = absurd cc

pub stands-past : (m : Machine) (keys : Option GroupKeys) (seen : Seen) (secrets : Secrets) (opened : Option (Vec (Option (List ℕ)) Global))
    (slots : Option Slots)
    (ending : Ending) → IsFormed m → IsReady m → IsSome (before m.log (m.stage + 1))
    → ((c : Configuration) → AreSecretsOf c m.secrets → AreSecretsOf c secrets)
    → (now start : Replies) (c : Configuration) (a : Actor) (posts : List Post) → StandsFor now start c a (holdings_of m)
    → before m.log (m.stage + 1) ≡ Some (a.stand.past ++ posts)
    → ShowsOutcome ending (outcome_of c (actor_behind_stage c a (stand_behind c a.stand posts)))
    → StandsFor now start c (actor_behind_stage c a (stand_behind c a.stand posts))
    (holdings_of (machine_past m keys seen secrets opened slots ending))
unfolding stand_behind
stands-past m keys seen secrets opened slots ending formed ready there left now start c a posts is next shows = record {
  can_enter = is.can_enter;
  entered = entry-with c (holdings_of m) secrets is.entered (left c is.entered.secrets);
  at = record {
    log = is.at.log;
    stage = ap (λ (n : ℕ). n + 1) is.at.stage;
    past = next;
    mood = refl;
    made = is.at.made;
    ending = shows;
  };
  conduct = subst (AnswersBy now start c (past_of m.log 1)) (sym first-same) (asks-by now start c (holdings_of m) m.mood is.conduct which);
  own = record {
    descriptor = λ asked. own.descriptor (sym first-same ∙ asked);
    pad = λ asked. own.pad (sym first-same ∙ asked);
    first = λ asked apart. own.first (sym first-same ∙ asked) (sym second-same ∙ apart);
    second = λ asked. own.second (sym second-same ∙ asked);
  };
}
  where
    group : IsOfGroup m
    group = of-group m formed

    first-same : was_asked (m.stage + 1) Unasked 1 ≡ was_asked m.stage m.mood 1
    first-same = asked-behind m 1 formed ready there (submit-slot m.log.shape 1 m.seat.number (omega arith) (omega arith) group.first
        group.last)

    second-same : was_asked (m.stage + 1) Unasked (submit_stage m.log.shape 2) ≡ was_asked m.stage m.mood (submit_stage m.log.shape 2)
    second-same = asked-behind m (submit_stage m.log.shape 2) formed ready there
        (submit-slot m.log.shape 2 m.seat.number (omega arith) (omega arith) group.first group.last)

    which : (m.mood ≡ Spoken) ⊎ (m.mood ≡ Unasked)
    which = elim (spoken-or-silent m formed ready there) [ inl spoken ↦ inl spoken | inr silent ↦ inr silent.0 ]

    own : IsOwnOf start c (holdings_of m)
    own = owns-by start c (holdings_of m) m.mood is.own which

-- ---- what it shows

pub shows-goes : (c : Configuration) (a : Actor) (posts : List Post) → verdict_of (closing_of c (a.stand.past ++ posts) a.stand.at) ≡ Goes
    → ShowsOutcome Open (outcome_of c (actor_behind_stage c a (stand_behind c a.stand posts)))
shows-goes c a posts e = subst (ShowsOutcome Open) (sym (outcome-is c a posts Goes e)) tt

pub shows-done : (c : Configuration) (a : Actor) (posts : List Post) (states : List SlotState)
    → verdict_of (closing_of c (a.stand.past ++ posts) a.stand.at) ≡ Done
    → states ≡ slots_of_past (shape_in c) (contents_of (a.stand.past ++ posts))
    → ShowsOutcome (EndingDone states) (outcome_of c (actor_behind_stage c a (stand_behind c a.stand posts)))
unfolding stand_behind
shows-done c a posts states e are = subst (ShowsOutcome (EndingDone states)) (sym (outcome-is c a posts Done e)) are

pub shows-blamed : (c : Configuration) (a : Actor) (posts : List Post) (conviction : Conviction)
    → TellsConviction (verdict_of (closing_of c (a.stand.past ++ posts) a.stand.at)) conviction
    → ShowsOutcome (Blamed conviction) (outcome_of c (actor_behind_stage c a (stand_behind c a.stand posts)))
shows-blamed c a posts conviction tells = by_verdict (verdict_of (closing_of c (a.stand.past ++ posts) a.stand.at)) refl tells
  where
    by_verdict : (v : Verdict) → verdict_of (closing_of c (a.stand.past ++ posts) a.stand.at) ≡ v → TellsConviction v conviction
        → ShowsOutcome (Blamed conviction) (outcome_of c (actor_behind_stage c a (stand_behind c a.stand posts)))
    by_verdict Goes e is = absurd is
    by_verdict Done e is = absurd is
    by_verdict (Convicts t) e is =
        subst (ShowsOutcome (Blamed conviction)) (sym (outcome-is c a posts (Convicts t) e)) (is.accused_is, is.claim_is, is.bytes_are)

-- a round goes on behind a stage that is not a closing one
pub goes-elsewhere : (v : ClosedStage) → is_closing (shape_at v) v.stage ≡ false → verdict_of v ≡ Goes
unfolding verdict_of
goes-elsewhere v not = cond-false (is_closing (shape_at v) v.stage) _ Goes not
