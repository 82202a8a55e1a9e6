-- What a plain member comes to after all of its deliveries.
use Rattle.std.proofs.Common.{◌≡◌, ℕ, zero, suc, ◌+◌, ◌<◌, ◌≤◌, Bool, false, List, [], ◌∷◌, ◌++◌, length, map, take, Option, Some, None, ap, sym, ◌∙◌, refl, subst, arith, inl, inr, append_assoc, append-nil}
use Rattle.std.specs.Prelude.{All, ◌&&◌, ◌||◌, ◌==◌, ◌^◌, filter, filter_map, fold, nat_lt, option_map, replicate, if◌then◌else◌}
use Rattle.std.specs.List.{range_with_len, slice_get}
use Rattle.std.specs.Option.{option_map_or}
use Rattle.std.proofs.lemmas.Bool.{and_parts, cases_Bool, cond-false, cond-true, eq-eqb, false_from_ne_true, ltb-true, or_cases}
use Rattle.std.proofs.lemmas.List.{get_or-take, length-take}
use Rattle.std.proofs.lemmas.List.Elements.{All-append}
use Rattle.wire_core.specs.Bytes.{IsBytes}
use Rattle.wire_core.proofs.AnswerLemmas.{first_below-none, first_below-some}
use Rattle.phase_message.specs.declared.post.Post.{Post}
use Rattle.phase_message.specs.declared.stage.Slot.{Slot}
use Rattle.phase_message.specs.declared.stage.StageKind.{StageKind}
use Rattle.phase_message.specs.Shape.{Shape}
use Rattle.phase_message.specs.Slots.{senders_in, slots_before, slots_of, stage_count}
use Rattle.phase_message.specs.Stages.{is_slot, kind_of_stage}
use Rattle.phase_message.proofs.SlotLists.{length-slots_of, slot_at-is, slot_at-place}
use Rattle.stage_log.specs.Table.{Log, is_missing, kept_in}
use Rattle.round_spec.specs.Say.{Configuration, shape_in}
use Rattle.round_spec.specs.Verdict.{Verdict}
use Rattle.round_spec.specs.Course.{Others, Stand, course_from, course_of, first_stand, has_spoken, is_open, own_post_at, own_posts, post_settled, settled_log}
use Rattle.round_spec.specs.Deliveries.{with_last}
use Rattle.round_spec.specs.Result.{Waiting, counted_part, delivered_counted, ending_at, ending_of, ending_verdict, first_posts, is_awaited, least_ending, log_after, outcome_by, outcome_ended, posts_of, result_of, senders_at, stand_after, waiting_outcome}
use Rattle.round_spec.specs.Waiting.{WaitsAtFirst}
use Rattle.round_spec.proofs.Deliveries.{ending-all, ending-none}
use Rattle.round_spec.specs.Runs.{HonestRun, own_slot, posts_said}
use Rattle.round_spec.specs.Settled.{settled_run}
use Rattle.round_spec.proofs.Settling.{settled-kept}
use Rattle.round_spec.specs.Honesty.{OthersCheck}
use Rattle.round_spec.proofs.Given.{first_posts_delivered, first_posts_name}
use Rattle.round_spec.proofs.Honesty.{members-least, run_after_is_honest}
use Rattle.round_spec.proofs.Waiting.{open_rounds_wait}
use Rattle.member_spec.specs.Actor.{Actor, actor_after, actor_at_start, first_actor, actor_behind_delivery}
use Rattle.member_spec.specs.Outcomes.{members_missing}
use Rattle.member_spec.specs.Plain.{ComesTo, EndsOnce, PlainComesToResult, PlainEndsOnce, PlainPostsAreSaid, PlainRunIsHonest}
use Rattle.member_spec.specs.Replies.{IsPlain, Replies, plain_replies}
use Rattle.member_spec.proofs.Agreeing.{Agrees, delivery-keeps}
use Rattle.member_spec.proofs.Ends.{own-ends}
use Rattle.member_spec.proofs.Hearing.{closed-ending, none-open, open-ending}
use Rattle.member_spec.proofs.Kept.{has_said, log_with, made_with, own_at, place_with}
use Rattle.member_spec.proofs.Moves.{filter-in, filter-none}
use Rattle.member_spec.proofs.Resting.{steps-rest, rests-log, rests-made, rests-stand}
use Rattle.member_spec.proofs.Says.{says-grammar}
use Rattle.member_spec.proofs.Steps.{Follows, Rests, SaysGrammar}

-- what the member has to say is of the grammar, whatever byte strings were delivered
abbrev pub AlwaysSaysGrammar : Configuration → Type 0
AlwaysSaysGrammar c = (part : List (List ℕ)) → All IsBytes part → SaysGrammar c (first_posts c part)

-- ---- the start

none-map : (f : Slot → Option Post) (slots : List Slot) → ((slot : Slot) → f slot ≡ None) → replicate (length slots) None ≡ map f slots
none-map f [] none = refl
none-map f (s ∷ slots) none = ap (λ (o : Option Post). o ∷ replicate (length slots) None) (sym (none s))
    ∙ ap (λ (os : List (Option Post)). f s ∷ os) (none-map f slots none)

nothing-said : (c : Configuration) (stage : ℕ) → own_at c first_stand false stage ≡ None
nothing-said c stage = cond-false (has_said c first_stand false stage) _ None
    (false_from_ne_true (has_said c first_stand false stage) (λ said.
    elim (or_cases (nat_lt stage 0) (false && (stage == 0)) (and_parts (is_slot (shape_in c) stage c.number) _ said).1) [
      | inl below ↦ (let lt = ltb-true stage 0 below in omega arith)
      | inr never ↦ absurd cc
    ]))

starts : (c : Configuration) → Follows c (first_posts c []) false 0 (first_actor c)
unfolding course_from first_posts log_with made_with
starts c = record {
  stand = refl;
  at = refl;
  log = ap (λ (posts : List (Option Post)). record { shape = shape_in c; posts = posts })
      (ap (λ (n : ℕ). replicate n None) (sym (length-slots_of (shape_in c)))
      ∙ none-map (place_with c (first_posts c []) first_stand false) (slots_of (shape_in c)) none);
  made = sym (filter-none (own_at c first_stand false) 0 (stage_count (shape_in c)) (λ stage le lt. nothing-said c stage));
  mood = refl;
  ending = refl;
  still = λ e. absurd cc;
}
  where
    none : (slot : Slot) → place_with c (first_posts c []) first_stand false slot ≡ None
    none slot = elim (cases_Bool (slot.sender == c.number)) [
      | inl own ↦ cond-true (slot.sender == c.number) (own_at c first_stand false slot.stage) (first_posts c [] slot) own
          ∙ nothing-said c slot.stage
      | inr other ↦ cond-false (slot.sender == c.number) (own_at c first_stand false slot.stage) (first_posts c [] slot) other
    ]

-- without deliveries only the course can end
nothing-ends : (c : Configuration) → ending_of c [] ≡ ending_verdict (stand_after c []).verdict
nothing-ends c = ending-none c [] refl

start-agrees : (replies : Replies) (c : Configuration) → IsPlain replies → SaysGrammar c (first_posts c [])
    → Agrees c [] (actor_at_start replies c)
unfolding Agrees least_ending
start-agrees replies c plain grammar = elim (cases_Bool (is_open (stand_after c []).verdict)) [
  | inl still ↦ inl (record {
    none = first_below-none (ending_at c []) 1 (λ j lt. ending-all c [] j (omega arith)
        ∙ ap (option_map (λ verdict. (j, verdict))) (nothing-ends c ∙ open-ending _ still));
    rests = rests;
  })
  | inr ended ↦ inr (record {
    ending = (0, (stand_after c []).verdict);
    least = first_below-some (ending_at c []) 1 0 (0, (stand_after c []).verdict) (omega arith) (λ j lt. absurd (omega (arith, lt)))
        (ending-all c [] 0 (omega arith)
        ∙ ap (option_map (λ verdict. (0, verdict))) (nothing-ends c ∙ closed-ending _ ended));
    within = omega arith;
    has = record {
      closed = ended;
      ending = rests.follows.ending ∙ ap (λ (s : Stand). s.verdict) (rests-stand c (first_posts c []) (actor_at_start replies c) rests);
      stand = rests-stand c (first_posts c []) (actor_at_start replies c) rests;
      log = rests-log c (first_posts c []) (actor_at_start replies c) rests;
      made = rests-made c (first_posts c []) (actor_at_start replies c) rests;
    };
  })
]
  where
    rests : Rests c (first_posts c []) (actor_at_start replies c)
    rests = steps-rest replies c (first_posts c []) false 0 (first_actor c) plain grammar (starts c)

-- ---- all deliveries

agrees-on : (replies : Replies) (c : Configuration) (front rest : List (List ℕ)) (a : Actor) → IsPlain replies → AlwaysSaysGrammar c
    → All IsBytes front → All IsBytes rest → Agrees c front a
    → Agrees c (front ++ rest) (fold (actor_behind_delivery replies c) a rest)
agrees-on replies c front [] a plain grammar before later is = subst (λ (d : List (List ℕ)). Agrees c d a) (sym (append-nil front)) is
agrees-on replies c front (bytes ∷ rest) a plain grammar before later is =
    let more : All IsBytes (with_last front bytes) = All-append IsBytes front (bytes ∷ []) before (first-all bytes rest later) in
    subst (λ (d : List (List ℕ)). Agrees c d (fold (actor_behind_delivery replies c) (actor_behind_delivery replies c a bytes) rest))
    (append_assoc front (bytes ∷ []) rest)
    (agrees-on replies c (with_last front bytes) rest (actor_behind_delivery replies c a bytes) plain grammar more
    (rest-all bytes rest later)
    (delivery-keeps replies c front bytes a plain (head-all bytes rest later) (grammar (with_last front bytes) more) is))
  where
    head-all : (x : List ℕ) (xs : List (List ℕ)) → All IsBytes (x ∷ xs) → IsBytes x
    head-all x xs all = all 0 [] (omega arith)

    first-all : (x : List ℕ) (xs : List (List ℕ)) → All IsBytes (x ∷ xs) → All IsBytes (x ∷ [])
    first-all x xs all zero d lt = all 0 d (omega arith)
    first-all x xs all (suc k) d lt = absurd (omega (arith, lt))

    rest-all : (x : List ℕ) (xs : List (List ℕ)) → All IsBytes (x ∷ xs) → All IsBytes xs
    rest-all x xs all k d lt = all (suc k) d (omega (arith, lt))

pub agrees-after : (replies : Replies) (c : Configuration) (delivered : List (List ℕ)) → IsPlain replies → AlwaysSaysGrammar c
    → All IsBytes delivered
    → Agrees c delivered (actor_after replies c delivered)
unfolding actor_after
agrees-after replies c delivered plain grammar are =
    agrees-on replies c [] delivered (actor_at_start replies c) plain grammar none are (start-agrees replies c plain (grammar [] none))
  where
    none : All IsBytes []
    none k d lt = absurd (omega (arith, lt))

-- ---- what it comes to

filter-members : (f g : ℕ → Bool) (xs : List ℕ) → ((i x : ℕ) → slice_get xs i ≡ Some x → f x ≡ g x) → filter f xs ≡ filter g xs
filter-members f g [] same = refl
filter-members f g (x ∷ xs) same = ap (λ (b : Bool). if b then x ∷ filter f xs else filter f xs) (same 0 x refl)
    ∙ ap (λ (ys : List ℕ). if g x then x ∷ ys else ys) (filter-members f g xs (λ i y e. same (suc i) y e))

-- where the round is open it waits for those that the result names
waits-same : (c : Configuration) (others : Others) (a : Actor) → WaitsAtFirst c others → a.log ≡ settled_log c others
    → a.stand ≡ course_of c others
    → Waiting a.stand.at (members_missing c a) ≡ waiting_outcome c others (course_of c others)
waits-same c others a waits log stand =
    ap (λ (s : Stand). Waiting s.at (filter (is_missing a.log s.at) (senders_at c s.at))) stand
    ∙ ap (λ (l : Log). Waiting (course_of c others).at (filter (is_missing l (course_of c others).at)
    (senders_at c (course_of c others).at))) log
    ∙ ap (λ (xs : List ℕ). Waiting (course_of c others).at xs) (by_kind (kind_of_stage (shape_in c) (course_of c others).at) refl)
  where
    at : ℕ
    at = (course_of c others).at

    by_kind : (o : Option StageKind) → kind_of_stage (shape_in c) (course_of c others).at ≡ o
        → filter (is_missing (settled_log c others) (course_of c others).at)
        (option_map_or (senders_in (shape_in c)) (kind_of_stage (shape_in c) (course_of c others).at) [])
        ≡ filter (is_awaited c others (course_of c others).at) (option_map_or (senders_in (shape_in c))
        (kind_of_stage (shape_in c) (course_of c others).at) [])
    by_kind None e = ap (λ (o : Option StageKind). filter (is_missing (settled_log c others) (course_of c others).at)
        (option_map_or (senders_in (shape_in c)) o [])) e
        ∙ sym (ap (λ (o : Option StageKind). filter (is_awaited c others (course_of c others).at)
        (option_map_or (senders_in (shape_in c)) o [])) e)
    by_kind (Some kind) e = ap (λ (o : Option StageKind). filter (is_missing (settled_log c others) (course_of c others).at)
        (option_map_or (senders_in (shape_in c)) o [])) e
        ∙ filter-members (is_missing (settled_log c others) (course_of c others).at) (is_awaited c others (course_of c others).at)
        (senders_in (shape_in c) kind)
        (λ i x there. waits.missing x (slot_at-is (shape_in c) (slots_before (shape_in c) (course_of c others).at + i)
        (record { stage = (course_of c others).at; sender = x })
        (slot_at-place (shape_in c) (course_of c others).at i x kind e there)).0)
        ∙ sym (ap (λ (o : Option StageKind). filter (is_awaited c others (course_of c others).at)
        (option_map_or (senders_in (shape_in c)) o [])) e)

-- a member that agrees has come to the result
pub agrees-comes : (c : Configuration) (delivered : List (List ℕ)) (a : Actor) → c.round < 2 ^ 64 → 1 ≤ (shape_in c).members
    → All IsBytes delivered
    → Agrees c delivered a → ComesTo c delivered a
unfolding Agrees result_of posts_of log_after
agrees-comes c delivered a small least are (inl is) =
    let firsts : Others = first_posts c delivered in
    let still = none-open c delivered is.none in
    let stand = rests-stand c firsts a is.rests in
    let log = rests-log c firsts a is.rests in
    let waits = open_rounds_wait c firsts small least (first_posts_name c delivered are) still in
    record {
      outcome =
          cond-true (is_open a.ending) (Waiting a.stand.at (members_missing c a)) (outcome_ended c a.stand a.ending)
          (ap is_open (is.rests.follows.ending
          ∙ ap (λ (s : Stand). s.verdict) stand) ∙ still)
          ∙ waits-same c firsts a waits log stand ∙ sym (ap (outcome_by c delivered) is.none);
      posts = rests-made c firsts a is.rests ∙ sym (ap (λ (o : Option (ℕ × Verdict)). own_posts c
          (stand_after c (counted_part delivered o))) is.none);
      log = log ∙ sym (ap (λ (o : Option (ℕ × Verdict)). settled_log c (first_posts c (counted_part delivered o))) is.none);
    }
agrees-comes c delivered a small least are (inr is) = record {
  outcome =
      cond-false (is_open a.ending) (Waiting a.stand.at (members_missing c a)) (outcome_ended c a.stand a.ending)
      (ap is_open is.has.ending ∙ is.has.closed)
      ∙ ap (outcome_ended c a.stand) is.has.ending ∙ ap (λ (s : Stand). outcome_ended c s is.ending.1) is.has.stand
      ∙ sym (ap (outcome_by c delivered) is.least);
  posts = is.has.made ∙ sym (ap (λ (o : Option (ℕ × Verdict)). own_posts c (stand_after c (counted_part delivered o))) is.least);
  log = is.has.log ∙ sym (ap (λ (o : Option (ℕ × Verdict)). settled_log c (first_posts c (counted_part delivered o))) is.least);
}

-- ---- laws

pub honest_is_plain : IsPlain plain_replies
honest_is_plain = record {
  descriptor = λ own. refl;
  speech = λ stage bytes log. refl;
  speech_after = λ own stage bytes log. refl;
}

All-take : (k : ℕ) (xs : List (List ℕ)) → All IsBytes xs → All IsBytes (take k xs)
All-take k xs all i d lt = (let long = length-take k xs in subst IsBytes (sym (get_or-take k xs i d (omega (arith, long))))
    (all i d (omega (arith, long))))

part-bytes : (delivered : List (List ℕ)) (o : Option (ℕ × Verdict)) → All IsBytes delivered → All IsBytes (counted_part delivered o)
part-bytes delivered None are = are
part-bytes delivered (Some ending) are = All-take ending.0 delivered are

pub counted-bytes : (c : Configuration) (delivered : List (List ℕ)) → All IsBytes delivered → All IsBytes (delivered_counted c delivered)
counted-bytes c delivered are = part-bytes delivered (least_ending c delivered) are

pub plain_comes_to_result : PlainComesToResult
plain_comes_to_result replies c delivered plain is are =
    agrees-comes c delivered (actor_after replies c delivered) is.round (members-least c is) are
    (agrees-after replies c delivered plain (says-grammar c is) are)

pub plain_run_is_honest : PlainRunIsHonest
plain_run_is_honest replies c delivered plain is are =
    subst (λ (log : Log). HonestRun (record { config = c; log = log }))
    (sym (plain_comes_to_result replies c delivered plain is.enter are).log) (run_after_is_honest c delivered is are)

pub plain_ends_once : PlainEndsOnce
unfolding posts_of
plain_ends_once replies c delivered shuffle plain is are =
    let comes = plain_comes_to_result replies c delivered plain is are in
    let counted : List (List ℕ) = delivered_counted c delivered in
    let others : Others = first_posts c counted in
    let check : OthersCheck c others = λ slot post e. (first_posts_delivered c counted slot post (counted-bytes c delivered are) e).checks
    in
    subst (λ (made : List Post). EndsOnce c made shuffle) (sym comes.posts) (own-ends c others shuffle is check)

-- the own posts that a settled log keeps are those of its course
said-there : (c : Configuration) (others : Others) (stage : ℕ)
    → own_post_at c (course_of c others) stage ≡ kept_in (settled_log c others) (own_slot (settled_run c others) stage)
unfolding post_settled settled_log
said-there c others stage = elim (cases_Bool (is_slot (shape_in c) stage c.number)) [
  | inl speaks ↦ sym (settled-kept c others (own_slot (settled_run c others) stage) speaks
      ∙ cond-true (c.number == c.number) (own_post_at c (course_of c others) stage) _ (eq-eqb c.number c.number refl))
  | inr silent ↦ cond-false (has_spoken c (course_of c others) stage) _ None
      (ap (λ (b : Bool). b && (nat_lt stage (course_of c others).at ||
      (is_open (course_of c others).verdict && (stage == (course_of c others).at)))) silent)
      ∙ sym (cond-false (is_slot (shape_in c) stage c.number) _ None silent)
]

shape-same : (c : Configuration) (others : Others) → shape_in c ≡ (settled_log c others).shape
unfolding settled_log
shape-same c others = refl

said-all : (c : Configuration) (others : Others) → own_posts c (course_of c others) ≡ posts_said (settled_run c others)
unfolding own_posts
said-all c others = filter-in (own_post_at c (course_of c others))
    (λ stage. kept_in (settled_log c others) (own_slot (settled_run c others) stage)) 0 (stage_count (shape_in c))
    (λ stage le lt. said-there c others stage)
    ∙ ap (λ (n : ℕ). filter_map (λ stage. kept_in (settled_log c others) (own_slot (settled_run c others) stage)) (range_with_len 0 n))
    (count-same c others)
  where
    count-same : (c : Configuration) (others : Others) → stage_count (shape_in c) ≡ stage_count (settled_log c others).shape
    count-same c others = ap (λ (s : Shape). stage_count s) (shape-same c others)

pub plain_posts_are_said : PlainPostsAreSaid
unfolding posts_of log_after
plain_posts_are_said replies c delivered plain is are =
    let comes = plain_comes_to_result replies c delivered plain is are in
    comes.posts ∙ said-all c (first_posts c (delivered_counted c delivered))
    ∙ sym (ap (λ (log : Log). posts_said (record { config = c; log = log })) comes.log)
