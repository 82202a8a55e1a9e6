-- A done round holds each honest member's message.
use Rattle.std.proofs.Common.{arith, refl, zero, suc, All, Bool, Contains, List, None, Ok, Option, Some, ap, false, inl, inr, length, map, slice_get, slice_index_or, subst, sym, take, true, ◌≡◌, ◌∙◌, ◌⊎◌, ◌∷◌, ◌<◌, ◌≤◌, ◌+◌, ◌-◌, ◌||◌, [], ℕ, ◌≢◌}
use Rattle.std.proofs.lemmas.List.{length-map, take-take, take-map}
use Rattle.phase_message.specs.declared.stage.StageKind.TheVariants.{Pad as AtPad, Final as AtFinal, Confirm as AtConfirm}
use Rattle.phase_message.specs.declared.content.Body.TheVariants.{Pads}
use Rattle.bulk_descriptor.specs.declared.slot_state.SlotState.{SlotState}
use Rattle.bulk_descriptor.specs.declared.slot_state.SlotState.TheVariants.{Empty, Bad, Message, Mismatched}
use Rattle.wire_core.specs.declared.tag.Tag.TheVariants.{Message as OfMessage}
use Rattle.std.specs.Prelude.{if◌then◌else◌, bytes_eq, option_and_then, option_map, is_none}
use Rattle.stage_log.specs.Log.{before, contents_of, posts_kept}
use Rattle.phase_message.specs.Stages.{kind_of_stage}
use Rattle.round_spec.specs.Verdict.{Convicts, Done, Goes, is_bad, ClosedStage, Verdict, bad_pad, bad_pad_by, bad_pad_if, closing_body, first_bad_pad, is_held, past_at, shape_at, verdict_of}
use Rattle.round_spec.specs.Runs.{AreHonest, HonestRun, Run, run_after, IsConfiguration}
use Rattle.phase_message.specs.declared.content.Body.{Body}
use Rattle.bulk_descriptor.specs.Laws.{CanMake, pad_string}
use Rattle.round_spec.specs.Say.{Configuration, own_descriptor, own_key_seed, own_pad_seeds, pad_for, shape_in, own_item}
use Rattle.phase_message.specs.declared.content.Content.{Content}
use Rattle.bulk_descriptor.specs.Descriptor.{Description, descriptor_read, descriptor_text, made_descriptor, made_pads, own_pad, fits}
use Rattle.phase_message.specs.declared.header.Header.{Header}
use Rattle.accountability.specs.Agreed.{IsAgreedEnd, HasSeeds, OpensAt, item_kept}
use Rattle.phase_message.specs.Kinds.{IsBodyAt}
use Rattle.accountability.specs.Evidence.{IsKeptEnd}
use Rattle.conviction.proofs.OnePost.{IsRowOf}
use Rattle.accountability.proofs.Kept.{KeptIn, body-of_kind, content-reads, end-past, kept-in, said-in, whole-end}
use Rattle.phase_message.specs.declared.post.Post.{Post}
use Rattle.group_roster.specs.Roster.{Roster, shape_of_roster}
use Rattle.accountability.proofs.Rows.{RowIn, row-in, same_past}
use Rattle.phase_message.specs.Shape.{Shape}
use Rattle.round_spec.proofs.SealedBytes.{all-from, all-places}
use Rattle.round_spec.proofs.PastForms.{checks-read}
use Rattle.bulk_descriptor.proofs.FittingLemmas.{all_fit_message, made_is_of_grammar, pad_row-own, own_pad_fits}
use Rattle.stage_log.proofs.Pasts.{all_some-is, option_map-some}
use Rattle.accountability.proofs.Traces.{at-listed}
use Rattle.round_spec.specs.Slots.{bulk_place, by_member, descriptors_opened, items_opened, keys_said, pad_stage, pads_in, pads_sent, said_in, slots_of_past, final_stage, inner_place, key_said, seed_in}
use Rattle.conviction.proofs.Replays.{by-member, not_both}
use Rattle.std.proofs.lemmas.Slice.Eq.{bytes_eq-Decides}
use Rattle.conviction.proofs.BadPads.{can-make, pads-own, row_pads}
use Rattle.round_spec.proofs.Contained.{contains-filter_map-from, contains-flat-from, contains-cases, contains-here, contains-later, contains-nothing}
use Rattle.phase_message.specs.Offence.{content_read}
use Rattle.conviction.proofs.Bodies.{contents-same, row-header, row-reads}
use Rattle.conviction.proofs.OwnFronts.{descriptor-front, front, items-front}
use Rattle.std.specs.List.{enumerate_from, list_any}
use Rattle.bulk_descriptor.specs.SlotState.{first_unfit, joined_pads, joined_state, pads_for, slot_state, unless_bad, slot_states}
use Rattle.std.proofs.lemmas.Option.{get_or_from_slice_get, slice_get-map, slice_get_within, none-some, slice_get-get_or}
use Rattle.wire_core.specs.Hash.{hash_of, derived}
use Rattle.round_spec.proofs.Strings.{kept_is_read, run_has_strings}
use Rattle.std.proofs.lemmas.List.FromFn.{length-map-range_with_len, length-enumerate_from}
use Rattle.conviction.proofs.OwnRows.{own-speaks}
use Rattle.phase_message.proofs.StageCounts.{confirm-at}
use Rattle.phase_message.proofs.Table.{pad_is}
use Rattle.accountability.proofs.PadEvidence.{pads-speak, named-member}
use Rattle.conviction.proofs.Listed.{place-listed}
use Rattle.round_spec.proofs.Rows.{row_past}
use Rattle.conviction.proofs.Posts.{run-honest, run-roster}
use Rattle.phase_message.proofs.SlotBounds.{slot-bounds}
use Rattle.phase_message.specs.Slots.{slots_before}
use Rattle.phase_message.proofs.SlotLists.{slots_before-rises}
use Rattle.bulk_descriptor.proofs.SpellingLemmas.{spelled_are_read}
use Rattle.round_spec.specs.Premises.{strings_of_run, strings_of_runs}
use Rattle.conviction.proofs.Pasts.{take-get}
use Rattle.transcript_form.specs.declared.accusation.Accusation.{Accusation}
use Rattle.std.proofs.lemmas.List.Elements.{All-take}
use Rattle.round_spec.specs.Cases.{Ends, AllAgree, ByBadLog, ByBadPad, ByEquivocation, ByReplay, ByWrongSeed, Case, GoesOn, IsWhole, LeavesNoWork}
use Rattle.accountability.specs.Messages.{DoneHasMessages}
use Rattle.round_spec.specs.Result.{DoneWith, counted_part, ending_of, first_posts, least_ending, log_after, outcome_ended, result_of, stand_after, waiting_outcome}
use Rattle.wire_core.specs.Bytes.{IsBytes}
use Rattle.round_spec.specs.Course.{Others, Stand, closing_of, course_of, settled_log}
use Rattle.transcript_form.specs.declared.transcript.Transcript.{Transcript}
use Rattle.accusation.specs.Item.{accusation_by, empty_item, first_in, item_accusation, item_row}
use Rattle.transcript_form.specs.Accusation.{accusation_of, accusation_spelling}
use Rattle.transcript_form.proofs.Accusations.{accusation_of-spelling}
use Rattle.std.proofs.lemmas.Bool.{cond-true}
use Rattle.accountability.proofs.Endings.{ending-cases, outcome-cases}
use Rattle.shuffle_blame.proofs.Endings.{ends_at}
use Rattle.accountability.proofs.Ciphertexts.{first-seeds, place_opens, places_differ, run-opens}
use Rattle.wire_core.specs.Answers.{first_below, first_some}
use Rattle.wire_core.proofs.AnswerLemmas.{first_below-each, first_below-found, first_some-none_parts}
use Rattle.accusation.proofs.AccusationLemmas.{first_in_cases, item_holds, unfit_is}
use Rattle.accountability.proofs.Evidence.{firsts-check, stand-closed}
use Rattle.wire_core.proofs.ByteLists.{hash_bytes}
use Rattle.ring_encrypt.specs.Capsule.{key_of_seed}
use Rattle.round_spec.proofs.OwnItems.{opened-count}
use Rattle.std.specs.Option.{option_map_or}
use Rattle.round_spec.specs.Settled.{settled_run}
use Rattle.round_spec.proofs.Verdicts.{verdict_cases}
use Rattle.go_nogo.specs.Votes.{votes_agree}

-- ---- what a member made

-- the keys, and what a run made of them, by what the member kept
pub can-make-there : (run : Run) (shape : Shape) (past : List (List ℕ)) → HonestRun run → shape_in run.config ≡ shape
    → CanMake shape.members (keys_said shape past bulk_place) (own_pad_seeds run.config) run.config.number run.config.message
can-make-there run shape past honest shape_is =
    subst (λ (s : Shape). CanMake s.members (keys_said s past bulk_place) (own_pad_seeds run.config) run.config.number run.config.message)
    shape_is (can-make run past honest)

pub made-there : (run : Run) (shape : Shape) (past : List (List ℕ)) → shape_in run.config ≡ shape
    → own_descriptor run.config past ≡ descriptor_text (made_descriptor (keys_said shape past bulk_place) (own_pad_seeds run.config)
    run.config.number run.config.message)
unfolding own_descriptor
made-there run shape past shape_is =
    ap (λ (s : Shape). descriptor_text (made_descriptor (keys_said s past bulk_place) (own_pad_seeds run.config) run.config.number
    run.config.message)) shape_is

-- ---- the state of a slot

descriptors-at : (shape : Shape) (past : List (List ℕ)) (place : ℕ) (item : List ℕ) (d : Description)
    → slice_get (items_opened shape past 1) place ≡ Some (Some item)
    → descriptor_read shape.members item ≡ Some d → slice_get (descriptors_opened shape past) place ≡ Some (Some d)
unfolding descriptors_opened
descriptors-at shape past place item d at reads =
    slice_get-map (option_and_then (descriptor_read shape.members)) (items_opened shape past 1) place
    ∙ ap (option_map (option_and_then (descriptor_read shape.members))) at ∙ ap (λ (o : Option Description). Some o) reads

numbered-at : {A : Type 0} (xs : List A) (first k : ℕ) (x : A) → slice_get xs k ≡ Some x
    → slice_get (enumerate_from first xs) k ≡ Some (first + k, x)
numbered-at [] first k x e = absurd cc
numbered-at {A} (y ∷ ys) first zero x e =
    let same : y ≡ x = some-is y x e in
    let here : first ≡ first + 0 = omega arith in
    ap (λ (z : A). Some (first, z)) same ∙ ap (λ (n : ℕ). Some (n, x)) here
  where
    some-is : (a b : A) → (let told : A → Option A = λ z. Some z in told a ≡ told b) → a ≡ b
    some-is a b e = cc
numbered-at {A} (y ∷ ys) first (suc k) x e =
    let next : first + 1 + k ≡ first + suc k = omega arith in
    numbered-at ys (first + 1) k x e ∙ ap (λ (n : ℕ). Some (n, x)) next

state-at : (shape : Shape) (past : List (List ℕ)) (place : ℕ) (o : Option Description)
    → slice_get (descriptors_opened shape past) place ≡ Some o
    → slice_get (slots_of_past shape past) place ≡ Some (slot_state o (pads_for (pads_sent shape past) place))
unfolding slots_of_past
state-at shape past place o at =
    let zero_is : 0 + place ≡ place = omega arith in
    slice_get-map (λ (p : ℕ × Option Description). slot_state p.1 (pads_for (pads_sent shape past) p.0))
    (enumerate_from 0 (descriptors_opened shape past)) place
    ∙ ap (option_map (λ (p : ℕ × Option Description). slot_state p.1 (pads_for (pads_sent shape past) p.0)))
    (numbered-at (descriptors_opened shape past) 0 place o at)
    ∙ ap (λ (k : ℕ). Some (slot_state o (pads_for (pads_sent shape past) k))) zero_is

pub not-bad : (d : Description) (message : List ℕ) (first : ℕ) → joined_state d message ≡ Bad first → ⊥
unfolding joined_state
not-bad d message first e = by_test (bytes_eq (hash_of OfMessage (message ∷ [])) d.message_hash) e
  where
    by_test : (b : Bool) → (if b then Message message else Mismatched) ≡ Bad first → ⊥
    by_test true e = absurd cc
    by_test false e = absurd cc

-- a slot whose state is not bad has pads that all fit
pub fits-or-bad : (d : Description) (pads : List (List ℕ)) → ((first_unfit d pads ≡ None)
    × ((first : ℕ) → slot_state (Some d) pads ≡ Bad first → ⊥))
    ⊎ ((first : ℕ) × (first_unfit d pads ≡ Some first) × (slot_state (Some d) pads ≡ Bad first))
unfolding slot_state
fits-or-bad d pads = by_first (first_unfit d pads) refl
  where
    by_first : (o : Option ℕ) → first_unfit d pads ≡ o
        → ((first_unfit d pads ≡ None) × ((first : ℕ) → unless_bad (first_unfit d pads) (joined_state d (joined_pads pads)) ≡ Bad first
        → ⊥))
        ⊎ ((first : ℕ) × (first_unfit d pads ≡ Some first) × (unless_bad (first_unfit d pads) (joined_state d (joined_pads pads)) ≡ Bad
        first))
    by_first None e = inl (
      e,
      λ first bad. not-bad d (joined_pads pads) first
          (sym (ap (λ (o : Option ℕ). unless_bad o (joined_state d (joined_pads pads))) e) ∙ bad),
    )
    by_first (Some first) e = inr (first, e, ap (λ (o : Option ℕ). unless_bad o (joined_state d (joined_pads pads))) e)

none-bad : (slots : List SlotState) (place : ℕ) (state : SlotState) → list_any is_bad slots ≡ false → slice_get slots place ≡ Some state
    → is_bad state ≡ false
none-bad [] place state none at = absurd cc
none-bad (s ∷ slots) zero state none at =
    let same : s ≡ state = some-is s state at in
    ap is_bad (sym same) ∙ (or-none (is_bad s) (list_any is_bad slots) none).0
  where
    some-is : (a b : SlotState) → (let told : SlotState → Option SlotState = λ z. Some z in told a ≡ told b) → a ≡ b
    some-is a b e = cc

    or-none : (a b : Bool) → (a || b) ≡ false → (a ≡ false) × (b ≡ false)
    or-none false false e = (refl, refl)
    or-none false true e = absurd cc
    or-none true b e = absurd cc
none-bad (s ∷ slots) (suc place) state none at = none-bad slots place state (or-none (is_bad s) (list_any is_bad slots) none).1 at
  where
    or-none : (a b : Bool) → (a || b) ≡ false → (a ≡ false) × (b ≡ false)
    or-none false false e = (refl, refl)
    or-none false true e = absurd cc
    or-none true b e = absurd cc

-- ---- the pads of a slot

-- the log of a run has a kept post among its posts
kept-post : (run : Run) (later number : ℕ) (posts : List Post) (post : Post) → before run.log later ≡ Some posts
    → slice_get posts number ≡ Some post
    → Contains (posts_kept run.log.posts) post
kept-post run later number posts post kept at =
    let n : ℕ = slots_before run.log.shape later in
    let all : take n run.log.posts ≡ map (λ x. Some x) posts = all_some-is (take n run.log.posts) posts kept in
    let found = take-get run.log.posts n number (Some post)
    (ap (λ (xs : List (Option Post)). slice_get xs number) all ∙ slice_get-map (λ x. Some x) posts number
    ∙ ap (option_map (λ x. Some x)) at) in
    contains-filter_map-from (λ (kept : Option Post). kept) run.log.posts (Some post) post
    (at-listed run.log.posts number (Some post) found.1) refl

-- the pads that a member sent, as the own run keeps them
pub record PadsOf (c : Configuration) (delivered : List (List ℕ)) (posts : List Post) (member : ℕ) : Type 0 where
  pub kept : KeptIn (run_after c delivered) posts (pad_stage (shape_in c)) member
  pub pads : List (List ℕ)
  pub is : kept.checks.content.body ≡ Pads pads
  pub count : length pads ≡ (shape_in c).members
  pub strings : (pad : List ℕ) → Contains pads pad → Contains (strings_of_run (run_after c delivered)) (pad_string pad)

pads-row : (shape : Shape) (before : ℕ) (body : Body) → IsBodyAt shape before AtPad body → (pads : List (List ℕ)) × (body ≡ Pads pads)
    × (length pads ≡ shape.members)
pads-row shape before (Pads pads) is = (pads, refl, is.1)
pads-row shape before _ is = absurd is

pads-of : (c : Configuration) (delivered : List (List ℕ)) (stage member : ℕ) (posts : List Post)
    → IsKeptEnd (run_after c delivered) stage posts → (shape_in c).members + 4 < stage
    → 1 ≤ member → member ≤ (shape_in c).members → PadsOf c delivered posts member
pads-of c delivered stage member posts end late least most =
    let here : pad_stage (shape_in c) ≡ (shape_in c).members + 4 = refl in
    let k = kept-in (run_after c delivered) (stage + 1) (pad_stage (shape_in c)) member posts
    (end-past (run_after c delivered) stage posts end) (pads-speak (shape_in c) member least most) (omega (arith, here, late)) in
    let found = pads-row (shape_in c) (slots_before (shape_in c) (pad_stage (shape_in c))) k.checks.content.body
    (body-of_kind (run_after c delivered) posts (pad_stage (shape_in c)) member AtPad k (pad_is (shape_in c) (pad_stage (shape_in c)) refl))
    in
    let reads : content_read (run_after c delivered).log.shape k.post.content ≡ Ok k.checks.content =
    ap (λ (s : Shape). content_read s k.post.content) end.honest.shape
    ∙ content-reads (run_after c delivered) posts (pad_stage (shape_in c)) member k in
    let listed = kept_is_read (run_after c delivered) k.post k.checks.content
    (kept-post (run_after c delivered) (stage + 1) _ posts k.post end.kept k.at) reads in
    record {
      kept = k;
      pads = found.0;
      is = found.1;
      count = found.2;
      strings = λ pad there_is. (run_has_strings (run_after c delivered)).sent_pads k.checks.content found.0 pad listed found.1 there_is;
    }

-- the pad of a member for a slot
pad-at : (shape : Shape) (past : List (List ℕ)) (member place : ℕ) (pads : List (List ℕ)) → 1 ≤ member → member ≤ shape.members
    → said_in shape past (pad_stage shape) member ≡ Pads pads → slice_get (pads_for (pads_sent shape past) place) (member - 1) ≡ Some
    (slice_index_or pads place [])
unfolding pads_sent
pad-at shape past member place pads least most said =
    slice_get-map (λ (row : List (List ℕ)). slice_index_or row place [])
    (by_member shape (λ m. pads_in (said_in shape past (pad_stage shape) m))) (member - 1)
    ∙ ap (option_map (λ (row : List (List ℕ)). slice_index_or row place []))
    (by-member (λ m. pads_in (said_in shape past (pad_stage shape) m)) shape.members member least most)
    ∙ ap (λ (b : Body). Some (slice_index_or (pads_in b) place [])) said

pub pads-count : (shape : Shape) (past : List (List ℕ)) (place : ℕ) → length (pads_for (pads_sent shape past) place) ≡ shape.members
unfolding pads_sent
pads-count shape past place =
    length-map (by_member shape (λ m. pads_in (said_in shape past (pad_stage shape) m)))
    (λ (row : List (List ℕ)). slice_index_or row place [])
    ∙ length-map-range_with_len (λ m. pads_in (said_in shape past (pad_stage shape) m)) 1 shape.members

-- the strings of all pads of a slot are among those of the own run
slot-strings : (c : Configuration) (delivered : List (List ℕ)) (stage place : ℕ) (posts : List Post)
    → IsKeptEnd (run_after c delivered) stage posts → (shape_in c).members + 4 < stage
    → place < (shape_in c).members → All (λ pad. Contains (strings_of_run (run_after c delivered)) (pad_string pad))
    (pads_for (pads_sent (shape_in c) (contents_of posts)) place)
slot-strings c delivered stage place posts end late within =
    all-places (λ pad. Contains (strings_of_run (run_after c delivered)) (pad_string pad)) _
    (all-from (λ pad. Contains (strings_of_run (run_after c delivered)) (pad_string pad))
    (pads_for (pads_sent (shape_in c) (contents_of posts)) place) (λ k pad at. each k pad at))
  where
    pad-same : (a b : List ℕ) → (let told : List ℕ → Option (List ℕ) = λ z. Some z in told a ≡ told b) → a ≡ b
    pad-same a b e = cc

    each : (k : ℕ) (pad : List ℕ) → slice_get (pads_for (pads_sent (shape_in c) (contents_of posts)) place) k ≡ Some pad
        → Contains (strings_of_run (run_after c delivered)) (pad_string pad)
    each k pad at =
        let few = slice_get_within (pads_for (pads_sent (shape_in c) (contents_of posts)) place) k pad at in
        let count = pads-count (shape_in c) (contents_of posts) place in
        let next : k + 1 - 1 ≡ k = omega arith in
        let p = pads-of c delivered stage (k + 1) posts end late (omega arith) (omega (arith, few, count)) in
        let here = pad-at (shape_in c) (contents_of posts) (k + 1) place p.pads (omega arith) (omega (arith, few, count))
        (said-in (run_after c delivered) posts (pad_stage (shape_in c)) (k + 1) p.kept ∙ p.is) in
        let same = pad-same (slice_index_or p.pads place []) pad
        (sym here ∙ ap (slice_get (pads_for (pads_sent (shape_in c) (contents_of posts)) place)) next ∙ at) in
        subst (λ (x : List ℕ). Contains (strings_of_run (run_after c delivered)) (pad_string x)) same
        (p.strings (slice_index_or p.pads place []) (place-listed p.pads place (let many = p.count in omega (arith, many, within))))

-- ---- own slots fit

-- where everything that a run needs is at hand
pub record AtEnd (c : Configuration) (delivered : List (List ℕ)) (runs : List Run) (stage : ℕ) (posts : List Post) (run : Run) : Type 0
  where
    pub end : IsAgreedEnd c delivered runs stage posts
    pub late : (shape_in c).members + 4 < stage
    pub listed : Contains runs run
    pub round : run.config.round ≡ c.round

-- what a run has by them
pub record RunFacts (c : Configuration) (run : Run) : Type 0 where
  pub honest : HonestRun run
  pub shape_is : shape_in run.config ≡ shape_in c
  pub least : 1 ≤ run.config.number
  pub most : run.config.number ≤ (shape_in c).members

pub run-facts : (c : Configuration) (runs : List Run) (run : Run) → AreHonest c.roster runs → Contains runs run → RunFacts c run
run-facts c runs run honest listed =
    let its = run-honest c.roster runs run honest listed in
    let shape_is : shape_in run.config ≡ shape_in c = ap (λ (r : Roster). shape_of_roster r) (run-roster c.roster runs run honest listed) in
    let bounds = slot-bounds (shape_in run.config) 0 run.config.number (own-speaks run.config its.config) in
    record {
      honest = its;
      shape_is = shape_is;
      least = bounds.1;
      most = subst (λ (s : Shape). run.config.number ≤ s.members) shape_is
          bounds.2;
    }

-- the pads that a run sent are those that it has for the entries of the opened list
pub run-pads : (c : Configuration) (delivered : List (List ℕ)) (runs : List Run) (stage place : ℕ) (posts : List Post) (run : Run)
    → AtEnd c delivered runs stage posts run
    → slice_get (pads_for (pads_sent (shape_in c) (contents_of posts)) place) (run.config.number - 1)
    ≡ Some (slice_index_or (map (pad_for run.config (own_descriptor run.config (contents_of posts)))
    (items_opened (shape_in c) (contents_of posts) 1)) place [])
run-pads c delivered runs stage place posts run e =
    pad-at shape (contents_of posts) run.config.number place sent_pads.pads facts.least facts.most
    (said-in (run_after c delivered) posts (pad_stage shape) run.config.number sent_pads.kept ∙ sent_pads.is)
    ∙ ap (λ (pads : List (List ℕ)). Some (slice_index_or pads place [])) pads_are
  where
    shape : Shape
    shape = shape_in c

    facts : RunFacts c run
    facts = run-facts c runs run e.end.among.honest e.listed

    here : pad_stage shape ≡ shape.members + 4
    here = refl

    late : shape.members + 4 < stage
    late = e.late

    sent_pads : PadsOf c delivered posts run.config.number
    sent_pads = pads-of c delivered stage run.config.number posts e.end.kept e.late facts.least facts.most

    mine : RowIn c delivered run posts (pad_stage shape)
    mine = row-in c delivered runs (stage + 1) (pad_stage shape) posts run e.end.among e.end.kept.kept e.listed e.round
        (pads-speak shape run.config.number facts.least facts.most) (omega (arith, here, late))

    post-same : (a b : Post) → (let told : Post → Option Post = λ z. Some z in told a ≡ told b) → a ≡ b
    post-same a b e = cc

    one_post : mine.kept.post ≡ sent_pads.kept.post
    one_post = post-same mine.kept.post sent_pads.kept.post (sym mine.kept.at ∙ sent_pads.kept.at)

    read_is : mine.row.read ≡ sent_pads.kept.checks.content
    read_is = contents-same mine.row.read sent_pads.kept.checks.content (content_read shape mine.kept.post.content)
        (ap (λ (s : Shape). content_read s mine.kept.post.content) (sym facts.shape_is) ∙ row-reads run mine.kept.post.content mine.row)
        (ap (λ (p : Post). content_read shape p.content) one_post
        ∙ content-reads (run_after c delivered) posts (pad_stage shape) run.config.number sent_pads.kept)

    row_of : IsRowOf run (record { header = mine.row.read.header; body = Pads sent_pads.pads })
    row_of = record {
      text = mine.kept.post.content;
      row = mine.row;
      reads = ap (λ (b : Body). record { header = mine.row.read.header; body = b }) (ap (λ (x : Content). x.body) read_is ∙ sent_pads.is);
      at = ap (λ (h : Header). h.stage) (row-header run mine.kept.post.content mine.row);
    }

    past_is : contents_of mine.row.past ≡ front shape (contents_of posts) (pad_stage shape)
    past_is =
        let same = same_past c delivered runs stage posts run e.end e.listed e.round in
        let pasts = row_past run (pad_stage shape) (stage - 1) mine.row.past same.past (omega (arith, here, late))
        (subst (λ (s : ℕ). before run.log s ≡ Some mine.row.past) mine.at mine.row.before) same.kept in
        ap contents_of pasts ∙ sym (take-map (λ (p : Post). p.content) (slots_before run.log.shape (pad_stage shape)) same.past)
        ∙ ap (λ (s : Shape). take (slots_before s (pad_stage shape)) (contents_of same.past)) (facts.honest.shape ∙ facts.shape_is)
        ∙ ap (take (slots_before shape (pad_stage shape))) same.same
        ∙ take-take (slots_before shape (pad_stage shape)) (slots_before shape (stage - 1)) (contents_of posts)
        (slots_before-rises shape (pad_stage shape) (stage - 1) (omega (arith, here, late)))

    row_stage : mine.row.stage ≡ pad_stage (shape_in run.config)
    row_stage = mine.at ∙ ap (λ (s : Shape). s.members + 4) (sym facts.shape_is)

    own_there : List ℕ
    own_there = own_descriptor run.config (contents_of posts)

    row_same : row_pads run.config (contents_of mine.row.past) ≡ map (pad_for run.config own_there)
        (items_opened shape (contents_of posts) 1)
    row_same =
        ap (λ (p : List (List ℕ)). map (pad_for run.config (own_descriptor run.config p)) (items_opened (shape_in run.config) p 1)) past_is
        ∙ ap (λ (s : Shape). map (pad_for run.config (own_descriptor run.config (front shape (contents_of posts) (pad_stage shape))))
        (items_opened s (front shape (contents_of posts) (pad_stage shape)) 1)) facts.shape_is
        ∙ ap (λ (items : List (Option (List ℕ))). map (pad_for run.config
        (own_descriptor run.config (front shape (contents_of posts) (pad_stage shape)))) items)
        (items-front shape (contents_of posts) (pad_stage shape) (omega (arith, here)))
        ∙ ap (λ (own : List ℕ). map (pad_for run.config own) (items_opened shape (contents_of posts) 1))
        (ap (λ (s : Shape). own_descriptor run.config (front s (contents_of posts) (pad_stage shape))) (sym facts.shape_is)
        ∙ descriptor-front run.config (contents_of posts) (pad_stage shape) (omega (arith, here)))

    pads_are : sent_pads.pads ≡ map (pad_for run.config own_there) (items_opened shape (contents_of posts) 1)
    pads_are = pads-own run mine.row.read.header sent_pads.pads row_of facts.honest.config.enter.message row_stage ∙ row_same

-- for an entry that is its own descriptor it is its own pad
own-pad-there : (c : Configuration) (delivered : List (List ℕ)) (runs : List Run) (stage place : ℕ) (posts : List Post) (run : Run)
    → AtEnd c delivered runs stage posts run
    → slice_get (items_opened (shape_in c) (contents_of posts) 1) place ≡ Some (Some (own_descriptor run.config (contents_of posts)))
    → slice_get (pads_for (pads_sent (shape_in c) (contents_of posts)) place) (run.config.number - 1) ≡ Some
    (own_pad (own_pad_seeds run.config) run.config.number run.config.message)
own-pad-there c delivered runs stage place posts run e at =
    run-pads c delivered runs stage place posts run e
    ∙ ap (λ (pad : List ℕ). Some pad)
    (get_or_from_slice_get (map (pad_for run.config (own_descriptor run.config (contents_of posts)))
    (items_opened (shape_in c) (contents_of posts) 1)) place
    (pad_for run.config (own_descriptor run.config (contents_of posts)) (Some (own_descriptor run.config (contents_of posts)))) []
    (slice_get-map (pad_for run.config (own_descriptor run.config (contents_of posts))) (items_opened (shape_in c) (contents_of posts) 1)
    place
    ∙ ap (option_map (pad_for run.config (own_descriptor run.config (contents_of posts)))) at)
    ∙ pad_row-own (shape_in run.config).members (own_descriptor run.config (contents_of posts))
    (own_pad (own_pad_seeds run.config) run.config.number run.config.message) run.config.number
    (own_key_seed run.config bulk_place) (own_descriptor run.config (contents_of posts))
    ((bytes_eq-Decides (own_descriptor run.config (contents_of posts)) (own_descriptor run.config (contents_of posts))).1 refl))

-- ---- the message

unfoldable pub made-of : (run : Run) → Shape → List (List ℕ) → Description
made-of run shape past = made_descriptor (keys_said shape past bulk_place) (own_pad_seeds run.config) run.config.number run.config.message

-- the slot of a run
pub slot-there : (c : Configuration) (runs : List Run) (place : ℕ) (posts : List Post) (run : Run) → AreHonest c.roster runs
    → Contains runs run
    → slice_get (items_opened (shape_in c) (contents_of posts) 1) place ≡ Some (Some (own_descriptor run.config (contents_of posts)))
    → slice_get (slots_of_past (shape_in c) (contents_of posts)) place
    ≡ Some (slot_state (Some (made-of run (shape_in c) (contents_of posts))) (pads_for (pads_sent (shape_in c) (contents_of posts)) place))
unfolding made-of
slot-there c runs place posts run honest listed at =
    let facts = run-facts c runs run honest listed in
    let can = can-make-there run (shape_in c) (contents_of posts) facts.honest facts.shape_is in
    let reads : descriptor_read (shape_in c).members (own_descriptor run.config (contents_of posts)) ≡ Some
    (made-of run (shape_in c) (contents_of posts)) =
    ap (descriptor_read (shape_in c).members) (made-there run (shape_in c) (contents_of posts) facts.shape_is)
    ∙ spelled_are_read (shape_in c).members (made-of run (shape_in c) (contents_of posts))
    (made_is_of_grammar (shape_in c).members (keys_said (shape_in c) (contents_of posts) bulk_place) (own_pad_seeds run.config)
    run.config.number run.config.message can) in
    state-at (shape_in c) (contents_of posts) place (Some (made-of run (shape_in c) (contents_of posts)))
    (descriptors-at (shape_in c) (contents_of posts) place (own_descriptor run.config (contents_of posts))
    (made-of run (shape_in c) (contents_of posts)) at reads)

-- where all pads fit, it holds the message
fit-message : (c : Configuration) (delivered : List (List ℕ)) (runs : List Run) (stage place : ℕ) (posts : List Post) (run : Run)
    → AtEnd c delivered runs stage posts run
    → place < (shape_in c).members
    → first_unfit (made-of run (shape_in c) (contents_of posts)) (pads_for (pads_sent (shape_in c) (contents_of posts)) place) ≡ None
    → slot_state (Some (made-of run (shape_in c) (contents_of posts))) (pads_for (pads_sent (shape_in c) (contents_of posts)) place) ≡
    Message run.config.message
unfolding made-of
fit-message c delivered runs stage place posts run e within fit =
    let facts = run-facts c runs run e.end.among.honest e.listed in
    all_fit_message (strings_of_runs runs) (shape_in c).members (keys_said (shape_in c) (contents_of posts) bulk_place)
    (own_pad_seeds run.config) run.config.number run.config.message
    (pads_for (pads_sent (shape_in c) (contents_of posts)) place)
    (can-make-there run (shape_in c) (contents_of posts) facts.honest facts.shape_is) e.end.distinct
    (among-all runs run (made_pads (own_pad_seeds run.config) run.config.number run.config.message) e.listed
    (own-strings run (made_pads (own_pad_seeds run.config) run.config.number run.config.message)
    (λ pad there_is. (run_has_strings run).own_pads pad there_is)))
    (among-all runs (run_after c delivered) (pads_for (pads_sent (shape_in c) (contents_of posts)) place) e.end.among.own
    (slot-strings c delivered stage place posts e.end.kept e.late within))
    (pads-count (shape_in c) (contents_of posts) place) fit
  where
    among-all : (runs : List Run) (run : Run) (pads : List (List ℕ)) → Contains runs run
        → All (λ pad. Contains (strings_of_run run) (pad_string pad)) pads
        → All (λ pad. Contains (strings_of_runs runs) (pad_string pad)) pads
    among-all runs run pads listed all k d lt = contains-flat-from strings_of_run runs run (pad_string (slice_index_or pads k d)) listed
        (all k d lt)

    own-strings : (run : Run) (pads : List (List ℕ)) → ((pad : List ℕ) → Contains pads pad → Contains (strings_of_run run) (pad_string pad))
        → All (λ pad. Contains (strings_of_run run) (pad_string pad)) pads
    own-strings run pads each = all-places (λ pad. Contains (strings_of_run run) (pad_string pad)) pads
        (all-from (λ pad. Contains (strings_of_run run) (pad_string pad)) pads (λ k pad at. each pad (at-listed pads k pad at)))

-- ---- what a bad own slot comes to

-- a member accuses somebody where one of its own slots is bad
accuses : (own : List ℕ) (opened : List (Option (List ℕ))) (states : List SlotState) (seeds : List (List ℕ)) (place first : ℕ)
    → slice_get opened place ≡ Some (Some own)
    → slice_get states place ≡ Some (Bad first) → (a : Accusation) × (item_accusation own opened states seeds ≡ Some a)
unfolding item_accusation
accuses own opened states seeds place first at bad = by_first (first_below (length states) (accusation_by own opened states seeds)) refl
  where
    here : first_in own (slice_index_or opened place None) (slice_index_or states place Empty) ≡ Some first
    here =
        ap (λ (o : Option (List ℕ)). first_in own o (slice_index_or states place Empty))
        (get_or_from_slice_get opened place (Some own) None at)
        ∙ ap (first_in own (Some own)) (get_or_from_slice_get states place (Bad first) Empty bad)
        ∙ cond-true (bytes_eq own own) (Some first) None ((bytes_eq-Decides own own).1 refl)

    by_first : (o : Option Accusation) → first_below (length states) (accusation_by own opened states seeds) ≡ o
        → (a : Accusation) × (first_below (length states) (accusation_by own opened states seeds) ≡ Some a)
    by_first (Some a) e = (a, e)
    by_first None e = absurd (none-some _ (sym (first_below-each (accusation_by own opened states seeds) (length states) e place
        (slice_get_within states place (Bad first) bad))
        ∙ ap (option_map (λ (first : ℕ). record { slot = place + 1; member = first; seed = slice_index_or seeds (first - 1) [] })) here))

-- whom it accuses: in a slot of its own that is bad by this member, with the seed of that pad
record IsAccused (own : List ℕ) (opened : List (Option (List ℕ))) (states : List SlotState) (seeds : List (List ℕ)) (a : Accusation) : Type
    0 where
  pub place : ℕ
  pub within : place < length states
  pub opens : slice_index_or opened place None ≡ Some own
  pub bad : slice_index_or states place Empty ≡ Bad a.member
  pub seed : a.seed ≡ slice_index_or seeds (a.member - 1) []

accused-parts : (own : List ℕ) (opened : List (Option (List ℕ))) (states : List SlotState) (seeds : List (List ℕ)) (a : Accusation)
    → item_accusation own opened states seeds ≡ Some a
    → IsAccused own opened states seeds a
unfolding item_accusation
accused-parts own opened states seeds a e =
    let found = first_below-found (accusation_by own opened states seeds) (length states) a e in
    let parts = option_map-some (λ (first : ℕ). record { slot = found.0 + 1; member = first; seed = slice_index_or seeds (first - 1) [] })
    (first_in own (slice_index_or opened found.0 None) (slice_index_or states found.0 Empty)) a found.2 in
    let slot = first_in_cases own (slice_index_or opened found.0 None) (slice_index_or states found.0 Empty) parts.0 parts.1 in
    let member : parts.0 ≡ a.member = ap (λ (x : Accusation). x.member) parts.2 in
    record {
      place = found.0;
      within = found.1;
      opens = slot.0;
      bad = slot.1 ∙ ap (λ (m : ℕ). Bad m) member;
      seed = sym (ap (λ (x : Accusation). x.seed) parts.2) ∙ ap (λ (m : ℕ). slice_index_or seeds (m - 1) []) member;
    }

pub states-count : (shape : Shape) (past : List (List ℕ)) → length (slots_of_past shape past) ≡ length (items_opened shape past 1)
unfolding slots_of_past descriptors_opened
states-count shape past =
    length-map (enumerate_from 0 (map (option_and_then (descriptor_read shape.members)) (items_opened shape past 1)))
    (λ (p : ℕ × Option Description). slot_state p.1 (pads_for (pads_sent shape past) p.0))
    ∙ length-enumerate_from 0 (map (option_and_then (descriptor_read shape.members)) (items_opened shape past 1))
    ∙ length-map (items_opened shape past 1) (option_and_then (descriptor_read shape.members))

option-at : (xs : List (Option (List ℕ))) (k : ℕ) (x : List ℕ) → k < length xs → slice_index_or xs k None ≡ Some x
    → slice_get xs k ≡ Some (Some x)
option-at xs k x lt e = slice_get-get_or xs k None lt ∙ ap (λ (o : Option (List ℕ)). Some o) e

state-got : (xs : List SlotState) (k : ℕ) (x : SlotState) → k < length xs → slice_index_or xs k Empty ≡ x → slice_get xs k ≡ Some x
state-got xs k x lt e = slice_get-get_or xs k Empty lt ∙ ap (λ (s : SlotState). Some s) e

state-same : (a b : SlotState) → (let told : SlotState → Option SlotState = λ z. Some z in told a ≡ told b) → a ≡ b
state-same a b e = cc

bad-same : (a b : ℕ) → Bad a ≡ Bad b → a ≡ b
bad-same a b e = cc

-- it does not accuse itself
not-itself : (c : Configuration) (delivered : List (List ℕ)) (runs : List Run) (stage : ℕ) (posts : List Post) (run : Run) (a : Accusation)
    → AtEnd c delivered runs stage posts run
    → item_accusation (own_descriptor run.config (contents_of posts)) (items_opened (shape_in c) (contents_of posts) 1)
    (slots_of_past (shape_in c) (contents_of posts)) (own_pad_seeds run.config) ≡ Some a
    → a.member ≢ run.config.number
unfolding made-of
not-itself c delivered runs stage posts run a e accused same =
    let facts = run-facts c runs run e.end.among.honest e.listed in
    let is = accused-parts (own_descriptor run.config (contents_of posts)) (items_opened (shape_in c) (contents_of posts) 1)
    (slots_of_past (shape_in c) (contents_of posts)) (own_pad_seeds run.config) a accused in
    let within = is.within in
    let at = option-at (items_opened (shape_in c) (contents_of posts) 1) is.place (own_descriptor run.config (contents_of posts))
    (omega (arith, within, states-count (shape_in c) (contents_of posts))) is.opens in
    let bad : slot_state (Some (made-of run (shape_in c) (contents_of posts)))
    (pads_for (pads_sent (shape_in c) (contents_of posts)) is.place) ≡ Bad run.config.number =
    state-same _ _ (sym (slot-there c runs is.place posts run e.end.among.honest e.listed at)
    ∙ state-got (slots_of_past (shape_in c) (contents_of posts)) is.place (Bad a.member) is.within is.bad)
    ∙ ap (λ (m : ℕ). Bad m) same in
    elim (fits-or-bad (made-of run (shape_in c) (contents_of posts)) (pads_for (pads_sent (shape_in c) (contents_of posts)) is.place)) [
      | inl fit ↦ fit.1 run.config.number bad
      | inr (first, unfit, first_bad) ↦
          let number : first ≡ run.config.number = bad-same first run.config.number (sym first_bad ∙ bad) in
          let parts = unfit_is (made-of run (shape_in c) (contents_of posts))
          (pads_for (pads_sent (shape_in c) (contents_of posts)) is.place) first unfit in
          let pad = own-pad-there c delivered runs stage is.place posts run e at in
          let pad_is_there : slice_index_or (pads_for (pads_sent (shape_in c) (contents_of posts)) is.place) (first - 1) [] ≡ own_pad
          (own_pad_seeds run.config) run.config.number run.config.message =
          ap (λ (m : ℕ). slice_index_or (pads_for (pads_sent (shape_in c) (contents_of posts)) is.place) (m - 1) []) number
          ∙ get_or_from_slice_get (pads_for (pads_sent (shape_in c) (contents_of posts)) is.place) (run.config.number - 1) _ [] pad in
          not_both (fits (made-of run (shape_in c) (contents_of posts)) run.config.number
          (own_pad (own_pad_seeds run.config) run.config.number run.config.message))
          (own_pad_fits (shape_in c).members (keys_said (shape_in c) (contents_of posts) bulk_place) (own_pad_seeds run.config)
          run.config.number run.config.message
          (can-make-there run (shape_in c) (contents_of posts) facts.honest facts.shape_is))
          (ap (λ (m : ℕ). fits (made-of run (shape_in c) (contents_of posts)) m
          (own_pad (own_pad_seeds run.config) run.config.number run.config.message)) (sym number)
          ∙ ap (fits (made-of run (shape_in c) (contents_of posts)) first) (sym pad_is_there) ∙ parts.2)
    ]

table-count : (shape : Shape) (past : List (List ℕ)) → length (pads_sent shape past) ≡ shape.members
unfolding pads_sent
table-count shape past = length-map-range_with_len (λ m. pads_in (said_in shape past (pad_stage shape) m)) 1 shape.members

-- what it accuses holds
held-there : (c : Configuration) (runs : List Run) (posts : List Post) (run : Run) (a : Accusation) → AreHonest c.roster runs
    → Contains runs run
    → item_accusation (own_descriptor run.config (contents_of posts)) (items_opened (shape_in c) (contents_of posts) 1)
    (slots_of_past (shape_in c) (contents_of posts)) (own_pad_seeds run.config) ≡ Some a
    → a.member ≢ run.config.number → is_held (shape_in c) (contents_of posts) a ≡ true
unfolding is_held slots_of_past descriptors_opened
held-there c runs posts run a honest listed accused other =
    let facts = run-facts c runs run honest listed in
    ap is_none (item_holds (shape_in c).members (keys_said (shape_in c) (contents_of posts) bulk_place) (own_pad_seeds run.config)
    run.config.number run.config.message
    (items_opened (shape_in c) (contents_of posts) 1) (pads_sent (shape_in c) (contents_of posts)) a
    (can-make-there run (shape_in c) (contents_of posts) facts.honest facts.shape_is)
    (table-count (shape_in c) (contents_of posts))
    (ap (λ (own : List ℕ). item_accusation own (items_opened (shape_in c) (contents_of posts) 1)
    (slot_states (map (option_and_then (descriptor_read (shape_in c).members)) (items_opened (shape_in c) (contents_of posts) 1))
    (pads_sent (shape_in c) (contents_of posts))) (own_pad_seeds run.config))
    (sym (made-there run (shape_in c) (contents_of posts) facts.shape_is)) ∙ accused) other)

-- ---- the end of shuffle B

none-of : {A B : Type 0} (f : A → Option B) (xs : List A) (x : A) → first_some (map f xs) ≡ None → Contains xs x → f x ≡ None
none-of f [] x e there_is = absurd (contains-nothing x there_is)
none-of {A} {B} f (y ∷ ys) x e there_is =
    let parts = first_some-none_parts (f y) (map f ys) e in
    elim (contains-cases y ys x there_is) [
      | inl here ↦ ap f (sym here) ∙ parts.0
      | inr later ↦ none-of f ys x parts.1 later
    ]

none-held : (v : ClosedStage) (item : List ℕ) (a : Accusation) → first_bad_pad v ≡ None
    → Contains (items_opened (shape_at v) (past_at v) 2) (Some item) → accusation_of item ≡ Some a
    → is_held (shape_at v) (past_at v) a ≡ true → ⊥
unfolding first_bad_pad
none-held v item a none listed spelled held =
    none-some (bad_pad v a) (sym (none-of (bad_pad_by v) (items_opened (shape_at v) (past_at v) 2) (Some item) none listed)
    ∙ ap (option_and_then (bad_pad_if v)) spelled ∙ cond-true (is_held (shape_at v) (past_at v) a) (Some (bad_pad v a)) None held)

item-accuses : (run : Run) (shape : Shape) (past : List (List ℕ)) (own : List ℕ) (a : Accusation) → shape_in run.config ≡ shape
    → item_accusation own (items_opened shape past 1) (slots_of_past shape past) (own_pad_seeds run.config) ≡ Some a
    → own_item run.config own past 2 ≡ accusation_spelling a
unfolding own_item item_row
item-accuses run shape past own a shape_is accused =
    ap (λ (s : Shape). option_map_or accusation_spelling (item_accusation own (items_opened s past 1) (slots_of_past s past)
    (own_pad_seeds run.config)) empty_item) shape_is
    ∙ ap (λ (o : Option Accusation). option_map_or accusation_spelling o empty_item) accused

seed-long : (run : Run) (member : ℕ) → 1 ≤ member → member ≤ (shape_in run.config).members
    → length (slice_index_or (own_pad_seeds run.config) (member - 1) []) ≡ 32
seed-long run member least most =
    ap length (get_or_from_slice_get (own_pad_seeds run.config) (member - 1) _ []
    (by-member (derived run.config.fresh run.config.round 12) (shape_in run.config).members member least most))
    ∙ (hash_bytes _ _).0

-- the seeds of shuffle B
second-seeds : (c : Configuration) (delivered : List (List ℕ)) (runs : List Run) (stage : ℕ) (posts : List Post)
    → IsAgreedEnd c delivered runs stage posts
    → stage ≡ final_stage (shape_in c) 2 → kind_of_stage (shape_in c) stage ≡ Some (AtFinal 2) → HasSeeds c posts 2
second-seeds c delivered runs stage posts end at kind = record {
  votes = ap (votes_agree (shape_in c) (contents_of posts)) (sym at) ∙ end.agree.votes;
  seeds = λ member least most.
      ap (λ (s : ℕ). key_of_seed (seed_in (said_in (shape_in c) (contents_of posts) s member))) (sym at)
      ∙ (bytes_eq-Decides (key_of_seed (seed_in (closing_body (closing_of c posts stage) member)))
      (key_said (shape_in c) (contents_of posts) (inner_place 2) member)).0
      (end.agree.seeds 2 member kind (record { least = least; most = most }));
}

pub second-end : (shape : Shape) (stage shuffle : ℕ) → kind_of_stage shape stage ≡ Some (AtFinal shuffle) → shuffle ≢ 1 → (shuffle ≡ 2)
    × (stage ≡ final_stage shape 2)
second-end shape stage shuffle kind second = elim (ends_at shape stage shuffle kind) [
  | inl a ↦ absurd (second a.0)
  | inr b ↦ (let at = b.1 in let final : final_stage shape 2 ≡ shape.members + 7 + (shape.members + 2) = refl in
      (b.0, omega (arith, at, final)))
]

-- ---- own slots fit

pub confirm-late : (shape : Shape) (stage : ℕ) → kind_of_stage shape stage ≡ Some AtConfirm → shape.members + 5 < stage
confirm-late shape stage e = omega (arith, confirm-at shape stage e)

pub item-first : (c : Configuration) (own : List ℕ) (past : List (List ℕ)) → own_item c own past 1 ≡ own
unfolding own_item
item-first c own past = refl

own-slot-fits : (c : Configuration) (delivered : List (List ℕ)) (runs : List Run) (stage place : ℕ) (posts : List Post) (run : Run)
    → AtEnd c delivered runs stage posts run
    → LeavesNoWork (closing_of c posts stage)
    → slice_get (items_opened (shape_in c) (contents_of posts) 1) place ≡ Some (Some (own_descriptor run.config (contents_of posts)))
    → first_unfit (made-of run (shape_in c) (contents_of posts)) (pads_for (pads_sent (shape_in c) (contents_of posts)) place) ≡ None
own-slot-fits c delivered runs stage place posts run e work at =
    elim (fits-or-bad (made-of run (shape_in c) (contents_of posts)) (pads_for (pads_sent (shape_in c) (contents_of posts)) place)) [
      | inl fit ↦ fit.0
      | inr (first, unfit, bad) ↦ absurd (by_work first bad work)
    ]
  where
    shape : Shape
    shape = shape_in c

    facts : RunFacts c run
    facts = run-facts c runs run e.end.among.honest e.listed

    state : slice_get (slots_of_past shape (contents_of posts)) place
        ≡ Some (slot_state (Some (made-of run (shape_in c) (contents_of posts)))
        (pads_for (pads_sent (shape_in c) (contents_of posts)) place))
    state = slot-there c runs place posts run e.end.among.honest e.listed at

    by_accusation : (shuffle : ℕ) → kind_of_stage shape stage ≡ Some (AtFinal shuffle) → shuffle ≢ 1
        → first_bad_pad (closing_of c posts stage) ≡ None
        → (a : Accusation) × (item_accusation (own_descriptor run.config (contents_of posts)) (items_opened shape (contents_of posts) 1)
        (slots_of_past shape (contents_of posts)) (own_pad_seeds run.config) ≡ Some a) → ⊥
    by_accusation shuffle kind second none (a, accused) =
        let end_is = second-end shape stage shuffle kind second in
        let kind2 : kind_of_stage shape stage ≡ Some (AtFinal 2) = kind ∙ ap (λ (s : ℕ). Some (AtFinal s)) end_is.0 in
        let final : final_stage shape 2 ≡ shape.members + 7 + (shape.members + 2) = refl in
        let stage_is : stage ≡ shape.members + 7 + (shape.members + 2) = end_is.1 in
        let least = facts.least in
        let most = facts.most in
        let other = not-itself c delivered runs stage posts run a e accused in
        let held = held-there c runs posts run a e.end.among.honest e.listed accused other in
        let opens = run-opens c delivered runs stage 2 (stage - 1) posts run e.end e.listed e.round
        (contains-later 1 (2 ∷ []) 2 (contains-here 2 []))
        (second-seeds c delivered runs stage posts e.end end_is.1 kind2) (omega (arith, stage_is, final)) (omega (arith, stage_is))
        (λ not_first. omega (arith, stage_is, least, most))
        (sym (ap (kind_of_stage shape) end_is.1) ∙ kind2) in
        let item_is : item_kept posts run 2 ≡ accusation_spelling a = item-accuses run shape (contents_of posts)
        (own_descriptor run.config (contents_of posts)) a facts.shape_is accused in
        let is = accused-parts (own_descriptor run.config (contents_of posts)) (items_opened shape (contents_of posts) 1)
        (slots_of_past shape (contents_of posts)) (own_pad_seeds run.config) a accused in
        let member = named-member shape (contents_of posts) a held in
        let long : length a.seed ≡ 32 = ap length is.seed ∙ seed-long run a.member member.0
        (subst (λ (s : Shape). a.member ≤ s.members) (sym facts.shape_is) member.1) in
        none-held (closing_of c posts stage) (accusation_spelling a) a none
        (subst (λ (item : List ℕ). Contains (items_opened shape (contents_of posts) 2) (Some item)) item_is
        (at-listed (items_opened shape (contents_of posts) 2) opens.0 (Some (item_kept posts run 2)) opens.1.opens))
        (accusation_of-spelling a long) held

    by_work : (first : ℕ) → slot_state (Some (made-of run (shape_in c) (contents_of posts)))
        (pads_for (pads_sent (shape_in c) (contents_of posts)) place) ≡ Bad first
        → LeavesNoWork (closing_of c posts stage) → ⊥
    by_work first bad (inr (kind, none)) =
        not_both (is_bad (Bad first)) refl (none-bad (slots_of_past shape (contents_of posts)) place (Bad first) none
        (state ∙ ap (λ (s : SlotState). Some s) bad))
    by_work first bad (inl (shuffle, kind, second, none)) =
        by_accusation shuffle kind second none
        (accuses (own_descriptor run.config (contents_of posts)) (items_opened shape (contents_of posts) 1)
        (slots_of_past shape (contents_of posts)) (own_pad_seeds run.config) place first at
        (state ∙ ap (λ (s : SlotState). Some s) bad))

-- ---- done

pub items-count : (c : Configuration) (delivered : List (List ℕ)) (stage : ℕ) (posts : List Post)
    → IsKeptEnd (run_after c delivered) stage posts → (shape_in c).members + 4 < stage
    → length (items_opened (shape_in c) (contents_of posts) 1) ≡ (shape_in c).members
items-count c delivered stage posts end late =
    let past = end-past (run_after c delivered) stage posts end in
    opened-count c (stage + 1) posts (record {
      whole = past.long;
      reads = λ number slot post at there. checks-read c slot post
          (past.checks number slot post at there);
    }) (omega (arith, late))

-- where a run's message is
run-message : (c : Configuration) (delivered : List (List ℕ)) (runs : List Run) (stage : ℕ) (posts : List Post) (run : Run)
    → AtEnd c delivered runs stage posts run
    → LeavesNoWork (closing_of c posts stage)
    → (place : ℕ) × OpensAt c posts 1 run place × (slice_get (slots_of_past (shape_in c) (contents_of posts)) place ≡ Some
    (Message run.config.message))
run-message c delivered runs stage posts run e work =
    let found = place_opens c delivered runs stage posts run e.end e.late e.listed e.round in
    let opens : slice_get (items_opened (shape_in c) (contents_of posts) 1) found.0 ≡ Some
    (Some (own_descriptor run.config (contents_of posts))) =
    found.1.opens ∙ ap (λ (item : List ℕ). Some (Some item)) (item-first run.config (own_descriptor run.config (contents_of posts))
    (contents_of posts)) in
    let fit = own-slot-fits c delivered runs stage found.0 posts run e work opens in
    let within = slice_get_within (items_opened (shape_in c) (contents_of posts) 1) found.0 _ opens in
    let few : found.0 < (shape_in c).members = omega (arith, within, items-count c delivered stage posts e.end.kept e.late) in (
      found.0,
      found.1,
      slot-there c runs found.0 posts run e.end.among.honest e.listed opens
          ∙ ap (λ (s : SlotState). Some s) (fit-message c delivered runs stage found.0 posts run e few fit),
    )

-- the end of a done round
pub record IsDoneEnd (c : Configuration) (delivered : List (List ℕ)) (slots : List SlotState) : Type 0 where
  pub stage : ℕ
  pub posts : List Post
  pub kept : IsKeptEnd (run_after c delivered) stage posts
  pub agree : AllAgree (closing_of c posts stage)
  pub work : LeavesNoWork (closing_of c posts stage)
  pub slots_are : slots ≡ slots_of_past (shape_in c) (contents_of posts)

done-same : (x y : List SlotState) → DoneWith x ≡ DoneWith y → x ≡ y
done-same x y e = cc

done-verdict : (c : Configuration) (posts : List Post) (stage : ℕ) → IsWhole (closing_of c posts stage)
    → verdict_of (closing_of c posts stage) ≡ Done
    → AllAgree (closing_of c posts stage) × LeavesNoWork (closing_of c posts stage)
done-verdict c posts stage whole e = by_case (verdict_cases (closing_of c posts stage) whole)
  where
    never : (v : Verdict) (t : Transcript) → v ≡ Convicts t → v ≡ Done → ⊥
    never v t is done = (let both = sym is ∙ done in cc)

    goes-not : (v : Verdict) → v ≡ Goes → v ≡ Done → ⊥
    goes-not v is done = (let both = sym is ∙ done in cc)

    by_case : Case (closing_of c posts stage) (verdict_of (closing_of c posts stage)) → AllAgree (closing_of c posts stage)
        × LeavesNoWork (closing_of c posts stage)
    by_case (Ends agree work ends) = (agree, work)
    by_case (GoesOn agree work goes) = absurd (goes-not (verdict_of (closing_of c posts stage)) goes e)
    by_case (ByBadLog is) = absurd (never _ _ is.verdict_is e)
    by_case (ByEquivocation is) = absurd (never _ _ is.verdict_is e)
    by_case (ByWrongSeed is) = absurd (never _ _ is.verdict_is e)
    by_case (ByReplay is) = absurd (never _ _ is.verdict_is e)
    by_case (ByBadPad is) = absurd (never _ _ is.verdict_is e)

pub done-end : (c : Configuration) (delivered : List (List ℕ)) (slots : List SlotState) → IsConfiguration c → All IsBytes delivered
    → result_of c delivered ≡ DoneWith slots → IsDoneEnd c delivered slots
unfolding log_after
done-end c delivered slots is all e = elim (outcome-cases c delivered) [
  | inl open_end ↦ absurd (waits-not (first_posts c delivered) (stand_after c delivered) (sym e ∙ open_end.outcome_is))
  | inr ended ↦ by_verdict ended.count ended.verdict ended.least ended.ends (sym e ∙ ended.outcome_is)
]
  where
    waits-not : (others : Others) (stand : Stand) → DoneWith slots ≡ waiting_outcome c others stand → ⊥
    waits-not others stand w = absurd cc

    convicted-not : (v : Verdict) (t : Transcript) → v ≡ Convicts t → Done ≡ v → ⊥
    convicted-not v t is done = (let both = done ∙ is in cc)

    by_course : (part : List (List ℕ)) → All IsBytes part → run_after c delivered ≡ settled_run c (first_posts c part)
        → (stand_after c part).verdict ≡ Done
        → slots ≡ slots_of_past (shape_in c) (contents_of (stand_after c part).past) → IsDoneEnd c delivered slots
    by_course part bytes run_is done slots_are =
        let closed = stand-closed c (first_posts c part) Done is (firsts-check c part bytes) done (λ goes. (let both = goes in cc)) in
        let found = done-verdict c (course_of c (first_posts c part)).past closed.0
        (whole-end (settled_run c (first_posts c part)) closed.0 (course_of c (first_posts c part)).past closed.1.kept)
        closed.1.verdict_is in
        record {
          stage = closed.0;
          posts = (course_of c (first_posts c part)).past;
          kept = subst (λ (run : Run). IsKeptEnd run closed.0 (course_of c (first_posts c part)).past) (sym run_is) closed.1.kept;
          agree = found.0;
          work = found.1;
          slots_are = slots_are;
        }

    by_ending : (count : ℕ) → run_after c delivered ≡ settled_run c (first_posts c (take count delivered))
        → ending_of c (take count delivered) ≡ Some Done
        → slots ≡ slots_of_past (shape_in c) (contents_of (stand_after c (take count delivered)).past) → IsDoneEnd c delivered slots
    by_ending count run_is ends slots_are = elim (ending-cases c (take count delivered) Done ends) [
      | inl last ↦ elim last.shows [
        | inl malformed ↦ absurd (convicted-not _ _ refl malformed.verdict_is)
        | inr other ↦ absurd (convicted-not _ _ refl other.verdict_is)
      ]
      | inr course ↦ by_course (take count delivered) (All-take IsBytes count delivered all) run_is course.1 slots_are
    ]

    by_verdict : (count : ℕ) (verdict : Verdict) → least_ending c delivered ≡ Some (count, verdict)
        → ending_of c (take count delivered) ≡ Some verdict
        → DoneWith slots ≡ outcome_ended c (stand_after c (take count delivered)) verdict → IsDoneEnd c delivered slots
    by_verdict count Goes least ends w = absurd cc
    by_verdict count (Convicts t) least ends w = absurd cc
    by_verdict count Done least ends w =
        by_ending count (ap (λ (o : Option (ℕ × Verdict)). record
        { config = c; log = settled_log c (first_posts c (counted_part delivered o)) }) least) ends
        (done-same slots (slots_of_past (shape_in c) (contents_of (stand_after c (take count delivered)).past)) w)

pub work-late : (v : ClosedStage) → LeavesNoWork v → (shape_at v).members + 5 < v.stage
work-late v (inl (shuffle, kind, second, none)) = (let at = (second-end (shape_at v) v.stage shuffle kind second).1 in let final :
    final_stage (shape_at v) 2 ≡ (shape_at v).members + 7 + ((shape_at v).members + 2) = refl in omega (arith, at, final))
work-late v (inr (kind, none)) = confirm-late (shape_at v) v.stage kind

pub done_has_messages : DoneHasMessages
done_has_messages c delivered runs slots among distinct e = record {
  place = λ run listed its. (place-of run listed its).0;
  holds = λ run listed its. ap (λ (s : List SlotState). slice_get s (place-of run listed its).0) end.slots_are
      ∙ (place-of run listed its).2;
  apart = λ run other listed other_listed its others number.
      places_differ c runs end.posts 1 run other (place-of run listed its).0 (place-of other other_listed others).0 among.honest distinct
      listed other_listed (contains-here 1 (2 ∷ []))
      (first-seeds c delivered runs end.stage end.posts agreed late) number (place-of run listed its).1
      (place-of other other_listed others).1;
}
  where
    end : IsDoneEnd c delivered slots
    end = done-end c delivered slots among.config among.bytes e

    agreed : IsAgreedEnd c delivered runs end.stage end.posts
    agreed = record { among = among; distinct = distinct; kept = end.kept; agree = end.agree }

    late : (shape_in c).members + 4 < end.stage
    late = (let later = work-late (closing_of c end.posts end.stage) end.work in omega arith)

    place-of : (run : Run) → Contains runs run → run.config.round ≡ c.round
        → (place : ℕ) × OpensAt c end.posts 1 run place × (slice_get (slots_of_past (shape_in c) (contents_of end.posts)) place ≡ Some
        (Message run.config.message))
    place-of run listed its = run-message c delivered runs end.stage end.posts run
        (record { end = agreed; late = late; listed = listed; round = its }) end.work
