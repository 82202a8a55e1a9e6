-- Where all members are honest and all was delivered up to where the checks are closed, the round is done.
use Rattle.std.proofs.Common.{arith, refl, zero, suc, All, Bool, Contains, List, Option, Some, ap, eqb-true, false, inl, inr, length, map, slice_get, slice_index_or, subst, sym, true, ◌≡◌, ◌∙◌, ◌∷◌, ◌<◌, ◌≤◌, ◌+◌, ◌-◌, ◌||◌, ◌==◌, [], ℕ, None, take}
use Rattle.std.specs.List.{IsDistinct, list_any, AllByRecursion, range_with_len}
use Rattle.std.proofs.lemmas.Map.Steps.{length-le_from_distinct_below}
use Rattle.std.proofs.lemmas.Map.Views.{Contains-from_any}
use Rattle.std.proofs.lemmas.List.{take_all}
use Rattle.phase_message.specs.declared.stage.StageKind.TheVariants.{Final as AtFinal, Confirm as AtConfirm}
use Rattle.bulk_descriptor.specs.declared.slot_state.SlotState.{SlotState}
use Rattle.bulk_descriptor.specs.declared.slot_state.SlotState.TheVariants.{Empty, Bad, Message, Mismatched}
use Rattle.transcript_form.specs.declared.claim.Claim.TheVariants.{Pad}
use Rattle.phase_message.specs.declared.content.Body.TheVariants.{Keys as KeysBody}
use Rattle.stage_log.specs.Log.{before, contents_of}
use Rattle.round_spec.specs.Verdict.{Convicts, Done, Goes, is_bad, Verdict, verdict_of}
use Rattle.accountability.specs.AllHonest.{AllHaveRuns, AllDelivered, AllHonest}
use Rattle.accountability.proofs.Messages.{AtEnd, RunFacts, can-make-there, fits-or-bad, item-first, items-count, made-of, made-there, pads-count, run-facts, run-pads, slot-there, states-count, confirm-late, done_has_messages, second-end}
use Rattle.phase_message.specs.declared.content.Body.{Body}
use Rattle.round_spec.specs.Say.{Configuration, own_descriptor, own_key_seed, own_pad_seeds, pad_for, shape_in}
use Rattle.accountability.specs.Agreed.{IsAgreedEnd, OpensAt}
use Rattle.ring_encrypt.specs.Opening.{IsMessage}
use Rattle.round_spec.specs.Rows.{IsRunOf}
use Rattle.conviction.proofs.OwnRows.{OwnSaid, own-body, own-said, own-speaks}
use Rattle.phase_message.specs.declared.post.Post.{Post}
use Rattle.round_spec.specs.Runs.{Run, run_after}
use Rattle.phase_message.specs.Shape.{Shape}
use Rattle.round_spec.proofs.SealedBytes.{all-map, all-places}
use Rattle.round_spec.specs.Slots.{bulk_place, items_opened, key_said, keys_in, keys_said, pads_sent, said_in, slots_of_past, final_stage}
use Rattle.conviction.proofs.Replays.{by-member, not_both}
use Rattle.std.proofs.lemmas.Bool.{cases_Bool, cases_eq, false_from_ne_true, cases_lt}
use Rattle.round_spec.proofs.Contained.{contains-cases, contains-here, contains-later, contains-nothing}
use Rattle.wire_core.specs.Hash.{derived}
use Rattle.bulk_descriptor.specs.Descriptor.{descriptor_text, fits, made_descriptor, own_pad, pad_row}
use Rattle.accountability.proofs.Ciphertexts.{first-seeds, place_opens, places_differ}
use Rattle.std.proofs.lemmas.Option.{get_or_from_slice_get, slice_get-map, slice_get_within}
use Rattle.wire_core.proofs.ByteLists.{hash_bytes}
use Rattle.bulk_descriptor.proofs.FittingLemmas.{honest_pad_fits}
use Rattle.ring_encrypt.specs.Capsule.{key_of_seed}
use Rattle.conviction.proofs.OnePost.{keys-are, own_keys}
use Rattle.phase_message.specs.Stages.{kind_of_stage, vote_of}
use Rattle.accountability.proofs.Kept.{member-there, closing-kind, transcript-same, whole-end}
use Rattle.std.specs.Prelude.{option_map, is_some, option_and_then}
use Rattle.bulk_descriptor.specs.SlotState.{pads_for}
use Rattle.round_spec.proofs.Rows.{run_unique}
use Rattle.conviction.proofs.OwnFronts.{said-front}
use Rattle.accountability.proofs.Rows.{same_past}
use Rattle.accusation.proofs.AccusationLemmas.{unfit_is}
use Rattle.std.proofs.lemmas.List.Elements.{All-take}
use Rattle.round_spec.specs.Cases.{AllAgree, ByBadLog, ByBadPad, ByEquivocation, ByReplay, ByWrongSeed, Case, Ends, GoesOn, LeavesWork}
use Rattle.round_spec.specs.Result.{Blamed, DoneWith, Outcome, Waiting, counted_part, first_posts, least_ending, log_after, outcome_ended, result_of, stand_after}
use Rattle.accountability.specs.Messages.{HasEachMessage}
use Rattle.accountability.specs.Faulty.{IsAmong}
use Rattle.accountability.proofs.Faulty.{IsBlame, blame-of}
use Rattle.wire_core.specs.Bytes.{IsBytes}
use Rattle.accountability.specs.Evidence.{IsKeptEnd}
use Rattle.accountability.specs.Naming.{IsMissed, NamesMissed}
use Rattle.round_spec.specs.Reached.{IsReached}
use Rattle.round_spec.specs.Premises.{NoRunsCollide}
use Rattle.round_spec.specs.Course.{Others, Stand, closing_of, course_of, is_open, settled_log}
use Rattle.phase_message.specs.declared.stage.StageKind.{StageKind}
use Rattle.transcript_form.specs.declared.transcript.Transcript.{Transcript}
use Rattle.stage_log.proofs.Fronts.{before-front}
use Rattle.round_spec.proofs.Settling.{before-settled, reached-end}
use Rattle.phase_message.proofs.Table.{confirm_is}
use Rattle.accountability.proofs.Evidence.{convicts-not, firsts-check, stand-closed}
use Rattle.accountability.proofs.Endings.{ending-cases, outcome-cases}
use Rattle.accountability.proofs.AllHonest.{nothing_but_pads}
use Rattle.round_spec.proofs.Reached.{open-goes}
use Rattle.accountability.proofs.Naming.{open_names}
use Rattle.accountability.proofs.Unheard.{file-heard}
use Rattle.round_spec.proofs.Honesty.{run_after_is_honest}
use Rattle.round_spec.specs.Settled.{settled_run}
use Rattle.phase_message.proofs.SlotBounds.{slot-bounds}
use Rattle.phase_message.specs.Slots.{slots_before, stage_count}
use Rattle.round_spec.proofs.Verdicts.{verdict_cases}

-- ---- as many places as members

-- places of the members from 1 to some number: distinct, each of one of them
record Places (P : ℕ → ℕ → Type 0) (count : ℕ) : Type 0 where
  pub list : List ℕ
  pub long : length list ≡ count
  pub of : (place : ℕ) → Contains list place → (member : ℕ) × (1 ≤ member) × (member ≤ count) × P member place
  pub distinct : IsDistinct (λ (a : ℕ) (b : ℕ). a == b) list

apart-all : (place : ℕ) (list : List ℕ) → ((other : ℕ) → Contains list other → place ≡ other → ⊥)
    → AllByRecursion (λ (y : ℕ). (place == y) ≡ false) list
apart-all place [] apart = tt
apart-all place (x ∷ xs) apart = (
  false_from_ne_true (place == x) (λ same. apart x (contains-here x xs) (eqb-true place x same)),
  apart-all place xs
      (λ other listed. apart other (contains-later x xs other listed)),
)

places-of : (P : ℕ → ℕ → Type 0) (count : ℕ) → ((member : ℕ) → 1 ≤ member → member ≤ count → (place : ℕ) × P member place)
    → ((a b place : ℕ) → P a place → P b place → a ≡ b) → Places P count
unfolding IsDistinct
places-of P zero each one = record { list = []; long = refl; of = λ place listed. absurd (contains-nothing place listed); distinct = tt }
places-of P (suc n) each one = more (places-of P n (λ member least most. each member least (omega (arith, most))) one)
  where
    last : (place : ℕ) × P (suc n) place
    last = each (suc n) (omega arith) (omega arith)

    more : Places P n → Places P (suc n)
    more fewer = record {
      list = last.0 ∷ fewer.list;
      long = ap suc fewer.long;
      of = λ place listed. elim (contains-cases last.0 fewer.list place listed) [
        | inl here ↦ (suc n, omega arith, omega arith, subst (P (suc n)) here last.1)
        | inr later ↦ (let found = fewer.of place later in let most = found.2 in (found.0, found.1, omega (arith, most), found.3))
      ];
      distinct = (
        apart-all last.0 fewer.list (λ other listed same. (
            let found = fewer.of other listed in
            let most = found.2 in
            let numbers : suc n ≡ found.0 = one (suc n) found.0 other (subst (P (suc n)) same last.1) found.3 in
            omega (arith, most, numbers))),
        fewer.distinct,
      );
    }

-- where these are below the number, each number below it is one of them
each-place : (P : ℕ → ℕ → Type 0) (count : ℕ) → Places P count → ((member place : ℕ) → P member place → place < count) → (place : ℕ)
    → place < count
    → (member : ℕ) × (1 ≤ member) × (member ≤ count) × P member place
unfolding IsDistinct
each-place P count places under place lt = elim (cases_Bool (list_any (λ (y : ℕ). place == y) places.list)) [
  | inl there_is ↦ places.of place (Contains-from_any (λ x y same. eqb-true x y same) place places.list there_is)
  | inr none ↦ absurd (
      let long = length-le_from_distinct_below (place ∷ places.list) count (none-apart places.list none, places.distinct)
      (λ q listed. within q listed) in
      let many = places.long in
      omega (arith, long, many))
]
  where
    none-apart : (xs : List ℕ) → list_any (λ (y : ℕ). place == y) xs ≡ false → AllByRecursion (λ (y : ℕ). (place == y) ≡ false) xs
    none-apart [] e = tt
    none-apart (x ∷ xs) e = (let parts = or-none (place == x) (list_any (λ (y : ℕ). place == y) xs) e in (parts.0, none-apart xs parts.1))
      where
        or-none : (a b : Bool) → (a || b) ≡ false → (a ≡ false) × (b ≡ false)
        or-none false false e = (refl, refl)
        or-none false true e = absurd cc
        or-none true b e = absurd cc

    within : (q : ℕ) → list_any (λ (y : ℕ). q == y) (place ∷ places.list) ≡ true → q < count
    within q listed = elim (contains-cases place places.list q (Contains-from_any (λ x y same. eqb-true x y same) q (place ∷ places.list)
        listed)) [
          | inl here ↦ omega (arith, here, lt)
          | inr later ↦ (let found = places.of q later in under found.0 q found.3)
        ]

-- ---- each slot is that of a run

-- a member's run stands at a place of the last list of shuffle A
record StandsAt (c : Configuration) (runs : List Run) (posts : List Post) (member place : ℕ) : Type 0 where
  pub run : Run
  pub is : IsRunOf runs member c.round run
  pub opens : OpensAt c posts 1 run place

run-at : (c : Configuration) (delivered : List (List ℕ)) (runs : List Run) (stage : ℕ) (posts : List Post) (place : ℕ)
    → IsAgreedEnd c delivered runs stage posts
    → (shape_in c).members + 4 < stage → AllHaveRuns c runs → place < (shape_in c).members
    → (member : ℕ) × (1 ≤ member) × (member ≤ (shape_in c).members) × StandsAt c runs posts member place
run-at c delivered runs stage posts place end late all lt =
    each-place (StandsAt c runs posts) (shape_in c).members
    (places-of (StandsAt c runs posts) (shape_in c).members
    (λ member least most. (let run = all member least most in let found = place_opens c delivered runs stage posts run.0 end late
    run.1.listed run.1.round in (found.0, record { run = run.0; is = run.1; opens = found.1 })))
    one-number)
    (λ member place stands. (let within = slice_get_within (items_opened (shape_in c) (contents_of posts) 1) place _ stands.opens.opens in
    omega (arith, within, items-count c delivered stage posts end.kept late)))
    place lt
  where
    one-number : (a b place : ℕ) → StandsAt c runs posts a place → StandsAt c runs posts b place → a ≡ b
    one-number a b place mine other = elim (cases_eq a b) [
      | inl same ↦ same
      | inr apart ↦ absurd (places_differ c runs posts 1 mine.run other.run place place end.among.honest end.distinct mine.is.listed
          other.is.listed (contains-here 1 (2 ∷ []))
          (first-seeds c delivered runs stage posts end late) (λ numbers. apart (sym mine.is.number ∙ numbers ∙ other.is.number)) mine.opens
          other.opens refl)
    ]

-- ---- no pad is bad

-- what stands in the own slot of the keys
own-keys-there : (run : Run) (later : ℕ) (posts : List Post) → (own : OwnSaid run posts 0)
    → said_in (shape_in run.config) (contents_of posts) 0 run.config.number ≡ KeysBody (own_keys run.config)
unfolding said_in
own-keys-there run later posts own = own-body run posts 0 own ∙ keys-are run own.text own.row
    (ap (kind_of_stage (shape_in run.config)) own.at)

-- the own bulk key stands under the own number
bulk-there : (c : Configuration) (delivered : List (List ℕ)) (runs : List Run) (stage : ℕ) (posts : List Post) (run : Run)
    → AtEnd c delivered runs stage posts run
    → slice_index_or (keys_said (shape_in c) (contents_of posts) bulk_place) (run.config.number - 1) [] ≡ key_of_seed
    (own_key_seed run.config bulk_place)
bulk-there c delivered runs stage posts run e =
    let facts = run-facts c runs run e.end.among.honest e.listed in
    let late = e.late in
    let same = same_past c delivered runs stage posts run e.end e.listed e.round in
    let own = own-said run (stage - 1) 0 same.past facts.honest same.kept (own-speaks run.config facts.honest.config) (omega arith) in
    let keys = own-keys-there run (stage - 1) same.past own in
    let moved : said_in (shape_in c) (contents_of posts) 0 run.config.number ≡ said_in (shape_in run.config) (contents_of same.past) 0
    run.config.number =
    sym (said-front (shape_in c) (contents_of posts) (stage - 1) 0 run.config.number
    (member-there (shape_in c).members run.config.number facts.least facts.most) (omega arith))
    ∙ ap (λ (past : List (List ℕ)). said_in (shape_in c) past 0 run.config.number) (sym same.same)
    ∙ ap (λ (s : Shape). said_in s (contents_of same.past) 0 run.config.number) (sym facts.shape_is) in
    get_or_from_slice_get (keys_said (shape_in c) (contents_of posts) bulk_place) (run.config.number - 1) _ []
    (by-member (key_said (shape_in c) (contents_of posts) bulk_place) (shape_in c).members run.config.number facts.least facts.most)
    ∙ ap (λ (b : Body). slice_index_or (keys_in b) bulk_place []) (moved ∙ keys)

-- each pad for the descriptor of a run fits
pad-fits : (c : Configuration) (delivered : List (List ℕ)) (runs : List Run) (stage place : ℕ) (posts : List Post) (maker run : Run)
    → AtEnd c delivered runs stage posts maker
    → AtEnd c delivered runs stage posts run
    → slice_get (items_opened (shape_in c) (contents_of posts) 1) place ≡ Some (Some (own_descriptor maker.config (contents_of posts)))
    → fits (made-of maker (shape_in c) (contents_of posts)) run.config.number
    (slice_index_or (pads_for (pads_sent (shape_in c) (contents_of posts)) place) (run.config.number - 1) []) ≡ true
unfolding made-of
pad-fits c delivered runs stage place posts maker run e r at =
    ap (fits (made-of maker (shape_in c) (contents_of posts)) run.config.number) pad_is
    ∙ honest_pad_fits (shape_in c).members keys (own_pad_seeds maker.config) keys (own_pad_seeds run.config) maker.config.number
    run.config.number maker.config.message run.config.message
    (own_key_seed run.config bulk_place) (can-make-there maker (shape_in c) (contents_of posts) its.honest its.shape_is)
    (can-make-there run (shape_in c) (contents_of posts) facts.honest facts.shape_is)
    messages (bulk-there c delivered runs stage posts run r) own_same
  where
    keys : List (List ℕ)
    keys = keys_said (shape_in c) (contents_of posts) bulk_place

    its : RunFacts c maker
    its = run-facts c runs maker e.end.among.honest e.listed

    facts : RunFacts c run
    facts = run-facts c runs run r.end.among.honest r.listed

    entry : List ℕ
    entry = own_descriptor maker.config (contents_of posts)

    own : List ℕ
    own = own_descriptor run.config (contents_of posts)

    entry_is : entry ≡ descriptor_text (made_descriptor keys (own_pad_seeds maker.config) maker.config.number maker.config.message)
    entry_is = made-there maker (shape_in c) (contents_of posts) its.shape_is

    own_is : own ≡ descriptor_text (made_descriptor keys (own_pad_seeds run.config) run.config.number run.config.message)
    own_is = made-there run (shape_in c) (contents_of posts) facts.shape_is

    pad_is : slice_index_or (pads_for (pads_sent (shape_in c) (contents_of posts)) place) (run.config.number - 1) []
        ≡ pad_row (shape_in c).members (descriptor_text (made_descriptor keys (own_pad_seeds run.config) run.config.number
        run.config.message))
        (own_pad (own_pad_seeds run.config) run.config.number run.config.message) run.config.number (own_key_seed run.config bulk_place)
        (descriptor_text (made_descriptor keys (own_pad_seeds maker.config) maker.config.number maker.config.message))
    pad_is =
        get_or_from_slice_get (pads_for (pads_sent (shape_in c) (contents_of posts)) place) (run.config.number - 1) _ []
        (run-pads c delivered runs stage place posts run r)
        ∙ get_or_from_slice_get (map (pad_for run.config own) (items_opened (shape_in c) (contents_of posts) 1)) place
        (pad_for run.config own (Some entry)) []
        (slice_get-map (pad_for run.config own) (items_opened (shape_in c) (contents_of posts) 1) place
        ∙ ap (option_map (pad_for run.config own)) at)
        ∙ ap (λ (s : Shape). pad_row s.members own (own_pad (own_pad_seeds run.config) run.config.number run.config.message)
        run.config.number (own_key_seed run.config bulk_place) entry) facts.shape_is
        ∙ ap (λ (o : List ℕ). pad_row (shape_in c).members o (own_pad (own_pad_seeds run.config) run.config.number run.config.message)
        run.config.number (own_key_seed run.config bulk_place) entry) own_is
        ∙ ap (pad_row (shape_in c).members (descriptor_text (made_descriptor keys (own_pad_seeds run.config) run.config.number
        run.config.message))
        (own_pad (own_pad_seeds run.config) run.config.number run.config.message) run.config.number (own_key_seed run.config bulk_place))
        entry_is

    messages : All IsMessage (own_pad_seeds maker.config)
    messages = all-places IsMessage (own_pad_seeds maker.config)
        (all-map IsMessage (derived maker.config.fresh maker.config.round 12) (range_with_len 1 (shape_in maker.config).members)
        (λ member. (let is_hash = hash_bytes _ _ in record { length = is_hash.0; bytes = is_hash.1 })))

    own_same : run.config.number ≡ maker.config.number → descriptor_text
        (made_descriptor keys (own_pad_seeds maker.config) maker.config.number maker.config.message)
        ≡ descriptor_text (made_descriptor keys (own_pad_seeds run.config) run.config.number run.config.message)
    own_same number =
        let one : maker ≡ run = run_unique c.roster runs maker.config.number c.round maker run e.end.among.honest
        (record { listed = e.listed; number = refl; round = e.round })
        (record { listed = r.listed; number = number; round = r.round }) in
        ap (λ (x : Run). descriptor_text (made_descriptor keys (own_pad_seeds x.config) x.config.number x.config.message)) one

-- so no slot is bad
none-is_bad : (xs : List SlotState) → ((k : ℕ) (state : SlotState) → slice_get xs k ≡ Some state → is_bad state ≡ false)
    → list_any is_bad xs ≡ false
none-is_bad [] each = refl
none-is_bad (x ∷ xs) each = rw (each 0 x refl, none-is_bad xs (λ k state at. each (suc k) state at)) refl

good-state : (state : SlotState) → ((first : ℕ) → state ≡ Bad first → ⊥) → is_bad state ≡ false
good-state Empty good = refl
good-state (Bad first) good = absurd (good first refl)
good-state Mismatched good = refl
good-state (Message m) good = refl

none-bad-there : (c : Configuration) (delivered : List (List ℕ)) (runs : List Run) (stage : ℕ) (posts : List Post)
    → IsAgreedEnd c delivered runs stage posts
    → (shape_in c).members + 4 < stage → AllHaveRuns c runs → list_any is_bad (slots_of_past (shape_in c) (contents_of posts)) ≡ false
none-bad-there c delivered runs stage posts end late all = none-is_bad (slots_of_past (shape_in c) (contents_of posts)) each
  where
    states : List SlotState
    states = slots_of_past (shape_in c) (contents_of posts)

    state-one : (a b : SlotState) → (let told : SlotState → Option SlotState = λ z. Some z in told a ≡ told b) → a ≡ b
    state-one a b e = cc

    each : (k : ℕ) (state : SlotState) → slice_get states k ≡ Some state → is_bad state ≡ false
    each k state at =
        let within = slice_get_within states k state at in
        let few : k < (shape_in c).members = omega (
          arith,
          within,
          states-count (shape_in c) (contents_of posts),
          items-count c delivered
              stage posts end.kept late,
        ) in
        of-run k state at (run-at c delivered runs stage posts k end late all few)
      where
        of-run : (k : ℕ) (state : SlotState) → slice_get states k ≡ Some state → (member : ℕ) × (1 ≤ member)
            × (member ≤ (shape_in c).members) × StandsAt c runs posts member k → is_bad state ≡ false
        of-run k state at (member, least, most, stands) =
            let e : AtEnd c delivered runs stage posts stands.run = record
            { end = end; late = late; listed = stands.is.listed; round = stands.is.round } in
            let opens : slice_get (items_opened (shape_in c) (contents_of posts) 1) k ≡ Some
            (Some (own_descriptor stands.run.config (contents_of posts))) =
            stands.opens.opens ∙ ap (λ (item : List ℕ). Some (Some item))
            (item-first stands.run.config (own_descriptor stands.run.config (contents_of posts)) (contents_of posts)) in
            let state_is = state-one state _ (sym at ∙ slot-there c runs k posts stands.run end.among.honest stands.is.listed opens) in
            elim (fits-or-bad (made-of stands.run (shape_in c) (contents_of posts))
            (pads_for (pads_sent (shape_in c) (contents_of posts)) k)) [
              | inl fit ↦ good-state state (λ first bad. fit.1 first (sym state_is ∙ bad))
              | inr (first, unfit, bad) ↦
                  let parts = unfit_is (made-of stands.run (shape_in c) (contents_of posts))
                  (pads_for (pads_sent (shape_in c) (contents_of posts)) k) first unfit in
                  let last = parts.1 in
                  let run = all first parts.0 (omega (arith, last, pads-count (shape_in c) (contents_of posts) k)) in
                  let r : AtEnd c delivered runs stage posts run.0 = record
                  { end = end; late = late; listed = run.1.listed; round = run.1.round } in
                  let fit = pad-fits c delivered runs stage k posts stands.run run.0 e r opens in
                  absurd (not_both (fits (made-of stands.run (shape_in c) (contents_of posts)) first
                  (slice_index_or (pads_for (pads_sent (shape_in c) (contents_of posts)) k) (first - 1) []))
                  (subst (λ (m : ℕ). fits (made-of stands.run (shape_in c) (contents_of posts)) m
                  (slice_index_or (pads_for (pads_sent (shape_in c) (contents_of posts)) k) (m - 1) []) ≡ true) run.1.number fit)
                  parts.2)
            ]

-- ---- the checks end the round

verdict-not : (v a b : Verdict) → v ≡ a → v ≡ b → (a ≡ b → ⊥) → ⊥
verdict-not v a b is same apart = apart (sym is ∙ same)

confirm-kind : (o : Option StageKind) → o ≡ Some AtConfirm → o ≡ Some (AtFinal 1) → ⊥
confirm-kind o confirm final = (let both = sym confirm ∙ final in cc)

confirm-ends : (c : Configuration) (delivered : List (List ℕ)) (runs : List Run) (stage : ℕ) (posts : List Post) → IsAmong c delivered runs
    → NoRunsCollide runs → AllHaveRuns c runs
    → IsKeptEnd (run_after c delivered) stage posts → kind_of_stage (shape_in c) stage ≡ Some AtConfirm
    → verdict_of (closing_of c posts stage) ≡ Goes → ⊥
confirm-ends c delivered runs stage posts among distinct all end kind goes = by_case
    (verdict_cases (closing_of c posts stage) (whole-end (run_after c delivered) stage posts end))
  where
    late : (shape_in c).members + 4 < stage
    late = (let later = confirm-late (shape_in c) stage kind in omega arith)

    by_work : AllAgree (closing_of c posts stage) → LeavesWork (closing_of c posts stage) → ⊥
    by_work agree (inl final) = confirm-kind (kind_of_stage (shape_in c) stage) kind final
    by_work agree (inr (confirm, bad)) =
        not_both (list_any is_bad (slots_of_past (shape_in c) (contents_of posts))) bad
        (none-bad-there c delivered runs stage posts (record { among = among; distinct = distinct; kept = end; agree = agree }) late all)

    by_case : Case (closing_of c posts stage) (verdict_of (closing_of c posts stage)) → ⊥
    by_case (GoesOn agree work on) = by_work agree work
    by_case (Ends agree work ends) = verdict-not (verdict_of (closing_of c posts stage)) Done Goes ends goes (λ same. absurd cc)
    by_case (ByBadLog is) = verdict-not (verdict_of (closing_of c posts stage)) _ Goes is.verdict_is goes (λ same. absurd cc)
    by_case (ByEquivocation is) = verdict-not (verdict_of (closing_of c posts stage)) _ Goes is.verdict_is goes (λ same. absurd cc)
    by_case (ByWrongSeed is) = verdict-not (verdict_of (closing_of c posts stage)) _ Goes is.verdict_is goes (λ same. absurd cc)
    by_case (ByReplay is) = verdict-not (verdict_of (closing_of c posts stage)) _ Goes is.verdict_is goes (λ same. absurd cc)
    by_case (ByBadPad is) = verdict-not (verdict_of (closing_of c posts stage)) _ Goes is.verdict_is goes (λ same. absurd cc)

-- so nothing is kept behind them
confirm-passed : (c : Configuration) (delivered : List (List ℕ)) (runs : List Run) (past : List Post) → IsAmong c delivered runs
    → NoRunsCollide runs → AllHaveRuns c runs
    → before (run_after c delivered).log ((shape_in c).members + 6 + 1) ≡ Some past
    → verdict_of (closing_of c past ((shape_in c).members + 6)) ≡ Goes → ⊥
confirm-passed c delivered runs past among distinct all kept goes =
    let kind = confirm_is (shape_in c) ((shape_in c).members + 6) refl in
    confirm-ends c delivered runs ((shape_in c).members + 6) past among distinct all
    (record {
      honest = run_after_is_honest c delivered among.config among.bytes;
      closing = ap (λ (o : Option StageKind). is_some (option_and_then vote_of o)) kind;
      kept = kept;
    }) kind goes

-- ---- nobody is blamed

claim-not : (t other : Transcript) (v : Verdict) → v ≡ Convicts other → Convicts t ≡ v → t.claim ≡ Pad → (other.claim ≡ Pad → ⊥) → ⊥
claim-not t other v is same its apart = apart (sym (ap (λ (x : Transcript). x.claim) (transcript-same t other (same ∙ is))) ∙ its)

pad-not : (c : Configuration) (delivered : List (List ℕ)) (runs : List Run) (stage : ℕ) (posts : List Post) (t : Transcript)
    → IsAmong c delivered runs → NoRunsCollide runs → AllHaveRuns c runs
    → IsKeptEnd (run_after c delivered) stage posts → verdict_of (closing_of c posts stage) ≡ Convicts t → t.claim ≡ Pad → ⊥
pad-not c delivered runs stage posts t among distinct all end e claim = by_case
    (verdict_cases (closing_of c posts stage) (whole-end (run_after c delivered) stage posts end))
  where
    shape : Shape
    shape = shape_in c

    within : (0 < stage_count shape) × (1 ≤ c.number) × (c.number ≤ shape.members)
    within = slot-bounds shape 0 c.number (own-speaks c among.config)

    own : OwnSaid (run_after c delivered) posts stage
    own = own-said (run_after c delivered) (stage + 1) stage posts end.honest end.kept
        ((closing-kind shape stage end.closing).all_close c.number within.1 within.2) (omega arith)

    own_stage : own.row.stage ≡ stage
    own_stage = own.at

    passed : shape.members + 6 < stage → ⊥
    passed later =
        confirm-passed c delivered runs (take (slots_before shape (shape.members + 6 + 1)) own.row.past) among distinct all
        (before-front (run_after c delivered).log (shape.members + 6 + 1) own.row.stage own.row.past (omega (arith, own_stage, later))
        own.row.before
        ∙ ap (λ (s : Shape). Some (take (slots_before s (shape.members + 6 + 1)) own.row.past)) end.honest.shape)
        (own.row.goes (shape.members + 6) (omega (arith, own_stage, later)))

    by_case : Case (closing_of c posts stage) (verdict_of (closing_of c posts stage)) → ⊥
    by_case (ByBadPad is) =
        let at = (second-end shape stage is.shuffle is.kind is.second).1 in
        let final : final_stage shape 2 ≡ shape.members + 7 + (shape.members + 2) = refl in
        passed (omega (arith, at, final))
    by_case (ByBadLog is) = claim-not t _ _ is.verdict_is (sym e) claim (λ same. absurd cc)
    by_case (ByEquivocation is) = claim-not t _ _ is.verdict_is (sym e) claim (λ same. absurd cc)
    by_case (ByWrongSeed is) = claim-not t _ _ is.verdict_is (sym e) claim (λ same. absurd cc)
    by_case (ByReplay is) = claim-not t _ _ is.verdict_is (sym e) claim (λ same. absurd cc)
    by_case (GoesOn agree work goes) = convicts-not t (verdict_of (closing_of c posts stage)) (inl goes) (sym e)
    by_case (Ends agree done ends) = convicts-not t (verdict_of (closing_of c posts stage)) (inr ends) (sym e)

not-blamed : (c : Configuration) (delivered : List (List ℕ)) (runs : List Run) (t : Transcript) → IsAmong c delivered runs
    → NoRunsCollide runs → AllHaveRuns c runs
    → result_of c delivered ≡ Blamed t → ⊥
not-blamed c delivered runs t among distinct all e = elim (ending-cases c part (Convicts t) blame.ends) [
  | inl last ↦ elim last.shows [
    | inl malformed ↦ claim-not t _ _ malformed.verdict_is refl claim (λ same. absurd cc)
    | inr other ↦ claim-not t _ _ other.verdict_is refl claim (λ same. absurd cc)
  ]
  | inr course ↦
      let closed = stand-closed c (first_posts c part) (Convicts t) among.config (firsts-check c part part_bytes) course.1
      (λ goes. convicts-not t Goes (inl refl) goes) in
      pad-not c delivered runs closed.0 (course_of c (first_posts c part)).past t among distinct all
      (subst (λ (run : Run). IsKeptEnd run closed.0 (course_of c (first_posts c part)).past) (sym blame.run_is) closed.1.kept)
      closed.1.verdict_is claim
]
  where
    blame : IsBlame c delivered t
    blame = blame-of c delivered t e

    part : List (List ℕ)
    part = take blame.count delivered

    part_bytes : All IsBytes part
    part_bytes = All-take IsBytes blame.count delivered among.bytes

    claim : t.claim ≡ Pad
    claim = nothing_but_pads c delivered runs t among distinct all e

-- ---- nobody is waited for

goes-at : (c : Configuration) (others : Others) (stage : ℕ) → IsReached c others (course_of c others)
    → is_open (course_of c others).verdict ≡ true → stage < (course_of c others).at
    → verdict_of (closing_of c (take (slots_before (shape_in c) (stage + 1)) (course_of c others).past) stage) ≡ Goes
goes-at c others stage reached still lt = elim (cases_lt (stage + 1) (course_of c others).at) [
  | inl earlier ↦ reached.goes stage earlier
  | inr last ↦
      let at : stage + 1 ≡ (course_of c others).at = omega (arith, lt, last) in
      ap (λ (posts : List Post). verdict_of (closing_of c posts stage))
      (ap (λ (s : ℕ). take (slots_before (shape_in c) s) (course_of c others).past) at
      ∙ take_all (slots_before (shape_in c) (course_of c others).at) (course_of c others).past
      (let whole = reached.whole in omega (arith, whole)))
      ∙ reached.last stage at ∙ open-goes (course_of c others).verdict still
]

waits-at : Outcome → ℕ
waits-at (Waiting stage named) = stage
waits-at _ = 0

not-waiting : (c : Configuration) (delivered : List (List ℕ)) (runs : List Run) (stage : ℕ) (named : List ℕ) → IsAmong c delivered runs
    → NoRunsCollide runs → AllHaveRuns c runs
    → AllDelivered c delivered → result_of c delivered ≡ Waiting stage named → ⊥
unfolding log_after waits-at
not-waiting c delivered runs stage named among distinct all heard e = elim (cases_lt ((shape_in c).members + 6) stage) [
  | inr early ↦ (let given = heard stage names.somebody.0 missed.speaks early missed.other in
      file-heard c delivered (record { stage = stage; sender = names.somebody.0 }) given.0 given.1 missed.other given.2 given.3
      missed.unheard)
  | inl later ↦ elim (outcome-cases c delivered) [
    | inl open_end ↦ by_course open_end.least open_end.goes_on (ap waits-at (sym open_end.outcome_is ∙ e)) later
    | inr ended ↦ closed ended.verdict (stand_after c (take ended.count delivered)) ended.closed (sym ended.outcome_is ∙ e)
  ]
]
  where
    names : NamesMissed c delivered stage named
    names = open_names c delivered stage named among.config.enter among.bytes e

    missed : IsMissed c delivered stage names.somebody.0
    missed = (names.missed names.somebody.0).0 names.somebody.1

    closed : (verdict : Verdict) (stand : Stand) → is_open verdict ≡ false → outcome_ended c stand verdict ≡ Waiting stage named → ⊥
    closed Goes stand still w = absurd cc
    closed Done stand still w = absurd cc
    closed (Convicts t) stand still w = absurd cc

    by_course : least_ending c delivered ≡ None → is_open (stand_after c delivered).verdict ≡ true → (stand_after c delivered).at ≡ stage
        → (shape_in c).members + 6 < stage → ⊥
    by_course least still at later =
        let others : Others = first_posts c delivered in
        let run_is : run_after c delivered ≡ settled_run c (first_posts c delivered) =
        ap (λ (o : Option (ℕ × Verdict)). record { config = c; log = settled_log c (first_posts c (counted_part delivered o)) }) least in
        let reached = reached-end c (first_posts c delivered) in
        let early : (shape_in c).members + 6 < (course_of c (first_posts c delivered)).at = omega (arith, at, later) in
        confirm-passed c delivered runs (take (slots_before (shape_in c) ((shape_in c).members + 6 + 1))
        (course_of c (first_posts c delivered)).past) among distinct all
        (ap (λ (run : Run). before run.log ((shape_in c).members + 6 + 1)) run_is
        ∙ before-settled c (first_posts c delivered) ((shape_in c).members + 6 + 1) reached (omega (arith, early)))
        (goes-at c (first_posts c delivered) ((shape_in c).members + 6) reached still early)

-- ---- done

pub all_honest : AllHonest
all_honest c delivered runs among distinct all heard = by_result (result_of c delivered) refl
  where
    by_result : (o : Outcome) → result_of c delivered ≡ o → (slots : List SlotState) × (result_of c delivered ≡ DoneWith slots)
        × HasEachMessage runs c.round slots
    by_result (DoneWith slots) e = (slots, e, done_has_messages c delivered runs slots among distinct e)
    by_result (Blamed t) e = absurd (not-blamed c delivered runs t among distinct all e)
    by_result (Waiting stage named) e = absurd (not-waiting c delivered runs stage named among distinct all heard e)
