-- Where the inner ciphertexts of honest members are, and what they open to.
use Rattle.shuffle_core.specs.declared.entry.Submission.{Submission}
use Rattle.std.proofs.lemmas.Simd.{map-map}
use Rattle.std.proofs.Common.{arith, refl, zero, suc, Contains, List, None, Option, Some, ap, eq-eqb, false, length, length-take-le, map, slice_get, slice_index_or, subst, sym, take, true, ◌≡◌, ◌∙◌, ◌∷◌, ◌<◌, ◌≤◌, ◌+◌, ◌-◌, ◌==◌, [], ℕ}
use Rattle.std.proofs.lemmas.List.{length-map, take-take, take-map}
use Rattle.std.proofs.lemmas.Map.Views.{Contains-from_any}
use Rattle.phase_message.specs.declared.stage.StageKind.TheVariants.{Go as AtGo, Final as AtFinal}
use Rattle.wire_core.specs.declared.tag.Tag.TheVariants.{LayerSeed}
use Rattle.stage_log.specs.Log.{before, all_some, contents_of}
use Rattle.phase_message.specs.Stages.{speaks, is_slot, kind_of_stage, vote_of}
use Rattle.round_spec.specs.Verdict.{Convicts, Goes, Verdict, closing_body, is_closing, verdict_of}
use Rattle.round_spec.specs.Cases.{AllAgree, IsMemberOf}
use Rattle.std.specs.List.{AllByRecursion, range_with_len}
use Rattle.accountability.proofs.Votes.{AreYes, IsGoYes, IsYes, go-yes, votes-yes}
use Rattle.phase_message.specs.declared.content.Body.{Body}
use Rattle.round_spec.proofs.AgreedClosings.{ClosingKind, final-closes}
use Rattle.round_spec.specs.Say.{Configuration, own_descriptor, own_item, own_layer_seeds, own_opening, own_submission, shape_in}
use Rattle.accountability.specs.Agreed.{HasSamePast, HasSeeds, IsAgreedEnd, OpensAt, PlaceOpens, PlacesDiffer, inner_kept, item_kept}
use Rattle.round_spec.specs.Runs.{HonestRun, Run, run_after}
use Rattle.accountability.specs.Evidence.{IsKeptEnd}
use Rattle.ring_encrypt.specs.Opening.{IsMessage}
use Rattle.conviction.proofs.OwnRows.{OwnSaid, own-said, own-speaks}
use Rattle.phase_message.specs.declared.post.Post.{Post}
use Rattle.group_roster.specs.Roster.{Roster, shape_of_roster}
use Rattle.accountability.proofs.Rows.{RowIn, row-in, same_past}
use Rattle.phase_message.specs.Shape.{Shape}
use Rattle.phase_message.specs.declared.stage.StageKind.{StageKind}
use Rattle.transcript_form.specs.declared.transcript.Transcript.{Transcript}
use Rattle.stage_log.proofs.Pasts.{all_some-is}
use Rattle.stage_log.proofs.Fronts.{before-front}
use Rattle.conviction.proofs.Replays.{by-member}
use Rattle.std.proofs.lemmas.Slice.Eq.{bytes_eq-Decides}
use Rattle.phase_message.proofs.Closings.{closing-follows}
use Rattle.accountability.proofs.Kept.{closing-kind, end-past, member-there, whole-end}
use Rattle.round_spec.specs.Course.{closing_of}
use Rattle.round_spec.proofs.Contained.{contains-flat-from, contains-here}
use Rattle.round_spec.specs.Slots.{entries_opened, final_stage, inner_place, items_opened, key_said, keys_in, keys_said, list_said, said_in, seed_in, seeds_revealed, submit_stage}
use Rattle.phase_message.proofs.Table.{final_a_is}
use Rattle.wire_core.proofs.ListLemmas.{map-range}
use Rattle.conviction.proofs.OwnFronts.{front, said-front, submission-front}
use Rattle.wire_core.proofs.ByteLists.{hash_bytes}
use Rattle.std.specs.Prelude.{is_some, option_and_then, option_map}
use Rattle.ring_encrypt.specs.Capsule.{key_of_seed}
use Rattle.wire_core.specs.Hash.{layer_seed, layer_seed_pieces, layer_seed_string}
use Rattle.wire_core.proofs.Hashed.{layer_seed_determines}
use Rattle.std.proofs.lemmas.List.FromFn.{length-map-range_with_len}
use Rattle.shuffle_blame.specs.Replay.{list_of}
use Rattle.go_nogo.specs.Rows.{lists_before, stands_in, stands_last}
use Rattle.shuffle_core.specs.Shuffle.{opened_item}
use Rattle.layer_cipher.proofs.WrapLemmas.{outermost_determined, wrapped_opens}
use Rattle.round_spec.proofs.Rows.{row_past}
use Rattle.conviction.proofs.Posts.{run-honest, run-roster}
use Rattle.round_spec.proofs.Strings.{run_has_strings}
use Rattle.shuffle_core.proofs.LayerSeeds.{seeds_are_messages}
use Rattle.std.proofs.lemmas.Option.{slice_get-get_or, slice_get-map}
use Rattle.phase_message.proofs.SlotBounds.{slot-bounds}
use Rattle.phase_message.specs.Slots.{slot_number, slots_before, stage_count}
use Rattle.phase_message.proofs.SlotLists.{slots_before-rises}
use Rattle.round_spec.proofs.Verdicts.{sparing_means_agreed}
use Rattle.round_spec.specs.Premises.{strings_of_run, strings_of_runs}
use Rattle.round_spec.proofs.GoLists.{turn-kind, votes_look_at_lists}
use Rattle.round_spec.proofs.Votes.{votes-front}
use Rattle.go_nogo.specs.Votes.{votes_agree}
use Rattle.layer_cipher.specs.Layer.{wrapping_of}

-- ---- the end of a shuffle, where all agree

goes-spares : (verdict : Verdict) (t : Transcript) → verdict ≡ Goes → verdict ≡ Convicts t → ⊥
goes-spares verdict t goes is = (let both = sym goes ∙ is in cc)

-- the votes before a stage are seen behind it
votes-behind : (shape : Shape) (past : List (List ℕ)) (stage : ℕ) → is_closing shape stage ≡ true
    → votes_agree shape (front shape past (stage + 1)) stage ≡ votes_agree shape past stage
votes-behind shape past stage closing =
    sym (votes-front shape (front shape past (stage + 1)) stage closing)
    ∙ ap (λ (p : List (List ℕ)). votes_agree shape p stage) (take-take (slots_before shape stage) (slots_before shape (stage + 1)) past
    (slots_before-rises shape stage (stage + 1) (omega arith)))
    ∙ votes-front shape past stage closing

-- so it is at the end of shuffle A
pub first-seeds : (c : Configuration) (delivered : List (List ℕ)) (runs : List Run) (stage : ℕ) (posts : List Post)
    → IsAgreedEnd c delivered runs stage posts
    → (shape_in c).members + 4 < stage → HasSeeds c posts 1
first-seeds c delivered runs stage posts end late = record { votes = votes; seeds = seeds }
  where
    shape : Shape
    shape = shape_in c

    run : Run
    run = run_after c delivered

    final : ℕ
    final = final_stage shape 1

    at : final ≡ shape.members + 3
    at = omega arith

    n : ℕ
    n = slots_before shape (final + 1)

    front_posts : List Post
    front_posts = take n posts

    within : (0 < stage_count shape) × (1 ≤ c.number) × (c.number ≤ shape.members)
    within = slot-bounds shape 0 c.number (own-speaks c end.among.config)

    own : OwnSaid run posts stage
    own = own-said run (stage + 1) stage posts end.kept.honest end.kept.kept
        ((closing-kind shape stage end.kept.closing).all_close c.number within.1 within.2) (omega arith)

    kind : kind_of_stage shape final ≡ Some (AtFinal 1)
    kind = final_a_is shape final at

    kept : IsKeptEnd run final front_posts
    kept = record {
      honest = end.kept.honest;
      closing = ap (λ (o : Option StageKind). is_some (option_and_then vote_of o)) kind;
      kept = before-front run.log (final + 1) (stage + 1) posts (omega (arith, at, late)) end.kept.kept
          ∙ ap (λ (s : Shape). Some (take (slots_before s (final + 1)) posts)) end.kept.honest.shape;
    }

    same : take n own.row.past ≡ front_posts
    same = ap (take n) own.front ∙ take-take n (slots_before shape stage) posts
        (slots_before-rises shape (final + 1) stage (omega (arith, at, late)))

    own_stage : own.row.stage ≡ stage
    own_stage = own.at

    goes : verdict_of (closing_of c front_posts final) ≡ Goes
    goes = sym (ap (λ (ps : List Post). verdict_of (closing_of c ps final)) same) ∙ own.row.goes final (omega (arith, own_stage, at, late))

    agree : AllAgree (closing_of c front_posts final)
    agree = sparing_means_agreed (closing_of c front_posts final) (whole-end run final front_posts kept)
        (λ t convicts. goes-spares (verdict_of (closing_of c front_posts final)) t goes convicts)

    contents : contents_of front_posts ≡ front shape (contents_of posts) (final + 1)
    contents = sym (take-map (λ (p : Post). p.content) n posts)

    votes : votes_agree shape (contents_of posts) final ≡ true
    votes = sym (ap (λ (past : List (List ℕ)). votes_agree shape past final) contents
        ∙ votes-behind shape (contents_of posts) final (ap (λ (o : Option StageKind). is_some (option_and_then vote_of o)) kind))
        ∙ agree.votes

    seeds : (member : ℕ) → 1 ≤ member → member ≤ shape.members
        → key_of_seed (seed_in (said_in shape (contents_of posts) final member)) ≡ key_said shape (contents_of posts) (inner_place 1) member
    seeds member least most =
        let is : IsMemberOf (closing_of c front_posts final) member = record { least = least; most = most } in
        let speaks_final = (final-closes shape final 1 kind).all_close member least most in
        let speaks_keys : is_slot shape 0 member ≡ true = member-there shape.members member least most in
        let said_is : said_in shape (contents_of front_posts) final member ≡ said_in shape (contents_of posts) final member =
        ap (λ (past : List (List ℕ)). said_in shape past final member) contents
        ∙ said-front shape (contents_of posts) (final + 1) final member speaks_final (omega arith) in
        let keys_are : said_in shape (contents_of front_posts) 0 member ≡ said_in shape (contents_of posts) 0 member =
        ap (λ (past : List (List ℕ)). said_in shape past 0 member) contents
        ∙ said-front shape (contents_of posts) (final + 1) 0 member speaks_keys (omega arith) in
        sym (ap (λ (b : Body). key_of_seed (seed_in b)) said_is)
        ∙ (bytes_eq-Decides (key_of_seed (seed_in (closing_body (closing_of c front_posts final) member)))
        (key_said shape (contents_of front_posts) (inner_place 1) member)).0 (agree.seeds 1 member kind is)
        ∙ ap (λ (b : Body). slice_index_or (keys_in b) (inner_place 1) []) keys_are

-- ---- the last list

last-front : (shape : Shape) (past : List (List ℕ)) (later shuffle n : ℕ) → 1 ≤ n → n ≤ shape.members → Contains (1 ∷ 2 ∷ []) shuffle
    → submit_stage shape shuffle + n < later
    → list_said shape (front shape past later) shuffle n ≡ list_said shape past shuffle n
last-front shape past later shuffle zero some few is lt = absurd (omega (arith, some))
last-front shape past later shuffle (suc turn) some few is lt =
    let kind = turn-kind shape shuffle (suc turn) (omega arith) few in
    let speaks_there : is_slot shape (submit_stage shape shuffle + suc turn) (suc turn) ≡ true =
    ap (λ (o : Option StageKind). speaks shape o (suc turn)) kind.1 ∙ eq-eqb (suc turn) (suc turn) refl in
    ap list_of (said-front shape past later (submit_stage shape shuffle + suc turn) (suc turn) speaks_there lt)

stands-parts : (shape : Shape) (entry : List ℕ) (o : Option (List (List (List ℕ)))) → stands_last shape entry o ≡ true
    → (lists : List (List (List ℕ))) × (o ≡ Some lists) × (stands_in entry (slice_get lists (shape.members - 1)) ≡ true)
stands-parts shape entry None e = absurd cc
stands-parts shape entry (Some lists) e = (lists, refl, e)

in-parts : (entry : List ℕ) (o : Option (List (List ℕ))) → stands_in entry o ≡ true → (list : List (List ℕ)) × (o ≡ Some list)
    × Contains list entry
in-parts entry None e = absurd cc
in-parts entry (Some list) e = (list, refl, Contains-from_any (λ x y equal. (bytes_eq-Decides x y).0 equal) entry list e)

last-said : (f : ℕ → Option (List (List ℕ))) (n : ℕ) (lists : List (List (List ℕ))) (list : List (List ℕ)) → 1 ≤ n
    → all_some (map f (range_with_len 1 n)) ≡ Some lists
    → slice_get lists (n - 1) ≡ Some list → f n ≡ Some list
last-said f n lists list some e at =
    let each = all_some-is (map f (range_with_len 1 n)) lists e in
    some-same (f n) (Some list) (sym (by-member f n n some (omega arith))
    ∙ ap (λ (xs : List (Option (List (List ℕ)))). slice_get xs (n - 1)) each
    ∙ slice_get-map (λ (l : List (List ℕ)). Some l) lists (n - 1) ∙ ap (option_map (λ (l : List (List ℕ)). Some l)) at)
  where
    some-same : (a b : Option (List (List ℕ))) → (let told : Option (List (List ℕ))
        → Option (Option (List (List ℕ))) = λ z. Some z in told a ≡ told b) → a ≡ b
    some-same a b e = cc

-- where a run stands in the last list
pub record InList (c : Configuration) (posts : List Post) (shuffle : ℕ) (entry : List ℕ) : Type 0 where
  pub list : List (List ℕ)
  pub said : list_said (shape_in c) (contents_of posts) shuffle (shape_in c).members ≡ Some list
  pub listed : Contains list entry

go-row-in : (c : Configuration) (posts : List Post) (run : Run) (past : List Post) (shuffle go : ℕ) (view : List ℕ)
    → shape_in run.config ≡ shape_in c
    → 1 ≤ (shape_in c).members → Contains (1 ∷ 2 ∷ []) shuffle → go + 1 ≡ final_stage (shape_in c) shuffle
    → ((shuffle == 1) ≡ false → (shape_in c).members + 4 < go)
    → slots_before (shape_in c) go ≤ length posts
    → contents_of past ≡ front (shape_in c) (contents_of posts) go
    → IsGoYes run shuffle view past go → InList c posts shuffle (inner_kept posts run shuffle)
go-row-in c posts run past shuffle go view shape_is some is at far whole past_is yes_is = found
  where
    shape : Shape
    shape = shape_in c

    entry : List ℕ
    entry = (own_submission run.config (own_descriptor run.config (contents_of past)) (contents_of past) shuffle).inner_ciphertext

    stands : stands_last shape entry (lists_before shape (contents_of past) go) ≡ true
    stands = subst (λ (s : Shape). stands_last s entry (lists_before s (contents_of past) go) ≡ true) shape_is yes_is.stands

    parts : (lists : List (List (List ℕ))) × (lists_before shape (contents_of past) go ≡ Some lists)
        × (stands_in entry (slice_get lists (shape.members - 1)) ≡ true)
    parts = stands-parts shape entry (lists_before shape (contents_of past) go) stands

    last : (list : List (List ℕ)) × (slice_get parts.0 (shape.members - 1) ≡ Some list) × Contains list entry
    last = in-parts entry (slice_get parts.0 (shape.members - 1)) parts.2

    long : slots_before shape go ≤ length (contents_of past)
    long = omega (
      arith,
      ap length past_is,
      length-take-le (slots_before shape go) (contents_of posts)
          (omega (arith, whole, length-map posts (λ (p : Post). p.content))),
    )

    said_past : list_said shape (contents_of past) shuffle shape.members ≡ Some last.0
    said_past = last-said (list_said shape (contents_of past) shuffle) shape.members parts.0 last.0 some
        (sym (votes_look_at_lists shape (contents_of past) shuffle go at long) ∙ parts.1) last.1

    turn_early : submit_stage shape shuffle + shape.members < go
    turn_early = omega (arith, at)

    said : list_said shape (contents_of posts) shuffle shape.members ≡ Some last.0
    said = sym (last-front shape (contents_of posts) go shuffle shape.members some (omega arith) is turn_early)
        ∙ ap (λ (past : List (List ℕ)). list_said shape past shuffle shape.members) (sym past_is) ∙ said_past

    members_are : (shape_in run.config).members ≡ shape.members
    members_are = ap (λ (s : Shape). s.members) shape_is

    fronts : front (shape_in run.config) (contents_of posts) go ≡ contents_of past
    fronts = ap (λ (s : Shape). front s (contents_of posts) go) shape_is ∙ sym past_is

    entry_is : entry ≡ inner_kept posts run shuffle
    entry_is =
        ap (λ (p : List (List ℕ)). (own_submission run.config (own_descriptor run.config p) p shuffle).inner_ciphertext) (sym fronts)
        ∙ ap (λ (s : Submission). s.inner_ciphertext) (submission-front run.config (contents_of posts) go shuffle
        (omega (arith, turn_early, some)) (λ other. (let enough = far other in omega (arith, enough, members_are))))

    found : InList c posts shuffle (inner_kept posts run shuffle)
    found = record { list = last.0; said = said; listed = subst (Contains last.0) entry_is last.2 }

-- ---- what it opens to

inner-is : (c : Configuration) (own : List ℕ) (past : List (List ℕ)) (shuffle : ℕ)
    → (own_submission c own past shuffle).inner_ciphertext
    ≡ wrapping_of (keys_said (shape_in c) past (inner_place shuffle)) (own_layer_seeds c shuffle 1) (own_item c own past shuffle)
unfolding own_submission
inner-is c own past shuffle = refl

seeds-keys : (c : Configuration) (posts : List Post) (shuffle : ℕ) → HasSeeds c posts shuffle
    → map key_of_seed (seeds_revealed (shape_in c) (contents_of posts) shuffle) ≡ keys_said (shape_in c) (contents_of posts)
    (inner_place shuffle)
seeds-keys c posts shuffle has =
    map-map key_of_seed (λ (m : ℕ). seed_in (said_in (shape_in c) (contents_of posts) (final_stage (shape_in c) shuffle) m))
    (range_with_len 1 (shape_in c).members)
    ∙ map-range (λ m. key_of_seed (seed_in (said_in (shape_in c) (contents_of posts) (final_stage (shape_in c) shuffle) m)))
    (key_said (shape_in c) (contents_of posts) (inner_place shuffle)) 1 (shape_in c).members
    (λ m least most. has.seeds m least (omega (arith, most)))

-- the inner ciphertext in the seeds that were revealed
inner-wrapped : (c : Configuration) (posts : List Post) (shuffle : ℕ) (run : Run) → shape_in run.config ≡ shape_in c
    → HasSeeds c posts shuffle
    → inner_kept posts run shuffle ≡ wrapping_of (map key_of_seed (seeds_revealed (shape_in c) (contents_of posts) shuffle))
    (own_layer_seeds run.config shuffle 1) (item_kept posts run shuffle)
inner-wrapped c posts shuffle run shape_is has =
    inner-is run.config (own_descriptor run.config (contents_of posts)) (contents_of posts) shuffle
    ∙ ap (λ (keys : List (List ℕ)). wrapping_of keys (own_layer_seeds run.config shuffle 1) (item_kept posts run shuffle))
    (ap (λ (s : Shape). keys_said s (contents_of posts) (inner_place shuffle)) shape_is ∙ sym (seeds-keys c posts shuffle has))

item-opened : (seeds ms : List (List ℕ)) (item : List ℕ) → length seeds ≡ length ms → AllByRecursion IsMessage ms
    → opened_item seeds (wrapping_of (map key_of_seed seeds) ms item) ≡ Some item
unfolding opened_item
item-opened seeds ms item many messages = ap (option_map (λ (found : List (List ℕ) × List ℕ). found.1))
    (wrapped_opens seeds ms item many messages)

items-are : (shape : Shape) (past : List (List ℕ)) (shuffle : ℕ) (list : List (List ℕ))
    → list_said shape past shuffle shape.members ≡ Some list
    → items_opened shape past shuffle ≡ map (opened_item (seeds_revealed shape past shuffle)) list
unfolding items_opened
items-are shape past shuffle list said = ap (entries_opened shape (seeds_revealed shape past shuffle)) said

got-at : {A : Type 0} (xs : List A) (x : A) → Contains xs x → (place : ℕ) × (slice_get xs place ≡ Some x)
got-at {A} xs x (i, lt, same) = (i, slice_get-get_or xs i x lt ∙ ap (λ (y : A). Some y) same)

pub opens-at : (c : Configuration) (posts : List Post) (shuffle : ℕ) (run : Run) → shape_in run.config ≡ shape_in c
    → HasSeeds c posts shuffle
    → InList c posts shuffle (inner_kept posts run shuffle) → (place : ℕ) × OpensAt c posts shuffle run place
opens-at c posts shuffle run shape_is has there_is =
    let at = got-at there_is.list (inner_kept posts run shuffle) there_is.listed in
    let layers = seeds_are_messages (own_opening run.config shuffle 1) run.config.round shuffle 1 run.config.number
    (shape_in run.config).members in
    let many : length (seeds_revealed (shape_in c) (contents_of posts) shuffle) ≡ length (own_layer_seeds run.config shuffle 1) =
    length-map-range_with_len (λ m. seed_in (said_in (shape_in c) (contents_of posts) (final_stage (shape_in c) shuffle) m)) 1
    (shape_in c).members
    ∙ sym (ap (λ (s : Shape). s.members) shape_is) ∙ sym layers.0 in
    let opened = ap (opened_item (seeds_revealed (shape_in c) (contents_of posts) shuffle)) (inner-wrapped c posts shuffle run shape_is has)
    ∙ item-opened (seeds_revealed (shape_in c) (contents_of posts) shuffle) (own_layer_seeds run.config shuffle 1)
    (item_kept posts run shuffle) many layers.1 in (
      at.0,
      record {
        list = there_is.list;
        said = there_is.said;
        stands = at.1;
        opens = ap (λ (items : List (Option (List ℕ))). slice_get items at.0)
            (items-are (shape_in c) (contents_of posts) shuffle there_is.list there_is.said)
            ∙ slice_get-map (opened_item (seeds_revealed (shape_in c) (contents_of posts) shuffle)) there_is.list at.0
            ∙ ap (option_map (opened_item (seeds_revealed (shape_in c) (contents_of posts) shuffle))) at.1
            ∙ ap (λ (o : Option (List ℕ)). Some o) opened;
      },
    )

-- ---- each run's place

-- the vote of a run on a shuffle is yes, by what the member kept
pub run-opens : (c : Configuration) (delivered : List (List ℕ)) (runs : List Run) (stage shuffle go : ℕ) (posts : List Post) (run : Run)
    → IsAgreedEnd c delivered runs stage posts
    → Contains runs run → run.config.round ≡ c.round → Contains (1 ∷ 2 ∷ []) shuffle → HasSeeds c posts shuffle
    → go + 1 ≡ final_stage (shape_in c) shuffle → go < stage → ((shuffle == 1) ≡ false → (shape_in c).members + 4 < go)
    → kind_of_stage (shape_in c) (final_stage (shape_in c) shuffle) ≡ Some (AtFinal shuffle)
    → (place : ℕ) × OpensAt c posts shuffle run place
run-opens c delivered runs stage shuffle go posts run end listed round is has at early far kind = opens-at c posts shuffle run shape_is has
    in_list
  where
    shape : Shape
    shape = shape_in c

    its : HonestRun run
    its = run-honest c.roster runs run end.among.honest listed

    shape_is : shape_in run.config ≡ shape_in c
    shape_is = ap (λ (r : Roster). shape_of_roster r) (run-roster c.roster runs run end.among.honest listed)

    final : ℕ
    final = final_stage shape shuffle

    closes : ClosingKind shape final
    closes = final-closes shape final shuffle kind

    go_is : final - 1 ≡ go
    go_is = omega (arith, at)

    go_kind : kind_of_stage shape go ≡ Some (AtGo shuffle)
    go_kind = sym (ap (kind_of_stage shape) go_is) ∙ (closing-follows shape final (AtFinal shuffle) (AtGo shuffle) kind refl).1

    within : (1 ≤ run.config.number) × (run.config.number ≤ shape.members)
    within =
        let bounds = slot-bounds (shape_in run.config) 0 run.config.number (own-speaks run.config its.config) in
        (bounds.1, subst (λ (s : Shape). run.config.number ≤ s.members) shape_is bounds.2)

    some : 1 ≤ shape.members
    some = (let least = within.0 in let most = within.1 in omega (arith, least, most))

    speaks_go : is_slot shape go run.config.number ≡ true
    speaks_go = ap (λ (o : Option StageKind). speaks shape o run.config.number) go_kind
        ∙ member-there shape.members run.config.number within.0 within.1

    mine : RowIn c delivered run posts go
    mine = row-in c delivered runs (stage + 1) go posts run end.among end.kept.kept listed round speaks_go (omega (arith, early))

    same : HasSamePast c (stage - 1) posts run
    same = same_past c delivered runs stage posts run end listed round

    votes : AreYes shape (contents_of posts) final
    votes = votes-yes shape (contents_of posts) final closes has.votes

    text_there : slice_get (contents_of posts) (slot_number shape (final - 1) run.config.number) ≡ Some mine.kept.post.content
    text_there = ap (λ (s : ℕ). slice_get (contents_of posts) (slot_number shape s run.config.number)) go_is
        ∙ slice_get-map (λ (p : Post). p.content) posts _ ∙ ap (option_map (λ (p : Post). p.content)) mine.kept.at

    mine_stage : mine.row.stage ≡ go
    mine_stage = mine.at

    yes_is : IsGoYes run shuffle votes.view mine.row.past go
    yes_is = subst (λ (s : ℕ). IsGoYes run shuffle votes.view mine.row.past s) mine.at
        (go-yes run mine.kept.post.content mine.row shuffle votes.view
        (ap (kind_of_stage (shape_in run.config)) mine.at ∙ ap (λ (s : Shape). kind_of_stage s go) shape_is ∙ go_kind)
        (subst (λ (s : Shape). IsYes s votes.view mine.kept.post.content) (sym shape_is)
        (votes.each run.config.number mine.kept.post.content within.0 within.1 text_there)))

    -- the run's past at its vote is the front of what the member kept
    past_front : mine.row.past ≡ take (slots_before run.log.shape go) same.past
    past_front = row_past run go (stage - 1) mine.row.past same.past (omega (arith, early))
        (subst (λ (s : ℕ). before run.log s ≡ Some mine.row.past) mine.at mine.row.before) same.kept

    log_shape : run.log.shape ≡ shape
    log_shape = its.shape ∙ shape_is

    past_is : contents_of mine.row.past ≡ front shape (contents_of posts) go
    past_is =
        ap contents_of past_front ∙ sym (take-map (λ (p : Post). p.content) (slots_before run.log.shape go) same.past)
        ∙ ap (λ (s : Shape). take (slots_before s go) (contents_of same.past)) log_shape
        ∙ ap (take (slots_before shape go)) same.same
        ∙ take-take (slots_before shape go) (slots_before shape (stage - 1)) (contents_of posts)
        (slots_before-rises shape go (stage - 1) (omega (arith, early)))

    whole : slots_before shape go ≤ length posts
    whole = (let long = (end-past (run_after c delivered) stage posts end.kept).long in omega
        (arith, long, slots_before-rises shape go (stage + 1) (omega (arith, early))))

    in_list : InList c posts shuffle (inner_kept posts run shuffle)
    in_list = go-row-in c posts run mine.row.past shuffle go votes.view shape_is some is at far whole past_is yes_is

pub place_opens : PlaceOpens
place_opens c delivered runs stage posts run end late listed round =
    let final_is : final_stage (shape_in c) 1 ≡ (shape_in c).members + 3 = omega arith in
    run-opens c delivered runs stage 1 ((shape_in c).members + 2) posts run end listed round (contains-here 1 (2 ∷ []))
    (first-seeds c delivered runs stage posts end late)
    (omega (arith, final_is)) (omega (arith, late)) (λ other. absurd (let both = sym (eq-eqb 1 1 refl) ∙ other in cc))
    (final_a_is (shape_in c) (final_stage (shape_in c) 1) final_is)

-- ---- two places

first-wrapped : (n : ℕ) (f g h : ℕ → List ℕ) (a b : List ℕ) → 1 ≤ n → IsMessage (g 1) → IsMessage (h 1)
    → wrapping_of (map key_of_seed (map f (range_with_len 1 n))) (map g (range_with_len 1 n)) a ≡ wrapping_of
    (map key_of_seed (map f (range_with_len 1 n))) (map h (range_with_len 1 n)) b
    → g 1 ≡ h 1
first-wrapped zero f g h a b some message other e = absurd (omega (arith, some))
first-wrapped (suc m) f g h a b some message other e =
    outermost_determined (f 1) (g 1) (h 1) (map key_of_seed (map f (range_with_len (1 + 1) m)))
    (map key_of_seed (map f (range_with_len (1 + 1) m)))
    (map g (range_with_len (1 + 1) m)) (map h (range_with_len (1 + 1) m)) a b message other e

lists-same : (a b : List (List ℕ)) → (let told : List (List ℕ) → Option (List (List ℕ)) = λ z. Some z in told a ≡ told b) → a ≡ b
lists-same a b e = cc

entry-same : (a b : List ℕ) → (let told : List ℕ → Option (List ℕ) = λ z. Some z in told a ≡ told b) → a ≡ b
entry-same a b e = cc

own-layer : (runs : List Run) (run : Run) (shuffle : ℕ) → HonestRun run → Contains runs run → Contains (1 ∷ 2 ∷ []) shuffle
    → Contains (strings_of_runs runs) (layer_seed_string (own_opening run.config shuffle 1) run.config.round shuffle 1 run.config.number 1)
own-layer runs run shuffle honest listed is =
    let bounds = slot-bounds (shape_in run.config) 0 run.config.number (own-speaks run.config honest.config) in
    let least = bounds.1 in
    let most = bounds.2 in
    contains-flat-from strings_of_run runs run _ listed ((run_has_strings run).own_layers shuffle 1 1 is (contains-here 1 (2 ∷ []))
    (omega arith) (omega (arith, least, most)))

pub places_differ : PlacesDiffer
places_differ c runs posts shuffle run other place other_place honest distinct listed other_listed is has apart opens other_opens same_place
    =
    apart number_same
  where
    its : HonestRun run
    its = run-honest c.roster runs run honest listed

    others : HonestRun other
    others = run-honest c.roster runs other honest other_listed

    shape_is : shape_in run.config ≡ shape_in c
    shape_is = ap (λ (r : Roster). shape_of_roster r) (run-roster c.roster runs run honest listed)

    other_shape : shape_in other.config ≡ shape_in c
    other_shape = ap (λ (r : Roster). shape_of_roster r) (run-roster c.roster runs other honest other_listed)

    list_same : opens.list ≡ other_opens.list
    list_same = lists-same opens.list other_opens.list (sym opens.said ∙ other_opens.said)

    entry : inner_kept posts run shuffle ≡ inner_kept posts other shuffle
    entry = entry-same _ _ (sym opens.stands ∙ ap (slice_get opens.list) same_place
        ∙ ap (λ (l : List (List ℕ)). slice_get l other_place) list_same ∙ other_opens.stands)

    f : ℕ → List ℕ
    f = λ m. seed_in (said_in (shape_in c) (contents_of posts) (final_stage (shape_in c) shuffle) m)

    g : ℕ → List ℕ
    g = layer_seed (own_opening run.config shuffle 1) run.config.round shuffle 1 run.config.number

    h : ℕ → List ℕ
    h = layer_seed (own_opening other.config shuffle 1) other.config.round shuffle 1 other.config.number

    n : ℕ
    n = (shape_in c).members

    some : 1 ≤ n
    some =
        let bounds = slot-bounds (shape_in run.config) 0 run.config.number (own-speaks run.config its.config) in
        let least = bounds.1 in
        let most = bounds.2 in
        omega (arith, least, most, ap (λ (s : Shape). s.members) shape_is)

    wrapped : wrapping_of (map key_of_seed (map f (range_with_len 1 n))) (map g (range_with_len 1 n)) (item_kept posts run shuffle)
        ≡ wrapping_of (map key_of_seed (map f (range_with_len 1 n))) (map h (range_with_len 1 n)) (item_kept posts other shuffle)
    wrapped =
        ap (λ (s : Shape). wrapping_of (map key_of_seed (map f (range_with_len 1 n))) (map g (range_with_len 1 s.members))
        (item_kept posts run shuffle)) (sym shape_is)
        ∙ sym (inner-wrapped c posts shuffle run shape_is has) ∙ entry ∙ inner-wrapped c posts shuffle other other_shape has
        ∙ ap (λ (s : Shape). wrapping_of (map key_of_seed (map f (range_with_len 1 n))) (map h (range_with_len 1 s.members))
        (item_kept posts other shuffle)) other_shape

    message : (opening : List ℕ) (round member : ℕ) → IsMessage (layer_seed opening round shuffle 1 member 1)
    message opening round member = (let is_hash = hash_bytes LayerSeed (layer_seed_pieces opening round shuffle 1 member 1) in record
        { length = is_hash.0; bytes = is_hash.1 })

    seeds_same : g 1 ≡ h 1
    seeds_same = first-wrapped n f g h (item_kept posts run shuffle) (item_kept posts other shuffle) some
        (message (own_opening run.config shuffle 1) run.config.round run.config.number)
        (message (own_opening other.config shuffle 1) other.config.round other.config.number) wrapped

    number_same : run.config.number ≡ other.config.number
    number_same = (layer_seed_determines (strings_of_runs runs) (own_opening run.config shuffle 1) (own_opening other.config shuffle 1)
        run.config.round other.config.round shuffle shuffle 1 1
        run.config.number other.config.number 1 1 distinct (own-layer runs run shuffle its listed is)
        (own-layer runs other shuffle others other_listed is)
        (hash_bytes _ _).0 (hash_bytes _ _).0 its.config.enter.round others.config.enter.round seeds_same).4
