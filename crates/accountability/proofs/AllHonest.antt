-- Where all members are honest, nothing but a bad pad is shown of any of them.
use Rattle.std.proofs.Common.{arith, refl, All, Contains, List, Ok, Option, Result, Some, ap, false, inl, inr, length, map, slice_get, subst, sym, take, true, ◌≡◌, ◌∙◌, ◌∷◌, ◌≤◌, ◌+◌, ◌-◌, [], ℕ}
use Rattle.std.proofs.lemmas.List.{take_all}
use Rattle.phase_message.specs.declared.stage.StageKind.TheVariants.{Final as AtFinal}
use Rattle.phase_message.specs.declared.content.Body.TheVariants.{Dispute, Reveal}
use Rattle.transcript_form.specs.declared.claim.Claim.TheVariants.{Equivocation, Malformed, WrongSeed, BadLog, Replay, Pad}
use Rattle.stage_log.specs.Log.{before, contents_of}
use Rattle.conviction.specs.Accepts.{Convicts as Shows}
use Rattle.round_spec.specs.Verdict.{Convicts, Goes, ClosedStage, Verdict, closing_body, inquiry_into, is_closing, shape_at, shown_at, shown_in, verdict_of}
use Rattle.std.proofs.lemmas.List.Elements.{All-take}
use Rattle.accountability.specs.AllHonest.{AllHaveRuns, NothingButPads}
use Rattle.round_spec.specs.Cases.{AreFaithful, ByBadLog, ByBadPad, ByEquivocation, ByReplay, ByWrongSeed, Case, Ends, GoesOn, IsFaithful, IsMemberOf, agree_before}
use Rattle.round_spec.specs.Embedded.{BadPost, posts_in_content}
use Rattle.round_spec.specs.Result.{Blamed, first_posts, result_of}
use Rattle.phase_message.specs.declared.content.Body.{Body}
use Rattle.transcript_form.specs.declared.claim.Claim.{Claim}
use Rattle.round_spec.proofs.AgreedClosings.{ClosingKind}
use Rattle.round_spec.specs.Say.{Configuration, own_key_seed, own_opening, shape_in}
use Rattle.phase_message.specs.declared.content.Content.{Content}
use Rattle.shuffle_blame.specs.declared.fault.Fault.{Fault}
use Rattle.shuffle_blame.specs.Laws.{HasShownStrings}
use Rattle.round_spec.specs.Runs.{HonestRun, Run, SaidBy, Sent, run_after}
use Rattle.shuffle_blame.specs.Replay.{Inquiry, culprit_of, outer_opening, outer_place, outer_seed}
use Rattle.accountability.specs.Evidence.{IsAccepted, IsKeptEnd}
use Rattle.accountability.specs.Faulty.{IsAmong}
use Rattle.accountability.proofs.Faulty.{IsBlame, blame-of, evidence-traced, traced-sent, transcript-one}
use Rattle.wire_core.specs.Bytes.{IsBytes}
use Rattle.conviction.specs.Blame.{IsOwnInquiry}
use Rattle.round_spec.specs.Rows.{IsRunOf}
use Rattle.round_spec.specs.Premises.{NoRunsCollide, strings_of_run, strings_of_runs}
use Rattle.conviction.proofs.Closings.{OwnClosing, final-is, is-past, own-closing, own_final}
use Rattle.phase_message.specs.declared.post.Post.{Post}
use Rattle.group_roster.specs.Roster.{Roster, shape_of_roster}
use Rattle.accountability.proofs.Rows.{RowIn, row-in}
use Rattle.accountability.proofs.Messages.{RunFacts, run-facts}
use Rattle.phase_message.specs.Shape.{Shape}
use Rattle.shuffle_blame.specs.declared.fault.Shown.{Shown}
use Rattle.phase_message.specs.declared.stage.StageKind.{StageKind}
use Rattle.transcript_form.specs.declared.transcript.Transcript.{Transcript}
use Rattle.conviction.proofs.ReplayStrings.{accused-within}
use Rattle.conviction.proofs.Replays.{by-member}
use Rattle.std.proofs.lemmas.Bool.{cases_Bool, cond-false, cond-true}
use Rattle.accountability.proofs.Kept.{closing-kind, content-is, content-reads, content-stage, said-in, transcript-same, whole-end}
use Rattle.round_spec.specs.Course.{closing_of, course_of}
use Rattle.round_spec.proofs.Contained.{contains-flat-from, contains-here, contains-later}
use Rattle.phase_message.specs.Offence.{content_read}
use Rattle.conviction.proofs.Bodies.{contents-same, row-reads}
use Rattle.accountability.proofs.Evidence.{convicts-not, evidence_accepted, firsts-check, stand-closed}
use Rattle.shuffle_blame.proofs.Blamed.{culprit-one}
use Rattle.go_nogo.specs.Closing.{embedded_of, is_assent}
use Rattle.accountability.proofs.Endings.{ending-cases}
use Rattle.shuffle_blame.proofs.Endings.{ends_at}
use Rattle.round_spec.proofs.Verdicts.{faithful, verdict_cases}
use Rattle.go_nogo.specs.Rows.{final_row, posts_at, written}
use Rattle.conviction.proofs.OnePost.{frame_bad_log, frame_wrong_seed}
use Rattle.conviction.proofs.Posts.{frame_equivocation, frame_malformed, run-honest, run-roster}
use Rattle.std.proofs.lemmas.Option.{get_or_from_slice_get, slice_get-map}
use Rattle.wire_core.proofs.ByteLists.{hash_bytes}
use Rattle.std.specs.Prelude.{is_some, option_and_then, option_map}
use Rattle.phase_message.specs.Stages.{kind_of_stage, vote_of}
use Rattle.wire_core.specs.Hash.{layer_seed_string}
use Rattle.std.proofs.lemmas.List.FromFn.{length-map-range_with_len}
use Rattle.conviction.proofs.OwnReplays.{replay_not_own}
use Rattle.round_spec.proofs.Honesty.{run_after_is_honest}
use Rattle.round_spec.proofs.Strings.{run_has_strings}
use Rattle.round_spec.specs.Slots.{said_in}
use Rattle.round_spec.proofs.Beginnings.{shape-is}
use Rattle.phase_message.specs.Slots.{slots_before}
use Rattle.go_nogo.specs.Votes.{votes_agree}

-- ---- what dissents at the end of a shuffle

row-dissents : (shape : Shape) (posts : List Post) (stage : ℕ) (inner outer opening : List ℕ)
    → is_assent (final_row shape posts stage inner outer opening) ≡ false
    → final_row shape posts stage inner outer opening ≡ Dispute (written posts) outer opening
unfolding final_row
row-dissents shape posts stage inner outer opening e = elim (cases_Bool (votes_agree shape (contents_of posts) stage)) [
  | inl agree ↦ absurd (
      let row = cond-true (votes_agree shape (contents_of posts) stage) (Reveal (written (posts_at shape posts (stage - 1))) inner)
      (Dispute (written posts) outer opening) agree in
      let both = sym (ap is_assent row) ∙ e in cc)
  | inr differ ↦ cond-false (votes_agree shape (contents_of posts) stage) (Reveal (written (posts_at shape posts (stage - 1))) inner)
      (Dispute (written posts) outer opening) differ
]

-- ---- what each run kept where all dissent

-- a run at the end of a closing stage where all dissent
record Dissents (c : Configuration) (posts : List Post) (stage : ℕ) (run : Run) : Type 0 where
  pub past : List Post
  pub kept : before run.log stage ≡ Some past
  pub same : contents_of past ≡ take (slots_before (shape_in c) stage) (contents_of posts)
  pub shows : (shuffle : ℕ) → kind_of_stage (shape_in c) stage ≡ Some (AtFinal shuffle)
      → (posts_shown : List (List ℕ)) × (said_in (shape_in c) (contents_of posts) stage run.config.number
      ≡ Dispute posts_shown (own_key_seed run.config (outer_place shuffle)) (own_opening run.config shuffle 2))

posts-told : (xs ys : List Post) → (let told : List Post → Result (List Post) BadPost = λ z. Ok z in told xs ≡ told ys) → xs ≡ ys
posts-told xs ys e = cc

run-dissents : (c : Configuration) (delivered : List (List ℕ)) (runs : List Run) (stage : ℕ) (posts : List Post) (run : Run)
    → IsAmong c delivered runs
    → IsKeptEnd (run_after c delivered) stage posts → AreFaithful (closing_of c posts stage)
    → agree_before (closing_of c posts stage) ≡ false
    → Contains runs run → run.config.round ≡ c.round → Dissents c posts stage run
run-dissents c delivered runs stage posts run among end faithful disagree listed round = record
    { past = mine.row.past; kept = mine_kept; same = same; shows = shows }
  where
    shape : Shape
    shape = shape_in c

    facts : RunFacts c run
    facts = run-facts c runs run among.honest listed

    closes : ClosingKind shape stage
    closes = closing-kind shape stage end.closing

    member : IsMemberOf (closing_of c posts stage) run.config.number
    member = record { least = facts.least; most = facts.most }

    mine : RowIn c delivered run posts stage
    mine = row-in c delivered runs (stage + 1) stage posts run among end.kept listed round
        (closes.all_close run.config.number facts.least facts.most) (omega arith)

    mine_kept : before run.log stage ≡ Some mine.row.past
    mine_kept = subst (λ (s : ℕ). before run.log s ≡ Some mine.row.past) mine.at mine.row.before

    f : IsFaithful (closing_of c posts stage) run.config.number
    f = faithful run.config.number member

    kept_is : mine.kept.checks.content ≡ f.content
    kept_is = content-is (run_after c delivered) stage run.config.number posts f.content mine.kept f.reads

    read_is : mine.row.read ≡ mine.kept.checks.content
    read_is = contents-same mine.row.read mine.kept.checks.content (content_read shape mine.kept.post.content)
        (ap (λ (s : Shape). content_read s mine.kept.post.content) (sym facts.shape_is) ∙ row-reads run mine.kept.post.content mine.row)
        (content-reads (run_after c delivered) posts stage run.config.number mine.kept)

    dissents : is_assent mine.row.read.body ≡ false
    dissents = ap (λ (x : Content). is_assent x.body) (read_is ∙ kept_is) ∙ f.assents ∙ disagree

    closing : is_some (option_and_then vote_of (kind_of_stage (shape_in run.config) mine.row.stage)) ≡ true
    closing = ap (λ (s : Shape). is_some (option_and_then vote_of (kind_of_stage s mine.row.stage))) facts.shape_is
        ∙ ap (is_closing shape) mine.at ∙ end.closing

    own : OwnClosing run mine.row.past mine.row.read
    own = own-closing run mine.kept.post.content mine.row facts.honest closing

    past_long : length mine.row.past ≡ slots_before shape stage
    past_long = (is-past run stage mine.row.past facts.honest mine_kept).long ∙ ap (λ (s : Shape). slots_before s stage) facts.shape_is

    stage_is : f.content.header.stage ≡ stage
    stage_is = ap (λ (x : Content). x.header.stage) (sym kept_is)
        ∙ content-stage (run_after c delivered) posts stage run.config.number mine.kept

    objects_there : is_assent f.content.body ≡ false
    objects_there = f.assents ∙ disagree

    embedded : f.posts ≡ mine.row.past
    embedded =
        posts-told f.posts (embedded_of (shape_in run.config) mine.row.read mine.row.past)
        (sym f.embeds ∙ ap (λ (x : Content). posts_in_content c.roster c.round x) (sym (read_is ∙ kept_is))
        ∙ ap (λ (r : Roster). posts_in_content r c.round mine.row.read) (sym (run-roster c.roster runs run among.honest listed))
        ∙ ap (λ (r : ℕ). posts_in_content run.config.roster r mine.row.read) (sym round) ∙ own.embeds)
        ∙ cond-false (is_assent mine.row.read.body) _ (take (slots_before (shape_in run.config) mine.row.read.header.stage) mine.row.past)
        dissents
        ∙ take_all (slots_before (shape_in run.config) mine.row.read.header.stage) mine.row.past
        (omega (
          arith,
          past_long,
          ap (λ (x : Content). slots_before (shape_in run.config) x.header.stage) (read_is ∙ kept_is),
          ap
              (slots_before (shape_in run.config)) stage_is,
          ap (λ (s : Shape). slots_before s stage) facts.shape_is,
        ))

    same : contents_of mine.row.past ≡ take (slots_before shape stage) (contents_of posts)
    same = ap contents_of (sym embedded) ∙ f.contents
        ∙ cond-false (is_assent f.content.body) _ (take (slots_before shape f.content.header.stage) (contents_of posts)) objects_there
        ∙ ap (λ (s : ℕ). take (slots_before shape s) (contents_of posts)) stage_is

    shows : (shuffle : ℕ) → kind_of_stage shape stage ≡ Some (AtFinal shuffle)
        → (posts_shown : List (List ℕ)) × (said_in shape (contents_of posts) stage run.config.number ≡ Dispute posts_shown
        (own_key_seed run.config (outer_place shuffle)) (own_opening run.config shuffle 2))
    shows shuffle kind =
        let kind_there : kind_of_stage (shape_in run.config) mine.row.stage ≡ Some (AtFinal shuffle) =
        ap (λ (s : Shape). kind_of_stage s mine.row.stage) facts.shape_is ∙ ap (kind_of_stage shape) mine.at ∙ kind in
        let read : mine.row.read ≡ own_final run shuffle mine.row.past mine.row.stage = final-is run mine.kept.post.content mine.row shuffle
        facts.honest kind_there in (
          written mine.row.past,
          said-in (run_after c delivered) posts stage run.config.number mine.kept ∙ ap (λ (x : Content). x.body) (sym read_is ∙ read)
              ∙ row-dissents (shape_in run.config) mine.row.past mine.row.stage _ _ _
              (sym (ap (λ (x : Content). is_assent x.body) read) ∙ dissents),
        )

-- ---- a replay blames nobody

-- what is shown at the end of a shuffle, by member
shown-there : (v : ClosedStage) (shuffle member : ℕ) → kind_of_stage (shape_at v) v.stage ≡ Some (AtFinal shuffle) → 1 ≤ member
    → member ≤ (shape_at v).members
    → slice_get (inquiry_into v).shown (member - 1) ≡ Some (shown_in (closing_body v member))
shown-there v shuffle member kind least most =
    ap (λ (o : Option StageKind). slice_get (shown_at v o) (member - 1)) kind
    ∙ by-member (λ m. shown_in (closing_body v m)) (shape_at v).members member least most

shown-count : (v : ClosedStage) (shuffle : ℕ) → kind_of_stage (shape_at v) v.stage ≡ Some (AtFinal shuffle)
    → length (inquiry_into v).shown ≡ (shape_at v).members
shown-count v shuffle kind =
    ap (λ (o : Option StageKind). length (shown_at v o)) kind ∙ length-map-range_with_len (λ m. shown_in (closing_body v m)) 1
    (shape_at v).members

own-shown : (c : Configuration) (posts : List Post) (stage shuffle : ℕ) (run : Run) → (d : Dissents c posts stage run)
    → kind_of_stage (shape_in c) stage ≡ Some (AtFinal shuffle)
    → 1 ≤ run.config.number → run.config.number ≤ (shape_in c).members
    → (outer_seed (inquiry_into (closing_of c posts stage)) run.config.number ≡ own_key_seed run.config (outer_place shuffle))
    × (outer_opening (inquiry_into (closing_of c posts stage)) run.config.number ≡ own_opening run.config shuffle 2)
own-shown c posts stage shuffle run d kind least most =
    let v : ClosedStage = closing_of c posts stage in
    let said = d.shows shuffle kind in
    let shown : slice_get (inquiry_into v).shown (run.config.number - 1) ≡ Some
    (record { outer_seed = own_key_seed run.config (outer_place shuffle); outer_opening = own_opening run.config shuffle 2 }) =
    shown-there v shuffle run.config.number kind least most ∙ ap (λ (b : Body). Some (shown_in b)) said.1 in (
      get_or_from_slice_get (map (λ (s : Shown). s.outer_seed) (inquiry_into v).shown) (run.config.number - 1)
          (own_key_seed run.config (outer_place shuffle)) []
          (slice_get-map (λ (s : Shown). s.outer_seed) (inquiry_into v).shown (run.config.number - 1)
          ∙ ap (option_map (λ (s : Shown). s.outer_seed)) shown),
      get_or_from_slice_get (map (λ (s : Shown). s.outer_opening) (inquiry_into v).shown) (run.config.number - 1)
          (own_opening run.config shuffle 2) []
          (slice_get-map (λ (s : Shown). s.outer_opening) (inquiry_into v).shown (run.config.number - 1)
          ∙ ap (option_map (λ (s : Shown). s.outer_opening)) shown),
    )

shuffle-listed : (shape : Shape) (stage shuffle : ℕ) → kind_of_stage shape stage ≡ Some (AtFinal shuffle) → Contains (1 ∷ 2 ∷ []) shuffle
shuffle-listed shape stage shuffle kind = elim (ends_at shape stage shuffle kind) [
  | inl a ↦ subst (Contains (1 ∷ 2 ∷ [])) (sym a.0) (contains-here 1 (2 ∷ []))
  | inr b ↦ subst (Contains (1 ∷ 2 ∷ [])) (sym b.0) (contains-later 1 (2 ∷ []) 2 (contains-here 2 []))
]

nobody-blamed : (c : Configuration) (delivered : List (List ℕ)) (runs : List Run) (stage : ℕ) (posts : List Post) (found : Fault)
    → IsAmong c delivered runs → NoRunsCollide runs → AllHaveRuns c runs
    → IsKeptEnd (run_after c delivered) stage posts → AreFaithful (closing_of c posts stage)
    → agree_before (closing_of c posts stage) ≡ false
    → culprit_of (inquiry_into (closing_of c posts stage)) ≡ Some found → ⊥
nobody-blamed c delivered runs stage posts found among distinct all end faithful disagree e =
    replay_not_own run.0 q (strings_of_runs runs) found its own_inquiry end.closing shown e (sym run.1.number)
  where
    q : Inquiry
    q = inquiry_into (closing_of c posts stage)

    shape : Shape
    shape = shape_in c

    one : (1 ≤ found.member) × (found.member ≤ q.shape.members)
    one = culprit-one q found e

    run : (run : Run) × IsRunOf runs found.member c.round run
    run = all found.member one.0 one.1

    its : HonestRun run.0
    its = run-honest c.roster runs run.0 among.honest run.1.listed

    facts : RunFacts c run.0
    facts = run-facts c runs run.0 among.honest run.1.listed

    d : Dissents c posts stage run.0
    d = run-dissents c delivered runs stage posts run.0 among end faithful disagree run.1.listed run.1.round

    own_inquiry : IsOwnInquiry run.0 q
    own_inquiry = record {
      shape = sym facts.shape_is;
      round = sym run.1.round;
      posts = d.past;
      kept = d.kept;
      past = sym d.same;
      shows = λ shuffle kind. (
          let own = own-shown c posts stage shuffle run.0 d kind facts.least facts.most in
          record { many = shown-count (closing_of c posts stage) shuffle kind; seed = own.0; opening = own.1 });
    }

    of-member : (shuffle member : ℕ) → kind_of_stage shape stage ≡ Some (AtFinal shuffle) → 1 ≤ member → member ≤ shape.members
        → (other : Run) × IsRunOf runs member c.round other × (outer_opening q member ≡ own_opening other.config shuffle 2)
    of-member shuffle member kind least most =
        let other = all member least most in
        let its_facts = run-facts c runs other.0 among.honest other.1.listed in
        let its_d = run-dissents c delivered runs stage posts other.0 among end faithful disagree other.1.listed other.1.round in
        let own = own-shown c posts stage shuffle other.0 its_d kind its_facts.least its_facts.most in
        (other.0, other.1, subst (λ (m : ℕ). outer_opening q m ≡ own_opening other.0.config shuffle 2) other.1.number own.1)

    shown : (shuffle : ℕ) → kind_of_stage q.shape q.stage ≡ Some (AtFinal shuffle) → HasShownStrings q shuffle (strings_of_runs runs)
    shown shuffle kind = record {
      distinct = distinct;
      openings = λ member is. (let other = of-member shuffle member kind is.least is.most in ap length other.2 ∙ (hash_bytes _ _).0);
      round_small = among.config.enter.round;
      shown = λ member layer is its_layer. layer-there shuffle member layer kind is.least is.most its_layer.least its_layer.most;
    }
      where
        layer-there : (shuffle member layer : ℕ) → kind_of_stage shape stage ≡ Some (AtFinal shuffle) → 1 ≤ member → member ≤ shape.members
            → 1 ≤ layer → layer ≤ shape.members
            → Contains (strings_of_runs runs) (layer_seed_string (outer_opening q member) c.round shuffle 2 member layer)
        layer-there shuffle member layer kind least most first last =
            let other = of-member shuffle member kind least most in
            let its_facts = run-facts c runs other.0 among.honest other.1.listed in
            let there_is = contains-flat-from strings_of_run runs other.0 _ other.1.listed
            ((run_has_strings other.0).own_layers shuffle 2 layer (shuffle-listed shape stage shuffle kind)
            (contains-later 1 (2 ∷ []) 2 (contains-here 2 [])) first
            (subst (λ (s : Shape). layer ≤ s.members) (sym its_facts.shape_is) last)) in
            subst (λ (o : List ℕ). Contains (strings_of_runs runs) (layer_seed_string o c.round shuffle 2 member layer)) (sym other.2)
            (subst (λ (m : ℕ). Contains (strings_of_runs runs) (layer_seed_string (own_opening other.0.config shuffle 2) c.round shuffle 2 m
            layer)) other.1.number
            (subst (λ (r : ℕ). Contains (strings_of_runs runs) (layer_seed_string (own_opening other.0.config shuffle 2) r shuffle 2
            other.0.config.number layer)) other.1.round there_is))

-- ---- by claim

-- a replay is shown of nobody
no-replay : (c : Configuration) (delivered : List (List ℕ)) (runs : List Run) (t : Transcript) → IsAmong c delivered runs
    → NoRunsCollide runs → AllHaveRuns c runs
    → result_of c delivered ≡ Blamed t → t.claim ≡ Replay → ⊥
no-replay c delivered runs t among distinct all e claim = elim (ending-cases c part (Convicts t) blame.ends) [
  | inl last ↦ elim last.shows [
    | inl malformed ↦ other-claim t _ _ malformed.verdict_is refl claim (λ same. absurd cc)
    | inr other ↦ other-claim t _ _ other.verdict_is refl claim (λ same. absurd cc)
  ]
  | inr course ↦
      let closed = stand-closed c (first_posts c part) (Convicts t) among.config (firsts-check c part part_bytes) course.1
      (λ goes. convicts-not t Goes (inl refl) goes) in
      of-verdict closed.0 (course_of c (first_posts c part)).past
      (subst (λ (run : Run). IsKeptEnd run closed.0 (course_of c (first_posts c part)).past) (sym blame.run_is) closed.1.kept)
      closed.1.verdict_is
]
  where
    blame : IsBlame c delivered t
    blame = blame-of c delivered t e

    part : List (List ℕ)
    part = take blame.count delivered

    part_bytes : All IsBytes part
    part_bytes = All-take IsBytes blame.count delivered among.bytes

    other-claim : (t other : Transcript) (v : Verdict) → v ≡ Convicts other → Convicts t ≡ v → t.claim ≡ Replay → (other.claim ≡ Replay → ⊥)
        → ⊥
    other-claim t other v is same its apart = apart (sym (ap (λ (x : Transcript). x.claim) (transcript-same t other (same ∙ is))) ∙ its)

    of-verdict : (stage : ℕ) (posts : List Post) → IsKeptEnd (run_after c delivered) stage posts
        → verdict_of (closing_of c posts stage) ≡ Convicts t → ⊥
    of-verdict stage posts end verdict = by_case (verdict_cases (closing_of c posts stage)
        (whole-end (run_after c delivered) stage posts end))
      where
        by_case : Case (closing_of c posts stage) (verdict_of (closing_of c posts stage)) → ⊥
        by_case (ByBadLog is) = other-claim t _ _ is.verdict_is (sym verdict) claim (λ same. absurd cc)
        by_case (ByEquivocation is) = other-claim t _ _ is.verdict_is (sym verdict) claim (λ same. absurd cc)
        by_case (ByWrongSeed is) = other-claim t _ _ is.verdict_is (sym verdict) claim (λ same. absurd cc)
        by_case (ByBadPad is) = other-claim t _ _ is.verdict_is (sym verdict) claim (λ same. absurd cc)
        by_case (ByReplay is) = nobody-blamed c delivered runs stage posts is.fault among distinct all end is.faithful is.votes is.culprit
        by_case (GoesOn agree work goes) = convicts-not t (verdict_of (closing_of c posts stage)) (inl goes) (sym verdict)
        by_case (Ends agree done ends) = convicts-not t (verdict_of (closing_of c posts stage)) (inr ends) (sym verdict)

pub nothing_but_pads : NothingButPads
nothing_but_pads c delivered runs t among distinct all e = by_claim t.claim refl shows
  where
    accepts : IsAccepted c.roster t
    accepts = evidence_accepted c delivered t among.config among.bytes e

    same : accepts.accepts.transcript ≡ t
    same = transcript-one (shape_of_roster c.roster) accepts.accepts.transcript t (shape-is c among.config.enter) accepts.accepts.form
        (accepts.accepts.spelled) accepts.form

    shows : Shows c.roster t t.claim
    shows = subst (λ (x : Transcript). Shows c.roster x t.claim) same accepts.accepts.convicts

    within : (1 ≤ t.accused) × (t.accused ≤ (shape_in c).members)
    within = accused-within (shape_in c) t accepts.form

    run : (run : Run) × IsRunOf runs t.accused c.round run
    run = all t.accused within.0 within.1

    said : SaidBy c.roster runs t.accused t.round t.posts
    said bytes post header there_is spelled admitted sender =
        subst (λ (n : ℕ). Sent runs n post.content) sender
        (traced-sent runs (run_after c delivered) delivered bytes post header t.round
        (run_after_is_honest c delivered among.config among.bytes) among.own among.unforged
        (evidence-traced c delivered t among.config among.bytes e bytes there_is) spelled admitted
        (run.0, run.1.listed, run.1.number ∙ sym sender))

    by_claim : (claim : Claim) → t.claim ≡ claim → Shows c.roster t claim → t.claim ≡ Pad
    by_claim Pad is shown = is
    by_claim Equivocation is shown = absurd (frame_equivocation c.roster runs t among.honest said shown)
    by_claim Malformed is shown = absurd (frame_malformed c.roster runs t among.honest said shown)
    by_claim WrongSeed is shown = absurd (frame_wrong_seed c.roster runs t among.honest said shown)
    by_claim BadLog is shown = absurd (frame_bad_log c.roster runs t among.honest said shown)
    by_claim Replay is shown = absurd (no-replay c delivered runs t among distinct all e is)
