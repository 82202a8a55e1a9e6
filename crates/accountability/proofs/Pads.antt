-- An accusation that holds at the end of shuffle B convicts whom it names.
use Rattle.std.proofs.Common.{arith, refl, IsSome, List, None, Option, Some, ap, inl, inr, map, slice_get, slice_index_or, subst, sym, take, true, ◌≡◌, ◌≢◌, ◌∙◌, ◌<◌, ◌≤◌, ◌+◌, ◌-◌, [], ℕ}
use Rattle.go_nogo.specs.Votes.{votes_agree}
use Rattle.std.proofs.lemmas.List.{length-map, take-map, take-take}
use Rattle.phase_message.specs.declared.stage.StageKind.TheVariants.{Go as AtGo, Final as AtFinal}
use Rattle.phase_message.specs.declared.content.Body.TheVariants.{Dispute, Reveal}
use Rattle.round_spec.specs.Runs.{AllGo, HonestRun, Run}
use Rattle.round_spec.proofs.AgreedClosings.{ClosingKind, agreed-there, final-closes}
use Rattle.round_spec.proofs.PastForms.{checks-read}
use Rattle.phase_message.specs.declared.content.Content.{Content}
use Rattle.accountability.specs.Evidence.{IsKeptEnd}
use Rattle.round_spec.specs.Rows.{IsOwnRow}
use Rattle.conviction.proofs.Closings.{IsPast, final-is, is-past}
use Rattle.accountability.proofs.Kept.{KeptIn, body-of_kind, closing-kind, content-reads, kept-in, said-in}
use Rattle.phase_message.specs.declared.post.Post.{Post}
use Rattle.phase_message.specs.Shape.{Shape}
use Rattle.phase_message.specs.declared.stage.StageKind.{StageKind}
use Rattle.stage_log.specs.Log.{all_some, before, contents_of}
use Rattle.stage_log.proofs.Pasts.{all_some-is, option_map-some}
use Rattle.stage_log.proofs.Fronts.{before-front}
use Rattle.shuffle_blame.specs.Replay.{body_of}
use Rattle.conviction.proofs.Replays.{by-member}
use Rattle.std.proofs.lemmas.Bool.{cases_Bool, cond-false}
use Rattle.phase_message.specs.Offence.{content_read}
use Rattle.conviction.proofs.Bodies.{contents-same}
use Rattle.shuffle_blame.proofs.Endings.{ends_at}
use Rattle.phase_message.proofs.Table.{final_a_is, go_a_is}
use Rattle.go_nogo.specs.Rows.{final_row, lists_before, posts_at, stands_last, written}
use Rattle.round_spec.specs.Slots.{final_stage, list_said, pad_stage, said_in}
use Rattle.conviction.proofs.OwnFronts.{front, list-front}
use Rattle.accountability.proofs.Votes.{go-yes, votes-yes}
use Rattle.go_nogo.specs.Closing.{is_assent}
use Rattle.phase_message.specs.Stages.{is_slot, kind_of_stage, speaks}
use Rattle.std.specs.Prelude.{is_some}
use Rattle.conviction.proofs.OwnRows.{own-body, own-said, own-speaks}
use Rattle.std.specs.List.{range_with_len}
use Rattle.accountability.proofs.OnePost.{reveal-there}
use Rattle.round_spec.specs.Say.{shape_in}
use Rattle.std.proofs.lemmas.Option.{slice_get-map}
use Rattle.stage_log.proofs.Views.{slice_get-take}
use Rattle.phase_message.proofs.SlotBounds.{slot-bounds}
use Rattle.phase_message.specs.Slots.{slot_number, slots_before, stage_count}
use Rattle.phase_message.proofs.SlotLists.{slot_number-within, slots_before-rises}
use Rattle.round_spec.proofs.GoLists.{votes_look_at_lists}

-- ---- the own closing content before

row-assents : (shape : Shape) (posts : List Post) (stage : ℕ) (inner outer opening : List ℕ)
    → is_assent (final_row shape posts stage inner outer opening) ≡ true
    → votes_agree shape (contents_of posts) stage ≡ true
unfolding final_row
row-assents shape posts stage inner outer opening e = elim (cases_Bool (votes_agree shape (contents_of posts) stage)) [
  | inl agree ↦ agree
  | inr differ ↦ absurd (
      let row = cond-false (votes_agree shape (contents_of posts) stage) (Reveal (written (posts_at shape posts (stage - 1))) inner)
      (Dispute (written posts) outer opening) differ in
      let both = sym (ap is_assent row) ∙ e in cc)
]

-- where the member's closing content assents at the end of a shuffle, the votes before it are unanimous
own-agrees : (run : Run) (text : List ℕ) (row : IsOwnRow run text) (shuffle : ℕ) → HonestRun run
    → kind_of_stage (shape_in run.config) row.stage ≡ Some (AtFinal shuffle) → is_assent row.read.body ≡ true
    → votes_agree (shape_in run.config) (contents_of row.past) row.stage ≡ true
own-agrees run text row shuffle honest kind assents =
    row-assents (shape_in run.config) row.past row.stage _ _ _
    (sym (ap (λ (x : Content). is_assent x.body) (final-is run text row shuffle honest kind)) ∙ assents)

-- ---- the end of shuffle B

-- what comes before it
pub record BeforeEnd (run : Run) (stage : ℕ) (posts : List Post) : Type 0 where
  pub late : (shape_in run.config).members + 8 < stage
  pub past : List Post
  pub kept : before run.log stage ≡ Some past
  pub front : past ≡ take (slots_before (shape_in run.config) stage) posts
  pub goes : AllGo run.config past stage

pub last-late : (shape : Shape) (stage shuffle : ℕ) → 1 ≤ shape.members → kind_of_stage shape stage ≡ Some (AtFinal shuffle) → shuffle ≢ 1
    → shape.members + 8 < stage
last-late shape stage shuffle some kind second = elim (ends_at shape stage shuffle kind) [
  | inl a ↦ absurd (second a.0)
  | inr b ↦ (let at = b.1 in omega (arith, at, some))
]

pub before-end : (run : Run) (stage shuffle : ℕ) (posts : List Post) → IsKeptEnd run stage posts
    → kind_of_stage (shape_in run.config) stage ≡ Some (AtFinal shuffle) → shuffle ≢ 1
    → BeforeEnd run stage posts
before-end run stage shuffle posts end kind second =
    let c = run.config in
    let within = slot-bounds (shape_in c) 0 c.number (own-speaks c end.honest.config) in
    let closes = closing-kind (shape_in c) stage end.closing in
    let own = own-said run (stage + 1) stage posts end.honest end.kept (closes.all_close c.number within.1 within.2) (omega arith) in
    record {
      late = last-late (shape_in c) stage shuffle (let least = within.1 in let most = within.2 in omega (arith, least, most)) kind second;
      past = own.row.past;
      kept = subst (λ (s : ℕ). before run.log s ≡ Some own.row.past) own.at own.row.before;
      front = own.front;
      goes = subst (λ (s : ℕ). AllGo run.config own.row.past s) own.at own.row.goes;
    }

-- ---- the log before the pads

-- the posts of the slots before the pads
pub record PadLog (run : Run) (log : List Post) : Type 0 where
  pub kept : before run.log (pad_stage (shape_in run.config)) ≡ Some log
  pub is : IsPast run (pad_stage (shape_in run.config)) log
  pub reveals : (member : ℕ) → 1 ≤ member → member ≤ (shape_in run.config).members
      → (votes : List (List ℕ)) × (seed : List ℕ) × (said_in (shape_in run.config) (contents_of log) (final_stage (shape_in run.config) 1)
      member ≡ Reveal votes seed)
  pub list : IsSome (list_said (shape_in run.config) (contents_of log) 1 (shape_in run.config).members)

stands-some : (shape : Shape) (entry : List ℕ) (o : Option (List (List (List ℕ)))) → stands_last shape entry o ≡ true
    → (lists : List (List (List ℕ))) × (o ≡ Some lists)
stands-some shape entry None e = absurd cc
stands-some shape entry (Some lists) e = (lists, refl)

last-some : (f : ℕ → Option (List (List ℕ))) (n : ℕ) (lists : List (List (List ℕ))) → 1 ≤ n
    → all_some (map f (range_with_len 1 n)) ≡ Some lists → is_some (f n) ≡ true
last-some f n lists some e =
    let each = all_some-is (map f (range_with_len 1 n)) lists e in
    let found = option_map-some (λ (l : List (List ℕ)). Some l) (slice_get lists (n - 1)) (f n)
    (sym (slice_get-map (λ (l : List (List ℕ)). Some l) lists (n - 1))
    ∙ sym (ap (λ (xs : List (Option (List (List ℕ)))). slice_get xs (n - 1)) each)
    ∙ by-member f n n some (omega arith)) in
    ap is_some (sym found.2)

body-said : (shape : Shape) (past : List (List ℕ)) (stage member : ℕ)
    → body_of (content_read shape (slice_index_or past (slot_number shape stage member) [])) ≡ said_in shape past stage member
unfolding said_in
body-said shape past stage member = refl

-- a member's post at the end of shuffle A assents
final-assents : (run : Run) (stage : ℕ) (posts : List Post) (b : BeforeEnd run stage posts) (member : ℕ) → HonestRun run → 1 ≤ member
    → member ≤ (shape_in run.config).members
    → (k : KeptIn run b.past (final_stage (shape_in run.config) 1) member) → is_assent k.checks.content.body ≡ true
final-assents run stage posts b member honest least most k =
    let c = run.config in
    let late = b.late in
    let some : 1 ≤ (shape_in c).members = omega (arith, least, most) in
    let at : final_stage (shape_in c) 1 ≡ (shape_in c).members + 3 = omega arith in
    let past = is-past run stage b.past honest b.kept in
    (agreed-there c stage (final_stage (shape_in c) 1) member b.past k.post k.checks.content
    (record { whole = past.long; reads = λ number slot post at there. checks-read c slot post (past.checks number slot post at there) })
    some b.goes (omega (arith, at, late))
    (final-closes (shape_in c) (final_stage (shape_in c) 1) 1 (final_a_is (shape_in c) (final_stage (shape_in c) 1) at)) least most k.at
    (content-reads run b.past (final_stage (shape_in c) 1) member k)).assents

pub pad-log : (run : Run) (stage : ℕ) (posts : List Post) → IsKeptEnd run stage posts → (b : BeforeEnd run stage posts)
    → PadLog run (take (slots_before (shape_in run.config) (pad_stage (shape_in run.config))) posts)
pad-log run stage posts end b = record { kept = kept; is = is; reveals = reveals; list = list }
  where
    shape : Shape
    shape = shape_in run.config

    honest : HonestRun run
    honest = end.honest

    n : ℕ
    n = slots_before shape (pad_stage shape)

    log : List Post
    log = take n posts

    here : pad_stage shape ≡ shape.members + 4
    here = refl

    final_is : final_stage shape 1 ≡ shape.members + 3
    final_is = omega arith

    within : (0 < stage_count shape) × (1 ≤ run.config.number) × (run.config.number ≤ shape.members)
    within = slot-bounds shape 0 run.config.number (own-speaks run.config honest.config)

    kept : before run.log (pad_stage shape) ≡ Some log
    kept = before-front run.log (pad_stage shape) (stage + 1) posts (let late = b.late in omega (arith, here)) end.kept
        ∙ ap (λ (s : Shape). Some (take (slots_before s (pad_stage shape)) posts)) honest.shape

    is : IsPast run (pad_stage shape) log
    is = is-past run (pad_stage shape) log honest kept

    past_is : IsPast run stage b.past
    past_is = is-past run stage b.past honest b.kept

    final_closes : ClosingKind shape (final_stage shape 1)
    final_closes = final-closes shape (final_stage shape 1) 1 (final_a_is shape (final_stage shape 1) final_is)

    -- what stands in the log before the end is what stands in the whole past
    same-post : (s member : ℕ) → (k : KeptIn run log s member) → s < pad_stage shape → is_slot shape s member ≡ true
        → (j : KeptIn run b.past s member) → k.post ≡ j.post
    same-post s member k lt speaks j =
        let late = b.late in
        let number : ℕ = slot_number shape s member in
        let within = (slot_number-within shape s member speaks).1 in
        let of_log : slice_get posts number ≡ Some k.post = sym
        (slice_get-take posts n number (omega (arith, within, slots_before-rises shape (s + 1) (pad_stage shape) (omega arith))))
        ∙ k.at in
        let of_past : slice_get posts number ≡ Some j.post =
        sym (slice_get-take posts (slots_before shape stage) number
        (omega (arith, within, slots_before-rises shape (s + 1) stage (omega (arith, here)))))
        ∙ sym (ap (λ (xs : List Post). slice_get xs number) b.front) ∙ j.at in
        post-same k.post j.post (sym of_log ∙ of_past)
      where
        post-same : (x y : Post) → (let told : Post → Option Post = λ z. Some z in told x ≡ told y) → x ≡ y
        post-same x y e = cc

    reveals : (member : ℕ) → 1 ≤ member → member ≤ shape.members
        → (votes : List (List ℕ)) × (seed : List ℕ) × (said_in shape (contents_of log) (final_stage shape 1) member ≡ Reveal votes seed)
    reveals member least most =
        let speaks = final_closes.all_close member least most in
        let late = b.late in
        let k = kept-in run (pad_stage shape) (final_stage shape 1) member log is speaks (omega (arith, here, final_is)) in
        let j = kept-in run stage (final_stage shape 1) member b.past past_is speaks (omega (arith, final_is)) in
        let post_is : k.post ≡ j.post = same-post (final_stage shape 1) member k (omega (arith, here, final_is)) speaks j in
        let content_is : k.checks.content ≡ j.checks.content = contents-same k.checks.content j.checks.content
        (content_read shape k.post.content)
        (content-reads run log (final_stage shape 1) member k) (ap (λ (p : Post). content_read shape p.content) post_is
        ∙ content-reads run b.past (final_stage shape 1) member j) in
        let assents : is_assent k.checks.content.body ≡ true = ap (λ (x : Content). is_assent x.body) content_is
        ∙ final-assents run stage posts b member honest least most j in
        let reveal = reveal-there shape (slots_before shape (final_stage shape 1)) 1 k.checks.content.body
        (body-of_kind run log (final_stage shape 1) member (AtFinal 1) k (final_a_is shape (final_stage shape 1) final_is)) assents in
        (reveal.votes, reveal.seed, said-in run log (final_stage shape 1) member k ∙ reveal.is)

    -- the own vote on shuffle A
    list : IsSome (list_said shape (contents_of log) 1 shape.members)
    list =
        let least = within.1 in
        let most = within.2 in
        let closes = final_closes.all_close run.config.number within.1 within.2 in
        let own = own-said run (pad_stage shape) (final_stage shape 1) log honest kept closes (omega (arith, here, final_is)) in
        let reveal = reveals run.config.number within.1 within.2 in
        let assents : is_assent own.row.read.body ≡ true = ap is_assent
        (sym (own-body run log (final_stage shape 1) own) ∙ body-said shape (contents_of log) (final_stage shape 1) run.config.number
        ∙ reveal.2) in
        let kind : kind_of_stage shape own.row.stage ≡ Some (AtFinal 1) = ap (kind_of_stage shape) own.at
        ∙ final_a_is shape (final_stage shape 1) final_is in
        let agree = own-agrees run own.text own.row 1 honest kind assents in
        let votes = votes-yes shape (contents_of own.row.past) own.row.stage (final-closes shape own.row.stage 1 kind) agree in
        let go_kind : kind_of_stage shape (shape.members + 2) ≡ Some (AtGo 1) = go_a_is shape (shape.members + 2) refl in
        let go_speaks : is_slot shape (shape.members + 2) run.config.number ≡ true =
        ap (λ (o : Option StageKind). speaks shape o run.config.number) go_kind ∙ own-speaks run.config honest.config in
        let row_stage : own.row.stage ≡ shape.members + 3 = own.at ∙ final_is in
        let go = own-said run own.row.stage (shape.members + 2) own.row.past honest own.row.before go_speaks (omega (arith, row_stage)) in
        let before_stage : own.row.stage - 1 ≡ shape.members + 2 = omega (arith, row_stage) in
        let yes_is = votes.each run.config.number go.text within.1 within.2
        (ap (λ (s : ℕ). slice_get (contents_of own.row.past) (slot_number shape s run.config.number)) before_stage ∙ go.stands) in
        let vote = go-yes run go.text go.row 1 votes.view (ap (kind_of_stage shape) go.at ∙ go_kind) yes_is in
        let lists = stands-some shape _ (lists_before shape (contents_of go.row.past) go.row.stage) vote.stands in
        let go_past = is-past run go.row.stage go.row.past honest go.row.before in
        let looks = votes_look_at_lists shape (contents_of go.row.past) 1 go.row.stage (omega (arith, ap (λ (s : ℕ). s) go.at, final_is))
        (omega (arith, go_past.long, length-map go.row.past (λ (p : Post). p.content))) in
        let there = last-some (list_said shape (contents_of go.row.past) 1) shape.members lists.0 (omega (arith, least, most))
        (sym looks ∙ lists.1) in
        let front_row : contents_of go.row.past ≡ front shape (contents_of log) (shape.members + 2) =
        ap contents_of go.front ∙ sym (take-map (λ (p : Post). p.content) (slots_before shape (shape.members + 2)) own.row.past)
        ∙ ap (λ (xs : List (List ℕ)). take (slots_before shape (shape.members + 2)) xs)
        (ap contents_of own.front ∙ sym (take-map (λ (p : Post). p.content) (slots_before shape (final_stage shape 1)) log))
        ∙ take-take (slots_before shape (shape.members + 2)) (slots_before shape (final_stage shape 1)) (contents_of log)
        (slots_before-rises shape (shape.members + 2) (final_stage shape 1) (omega (arith, final_is))) in
        ap (λ (o : Option (List (List ℕ))). is_some o) (sym (list-front shape (contents_of log) (shape.members + 2) shape.members
        (omega arith) (omega arith)))
        ∙ ap (λ (p : List (List ℕ)). is_some (list_said shape p 1 shape.members)) (sym front_row) ∙ there
