-- What is written for a bad pad is accepted.
use Rattle.std.proofs.Common.{arith, refl, zero, suc, List, None, Ok, Option, Some, ap, eq-eqb, length, rules, slice_get, slice_index_or, subst, sym, take, true, ◌≡◌, ◌∙◌, ◌∷◌, ◌++◌, ◌<◌, ◌≤◌, ◌+◌, ◌-◌, ◌^◌, ◌==◌, [], ℕ}
use Rattle.std.proofs.lemmas.List.{length-map, length-take-le, length-append, take-map}
use Rattle.stage_log.proofs.Views.{slice_get-take}
use Rattle.phase_message.specs.declared.stage.StageKind.TheVariants.{Go as AtGo, Final as AtFinal, Pad as AtPad}
use Rattle.phase_message.specs.declared.content.Body.TheVariants.{Pads}
use Rattle.transcript_form.specs.declared.claim.Claim.TheVariants.{Pad}
use Rattle.shuffle_blame.specs.declared.fault.Cause.TheVariants.{View}
use Rattle.round_spec.specs.Verdict.{is_held}
use Rattle.accountability.specs.Evidence.{AcceptedFor, IsAccepted, IsKeptEnd}
use Rattle.transcript_form.specs.declared.accusation.Accusation.{Accusation}
use Rattle.std.specs.List.{AllByRecursion}
use Rattle.accountability.proofs.Votes.{AreYes, IsGoYes, go-yes, votes-yes}
use Rattle.accountability.proofs.Pads.{BeforeEnd, PadLog, before-end, pad-log}
use Rattle.phase_message.specs.declared.content.Body.{Body}
use Rattle.round_spec.specs.Say.{Configuration, shape_in}
use Rattle.bulk_descriptor.specs.Descriptor.{Description}
use Rattle.accusation.specs.Accusation.{Holds, refusal_of}
use Rattle.shuffle_blame.specs.Replay.{Inquiry, fault}
use Rattle.transcript_form.specs.Accusation.{IsAccusation}
use Rattle.round_spec.specs.Cases.{IsBadPad, agree_before}
use Rattle.phase_message.specs.Kinds.{IsBodyAt}
use Rattle.conviction.proofs.Closings.{IsPast, is-past}
use Rattle.signed_post.specs.Admission.{IsPostFile}
use Rattle.accountability.proofs.Kept.{KeptIn, accept, body-of_kind, content-reads, content-sender, content-stage, file-of, kept-in, member-is, said-in, sent-in, spelled-few, transcript-same}
use Rattle.conviction.proofs.OwnRows.{OwnSaid, own-said, own-speaks}
use Rattle.phase_message.specs.declared.post.Post.{Post}
use Rattle.round_spec.specs.Runs.{Run}
use Rattle.phase_message.specs.Shape.{Shape}
use Rattle.phase_message.specs.declared.stage.Slot.{Slot}
use Rattle.phase_message.specs.declared.stage.StageKind.{StageKind}
use Rattle.transcript_form.specs.declared.transcript.Transcript.{Transcript}
use Rattle.transcript_form.proofs.Accusations.{accusations_are_spelled}
use Rattle.round_spec.proofs.SealedBytes.{all-from, all-map-from}
use Rattle.round_spec.specs.Slots.{bulk_place, descriptors_opened, key_said, keys_said, pad_stage, pads_in, pads_sent, said_in}
use Rattle.conviction.proofs.Replays.{by-member}
use Rattle.conviction.proofs.Pasts.{checks-for-slot, posts-found, take-get}
use Rattle.phase_message.proofs.Closings.{closing-follows}
use Rattle.round_spec.specs.Course.{closing_of}
use Rattle.std.proofs.lemmas.Bool.{cond-true}
use Rattle.phase_message.specs.Offence.{content_read}
use Rattle.stage_log.specs.Log.{contents_of, view_of}
use Rattle.conviction.proofs.OwnFronts.{descriptors-front, front, keys-front}
use Rattle.round_spec.proofs.AgreedClosings.{final-closes}
use Rattle.phase_message.proofs.Table.{pad_is, slice_get_right}
use Rattle.std.proofs.lemmas.Option.{get_or_from_slice_get, slice_get-map}
use Rattle.accusation.proofs.AccusationLemmas.{holds_exactly, holds_looks_at_one}
use Rattle.phase_message.specs.Stages.{is_member, is_slot, kind_of_stage, speaks}
use Rattle.std.specs.Prelude.{if◌then◌else◌, is_none, option_map, zip}
use Rattle.std.proofs.lemmas.List.FromFn.{length-map-range_with_len}
use Rattle.phase_message.proofs.SlotLists.{length-slots_of, slot_number-within, slots_before-most, slots_before-rises}
use Rattle.phase_message.specs.Post.{post_spelling}
use Rattle.round_spec.specs.Embedded.{posts_for}
use Rattle.shuffle_blame.proofs.Faults.{right_view}
use Rattle.phase_message.proofs.SlotBounds.{slot-bounds}
use Rattle.phase_message.specs.Slots.{slot_number, slots_before, slots_of, stage_count}
use Rattle.phase_message.proofs.StageCounts.{before-pads}
use Rattle.conviction.specs.Accepts.{table_of}
use Rattle.stage_log.proofs.Fronts.{view_of-take}
use Rattle.go_nogo.specs.Rows.{written}

-- ---- lists

zip-front : {A B : Type 0} (xs : List A) (ys zs : List B) → length xs ≤ length ys → zip xs (ys ++ zs) ≡ zip xs ys
zip-front [] ys zs few = refl
zip-front (x ∷ xs) [] zs few = absurd (omega (arith, few))
zip-front {A} {B} (x ∷ xs) (y ∷ ys) zs few = ap (λ (pairs : List (A × B)). (x, y) ∷ pairs) (zip-front xs ys zs (omega (arith, few)))

all-append : {A : Type 0} (P : A → Type 0) (xs ys : List A) → AllByRecursion P xs → AllByRecursion P ys → AllByRecursion P (xs ++ ys)
all-append P [] ys first last = last
all-append P (x ∷ xs) ys first last = (first.0, all-append P xs ys first.1 last)

-- ---- the pads of the accused

pads-there : (shape : Shape) (before : ℕ) (body : Body) → IsBodyAt shape before AtPad body → (pads : List (List ℕ)) × (body ≡ Pads pads)
pads-there shape before (Pads pads) is = (pads, refl)
pads-there shape before _ is = absurd is

-- a post of the front of a past is one of the past
kept-front : (run : Run) (posts xs : List Post) (later stage member : ℕ) → xs ≡ take (slots_before (shape_in run.config) later) posts
    → is_slot (shape_in run.config) stage member ≡ true → stage < later → KeptIn run xs stage member → KeptIn run posts stage member
kept-front run posts xs later stage member front speaks lt k =
    let within = (slot_number-within (shape_in run.config) stage member speaks).1 in
    let number : ℕ = slot_number (shape_in run.config) stage member in
    record {
      post = k.post;
      at = sym (slice_get-take posts (slots_before (shape_in run.config) later) number
          (omega (arith, within, slots_before-rises (shape_in run.config) (stage + 1) later (omega (arith, lt)))))
          ∙ sym (ap (λ (ys : List Post). slice_get ys number) front) ∙ k.at;
      checks = k.checks;
    }

-- what the member says in its pads is right, where the member's own vote behind them is yes
pub record RightPads (run : Run) (posts : List Post) (member : ℕ) : Type 0 where
  pub kept : KeptIn run posts (pad_stage (shape_in run.config)) member
  pub pads : List (List ℕ)
  pub is : kept.checks.content.body ≡ Pads pads
  pub view : kept.checks.content.header.view ≡ view_of (shape_in run.config) (contents_of posts) (pad_stage (shape_in run.config))

member-there : (n member : ℕ) → 1 ≤ member → member ≤ n → is_member n member ≡ true
member-there n member least most = search rules

pub pads-speak : (shape : Shape) (member : ℕ) → 1 ≤ member → member ≤ shape.members → is_slot shape (pad_stage shape) member ≡ true
pads-speak shape member least most =
    ap (λ (o : Option StageKind). speaks shape o member) (pad_is shape (pad_stage shape) refl)
    ∙ member-there shape.members member least most

right-pads : (run : Run) (stage shuffle member : ℕ) (posts : List Post) → IsKeptEnd run stage posts → (b : BeforeEnd run stage posts)
    → kind_of_stage (shape_in run.config) stage ≡ Some (AtFinal shuffle) → agree_before (closing_of run.config posts stage) ≡ true
    → 1 ≤ member → member ≤ (shape_in run.config).members → RightPads run posts member
unfolding kept-front
right-pads run stage shuffle member posts end b kind agree least most = record { kept = kept; pads = found.0; is = found.1; view = view }
  where
    shape : Shape
    shape = shape_in run.config

    late : shape.members + 8 < stage
    late = b.late

    here : pad_stage shape ≡ shape.members + 4
    here = refl

    own : (1 ≤ stage) × (kind_of_stage shape (stage - 1) ≡ Some (AtGo shuffle))
    own = closing-follows shape stage (AtFinal shuffle) (AtGo shuffle) kind refl

    within : (0 < stage_count shape) × (1 ≤ run.config.number) × (run.config.number ≤ shape.members)
    within = slot-bounds shape 0 run.config.number (own-speaks run.config end.honest.config)

    speaks_go : is_slot shape (stage - 1) run.config.number ≡ true
    speaks_go = ap (λ (o : Option StageKind). speaks shape o run.config.number) own.1 ∙ own-speaks run.config end.honest.config

    go : OwnSaid run posts (stage - 1)
    go = own-said run (stage + 1) (stage - 1) posts end.honest end.kept speaks_go (omega arith)

    votes : AreYes shape (contents_of posts) stage
    votes = votes-yes shape (contents_of posts) stage (final-closes shape stage shuffle kind) agree

    vote : IsGoYes run shuffle votes.view go.row.past go.row.stage
    vote = go-yes run go.text go.row shuffle votes.view (ap (kind_of_stage shape) go.at ∙ own.1)
        (votes.each run.config.number go.text within.1 within.2 go.stands)

    go_stage : go.row.stage ≡ stage - 1
    go_stage = go.at

    speaks_pad : is_slot shape (pad_stage shape) member ≡ true
    speaks_pad = pads-speak shape member least most

    past_is : IsPast run go.row.stage go.row.past
    past_is = is-past run go.row.stage go.row.past end.honest go.row.before

    first : KeptIn run go.row.past (pad_stage shape) member
    first = kept-in run go.row.stage (pad_stage shape) member go.row.past past_is speaks_pad (omega (arith, late, here, go_stage))

    front_is : go.row.past ≡ take (slots_before shape (stage - 1)) posts
    front_is = go.front

    kept : KeptIn run posts (pad_stage shape) member
    kept = kept-front run posts go.row.past (stage - 1) (pad_stage shape) member front_is speaks_pad (omega (arith, late, here)) first

    found : (pads : List (List ℕ)) × (kept.checks.content.body ≡ Pads pads)
    found = pads-there shape (slots_before shape (pad_stage shape)) kept.checks.content.body
        (body-of_kind run posts (pad_stage shape) member AtPad kept (pad_is shape (pad_stage shape) refl))

    q : Inquiry
    q = record { shape = shape_in run.config; past = contents_of go.row.past; stage = go.row.stage; round = 0; shown = [] }

    text_is : slice_index_or (contents_of go.row.past) (slot_number shape (pad_stage shape) member) [] ≡ first.post.content
    text_is = get_or_from_slice_get (contents_of go.row.past) _ first.post.content []
        (slice_get-map (λ (p : Post). p.content) go.row.past _ ∙ ap (option_map (λ (p : Post). p.content)) first.at)

    view : kept.checks.content.header.view ≡ view_of shape (contents_of posts) (pad_stage shape)
    view =
        right_view q (pad_stage shape) member first.checks.content (ap (option_map (λ (slot : Slot). fault View slot.sender)) vote.right)
        speaks_pad (omega (arith, late, here, go_stage))
        (ap (content_read shape) text_is ∙ content-reads run go.row.past (pad_stage shape) member first)
        ∙ ap (λ (past : List (List ℕ)). view_of shape past (pad_stage shape))
        (ap contents_of front_is ∙ sym (take-map (λ (p : Post). p.content) (slots_before shape (stage - 1)) posts))
        ∙ view_of-take shape (contents_of posts) (pad_stage shape) (stage - 1) (omega (arith, late, here))

-- ---- the accusation

none-is : {A : Type 0} (o : Option A) → is_none o ≡ true → o ≡ None
none-is None e = refl
none-is (Some x) e = absurd cc

is-refused : (shape : Shape) (past : List (List ℕ)) (a : Accusation) → is_held shape past a ≡ true
    → refusal_of a (descriptors_opened shape past) (pads_sent shape past) (keys_said shape past bulk_place) ≡ None
unfolding is_held
is-refused shape past a e = none-is _ e

sent-by : (shape : Shape) (past : List (List ℕ)) (member : ℕ) → 1 ≤ member → member ≤ shape.members
    → slice_index_or (pads_sent shape past) (member - 1) [] ≡ pads_in (said_in shape past (pad_stage shape) member)
unfolding pads_sent
sent-by shape past member least most =
    get_or_from_slice_get _ (member - 1) _ [] (by-member (λ m. pads_in (said_in shape past (pad_stage shape) m)) shape.members member least
    most)

table-by : (shape : Shape) (accused : ℕ) (pads : List (List ℕ)) → 1 ≤ accused → accused ≤ shape.members
    → slice_index_or (table_of shape accused pads) (accused - 1) [] ≡ pads
table-by shape accused pads least most =
    get_or_from_slice_get (table_of shape accused pads) (accused - 1) _ []
    (by-member (λ m. if m == accused then pads else []) shape.members accused least most)
    ∙ cond-true (accused == accused) pads [] (eq-eqb accused accused refl)

-- who is named is a member
pub named-member : (shape : Shape) (past : List (List ℕ)) (a : Accusation) → is_held shape past a ≡ true → (1 ≤ a.member)
    × (a.member ≤ shape.members)
named-member shape past a e =
    let holds = (holds_exactly a (descriptors_opened shape past) (pads_sent shape past) (keys_said shape past bulk_place)).0
    (is-refused shape past a e) in
    let count : length (keys_said shape past bulk_place) ≡ shape.members = length-map-range_with_len (key_said shape past bulk_place) 1
    shape.members in
    let last = holds.2.last in
    (holds.2.first, omega (arith, last, count))

-- it holds of the log before the pads and of the pads of the accused alone
holds-alone : (shape : Shape) (past : List (List ℕ)) (a : Accusation) (pads : List (List ℕ)) → is_held shape past a ≡ true
    → pads_in (said_in shape past (pad_stage shape) a.member) ≡ pads
    → Holds a (descriptors_opened shape (front shape past (pad_stage shape))) (table_of shape a.member pads)
    (keys_said shape (front shape past (pad_stage shape)) bulk_place)
holds-alone shape past a pads e said =
    let here : pad_stage shape ≡ shape.members + 4 = refl in
    let member = named-member shape past a e in
    let same : slice_index_or (pads_sent shape past) (a.member - 1) [] ≡ slice_index_or (table_of shape a.member pads) (a.member - 1) [] =
    sent-by shape past a.member member.0 member.1 ∙ said ∙ sym (table-by shape a.member pads member.0 member.1) in
    let refused = sym (holds_looks_at_one a (descriptors_opened shape past) (pads_sent shape past) (table_of shape a.member pads)
    (keys_said shape past bulk_place) same) ∙ is-refused shape past a e in
    let holds = (holds_exactly a (descriptors_opened shape past) (table_of shape a.member pads) (keys_said shape past bulk_place)).0 refused
    in
    subst (λ (d : List (Option Description)). Holds a d (table_of shape a.member pads)
    (keys_said shape (front shape past (pad_stage shape)) bulk_place))
    (sym (descriptors-front shape past (pad_stage shape) (omega (arith, here))))
    (subst (λ (keys : List (List ℕ)). Holds a (descriptors_opened shape past) (table_of shape a.member pads) keys)
    (sym (keys-front shape past (pad_stage shape) bulk_place (omega (arith, here)))) holds)

-- ---- the evidence

pad-evidence : ℕ → List Post → Accusation → List ℕ → Transcript
pad-evidence round log a bytes = record {
  claim = Pad;
  accused = a.member;
  round = round;
  detail = Some a;
  posts = written log
      ++ bytes ∷ [];
}

pad-shown : (run : Run) (stage : ℕ) (posts : List Post) (a : Accusation) → IsKeptEnd run stage posts → (b : BeforeEnd run stage posts)
    → 1 ≤ a.member → a.member ≤ (shape_in run.config).members → IsAccusation a → is_held (shape_in run.config) (contents_of posts) a ≡ true
    → (pads : RightPads run posts a.member)
    → IsAccepted run.config.roster (pad-evidence run.config.round
    (take (slots_before (shape_in run.config) (pad_stage (shape_in run.config))) posts) a (post_spelling pads.kept.post))
unfolding pad-evidence
pad-shown run stage posts a end b least most form held pads =
    accept c.roster (pad-evidence c.round log a (post_spelling pads.kept.post))
    (record {
      accused = member-is run stage a.member posts (record { least = least; most = most });
      round = end.honest.config.enter.round;
      detail = form;
      count = length-append (written log) (post_spelling pads.kept.post ∷ [])
          ∙ (let five = before-pads shape in omega (arith, five, long, wide));
      posts = all-append (λ (bytes : List ℕ). length bytes < 2 ^ 32) (written log) (post_spelling pads.kept.post ∷ [])
          (all-map-from (λ (bytes : List ℕ). length bytes < 2 ^ 32) post_spelling log
          (all-from (λ (p : Post). length (post_spelling p) < 2 ^ 32) log (λ k p at. facts.is.short k p at)))
          (spelled-few run posts (pad_stage shape) a.member pads.kept, tt);
    })
    (record {
      log = log;
      whole = long;
      stands = stands;
      pads_post = post_spelling pads.kept.post;
      last = ap (slice_get (written log ++ post_spelling pads.kept.post ∷ [])) place
          ∙ slice_get_right (written log) (post_spelling pads.kept.post ∷ []) 0;
      header = pads.kept.checks.content.header;
      pads = pads.pads;
      pads_are = subst (λ (body : Body). IsPostFile c.roster c.round (post_spelling pads.kept.post)
          (record { header = pads.kept.checks.content.header; body = body })) pads.is
          (file-of c (record { stage = pad_stage shape; sender = a.member }) pads.kept.post pads.kept.checks);
      sender = content-sender run posts (pad_stage shape) a.member pads.kept;
      at = content-stage run posts (pad_stage shape) a.member pads.kept;
      view = pads.view ∙ sym (view_of-take shape (contents_of posts) (pad_stage shape) (pad_stage shape) (omega arith))
          ∙ ap (λ (past : List (List ℕ)). view_of shape past (pad_stage shape)) (take-map (λ (p : Post). p.content) n posts);
      opens = record { reveals = facts.reveals; list = facts.list };
      accusation = a;
      detail = refl;
      accused = refl;
      holds = subst (λ (past : List (List ℕ)). Holds a (descriptors_opened shape past) (table_of shape a.member pads.pads)
          (keys_said shape past bulk_place))
          (take-map (λ (p : Post). p.content) n posts)
          (holds-alone shape (contents_of posts) a pads.pads held
          (ap pads_in (said-in run posts (pad_stage shape) a.member pads.kept ∙ pads.is)));
    })
  where
    c : Configuration
    c = run.config

    shape : Shape
    shape = shape_in run.config

    n : ℕ
    n = slots_before shape (pad_stage shape)

    log : List Post
    log = take n posts

    facts : PadLog run log
    facts = pad-log run stage posts end b

    long : length log ≡ n
    long = facts.is.long

    wide : length (written log) ≡ length log
    wide = length-map log post_spelling

    place : n ≡ length (written log) + 0
    place = omega (arith, long, wide)

    front_slots : length (take n (slots_of shape)) ≡ n
    front_slots = length-take-le n (slots_of shape) (omega (arith, length-slots_of shape, slots_before-most shape (pad_stage shape)))

    stands : posts_for c.roster c.round 0 (zip (take n (slots_of shape)) (written log ++ post_spelling pads.kept.post ∷ [])) ≡ Ok log
    stands =
        ap (posts_for c.roster c.round 0) (zip-front (take n (slots_of shape)) (written log) (post_spelling pads.kept.post ∷ [])
        (omega (arith, front_slots, long, wide)))
        ∙ posts-found c.roster c.round 0 (take n (slots_of shape)) log (omega (arith, front_slots, long))
        (λ k slot post at there_is. checks-for-slot c slot post
        (facts.is.checks k slot post (take-get (slots_of shape) n k slot at).1 there_is))

pub bad_pad_accepted : AcceptedFor IsBadPad
unfolding pad-evidence
bad_pad_accepted run stage posts t end is =
    let c = run.config in
    let b = before-end run stage is.shuffle posts end is.kind is.second in
    let member = named-member (shape_in c) (contents_of posts) is.accusation is.holds in
    let pads = right-pads run stage is.shuffle is.accusation.member posts end b is.kind is.agree.votes member.0 member.1 in
    let form = ((accusations_are_spelled is.item is.accusation).0 is.spelled).0 in
    let same : t ≡ pad-evidence c.round (take (slots_before (shape_in c) (pad_stage (shape_in c))) posts) is.accusation
    (post_spelling pads.kept.post) =
    transcript-same t _ is.verdict_is
    ∙ ap (pad-evidence c.round (take (slots_before (shape_in c) (pad_stage (shape_in c))) posts) is.accusation)
    (sent-in run posts stage (pad_stage (shape_in c)) is.accusation.member pads.kept) in
    subst (IsAccepted c.roster) (sym same) (pad-shown run stage posts is.accusation end b member.0 member.1 form is.holds pads)
