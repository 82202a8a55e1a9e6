-- Where the posts that are listed as evidence come from: they were delivered, or embedded in what was, or are the member's
-- own.
use Rattle.std.proofs.Common.{arith, refl, All, Contains, List, None, Ok, Option, Some, ap, eqb-true, false, inl, inr, map, slice_get, subst, suc, sym, take, true, zero, ◌≡◌, ◌∙◌, ◌⊎◌, ◌∷◌, ◌++◌, ◌<◌, ◌≤◌, ◌+◌, ◌==◌, [], ℕ}
use Rattle.round_spec.specs.Verdict.{Convicts, ClosedStage, Verdict, closing_content, is_closing, is_read_justified, sent_in, verdict_of}
use Rattle.std.proofs.lemmas.List.Elements.{All-contains}
use Rattle.std.specs.List.{AllZip, range_with_len}
use Rattle.round_spec.specs.Cases.{ByBadLog, ByBadPad, ByEquivocation, ByReplay, ByWrongSeed, Case, Ends, GoesOn, IsBadPad, IsMemberOf}
use Rattle.round_spec.specs.Say.{Configuration, shape_in}
use Rattle.phase_message.specs.declared.content.Content.{Content}
use Rattle.round_spec.specs.Runs.{HonestRun, IsGiven, Run, own_slot}
use Rattle.wire_core.specs.Bytes.{IsBytes}
use Rattle.accountability.specs.Evidence.{IsKeptEnd}
use Rattle.round_spec.specs.Justified.{IsPostOf}
use Rattle.accountability.proofs.Kept.{KeptIn, body-bytes, closing-kind, content-is, content-reads, content-stage, end-past, kept-end, kept-in, member-is, sent-in, transcript-same, whole-end}
use Rattle.round_spec.specs.Course.{Others, closing_of, course_of, own_post_at, post_settled, settled_log}
use Rattle.phase_message.specs.declared.post.Post.{Post}
use Rattle.phase_message.specs.Shape.{Shape}
use Rattle.phase_message.specs.declared.stage.Slot.{Slot}
use Rattle.transcript_form.specs.declared.transcript.Transcript.{Transcript}
use Rattle.round_spec.proofs.SealedBytes.{all-places}
use Rattle.accountability.proofs.Pads.{before-end}
use Rattle.phase_message.specs.Grammar.{body_text}
use Rattle.round_spec.specs.Slots.{by_member, pad_stage}
use Rattle.std.proofs.lemmas.Bool.{cases_Bool, cond-false}
use Rattle.conviction.proofs.Closings.{own-closing}
use Rattle.round_spec.proofs.Contained.{contains-cases, contains-here, contains-later, contains-map, contains-nothing}
use Rattle.phase_message.specs.Offence.{content_read}
use Rattle.conviction.proofs.Bodies.{contents-same, row-reads}
use Rattle.stage_log.specs.Log.{before, contents_of}
use Rattle.accountability.proofs.Evidence.{convicts-not}
use Rattle.accountability.proofs.Equivocations.{embedded-bytes, embeds-there}
use Rattle.conviction.proofs.Pasts.{embedded-get, past-kept}
use Rattle.go_nogo.specs.Closing.{embedded_of, posts_embedded, slots_embedded}
use Rattle.round_spec.specs.Embedded.{embedded_pairs, is_content_justified, posts_in_content}
use Rattle.round_spec.specs.Result.{first_posts}
use Rattle.round_spec.proofs.Given.{first_posts_delivered}
use Rattle.signed_post.proofs.Frames.{framed-found}
use Rattle.std.proofs.lemmas.Option.{get_or_from_slice_get, none-some, slice_get-get_or, slice_get-map, slice_get_within}
use Rattle.phase_message.specs.Stages.{is_slot, kind_of_stage, speaks, vote_of}
use Rattle.std.specs.Prelude.{is_some, option_and_then, option_map, zip}
use Rattle.stage_log.specs.Table.{kept_in}
use Rattle.accountability.proofs.PadEvidence.{named-member, pads-speak}
use Rattle.conviction.proofs.OwnRows.{own-said}
use Rattle.phase_message.specs.Post.{post_spelling}
use Rattle.round_spec.proofs.Justified.{posts_are_found, zip-bytes}
use Rattle.round_spec.proofs.Settling.{settled-kept}
use Rattle.round_spec.specs.Settled.{settled_run}
use Rattle.phase_message.specs.Slots.{slot_at, slot_number, slots_before}
use Rattle.phase_message.proofs.SlotLists.{slot_at-number}
use Rattle.round_spec.proofs.Verdicts.{verdict_cases}

-- ---- what a verdict lists

-- everything that is listed has a property which all kept posts have, and all posts that are embedded at the end
abbrev pub ListsOnly : (List ℕ → Type 0) → Run → ℕ → List Post → Transcript → Type 0
ListsOnly P run stage posts t =
    ((post : Post) → Contains posts post → P (post_spelling post))
    → ((member : ℕ) (content : Content) (pair : Slot × List ℕ) → IsMemberOf (closing_of run.config posts stage) member
    → closing_content (closing_of run.config posts stage) member ≡ Ok content
    → is_content_justified run.config.roster run.config.round content ≡ true → Contains (embedded_pairs run.config.roster content) pair
    → P pair.1)
    → (bytes : List ℕ) → Contains t.posts bytes → P bytes

kept-listed : (run : Run) (posts : List Post) (stage member : ℕ) (k : KeptIn run posts stage member) → Contains posts k.post
kept-listed run posts stage member k =
    let number : ℕ = slot_number (shape_in run.config) stage member in
    (number, slice_get_within posts number k.post k.at, get_or_from_slice_get posts number k.post k.post k.at)

-- what was sent in a slot of the past
sent-has : (P : List ℕ → Type 0) (run : Run) (posts : List Post) (end stage member : ℕ)
    → ((post : Post) → Contains posts post → P (post_spelling post))
    → KeptIn run posts stage member → P (sent_in (closing_of run.config posts end) stage member)
sent-has P run posts end stage member has k = subst P (sym (sent-in run posts end stage member k))
    (has k.post (kept-listed run posts stage member k))

pub one-has : (P : List ℕ → Type 0) (a : List ℕ) → P a → (bytes : List ℕ) → Contains (a ∷ []) bytes → P bytes
one-has P a has bytes listed = elim (contains-cases a [] bytes listed) [
  | inl here ↦ subst P here has
  | inr later ↦ absurd (contains-nothing bytes later)
]

pub two-have : (P : List ℕ → Type 0) (a b : List ℕ) → P a → P b → (bytes : List ℕ) → Contains (a ∷ b ∷ []) bytes → P bytes
two-have P a b has has_too bytes listed = elim (contains-cases a (b ∷ []) bytes listed) [
  | inl here ↦ subst P here has
  | inr later ↦ one-has P b has_too bytes later
]

range-within : (a n k : ℕ) → Contains (range_with_len a n) k → (a ≤ k) × (k < a + n)
range-within a zero k listed = absurd (contains-nothing k listed)
range-within a (suc n) k listed = elim (contains-cases a (range_with_len (a + 1) n) k listed) [
  | inl here ↦ (omega arith, omega arith)
  | inr later ↦ (let more = range-within (a + 1) n k later in let least = more.0 in let most = more.1 in (omega arith, omega arith))
]

append-cases : {A : Type 0} (xs ys : List A) (x : A) → Contains (xs ++ ys) x → Contains xs x ⊎ Contains ys x
append-cases [] ys x listed = inr listed
append-cases (y ∷ xs) ys x listed = elim (contains-cases y (xs ++ ys) x listed) [
  | inl here ↦ inl (subst (λ z. Contains (y ∷ xs) z) here (contains-here y xs))
  | inr later ↦ elim (append-cases xs ys x later) [
    | inl front ↦ inl (contains-later y xs x front)
    | inr back ↦ inr back
  ]
]

pub take-listed : {A : Type 0} (n : ℕ) (xs : List A) (x : A) → Contains (take n xs) x → Contains xs x
take-listed zero xs x listed = absurd (contains-nothing x listed)
take-listed (suc n) [] x listed = absurd (contains-nothing x listed)
take-listed (suc n) (y ∷ xs) x listed = elim (contains-cases y (take n xs) x listed) [
  | inl here ↦ subst (λ z. Contains (y ∷ xs) z) here (contains-here y xs)
  | inr later ↦ contains-later y xs x (take-listed n xs x later)
]

pub in-posts : (P : List ℕ → Type 0) (t : Transcript) (v : Verdict) (other : Transcript) → v ≡ Convicts other → Convicts t ≡ v
    → ((bytes : List ℕ) → Contains other.posts bytes → P bytes)
    → (bytes : List ℕ) → Contains t.posts bytes → P bytes
in-posts P t v other is e all bytes listed =
    let same : t ≡ other = transcript-same t other (e ∙ is) in
    all bytes (subst (λ (x : Transcript). Contains x.posts bytes) same listed)

pub verdict-lists : (P : List ℕ → Type 0) (run : Run) (stage : ℕ) (posts : List Post) (t : Transcript) → IsKeptEnd run stage posts
    → verdict_of (closing_of run.config posts stage) ≡ Convicts t → ListsOnly P run stage posts t
verdict-lists P run stage posts t end e has embedded = by_case (verdict_cases v (whole-end run stage posts end))
  where
    v : ClosedStage
    v = closing_of run.config posts stage

    at-end : (member : ℕ) → IsMemberOf (closing_of run.config posts stage) member
        → P (sent_in (closing_of run.config posts stage) stage member)
    at-end member is = sent-has P run posts stage stage member has (kept-end run stage member posts end is)

    in-slot : (s member : ℕ) → is_slot (shape_in run.config) s member ≡ true → s < stage + 1
        → P (sent_in (closing_of run.config posts stage) s member)
    in-slot s member speaks lt = sent-has P run posts stage s member has
        (kept-in run (stage + 1) s member posts (end-past run stage posts end) speaks lt)

    of-members : (bytes : List ℕ) → Contains (by_member (shape_in run.config) (sent_in (closing_of run.config posts stage) stage)) bytes
        → P bytes
    of-members bytes listed =
        let found = contains-map (sent_in (closing_of run.config posts stage) stage) (range_with_len 1 (shape_in run.config).members) bytes
        listed in
        let within = range-within 1 (shape_in run.config).members found.0 found.1 in
        let most = within.1 in
        subst P found.2 (at-end found.0 (record { least = within.0; most = omega (arith, most) }))

    of-pad : (is : IsBadPad (closing_of run.config posts stage) (verdict_of (closing_of run.config posts stage))) → (bytes : List ℕ)
        → Contains (map post_spelling (take (slots_before (shape_in run.config) (pad_stage (shape_in run.config))) posts)
        ++ sent_in (closing_of run.config posts stage) (pad_stage (shape_in run.config)) is.accusation.member ∷ []) bytes → P bytes
    of-pad is bytes listed = elim (append-cases _ _ bytes listed) [
      | inl front ↦
          let found = contains-map post_spelling (take (slots_before (shape_in run.config) (pad_stage (shape_in run.config))) posts) bytes
          front in
          subst P found.2 (has found.0 (take-listed _ posts found.0 found.1))
      | inr back ↦
          let member = named-member (shape_in run.config) (contents_of posts) is.accusation is.holds in
          let b = before-end run stage is.shuffle posts end is.kind is.second in
          let late = b.late in
          let here : pad_stage (shape_in run.config) ≡ (shape_in run.config).members + 4 = refl in
          one-has P _ (in-slot (pad_stage (shape_in run.config)) is.accusation.member
          (pads-speak (shape_in run.config) is.accusation.member member.0 member.1) (omega (arith, late, here))) bytes back
    ]

    by_case : Case (closing_of run.config posts stage) (verdict_of (closing_of run.config posts stage)) → (bytes : List ℕ)
        → Contains t.posts bytes → P bytes
    by_case (ByBadLog is) = in-posts P t _ _ is.verdict_is (sym e) (one-has P _ (at-end is.member is.is_member))
    by_case (ByEquivocation is) =
        let justified : is_content_justified run.config.roster run.config.round is.content ≡ true =
        sym (ap (is_read_justified (closing_of run.config posts stage)) is.reads) ∙ is.justified is.member is.is_member in
        let there = embeds-there run stage is.member posts is.content is.pair end is.is_member is.reads justified is.embedded in
        let before = there.earlier in
        in-posts P t _ _ is.verdict_is (sym e)
        (two-have P _ _ (in-slot is.pair.0.stage is.pair.0.sender there.speaks (omega arith))
        (embedded is.member is.content is.pair is.is_member is.reads justified is.embedded))
    by_case (ByWrongSeed is) =
        in-posts P t _ _ is.verdict_is (sym e)
        (two-have P _ _ (in-slot 0 is.member (member-is run stage is.member posts is.is_member) (omega arith))
        (at-end is.member is.is_member))
    by_case (ByReplay is) = in-posts P t _ _ is.verdict_is (sym e) of-members
    by_case (ByBadPad is) = in-posts P t _ _ is.verdict_is (sym e) (of-pad is)
    by_case (GoesOn agree work goes) = absurd (convicts-not t (verdict_of (closing_of run.config posts stage)) (inl goes) (sym e))
    by_case (Ends agree done ends) = absurd (convicts-not t (verdict_of (closing_of run.config posts stage)) (inr ends) (sym e))

-- ---- traces

-- bytes were delivered, or embedded in a closing content that was; or they are a post that the member kept in a slot of
-- its own
pub data IsTraced (run : Run) (delivered : List (List ℕ)) (bytes : List ℕ) : Type 0 where
  Given : IsGiven run.config.roster delivered bytes → IsTraced run delivered bytes
  Own : (stage : ℕ) (post : Post) → kept_in run.log (own_slot run stage) ≡ Some post → bytes ≡ post_spelling post
      → IsTraced run delivered bytes

-- what is kept is in a slot of the round
kept-speaks : (c : Configuration) (others : Others) (slot : Slot) (post : Post) → kept_in (settled_log c others) slot ≡ Some post
    → is_slot (shape_in c) slot.stage slot.sender ≡ true
unfolding settled_log
kept-speaks c others slot post e = elim (cases_Bool (is_slot (shape_in c) slot.stage slot.sender)) [
  | inl speaks_there ↦ speaks_there
  | inr silent ↦ absurd (none-some post (sym (cond-false (is_slot (shape_in c) slot.stage slot.sender) _ None silent) ∙ e))
]

-- a kept post is
pub kept-traced : (c : Configuration) (delivered : List (List ℕ)) (slot : Slot) (post : Post) → All IsBytes delivered
    → kept_in (settled_log c (first_posts c delivered)) slot ≡ Some post
    → IsTraced (settled_run c (first_posts c delivered)) delivered (post_spelling post)
unfolding post_settled
kept-traced c delivered slot post all e = elim (cases_Bool (slot.sender == c.number)) [
  | inl own ↦
      let slot_is : slot ≡ record { stage = slot.stage; sender = c.number } = ap (λ (s : ℕ). record { stage = slot.stage; sender = s })
      (eqb-true slot.sender c.number own) in
      Own slot.stage post (sym (ap (kept_in (settled_log c (first_posts c delivered))) slot_is) ∙ e) refl
  | inr other ↦
      let speaks_there = kept-speaks c (first_posts c delivered) slot post e in
      let first : first_posts c delivered slot ≡ Some post =
      sym (cond-false (slot.sender == c.number) (own_post_at c (course_of c (first_posts c delivered)) slot.stage)
      (first_posts c delivered slot) other)
      ∙ sym (settled-kept c (first_posts c delivered) slot speaks_there) ∙ e in
      let is = first_posts_delivered c delivered slot post all first in
      let spelled = (framed-found is.bytes post (All-contains IsBytes delivered is.bytes all is.listed) is.spelled).1 in
      Given (inl (subst (λ (x : List ℕ). Contains delivered x) spelled is.listed))
]

-- ---- what an own content embeds

pub zip-second : {A B : Type 0} (xs : List A) (ys : List B) (pair : A × B) → Contains (zip xs ys) pair → Contains ys pair.1
zip-second [] ys pair listed = absurd (contains-nothing pair listed)
zip-second (x ∷ xs) [] pair listed = absurd (contains-nothing pair listed)
zip-second {A} {B} (x ∷ xs) (y ∷ ys) pair listed = elim (contains-cases (x, y) (zip xs ys) pair listed) [
  | inl here ↦ subst (λ (p : A × B). Contains (y ∷ ys) p.1) here (contains-here y ys)
  | inr later ↦ contains-later y ys pair.1 (zip-second xs ys pair later)
]

all-zip-in : {A B : Type 0} (P : A → B → Type 0) (xs : List A) (ys : List B) (x : A) → AllZip P xs ys → Contains xs x → (y : B)
    × Contains ys y × P x y
all-zip-in P [] ys x all listed = absurd (contains-nothing x listed)
all-zip-in P (z ∷ xs) [] x all listed = absurd all
all-zip-in {A} {B} P (z ∷ xs) (y ∷ ys) x all listed = elim (contains-cases z xs x listed) [
  | inl here ↦ (y, contains-here y ys, subst (λ (a : A). P a y) here all.0)
  | inr later ↦ (let more = all-zip-in P xs ys x all.1 later in (more.0, contains-later y ys more.0 more.1, more.2))
]

pub got-at : {A : Type 0} (xs : List A) (x : A) → Contains xs x → (place : ℕ) × (slice_get xs place ≡ Some x)
got-at {A} xs x (i, lt, same) = (i, slice_get-get_or xs i x lt ∙ ap (λ (y : A). Some y) same)

pub at-listed : {A : Type 0} (xs : List A) (k : ℕ) (x : A) → slice_get xs k ≡ Some x → Contains xs x
at-listed xs k x e = (k, slice_get_within xs k x e, get_or_from_slice_get xs k x x e)

embedded-of_past : (shape : Shape) (content : Content) (past : List Post) (post : Post) → Contains (embedded_of shape content past) post
    → Contains past post
embedded-of_past shape content past post listed =
    let at = got-at (embedded_of shape content past) post listed in
    at-listed past _ post (embedded-get shape content past at.0 post at.1)

-- what stands in the past of a run stands in a slot of its log
pub past-slot : (run : Run) (later : ℕ) (posts : List Post) (post : Post) → HonestRun run → before run.log later ≡ Some posts
    → Contains posts post
    → (slot : Slot) × (kept_in run.log slot ≡ Some post)
past-slot run later posts post honest kept listed =
    let at = got-at posts post listed in
    let is = past-kept run.log later at.0 posts post honest.log kept at.1 in
    (is.slot, is.kept)

-- the post of a slot of the past is what the log keeps in the slot
pub slot-kept : (run : Run) (later stage member : ℕ) (posts : List Post) → HonestRun run → before run.log later ≡ Some posts
    → is_slot (shape_in run.config) stage member ≡ true
    → (k : KeptIn run posts stage member) → kept_in run.log (record { stage = stage; sender = member }) ≡ Some k.post
slot-kept run later stage member posts honest kept speaks k =
    let number : ℕ = slot_number (shape_in run.config) stage member in
    let is = past-kept run.log later number posts k.post honest.log kept k.at in
    let same : is.slot ≡ record { stage = stage; sender = member } =
    some-slot is.slot _ (sym is.at ∙ ap (λ (s : Shape). slot_at s number) honest.shape
    ∙ slot_at-number (shape_in run.config) stage member speaks) in
    subst (λ (s : Slot). kept_in run.log s ≡ Some k.post) same is.kept
  where
    some-slot : (a b : Slot) → (let told : Slot → Option Slot = λ z. Some z in told a ≡ told b) → a ≡ b
    some-slot a b e = cc

-- ---- embedded posts

-- those that the member itself embeds are kept posts
own-embedded : (c : Configuration) (delivered : List (List ℕ)) (stage : ℕ) (posts : List Post) (content : Content) (pair : Slot × List ℕ)
    → All IsBytes delivered
    → IsKeptEnd (settled_run c (first_posts c delivered)) stage posts
    → (number : ℕ) → number ≡ c.number → (k : KeptIn (settled_run c (first_posts c delivered)) posts stage number)
    → k.checks.content ≡ content
    → is_slot (shape_in c) stage number ≡ true
    → Contains (embedded_pairs c.roster content) pair → IsTraced (settled_run c (first_posts c delivered)) delivered pair.1
own-embedded c delivered stage posts content pair all end number mine k content_is speaks_number listed =
    let run : Run = settled_run c (first_posts c delivered) in
    let own = own-said (settled_run c (first_posts c delivered)) (stage + 1) stage posts end.honest end.kept
    (subst (λ (n : ℕ). is_slot (shape_in c) stage n ≡ true) mine speaks_number) (omega arith) in
    let stands : slice_get (contents_of posts) (slot_number (shape_in c) stage number) ≡ Some own.text =
    ap (λ (n : ℕ). slice_get (contents_of posts) (slot_number (shape_in c) stage n)) mine ∙ own.stands in
    let text : own.text ≡ k.post.content = texts-same own.text k.post.content
    (sym stands ∙ slice_get-map (λ (p : Post). p.content) posts _ ∙ ap (option_map (λ (p : Post). p.content)) k.at) in
    let same : own.row.read ≡ content = contents-same own.row.read k.checks.content (content_read (shape_in c) own.text)
    (row-reads run own.text own.row)
    (ap (content_read (shape_in c)) text ∙ content-reads run posts stage number k) ∙ content_is in
    let closing : is_some (option_and_then vote_of (kind_of_stage (shape_in c) own.row.stage)) ≡ true = ap (is_closing (shape_in c)) own.at
    ∙ end.closing in
    let closes = own-closing run own.text own.row end.honest closing in
    let embeds : posts_in_content c.roster c.round content ≡ Ok (embedded_of (shape_in c) own.row.read own.row.past) = ap
    (λ (x : Content). posts_in_content c.roster c.round x) (sym same) ∙ closes.embeds in
    let bytes = subst (λ (x : Content). IsBytes (body_text x.body)) content_is (body-bytes run posts stage number k) in
    let are = (posts_are_found c.roster c.round 0 (embedded_pairs c.roster content) (embedded_of (shape_in c) own.row.read own.row.past)
    (zip-bytes (slots_embedded (shape_in c) content) (posts_embedded content.body)
    (all-places IsBytes (posts_embedded content.body) (embedded-bytes content.body bytes)))).0 embeds in
    let found = all-zip-in (λ (p : Slot × List ℕ) (post : Post). IsPostOf c.roster c.round p.0 p.1 post) (embedded_pairs c.roster content) _
    pair are listed in
    let at = past-slot run own.row.stage own.row.past found.0 end.honest own.row.before
    (embedded-of_past (shape_in c) own.row.read own.row.past found.0 found.1) in
    subst (IsTraced run delivered) (sym found.2.spelled) (kept-traced c delivered at.0 found.0 all at.1)
  where
    texts-same : (a b : List ℕ) → (let told : List ℕ → Option (List ℕ) = λ z. Some z in told a ≡ told b) → a ≡ b
    texts-same a b e = cc

pub embedded-traced : (c : Configuration) (delivered : List (List ℕ)) (stage member : ℕ) (posts : List Post) (content : Content)
    (pair : Slot × List ℕ) → All IsBytes delivered
    → IsKeptEnd (settled_run c (first_posts c delivered)) stage posts → IsMemberOf (closing_of c posts stage) member
    → closing_content (closing_of c posts stage) member ≡ Ok content
    → Contains (embedded_pairs c.roster content) pair → IsTraced (settled_run c (first_posts c delivered)) delivered pair.1
unfolding post_settled
embedded-traced c delivered stage member posts content pair all end is reads listed = by_member_is (cases_Bool (member == c.number))
  where
    run : Run
    run = settled_run c (first_posts c delivered)

    k : KeptIn run posts stage member
    k = kept-end run stage member posts end is

    content_is : k.checks.content ≡ content
    content_is = content-is run stage member posts content k reads

    speaks_there : is_slot (shape_in c) stage member ≡ true
    speaks_there = (closing-kind (shape_in c) stage end.closing).all_close member is.least is.most

    by_member_is : (member == c.number ≡ true) ⊎ (member == c.number ≡ false) → IsTraced run delivered pair.1
    by_member_is (inl mine) = own-embedded c delivered stage posts content pair all end member (eqb-true member c.number mine) k content_is
        speaks_there listed
    by_member_is (inr other) =
        let kept = slot-kept run (stage + 1) stage member posts end.honest end.kept speaks_there k in
        let first : first_posts c delivered (record { stage = stage; sender = member }) ≡ Some k.post =
        sym (cond-false (member == c.number) (own_post_at c (course_of c (first_posts c delivered)) stage)
        (first_posts c delivered (record { stage = stage; sender = member })) other)
        ∙ sym (settled-kept c (first_posts c delivered) (record { stage = stage; sender = member }) speaks_there) ∙ kept in
        let found = first_posts_delivered c delivered (record { stage = stage; sender = member }) k.post all first in
        let stage_is : content.header.stage ≡ stage = ap (λ (x : Content). x.header.stage) (sym content_is)
        ∙ content-stage run posts stage member k in
        Given (inr (
          found.bytes,
          found.listed,
          record {
            post = k.post;
            content = content;
            spelled = found.spelled;
            reads = content-reads run posts stage member k ∙ ap (λ (x : Content). Ok x) content_is;
            closing = ap (is_closing (shape_in c)) stage_is ∙ end.closing;
            embedded = zip-second (slots_embedded (shape_in c) content) (posts_embedded content.body) pair listed;
          },
        ))

-- what is traced in some of the deliveries is in all
pub widened : (run : Run) (part delivered : List (List ℕ)) → ((bytes : List ℕ) → Contains part bytes → Contains delivered bytes)
    → (bytes : List ℕ)
    → IsTraced run part bytes → IsTraced run delivered bytes
widened run part delivered within bytes (Given (inl listed)) = Given (inl (within bytes listed))
widened run part delivered within bytes (Given (inr (outer, listed, embedded))) = Given (inr (outer, within outer listed, embedded))
widened run part delivered within bytes (Own stage post kept is) = Own stage post kept is
