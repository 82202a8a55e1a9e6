-- How long evidence is.
use Rattle.std.proofs.Common.{arith, refl, zero, suc, All, List, None, Ok, Option, Some, ap, false, inl, inr, length, length-take-le, map, slice_get, subst, sym, take, true, ◌≡◌, ◌∙◌, ◌∷◌, ◌++◌, ◌<◌, ◌≤◌, ◌+◌, ◌-◌, ◌*◌, [], ℕ}
use Rattle.std.specs.Int.{to_be_bytes, w32, w64}
use Rattle.std.proofs.lemmas.List.{length-append, take-map, take-take}
use Rattle.phase_message.specs.declared.content.Body.TheVariants.{Keys, Submit, Shuffled, Abort, Go, Reveal, Dispute, Pads, Check, Confirm, Differ}
use Rattle.phase_message.specs.declared.stage.StageKind.TheVariants.{Final as AtFinal, Confirm as AtConfirm}
use Rattle.transcript_form.specs.declared.claim.Claim.TheVariants.{Equivocation, Malformed, WrongSeed, BadLog, Replay, Pad}
use Rattle.stage_log.specs.Log.{before, contents_of}
use Rattle.round_spec.specs.Verdict.{Convicts, Goes, ClosedStage, Verdict, is_dissent, is_read_justified, sent_in, verdict_of, conviction}
use Rattle.transcript_form.specs.declared.accusation.Accusation.{Accusation}
use Rattle.std.proofs.lemmas.List.Elements.{All-contains, All-take}
use Rattle.std.specs.List.{AllByRecursion, AllZip, flat_map}
use Rattle.round_spec.specs.Runs.{AllGo, ChecksIn, IsConfiguration, Run}
use Rattle.round_spec.specs.Cases.{AreFaithful, ByBadLog, ByBadPad, ByEquivocation, ByReplay, ByWrongSeed, Case, Ends, GoesOn, IsFaithful, IsMemberOf, IsReplay, agree_before}
use Rattle.round_spec.specs.Justified.{ArePostsOf, IsPostOf}
use Rattle.round_spec.specs.Result.{Blamed, Heard, ending_of, first_posts, result_of}
use Rattle.phase_message.specs.declared.content.Body.{Body}
use Rattle.round_spec.specs.OwnRows.{CanSay}
use Rattle.transcript_form.specs.declared.claim.Claim.{Claim}
use Rattle.round_spec.specs.Say.{Configuration, shape_in}
use Rattle.phase_message.specs.declared.content.Content.{Content}
use Rattle.accountability.specs.Lengths.{EvidenceShort, ReplayShort}
use Rattle.phase_message.specs.Kinds.{IsBodyAt}
use Rattle.wire_core.specs.Bytes.{IsBytes}
use Rattle.phase_message.specs.Closing.{IsClosingBody}
use Rattle.accountability.proofs.OnePost.{IsHeard, heard-parts}
use Rattle.accountability.specs.Evidence.{IsKeptEnd}
use Rattle.std.specs.Prelude.{IsTrue, option_map, zip}
use Rattle.accountability.proofs.Kept.{KeptIn, body-bytes, body-of_kind, checks-header, closing-kind, content-grammar, content-is, content-reads, content-stage, end-past, kept-end, kept-in, member-is, sent-in, transcript-same, whole-end}
use Rattle.phase_message.specs.declared.post.Post.{Post}
use Rattle.phase_message.specs.Shape.{Shape}
use Rattle.phase_message.specs.declared.stage.Slot.{Slot}
use Rattle.phase_message.specs.declared.stage.StageKind.{StageKind}
use Rattle.round_spec.proofs.OwnLengths.{StandFor, content-long, items-whole, take-less, whole-past}
use Rattle.transcript_form.specs.declared.transcript.Transcript.{Transcript}
use Rattle.transcript_form.proofs.Accusations.{accusations_are_spelled}
use Rattle.round_spec.proofs.SealedBytes.{all-from, all-places}
use Rattle.accountability.proofs.Faulty.{blame-of}
use Rattle.phase_message.specs.Grammar.{body_text, content_text, prefixed}
use Rattle.conviction.proofs.Replays.{by-member}
use Rattle.round_spec.specs.Slots.{by_member, pad_stage}
use Rattle.round_spec.specs.Course.{closing_of, course_of}
use Rattle.phase_message.proofs.Read.{closings_are_read}
use Rattle.std.proofs.lemmas.Bool.{cond-false}
use Rattle.phase_message.proofs.Whole.{content-is_spelled}
use Rattle.accountability.proofs.Evidence.{convicts-not, firsts-check, stand-closed}
use Rattle.transcript_form.specs.Transcript.{detail_spelling, head_spelling, transcript_magic, transcript_spelling}
use Rattle.accountability.proofs.Equivocations.{embedded-bytes, embeds-there}
use Rattle.round_spec.specs.Embedded.{embedded_pairs, is_content_justified, slot_named}
use Rattle.accountability.proofs.Endings.{ending-cases}
use Rattle.round_spec.proofs.Verdicts.{faithful, verdict_cases}
use Rattle.std.proofs.lemmas.Grind.{flat_map-append}
use Rattle.conviction.proofs.Closings.{is-past}
use Rattle.go_nogo.specs.Closing.{is_assent, posts_embedded, slots_embedded}
use Rattle.phase_message.specs.Stages.{is_slot, kind_of_stage}
use Rattle.phase_message.specs.Offence.{item_at}
use Rattle.accountability.proofs.Pads.{last-late}
use Rattle.phase_message.proofs.SlotLists.{length-slots_of, slots_before-most, slots_before-rises}
use Rattle.accountability.proofs.Replays.{members-listed}
use Rattle.std.proofs.lemmas.Nat.{mul-le}
use Rattle.accountability.proofs.PadEvidence.{named-member, pads-speak}
use Rattle.conviction.proofs.OwnRows.{own-said, own-speaks}
use Rattle.phase_message.specs.Post.{post_spelling}
use Rattle.round_spec.proofs.Justified.{posts_are_found, zip-bytes}
use Rattle.signed_post.proofs.Lengths.{posts_are_short}
use Rattle.round_spec.specs.Settled.{settled_run}
use Rattle.round_spec.proofs.Beginnings.{shape-is}
use Rattle.std.proofs.lemmas.Option.{slice_get-map, slice_get_within}
use Rattle.phase_message.proofs.SlotBounds.{slot-bounds}
use Rattle.phase_message.specs.Slots.{slots_before, slots_of}
use Rattle.round_spec.proofs.PastForms.{checks-read, spelled-long}
use Rattle.go_nogo.specs.Rows.{written}

-- ---- transcripts

-- how long the accusation is that a transcript shows
abbrev detail_length : Option Accusation → ℕ
detail_length None = 0
detail_length (Some a) = 2 + length a.seed

detail-long : (o : Option Accusation) → length (detail_spelling o) ≡ detail_length o
detail-long None = refl
detail-long (Some a) = omega arith

spelling-long : (t : Transcript) → length (transcript_spelling t) ≡ 19 + detail_length t.detail + length (flat_map prefixed t.posts)
spelling-long t =
    let round : List ℕ = to_be_bytes w64 t.round in
    let count : List ℕ = to_be_bytes w32 (length t.posts) in
    let magic : length transcript_magic ≡ 5 = refl in
    omega (
      arith,
      magic,
      detail-long t.detail,
      length-append transcript_magic (head_spelling t ++ flat_map prefixed t.posts),
      length-append (head_spelling t) (flat_map prefixed t.posts),
      length-append (to_be_bytes w64 t.round) (detail_spelling t.detail ++ to_be_bytes w32 (length t.posts)),
      length-append (detail_spelling t.detail) (to_be_bytes w32 (length t.posts)),
    )

items-most : (w : ℕ) (items : List (List ℕ)) → AllByRecursion (λ item. length item + 4 ≤ w) items
    → length (flat_map prefixed items) ≤ length items * w
items-most w [] all = omega arith
items-most w (item ∷ items) all =
    let few : length item + 4 ≤ w = all.0 in
    grind (
      arith,
      length-append (prefixed item) (flat_map prefixed items),
      length-append (to_be_bytes w32 (length item)) item,
      items-most w
          items all.1,
    )

-- ---- one post

post-most : (c : Configuration) (slot : Slot) (post : Post) → ChecksIn c slot post → length (post_spelling post) ≤ 16777216
post-most c slot post is = (let frame = (checks-header c slot post is).frame.most in let long = spelled-long post in omega
    (arith, frame, long))

heard-most : (c : Configuration) (bytes : List ℕ) (heard : Heard) → IsHeard c bytes heard → length bytes ≤ 16777216
heard-most c bytes heard is = (let frame = is.admitted.frame.most in let long = spelled-long heard.post in omega
    (arith, frame, long, ap length is.spelled))

-- one or two posts without an accusation are few bytes
one-most : (t : Transcript) (a : List ℕ) → t.detail ≡ None → t.posts ≡ a ∷ [] → length a ≤ 16777216
    → length (transcript_spelling t) ≤ 33554459
one-most t a none posts few =
    omega (
      arith,
      spelling-long t,
      ap detail_length none,
      ap (λ (ps : List (List ℕ)). length (flat_map prefixed ps)) posts,
      few,
      length-append (to_be_bytes w32 (length a)) a,
      length-append (prefixed a) [],
    )

two-most : (t : Transcript) (a b : List ℕ) → t.detail ≡ None → t.posts ≡ a ∷ b ∷ [] → length a ≤ 16777216 → length b ≤ 16777216
    → length (transcript_spelling t) ≤ 33554459
two-most t a b none posts few more =
    omega (
      arith,
      spelling-long t,
      ap detail_length none,
      ap (λ (ps : List (List ℕ)). length (flat_map prefixed ps)) posts,
      few,
      more,
      length-append (to_be_bytes w32 (length a)) a,
      length-append (to_be_bytes w32 (length b)) b,
      length-append (prefixed a) (prefixed b ++ []),
      length-append (prefixed b) [],
    )

-- ---- what is embedded at the end

-- what a member says that dissents embeds posts of the contents that were kept
dissent-long : (body : Body) → IsTrue (is_dissent body) → (shape : Shape) (before : ℕ) (kind : StageKind) → IsBodyAt shape before kind body
    → length (body_text body) ≤ length (flat_map prefixed (posts_embedded body)) + 64
dissent-long (Dispute posts seed opening) is shape before (AtFinal shuffle) form =
    omega (arith, form.1, form.2, length-append (flat_map prefixed posts) (seed ++ opening), length-append seed opening)
dissent-long (Differ posts) is shape before kind form = omega arith
dissent-long (Dispute posts seed opening) is shape before _ form = absurd form
dissent-long (Keys keys) is shape before kind form = absurd cc
dissent-long (Submit ciphertext) is shape before kind form = absurd cc
dissent-long (Shuffled list) is shape before kind form = absurd cc
dissent-long Abort is shape before kind form = absurd cc
dissent-long (Go vote) is shape before kind form = absurd cc
dissent-long (Reveal votes seed) is shape before kind form = absurd cc
dissent-long (Pads pads) is shape before kind form = absurd cc
dissent-long (Check vote) is shape before kind form = absurd cc
dissent-long (Confirm votes) is shape before kind form = absurd cc

all-zip-place : {A B : Type 0} (P : A → B → Type 0) (xs : List A) (ys : List B) (k : ℕ) (x : A) → AllZip P xs ys → slice_get xs k ≡ Some x
    → (y : B) × (slice_get ys k ≡ Some y) × P x y
all-zip-place P [] ys k x all at = absurd cc
all-zip-place P (z ∷ xs) [] k x all at = absurd all
all-zip-place {A} {B} P (z ∷ xs) (y ∷ ys) zero x all at = (y, refl, subst (λ (a : A). P a y) (some-is z x at) all.0)
  where
    some-is : (a b : A) → (let told : A → Option A = λ w. Some w in told a ≡ told b) → a ≡ b
    some-is a b e = cc
all-zip-place P (z ∷ xs) (y ∷ ys) (suc k) x all at = all-zip-place P xs ys k x all.1 at

all-zip-long : {A B : Type 0} (P : A → B → Type 0) (xs : List A) (ys : List B) → AllZip P xs ys → length xs ≡ length ys
all-zip-long P [] [] all = refl
all-zip-long P [] (y ∷ ys) all = absurd all
all-zip-long P (x ∷ xs) [] all = absurd all
all-zip-long P (x ∷ xs) (y ∷ ys) all = ap suc (all-zip-long P xs ys all.1)

zip-place : (slots : List Slot) (items : List (List ℕ)) (k : ℕ) (item : List ℕ) → length items ≡ length slots
    → slice_get items k ≡ Some item
    → (slot : Slot) × (slice_get (zip slots items) k ≡ Some (slot, item))
zip-place [] [] k item many at = absurd cc
zip-place [] (i ∷ items) k item many at = absurd (omega (arith, many))
zip-place (s ∷ slots) [] k item many at = absurd (omega (arith, many))
zip-place (s ∷ slots) (i ∷ items) zero item many at = (s, ap (λ (o : Option (List ℕ)). option_map (λ (x : List ℕ). (s, x)) o) at)
zip-place (s ∷ slots) (i ∷ items) (suc k) item many at = zip-place slots items k item (omega (arith, many)) at

zip-length : (slots : List Slot) (items : List (List ℕ)) → length items ≡ length slots → length (zip slots items) ≡ length items
zip-length [] [] many = refl
zip-length [] (i ∷ items) many = absurd (omega (arith, many))
zip-length (s ∷ slots) [] many = absurd (omega (arith, many))
zip-length (s ∷ slots) (i ∷ items) many = ap suc (zip-length slots items (omega (arith, many)))

-- what a run kept before the end, over which it speaks there
record BeforeClosing (run : Run) (stage : ℕ) (posts : List Post) : Type 0 where
  pub past : List Post
  pub front : past ≡ take (slots_before (shape_in run.config) stage) posts
  pub can : CanSay run.config stage past
  pub goes : AllGo run.config past stage

before-closing : (run : Run) (stage : ℕ) (posts : List Post) → IsKeptEnd run stage posts → BeforeClosing run stage posts
before-closing run stage posts end =
    let c = run.config in
    let within = slot-bounds (shape_in c) 0 c.number (own-speaks c end.honest.config) in
    let speaks_there = (closing-kind (shape_in c) stage end.closing).all_close c.number within.1 within.2 in
    let own = own-said run (stage + 1) stage posts end.honest end.kept speaks_there (omega arith) in
    let kept = subst (λ (s : ℕ). before run.log s ≡ Some own.row.past) own.at own.row.before in
    let past = is-past run stage own.row.past end.honest kept in
    record {
      past = own.row.past;
      front = own.front;
      can = record {
        enter = end.honest.config.enter;
        speaks = speaks_there;
        past_is = record {
          whole = past.long;
          reads = λ number slot post at there. checks-read c slot post
              (past.checks number slot post at there);
        };
      };
      goes = subst (λ (s : ℕ). AllGo run.config own.row.past s) own.at own.row.goes;
    }

-- what a member embeds that dissents stands for what was kept
embedded-stand : (run : Run) (stage member : ℕ) (posts : List Post) (end : IsKeptEnd run stage posts) (b : BeforeClosing run stage posts)
    → (is : IsMemberOf (closing_of run.config posts stage) member) (f : IsFaithful (closing_of run.config posts stage) member)
    → (k : KeptIn run posts stage member) → k.checks.content ≡ f.content → is_assent f.content.body ≡ false
    → length (posts_embedded f.content.body) ≡ slots_before (shape_in run.config) stage
    → StandFor b.past (posts_embedded f.content.body)
embedded-stand run stage member posts end b is f k content_is objects_there count = record { many = many; short = short }
  where
    c : Configuration
    c = run.config

    shape : Shape
    shape = shape_in run.config

    n : ℕ
    n = slots_before shape stage

    items : List (List ℕ)
    items = posts_embedded f.content.body

    stage_is : f.content.header.stage ≡ stage
    stage_is = ap (λ (x : Content). x.header.stage) (sym content_is) ∙ content-stage run posts stage member k

    whole : length b.past ≡ n
    whole = b.can.past_is.whole

    many : length items ≡ length b.past
    many = count ∙ sym whole

    slots_are : slots_embedded shape f.content ≡ take n (slots_of shape)
    slots_are = cond-false (is_assent f.content.body) _ (take (slots_before shape f.content.header.stage) (slots_of shape)) objects_there
        ∙ ap (λ (s : ℕ). take (slots_before shape s) (slots_of shape)) stage_is

    slots_many : length items ≡ length (slots_embedded shape f.content)
    slots_many = count ∙ sym (length-take-le n (slots_of shape) (omega (arith, length-slots_of shape, slots_before-most shape stage)))
        ∙ sym (ap length slots_are)

    bytes : AllByRecursion IsBytes items
    bytes = embedded-bytes f.content.body (subst (λ (x : Content). IsBytes (body_text x.body)) content_is
        (body-bytes run posts stage member k))

    are : ArePostsOf c.roster c.round (embedded_pairs c.roster f.content) f.posts
    are = (posts_are_found c.roster c.round 0 (embedded_pairs c.roster f.content) f.posts
        (zip-bytes (slots_embedded shape f.content) items (all-places IsBytes items bytes))).0 f.embeds

    contents : contents_of f.posts ≡ contents_of b.past
    contents =
        f.contents ∙ cond-false (is_assent f.content.body) _ (take (slots_before shape f.content.header.stage) (contents_of posts))
        objects_there
        ∙ ap (λ (s : ℕ). take (slots_before shape s) (contents_of posts)) stage_is ∙ take-map (λ (p : Post). p.content) n posts
        ∙ ap contents_of (sym b.front)

    text-same : (x y : List ℕ) → (let told : List ℕ → Option (List ℕ) = λ z. Some z in told x ≡ told y) → x ≡ y
    text-same x y e = cc

    short : (place : ℕ) (post : Post) (item : List ℕ) → slice_get b.past place ≡ Some post → slice_get items place ≡ Some item
        → length item ≤ 9328 + length post.content
    short place post item at item_at =
        let pair = zip-place (slots_embedded shape f.content) items place item slots_many item_at in
        let found = all-zip-place (λ (p : Slot × List ℕ) (q : Post). IsPostOf c.roster c.round p.0 p.1 q)
        (embedded_pairs c.roster f.content) f.posts place (pair.0, item) are pair.1 in
        let same : found.0.content ≡ post.content = text-same found.0.content post.content
        (sym (ap (option_map (λ (p : Post). p.content)) found.1) ∙ sym (slice_get-map (λ (p : Post). p.content) f.posts place)
        ∙ ap (λ (xs : List (List ℕ)). slice_get xs place) contents ∙ slice_get-map (λ (p : Post). p.content) b.past place
        ∙ ap (option_map (λ (p : Post). p.content)) at) in
        omega (
          arith,
          ap length found.2.spelled,
          posts_are_short c.roster c.round found.0 found.2.content.header found.2.admitted,
          ap length
              same,
        )

-- how many posts it embeds
dissent-count : (shape : Shape) (stage : ℕ) (kind : StageKind) (body : Body) → IsClosingBody shape stage kind body → is_assent body ≡ false
    → length (posts_embedded body) ≡ slots_before shape stage
dissent-count shape stage (AtFinal shuffle) (Reveal votes seed) is no_assent = absurd cc
dissent-count shape stage (AtFinal shuffle) (Dispute posts seed opening) is no_assent = is
dissent-count shape stage AtConfirm (Confirm votes) is no_assent = absurd cc
dissent-count shape stage AtConfirm (Differ posts) is no_assent = is
dissent-count shape stage _ _ is no_assent = absurd is

-- so its closing post has at most so many bytes
closing-short : (run : Run) (stage member : ℕ) (posts : List Post) → IsKeptEnd run stage posts → BeforeClosing run stage posts
    → AreFaithful (closing_of run.config posts stage)
    → agree_before (closing_of run.config posts stage) ≡ false → IsMemberOf (closing_of run.config posts stage) member
    → length (sent_in (closing_of run.config posts stage) stage member) + 4 ≤ 11549256
closing-short run stage member posts end b faithful disagree is =
    let c = run.config in
    let f = faithful member is in
    let k = kept-end run stage member posts end is in
    let content_is : k.checks.content ≡ f.content = content-is run stage member posts f.content k f.reads in
    let kind = closing-kind (shape_in c) stage end.closing in
    let objects_there : is_assent f.content.body ≡ false = f.assents ∙ disagree in
    let stage_is : f.content.header.stage ≡ stage = ap (λ (x : Content). x.header.stage) (sym content_is)
    ∙ content-stage run posts stage member k in
    let body_closing = closings_are_read (shape_in c) k.post.content f.content kind.kind kind.vote
    (content-reads run posts stage member k ∙ ap (λ (x : Content). Ok x) content_is)
    (ap (kind_of_stage (shape_in c)) stage_is ∙ kind.is) kind.closes in
    let count : length (posts_embedded f.content.body) ≡ slots_before (shape_in c) stage =
    dissent-count (shape_in c) f.content.header.stage kind.kind f.content.body body_closing objects_there
    ∙ ap (slots_before (shape_in c)) stage_is in
    let whole = items-whole c stage b.past (posts_embedded f.content.body) b.can b.goes
    (embedded-stand run stage member posts end b is f k content_is objects_there count) in
    let form = subst (λ (x : Content). IsBodyAt (shape_in c) (slots_before (shape_in c) stage) kind.kind x.body) content_is
    (body-of_kind run posts stage member kind.kind k kind.is) in
    let body_long = dissent-long f.content.body (f.dissents disagree) (shape_in c) (slots_before (shape_in c) stage) kind.kind form in
    let grammar = content-grammar run posts stage member k in
    let text : k.post.content ≡ content_text k.checks.content =
    (content-is_spelled (shape_in c) k.post.content k.checks.content k.checks.content_bytes (content-reads run posts stage member k)).0
    in
    let long = content-long (shape_in c) k.checks.content grammar in
    let post_long = posts_are_short c.roster c.round k.post k.checks.content.header
    (checks-header c (record { stage = stage; sender = member }) k.post k.checks) in
    omega (
      arith,
      whole,
      body_long,
      ap length text,
      long,
      post_long,
      ap (λ (x : Content). length (body_text x.body)) content_is,
      ap length
          (sent-in run posts stage stage member k),
    )

-- ---- by claim

-- how long the transcript of a verdict is
record IsShort (t : Transcript) : Type 0 where
  pub whole : length (transcript_spelling t) < 134217728
  pub replay : t.claim ≡ Replay → length (transcript_spelling t) ≤ 92394067

few-short : (t other : Transcript) (v : Verdict) → v ≡ Convicts other → Convicts t ≡ v → (other.claim ≡ Replay → ⊥)
    → length (transcript_spelling other) ≤ 33554459 → IsShort t
few-short t other v is e apart few =
    let same : t ≡ other = transcript-same t other (e ∙ is) in
    subst IsShort (sym same) (record { whole = omega (arith, few); replay = λ claim. absurd (apart claim) })

-- a conviction by one post, and by two
few-one : (t : Transcript) (v : Verdict) (round member : ℕ) (claim : Claim) (a : List ℕ) → v ≡ conviction round member claim (a ∷ [])
    → Convicts t ≡ v → (claim ≡ Replay → ⊥)
    → length a ≤ 16777216 → IsShort t
few-one t v round member claim a is e apart few =
    let other : Transcript = record { claim = claim; accused = member; round = round; detail = None; posts = a ∷ [] } in
    few-short t other v is e apart (one-most other a refl refl few)

few-two : (t : Transcript) (v : Verdict) (round member : ℕ) (claim : Claim) (a b : List ℕ) → v ≡ conviction round member claim (a ∷ b ∷ [])
    → Convicts t ≡ v → (claim ≡ Replay → ⊥)
    → length a ≤ 16777216 → length b ≤ 16777216 → IsShort t
few-two t v round member claim a b is e apart few more =
    let other : Transcript = record { claim = claim; accused = member; round = round; detail = None; posts = a ∷ b ∷ [] } in
    few-short t other v is e apart (two-most other a b refl refl few more)

verdict-short : (run : Run) (stage : ℕ) (posts : List Post) (t : Transcript) → IsKeptEnd run stage posts
    → verdict_of (closing_of run.config posts stage) ≡ Convicts t → IsShort t
verdict-short run stage posts t end e = by_case (verdict_cases (closing_of run.config posts stage) (whole-end run stage posts end))
  where
    c : Configuration
    c = run.config

    shape : Shape
    shape = shape_in run.config

    b : BeforeClosing run stage posts
    b = before-closing run stage posts end

    eight : shape.members ≤ 8
    eight = (shape-is c end.honest.config.enter).most

    sent-most : (s member : ℕ) → KeptIn run posts s member → length (sent_in (closing_of run.config posts stage) s member) ≤ 16777216
    sent-most s member k = (let most = post-most c (record { stage = s; sender = member }) k.post k.checks in omega
        (arith, most, ap length (sent-in run posts stage s member k)))

    in-slot : (s member : ℕ) → is_slot shape s member ≡ true → s < stage + 1
        → length (sent_in (closing_of run.config posts stage) s member) ≤ 16777216
    in-slot s member speaks_there lt = sent-most s member (kept-in run (stage + 1) s member posts (end-past run stage posts end)
        speaks_there lt)

    at-end : (member : ℕ) → IsMemberOf (closing_of run.config posts stage) member
        → length (sent_in (closing_of run.config posts stage) stage member) ≤ 16777216
    at-end member is = sent-most stage member (kept-end run stage member posts end is)

    members : List (List ℕ)
    members = by_member shape (sent_in (closing_of run.config posts stage) stage)

    bytes-same : (x y : List ℕ) → (let told : List ℕ → Option (List ℕ) = λ z. Some z in told x ≡ told y) → x ≡ y
    bytes-same x y e = cc

    of-replay : (is : IsReplay (closing_of run.config posts stage) (verdict_of (closing_of run.config posts stage)))
        → length (flat_map prefixed members) ≤ length members * 11549256
    of-replay is = items-most 11549256 members (all-from (λ item. length item + 4 ≤ 11549256) members (λ place bytes at. (
        let within = slice_get_within members place bytes at in
        let member : IsMemberOf (closing_of run.config posts stage) (place + 1) = record
        { least = omega arith; most = omega (arith, within, members-listed run stage posts) } in
        let there_is = by-member (sent_in (closing_of run.config posts stage) stage) shape.members (place + 1) member.least member.most in
        let place_is : place + 1 - 1 ≡ place = omega arith in
        let same : bytes ≡ sent_in (closing_of run.config posts stage) stage (place + 1) = bytes-same bytes _
        (sym at ∙ sym (ap (slice_get members) place_is) ∙ there_is) in
        subst (λ (x : List ℕ). length x + 4 ≤ 11549256) (sym same)
        (closing-short run stage (place + 1) posts end b is.faithful is.votes member))))

    log-most : length (flat_map prefixed (written (take (slots_before shape (pad_stage shape)) b.past))) ≤ 11539784
    log-most =
        let whole = whole-past c stage b.past b.can b.goes in
        omega (
          arith,
          whole,
          take-less (slots_before shape (pad_stage shape)) (written b.past),
          ap (λ (items : List (List ℕ)). length (flat_map prefixed items))
              (take-map post_spelling (slots_before shape (pad_stage shape)) b.past),
        )

    by_case : Case (closing_of run.config posts stage) (verdict_of (closing_of run.config posts stage)) → IsShort t
    by_case (ByBadLog is) = few-one t _ _ _ BadLog _ is.verdict_is (sym e) (λ same. absurd cc) (at-end is.member is.is_member)
    by_case (ByEquivocation is) =
        let justified : is_content_justified c.roster c.round is.content ≡ true = sym
        (ap (is_read_justified (closing_of run.config posts stage)) is.reads) ∙ is.justified is.member is.is_member in
        let em = embeds-there run stage is.member posts is.content is.pair end is.is_member is.reads justified is.embedded in
        let earlier = em.earlier in
        let frame = em.file.admitted.frame.most in
        let short : length is.pair.1 ≤ 16777216 = omega (arith, frame, spelled-long em.post, ap length em.file.spelled) in
        few-two t _ _ _ Equivocation _ _ is.verdict_is (sym e) (λ same. absurd cc)
        (in-slot is.pair.0.stage is.pair.0.sender em.speaks (omega arith)) short
    by_case (ByWrongSeed is) =
        few-two t _ _ _ WrongSeed _ _ is.verdict_is (sym e) (λ same. absurd cc)
        (in-slot 0 is.member (member-is run stage is.member posts is.is_member) (omega arith)) (at-end is.member is.is_member)
    by_case (ByReplay is) =
        let other : Transcript = record {
          claim = Replay;
          accused = is.fault.member;
          round = run.config.round;
          detail = None;
          posts =
              members;
        } in
        let same : t ≡ other = transcript-same t other (sym e ∙ is.verdict_is) in
        let most : shape.members * 11549256 ≤ 8 * 11549256 = mul-le shape.members 11549256 8 11549256 eight (omega arith) in
        let long = spelling-long other in
        let few : length (transcript_spelling other) ≤ 92394067 = omega
        (arith, long, of-replay is, most, ap (λ (n : ℕ). n * 11549256) (members-listed run stage posts)) in
        subst IsShort (sym same) (record { whole = omega (arith, few); replay = λ claim. few })
    by_case (ByBadPad is) =
        let v : ClosedStage = closing_of run.config posts stage in
        let member = named-member shape (contents_of posts) is.accusation is.holds in
        let late = last-late shape stage is.shuffle (let least = member.0 in let most = member.1 in omega (arith, least, most)) is.kind
        is.second in
        let here : pad_stage shape ≡ shape.members + 4 = refl in
        let pads = in-slot (pad_stage shape) is.accusation.member (pads-speak shape is.accusation.member member.0 member.1)
        (omega (arith, late, here)) in
        let form : length is.accusation.seed ≡ 32 = ((accusations_are_spelled is.item is.accusation).0 is.spelled).0 in
        let front_is : take (slots_before shape (pad_stage shape)) posts ≡ take (slots_before shape (pad_stage shape)) b.past =
        sym (ap (take (slots_before shape (pad_stage shape))) b.front
        ∙ take-take (slots_before shape (pad_stage shape)) (slots_before shape stage) posts
        (slots_before-rises shape (pad_stage shape) stage (omega (arith, late, here)))) in
        let log = ap (λ (ps : List Post). length (flat_map prefixed (written ps))) front_is in
        let listed : List (List ℕ) = map post_spelling (take (slots_before shape (pad_stage shape)) posts) in
        let last : List ℕ = sent_in v (pad_stage shape) is.accusation.member in
        let other : Transcript = record {
          claim = Pad;
          accused = is.accusation.member;
          round = run.config.round;
          detail = Some
              is.accusation;
          posts = listed ++ last ∷ [];
        } in
        let same : t ≡ other = transcript-same t other (sym e ∙ is.verdict_is) in
        let long = spelling-long other in
        let few : length (transcript_spelling other) < 134217728 =
        omega (
          arith,
          long,
          log,
          log-most,
          pads,
          form,
          ap length (flat_map-append prefixed listed (last ∷ [])),
          length-append (flat_map prefixed listed) (flat_map prefixed (last ∷ [])),
          length-append (prefixed last) [],
          length-append (to_be_bytes w32 (length last)) last,
        ) in
        subst IsShort (sym same) (record { whole = few; replay = λ claim. absurd (let c : Pad ≡ Replay = claim in cc) })
    by_case (GoesOn agree work goes) = absurd (convicts-not t (verdict_of (closing_of run.config posts stage)) (inl goes) (sym e))
    by_case (Ends agree done ends) = absurd (convicts-not t (verdict_of (closing_of run.config posts stage)) (inr ends) (sym e))

-- ---- whole

part-short : (c : Configuration) (part : List (List ℕ)) (t : Transcript) → IsConfiguration c → All IsBytes part
    → ending_of c part ≡ Some (Convicts t) → IsShort t
part-short c part t is all ends = elim (ending-cases c part (Convicts t) ends) [
  | inl last ↦ elim last.shows [
    | inl malformed ↦
        let heard = heard-parts c last.bytes malformed.heard (All-contains IsBytes part last.bytes all last.listed) malformed.is in
        few-one t _ _ _ Malformed _ malformed.verdict_is refl (λ same. absurd cc) (heard-most c last.bytes malformed.heard heard)
    | inr other ↦
        let heard = heard-parts c last.bytes other.heard (All-contains IsBytes part last.bytes all last.listed) other.is in
        let checks = firsts-check c part all (slot_named other.heard.header) other.first other.kept in
        few-two t _ _ _ Equivocation _ _ other.verdict_is refl (λ same. absurd cc)
        (post-most c (slot_named other.heard.header) other.first checks) (heard-most c last.bytes other.heard heard)
  ]
  | inr course ↦
      let closed = stand-closed c (first_posts c part) (Convicts t) is (firsts-check c part all) course.1
      (λ goes. convicts-not t Goes (inl refl) goes) in
      verdict-short (settled_run c (first_posts c part)) closed.0 (course_of c (first_posts c part)).past t closed.1.kept
      closed.1.verdict_is
]

all-short : (c : Configuration) (delivered : List (List ℕ)) (t : Transcript) → IsConfiguration c → All IsBytes delivered
    → result_of c delivered ≡ Blamed t → IsShort t
all-short c delivered t is all e = (let blame = blame-of c delivered t e in part-short c (take blame.count delivered) t is
    (All-take IsBytes blame.count delivered all) blame.ends)

pub evidence_short : EvidenceShort
evidence_short c delivered t is all e = (all-short c delivered t is all e).whole

pub replay_short : ReplayShort
replay_short c delivered t is all e claim = (all-short c delivered t is all e).replay claim
