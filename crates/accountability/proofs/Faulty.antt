-- Whoever is accused by the member of an honest run is faulty.
use Rattle.std.proofs.Common.{arith, refl, All, Contains, List, None, Ok, Option, Result, Some, ap, eq-eqb, inl, inr, subst, sym, take, true, ◌≡◌, ◌∙◌, ◌+◌, ◌==◌, ℕ}
use Rattle.round_spec.specs.Verdict.{Convicts, Done, Goes, Verdict, closing_content, verdict_of}
use Rattle.transcript_form.specs.declared.accusation.Accusation.{Accusation}
use Rattle.accountability.specs.Faulty.{AccusedFaulty}
use Rattle.signed_post.specs.Admission.{Admitted}
use Rattle.std.proofs.lemmas.List.Elements.{All-contains, All-take}
use Rattle.round_spec.specs.Result.{Blamed, counted_part, ending_of, first_posts, log_after, outcome_ended, result_of, stand_after, waiting_outcome}
use Rattle.round_spec.specs.Cases.{ByBadLog, ByBadPad, ByEquivocation, ByReplay, ByWrongSeed, Case, Ends, GoesOn, IsMemberOf}
use Rattle.round_spec.specs.Say.{Configuration, shape_in}
use Rattle.phase_message.specs.declared.content.Content.{Content}
use Rattle.accountability.specs.Evidence.{EvidenceIsBytes, IsKeptEnd}
use Rattle.transcript_form.specs.declared.refusal.FailedForm.{FailedForm}
use Rattle.round_spec.specs.Runs.{HasNumber, HonestRun, IsConfiguration, NoForgery, Run, SaidBy, Sent, contents_sent, own_slot, posts_said, run_after, runs_of, sent}
use Rattle.phase_message.specs.declared.header.Header.{Header}
use Rattle.wire_core.specs.Bytes.{IsBytes}
use Rattle.wire_core.proofs.ByteLists.{IsBytes-nil}
use Rattle.phase_message.specs.Shape.{IsShape, Shape}
use Rattle.accountability.proofs.Traces.{Given, Own, IsTraced, embedded-traced, past-slot, verdict-lists, in-posts, kept-traced, one-has, take-listed, two-have, zip-second, widened}
use Rattle.transcript_form.specs.Transcript.{IsTranscript, detail_spelling, transcript_spelling}
use Rattle.round_spec.specs.Course.{Others, Stand, closing_of, course_of, settled_log}
use Rattle.phase_message.specs.declared.post.Post.{Post}
use Rattle.wire_core.specs.declared.cursor.Short.{Short}
use Rattle.phase_message.specs.declared.stage.Slot.{Slot}
use Rattle.transcript_form.specs.declared.transcript.Transcript.{Transcript}
use Rattle.transcript_form.proofs.Accusations.{accusations_are_spelled}
use Rattle.conviction.proofs.Listed.{all-contained}
use Rattle.accountability.proofs.Kept.{body-bytes, content-is, file-says, kept-end, transcript-same, whole-end}
use Rattle.phase_message.specs.Grammar.{body_text}
use Rattle.std.proofs.lemmas.Bool.{cases_Bool, cond-false}
use Rattle.conviction.proofs.Pasts.{checks-admitted}
use Rattle.round_spec.proofs.Contained.{contains-filter-from, contains-filter_map-from, contains-flat-from, contains-map-from}
use Rattle.accountability.proofs.Evidence.{convicts-not, evidence_accepted, firsts-check, stand-closed, transcript-of}
use Rattle.accountability.proofs.Equivocations.{embedded-bytes}
use Rattle.round_spec.specs.Embedded.{embedded_pairs, slot_named}
use Rattle.accountability.proofs.Endings.{ending-cases, outcome-cases}
use Rattle.round_spec.proofs.Given.{first_posts_delivered}
use Rattle.signed_post.specs.Frame.{frame_of}
use Rattle.signed_post.proofs.Frames.{framed-again, framed-found}
use Rattle.phase_message.specs.Header.{header_of}
use Rattle.conviction.proofs.OwnRows.{in-range}
use Rattle.phase_message.specs.Stages.{is_slot}
use Rattle.stage_log.specs.Table.{kept_in}
use Rattle.conviction.proofs.Framings.{no_framing}
use Rattle.std.proofs.lemmas.Option.{none-some}
use Rattle.accountability.proofs.EvidenceBytes.{opened-is_bytes, spelling-bytes}
use Rattle.phase_message.specs.Post.{post_spelling}
use Rattle.go_nogo.specs.Closing.{posts_embedded, slots_embedded}
use Rattle.std.specs.List.{range_with_len}
use Rattle.round_spec.proofs.Honesty.{run_after_is_honest, settled_run_is_honest}
use Rattle.round_spec.specs.Settled.{settled_run}
use Rattle.round_spec.proofs.Beginnings.{shape-is}
use Rattle.group_roster.specs.Roster.{shape_of_roster}
use Rattle.phase_message.proofs.SlotBounds.{slot-bounds}
use Rattle.round_spec.proofs.PastForms.{checks-read, spelled-bytes}
use Rattle.phase_message.specs.Slots.{stage_count}
use Rattle.transcript_form.specs.Form.{transcript_read}
use Rattle.transcript_form.proofs.Transcripts.{transcript_read-again}
use Rattle.round_spec.proofs.Verdicts.{verdict_cases}

-- ---- the part that ends

-- the first deliveries that end by a conviction, and the run of them
pub record IsBlame (c : Configuration) (delivered : List (List ℕ)) (t : Transcript) : Type 0 where
  pub count : ℕ
  pub ends : ending_of c (take count delivered) ≡ Some (Convicts t)
  pub run_is : run_after c delivered ≡ settled_run c (first_posts c (take count delivered))

pub blame-of : (c : Configuration) (delivered : List (List ℕ)) (t : Transcript) → result_of c delivered ≡ Blamed t → IsBlame c delivered t
unfolding log_after
blame-of c delivered t e = elim (outcome-cases c delivered) [
  | inl open_end ↦ absurd (waits-not (first_posts c delivered) (stand_after c delivered) (sym e ∙ open_end.outcome_is))
  | inr ended ↦ record {
    count = ended.count;
    ends = ended.ends ∙ ap (λ (v : Verdict). Some v) (convicted (stand_after c (take ended.count delivered)) ended.verdict
        (sym e ∙ ended.outcome_is));
    run_is = ap (λ (o : Option (ℕ × Verdict)). record { config = c; log = settled_log c (first_posts c (counted_part delivered o)) })
        ended.least;
  }
]
  where
    waits-not : (others : Others) (stand : Stand) → Blamed t ≡ waiting_outcome c others stand → ⊥
    waits-not others stand w = absurd cc

    convicted : (stand : Stand) (verdict : Verdict) → Blamed t ≡ outcome_ended c stand verdict → verdict ≡ Convicts t
    convicted stand Goes w = absurd cc
    convicted stand Done w = absurd cc
    convicted stand (Convicts other) w = ap (λ (x : Transcript). Convicts x) (sym (transcript-of t other w))

-- ---- what is listed

-- a property of all that was delivered, of all that was kept and of all that was embedded at the end is one of all that is
-- listed
pub part-has : (P : List ℕ → Type 0) (c : Configuration) (part : List (List ℕ)) (t : Transcript) → IsConfiguration c → All IsBytes part
    → ending_of c part ≡ Some (Convicts t)
    → ((bytes : List ℕ) → Contains part bytes → P bytes)
    → ((slot : Slot) (post : Post) → kept_in (settled_log c (first_posts c part)) slot ≡ Some post → P (post_spelling post))
    → ((stage member : ℕ) (posts : List Post) (content : Content) (pair : Slot × List ℕ)
    → IsKeptEnd (settled_run c (first_posts c part)) stage posts
    → IsMemberOf (closing_of c posts stage) member → closing_content (closing_of c posts stage) member ≡ Ok content
    → Contains (embedded_pairs c.roster content) pair → P pair.1)
    → (bytes : List ℕ) → Contains t.posts bytes → P bytes
part-has P c part t is all ends delivered kept embedded = elim (ending-cases c part (Convicts t) ends) [
  | inl last ↦ elim last.shows [
    | inl malformed ↦ in-posts P t _ _ malformed.verdict_is refl (one-has P last.bytes (delivered last.bytes last.listed))
    | inr other ↦
        let first = first_posts_delivered c part (slot_named other.heard.header) other.first all other.kept in
        let spelled = (framed-found first.bytes other.first (All-contains IsBytes part first.bytes all first.listed) first.spelled).1 in
        in-posts P t _ _ other.verdict_is refl (two-have P (post_spelling other.first) last.bytes
        (subst P spelled (delivered first.bytes first.listed)) (delivered last.bytes last.listed))
  ]
  | inr course ↦
      let closed = stand-closed c (first_posts c part) (Convicts t) is (firsts-check c part all) course.1
      (λ goes. convicts-not t Goes (inl refl) goes) in
      verdict-lists P (settled_run c (first_posts c part)) closed.0 (course_of c (first_posts c part)).past t closed.1.kept
      closed.1.verdict_is
      (λ post listed. (let at = past-slot (settled_run c (first_posts c part)) (closed.0 + 1) (course_of c (first_posts c part)).past post
      closed.1.kept.honest closed.1.kept.kept listed in kept at.0 post at.1))
      (λ member content pair member_is reads justified listed. embedded closed.0 member (course_of c (first_posts c part)).past content pair
      closed.1.kept member_is reads listed)
]

-- ---- evidence is bytes

embedded-is_bytes : (run : Run) (stage member : ℕ) (posts : List Post) (content : Content) (pair : Slot × List ℕ)
    → IsKeptEnd run stage posts
    → IsMemberOf (closing_of run.config posts stage) member → closing_content (closing_of run.config posts stage) member ≡ Ok content
    → Contains (embedded_pairs run.config.roster content) pair → IsBytes pair.1
embedded-is_bytes run stage member posts content pair end is reads listed =
    let k = kept-end run stage member posts end is in
    let bytes = subst (λ (x : Content). IsBytes (body_text x.body)) (content-is run stage member posts content k reads)
    (body-bytes run posts stage member k) in
    all-contained IsBytes (posts_embedded content.body) pair.1 (embedded-bytes content.body bytes)
    (zip-second (slots_embedded (shape_in run.config) content) (posts_embedded content.body) pair listed)

no-detail : (t other : Transcript) (v : Verdict) → v ≡ Convicts other → Convicts t ≡ v → other.detail ≡ None
    → IsBytes (detail_spelling t.detail)
no-detail t other v is e none = subst (λ (o : Option Accusation). IsBytes (detail_spelling o))
    (sym (ap (λ (x : Transcript). x.detail) (transcript-same t other (e ∙ is)) ∙ none)) IsBytes-nil

verdict-detail : (run : Run) (stage : ℕ) (posts : List Post) (t : Transcript) → IsKeptEnd run stage posts
    → verdict_of (closing_of run.config posts stage) ≡ Convicts t
    → IsBytes (detail_spelling t.detail)
verdict-detail run stage posts t end e = by_case (verdict_cases (closing_of run.config posts stage) (whole-end run stage posts end))
  where
    by_case : Case (closing_of run.config posts stage) (verdict_of (closing_of run.config posts stage)) → IsBytes (detail_spelling t.detail)
    by_case (ByBadLog is) = no-detail t _ _ is.verdict_is (sym e) refl
    by_case (ByEquivocation is) = no-detail t _ _ is.verdict_is (sym e) refl
    by_case (ByWrongSeed is) = no-detail t _ _ is.verdict_is (sym e) refl
    by_case (ByReplay is) = no-detail t _ _ is.verdict_is (sym e) refl
    by_case (ByBadPad is) =
        let spelled = ((accusations_are_spelled is.item is.accusation).0 is.spelled).1 in
        subst (λ (x : Transcript). IsBytes (detail_spelling x.detail)) (sym (transcript-same t _ (sym e ∙ is.verdict_is)))
        (subst IsBytes spelled (opened-is_bytes run stage is.shuffle posts is.item end is.kind is.second is.opened))
    by_case (GoesOn agree work goes) = absurd (convicts-not t (verdict_of (closing_of run.config posts stage)) (inl goes) (sym e))
    by_case (Ends agree done ends) = absurd (convicts-not t (verdict_of (closing_of run.config posts stage)) (inr ends) (sym e))

part-detail : (c : Configuration) (part : List (List ℕ)) (t : Transcript) → IsConfiguration c → All IsBytes part
    → ending_of c part ≡ Some (Convicts t) → IsBytes (detail_spelling t.detail)
part-detail c part t is all ends = elim (ending-cases c part (Convicts t) ends) [
  | inl last ↦ elim last.shows [
    | inl malformed ↦ no-detail t _ _ malformed.verdict_is refl refl
    | inr other ↦ no-detail t _ _ other.verdict_is refl refl
  ]
  | inr course ↦
      let closed = stand-closed c (first_posts c part) (Convicts t) is (firsts-check c part all) course.1
      (λ goes. convicts-not t Goes (inl refl) goes) in
      verdict-detail (settled_run c (first_posts c part)) closed.0 (course_of c (first_posts c part)).past t closed.1.kept
      closed.1.verdict_is
]

-- one transcript has one spelling
pub transcript-one : (shape : Shape) (a b : Transcript) → IsShape shape.version shape.members → IsTranscript shape a
    → transcript_spelling b ≡ transcript_spelling a
    → IsTranscript shape b → a ≡ b
transcript-one shape a b is form spelled other_form =
    told-same a b (sym (transcript_read-again shape a is form) ∙ ap (transcript_read shape) (sym spelled)
    ∙ transcript_read-again shape b is other_form)
  where
    told-same : (x y : Transcript) → (let told : Transcript → Result Transcript FailedForm = λ z. Ok z in told x ≡ told y) → x ≡ y
    told-same x y e = cc

pub evidence_is_bytes : EvidenceIsBytes
evidence_is_bytes c delivered t is all e =
    let blame = blame-of c delivered t e in
    let part_bytes = All-take IsBytes blame.count delivered all in
    let honest = settled_run_is_honest c (first_posts c (take blame.count delivered)) is
    (firsts-check c (take blame.count delivered) part_bytes) in
    let accepts = evidence_accepted c delivered t is all e in
    let few = (shape-is c is.enter).most in
    spelling-bytes (shape_of_roster c.roster) t few accepts.form (record {
      posts = part-has IsBytes c (take blame.count delivered) t is part_bytes blame.ends
          (λ bytes listed. All-contains IsBytes (take blame.count delivered) bytes part_bytes listed)
          (λ slot post kept. spelled-bytes c slot post (checks-read c slot post (honest.posts slot post kept)))
          (λ stage member posts content pair end member_is reads listed. embedded-is_bytes
          (settled_run c (first_posts c (take blame.count delivered))) stage member posts content pair end member_is reads listed);
      detail = part-detail c (take blame.count delivered) t is part_bytes blame.ends;
    })

-- ---- what is listed was said

-- everything that is listed was delivered or embedded in what was, or is the member's own
pub evidence-traced : (c : Configuration) (delivered : List (List ℕ)) (t : Transcript) → IsConfiguration c → All IsBytes delivered
    → result_of c delivered ≡ Blamed t
    → (bytes : List ℕ) → Contains t.posts bytes → IsTraced (run_after c delivered) delivered bytes
evidence-traced c delivered t is all e bytes listed =
    let blame = blame-of c delivered t e in
    let part_bytes = All-take IsBytes blame.count delivered all in
    widened (run_after c delivered) (take blame.count delivered) delivered (λ b there. take-listed blame.count delivered b there) bytes
    (subst (λ (run : Run). IsTraced run (take blame.count delivered) bytes) (sym blame.run_is)
    (part-has (IsTraced (settled_run c (first_posts c (take blame.count delivered))) (take blame.count delivered)) c
    (take blame.count delivered) t is part_bytes blame.ends
    (λ b there. Given (inl there)) (λ slot post kept. kept-traced c (take blame.count delivered) slot post part_bytes kept)
    (λ stage member posts content pair end member_is reads there. embedded-traced c (take blame.count delivered) stage member posts content
    pair part_bytes end member_is reads there) bytes listed))

kept-sent : (run : Run) (stage : ℕ) (post : Post) → kept_in run.log (own_slot run stage) ≡ Some post → Contains (sent run) post.content
unfolding sent
kept-sent run stage post kept =
    let speaks_there : is_slot run.log.shape stage run.config.number ≡ true = elim
    (cases_Bool (is_slot run.log.shape stage run.config.number)) [
      | inl speaks_there ↦ speaks_there
      | inr silent ↦ absurd (none-some post (sym (cond-false (is_slot run.log.shape stage run.config.number) _ None silent) ∙ kept))
    ] in
    let bound = (slot-bounds run.log.shape stage run.config.number speaks_there).0 in
    contains-map-from (λ (p : Post). p.content) (posts_said run) post
    (contains-filter_map-from (λ s. kept_in run.log (own_slot run s)) (range_with_len 0 (stage_count run.log.shape)) stage post
    (in-range 0 (stage_count run.log.shape) stage (omega arith) (omega (arith, bound))) kept)

own-sent : (runs : List Run) (run : Run) (content : List ℕ) → Contains runs run → Contains (sent run) content
    → Sent runs run.config.number content
unfolding contents_sent
own-sent runs run content listed said =
    contains-flat-from sent (runs_of runs run.config.number) run content
    (contains-filter-from (λ (r : Run). r.config.number == run.config.number) runs run listed
    (eq-eqb run.config.number run.config.number refl)) said

post-same : (a b : Post) (r : Result Post ℕ) → r ≡ Ok a → r ≡ Ok b → a ≡ b
post-same a b r e e' = (let both = sym e ∙ e' in cc)

header-same : (a b : Header) (r : Result Header Short) → r ≡ Ok a → r ≡ Ok b → a ≡ b
header-same a b r e e' = (let both = sym e ∙ e' in cc)

-- what is traced and admitted with the number of a run was sent
pub traced-sent : (runs : List Run) (run : Run) (delivered : List (List ℕ)) (bytes : List ℕ) (post : Post) (header : Header) (round : ℕ)
    → HonestRun run → Contains runs run
    → NoForgery run.config.roster delivered runs → IsTraced run delivered bytes → frame_of bytes ≡ Ok post
    → Admitted run.config.roster round post header
    → HasNumber runs header.sender → Sent runs header.sender post.content
traced-sent runs run delivered bytes post header round honest own unforged (Given given) spelled admitted has =
    unforged bytes post header given spelled (subst (λ (r : ℕ). Admitted run.config.roster r post header) (sym admitted.this_round)
    admitted) has
traced-sent runs run delivered bytes post header round honest own unforged (Own stage kept at is) spelled admitted has =
    let checks = honest.posts (own_slot run stage) kept at in
    let file = file-says run.config (own_slot run stage) kept checks in
    let framed : frame_of bytes ≡ Ok kept = ap frame_of is ∙ framed-again kept
    (checks-admitted run.config (own_slot run stage) kept checks).1.frame in
    let same : kept ≡ post = post-same kept post (frame_of bytes) framed spelled in
    let head : checks.content.header ≡ header = header-same checks.content.header header (header_of kept.content) file.admitted.reads
    (ap (λ (p : Post). header_of p.content) same ∙ admitted.reads) in
    let number : run.config.number ≡ header.sender = sym (ap (λ (s : Slot). s.sender) checks.named) ∙ ap (λ (h : Header). h.sender) head in
    subst (λ (n : ℕ). Sent runs n post.content) number
    (own-sent runs run post.content own (subst (λ (p : Post). Contains (sent run) p.content) same (kept-sent run stage kept at)))

pub accused_faulty : AccusedFaulty
accused_faulty c delivered runs t among e none run listed number round =
    no_framing c.roster (transcript_spelling t) t.accused t.claim (evidence_is_bytes c delivered t among.config among.bytes e)
    (evidence_accepted c delivered t among.config among.bytes e).accepts runs among.honest none
    (λ other form spelled. (
    let accepts = evidence_accepted c delivered t among.config among.bytes e in
    let same = transcript-one (shape_of_roster c.roster) other t (shape-is c among.config.enter) form spelled accepts.form in
    said other same))
  where
    has : HasNumber runs t.accused
    has = (run, listed, number)

    honest : HonestRun (run_after c delivered)
    honest = run_after_is_honest c delivered among.config among.bytes

    said : (other : Transcript) → other ≡ t → SaidBy c.roster runs t.accused other.round other.posts
    said other same bytes post header there spelled admitted sender =
        let traced = evidence-traced c delivered t among.config among.bytes e bytes
        (subst (λ (x : Transcript). Contains x.posts bytes) same there) in
        subst (λ (n : ℕ). Sent runs n post.content) sender
        (traced-sent runs (run_after c delivered) delivered bytes post header other.round honest among.own among.unforged traced spelled
        admitted
        (subst (HasNumber runs) (sym sender) has))
