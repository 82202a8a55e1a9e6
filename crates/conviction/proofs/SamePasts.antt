-- The log that a transcript of a bad pad lists is what the run of the accused kept: its own pads carry the view of both.
use Rattle.std.proofs.Common.{◌≡◌, ℕ, suc, ◌+◌, ◌<◌, ◌^◌, List, [], ◌∷◌, ◌++◌, length, take, Some, Result, Ok, ap, sym, ◌∙◌, refl, subst, arith, length-append}
use Rattle.std.specs.Prelude.{Contains, zip}
use Rattle.std.specs.Int.{w32, to_be_bytes}
use Rattle.std.specs.List.{AllByRecursion, slice_get}
use Rattle.std.proofs.lemmas.List.{length-map, take_all}
use Rattle.std.proofs.lemmas.List.Elements.{Contains-append_left}
use Rattle.std.proofs.lemmas.Option.{slice_get_within}
use Rattle.wire_core.specs.Answers.{◌>>=◌, fault_as}
use Rattle.wire_core.specs.Bytes.{IsBytes}
use Rattle.wire_core.specs.Hash.{ArePieces}
use Rattle.wire_core.proofs.Readings.{bind_ok, fault_as_ok}
use Rattle.phase_message.specs.declared.content.Body.TheVariants.{Pads}
use Rattle.phase_message.specs.declared.content.Content.{Content}
use Rattle.phase_message.specs.declared.header.Header.{Header}
use Rattle.phase_message.specs.declared.post.Post.{Post}
use Rattle.phase_message.specs.declared.stage.Slot.{Slot}
use Rattle.phase_message.specs.Post.{post_spelling}
use Rattle.phase_message.specs.Shape.{Shape}
use Rattle.phase_message.specs.Slots.{slots_before, slots_of}
use Rattle.group_roster.specs.Roster.{Roster}
use Rattle.signed_post.proofs.Frames.{framed-found}
use Rattle.stage_log.specs.Log.{before, contents_of, view_of}
use Rattle.stage_log.specs.Views.{view_strings}
use Rattle.stage_log.proofs.EqualViews.{views-determine}
use Rattle.transcript_form.specs.declared.transcript.Transcript.{Transcript}
use Rattle.transcript_form.specs.Transcript.{HasDetail, IsTranscript, transcript_spelling}
use Rattle.round_spec.specs.Embedded.{BadPost, WhyNot, post_for_slot, posts_for}
use Rattle.round_spec.specs.Premises.{NoneCollide, log_listed, strings_of_evidence, strings_of_run, strings_of_runs}
use Rattle.round_spec.specs.Runs.{Run}
use Rattle.round_spec.specs.Say.{shape_in}
use Rattle.round_spec.specs.Slots.{pad_stage}
use Rattle.round_spec.proofs.Contained.{contains-flat-from, contains-here, contains-later}
use Rattle.round_spec.proofs.Embedding.{post-for-slot}
use Rattle.round_spec.proofs.Strings.{run_has_strings, transcript_has_strings}
use Rattle.conviction.specs.Accepts.{ShowsBadPad}
use Rattle.conviction.specs.Blame.{PadSameLog}
use Rattle.conviction.specs.Framing.{OneRun}
use Rattle.conviction.proofs.Bodies.{row-header}
use Rattle.conviction.proofs.Closings.{IsPast, is-past}
use Rattle.conviction.proofs.Listed.{detail-is, got-listed, listed-bytes}
use Rattle.conviction.proofs.ListedLogs.{kept-before, log-listed, log_kept}
use Rattle.conviction.proofs.OnePost.{IsRowOf, file-row}
use Rattle.conviction.proofs.ReplayStrings.{transcript-among}

-- ---- contents are short

short-content : (post : Post) (n : ℕ) → length (post_spelling post) < n → length post.content < n
short-content post n lt =
    let size : List ℕ = to_be_bytes w32 (length post.content) in
    omega (arith, lt, length-append size post.content, length-append (size ++ post.content) post.signature)

past-pieces : (posts : List Post) → ((k : ℕ) (post : Post) → slice_get posts k ≡ Some post → length (post_spelling post) < 2 ^ 32)
    → ArePieces (contents_of posts)
past-pieces [] short = tt
past-pieces (post ∷ posts) short = (
  short-content post (2 ^ 32) (short 0 post refl),
  past-pieces posts
      (λ k other at. short (suc k) other at),
)

posts-same : (xs ys : List Post) → (let told : List Post → Result (List Post) BadPost = λ z. Ok z in told xs ≡ told ys) → xs ≡ ys
posts-same xs ys e = cc

-- so are those of posts that are found for their slots among short bytes
found-pieces : (roster : Roster) (round place : ℕ) (slots : List Slot) (items : List (List ℕ)) (posts : List Post)
    → ((item : List ℕ) → Contains items item → IsBytes item) → AllByRecursion (λ item. length item < 2 ^ 32) items
    → posts_for roster round place (zip slots items) ≡ Ok posts → ArePieces (contents_of posts)
unfolding posts_for
found-pieces roster round place [] items posts bytes short e = subst (λ (xs : List Post). ArePieces (contents_of xs))
    (posts-same [] posts e) tt
found-pieces roster round place (slot ∷ slots) [] posts bytes short e = subst (λ (xs : List Post). ArePieces (contents_of xs))
    (posts-same [] posts e) tt
found-pieces roster round place (slot ∷ slots) (item ∷ items) posts bytes short e =
    let bad : WhyNot → BadPost = λ why. record { place = place; why = why } in
    let first =
    bind_ok (fault_as bad (post_for_slot roster round slot item))
    (λ post. posts_for roster round (place + 1) (zip slots items) >>= λ posts. Ok (post ∷ posts)) posts e in
    let others = bind_ok (posts_for roster round (place + 1) (zip slots items)) (λ posts. Ok (first.0 ∷ posts)) posts first.2 in
    let is = post-for-slot roster round slot item first.0 (fault_as_ok bad (post_for_slot roster round slot item) first.0 first.1) in
    let spelled = (framed-found item first.0 (bytes item (contains-here item items)) is.spelled).1 in
    subst (λ (xs : List Post). ArePieces (contents_of xs)) (posts-same (first.0 ∷ others.0) posts others.2) (
      short-content first.0 (2 ^ 32) (subst (λ (x : List ℕ). length x < 2 ^ 32) spelled short.0),
      found-pieces roster round (place + 1) slots items others.0 (λ other there. bytes other (contains-later item items other there))
          short.1 others.1,
    )

-- ---- one view

-- the own pads
pub own-pads : (run : Run) (t : Transcript) → OneRun t run → (e : ShowsBadPad run.config.roster t)
    → IsRowOf run (record { header = e.header; body = Pads e.pads })
own-pads run t one e =
    file-row run t e.pads_post (record { header = e.header; body = Pads e.pads }) one e.pads_are (got-listed t.posts _ e.pads_post e.last)
    e.sender

-- what is listed of the log for a bad pad
pub listed-log : (run : Run) (t : Transcript) → IsTranscript (shape_in run.config) t → (e : ShowsBadPad run.config.roster t)
    → log_listed run.config.roster t t.claim ≡ Some (log_kept (shape_in run.config) e.log)
listed-log run t form e =
    let claim = (detail-is t.claim e.accusation (subst (HasDetail t.claim) e.detail form.detail)).0 in
    let within = slice_get_within t.posts (slots_before (shape_in run.config) (pad_stage (shape_in run.config))) e.pads_post e.last in
    ap (log_listed run.config.roster t) claim ∙ log-listed run.config.roster t e.log e.whole (omega (arith, within)) e.stands

-- the log that is listed has the contents before the own pads
pub same-past : (run : Run) (runs : List Run) (t : Transcript) → Contains runs run → OneRun t run → IsTranscript (shape_in run.config) t
    → IsBytes (transcript_spelling t) → NoneCollide run.config.roster runs (transcript_spelling t)
    → (e : ShowsBadPad run.config.roster t) (own : IsRowOf run (record { header = e.header; body = Pads e.pads }))
    → contents_of e.log ≡ contents_of own.row.past
same-past run runs t listed one form bytes none e own =
    sym (take_all n (contents_of e.log) (let whole = e.whole in omega (arith, length-map e.log (λ (p : Post). p.content))))
    ∙ views-determine shape (contents_of e.log) (contents_of own.row.past) strings stage
    (found-pieces run.config.roster t.round 0 (take n (slots_of shape)) t.posts e.log (λ item there. listed-bytes t item bytes there)
    form.posts e.stands)
    (past-pieces own.row.past past.short) of_log of_run none views
    ∙ take_all n (contents_of own.row.past) (let long = past.long in omega
    (arith, length-map own.row.past (λ (p : Post). p.content), ap (slots_before shape) at))
  where
    shape : Shape
    shape = shape_in run.config

    stage : ℕ
    stage = pad_stage shape

    n : ℕ
    n = slots_before shape stage

    strings : List (List ℕ)
    strings = strings_of_runs runs ++ strings_of_evidence run.config.roster (transcript_spelling t)

    past : IsPast run own.row.stage own.row.past
    past = is-past run own.row.stage own.row.past one.honest own.row.before

    at : own.row.stage ≡ stage
    at = sym own.at ∙ e.at

    here : stage ≡ shape.members + 4
    here = refl

    views : view_of shape (contents_of e.log) stage ≡ view_of shape (contents_of own.row.past) stage
    views =
        sym e.view
        ∙ ap (λ (c : Content). c.header.view) (sym own.reads)
        ∙ ap (λ (h : Header). h.view) (row-header run own.text own.row)
        ∙ ap (view_of shape (contents_of own.row.past)) at

    of_log : (s : List ℕ) → Contains (view_strings shape (contents_of e.log) stage) s → Contains strings s
    of_log s there = transcript-among run runs t one form s
        ((transcript_has_strings run.config.roster t).listed_views (log_kept shape e.log) (listed-log run t form e) stage e.log s
        (omega (arith, here)) (kept-before shape stage e.log e.whole) there)

    of_run : (s : List ℕ) → Contains (view_strings shape (contents_of own.row.past) stage) s → Contains strings s
    of_run s there =
        let shape_is : run.log.shape ≡ shape = one.honest.shape in
        let same : view_strings shape (contents_of own.row.past) stage ≡ view_strings run.log.shape (contents_of own.row.past) own.row.stage
        =
        ap (view_strings shape (contents_of own.row.past)) (sym at)
        ∙ ap (λ (s : Shape). view_strings s (contents_of own.row.past) own.row.stage) (sym shape_is) in
        Contains-append_left (strings_of_runs runs) (strings_of_evidence run.config.roster (transcript_spelling t)) s
        (contains-flat-from strings_of_run runs run s listed
        ((run_has_strings run).views own.row.stage own.row.past s (omega (arith, at, here, ap (λ (s : Shape). s.members) shape_is))
        own.row.before
        (subst (λ (all : List (List ℕ)). Contains all s) same there)))

pub pad_same_log : PadSameLog
pad_same_log run runs t listed one form bytes none e =
    let own = own-pads run t one e in (
      own.row.past,
      subst (λ (stage : ℕ). before run.log stage ≡ Some own.row.past) (sym own.at ∙ e.at) own.row.before,
      same-past run runs t listed one form bytes none e own,
    )
