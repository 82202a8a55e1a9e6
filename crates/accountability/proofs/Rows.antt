-- What stands in the slots of other honest members is what they said.
use Rattle.std.proofs.Common.{arith, refl, All, Contains, List, None, Ok, Option, Result, Some, ap, length, slice_get, subst, suc, sym, take, true, ◌≡◌, ◌∙◌, ◌∷◌, ◌<◌, ◌≤◌, ◌+◌, ◌-◌, ◌^◌, [], ℕ}
use Rattle.std.proofs.lemmas.List.{take_all, length-map, take-map}
use Rattle.phase_message.specs.declared.stage.StageKind.TheVariants.{Go as AtGo, Check as AtCheck}
use Rattle.std.proofs.lemmas.List.Elements.{All-take}
use Rattle.wire_core.specs.Hash.{ArePieces}
use Rattle.accountability.proofs.Votes.{AreYes, IsYes, check-yes, go-yes, votes-yes}
use Rattle.round_spec.proofs.AgreedClosings.{ClosingKind}
use Rattle.round_spec.specs.Say.{Configuration, own_header, shape_in}
use Rattle.phase_message.specs.declared.header.Header.{Header}
use Rattle.round_spec.specs.Runs.{HonestRun, Run, Sent, run_after, sent}
use Rattle.accountability.specs.Faulty.{IsAmong}
use Rattle.wire_core.specs.Bytes.{IsBytes}
use Rattle.round_spec.specs.Rows.{IsOwnRow, IsRunOf}
use Rattle.conviction.proofs.Closings.{IsPast, is-past}
use Rattle.accountability.proofs.Traces.{IsTraced, kept-traced, slot-kept, take-listed, widened}
use Rattle.signed_post.specs.Lengths.{IsVoteStage}
use Rattle.accountability.proofs.Kept.{KeptIn, checks-header, closing-kind, content-sender, content-stage, file-says, kept-in, member-there}
use Rattle.conviction.proofs.OwnRows.{OwnSaid, own-said, own-speaks}
use Rattle.phase_message.specs.declared.post.Post.{Post}
use Rattle.group_roster.specs.Roster.{Roster, shape_of_roster}
use Rattle.accountability.specs.Agreed.{SamePast}
use Rattle.signed_post.specs.Admission.{Says}
use Rattle.phase_message.specs.Shape.{Shape}
use Rattle.wire_core.specs.declared.cursor.Short.{Short}
use Rattle.phase_message.specs.declared.stage.Slot.{Slot}
use Rattle.phase_message.specs.declared.stage.StageKind.{StageKind}
use Rattle.round_spec.specs.Verdict.{Verdict}
use Rattle.stage_log.specs.Log.{before, contents_of, view_of}
use Rattle.conviction.proofs.Pasts.{checks-admitted}
use Rattle.phase_message.proofs.Closings.{closing-follows}
use Rattle.round_spec.proofs.Contained.{contains-flat-from}
use Rattle.round_spec.specs.Result.{counted_part, first_posts, least_ending, log_after}
use Rattle.signed_post.specs.Frame.{frame_of}
use Rattle.signed_post.proofs.Frames.{framed-again}
use Rattle.phase_message.specs.Header.{header_of}
use Rattle.phase_message.specs.Stages.{is_member, is_slot, kind_of_stage, speaks}
use Rattle.stage_log.specs.Table.{kept_in}
use Rattle.std.specs.Prelude.{option_map}
use Rattle.round_spec.proofs.Rows.{own_row, run_of_content, run_unique}
use Rattle.phase_message.specs.Post.{post_spelling}
use Rattle.conviction.proofs.Posts.{run-honest, run-roster}
use Rattle.round_spec.proofs.Honesty.{run_after_is_honest}
use Rattle.round_spec.proofs.Strings.{run_has_strings}
use Rattle.round_spec.specs.Course.{settled_log}
use Rattle.round_spec.specs.Settled.{settled_run}
use Rattle.std.proofs.lemmas.Option.{slice_get-map}
use Rattle.phase_message.proofs.SlotBounds.{slot-bounds}
use Rattle.phase_message.specs.Slots.{slot_number, slots_before, stage_count}
use Rattle.round_spec.proofs.PastForms.{spelled-long}
use Rattle.round_spec.specs.Premises.{strings_of_run, strings_of_runs}
use Rattle.accountability.proofs.Faulty.{traced-sent}
use Rattle.stage_log.specs.Views.{view_strings}
use Rattle.stage_log.proofs.EqualViews.{views-determine}

-- ---- the own log

counted-traced : (c : Configuration) (delivered : List (List ℕ)) (slot : Slot) (post : Post) (o : Option (ℕ × Verdict))
    → All IsBytes delivered
    → kept_in (settled_log c (first_posts c (counted_part delivered o))) slot ≡ Some post
    → IsTraced (settled_run c (first_posts c (counted_part delivered o))) delivered (post_spelling post)
counted-traced c delivered slot post None all kept = kept-traced c delivered slot post all kept
counted-traced c delivered slot post (Some ending) all kept =
    widened (settled_run c (first_posts c (take ending.0 delivered))) (take ending.0 delivered) delivered
    (λ bytes there. take-listed ending.0 delivered bytes there) (post_spelling post)
    (kept-traced c (take ending.0 delivered) slot post (All-take IsBytes ending.0 delivered all) kept)

pub log-traced : (c : Configuration) (delivered : List (List ℕ)) (slot : Slot) (post : Post) → All IsBytes delivered
    → kept_in (run_after c delivered).log slot ≡ Some post → IsTraced (run_after c delivered) delivered (post_spelling post)
unfolding log_after
log-traced c delivered slot post all kept = counted-traced c delivered slot post (least_ending c delivered) all kept

-- ---- the row of a run in a slot

header-same : (a b : Header) (r : Result Header Short) → r ≡ Ok a → r ≡ Ok b → a ≡ b
header-same a b r e e' = (let both = sym e ∙ e' in cc)

-- what stands in a slot of a run is its row
pub record RowIn (c : Configuration) (delivered : List (List ℕ)) (run : Run) (posts : List Post) (stage : ℕ) : Type 0 where
  pub kept : KeptIn (run_after c delivered) posts stage run.config.number
  pub row : IsOwnRow run kept.post.content
  pub at : row.stage ≡ stage

pub row-in : (c : Configuration) (delivered : List (List ℕ)) (runs : List Run) (later stage : ℕ) (posts : List Post) (run : Run)
    → IsAmong c delivered runs
    → before (run_after c delivered).log later ≡ Some posts → Contains runs run → run.config.round ≡ c.round
    → is_slot (shape_in c) stage run.config.number ≡ true → stage < later → RowIn c delivered run posts stage
row-in c delivered runs later stage posts run among before_is listed round speaks_there lt = record { kept = k; row = row; at = at }
  where
    honest : HonestRun (run_after c delivered)
    honest = run_after_is_honest c delivered among.config among.bytes

    k : KeptIn (run_after c delivered) posts stage run.config.number
    k = kept-in (run_after c delivered) later stage run.config.number posts (is-past (run_after c delivered) later posts honest before_is)
        speaks_there lt

    slot : Slot
    slot = record { stage = stage; sender = run.config.number }

    says : Says c.roster c.round (post_spelling k.post) k.post.content k.checks.content.header
    says = file-says c slot k.post k.checks

    framed : frame_of (post_spelling k.post) ≡ Ok k.post
    framed = framed-again k.post (checks-admitted c slot k.post k.checks).1.frame

    sender : k.checks.content.header.sender ≡ run.config.number
    sender = content-sender (run_after c delivered) posts stage run.config.number k

    was_sent : Sent runs run.config.number k.post.content
    was_sent = subst (λ (n : ℕ). Sent runs n k.post.content) sender
        (traced-sent runs (run_after c delivered) delivered (post_spelling k.post) k.post k.checks.content.header c.round honest among.own
        among.unforged
        (log-traced c delivered slot k.post among.bytes (slot-kept (run_after c delivered) later stage run.config.number posts honest
        before_is speaks_there k)) framed (checks-header c slot k.post k.checks)
        (run, listed, sym sender))

    found : (other : Run) × IsRunOf runs run.config.number k.checks.content.header.round other × Contains (sent other) k.post.content
    found = run_of_content c.roster runs run.config.number k.post.content k.checks.content.header among.honest was_sent says.admitted.reads

    other_is : IsRunOf runs run.config.number c.round found.0
    other_is = subst (λ (r : ℕ). IsRunOf runs run.config.number r found.0) says.admitted.this_round found.1

    same : found.0 ≡ run
    same = run_unique c.roster runs run.config.number c.round found.0 run among.honest other_is
        (record { listed = listed; number = refl; round = round })

    row : IsOwnRow run k.post.content
    row = own_row run k.post.content (run-honest c.roster runs run among.honest listed)
        (subst (λ (r : Run). Contains (sent r) k.post.content) same found.2)

    at : row.stage ≡ stage
    at = ap (λ (h : Header). h.stage) (header-same (own_header run.config row.past row.stage) k.checks.content.header
        (header_of k.post.content) row.header says.admitted.reads)
        ∙ content-stage (run_after c delivered) posts stage run.config.number k

-- ---- the view that a yes carries

row-view : (run : Run) (text : List ℕ) (row : IsOwnRow run text) (kind : StageKind) (view : List ℕ) → IsVoteStage kind
    → kind_of_stage (shape_in run.config) row.stage ≡ Some kind
    → IsYes (shape_in run.config) view text → view_of (shape_in run.config) (contents_of row.past) row.stage ≡ view
row-view run text row (AtGo shuffle) view is at yes_is = (go-yes run text row shuffle view at yes_is).carries
row-view run text row AtCheck view is at yes_is = (check-yes run text row view at yes_is).carries
row-view run text row _ view is at yes_is = absurd is

vote-sender : (shape : Shape) (kind : StageKind) (member : ℕ) → IsVoteStage kind → is_member shape.members member ≡ true
    → speaks shape (Some kind) member ≡ true
vote-sender shape (AtGo shuffle) member is there_is = there_is
vote-sender shape AtCheck member is there_is = there_is
vote-sender shape _ member is there_is = absurd is

-- ---- one past

short-content : (post : Post) → length (post_spelling post) < 2 ^ 32 → length post.content < 2 ^ 32
short-content post short = (let long = spelled-long post in omega (arith, long, short))

past-pieces : (posts : List Post) → ((k : ℕ) (post : Post) → slice_get posts k ≡ Some post → length (post_spelling post) < 2 ^ 32)
    → ArePieces (contents_of posts)
past-pieces [] short = tt
past-pieces (post ∷ posts) short = (short-content post (short 0 post refl), past-pieces posts (λ k other at. short (suc k) other at))

-- strings of the views of a past of an honest run are among those of the runs
views-among : (runs : List Run) (run : Run) (stage : ℕ) (past : List Post) (shape : Shape) → Contains runs run → run.log.shape ≡ shape
    → stage < stage_count shape
    → before run.log stage ≡ Some past → (s : List ℕ) → Contains (view_strings shape (contents_of past) stage) s
    → Contains (strings_of_runs runs) s
views-among runs run stage past shape listed shape_is lt kept s there =
    contains-flat-from strings_of_run runs run s listed
    ((run_has_strings run).views stage past s (omega (arith, lt, ap (λ (x : Shape). x.members) shape_is)) kept
    (subst (λ (all : List (List ℕ)). Contains all s) (ap (λ (x : Shape). view_strings x (contents_of past) stage) (sym shape_is)) there))

pub same_past : SamePast
same_past c delivered runs stage posts run end listed round = record {
  past = mine.row.past;
  kept = mine_kept;
  same = past_is;
}
  where
    shape : Shape
    shape = shape_in c

    honest : HonestRun (run_after c delivered)
    honest = end.kept.honest

    its : HonestRun run
    its = run-honest c.roster runs run end.among.honest listed

    roster_is : run.config.roster ≡ c.roster
    roster_is = run-roster c.roster runs run end.among.honest listed

    shape_is : shape_in run.config ≡ shape_in c
    shape_is = ap (λ (r : Roster). shape_of_roster r) roster_is

    closes : ClosingKind shape stage
    closes = closing-kind shape stage end.kept.closing

    follows : (1 ≤ stage) × (kind_of_stage shape (stage - 1) ≡ Some closes.vote)
    follows = closing-follows shape stage closes.kind closes.vote closes.is closes.closes

    votes : AreYes shape (contents_of posts) stage
    votes = votes-yes shape (contents_of posts) stage closes end.agree.votes

    -- everybody speaks in the votes
    vote_speaks : (member : ℕ) → 1 ≤ member → member ≤ shape.members → is_slot shape (stage - 1) member ≡ true
    vote_speaks member least most = ap (λ (o : Option StageKind). speaks shape o member) follows.1
        ∙ vote-sender shape closes.vote member closes.votes (member-there shape.members member least most)

    within : (0 < stage_count shape) × (1 ≤ c.number) × (c.number ≤ shape.members)
    within = slot-bounds shape 0 c.number (own-speaks c end.among.config)

    its_within : (1 ≤ run.config.number) × (run.config.number ≤ shape.members)
    its_within =
        let bounds = slot-bounds (shape_in run.config) 0 run.config.number (own-speaks run.config its.config) in
        (bounds.1, subst (λ (s : Shape). run.config.number ≤ s.members) shape_is bounds.2)

    own_speaks : is_slot shape (stage - 1) c.number ≡ true
    own_speaks = vote_speaks c.number within.1 within.2

    bound : stage - 1 < stage_count shape
    bound = (slot-bounds shape (stage - 1) c.number own_speaks).0

    mine : RowIn c delivered run posts (stage - 1)
    mine = row-in c delivered runs (stage + 1) (stage - 1) posts run end.among end.kept.kept listed round
        (vote_speaks run.config.number its_within.0 its_within.1) (omega arith)

    mine_kept : before run.log (stage - 1) ≡ Some mine.row.past
    mine_kept = subst (λ (s : ℕ). before run.log s ≡ Some mine.row.past) mine.at mine.row.before

    other : OwnSaid (run_after c delivered) posts (stage - 1)
    other = own-said (run_after c delivered) (stage + 1) (stage - 1) posts honest end.kept.kept own_speaks (omega arith)

    other_kept : before (run_after c delivered).log (stage - 1) ≡ Some other.row.past
    other_kept = subst (λ (s : ℕ). before (run_after c delivered).log s ≡ Some other.row.past) other.at other.row.before

    text_there : slice_get (contents_of posts) (slot_number shape (stage - 1) run.config.number) ≡ Some mine.kept.post.content
    text_there = slice_get-map (λ (p : Post). p.content) posts _ ∙ ap (option_map (λ (p : Post). p.content)) mine.kept.at

    my_view : view_of shape (contents_of mine.row.past) (stage - 1) ≡ votes.view
    my_view =
        ap (λ (s : Shape). view_of s (contents_of mine.row.past) (stage - 1)) (sym shape_is)
        ∙ ap (view_of (shape_in run.config) (contents_of mine.row.past)) (sym mine.at)
        ∙ row-view run mine.kept.post.content mine.row closes.vote votes.view closes.votes
        (ap (kind_of_stage (shape_in run.config)) mine.at ∙ ap (λ (s : Shape). kind_of_stage s (stage - 1)) shape_is ∙ follows.1)
        (subst (λ (s : Shape). IsYes s votes.view mine.kept.post.content) (sym shape_is)
        (votes.each run.config.number mine.kept.post.content its_within.0 its_within.1 text_there))

    other_view : view_of shape (contents_of other.row.past) (stage - 1) ≡ votes.view
    other_view =
        ap (view_of shape (contents_of other.row.past)) (sym other.at)
        ∙ row-view (run_after c delivered) other.text other.row closes.vote votes.view closes.votes
        (ap (kind_of_stage shape) other.at ∙ follows.1)
        (votes.each c.number other.text within.1 within.2 other.stands)

    my_past : IsPast run (stage - 1) mine.row.past
    my_past = is-past run (stage - 1) mine.row.past its mine_kept

    other_past : IsPast (run_after c delivered) (stage - 1) other.row.past
    other_past = is-past (run_after c delivered) (stage - 1) other.row.past honest other_kept

    my_length : length mine.row.past ≡ slots_before shape (stage - 1)
    my_length = my_past.long ∙ ap (λ (s : Shape). slots_before s (stage - 1)) shape_is

    past_is : contents_of mine.row.past ≡ take (slots_before shape (stage - 1)) (contents_of posts)
    past_is =
        let n : ℕ = slots_before shape (stage - 1) in
        let other_length = other_past.long in
        sym (take_all n (contents_of mine.row.past) (omega (arith, my_length, length-map mine.row.past (λ (p : Post). p.content))))
        ∙ views-determine shape (contents_of mine.row.past) (contents_of other.row.past) (strings_of_runs runs) (stage - 1)
        (past-pieces mine.row.past my_past.short) (past-pieces other.row.past other_past.short)
        (views-among runs run (stage - 1) mine.row.past shape listed (its.shape ∙ shape_is) bound mine_kept)
        (views-among runs (run_after c delivered) (stage - 1) other.row.past shape end.among.own honest.shape bound other_kept)
        end.distinct (my_view ∙ sym other_view)
        ∙ take_all n (contents_of other.row.past) (omega (arith, other_length, length-map other.row.past (λ (p : Post). p.content)))
        ∙ ap contents_of other.front ∙ sym (take-map (λ (p : Post). p.content) n posts)
