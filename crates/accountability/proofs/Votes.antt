-- Where votes are unanimous, each of them is yes and all carry one view; and what a member's own yes means.
use Rattle.std.proofs.Common.{arith, refl, Bool, List, None, Option, Some, ap, drop, map, slice_get, slice_index_or, subst, sym, true, ◌≡◌, ◌∙◌, ◌<◌, ◌≤◌, ◌+◌, ◌-◌, ◌&&◌, ℕ}
use Rattle.go_nogo.specs.Votes.{vote_of, AreUnanimous, are_unanimous, body_vote, has_unanimous, is_unanimous, vote_read, votes_agree, votes_of}
use Rattle.stage_log.proofs.Views.{slice_get-take}
use Rattle.phase_message.specs.declared.stage.StageKind.TheVariants.{Go as AtGo, Check as AtCheck}
use Rattle.phase_message.specs.declared.content.Body.{Body}
use Rattle.round_spec.proofs.AgreedClosings.{ClosingKind}
use Rattle.phase_message.specs.declared.content.Content.{Content}
use Rattle.phase_message.specs.declared.header.Header.{Header}
use Rattle.phase_message.specs.Grammar.{IsBody}
use Rattle.round_spec.specs.Rows.{IsOwnRow}
use Rattle.signed_post.specs.Lengths.{IsVoteStage}
use Rattle.phase_message.specs.declared.post.Post.{Post}
use Rattle.round_spec.specs.Runs.{Run}
use Rattle.phase_message.specs.Shape.{Shape}
use Rattle.phase_message.specs.declared.stage.StageKind.{StageKind}
use Rattle.go_nogo.specs.declared.votes.Vote.{Vote}
use Rattle.go_nogo.specs.Rows.{all_right, check_row, go_row, lists_before, stands_last}
use Rattle.stage_log.proofs.Pasts.{all_some-is, option_map-some}
use Rattle.std.proofs.lemmas.Bool.{and_parts}
use Rattle.conviction.proofs.Bodies.{body_due, row-header, row-is, row-reads}
use Rattle.stage_log.specs.Log.{contents_at, contents_of, first_wrong, view_of}
use Rattle.conviction.proofs.OwnVotes.{check-body, go-body}
use Rattle.phase_message.proofs.Closings.{closing-follows}
use Rattle.go_nogo.proofs.VoteSlots.{get_drop}
use Rattle.std.proofs.lemmas.Option.{get_or_from_slice_get, slice_get-map, slice_get_within}
use Rattle.std.specs.Prelude.{is_none, option_map}
use Rattle.phase_message.specs.Stages.{kind_of_stage}
use Rattle.round_spec.specs.Say.{own_body_if, own_descriptor, own_submission, shape_in}
use Rattle.phase_message.specs.Slots.{place_in, senders_of, slot_number, slots_before}
use Rattle.phase_message.proofs.Counts.{slots_next}
use Rattle.go_nogo.proofs.Unanimity.{unanimity}

-- a content is a vote for yes that carries a view
pub record IsYes (shape : Shape) (view text : List ℕ) : Type 0 where
  pub vote : Vote
  pub is : vote_of shape text ≡ Some vote
  pub approves : vote.yes ≡ true
  pub carries : vote.view ≡ view

all-unanimous : (shape : Shape) (contents : List (List ℕ)) → are_unanimous shape contents ≡ true
    → (votes : List Vote) × (votes_of shape contents ≡ Some votes) × AreUnanimous votes
unfolding are_unanimous
all-unanimous shape contents e = by_votes (votes_of shape contents) refl
  where
    by_votes : (o : Option (List Vote)) → votes_of shape contents ≡ o → (votes : List Vote) × (votes_of shape contents ≡ Some votes)
        × AreUnanimous votes
    by_votes None at = absurd (let no_votes = sym (ap has_unanimous at) ∙ e in cc)
    by_votes (Some votes) at = (votes, at, (unanimity votes (is_unanimous votes) refl).0 (sym (ap has_unanimous at) ∙ e))

vote-at : (shape : Shape) (contents : List (List ℕ)) (votes : List Vote) (k : ℕ) (text : List ℕ) → votes_of shape contents ≡ Some votes
    → (all : AreUnanimous votes) → slice_get contents k ≡ Some text → IsYes shape all.0 text
vote-at shape contents votes k text e all at =
    let each : map (vote_of shape) contents ≡ map (λ vote. Some vote) votes = all_some-is (map (vote_of shape) contents) votes e in
    let here : slice_get (map (vote_of shape) contents) k ≡ Some (vote_of shape text) = slice_get-map (vote_of shape) contents k
    ∙ ap (option_map (vote_of shape)) at in
    let found = option_map-some (λ (vote : Vote). Some vote) (slice_get votes k) (vote_of shape text)
    (sym (slice_get-map (λ (vote : Vote). Some vote) votes k) ∙ sym (ap (λ (xs : List (Option Vote)). slice_get xs k) each) ∙ here) in
    let parts = all.1 k found.0 (slice_get_within votes k found.0 found.1) in
    let same : slice_index_or votes k found.0 ≡ found.0 = get_or_from_slice_get votes k found.0 found.0 found.1 in
    record {
      vote = found.0;
      is = sym found.2;
      approves = sym (ap (λ (vote : Vote). vote.yes) same) ∙ parts.0;
      carries = sym (ap (λ (vote : Vote). vote.view) same) ∙ parts.1;
    }

-- each member's vote before a closing stage
pub record AreYes (shape : Shape) (past : List (List ℕ)) (stage : ℕ) : Type 0 where
  pub view : List ℕ
  pub each : (member : ℕ) (text : List ℕ) → 1 ≤ member → member ≤ shape.members
      → slice_get past (slot_number shape (stage - 1) member) ≡ Some text
      → IsYes shape view text

vote-place : (kind : StageKind) (member : ℕ) → IsVoteStage kind → place_in (Some kind) member ≡ member - 1
vote-place (AtGo shuffle) member is = refl
vote-place AtCheck member is = refl
vote-place _ member is = absurd is

pub votes-yes : (shape : Shape) (past : List (List ℕ)) (stage : ℕ) → ClosingKind shape stage → votes_agree shape past stage ≡ true
    → AreYes shape past stage
votes-yes shape past stage k e =
    let found = all-unanimous shape (contents_at shape past (stage - 1)) e in
    let follows = closing-follows shape stage k.kind k.vote k.is k.closes in
    let a : ℕ = slots_before shape (stage - 1) in
    let b : ℕ = slots_before shape (stage - 1 + 1) in
    let next : b ≡ a + senders_of shape k.vote = slots_next shape (stage - 1) k.vote follows.1 in
    record {
      view = found.2.0;
      each = λ member text least most at. (
          let number : slot_number shape (stage - 1) member ≡ a + (member - 1) =
          ap (λ (o : Option StageKind). a + place_in o member) follows.1 ∙ ap (λ (p : ℕ). a + p) (vote-place k.vote member k.votes) in
          let few : member - 1 < b - a = omega (arith, next, k.all_vote, least, most) in
          vote-at shape (contents_at shape past (stage - 1)) found.0 (member - 1) text found.1 found.2
          (slice_get-take (drop a past) (b - a) (member - 1) few ∙ get_drop past a (member - 1) ∙ sym (ap (slice_get past) number) ∙ at));
    }

-- ---- the own vote

vote-same : (a b : Vote) → (let told : Vote → Option Vote = λ z. Some z in told a ≡ told b) → a ≡ b
vote-same a b e = cc

-- all that a member saw before its vote on a shuffle is right, and its inner ciphertext stands in the last list
pub record IsGoYes (run : Run) (shuffle : ℕ) (view : List ℕ) (past : List Post) (stage : ℕ) : Type 0 where
  pub right : first_wrong (shape_in run.config) (contents_of past) stage ≡ None
  pub stands : stands_last (shape_in run.config) (own_submission run.config (own_descriptor run.config (contents_of past))
      (contents_of past) shuffle).inner_ciphertext
      (lists_before (shape_in run.config) (contents_of past) stage) ≡ true
  pub carries : view_of (shape_in run.config) (contents_of past) stage ≡ view

none-is : {A : Type 0} (o : Option A) → is_none o ≡ true → o ≡ None
none-is None e = refl
none-is (Some x) e = absurd cc

go-flags : (shape : Shape) (past : List (List ℕ)) (stage : ℕ) (inner view own_view : List ℕ) (vote : Vote)
    → body_vote own_view (go_row shape past stage inner) ≡ Some vote
    → vote.yes ≡ true → vote.view ≡ view
    → (first_wrong shape past stage ≡ None) × (stands_last shape inner (lists_before shape past stage) ≡ true) × (own_view ≡ view)
unfolding go_row
go-flags shape past stage inner view own_view vote e approves its_view =
    let flag : Bool = all_right shape past stage && stands_last shape inner (lists_before shape past stage) in
    let same : record { yes = all_right shape past stage && stands_last shape inner (lists_before shape past stage); view = own_view } ≡
    vote = vote-same _ vote e in
    let parts = and_parts (all_right shape past stage) (stands_last shape inner (lists_before shape past stage))
    (ap (λ (v : Vote). v.yes) same ∙ approves) in
    (none-is (first_wrong shape past stage) parts.0, parts.1, ap (λ (v : Vote). v.view) same ∙ its_view)

-- the vote that a row is
row-vote : (run : Run) (text : List ℕ) (row : IsOwnRow run text) (view : List ℕ) (body : Body)
    (yes_is : IsYes (shape_in run.config) view text) → row.read.body ≡ body
    → body_vote (view_of (shape_in run.config) (contents_of row.past) row.stage) body ≡ Some yes_is.vote
row-vote run text row view body yes_is body_is =
    sym (ap (body_vote (view_of (shape_in run.config) (contents_of row.past) row.stage)) body_is)
    ∙ sym (ap (λ (h : Header). body_vote h.view row.read.body) (row-header run text row))
    ∙ sym (ap vote_read (row-reads run text row)) ∙ yes_is.is

pub go-yes : (run : Run) (text : List ℕ) (row : IsOwnRow run text) (shuffle : ℕ) (view : List ℕ)
    → kind_of_stage (shape_in run.config) row.stage ≡ Some (AtGo shuffle)
    → IsYes (shape_in run.config) view text → IsGoYes run shuffle view row.past row.stage
go-yes run text row shuffle view kind yes_is =
    let c = run.config in
    let shape = shape_in c in
    let past : List (List ℕ) = contents_of row.past in
    let inner : List ℕ = (own_submission c (own_descriptor c past) past shuffle).inner_ciphertext in
    let due : body_due run text row ≡ go_row shape past row.stage inner = ap (own_body_if c (own_descriptor c past) row.past row.stage) kind
    in
    let body = ap (λ (x : Content). x.body) (row-is run text row
    (subst (IsBody shape row.stage) (sym due) (go-body shape past row.stage shuffle inner kind))) ∙ due in
    let flags = go-flags shape past row.stage inner view (view_of shape past row.stage) yes_is.vote
    (row-vote run text row view (go_row shape past row.stage inner) yes_is body) yes_is.approves yes_is.carries in
    record { right = flags.0; stands = flags.1; carries = flags.2 }

-- all that a member saw before its vote on what was seen is right
pub record IsCheckYes (run : Run) (view : List ℕ) (past : List Post) (stage : ℕ) : Type 0 where
  pub right : first_wrong (shape_in run.config) (contents_of past) stage ≡ None
  pub carries : view_of (shape_in run.config) (contents_of past) stage ≡ view

check-flags : (shape : Shape) (past : List (List ℕ)) (stage : ℕ) (view own_view : List ℕ) (vote : Vote)
    → body_vote own_view (check_row shape past stage) ≡ Some vote
    → vote.yes ≡ true → vote.view ≡ view → (first_wrong shape past stage ≡ None) × (own_view ≡ view)
unfolding check_row
check-flags shape past stage view own_view vote e approves its_view =
    let same : record { yes = all_right shape past stage; view = own_view } ≡ vote = vote-same _ vote e in
    (none-is (first_wrong shape past stage) (ap (λ (v : Vote). v.yes) same ∙ approves), ap (λ (v : Vote). v.view) same ∙ its_view)

pub check-yes : (run : Run) (text : List ℕ) (row : IsOwnRow run text) (view : List ℕ)
    → kind_of_stage (shape_in run.config) row.stage ≡ Some AtCheck
    → IsYes (shape_in run.config) view text → IsCheckYes run view row.past row.stage
check-yes run text row view kind yes_is =
    let c = run.config in
    let shape = shape_in c in
    let past : List (List ℕ) = contents_of row.past in
    let due : body_due run text row ≡ check_row shape past row.stage = ap (own_body_if c (own_descriptor c past) row.past row.stage) kind in
    let body = ap (λ (x : Content). x.body) (row-is run text row
    (subst (IsBody shape row.stage) (sym due) (check-body shape past row.stage kind))) ∙ due in
    let flags = check-flags shape past row.stage view (view_of shape past row.stage) yes_is.vote
    (row-vote run text row view (check_row shape past row.stage) yes_is body) yes_is.approves yes_is.carries in
    record { right = flags.0; carries = flags.1 }
