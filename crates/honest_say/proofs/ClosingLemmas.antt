-- Votes in a log, and what a closing row embeds of them.
use Rattle.std.proofs.Common.{◌≡◌, ℕ, zero, suc, ◌+◌, ◌-◌, ◌<◌, ◌≤◌, List, [], ◌∷◌, ◌++◌, length, take, drop, true, Option, Some, None, refl, ap, sym, ◌∙◌, arith, add-one}
use Rattle.std.specs.Prelude.{IsSome, option_and_then}
use Rattle.std.specs.List.{slice_get}
use Rattle.std.proofs.lemmas.List.{length-drop, length-take, map-append}
use Rattle.phase_message.specs.declared.post.Post.{Post}
use Rattle.phase_message.specs.declared.stage.StageKind.{StageKind}
use Rattle.phase_message.specs.declared.stage.StageKind.TheVariants.{Keys, Submit, Shuffle, Go, Final, Pad, Check, Confirm}
use Rattle.phase_message.specs.Post.{post_spelling}
use Rattle.phase_message.specs.Shape.{Shape}
use Rattle.phase_message.specs.Slots.{place_in, senders_of, slot_number, slots_before}
use Rattle.phase_message.specs.Stages.{is_member, is_sender, is_slot, kind_of_stage, speaks, vote_of}
use Rattle.phase_message.proofs.Closings.{closing-follows}
use Rattle.phase_message.proofs.Counts.{slots_next}
use Rattle.stage_log.specs.Log.{before, contents_of}
use Rattle.stage_log.specs.Table.{Log, kept_in}
use Rattle.stage_log.proofs.Pasts.{contents_in-past}
use Rattle.stage_log.proofs.Views.{slice_get-take}
use Rattle.go_nogo.specs.declared.votes.Vote.{Vote}
use Rattle.go_nogo.specs.Rows.{posts_at, written}
use Rattle.go_nogo.specs.Stands.{is_vote, log_votes}
use Rattle.go_nogo.specs.Votes.{are_unanimous, has_unanimous, is_unanimous, votes_agree, votes_of}
use Rattle.go_nogo.proofs.VoteSlots.{get_drop}
use Rattle.honest_say.specs.Pasts.{posts_before}
use Rattle.honest_say.proofs.PastLemmas.{complete-posts, kept-at}
use Rattle.honest_say.proofs.StageLemmas.{member-there}

-- a stage in which all members vote
pub record IsVoteRow (shape : Shape) (stage : ℕ) : Type 0 where
  pub kind : StageKind
  pub at : kind_of_stage shape stage ≡ Some kind
  pub votes : is_vote (Some kind) ≡ true
  pub place : (member : ℕ) → place_in (Some kind) member ≡ member - 1
  pub all_speak : (member : ℕ) → is_member shape.members member ≡ true → is_sender shape kind member ≡ true
  pub count : senders_of shape kind ≡ shape.members

-- such a stage stands before a closing one
pub vote-row : (shape : Shape) (stage : ℕ) → IsSome (option_and_then vote_of (kind_of_stage shape stage)) → (1 ≤ stage)
    × IsVoteRow shape (stage - 1)
vote-row shape stage closing = by_kind (kind_of_stage shape stage) refl closing
  where
    by_kind : (o : Option StageKind) → kind_of_stage shape stage ≡ o → IsSome (option_and_then vote_of o) → (1 ≤ stage)
        × IsVoteRow shape (stage - 1)
    by_kind None e is = absurd cc
    by_kind (Some (Final shuffle)) e is =
        let follows = closing-follows shape stage (Final shuffle) (Go shuffle) e refl in (
          follows.0,
          record {
            kind = Go shuffle;
            at = follows.1;
            votes = refl;
            place = λ member. refl;
            all_speak = λ member there. there;
            count = refl;
          },
        )
    by_kind (Some Confirm) e is =
        let follows = closing-follows shape stage Confirm Check e refl in (
          follows.0,
          record {
            kind = Check;
            at = follows.1;
            votes = refl;
            place = λ member. refl;
            all_speak = λ member there. there;
            count =
                refl;
          },
        )
    by_kind (Some Keys) e is = absurd cc
    by_kind (Some (Submit shuffle)) e is = absurd cc
    by_kind (Some (Shuffle shuffle k)) e is = absurd cc
    by_kind (Some (Go shuffle)) e is = absurd cc
    by_kind (Some Pad) e is = absurd cc
    by_kind (Some Check) e is = absurd cc

pub vote-stage : (shape : Shape) (stage : ℕ) → IsVoteRow shape stage → is_vote (kind_of_stage shape stage) ≡ true
vote-stage shape stage row = ap is_vote row.at ∙ row.votes

pub row-slot : (shape : Shape) (stage member : ℕ) → IsVoteRow shape stage → 1 ≤ member → member ≤ shape.members
    → is_slot shape stage member ≡ true
row-slot shape stage member row least most =
    ap (λ (o : Option StageKind). speaks shape o member) row.at ∙ row.all_speak member (member-there shape.members member least most)

-- whether the votes of a log are unanimous is what the past says
pub agree-log : (log : Log) (stage : ℕ) (posts : List Post) (votes : List Vote) → 1 ≤ stage → before log stage ≡ Some posts
    → log_votes log (stage - 1) ≡ Some votes
    → votes_agree log.shape (contents_of posts) stage ≡ is_unanimous votes
unfolding are_unanimous
agree-log log stage posts votes least e e' =
    ap (λ (contents : List (List ℕ)). has_unanimous (votes_of log.shape contents))
    (sym (contents_in-past log (stage - 1) stage posts (omega arith) e))
    ∙ ap has_unanimous e'

-- the post of the member at a place is that of the past
pub vote-kept : (log : Log) (stage place : ℕ) (posts : List Post) → 1 ≤ stage → before log stage ≡ Some posts
    → IsVoteRow log.shape (stage - 1) → place < log.shape.members
    → kept_in log (record { stage = stage - 1; sender = place + 1 }) ≡ slice_get (posts_at log.shape posts (stage - 1)) place
vote-kept log stage place posts least e row lt =
    let a : ℕ = slots_before log.shape (stage - 1) in
    let b : ℕ = slots_before log.shape (stage - 1 + 1) in
    let count = slots_next log.shape (stage - 1) row.kind row.at in
    let behind : place < b - a = omega (arith, count, row.count) in
    let at : slot_number log.shape (stage - 1) (place + 1) ≡ a + place
    = ap (λ (o : Option StageKind). a + place_in o (place + 1)) row.at ∙ ap (λ (k : ℕ). a + k) (row.place (place + 1))
    ∙ ap (λ (k : ℕ). a + k) (let same : place + 1 - 1 ≡ place = omega arith in same) in
    kept-at log stage (record { stage = stage - 1; sender = place + 1 }) posts e
    (row-slot log.shape (stage - 1) (place + 1) row (omega arith) (omega arith)) (omega arith)
    ∙ ap (slice_get posts) at
    ∙ sym (slice_get-take (drop a posts) (b - a) place behind ∙ get_drop posts a place)

-- a post more is written
pub written-next : (posts : List Post) (place : ℕ) (post : Post) → slice_get posts place ≡ Some post
    → written (take (place + 1) posts) ≡ written (take place posts) ++ post_spelling post ∷ []
written-next posts place post e = ap (λ (k : ℕ). written (take k posts)) (add-one place) ∙ ap written (front posts place post e)
    ∙ map-append post_spelling (take place posts) (post ∷ [])
  where
    front : (posts : List Post) (place : ℕ) (post : Post) → slice_get posts place ≡ Some post → take (suc place) posts ≡ take place posts
        ++ post ∷ []
    front [] place post e = absurd cc
    front (p ∷ posts) zero post e = let same : p ≡ post = cc in ap (λ (x : Post). x ∷ []) same
    front (p ∷ posts) (suc place) post e = ap (λ (t : List Post). p ∷ t) (front posts place post e)

-- there is one for each member
pub row-length : (log : Log) (stage : ℕ) (posts : List Post) → length posts ≡ slots_before log.shape stage → 1 ≤ stage
    → IsVoteRow log.shape (stage - 1)
    → length (posts_at log.shape posts (stage - 1)) ≡ log.shape.members
row-length log stage posts long least row =
    let a : ℕ = slots_before log.shape (stage - 1) in
    let b : ℕ = slots_before log.shape (stage - 1 + 1) in
    let count = slots_next log.shape (stage - 1) row.kind row.at in
    let same : b ≡ slots_before log.shape stage = ap (slots_before log.shape) (let back : stage - 1 + 1 ≡ stage = omega arith in back) in
    let dropped = length-drop a posts in
    let taken = length-take (b - a) (drop a posts) in
    omega (arith, count, row.count, same, dropped, taken, long)

-- what a log of votes agrees on
pub agree-before : (log : Log) (stage : ℕ) (votes : List Vote) → 1 ≤ stage → IsSome (before log stage)
    → log_votes log (stage - 1) ≡ Some votes
    → votes_agree log.shape (contents_of (posts_before log stage)) stage ≡ is_unanimous votes
agree-before log stage votes least complete e = agree-log log stage (posts_before log stage) votes least (complete-posts log stage complete)
    e
