-- Closing rows by what they embed.
use Rattle.std.proofs.Common.{◌≡◌, ℕ, ◌-◌, List, Bool, true, false, ap, sym, ◌∙◌}
use Rattle.std.specs.Prelude.{if◌then◌else◌}
use Rattle.phase_message.specs.declared.content.Body.TheVariants.{Reveal, Dispute, Confirm, Differ}
use Rattle.phase_message.specs.declared.post.Post.{Post}
use Rattle.phase_message.specs.Shape.{Shape}
use Rattle.stage_log.specs.Log.{contents_of}
use Rattle.go_nogo.specs.Rows.{confirm_row, final_row, posts_at, written}
use Rattle.go_nogo.specs.Votes.{votes_agree}
use Rattle.honest_say.specs.declared.closing.Embedded.TheVariants.{Votes, All}
use Rattle.honest_say.specs.Closings.{embedded_in}

revealed : (b : Bool) (votes w all : List (List ℕ)) (inner outer opening : List ℕ) → Votes votes ≡ (if b then Votes w else All all)
    → Reveal votes inner ≡ (if b then Reveal w inner else Dispute all outer opening)
revealed true votes w all inner outer opening e = cc
revealed false votes w all inner outer opening e = absurd cc

pub final-votes : (shape : Shape) (posts : List Post) (stage : ℕ) (votes : List (List ℕ)) (inner outer opening : List ℕ)
    → Votes votes ≡ embedded_in shape posts stage
    → Reveal votes inner ≡ final_row shape posts stage inner outer opening
unfolding final_row
final-votes shape posts stage votes inner outer opening e =
    revealed (votes_agree shape (contents_of posts) stage) votes (written (posts_at shape posts (stage - 1))) (written posts) inner outer
    opening e

disputed : (b : Bool) (posts w all : List (List ℕ)) (inner outer opening : List ℕ) → All posts ≡ (if b then Votes w else All all)
    → Dispute posts outer opening ≡ (if b then Reveal w inner else Dispute all outer opening)
disputed true posts w all inner outer opening e = absurd cc
disputed false posts w all inner outer opening e = cc

pub final-all : (shape : Shape) (posts : List Post) (stage : ℕ) (all : List (List ℕ)) (inner outer opening : List ℕ)
    → All all ≡ embedded_in shape posts stage
    → Dispute all outer opening ≡ final_row shape posts stage inner outer opening
unfolding final_row
final-all shape posts stage all inner outer opening e =
    disputed (votes_agree shape (contents_of posts) stage) all (written (posts_at shape posts (stage - 1))) (written posts) inner outer
    opening e

confirmed : (b : Bool) (votes w all : List (List ℕ)) → Votes votes ≡ (if b then Votes w else All all)
    → Confirm votes ≡ (if b then Confirm w else Differ all)
confirmed true votes w all e = cc
confirmed false votes w all e = absurd cc

pub confirm-votes : (shape : Shape) (posts : List Post) (stage : ℕ) (votes : List (List ℕ)) → Votes votes ≡ embedded_in shape posts stage
    → Confirm votes ≡ confirm_row shape posts stage
unfolding confirm_row
confirm-votes shape posts stage votes e = confirmed (votes_agree shape (contents_of posts) stage) votes
    (written (posts_at shape posts (stage - 1))) (written posts) e

differing : (b : Bool) (posts w all : List (List ℕ)) → All posts ≡ (if b then Votes w else All all)
    → Differ posts ≡ (if b then Confirm w else Differ all)
differing true posts w all e = absurd cc
differing false posts w all e = cc

pub confirm-all : (shape : Shape) (posts : List Post) (stage : ℕ) (all : List (List ℕ)) → All all ≡ embedded_in shape posts stage
    → Differ all ≡ confirm_row shape posts stage
unfolding confirm_row
confirm-all shape posts stage all e = differing (votes_agree shape (contents_of posts) stage) all
    (written (posts_at shape posts (stage - 1))) (written posts) e

-- what is embedded, by whether the votes are unanimous
pub embeds-votes : (shape : Shape) (posts : List Post) (stage : ℕ) (votes : List (List ℕ))
    → votes_agree shape (contents_of posts) stage ≡ true
    → votes ≡ written (posts_at shape posts (stage - 1)) → Votes votes ≡ embedded_in shape posts stage
embeds-votes shape posts stage votes agree e =
    ap (λ (v : List (List ℕ)). Votes v) e ∙ ap (λ (b : Bool). if b then Votes (written (posts_at shape posts (stage - 1))) else All
    (written posts)) (sym agree)

pub embeds-all : (shape : Shape) (posts : List Post) (stage : ℕ) (all : List (List ℕ)) → votes_agree shape (contents_of posts) stage ≡ false
    → all ≡ written posts → All all ≡ embedded_in shape posts stage
embeds-all shape posts stage all agree e =
    ap (λ (v : List (List ℕ)). All v) e ∙ ap (λ (b : Bool). if b then Votes (written (posts_at shape posts (stage - 1))) else All
    (written posts)) (sym agree)
