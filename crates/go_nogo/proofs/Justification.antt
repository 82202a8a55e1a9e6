-- When a closing content is justified.
use Rattle.std.proofs.Common.{◌≡◌, ℕ, ◌-◌, ◌<◌, ◌≤◌, Bool, true, false, List, take, Option, Some, None, refl, ap, sym, ◌∙◌, subst, arith}
use Rattle.std.specs.Prelude.{IsSome, ◌&&◌, not, bytes_eq, option_and_then}
use Rattle.std.specs.Option.{option_map}
use Rattle.std.proofs.lemmas.Bool.{cond-true, cond-false}
use Rattle.phase_message.specs.declared.content.Content.{Content}
use Rattle.phase_message.specs.declared.post.Post.{Post}
use Rattle.phase_message.specs.declared.stage.StageKind.{StageKind}
use Rattle.phase_message.specs.declared.stage.StageKind.TheVariants.{Keys, Submit, Shuffle, Go, Final, Pad, Check, Confirm}
use Rattle.phase_message.specs.Shape.{Shape}
use Rattle.phase_message.specs.Slots.{slots_before}
use Rattle.phase_message.specs.Stages.{kind_of_stage, vote_of}
use Rattle.phase_message.proofs.Closings.{closing-follows}
use Rattle.stage_log.specs.Table.{Log, is_complete, posts_in}
use Rattle.stage_log.specs.Log.{before, contents_in, contents_of, log_view, view_of}
use Rattle.stage_log.proofs.Pasts.{all_some-is, contents_in-map, contents_in-past, some_of}
use Rattle.stage_log.proofs.Fronts.{before-complete, complete-before, some_is}
use Rattle.go_nogo.specs.declared.votes.Vote.{Vote}
use Rattle.go_nogo.specs.Closing.{HoldsEmbedded, HoldsFor, IsClosing, embedded_of, is_assent, is_justified}
use Rattle.go_nogo.specs.Stands.{is_vote, log_votes}
use Rattle.go_nogo.specs.Votes.{are_unanimous, has_unanimous, is_unanimous, votes_agree}

-- ---- the votes before a closing stage

closes : (o vote : Option StageKind) (kind : StageKind) → o ≡ Some kind → IsSome (option_and_then vote_of o) → (k : StageKind)
    × (vote_of kind ≡ Some k) × (is_vote (Some k) ≡ true)
closes o vote (Final shuffle) e is = (Go shuffle, refl, refl)
closes o vote Confirm e is = (Check, refl, refl)
closes o vote Keys e is = absurd (let none = ap (option_and_then vote_of) e in cc)
closes o vote (Submit shuffle) e is = absurd (let none = ap (option_and_then vote_of) e in cc)
closes o vote (Shuffle shuffle k) e is = absurd (let none = ap (option_and_then vote_of) e in cc)
closes o vote (Go shuffle) e is = absurd (let none = ap (option_and_then vote_of) e in cc)
closes o vote Pad e is = absurd (let none = ap (option_and_then vote_of) e in cc)
closes o vote Check e is = absurd (let none = ap (option_and_then vote_of) e in cc)

pub votes-before : (shape : Shape) (content : Content) → IsClosing shape content → (1 ≤ content.header.stage)
    × (is_vote (kind_of_stage shape (content.header.stage - 1)) ≡ true)
votes-before shape content is = by_kind (kind_of_stage shape content.header.stage) refl
  where
    by_kind : (o : Option StageKind) → kind_of_stage shape content.header.stage ≡ o → (1 ≤ content.header.stage)
        × (is_vote (kind_of_stage shape (content.header.stage - 1)) ≡ true)
    by_kind None e = absurd (let none = ap (option_and_then vote_of) e in cc)
    by_kind (Some kind) e =
        let vote = closes (kind_of_stage shape content.header.stage) None kind e is in
        let follows = closing-follows shape content.header.stage kind vote.0 e vote.1 in
        (follows.0, ap is_vote follows.1 ∙ vote.2)

pub votes-complete : (content : Content) (log : Log) → 1 ≤ content.header.stage → HoldsEmbedded content log
    → is_complete log (content.header.stage - 1) ≡ true
votes-complete content log least holds = by_assent (is_assent content.body) refl
  where
    by_assent : (b : Bool) → is_assent content.body ≡ b → is_complete log (content.header.stage - 1) ≡ true
    by_assent true e = subst (λ (b : Bool). HoldsFor b content.header.stage log) e holds
    by_assent false e = complete-before log content.header.stage (content.header.stage - 1)
        (subst (λ (b : Bool). HoldsFor b content.header.stage log) e holds) (omega arith)

-- a log of which all stages before are complete holds what a closing content embeds
pub holds-whole : (content : Content) (log : Log) → IsClosing log.shape content
    → ((earlier : ℕ) → earlier < content.header.stage → is_complete log earlier ≡ true) → HoldsEmbedded content log
holds-whole content log closing all = by_assent (is_assent content.body)
  where
    by_assent : (b : Bool) → HoldsFor b content.header.stage log
    by_assent true = let votes = votes-before log.shape content closing in all (content.header.stage - 1) (omega (arith, votes.0))
    by_assent false = let past = before-complete log content.header.stage all in some_is (before log content.header.stage) past.0 past.1

-- ---- the answer

-- of one that assents
pub assent-justified : (log : Log) (content : Content) (votes : List Vote) (agree : Bool) → is_assent content.body ≡ true
    → log_votes log (content.header.stage - 1) ≡ Some votes → agree ≡ is_unanimous votes
    → agree ≡ is_justified log.shape content (contents_in (embedded_of log.shape content log.posts))
unfolding is_justified are_unanimous
assent-justified log content votes agree assents e is =
    let embedded : List (List ℕ) = contents_in (embedded_of log.shape content log.posts) in
    let own : embedded ≡ contents_in (posts_in log (content.header.stage - 1)) = ap contents_in
    (cond-true (is_assent content.body) _ _ assents) in
    is ∙ sym (cond-true (is_assent content.body) (are_unanimous log.shape embedded) _ assents ∙ ap (are_unanimous log.shape) own
    ∙ ap has_unanimous e)

-- the contents that one embeds that doesn't assent
past_embedded : (log : Log) (content : Content) (posts : List Post) → is_assent content.body ≡ false
    → before log content.header.stage ≡ Some posts
    → contents_in (embedded_of log.shape content log.posts) ≡ contents_of posts
past_embedded log content posts objects e =
    ap contents_in (cond-false (is_assent content.body) _ _ objects
    ∙ all_some-is (take (slots_before log.shape content.header.stage) log.posts) posts e)
    ∙ contents_in-map posts

-- and its votes
past_votes : (log : Log) (content : Content) (posts : List Post) (votes : List Vote) → 1 ≤ content.header.stage
    → before log content.header.stage ≡ Some posts
    → log_votes log (content.header.stage - 1) ≡ Some votes → votes_agree log.shape (contents_of posts) content.header.stage ≡ is_unanimous
    votes
unfolding are_unanimous
past_votes log content posts votes least e votes_are =
    ap (are_unanimous log.shape) (sym (contents_in-past log (content.header.stage - 1) content.header.stage posts (omega arith) e))
    ∙ ap has_unanimous votes_are

-- of one that doesn't
pub objection-justified : (log : Log) (content : Content) (votes : List Vote) (agree r : Bool) (view : List ℕ)
    → is_assent content.body ≡ false → 1 ≤ content.header.stage
    → HoldsEmbedded content log → log_votes log (content.header.stage - 1) ≡ Some votes → agree ≡ is_unanimous votes
    → log_view log content.header.stage ≡ Some view
    → r ≡ (not agree && bytes_eq content.header.view view)
    → r ≡ is_justified log.shape content (contents_in (embedded_of log.shape content log.posts))
unfolding is_justified
objection-justified log content votes agree r view objects least holds votes_are agree_is view_is is =
    let there : IsSome (before log content.header.stage) = subst (λ (b : Bool). HoldsFor b content.header.stage log) objects holds in
    let past = some_of (before log content.header.stage) there in
    let embedded : List (List ℕ) = contents_in (embedded_of log.shape content log.posts) in
    let own = past_embedded log content past.0 objects past.1 in
    let agreed : agree ≡ votes_agree log.shape (contents_of past.0) content.header.stage = agree_is
    ∙ sym (past_votes log content past.0 votes least past.1 votes_are) in
    let seen : view ≡ view_of log.shape (contents_of past.0) content.header.stage = sym
    (view_same (before log content.header.stage) past.0 past.1 view_is) in
    is
    ∙ ap (λ (b : Bool). not b && bytes_eq content.header.view view) agreed
    ∙ ap (λ (v : List ℕ). not (votes_agree log.shape (contents_of past.0) content.header.stage) && bytes_eq content.header.view v) seen
    ∙ ap (λ (p : List (List ℕ)). not (votes_agree log.shape p content.header.stage) && bytes_eq content.header.view
    (view_of log.shape p content.header.stage)) (sym own)
    ∙ sym (cond-false (is_assent content.body) (are_unanimous log.shape embedded)
    (not (votes_agree log.shape embedded content.header.stage) && bytes_eq content.header.view
    (view_of log.shape embedded content.header.stage)) objects)
  where
    view_same : (o : Option (List Post)) (posts : List Post) → o ≡ Some posts
        → option_map (λ posts. view_of log.shape (contents_of posts) content.header.stage) o ≡ Some view
        → view_of log.shape (contents_of posts) content.header.stage ≡ view
    view_same o posts e v =
        let both : Some (view_of log.shape (contents_of posts) content.header.stage) ≡ Some view = sym
        (ap (option_map (λ posts. view_of log.shape (contents_of posts) content.header.stage)) e) ∙ v in
        cc
