-- The votes that a log keeps of a stage of votes.
use Rattle.std.proofs.Common.{◌≡◌, ℕ, zero, suc, ◌+◌, ◌-◌, ◌<◌, true, false, List, [], ◌∷◌, ◌++◌, length, map, take, drop, Option, Some, None, refl, ap, sym, ◌∙◌, subst, arith, add-one}
use Rattle.std.specs.Prelude.{IsSome, is_some, option_and_then, ◌==◌}
use Rattle.std.specs.List.{list_all, slice_get}
use Rattle.std.specs.Option.{option_flatten, option_map}
use Rattle.std.proofs.lemmas.Bool.{cond-true, cond-false}
use Rattle.std.proofs.lemmas.List.{map-append, take-map}
use Rattle.std.proofs.lemmas.Option.{slice_get-map}
use Rattle.phase_message.specs.declared.content.Body.{Body}
use Rattle.phase_message.specs.declared.content.Body.TheVariants.{Keys, Submit, Shuffled, Abort, Go, Reveal, Dispute, Pads, Check, Confirm, Differ}
use Rattle.phase_message.specs.declared.content.Content.{Content}
use Rattle.phase_message.specs.declared.post.Post.{Post}
use Rattle.phase_message.specs.declared.stage.Slot.{Slot}
use Rattle.phase_message.specs.declared.stage.StageKind.{StageKind}
use Rattle.phase_message.specs.declared.stage.StageKind.TheVariants.{Keys as AtKeys, Submit as AtSubmit, Shuffle as AtShuffle, Go as AtGo, Final as AtFinal, Pad as AtPad, Check as AtCheck, Confirm as AtConfirm}
use Rattle.phase_message.specs.Body.{body_form, form_of}
use Rattle.phase_message.specs.Grammar.{IsBody}
use Rattle.phase_message.specs.Offence.{content_read}
use Rattle.phase_message.specs.Shape.{Shape}
use Rattle.phase_message.specs.Slots.{slot_number, slots_before}
use Rattle.phase_message.specs.Stages.{is_slot, kind_of_stage}
use Rattle.phase_message.proofs.Counts.{slots_next}
use Rattle.phase_message.proofs.SlotLists.{slot_at-is}
use Rattle.phase_message.proofs.Whole.{content-is_read}
use Rattle.stage_log.specs.Table.{Log, IsLog, is_complete, kept_in, posts_in}
use Rattle.stage_log.specs.Log.{all_some, content_in, contents_in, contents_of, sender_of}
use Rattle.stage_log.proofs.Pasts.{all_some-is, all_some-map, contents_in-map}
use Rattle.stage_log.proofs.SlotPlaces.{slot_at-sender}
use Rattle.stage_log.proofs.Views.{length-posts_in, slice_get-take}
use Rattle.go_nogo.specs.declared.votes.Vote.{Vote}
use Rattle.go_nogo.specs.Votes.{body_vote, vote_of, vote_read, votes_of}
use Rattle.go_nogo.specs.Stands.{StandAt, StandsIn, is_vote, kept_vote}

-- ---- what is said at a stage of votes is a vote

never : {A : Type 0} (o : Option A) (x : A) → o ≡ None → o ≡ Some x → ⊥
never None x none some = absurd cc
never (Some y) x none some = absurd cc

-- a stage of votes has no other kinds than 5 and 9
no_form : (shape : Shape) (before kind : ℕ) (o : Option StageKind) → is_vote o ≡ true → (kind == 5) ≡ false → (kind == 9) ≡ false
    → form_of shape before o kind ≡ None
no_form shape before kind None vote a b = absurd cc
no_form shape before kind (Some (AtGo shuffle)) vote a b = cond-false (kind == 5) _ None a
no_form shape before kind (Some AtCheck) vote a b = cond-false (kind == 9) _ None b
no_form shape before kind (Some AtKeys) vote a b = absurd cc
no_form shape before kind (Some (AtSubmit shuffle)) vote a b = absurd cc
no_form shape before kind (Some (AtShuffle shuffle k)) vote a b = absurd cc
no_form shape before kind (Some (AtFinal shuffle)) vote a b = absurd cc
no_form shape before kind (Some AtPad) vote a b = absurd cc
no_form shape before kind (Some AtConfirm) vote a b = absurd cc

body_is_vote : (shape : Shape) (stage : ℕ) (view : List ℕ) (body : Body) → is_vote (kind_of_stage shape stage) ≡ true
    → IsBody shape stage body → IsSome (body_vote view body)
unfolding body_form
body_is_vote shape stage view (Go flag) vote is = refl
body_is_vote shape stage view (Check flag) vote is = refl
body_is_vote shape stage view (Keys keys) vote is = absurd (never _ is.0
    (no_form shape (slots_before shape stage) 1 (kind_of_stage shape stage) vote refl refl) is.1)
body_is_vote shape stage view (Submit ciphertext) vote is = absurd
    (never _ is.0 (no_form shape (slots_before shape stage) 2 (kind_of_stage shape stage) vote refl refl) is.1)
body_is_vote shape stage view (Shuffled list) vote is = absurd (never _ is.0
    (no_form shape (slots_before shape stage) 3 (kind_of_stage shape stage) vote refl refl) is.1)
body_is_vote shape stage view Abort vote is = absurd (never _ is.0
    (no_form shape (slots_before shape stage) 4 (kind_of_stage shape stage) vote refl refl) is.1)
body_is_vote shape stage view (Reveal votes seed) vote is = absurd
    (never _ is.0 (no_form shape (slots_before shape stage) 6 (kind_of_stage shape stage) vote refl refl) is.1)
body_is_vote shape stage view (Dispute posts seed opening) vote is = absurd
    (never _ is.0 (no_form shape (slots_before shape stage) 7 (kind_of_stage shape stage) vote refl refl) is.1)
body_is_vote shape stage view (Pads pads) vote is = absurd (never _ is.0
    (no_form shape (slots_before shape stage) 8 (kind_of_stage shape stage) vote refl refl) is.1)
body_is_vote shape stage view (Confirm votes) vote is = absurd (never _ is.0
    (no_form shape (slots_before shape stage) 10 (kind_of_stage shape stage) vote refl refl) is.1)
body_is_vote shape stage view (Differ posts) vote is = absurd (never _ is.0
    (no_form shape (slots_before shape stage) 11 (kind_of_stage shape stage) vote refl refl) is.1)

-- a content of the grammar that stands in a slot of votes is a vote
stands_vote : (shape : Shape) (slot : Slot) (bytes : List ℕ) → is_vote (kind_of_stage shape slot.stage) ≡ true → StandsIn shape slot bytes
    → IsSome (vote_of shape bytes)
stands_vote shape slot bytes vote is =
    let said : Content = is.said in
    let read = ap (content_read shape) is.spelled ∙ content-is_read shape said is.grammar in
    let at : is_vote (kind_of_stage shape said.header.stage) ≡ true = subst (λ (t : ℕ). is_vote (kind_of_stage shape t) ≡ true)
    (sym is.stage_is) vote in
    subst (λ r. IsSome (vote_read r)) (sym read) (body_is_vote shape said.header.stage said.header.view said.body at is.grammar.1)

-- ---- lists

-- what stands at a place of a list, and the front with it
pick : {A : Type 0} (xs : List A) (k : ℕ) → k < length xs → (x : A) × (slice_get xs k ≡ Some x) × (take (suc k) xs ≡ take k xs ++ x ∷ [])
pick [] k lt = absurd (omega arith)
pick (x ∷ xs) zero lt = (x, refl, refl)
pick (x ∷ xs) (suc k) lt =
    let more = pick xs k (omega arith) in
    (more.0, more.1, ap (λ (t : List _). x ∷ t) more.2)

pub get_drop : {A : Type 0} (xs : List A) (a i : ℕ) → slice_get (drop a xs) i ≡ slice_get xs (a + i)
get_drop xs zero i = let e : i ≡ zero + i = omega arith in ap (slice_get xs) e
get_drop [] (suc a) i = refl
get_drop (x ∷ xs) (suc a) i = let e : suc (a + i) ≡ suc a + i = omega arith in get_drop xs a i ∙ ap (slice_get (x ∷ xs)) e

-- a list in which no value is missing
whole : {A : Type 0} (xs : List (Option A)) → list_all is_some xs ≡ true → (ys : List A) × (xs ≡ map (λ x. Some x) ys)
whole {A} [] e = ([], refl)
whole {A} (Some x ∷ xs) e = let more = whole xs e in (x ∷ more.0, ap (λ (t : List (Option A)). Some x ∷ t) more.1)
whole {A} (None ∷ xs) e = absurd cc

length-somes : {A : Type 0} (ys : List A) → length (map (λ x. Some x) ys) ≡ length ys
length-somes [] = refl
length-somes (y ∷ ys) = ap (λ (n : ℕ). suc n) (length-somes ys)

pub all_some-append : {A : Type 0} (xs zs : List (Option A)) (ys ws : List A) → all_some xs ≡ Some ys → all_some zs ≡ Some ws
    → all_some (xs ++ zs) ≡ Some (ys ++ ws)
all_some-append {A} xs zs ys ws e e' =
    ap all_some (ap (λ (t : List (Option A)). t ++ zs) (all_some-is xs ys e)
    ∙ ap (λ (t : List (Option A)). map (λ x. Some x) ys ++ t) (all_some-is zs ws e') ∙ sym (map-append (λ x. Some x) ys ws))
    ∙ all_some-map (ys ++ ws)

-- a vote more
pub votes-more : (shape : Shape) (contents : List (List ℕ)) (content : List ℕ) (votes : List Vote) (vote : Vote)
    → votes_of shape contents ≡ Some votes → vote_of shape content ≡ Some vote
    → votes_of shape (contents ++ content ∷ []) ≡ Some (votes ++ vote ∷ [])
votes-more shape contents content votes vote e e' =
    ap all_some (map-append (vote_of shape) contents (content ∷ []))
    ∙ all_some-append (map (vote_of shape) contents) (vote_of shape content ∷ []) votes (vote ∷ []) e
    (ap (λ (o : Option Vote). all_some (o ∷ [])) e')

-- ---- the slots of a stage of votes

vote_senders : (shape : Shape) (o : Option StageKind) (place : ℕ) → is_vote o ≡ true → sender_of o place ≡ place + 1
vote_senders shape None place vote = absurd cc
vote_senders shape (Some (AtGo shuffle)) place vote = refl
vote_senders shape (Some AtCheck) place vote = refl
vote_senders shape (Some AtKeys) place vote = absurd cc
vote_senders shape (Some (AtSubmit shuffle)) place vote = absurd cc
vote_senders shape (Some (AtShuffle shuffle k)) place vote = absurd cc
vote_senders shape (Some (AtFinal shuffle)) place vote = absurd cc
vote_senders shape (Some AtPad) place vote = absurd cc
vote_senders shape (Some AtConfirm) place vote = absurd cc

vote_count : (shape : Shape) (stage : ℕ) (o : Option StageKind) → kind_of_stage shape stage ≡ o → is_vote o ≡ true
    → slots_before shape (stage + 1) ≡ slots_before shape stage + shape.members
vote_count shape stage None e vote = absurd cc
vote_count shape stage (Some (AtGo shuffle)) e vote = slots_next shape stage (AtGo shuffle) e
vote_count shape stage (Some AtCheck) e vote = slots_next shape stage AtCheck e
vote_count shape stage (Some AtKeys) e vote = absurd cc
vote_count shape stage (Some (AtSubmit shuffle)) e vote = absurd cc
vote_count shape stage (Some (AtShuffle shuffle k)) e vote = absurd cc
vote_count shape stage (Some (AtFinal shuffle)) e vote = absurd cc
vote_count shape stage (Some AtPad) e vote = absurd cc
vote_count shape stage (Some AtConfirm) e vote = absurd cc

-- there is one for each member
pub vote_row : (log : Log) (stage : ℕ) → IsLog log → is_vote (kind_of_stage log.shape stage) ≡ true
    → length (posts_in log stage) ≡ log.shape.members
vote_row log stage is vote = omega (
  arith,
  length-posts_in log stage is,
  vote_count log.shape stage (kind_of_stage log.shape stage) refl
      vote,
)

-- what a log keeps of the member at a place
kept-place : (log : Log) (stage place : ℕ) → is_vote (kind_of_stage log.shape stage) ≡ true → place < log.shape.members
    → kept_in log (record { stage = stage; sender = place + 1 }) ≡ option_flatten (slice_get (posts_in log stage) place)
kept-place log stage place vote lt =
    let a : ℕ = slots_before log.shape stage in
    let b : ℕ = slots_before log.shape (stage + 1) in
    let count = vote_count log.shape stage (kind_of_stage log.shape stage) refl vote in
    let within : a + place < b = omega (arith, count) in
    let slot : Slot = record { stage = stage; sender = place + 1 } in
    let at = slot_at-sender log.shape stage place within
    ∙ ap (λ (s : ℕ). Some (record { stage = stage; sender = s })) (vote_senders log.shape (kind_of_stage log.shape stage) place vote) in
    let found = slot_at-is log.shape (a + place) slot at in
    let behind : place < b - a = omega (arith, count) in
    cond-true (is_slot log.shape stage (place + 1)) (option_flatten (slice_get log.posts (slot_number log.shape stage (place + 1)))) None
    found.0
    ∙ ap (λ (k : ℕ). option_flatten (slice_get log.posts k)) found.1
    ∙ ap option_flatten (sym (slice_get-take (drop a log.posts) (b - a) place behind ∙ get_drop log.posts a place))

-- the post of the member at a place, and the contents of the front with it
pub place-post : (log : Log) (stage place : ℕ) → IsLog log → is_vote (kind_of_stage log.shape stage) ≡ true → is_complete log stage ≡ true
    → place < log.shape.members
    → (post : Post) × (kept_in log (record { stage = stage; sender = place + 1 }) ≡ Some post)
    × (contents_in (take (place + 1) (posts_in log stage)) ≡ contents_in (take place (posts_in log stage)) ++ post.content ∷ [])
place-post log stage place is vote full lt =
    let row : List (Option Post) = posts_in log stage in
    let posts = whole row full in
    let within : place < length posts.0 = omega (
      arith,
      vote_row log stage is vote,
      ap (λ (t : List (Option Post)). length t) posts.1,
      length-somes posts.0,
    ) in
    let found = pick posts.0 place within in (
      found.0,
      kept-place log stage place vote lt
          ∙ ap (λ (t : List (Option Post)). option_flatten (slice_get t place)) posts.1
          ∙ ap option_flatten (slice_get-map (λ x. Some x) posts.0 place)
          ∙ ap (λ (o : Option Post). option_flatten (option_map (λ x. Some x) o)) found.1,
      front posts.0 (place + 1) posts.1
          ∙ ap (λ (k : ℕ). contents_of (take k posts.0)) (add-one place)
          ∙ ap contents_of found.2
          ∙ map-append (λ post. post.content) (take place posts.0) (found.0 ∷ [])
          ∙ ap (λ (t : List (List ℕ)). t ++ found.0.content ∷ []) (sym (front posts.0 place posts.1)),
    )
  where
    front : (posts : List Post) (k : ℕ) → posts_in log stage ≡ map (λ x. Some x) posts
        → contents_in (take k (posts_in log stage)) ≡ contents_of (take k posts)
    front posts k e =
        ap (λ (t : List (Option Post)). contents_in (take k t)) e
        ∙ ap contents_in (take-map (λ x. Some x) k posts)
        ∙ contents_in-map (take k posts)

-- its vote is there
pub place-vote : (log : Log) (stage place : ℕ) → IsLog log → is_vote (kind_of_stage log.shape stage) ≡ true → is_complete log stage ≡ true
    → StandAt log stage → place < log.shape.members
    → IsSome (kept_vote log (record { stage = stage; sender = place + 1 }))
place-vote log stage place is vote full stand lt =
    let found = place-post log stage place is vote full lt in
    subst (λ (o : Option Post). IsSome (option_and_then (vote_of log.shape) (content_in o))) (sym found.1)
    (stands_vote log.shape (record { stage = stage; sender = place + 1 }) found.0.content vote (stand (place + 1) found.0 found.1))

-- and follows those before
pub votes-next : (log : Log) (stage place : ℕ) (votes : List Vote) (vote : Vote) → IsLog log
    → is_vote (kind_of_stage log.shape stage) ≡ true → is_complete log stage ≡ true → place < log.shape.members
    → votes_of log.shape (contents_in (take place (posts_in log stage))) ≡ Some votes
    → kept_vote log (record { stage = stage; sender = place + 1 }) ≡ Some vote
    → votes_of log.shape (contents_in (take (place + 1) (posts_in log stage))) ≡ Some (votes ++ vote ∷ [])
votes-next log stage place votes vote is kind full lt e e' =
    let found = place-post log stage place is kind full lt in
    ap (votes_of log.shape) found.2
    ∙ votes-more log.shape (contents_in (take place (posts_in log stage))) found.0.content votes vote e
    (sym (ap (λ (o : Option Post). option_and_then (vote_of log.shape) (content_in o)) found.1) ∙ e')
