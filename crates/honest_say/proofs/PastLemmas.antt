-- What a log keeps is what was said in the past.
use Rattle.std.proofs.Common.{◌≡◌, ℕ, zero, suc, ◌+◌, ◌<◌, List, [], ◌∷◌, All, length, get_or, take, true, Option, Some, None, refl, ap, sym, ◌∙◌, subst, arith}
use Rattle.std.specs.Prelude.{IfSome, IsSome, unwrap_or}
use Rattle.std.specs.List.{slice_get}
use Rattle.std.specs.Option.{option_flatten, option_map}
use Rattle.std.proofs.lemmas.Bool.{cond-true}
use Rattle.std.proofs.lemmas.List.{get_or-map, get_or-take, length-map, length-take}
use Rattle.std.proofs.lemmas.Option.{slice_get-map}
use Rattle.phase_message.specs.declared.content.Content.{Content}
use Rattle.phase_message.specs.declared.post.Post.{Post}
use Rattle.phase_message.specs.declared.stage.Slot.{Slot}
use Rattle.phase_message.specs.Grammar.{IsBody}
use Rattle.phase_message.specs.Offence.{content_read}
use Rattle.phase_message.specs.Shape.{Shape}
use Rattle.phase_message.specs.Slots.{slot_number, slots_before}
use Rattle.phase_message.specs.Stages.{is_slot}
use Rattle.phase_message.proofs.SlotLists.{slot_number-within, slots_before-rises}
use Rattle.phase_message.proofs.Whole.{content-is_read}
use Rattle.stage_log.specs.Log.{before}
use Rattle.stage_log.specs.Table.{IsKept, IsLog, Log, kept_in}
use Rattle.stage_log.proofs.Entries.{before-within}
use Rattle.stage_log.proofs.Pasts.{all_some-is, some_of}
use Rattle.stage_log.proofs.Views.{slice_get-take}
use Rattle.go_nogo.specs.Stands.{StandAt, StandsIn}
use Rattle.shuffle_blame.specs.Asked.{past_of}
use Rattle.shuffle_blame.specs.Replay.{body_of}
use Rattle.shuffle_blame.specs.Rules.{body_kept, body_of_post}
use Rattle.shuffle_blame.proofs.Kept.{body_kept-past}
use Rattle.round_spec.specs.Slots.{said_in}
use Rattle.honest_say.specs.Pasts.{posts_before}

pub kept-said : (log : Log) (stage : ℕ) (slot : Slot) → IsSome (before log stage) → is_slot log.shape slot.stage slot.sender ≡ true
    → slot.stage < stage
    → body_kept log slot ≡ said_in log.shape (past_of log stage) slot.stage slot.sender
unfolding said_in
kept-said log stage slot complete speaks lt =
    let posts = some_of (before log stage) complete in
    body_kept-past log stage 0 [] posts.0 slot posts.1 speaks lt

pub posts-are : (log : Log) (stage : ℕ) (posts : List Post) → before log stage ≡ Some posts → posts_before log stage ≡ posts
posts-are log stage posts e = ap (λ (o : Option (List Post)). unwrap_or o []) e

-- there is one for each slot
pub past-length : (log : Log) (stage : ℕ) (posts : List Post) → IsLog log → before log stage ≡ Some posts
    → length posts ≡ slots_before log.shape stage
past-length log stage posts is e =
    let n : ℕ = slots_before log.shape stage in
    let within = before-within log stage is in
    let row = ap (λ (t : List (Option Post)). length t) (all_some-is (take n log.posts) posts e) in
    let mapped = length-map posts (λ (post : Post). Some post) in
    let taken = length-take n log.posts in
    omega (arith, row, mapped, taken, within)

-- each of them can be kept
pub past-kept : (log : Log) (stage : ℕ) (posts : List Post) → IsLog log → before log stage ≡ Some posts
    → All (λ post. IsKept post.content) posts
past-kept log stage posts is e = λ k d lt.
    let n : ℕ = slots_before log.shape stage in
    let within = before-within log stage is in
    let long = past-length log stage posts is e in
    let there : get_or log.posts k (Some d) ≡ Some (get_or posts k d)
    = sym (get_or-take n log.posts k (Some d) (omega (arith, long, lt)))
    ∙ ap (λ (t : List (Option Post)). get_or t k (Some d)) (all_some-is (take n log.posts) posts e)
    ∙ get_or-map Some posts k d (Some d) lt in
    subst (λ (o : Option Post). IfSome o (λ (post : Post). IsKept post.content)) there
    (is.contents k (Some d) (omega (arith, within, long, lt)))

flattened : {A : Type 0} (o : Option A) → option_flatten (option_map Some o) ≡ o
flattened {A} None = refl
flattened {A} (Some x) = refl

-- what is kept in a slot of an earlier stage
pub kept-at : (log : Log) (stage : ℕ) (slot : Slot) (posts : List Post) → before log stage ≡ Some posts
    → is_slot log.shape slot.stage slot.sender ≡ true → slot.stage < stage
    → kept_in log slot ≡ slice_get posts (slot_number log.shape slot.stage slot.sender)
kept-at log stage slot posts e speaks lt =
    let number : ℕ = slot_number log.shape slot.stage slot.sender in
    let n : ℕ = slots_before log.shape stage in
    let within = slot_number-within log.shape slot.stage slot.sender speaks in
    let rises = slots_before-rises log.shape (slot.stage + 1) stage (omega arith) in
    cond-true (is_slot log.shape slot.stage slot.sender) (option_flatten (slice_get log.posts number)) None speaks
    ∙ ap (λ (o : Option (Option Post)). option_flatten o)
    (sym (slice_get-take log.posts n number (omega (arith, within.1)))
    ∙ ap (λ (t : List (Option Post)). slice_get t number) (all_some-is (take n log.posts) posts e) ∙ slice_get-map Some posts number)
    ∙ flattened (slice_get posts number)

get-there : {A : Type 0} (xs : List A) (k : ℕ) → k < length xs → (x : A) × (slice_get xs k ≡ Some x)
get-there [] k lt = absurd (omega arith)
get-there (x ∷ xs) zero lt = (x, refl)
get-there (x ∷ xs) (suc k) lt = get-there xs k (omega arith)

pub kept-post : (log : Log) (stage : ℕ) (slot : Slot) → IsLog log → IsSome (before log stage)
    → is_slot log.shape slot.stage slot.sender ≡ true → slot.stage < stage
    → (post : Post) × (kept_in log slot ≡ Some post)
kept-post log stage slot is complete speaks lt =
    let posts = some_of (before log stage) complete in
    let within = slot_number-within log.shape slot.stage slot.sender speaks in
    let rises = slots_before-rises log.shape (slot.stage + 1) stage (omega arith) in
    let long = past-length log stage posts.0 is posts.1 in
    let found = get-there posts.0 (slot_number log.shape slot.stage slot.sender) (omega (arith, within.1, rises, long)) in
    (found.0, kept-at log stage slot posts.0 posts.1 speaks lt ∙ found.1)

-- what was said in a slot, of the grammar
pub record IsSaid (shape : Shape) (past : List (List ℕ)) (stage sender : ℕ) : Type 0 where
  pub content : Content
  pub said : said_in shape past stage sender ≡ content.body
  pub body : IsBody shape stage content.body

pub said-stands : (log : Log) (stage : ℕ) (slot : Slot) → IsLog log → IsSome (before log stage)
    → is_slot log.shape slot.stage slot.sender ≡ true → slot.stage < stage
    → StandAt log slot.stage → IsSaid log.shape (past_of log stage) slot.stage slot.sender
said-stands log stage slot is complete speaks lt stand =
    let post = kept-post log stage slot is complete speaks lt in
    let stands : StandsIn log.shape slot post.0.content = stand slot.sender post.0 post.1 in
    let read = ap (content_read log.shape) stands.spelled ∙ content-is_read log.shape stands.said stands.grammar in
    record {
      content = stands.said;
      said = sym (kept-said log stage slot complete speaks lt) ∙ ap (body_of_post log.shape) post.1 ∙ ap body_of read;
      body = subst (λ (t : ℕ). IsBody log.shape t stands.said.body) stands.stage_is stands.grammar.1;
    }

with_all : (o : Option (List Post)) → IsSome o → o ≡ Some (unwrap_or o [])
with_all (Some posts) is = refl
with_all None is = absurd cc

pub complete-posts : (log : Log) (stage : ℕ) → IsSome (before log stage) → before log stage ≡ Some (posts_before log stage)
complete-posts log stage is = with_all (before log stage) is
