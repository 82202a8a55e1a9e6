-- The log of the posts that a closing content embeds: its places, and what is embedded so far.
use Rattle.std.proofs.Common.{◌≡◌, ℕ, zero, suc, ◌+◌, ◌-◌, ◌<◌, ◌≤◌, true, false, List, [], ◌∷◌, ◌++◌, length, get_or, map, take, drop, replicate, Option, Some, None, Result, Ok, Err, refl, sym, ap, subst, ◌∙◌, arith, append_assoc, append-nil, length-append, inl, inr}
use Rattle.std.specs.Prelude.{◌⊎◌, IsErr, IsSome, fold, zip, option_and_then}
use Rattle.std.specs.List.{slice_get, slice_set}
use Rattle.std.proofs.Math.Seq.{drop-cons, get_or-append_seam, set-append_seam}
use Rattle.std.proofs.lemmas.Bool.{cond-true, cond-false}
use Rattle.std.proofs.lemmas.List.{map-append, length-map, length-take-le, length-drop, replicate-append-replicate}
use Rattle.std.proofs.lemmas.Slice.Zip.{firsts-zip}
use Rattle.wire_core.specs.Answers.{◌>>=◌, fault_as}
use Rattle.phase_message.specs.declared.content.Body.{Body}
use Rattle.phase_message.specs.declared.content.Body.TheVariants.{Keys, Submit, Shuffled, Abort, Go, Reveal, Dispute, Pads, Check, Confirm, Differ}
use Rattle.phase_message.specs.declared.content.Content.{Content}
use Rattle.phase_message.specs.declared.post.Post.{Post}
use Rattle.phase_message.specs.declared.stage.Slot.{Slot}
use Rattle.phase_message.specs.declared.stage.StageKind.{StageKind}
use Rattle.phase_message.specs.declared.stage.StageKind.TheVariants.{Keys as AtKeys, Submit as AtSubmit, Shuffle as AtShuffle, Go as AtGo, Final as AtFinal, Pad as AtPad, Check as AtCheck, Confirm as AtConfirm}
use Rattle.phase_message.specs.Closing.{IsClosingBody}
use Rattle.phase_message.specs.Grammar.{OfGrammar, content_text}
use Rattle.phase_message.specs.Shape.{Shape}
use Rattle.phase_message.specs.Slots.{senders_of, slot_at, slot_count, slot_number, slots_before, slots_of}
use Rattle.phase_message.specs.Stages.{is_slot, kind_of_stage, vote_of}
use Rattle.phase_message.proofs.Closings.{closing-follows}
use Rattle.phase_message.proofs.Counts.{slots_next}
use Rattle.phase_message.proofs.Read.{closings_are_read}
use Rattle.phase_message.proofs.SlotLists.{length-slots_of, slot_at-is, slots_before-most}
use Rattle.phase_message.proofs.Whole.{content-is_read}
use Rattle.group_roster.specs.Roster.{Roster, shape_of_roster}
use Rattle.stage_log.specs.Put.{put_log}
use Rattle.stage_log.specs.Table.{Log, empty_log, filled, kept_in}
use Rattle.stage_log.proofs.Puts.{put_log-empty}
use Rattle.go_nogo.specs.Stands.{StandAll, StandsIn}
use Rattle.go_nogo.proofs.Standing.{stand-empty, stand-put}
use Rattle.std.specs.Option.{option_flatten}
use Rattle.std.proofs.lemmas.Option.{slice_get_read}
use Rattle.std.proofs.Math.ListN.{drop_of_length-le}
use Rattle.go_nogo.specs.Closing.{IsClosing, embedded_of, is_assent, posts_embedded, slots_embedded}
use Rattle.round_spec.specs.Embedded.{BadPost, WhyNot, embedded_log, embedded_pairs, log_of, post_for_slot, posts_for}
use Rattle.embedded_log.specs.Embedding.{KeepsEmbedded, StandsThere, first_embedded, places_of}

-- ---- the places of a log

abbrev none_post : Option Post
none_post = None

pub length_replicate : {A : Type 0} (n : ℕ) (x : A) → length (replicate n x) ≡ n
length_replicate zero x = refl
length_replicate (suc n) x = omega (arith, length_replicate n x)

-- the next place is empty,
front_long : (first : ℕ) (posts : List Post) → length (replicate first none_post ++ map (λ x. Some x) posts) ≡ first + length posts
front_long first posts = omega (
  arith,
  length-append (replicate first none_post) (map (λ x. Some x) posts),
  length_replicate first
      none_post,
  length-map posts (λ (x : Post). Some x),
)

split_places : (first count m : ℕ) (posts : List Post) → count - (first + length posts) ≡ suc m
    → places_of first count posts ≡ (replicate first none_post ++ map (λ x. Some x) posts) ++ none_post ∷ replicate m none_post
split_places first count m posts e =
    ap (λ (k : ℕ). replicate first none_post ++ (map (λ x. Some x) posts ++ replicate k none_post)) e
    ∙ sym (append_assoc (replicate first none_post) (map (λ x. Some x) posts) (none_post ∷ replicate m none_post))

pub place-empty : (first count : ℕ) (posts : List Post) → first + length posts < count
    → get_or (places_of first count posts) (first + length posts) none_post ≡ none_post
place-empty first count posts lt =
    let m : ℕ = count - (first + length posts) - 1 in
    let front : List (Option Post) = replicate first none_post ++ map (λ x. Some x) posts in
    let left : count - (first + length posts) ≡ suc m = omega arith in
    ap (λ (p : List (Option Post)). get_or p (first + length posts) none_post) (split_places first count m posts left)
    ∙ ap (λ (k : ℕ). get_or (front ++ none_post ∷ replicate m none_post) k none_post) (sym (front_long first posts))
    ∙ get_or-append_seam front none_post (replicate m none_post) none_post

-- and one more post fills it
pub places-next : (first count : ℕ) (posts : List Post) (post : Post) → first + length posts < count
    → slice_set (places_of first count posts) (first + length posts) (Some post) ≡ places_of first count (posts ++ post ∷ [])
places-next first count posts post lt =
    let m : ℕ = count - (first + length posts) - 1 in
    let front : List (Option Post) = replicate first none_post ++ map (λ x. Some x) posts in
    let left : count - (first + length posts) ≡ suc m = omega arith in
    let rest : count - (first + length (posts ++ post ∷ [])) ≡ m = omega (arith, length-append posts (post ∷ [])) in
    ap (λ (p : List (Option Post)). slice_set p (first + length posts) (Some post)) (split_places first count m posts left)
    ∙ ap (λ (k : ℕ). slice_set (front ++ none_post ∷ replicate m none_post) k (Some post)) (sym (front_long first posts))
    ∙ set-append_seam front none_post (replicate m none_post) (Some post)
    ∙ append_assoc (replicate first none_post) (map (λ x. Some x) posts) (Some post ∷ replicate m none_post)
    ∙ ap (λ (t : List (Option Post)). replicate first none_post ++ t)
    (sym (append_assoc (map (λ x. Some x) posts) (Some post ∷ []) (replicate m none_post))
    ∙ ap (λ (t : List (Option Post)). t ++ replicate m none_post) (sym (map-append (λ (x : Post). Some x) posts (post ∷ []))))
    ∙ ap (λ (k : ℕ). replicate first none_post ++ (map (λ x. Some x) (posts ++ post ∷ []) ++ replicate k none_post)) (sym rest)

-- a log with no post has all places empty
pub places-empty : (shape : Shape) (first : ℕ) → first ≤ slot_count shape
    → empty_log shape ≡ record { shape = shape; posts = places_of first (slot_count shape) [] }
places-empty shape first le =
    let whole : first + (slot_count shape - (first + 0)) ≡ slot_count shape = omega arith in
    ap (λ (p : List (Option Post)). log shape p) (ap (λ (n : ℕ). replicate n none_post) (sym whole)
    ∙ sym (replicate-append-replicate first (slot_count shape - (first + 0)) none_post))
  where
    log : Shape → List (Option Post) → Log
    log shape posts = record { shape = shape; posts = posts }

-- ---- slots in their order

-- these slots stand at these numbers, one after the other
abbrev pub NumberedFrom : Shape → ℕ → List Slot → Type 0
NumberedFrom shape first [] = Unit {0}
NumberedFrom shape first (slot ∷ slots) = (slot_at shape first ≡ Some slot) × NumberedFrom shape (first + 1) slots

-- so have those that stand behind each other in the list of all slots
pub numbered : (shape : Shape) (n first : ℕ) → first + n ≤ slot_count shape
    → NumberedFrom shape first (take n (drop first (slots_of shape)))
numbered shape zero first le = tt
numbered shape (suc n) first le =
    let nobody : Slot = record { stage = 0; sender = 0 } in
    let within : first < length (slots_of shape) = omega (arith, length-slots_of shape) in
    let cut = drop-cons (slots_of shape) first nobody within in
    let next : suc first ≡ first + 1 = omega arith in
    subst (λ (s : List Slot). NumberedFrom shape first (take (suc n) s)) (sym cut) (
      at (slots_of shape) first nobody within,
      subst (λ (k : ℕ). NumberedFrom shape (first + 1) (take n (drop k (slots_of shape))))
          (sym next) (numbered shape n (first + 1) (omega arith)),
    )
  where
    at : (xs : List Slot) (k : ℕ) (d : Slot) → k < length xs → slice_get xs k ≡ Some (get_or xs k d)
    at [] k d lt = absurd (omega arith)
    at (x ∷ xs) zero d lt = refl
    at (x ∷ xs) (suc k) d lt = at xs k d (omega arith)

-- what stands at a place of them
pub numbered-at : (shape : Shape) (first : ℕ) (slots : List Slot) (place : ℕ) (d : Slot) → NumberedFrom shape first slots
    → place < length slots → slot_at shape (first + place) ≡ Some (get_or slots place d)
numbered-at shape first [] place d numbers lt = absurd (omega arith)
numbered-at shape first (slot ∷ slots) zero d numbers lt = let same : first + 0 ≡ first = omega arith in rw same numbers.0
numbered-at shape first (slot ∷ slots) (suc place) d numbers lt =
    let same : first + suc place ≡ first + 1 + place = omega arith in
    rw same (numbered-at shape (first + 1) slots place d numbers.1 (omega arith))

-- the log of posts in slots from a number on
pub log-places : (shape : Shape) (first : ℕ) (done : List Post) (slots : List Slot) (posts : List Post)
    → NumberedFrom shape (first + length done) slots → length slots ≡ length posts
    → first + length done + length slots ≤ slot_count shape
    → fold (λ log (pair : Slot × Post). filled log pair.0 pair.1)
    (record { shape = shape; posts = places_of first (slot_count shape) done }) (zip slots posts) ≡ record
    { shape = shape; posts = places_of first (slot_count shape) (done ++ posts) }
log-places shape first done [] [] numbers long within = ap (λ (p : List Post). record
    { shape = shape; posts = places_of first (slot_count shape) p }) (sym (append-nil done))
log-places shape first done [] (post ∷ posts) numbers long within = absurd (omega arith)
log-places shape first done (slot ∷ slots) [] numbers long within = absurd (omega arith)
log-places shape first done (slot ∷ slots) (post ∷ posts) numbers long within =
    let log : List (Option Post) → Log = λ posts. record { shape = shape; posts = posts } in
    let step : Log → Slot × Post → Log = λ log pair. filled log pair.0 pair.1 in
    let more : first + length (done ++ post ∷ []) ≡ first + length done + 1 = omega (arith, length-append done (post ∷ [])) in
    let next = ap (λ (k : ℕ). log (slice_set (places_of first (slot_count shape) done) k (Some post)))
    (slot_at-is shape (first + length done) slot numbers.0).1 ∙ ap log (places-next first (slot_count shape) done post (omega arith)) in
    let others = log-places shape first (done ++ post ∷ []) slots posts (subst (λ (k : ℕ). NumberedFrom shape k slots) (sym more) numbers.1)
    (omega arith) (omega arith) in
    ap (λ (l : Log). fold step l (zip slots posts)) next
    ∙ others
    ∙ ap (λ (p : List Post). log (places_of first (slot_count shape) p)) (append_assoc done (post ∷ []) posts)

-- ---- what a closing content embeds

-- as many posts as slots, which stand behind each other
pub record Spans (shape : Shape) (content : Content) : Type 0 where
  pub count : ℕ
  pub slots_are : slots_embedded shape content ≡ take count (drop (first_embedded shape content) (slots_of shape))
  pub places_are : (places : List (Option Post)) → embedded_of shape content places ≡ take count
      (drop (first_embedded shape content) places)
  pub slots_long : length (slots_embedded shape content) ≡ count
  pub posts_long : length (posts_embedded content.body) ≡ count
  pub within : first_embedded shape content + count ≤ slot_count shape
  pub objects : is_assent content.body ≡ false → (count ≡ slots_before shape content.header.stage) × (first_embedded shape content ≡ 0)

-- how many posts a closing body embeds, by whether it assents
counts : (shape : Shape) (stage : ℕ) (kind : StageKind) (body : Body) → IsClosingBody shape stage kind body
    → ((is_assent body ≡ true) × (length (posts_embedded body) ≡ shape.members))
    ⊎ ((is_assent body ≡ false) × (length (posts_embedded body) ≡ slots_before shape stage))
counts shape stage (AtFinal shuffle) (Keys keys) is = absurd is
counts shape stage (AtFinal shuffle) (Submit ciphertext) is = absurd is
counts shape stage (AtFinal shuffle) (Shuffled list) is = absurd is
counts shape stage (AtFinal shuffle) Abort is = absurd is
counts shape stage (AtFinal shuffle) (Go vote) is = absurd is
counts shape stage (AtFinal shuffle) (Pads pads) is = absurd is
counts shape stage (AtFinal shuffle) (Check vote) is = absurd is
counts shape stage (AtFinal shuffle) (Reveal votes seed) is = inl (refl, is)
counts shape stage (AtFinal shuffle) (Dispute posts seed opening) is = inr (refl, is)
counts shape stage (AtFinal shuffle) (Confirm votes) is = absurd is
counts shape stage (AtFinal shuffle) (Differ posts) is = absurd is
counts shape stage AtConfirm (Keys keys) is = absurd is
counts shape stage AtConfirm (Submit ciphertext) is = absurd is
counts shape stage AtConfirm (Shuffled list) is = absurd is
counts shape stage AtConfirm Abort is = absurd is
counts shape stage AtConfirm (Go vote) is = absurd is
counts shape stage AtConfirm (Pads pads) is = absurd is
counts shape stage AtConfirm (Check vote) is = absurd is
counts shape stage AtConfirm (Reveal votes seed) is = absurd is
counts shape stage AtConfirm (Dispute posts seed opening) is = absurd is
counts shape stage AtConfirm (Confirm votes) is = inl (refl, is)
counts shape stage AtConfirm (Differ posts) is = inr (refl, is)
counts shape stage AtKeys body is = absurd is
counts shape stage (AtSubmit shuffle) body is = absurd is
counts shape stage (AtShuffle shuffle k) body is = absurd is
counts shape stage (AtGo shuffle) body is = absurd is
counts shape stage AtPad body is = absurd is
counts shape stage AtCheck body is = absurd is

-- the stage before a closing stage has a vote of each member
votes_long : (shape : Shape) (stage : ℕ) (kind vote : StageKind) → kind_of_stage shape stage ≡ Some kind → vote_of kind ≡ Some vote
    → slots_before shape (stage - 1 + 1) ≡ slots_before shape (stage - 1) + shape.members
votes_long shape stage kind vote e closes =
    let before = closing-follows shape stage kind vote e closes in
    slots_next shape (stage - 1) vote before.1 ∙ ap (λ (n : ℕ). slots_before shape (stage - 1) + n) (all_vote kind vote closes)
  where
    all_vote : (kind vote : StageKind) → vote_of kind ≡ Some vote → senders_of shape vote ≡ shape.members
    all_vote (AtFinal shuffle) vote e = let is : vote ≡ AtGo shuffle = cc in ap (senders_of shape) is
    all_vote AtConfirm vote e = let is : vote ≡ AtCheck = cc in ap (senders_of shape) is
    all_vote AtKeys vote e = absurd cc
    all_vote (AtSubmit shuffle) vote e = absurd cc
    all_vote (AtShuffle shuffle k) vote e = absurd cc
    all_vote (AtGo shuffle) vote e = absurd cc
    all_vote AtPad vote e = absurd cc
    all_vote AtCheck vote e = absurd cc

-- the two kinds of a closing stage
pub closing_kind : (o : Option StageKind) → IsSome (option_and_then vote_of o) → (kind : StageKind) × (vote : StageKind) × (o ≡ Some kind)
    × (vote_of kind ≡ Some vote)
closing_kind None is = absurd cc
closing_kind (Some (AtFinal shuffle)) is = (AtFinal shuffle, AtGo shuffle, refl, refl)
closing_kind (Some AtConfirm) is = (AtConfirm, AtCheck, refl, refl)
closing_kind (Some AtKeys) is = absurd cc
closing_kind (Some (AtSubmit shuffle)) is = absurd cc
closing_kind (Some (AtShuffle shuffle k)) is = absurd cc
closing_kind (Some (AtGo shuffle)) is = absurd cc
closing_kind (Some AtPad) is = absurd cc
closing_kind (Some AtCheck) is = absurd cc

pub spans : (shape : Shape) (content : Content) → OfGrammar shape content → IsClosing shape content → Spans shape content
spans shape content grammar closing =
    let stage : ℕ = content.header.stage in
    let kind = closing_kind (kind_of_stage shape stage) closing in
    let body = closings_are_read shape (content_text content) content kind.0 kind.1 (content-is_read shape content grammar) kind.2 kind.3 in
    let a : ℕ = slots_before shape (stage - 1) in
    let b : ℕ = slots_before shape (stage - 1 + 1) in
    let votes : b ≡ a + shape.members = votes_long shape stage kind.0 kind.1 kind.2 kind.3 in
    let all : List Slot = slots_of shape in
    elim (counts shape stage kind.0 content.body body) [
      | inl assents ↦
          let first : first_embedded shape content ≡ a = cond-true (is_assent content.body) a 0 assents.0 in
          let most = slots_before-most shape (stage - 1 + 1) in
          let few : b - a ≡ shape.members = omega (arith, votes) in
          let own : slots_embedded shape content ≡ take (b - a) (drop a all) = cond-true (is_assent content.body) _ _ assents.0 in
          let is : slots_embedded shape content ≡ take shape.members (drop (first_embedded shape content) all) = own
          ∙ ap (λ (n : ℕ). take n (drop a all)) few ∙ ap (λ (k : ℕ). take shape.members (drop k all)) (sym first) in
          record {
            count = shape.members;
            slots_are = is;
            places_are = λ places. cond-true (is_assent content.body) _ _ assents.0 ∙ ap (λ (n : ℕ). take n (drop a places)) few
                ∙ ap (λ (k : ℕ). take shape.members (drop k places)) (sym first);
            slots_long = ap (λ (s : List Slot). length s) is ∙ length-take-le shape.members (drop (first_embedded shape content) all)
                (omega (arith, length-drop (first_embedded shape content) all, length-slots_of shape, most, votes, first));
            posts_long = assents.1;
            within = omega (arith, most, votes, first);
            objects = λ e. absurd (let both = sym assents.0 ∙ e in cc);
          }
      | inr objects ↦
          let n : ℕ = slots_before shape stage in
          let first : first_embedded shape content ≡ 0 = cond-false (is_assent content.body) a 0 objects.0 in
          let most = slots_before-most shape stage in
          let own : slots_embedded shape content ≡ take n all = cond-false (is_assent content.body) _ _ objects.0 in
          record {
            count = n;
            slots_are = own ∙ ap (λ (k : ℕ). take n (drop k all)) (sym first);
            places_are = λ places. cond-false (is_assent content.body) _ _ objects.0 ∙ ap (λ (k : ℕ). take n (drop k places)) (sym first);
            slots_long = ap (λ (s : List Slot). length s) own ∙ length-take-le n all (omega (arith, length-slots_of shape, most));
            posts_long = objects.1;
            within = omega (arith, most, first);
            objects = λ e. (refl, first);
          }
    ]

-- ---- what is embedded so far

abbrev posts_ok : List Post → Result (List Post) BadPost
posts_ok posts = Ok posts

abbrev log_ok : Log → Result Log BadPost
log_ok log = Ok log

abbrev log_with : Shape → List (Option Post) → Log
log_with shape posts = record { shape = shape; posts = posts }

places_long : (first count : ℕ) (posts : List Post) → first + length posts ≤ count → length (places_of first count posts) ≡ count
places_long first count posts le =
    let rest : ℕ = count - (first + length posts) in
    omega (
      arith,
      length-append (replicate first none_post) (map (λ x. Some x) posts ++ replicate rest none_post),
      length-append
          (map (λ x. Some x) posts) (replicate rest none_post),
      length_replicate first none_post,
      length_replicate rest none_post,
      length-map
          posts (λ (x : Post). Some x),
    )

-- of the posts that a closing content embeds so many are read, and a log keeps them
pub record Embeds (roster : Roster) (round : ℕ) (content : Content) (log : Log) (place : ℕ) : Type 0 where
  pub done : List Post
  pub long : length done ≡ place
  pub so_far : posts_for roster round 0 (embedded_pairs roster content)
      ≡ (posts_for roster round place (zip (drop place (slots_embedded (shape_of_roster roster) content))
      (drop place (posts_embedded content.body))) >>= λ others. posts_ok (done ++ others))
  pub keeps : log ≡ record {
    shape = shape_of_roster roster;
    posts = places_of (first_embedded (shape_of_roster roster) content)
        (slot_count (shape_of_roster roster)) done;
  }
  pub stand : StandAll log

pub embeds-none : (roster : Roster) (round : ℕ) (content : Content) (log : Log) → Spans (shape_of_roster roster) content
    → log ≡ empty_log (shape_of_roster roster) → Embeds roster round content log 0
embeds-none roster round content log span is =
    let shape : Shape = shape_of_roster roster in
    record {
      done = [];
      long = refl;
      so_far = same (posts_for roster round 0 (embedded_pairs roster content));
      keeps = is ∙ places-empty shape (first_embedded shape content) (omega (arith, span.within));
      stand = subst (λ (l : Log). StandAll l) (sym is) (λ stage. stand-empty shape stage);
    }
  where
    same : (r : Result (List Post) BadPost) → r ≡ (r >>= λ others. posts_ok ([] ++ others))
    same (Ok posts) = refl
    same (Err bad) = refl

-- the slot and the bytes at a place, and what is behind them
pub record Next (roster : Roster) (content : Content) (place : ℕ) (bytes : List ℕ) : Type 0 where
  pub slot : Slot
  pub at : slot_at (shape_of_roster roster) (first_embedded (shape_of_roster roster) content + place) ≡ Some slot
  pub pairs : zip (drop place (slots_embedded (shape_of_roster roster) content)) (drop place (posts_embedded content.body))
      ≡ (slot, bytes) ∷ zip (drop (place + 1) (slots_embedded (shape_of_roster roster) content))
      (drop (place + 1) (posts_embedded content.body))

pub next_of : (roster : Roster) (content : Content) (place : ℕ) (bytes : List ℕ) → Spans (shape_of_roster roster) content
    → place < length (posts_embedded content.body) → bytes ≡ get_or (posts_embedded content.body) place bytes
    → Next roster content place bytes
next_of roster content place bytes span lt is =
    let shape : Shape = shape_of_roster roster in
    let nobody : Slot = record { stage = 0; sender = 0 } in
    let slots : List Slot = slots_embedded shape content in
    let posts : List (List ℕ) = posts_embedded content.body in
    let within : place < length slots = omega (arith, span.slots_long, span.posts_long) in
    let next : suc place ≡ place + 1 = omega arith in
    let numbers = subst (λ (s : List Slot). NumberedFrom shape (first_embedded shape content) s) (sym span.slots_are)
    (numbered shape span.count (first_embedded shape content) span.within) in
    record {
      slot = get_or slots place nobody;
      at = numbered-at shape (first_embedded shape content) slots place nobody numbers within;
      pairs = ap (λ (s : List Slot). zip s (drop place posts)) (drop-cons slots place nobody within)
          ∙ ap (λ (p : List (List ℕ)). zip (get_or slots place nobody ∷ drop (suc place) slots) p)
          (drop-cons posts place bytes lt ∙ ap (λ (b : List ℕ). b ∷ drop (suc place) posts) (sym is))
          ∙ ap (λ (k : ℕ). (get_or slots place nobody, bytes) ∷ zip (drop k slots) (drop k posts)) next;
    }

-- a post that is none ends it
pub embeds-bad : (roster : Roster) (round : ℕ) (content : Content) (log : Log) (place : ℕ) (bytes : List ℕ)
    (next : Next roster content place bytes) → Embeds roster round content log place → IsErr (post_for_slot roster round next.slot bytes)
    → fault_as (λ (bad : BadPost). bad.place) (embedded_log roster round content) ≡ Err place
unfolding embedded_log posts_for
embeds-bad roster round content log place bytes next so bad =
    let why = failed (post_for_slot roster round next.slot bytes) bad in
    let here : posts_for roster round place (zip (drop place (slots_embedded (shape_of_roster roster) content))
    (drop place (posts_embedded content.body))) ≡ Err (record { place = place; why = why.0 }) =
    ap (posts_for roster round place) next.pairs ∙ fails (post_for_slot roster round next.slot bytes) _ why.0 why.1 in
    let all : posts_for roster round 0 (embedded_pairs roster content) ≡ Err (record { place = place; why = why.0 }) = so.so_far
    ∙ rw here refl in
    rw all refl
  where
    fails : (r : Result Post WhyNot) (rest : Post → Result (List Post) BadPost) (why : WhyNot) → r ≡ Err why
        → (fault_as (λ why. record { place = place; why = why }) r >>= rest) ≡ Err (record { place = place; why = why })
    fails (Ok post) rest why e = absurd cc
    fails (Err w) rest why e = let same : w ≡ why = cc in rw same refl

    failed : {A E : Type 0} (r : Result A E) → IsErr r → (e : E) × (r ≡ Err e)
    failed (Ok x) e = absurd cc
    failed (Err y) e = (y, refl)

-- and one more is kept
pub embeds-next : (roster : Roster) (round : ℕ) (content : Content) (log now : Log) (place : ℕ) (bytes : List ℕ) (slot : Slot) (post : Post)
    (next : Next roster content place bytes) → Spans (shape_of_roster roster) content → place < length (posts_embedded content.body)
    → Embeds roster round content log place → post_for_slot roster round next.slot bytes ≡ Ok post
    → slot_number (shape_of_roster roster) slot.stage slot.sender ≡ first_embedded (shape_of_roster roster) content + place
    → StandsThere (shape_of_roster roster) slot.stage slot.sender post.content → now ≡ put_log log slot post
    → Embeds roster round content now (place + 1)
unfolding posts_for
embeds-next roster round content log now place bytes slot post next span lt so is number stands put =
    let shape : Shape = shape_of_roster roster in
    let first : ℕ = first_embedded shape content in
    let count : ℕ = slot_count shape in
    let few : first + length so.done < count = omega (arith, so.long, span.within, span.posts_long) in
    let here : Slot = record { stage = slot.stage; sender = slot.sender } in
    let shape_is : log.shape ≡ shape = ap (λ (l : Log). l.shape) so.keeps in
    let number_is : slot_number shape slot.stage slot.sender ≡ first + length so.done = number ∙ ap (λ (k : ℕ). first + k) (sym so.long) in
    let kept : kept_in (record { shape = shape; posts = places_of first count so.done }) slot ≡ None = cond-true
    (is_slot shape slot.stage slot.sender) (option_flatten (slice_get (places_of first count so.done)
    (slot_number shape slot.stage slot.sender))) None stands.there
    ∙ ap (λ (k : ℕ). option_flatten (slice_get (places_of first count so.done) k)) number_is
    ∙ ap (λ (o : Option (Option Post)). option_flatten o) (slice_get_read (places_of first count so.done)
    (length (places_of first count so.done)) (first + length so.done) none_post refl
    (omega (arith, places_long first count so.done (omega (arith, few)), few)) (sym (place-empty first count so.done few))) in
    let filled_is : put_log (record { shape = shape; posts = places_of first count so.done }) slot post ≡ record
    { shape = shape; posts = places_of first count (so.done ++ post ∷ []) } =
    sym (put_log-empty (record { shape = shape; posts = places_of first count so.done }) slot post (first + length so.done) kept
    (sym number_is)) ∙ ap (λ (p : List (Option Post)). log_with shape p) (places-next first count so.done post few) in
    let rest : Result (List Post) BadPost = posts_for roster round (place + 1)
    (zip (drop (place + 1) (slots_embedded shape content)) (drop (place + 1) (posts_embedded content.body))) in
    let step : posts_for roster round place (zip (drop place (slots_embedded shape content)) (drop place (posts_embedded content.body))) ≡
    (rest >>= λ posts. posts_ok (post ∷ posts)) =
    ap (posts_for roster round place) next.pairs ∙ rw is refl in
    record {
      done = so.done ++ post ∷ [];
      long = length-append so.done (post ∷ []) ∙ omega (arith, so.long);
      so_far = so.so_far ∙ ap (λ (r : Result (List Post) BadPost). r >>= λ others. posts_ok (so.done ++ others)) step
          ∙ joined so.done post rest;
      keeps = put ∙ ap (λ (l : Log). put_log l slot post) so.keeps ∙ filled_is;
      stand = subst (λ (l : Log). StandAll l) (sym put) (λ stage. stand-put log slot post stage
          (subst (λ (s : Shape). is_slot s slot.stage slot.sender ≡ true) (sym shape_is) stands.there) (so.stand stage)
          (λ same. subst (λ (s : Shape). StandsIn s here post.content) (sym shape_is) stands.stands));
    }
  where
    joined : (done : List Post) (post : Post) (r : Result (List Post) BadPost)
        → ((r >>= λ posts. posts_ok (post ∷ posts)) >>= λ others. posts_ok (done ++ others)) ≡
        (r >>= λ others. posts_ok ((done ++ post ∷ []) ++ others))
    joined done post (Ok posts) = ap posts_ok (sym (append_assoc done (post ∷ []) posts))
    joined done post (Err bad) = refl

-- where all are kept, the log is the one that is embedded
pub embeds-all : (roster : Roster) (round : ℕ) (content : Content) (log : Log) (place : ℕ) → Spans (shape_of_roster roster) content
    → Embeds roster round content log place → place ≡ length (posts_embedded content.body) → KeepsEmbedded roster round content log
    × (embedded_log roster round content ≡ Ok log)
unfolding embedded_log posts_for
embeds-all roster round content log place span so end =
    let shape : Shape = shape_of_roster roster in
    let slots : List Slot = slots_embedded shape content in
    let posts : List (List ℕ) = posts_embedded content.body in
    let none : drop place slots ≡ [] = drop_of_length-le slots (omega (arith, end, span.slots_long, span.posts_long)) in
    let nothing : posts_for roster round place (zip (drop place slots) (drop place posts)) ≡ Ok [] = ap
    (λ (s : List Slot). posts_for roster round place (zip s (drop place posts))) none in
    let found : posts_for roster round 0 (embedded_pairs roster content) ≡ Ok so.done = so.so_far
    ∙ rw nothing (ap posts_ok (append-nil so.done)) in
    let firsts : map (λ (pair : Slot × List ℕ). pair.0) (embedded_pairs roster content) ≡ slots = firsts-zip slots posts
    (span.posts_long ∙ sym span.slots_long) in
    let first : ℕ = first_embedded shape content in
    let numbers = subst (λ (s : List Slot). NumberedFrom shape first s) (sym span.slots_are) (numbered shape span.count first span.within)
    in
    let zero_more : first + 0 ≡ first = omega arith in
    let logs = log-places shape first [] slots so.done (subst (λ (k : ℕ). NumberedFrom shape k slots) (sym zero_more) numbers)
    (omega (arith, so.long, end, span.slots_long, span.posts_long)) (omega (arith, span.slots_long, span.within)) in
    let made : log_of shape (zip slots so.done) ≡ log = ap (λ (l : Log). fold (λ (log : Log) (pair : Slot × Post). filled log pair.0 pair.1)
    l (zip slots so.done)) (places-empty shape first (omega (arith, span.within))) ∙ logs ∙ sym so.keeps in (
      record { posts = so.done; found = found; long = so.long ∙ end; keeps = so.keeps },
      rw found
          (ap (λ (s : List Slot). log_ok (log_of shape (zip s so.done))) firsts ∙ ap log_ok made),
    )
