-- Whether the log that a closing content embeds justifies it.
use Rattle.std.proofs.Common.{◌≡◌, ℕ, ◌+◌, ◌-◌, Bool, true, false, List, [], ◌∷◌, ◌++◌, length, map, take, drop, replicate, Option, Some, None, Result, Ok, Err, refl, sym, ap, subst, ◌∙◌, arith}
use Rattle.std.specs.Prelude.{IsSome, is_some, zip}
use Rattle.std.specs.List.{list_all, slice_range}
use Rattle.std.proofs.Math.Seq.{drop-append_seam, take-append_seam}
use Rattle.std.proofs.lemmas.Bool.{cond-true, cond-false}
use Rattle.std.proofs.lemmas.List.{length-map}
use Rattle.wire_core.specs.Answers.{◌>>=◌, fault_as}
use Rattle.phase_message.specs.declared.content.Content.{Content}
use Rattle.phase_message.specs.declared.post.Post.{Post}
use Rattle.phase_message.specs.declared.stage.Slot.{Slot}
use Rattle.phase_message.specs.Shape.{Shape}
use Rattle.phase_message.specs.Slots.{slot_count, slots_before}
use Rattle.group_roster.specs.Roster.{Roster, shape_of_roster}
use Rattle.stage_log.specs.Table.{Log, is_complete}
use Rattle.stage_log.specs.Log.{all_some, before, contents_in}
use Rattle.stage_log.proofs.Pasts.{all_some-map, contents_in-map}
use Rattle.go_nogo.specs.Closing.{HoldsEmbedded, HoldsFor, embedded_of, is_assent, is_justified, posts_embedded}
use Rattle.round_spec.specs.Embedded.{BadPost, embedded_log, embedded_pairs, is_content_justified, is_justified_by, log_of, posts_for}
use Rattle.embedded_log.specs.Embedding.{KeepsEmbedded, first_embedded, places_of}
use Rattle.embedded_log.proofs.EmbeddedLogs.{Spans, length_replicate}

abbrev none_post : Option Post
none_post = None

abbrev log_ok : Log → Result Log BadPost
log_ok log = Ok log

abbrev some_post : Post → Option Post
some_post post = Some post

-- of the places of such a log those that are embedded hold the posts
pub embedded_places : (shape : Shape) (content : Content) (posts : List Post) → Spans shape content
    → length posts ≡ length (posts_embedded content.body)
    → embedded_of shape content (places_of (first_embedded shape content) (slot_count shape) posts) ≡ map some_post posts
embedded_places shape content posts span long =
    let first : ℕ = first_embedded shape content in
    let rest : List (Option Post) = replicate (slot_count shape - (first + length posts)) none_post in
    let count : span.count ≡ length (map some_post posts) = omega (arith, length-map posts some_post, long, span.posts_long) in
    span.places_are (places_of first (slot_count shape) posts)
    ∙ ap (λ (k : ℕ). take span.count (drop k (replicate first none_post ++ (map some_post posts ++ rest))))
    (sym (length_replicate first none_post))
    ∙ ap (take span.count) (drop-append_seam (replicate first none_post) (map some_post posts ++ rest))
    ∙ ap (λ (n : ℕ). take n (map some_post posts ++ rest)) count
    ∙ take-append_seam (map some_post posts) rest

all_there : (posts : List Post) → list_all is_some (map some_post posts) ≡ true
all_there [] = refl
all_there (post ∷ posts) = all_there posts

-- an objection embeds all posts before its stage
pub before_embedded : (roster : Roster) (round : ℕ) (content : Content) (log : Log) (k : KeepsEmbedded roster round content log)
    → Spans (shape_of_roster roster) content → is_assent content.body ≡ false → before log content.header.stage ≡ Some k.posts
before_embedded roster round content log k span objects =
    let shape : Shape = shape_of_roster roster in
    let places : List (Option Post) = places_of (first_embedded shape content) (slot_count shape) k.posts in
    ap (λ (l : Log). before l content.header.stage) k.keeps
    ∙ ap all_some (sym (cond-false (is_assent content.body) (slice_range places (slots_before shape (content.header.stage - 1))
    (slots_before shape (content.header.stage - 1 + 1))) (take (slots_before shape content.header.stage) places) objects)
    ∙ embedded_places shape content k.posts span k.long)
    ∙ all_some-map k.posts

-- the log keeps what the content embeds
pub holds_embedded : (roster : Roster) (round : ℕ) (content : Content) (log : Log) → KeepsEmbedded roster round content log
    → Spans (shape_of_roster roster) content → HoldsEmbedded content log
holds_embedded roster round content log k span = by_assent (is_assent content.body) refl
  where
    posts_some : List Post → Option (List Post)
    posts_some posts = Some posts

    some_there : (posts : List Post) → IsSome (posts_some posts)
    some_there posts = refl

    by_assent : (b : Bool) → is_assent content.body ≡ b → HoldsFor (is_assent content.body) content.header.stage log
    by_assent true e =
        let shape : Shape = shape_of_roster roster in
        let places : List (Option Post) = places_of (first_embedded shape content) (slot_count shape) k.posts in
        let row = sym (cond-true (is_assent content.body) (slice_range places (slots_before shape (content.header.stage - 1))
        (slots_before shape (content.header.stage - 1 + 1))) (take (slots_before shape content.header.stage) places) e)
        ∙ embedded_places shape content k.posts span k.long in
        let whole : is_complete log (content.header.stage - 1) ≡ true = ap (λ (l : Log). is_complete l (content.header.stage - 1)) k.keeps
        ∙ ap (list_all is_some) row ∙ all_there k.posts in
        subst (λ (b : Bool). HoldsFor b content.header.stage log) (sym e) whole
    by_assent false e =
        let there : IsSome (before log content.header.stage) = subst (λ (o : Option (List Post)). IsSome o)
        (sym (before_embedded roster round content log k span e)) (some_there k.posts) in
        subst (λ (b : Bool). HoldsFor b content.header.stage log) (sym e) there

-- what is justified by the log is justified
pub justified_by : (roster : Roster) (round : ℕ) (content : Content) (log : Log) → KeepsEmbedded roster round content log
    → Spans (shape_of_roster roster) content
    → is_justified log.shape content (contents_in (embedded_of log.shape content log.posts)) ≡ is_content_justified roster round content
unfolding is_content_justified
justified_by roster round content log k span =
    let shape : Shape = shape_of_roster roster in
    ap (λ (l : Log). is_justified l.shape content (contents_in (embedded_of l.shape content l.posts))) k.keeps
    ∙ ap (λ (p : List (Option Post)). is_justified shape content (contents_in p)) (embedded_places shape content k.posts span k.long)
    ∙ ap (is_justified shape content) (contents_in-map k.posts)
    ∙ sym (ap (is_justified_by shape content) k.found)

-- a content with an embedded post that is none is not
pub unjustified_by : (roster : Roster) (round : ℕ) (content : Content) (place : ℕ)
    → fault_as (λ (bad : BadPost). bad.place) (embedded_log roster round content) ≡ Err place
    → is_content_justified roster round content ≡ false
unfolding is_content_justified embedded_log
unjustified_by roster round content place e = by_posts (posts_for roster round 0 (embedded_pairs roster content)) e
  where
    by_posts : (r : Result (List Post) BadPost) → fault_as (λ (bad : BadPost). bad.place)
        (r >>= λ posts. log_ok (log_of (shape_of_roster roster)
        (zip (map (λ (pair : Slot × List ℕ). pair.0) (embedded_pairs roster content)) posts))) ≡ Err place
        → is_justified_by (shape_of_roster roster) content r ≡ false
    by_posts (Ok posts) e = absurd cc
    by_posts (Err bad) e = refl
