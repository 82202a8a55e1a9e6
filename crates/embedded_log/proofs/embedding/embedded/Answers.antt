use Rattle.group_roster.specs.Given.{roster_of}
use Rattle.std.proofs.Common.{◌≡◌, ℕ, ◌+◌, ◌<◌, List, length, get_or, Some, ap, ◌∙◌, arith}
use Rattle.wire_core.specs.Answers.{fault_as}
use Rattle.phase_message.specs.declared.content.Content.{Content}
use Rattle.phase_message.specs.Shape.{Shape}
use Rattle.phase_message.specs.Slots.{slot_at}
use Rattle.group_roster.specs.Roster.{Roster, shape_of_roster}
use Rattle.stage_log.specs.Table.{empty_log}
use Rattle.go_nogo.specs.Closing.{posts_embedded}
use Rattle.round_spec.specs.Embedded.{BadPost}
use Rattle.embedded_log.specs.Embedding.{first_embedded}
use Rattle.embedded_log.proofs.EmbeddedLogs.{Next, embeds-all, embeds-bad, embeds-next, embeds-none, next_of, spans}
use Rattle.embedded_log.proofs.embedding.embedded.Goals as goal
use Rattle.embedded_log.proofs.embedding.embedded.Goals.{After-post_for}

-- what stands at a place
bytes_at : (posts given : List (List ℕ)) (place : ℕ) (x bytes : List ℕ) → given ≡ posts → bytes ≡ x → x ≡ get_or given place x
    → bytes ≡ get_or posts place bytes
bytes_at posts given place x bytes e1 e2 e3 = rw (e2, ← e1) e3

-- the slot of the number that is asked for
asked_at : (roster : Roster) (content : Content) (shape : Shape) (first place : ℕ) (bytes : List ℕ) (next : Next roster content place bytes)
    → shape ≡ shape_of_roster roster → first ≡ first_embedded shape content
    → slot_at (shape_of_roster roster) (first + place) ≡ Some next.slot
asked_at roster content shape first place bytes next same is =
    ap (λ (k : ℕ). slot_at (shape_of_roster roster) (k + place)) (is ∙ ap (λ (s : Shape). first_embedded s content) same) ∙ next.at

-- the place is one of the posts
inside : (c : After-post_for) → c.loop-place.place < length (posts_embedded c.args.content.now.body)
inside c = omega (arith, ap (λ (p : List (List ℕ)). length p) c.posts_embedded-posts.ensures, c.loop-place-test.true)

-- what is asked for is the post there, and its slot
next : (c : After-post_for) → Next (roster_of c.args.roster.now) c.args.content.now c.loop-place.place c.as_slice-bytes.result.now
next c =
    let roster : Roster = roster_of c.args.roster.now in
    let content : Content = c.args.content.now in
    let same : c.as_slice-bytes.result.now ≡ c.index-posts-place.result = c.as_slice-bytes.ensures.value ∙ c.items.ensures in
    let is = bytes_at (posts_embedded content.body) c.posts_embedded-posts.result.now c.loop-place.place c.index-posts-place.result
    c.as_slice-bytes.result.now c.posts_embedded-posts.ensures same c.index-posts-place.is in
    next_of roster content c.loop-place.place c.as_slice-bytes.result.now
    (spans (shape_of_roster roster) content c.requires.grammar c.requires.closing) (inside c) is

asked : (c : After-post_for)
    → slot_at (shape_of_roster (roster_of c.args.roster.now)) (c.first_embedded-first.result + c.loop-place.place) ≡ Some (next c).slot
asked c =
    asked_at (roster_of c.args.roster.now) c.args.content.now _ c.first_embedded-first.result c.loop-place.place
    c.as_slice-bytes.result.now (next c) c.shape.ensures c.first_embedded-first.ensures

pub loop-place-init : goal.loop-place-init
loop-place-init c =
    let roster : Roster = roster_of c.args.roster.now in
    embeds-none roster c.args.round c.args.content.now c.in_ok-log.log
    (spans (shape_of_roster roster) c.args.content.now c.requires.grammar c.requires.closing)
    (c.in_ok-log.ensures ∙ ap empty_log c.shape-2.ensures)

pub overflow_cast-place : goal.overflow_cast-place
overflow_cast-place c =
    let roster : Roster = roster_of c.args.roster.now in
    let span = spans (shape_of_roster roster) c.args.content.now c.requires.grammar c.requires.closing in
    omega (
      arith,
      span.within,
      span.posts_long,
      ap (λ (p : List (List ℕ)). length p) c.posts_embedded-posts.ensures,
      c.loop-place-test.true,
      c.args.roster.now.form.most,
    )

pub overflow_add-first : goal.overflow_add-first
overflow_add-first c =
    let roster : Roster = roster_of c.args.roster.now in
    let span = spans (shape_of_roster roster) c.args.content.now c.requires.grammar c.requires.closing in
    let first = c.first_embedded-first.ensures ∙ ap (λ (s : Shape). first_embedded s c.args.content.now) c.shape.ensures in
    omega (
      arith,
      first,
      span.within,
      span.posts_long,
      ap (λ (p : List (List ℕ)). length p) c.posts_embedded-posts.ensures,
      c.loop-place-test.true,
      c.args.roster.now.form.most,
    )

pub returns-in-None-clause-exact : goal.returns-in-None-clause-exact
returns-in-None-clause-exact c =
    let roster : Roster = roster_of c.args.roster.now in
    let content : Content = c.args.content.now in
    let here = (goal.at.returns-in-None-clause-exact c).After-post_for in
    let value = rw c.in-None.is at (c.in_ok-post_for.ensures.value (next here).slot (asked here)) in
    embeds-bad roster c.args.round content c.loop-place.log c.loop-place.place c.as_slice-bytes.result.now (next here)
    c.loop-place.invariant value

pub loop-place-preserved : goal.loop-place-preserved
loop-place-preserved c =
    let roster : Roster = roster_of c.args.roster.now in
    let content : Content = c.args.content.now in
    let span = spans (shape_of_roster roster) content c.requires.grammar c.requires.closing in
    let here = (goal.at.loop-place-preserved c).After-post_for in
    let value = rw c.in-Some.is at (c.in_ok-post_for.ensures.value (next here).slot (asked here)) in
    let number = rw c.in-Some.is at c.in_ok-post_for.ensures.numbered in
    let stands = rw c.in-Some.is at c.in_ok-post_for.ensures.stands in
    let first = c.first_embedded-first.ensures ∙ ap (λ (s : Shape). first_embedded s content) c.shape.ensures in
    embeds-next roster c.args.round content c.loop-place.log c.put-stored.new.self c.loop-place.place c.as_slice-bytes.result.now
    c.in-Some.field-0.slot c.in-Some.field-0.post (next here) span (inside here) c.loop-place.invariant value
    (number ∙ ap (λ (k : ℕ). k + c.loop-place.place) first) stands c.put-stored.ensures.log

pub returns-clause-exact : goal.returns-clause-exact
returns-clause-exact c =
    let roster : Roster = roster_of c.args.roster.now in
    let content : Content = c.args.content.now in
    let span = spans (shape_of_roster roster) content c.requires.grammar c.requires.closing in
    let end : c.loop-place.place ≡ length (posts_embedded content.body) = omega
    (arith, ap (λ (p : List (List ℕ)). length p) c.posts_embedded-posts.ensures) in
    ap (fault_as (λ (bad : BadPost). bad.place)) (embeds-all roster c.args.round content c.loop-place.log c.loop-place.place span
    c.loop-place.invariant end).1

pub returns-clause-keeps : goal.returns-clause-keeps
returns-clause-keeps c =
    let roster : Roster = roster_of c.args.roster.now in
    let content : Content = c.args.content.now in
    let span = spans (shape_of_roster roster) content c.requires.grammar c.requires.closing in
    let end : c.loop-place.place ≡ length (posts_embedded content.body) = omega
    (arith, ap (λ (p : List (List ℕ)). length p) c.posts_embedded-posts.ensures) in
    (embeds-all roster c.args.round content c.loop-place.log c.loop-place.place span c.loop-place.invariant end).0
