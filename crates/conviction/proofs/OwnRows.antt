-- What stands in the own slots of a past.
use Rattle.std.proofs.Common.{◌≡◌, ℕ, zero, suc, ◌+◌, ◌<◌, ◌≤◌, true, List, [], length, take, Option, Some, ap, sym, ◌∙◌, subst, arith, rules, inl, inr}
use Rattle.std.specs.Prelude.{Contains, option_map, slice_index_or}
use Rattle.std.specs.List.{slice_get, range_with_len}
use Rattle.std.proofs.lemmas.Bool.{cases_lt}
use Rattle.std.proofs.lemmas.List.{take-map}
use Rattle.std.proofs.lemmas.Option.{get_or_from_slice_get, none-some, option_and_then_some, slice_get-map, slice_get_within}
use Rattle.std.proofs.lemmas.Slice.Eq.{bytes_eq-Decides}
use Rattle.phase_message.specs.declared.content.Content.{Content}
use Rattle.phase_message.specs.declared.header.Header.{Header}
use Rattle.phase_message.specs.declared.post.Post.{Post}
use Rattle.phase_message.specs.declared.stage.Slot.{Slot}
use Rattle.phase_message.specs.Offence.{content_read}
use Rattle.phase_message.specs.Shape.{Shape}
use Rattle.phase_message.specs.Slots.{slot_at, slot_number, slots_before, stage_count}
use Rattle.phase_message.specs.Stages.{is_member, is_slot}
use Rattle.lms_tree.specs.declared.keys.LmsPublic.{LmsPublic}
use Rattle.lms_tree.specs.Secret.{own_public}
use Rattle.group_roster.specs.Roster.{Roster, key_of}
use Rattle.phase_message.proofs.SlotBounds.{slot-bounds}
use Rattle.phase_message.proofs.SlotLists.{slot_at-number, slot_number-within, slots_before-rises}
use Rattle.stage_log.specs.Log.{before, contents_of, has_view, is_carried, is_right, view_of}
use Rattle.stage_log.specs.Table.{kept_in}
use Rattle.stage_log.proofs.Fronts.{view_of-take}
use Rattle.shuffle_blame.specs.Replay.{body_of}
use Rattle.round_spec.specs.Say.{Configuration, shape_in}
use Rattle.round_spec.specs.Rows.{IsOwnRow}
use Rattle.round_spec.specs.Runs.{HonestRun, IsConfiguration, Run, own_slot, posts_said, sent}
use Rattle.round_spec.proofs.Contained.{contains-filter_map-from, contains-map-from}
use Rattle.round_spec.proofs.Rows.{checks-parts, own_row, row_past}
use Rattle.conviction.proofs.Bodies.{contents-same, row-header, row-reads}
use Rattle.conviction.proofs.Pasts.{past-kept, there}
use Rattle.conviction.proofs.Closings.{is-past}

-- ---- the own number

-- a member's number is one of the roster
number-within : (roster : Roster) (number : ℕ) (key : LmsPublic) → key_of roster number ≡ Some key
    → is_member (length roster.keys) number ≡ true
number-within roster zero key e = absurd (none-some key e)
number-within roster (suc k) key e = option_and_then_some _ (slice_get roster.keys k) key e (λ bytes there found. (
    let lt = slice_get_within roster.keys k bytes there in
    within lt))
  where
    within : k < length roster.keys → is_member (length roster.keys) (suc k) ≡ true
    within lt = search rules

-- a member says its keys
pub own-speaks : (c : Configuration) → IsConfiguration c → is_slot (shape_in c) 0 c.number ≡ true
own-speaks c is = number-within c.roster c.number (own_public c.key) is.key

-- ---- own slots

-- what the member said at an earlier stage
pub record OwnSaid (run : Run) (posts : List Post) (stage : ℕ) : Type 0 where
  pub text : List ℕ
  pub row : IsOwnRow run text
  pub at : row.stage ≡ stage
  pub stands : slice_get (contents_of posts) (slot_number (shape_in run.config) stage run.config.number) ≡ Some text
  pub front : row.past ≡ take (slots_before (shape_in run.config) stage) posts

pub in-range : (a n k : ℕ) → a ≤ k → k < a + n → Contains (range_with_len a n) k
in-range a zero k le lt = absurd (omega arith)
in-range a (suc n) k le lt = elim (cases_lt a k) [
  | inl below ↦ (let more = in-range (a + 1) n k (omega arith) (omega arith) in (suc more.0, omega (arith, more.1), more.2))
  | inr not_below ↦ (let same : a ≡ k = omega arith in (0, omega arith, same))
]

-- what is kept in an own slot was sent
kept-sent : (run : Run) (stage : ℕ) (post : Post) → stage < stage_count run.log.shape → kept_in run.log (own_slot run stage) ≡ Some post
    → Contains (sent run) post.content
unfolding sent
kept-sent run stage post lt kept =
    contains-map-from (λ (p : Post). p.content) (posts_said run) post
    (contains-filter_map-from (λ s. kept_in run.log (own_slot run s)) (range_with_len 0 (stage_count run.log.shape)) stage post
    (in-range 0 (stage_count run.log.shape) stage (omega arith) (omega (arith, lt))) kept)

some-slot : (a b : Slot) → (let told : Slot → Option Slot = λ z. Some z in told a ≡ told b) → a ≡ b
some-slot a b e = cc

pub own-said : (run : Run) (later stage : ℕ) (posts : List Post) → HonestRun run → before run.log later ≡ Some posts
    → is_slot (shape_in run.config) stage run.config.number ≡ true → stage < later
    → OwnSaid run posts stage
own-said run later stage posts honest kept speaks lt =
    let shape = shape_in run.config in
    let number : ℕ = slot_number shape stage run.config.number in
    let long = (is-past run later posts honest kept).long in
    let within = (slot_number-within shape stage run.config.number speaks).1 in
    let found = there posts number (omega (arith, long, within, slots_before-rises shape (stage + 1) later (omega arith))) in
    let is = past-kept run.log later number posts found.0 honest.log kept found.1 in
    let slot : is.slot ≡ own_slot run stage =
    some-slot is.slot (own_slot run stage) (sym is.at ∙ ap (λ (s : Shape). slot_at s number) honest.shape
    ∙ slot_at-number shape stage run.config.number speaks) in
    let here : kept_in run.log (own_slot run stage) ≡ Some found.0 = subst (λ (s : Slot). kept_in run.log s ≡ Some found.0) slot is.kept in
    told found.0 found.1 here
  where
    told : (post : Post) → slice_get posts (slot_number (shape_in run.config) stage run.config.number) ≡ Some post
        → kept_in run.log (own_slot run stage) ≡ Some post → OwnSaid run posts stage
    told post at here =
        let bound : stage < stage_count run.log.shape =
        (let few = (slot-bounds (shape_in run.config) stage run.config.number speaks).0 in omega
        (arith, few, ap (λ (s : Shape). s.members) honest.shape)) in
        let row = own_row run post.content honest (kept-sent run stage post bound here) in
        let checks = honest.posts (own_slot run stage) post here in
        let parts = checks-parts run.config.roster run.config.round post checks.content checks.checks in
        let same = contents-same row.read checks.content (content_read (shape_in run.config) post.content) (row-reads run post.content row)
        parts.2 in
        let stage_is : row.stage ≡ stage =
        ap (λ (h : Header). h.stage) (sym (row-header run post.content row)) ∙ ap (λ (c : Content). c.header.stage) same
        ∙ ap (λ (s : Slot). s.stage) checks.named in
        let shape_is = honest.shape in
        record {
          text = post.content;
          row = row;
          at = stage_is;
          stands = slice_get-map (λ (p : Post). p.content) posts _ ∙ ap (option_map (λ (p : Post). p.content)) at;
          front = row_past run stage later row.past posts (omega arith)
              (subst (λ (s : ℕ). before run.log s ≡ Some row.past) stage_is row.before) kept
              ∙ ap (λ (s : Shape). take (slots_before s stage) posts) shape_is;
        }

-- the body that stands in an own slot is that of the row
pub own-body : (run : Run) (posts : List Post) (stage : ℕ) (own : OwnSaid run posts stage)
    → body_of (content_read (shape_in run.config) (slice_index_or (contents_of posts)
    (slot_number (shape_in run.config) stage run.config.number) [])) ≡ own.row.read.body
own-body run posts stage own =
    ap (λ (bytes : List ℕ). body_of (content_read (shape_in run.config) bytes))
    (get_or_from_slice_get (contents_of posts) _ own.text [] own.stands)
    ∙ ap body_of (row-reads run own.text own.row)

-- and it carries the view of its stage
pub own-right : (run : Run) (posts : List Post) (stage : ℕ) → OwnSaid run posts stage
    → is_right (shape_in run.config) (contents_of posts) (own_slot run stage) ≡ true
own-right run posts stage own =
    let shape = shape_in run.config in
    let view : List ℕ = view_of shape (contents_of posts) stage in
    let n : ℕ = slots_before shape stage in
    let front : contents_of own.row.past ≡ take n (contents_of posts) = ap contents_of own.front
    ∙ sym (take-map (λ (p : Post). p.content) n posts) in
    let same : view_of shape (contents_of own.row.past) own.row.stage ≡ view =
    ap (view_of shape (contents_of own.row.past)) own.at ∙ ap (λ (past : List (List ℕ)). view_of shape past stage) front
    ∙ view_of-take shape (contents_of posts) stage stage (omega arith) in
    ap (is_carried view) own.stands
    ∙ ap (has_view view) own.row.header
    ∙ (bytes_eq-Decides (view_of shape (contents_of own.row.past) own.row.stage) view).1 same
