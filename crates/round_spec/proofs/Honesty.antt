-- What a member keeps reads in its slots, and when the run that deliveries make is honest.
use Rattle.std.proofs.Common.{◌≡◌, ℕ, zero, suc, ◌<◌, ◌≤◌, true, List, length, get_or, map, take, Option, Some, None, Result, Ok, ap, sym, ◌∙◌, refl, subst, arith, inl, inr}
use Rattle.std.specs.Prelude.{◌==◌, All, IfSome, slice_index_or, option_map}
use Rattle.std.specs.List.{slice_get}
use Rattle.std.proofs.lemmas.Bool.{cases_Bool, cases_lt, cond-false, eqb-true}
use Rattle.std.proofs.lemmas.List.{length-map, length-take-le}
use Rattle.std.proofs.lemmas.List.Elements.{All-take}
use Rattle.std.proofs.lemmas.Option.{get_or_from_slice_get, none-some, slice_get-get_or, slice_get-map, slice_get_within}
use Rattle.wire_core.specs.Bytes.{IsBytes}
use Rattle.phase_message.specs.declared.content.Content.{Content}
use Rattle.phase_message.specs.declared.offence.Offence.{Offence}
use Rattle.phase_message.specs.declared.post.Post.{Post}
use Rattle.phase_message.specs.declared.stage.Slot.{Slot}
use Rattle.phase_message.specs.Offence.{content_read}
use Rattle.phase_message.specs.Shape.{IsShape, Shape}
use Rattle.phase_message.specs.Slots.{slot_at, slot_count, slots_before, slots_of}
use Rattle.phase_message.specs.Stages.{is_slot}
use Rattle.phase_message.proofs.SlotLists.{length-slots_of, slot_at-is, slot_number-within, slots_before-most, slots_before-rises}
use Rattle.signed_post.specs.Admission.{Admitted}
use Rattle.stage_log.specs.Log.{before}
use Rattle.stage_log.specs.Table.{IsKept, Log, kept_in}
use Rattle.stage_log.proofs.Pasts.{all_some-is}
use Rattle.round_spec.specs.Embedded.{slot_named}
use Rattle.round_spec.specs.Say.{Configuration, shape_in}
use Rattle.round_spec.specs.Verdict.{Verdict}
use Rattle.round_spec.specs.Course.{Others, course_of, own_post_at, post_settled, settled_log}
use Rattle.round_spec.specs.Reached.{NameSlots}
use Rattle.round_spec.specs.Result.{counted_part, delivered_counted, first_posts, least_ending, log_after}
use Rattle.round_spec.specs.OwnRows.{CanSay}
use Rattle.round_spec.specs.Runs.{CanEnter, ChecksIn, HasNumber, IsConfiguration, IsOwnPost, ReadsIn, Sent, own_slot}
use Rattle.round_spec.specs.Settled.{settled_run}
use Rattle.round_spec.specs.Honesty.{OthersCheck, OwnPostsCheck, OwnPostsRead, RunAfterIsHonest, SettledIsLog, SettledPostsRead, SettledRunIsHonest, UnforgedIsSaid}
use Rattle.round_spec.proofs.Beginnings.{shape-is}
use Rattle.round_spec.proofs.Given.{first_posts_delivered}
use Rattle.round_spec.proofs.OwnChecks.{own_post_checks, own_post_reads}
use Rattle.round_spec.proofs.OwnLengths.{take-get}
use Rattle.round_spec.proofs.PastForms.{checks-read}
use Rattle.round_spec.proofs.Rows.{checks-parts}
use Rattle.round_spec.proofs.Settling.{own_posts_settled, settled-kept}

-- what reads in a slot can be kept
read-kept : (c : Configuration) (slot : Slot) (post : Post) → ReadsIn c slot post → IsKept post.content
read-kept c slot post is =
    let least = is.frame.least in
    let most = is.frame.most in
    record { least = least; most = omega arith }

content-same : (a b : Content) (r : Result Content Offence) → r ≡ Ok a → r ≡ Ok b → a ≡ b
content-same a b r e e' = let both = sym e ∙ e' in cc

checks-name : (c : Configuration) (others : Others) → OthersCheck c others → NameSlots c others
checks-name c others check slot post content e reads =
    let is = check slot post e in
    let parts = checks-parts c.roster c.round post is.content is.checks in
    ap (λ (x : Content). slot_named x.header) (content-same content is.content (content_read (shape_in c) post.content) reads parts.2)
    ∙ is.named

-- a kept post is of a slot of the round
kept-speaks : (c : Configuration) (others : Others) (slot : Slot) (post : Post) → kept_in (settled_log c others) slot ≡ Some post
    → is_slot (shape_in c) slot.stage slot.sender ≡ true
unfolding settled_log
kept-speaks c others slot post e = elim (cases_Bool (is_slot (shape_in c) slot.stage slot.sender)) [
  | inl speaks ↦ speaks
  | inr silent ↦ absurd (none-some post (sym (cond-false (is_slot (shape_in c) slot.stage slot.sender) _ None silent) ∙ e))
]

pub members-least : (c : Configuration) → CanEnter c → 1 ≤ (shape_in c).members
members-least c is = (let least = is.roster.least in omega arith)

-- what holds of the others' posts in their slots holds of each kept post, if it does of the own post of its stage
kept-if-own : (c : Configuration) (others : Others) (P : Slot → Post → Type 0) (slot : Slot) (post : Post) → CanEnter c
    → OthersCheck c others
    → (others slot ≡ Some post → P slot post)
    → (is_slot (shape_in c) slot.stage c.number ≡ true → IsOwnPost (settled_run c others) slot.stage post
    → P (own_slot (settled_run c others) slot.stage) post)
    → kept_in (settled_log c others) slot ≡ Some post → P slot post
unfolding post_settled
kept-if-own c others P slot post is check other_is own_is e = elim (cases_Bool (slot.sender == c.number)) [
  | inl own ↦
      let number : slot.sender ≡ c.number = eqb-true slot.sender c.number own in
      let slot_is : slot ≡ own_slot (settled_run c others) slot.stage = ap (λ (s : ℕ). record { stage = slot.stage; sender = s }) number in
      let speaks_own : is_slot (shape_in c) slot.stage c.number ≡ true = sym (ap (λ (s : ℕ). is_slot (shape_in c) slot.stage s) number)
      ∙ kept-speaks c others slot post e in
      let kept_own : kept_in (settled_log c others) (own_slot (settled_run c others) slot.stage) ≡ Some post = sym
      (ap (kept_in (settled_log c others)) slot_is) ∙ e in
      let own_post_is = (own_posts_settled c others slot.stage post is.round (members-least c is) (checks-name c others check) speaks_own).0
      kept_own in
      subst (λ (s : Slot). P s post) (sym slot_is) (own_is speaks_own own_post_is)
  | inr other ↦ other_is (sym (cond-false (slot.sender == c.number) (own_post_at c (course_of c others) slot.stage) (others slot) other)
      ∙ sym (settled-kept c others slot (kept-speaks c others slot post e)) ∙ e)
]

shape-of : (c : Configuration) (others : Others) → CanEnter c → IsShape (settled_log c others).shape.version
    (settled_log c others).shape.members
unfolding settled_log
shape-of c others is = shape-is c is

shape-same : (c : Configuration) (others : Others) → (settled_log c others).shape ≡ shape_in c
unfolding settled_log
shape-same c others = refl

places-of : (c : Configuration) (others : Others) → length (settled_log c others).posts ≡ slot_count (settled_log c others).shape
unfolding settled_log
places-of c others = length-map (slots_of (shape_in c)) (post_settled c others (course_of c others)) ∙ length-slots_of (shape_in c)

slot-there : (c : Configuration) (others : Others) (k : ℕ) → k < length (settled_log c others).posts
    → slice_get (slots_of (shape_in c)) k ≡ None → ⊥
unfolding settled_log
slot-there c others k lt e =
    let any : Slot = record { stage = 0; sender = 0 } in
    let within : k < length (slots_of (shape_in c)) = omega (
      arith,
      length-map (slots_of (shape_in c))
          (post_settled c others (course_of c others)),
    ) in
    none-some (get_or (slots_of (shape_in c)) k any) (sym e ∙ slice_get-get_or (slots_of (shape_in c)) k any within)

place-is : (c : Configuration) (others : Others) (k : ℕ) (d : Option Post) (slot : Slot) → slice_get (slots_of (shape_in c)) k ≡ Some slot
    → slice_index_or (settled_log c others).posts k d ≡ post_settled c others (course_of c others) slot
unfolding settled_log
place-is c others k d slot e =
    get_or_from_slice_get (map (post_settled c others (course_of c others)) (slots_of (shape_in c))) k
    (post_settled c others (course_of c others) slot) d
    (slice_get-map (post_settled c others (course_of c others)) (slots_of (shape_in c)) k
    ∙ ap (option_map (post_settled c others (course_of c others))) e)

kept-if : (o : Option Post) → ((post : Post) → o ≡ Some post → IsKept post.content) → IfSome o (λ (post : Post). IsKept post.content)
kept-if None each = tt
kept-if (Some post) each = each post refl

-- ---- own posts

-- what stands at a number of the past of the log is what the log keeps in its slot
past-kept : (c : Configuration) (others : Others) (stage number : ℕ) (past : List Post) (slot : Slot) (post : Post)
    → before (settled_log c others) stage ≡ Some past
    → slot_at (shape_in c) number ≡ Some slot → slice_get past number ≡ Some post → kept_in (settled_log c others) slot ≡ Some post
past-kept c others stage number past slot post e at stands =
    let log : Log = settled_log c others in
    let n : ℕ = slots_before log.shape stage in
    let all : take n log.posts ≡ map (λ x. Some x) past = all_some-is (take n log.posts) past e in
    let there : slice_get (take n log.posts) number ≡ Some (Some post) =
    ap (λ (xs : List (Option Post)). slice_get xs number) all ∙ slice_get-map (λ x. Some x) past number
    ∙ ap (option_map (λ x. Some x)) stands in
    let found = take-get log.posts n number (Some post) there in
    let place = place-is c others number None slot at in
    settled-kept c others slot (slot_at-is (shape_in c) number slot at).0 ∙ sym place
    ∙ get_or_from_slice_get log.posts number (Some post) None found.1

past-length : (c : Configuration) (others : Others) (stage : ℕ) (past : List Post) → before (settled_log c others) stage ≡ Some past
    → length past ≡ slots_before (shape_in c) stage
past-length c others stage past e =
    let log : Log = settled_log c others in
    let n : ℕ = slots_before log.shape stage in
    let all : take n log.posts ≡ map (λ x. Some x) past = all_some-is (take n log.posts) past e in
    let shape = ap (λ (s : Shape). slots_before s stage) (shape-same c others) in
    sym (length-map past (λ x. Some x)) ∙ ap length (sym all) ∙ length-take-le n log.posts
    (omega (arith, places-of c others, slots_before-most log.shape stage)) ∙ shape

-- a slot of the past is of an earlier stage
earlier-slot : (shape : Shape) (stage number : ℕ) (slot : Slot) → slot_at shape number ≡ Some slot → number < slots_before shape stage
    → slot.stage < stage
earlier-slot shape stage number slot at lt =
    let there = slot_at-is shape number slot at in
    let within = (slot_number-within shape slot.stage slot.sender there.0).0 in
    let number_is = there.1 in
    elim (cases_lt slot.stage stage) [
      | inl earlier ↦ earlier
      | inr later ↦ absurd (omega (arith, within, number_is, lt, slots_before-rises shape stage slot.stage later))
    ]

-- the own posts read, stage by stage
own-reads : (c : Configuration) (others : Others) (bound stage : ℕ) (post : Post) → CanEnter c → OthersCheck c others → stage < bound
    → is_slot (shape_in c) stage c.number ≡ true
    → IsOwnPost (settled_run c others) stage post → ReadsIn c (own_slot (settled_run c others) stage) post
own-reads c others zero stage post is check lt speaks own = absurd (omega (arith, lt))
own-reads c others (suc bound) stage post is check lt speaks own =
    let length_is = past-length c others stage own.past own.before in
    let can : CanSay c stage own.past = record {
      enter = is;
      speaks = speaks;
      past_is = record {
        whole = length_is;
        reads = λ number slot kept at stands. (
            let within = slice_get_within own.past number kept stands in
            let earlier = earlier-slot (shape_in c) stage number slot at (omega (arith, within, length_is)) in
            kept-if-own c others (ReadsIn c) slot kept is check (λ other. checks-read c slot kept (check slot kept other))
            (λ speaks_there own_there. own-reads c others bound slot.stage kept is check (omega (arith, earlier, lt)) speaks_there
            own_there)
            (past-kept c others stage number own.past slot kept own.before at stands));
      };
    } in
    subst (ReadsIn c (own_slot (settled_run c others) stage)) (sym own.said) (own_post_reads c stage own.past can own.goes)

pub own_posts_read : OwnPostsRead
own_posts_read c others is check stage post speaks own = own-reads c others (suc stage) stage post is check (omega arith) speaks own

pub settled_posts_read : SettledPostsRead
settled_posts_read c others is check slot post e =
    kept-if-own c others (ReadsIn c) slot post is check (λ other. checks-read c slot post (check slot post other))
    (λ speaks own. own_posts_read c others is check slot.stage post speaks own) e

-- a member can say what it has to say at a stage over what its log keeps before it
own-can : (c : Configuration) (others : Others) (stage : ℕ) (post : Post) → CanEnter c → OthersCheck c others
    → is_slot (shape_in c) stage c.number ≡ true
    → (own : IsOwnPost (settled_run c others) stage post) → CanSay c stage own.past
own-can c others stage post is check speaks own = record {
  enter = is;
  speaks = speaks;
  past_is = record {
    whole = past-length c others stage own.past own.before;
    reads = λ number slot kept at stands. settled_posts_read c others is check slot kept
        (past-kept c others stage number own.past slot kept own.before at stands);
  };
}

pub own_posts_check : OwnPostsCheck
own_posts_check c others is check stage post speaks own =
    subst (ChecksIn c (own_slot (settled_run c others) stage)) (sym own.said)
    (own_post_checks c stage own.past is (own-can c others stage post is.enter check speaks own) own.goes)

kept-checks : (c : Configuration) (others : Others) (slot : Slot) (post : Post) → IsConfiguration c → OthersCheck c others
    → kept_in (settled_log c others) slot ≡ Some post → ChecksIn c slot post
kept-checks c others slot post is check e =
    kept-if-own c others (ChecksIn c) slot post is.enter check (check slot post)
    (λ speaks own. own_posts_check c others is check slot.stage post speaks own) e

-- ---- honest runs

pub settled_is_log : SettledIsLog
settled_is_log c others is check = record {
  shape = shape-of c others is;
  places = places-of c others;
  contents = λ k d lt. each k d lt
      (slice_get (slots_of (shape_in c)) k) refl;
}
  where
    each : (k : ℕ) (d : Option Post) → k < length (settled_log c others).posts → (o : Option Slot) → slice_get (slots_of (shape_in c)) k ≡ o
        → IfSome (slice_index_or (settled_log c others).posts k d) (λ (post : Post). IsKept post.content)
    each k d lt None e = absurd (slot-there c others k lt e)
    each k d lt (Some slot) e =
        let at = slot_at-is (shape_in c) k slot e in
        let there = place-is c others k d slot e in
        subst (λ (o : Option Post). IfSome o (λ (post : Post). IsKept post.content)) (sym (there ∙ sym (settled-kept c others slot at.0)))
        (kept-if (kept_in (settled_log c others) slot) (λ post kept. read-kept c slot post
        (settled_posts_read c others is check slot post kept)))

pub settled_run_is_honest : SettledRunIsHonest
settled_run_is_honest c others is check = record {
  config = is;
  log = settled_is_log c others is.enter check;
  shape = shape-same c others;
  posts = λ slot post e. kept-checks c others slot post is check e;
  own = λ stage post e. (own_posts_settled c others stage post is.enter.round (members-least c is.enter) (checks-name c others check)
      (kept-speaks c others (own_slot (settled_run c others) stage) post e)).0 e;
}

-- the deliveries that count are bytes
counted-bytes : (c : Configuration) (delivered : List (List ℕ)) → All IsBytes delivered → All IsBytes (delivered_counted c delivered)
counted-bytes c delivered all = by_least (least_ending c delivered)
  where
    by_least : (o : Option (ℕ × Verdict)) → All IsBytes (counted_part delivered o)
    by_least None = all
    by_least (Some ending) = All-take IsBytes ending.0 delivered all

pub run_after_is_honest : RunAfterIsHonest
unfolding log_after
run_after_is_honest c delivered is all =
    settled_run_is_honest c (first_posts c (delivered_counted c delivered)) is
    (λ slot post e. (first_posts_delivered c (delivered_counted c delivered) slot post (counted-bytes c delivered all) e).checks)

pub unforged_is_said : UnforgedIsSaid
unforged_is_said roster runs number round posts unforged numbered bytes post header listed spelled admitted sender_is =
    let own_round : Admitted roster header.round post header = subst (λ (r : ℕ). Admitted roster r post header) (sym admitted.this_round)
    admitted in
    let has : HasNumber runs header.sender = (numbered.0, numbered.1, numbered.2 ∙ sym sender_is) in
    subst (λ (n : ℕ). Sent runs n post.content) sender_is (unforged bytes post header (inl listed) spelled own_round has)
