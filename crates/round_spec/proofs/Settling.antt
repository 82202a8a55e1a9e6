-- The log that a member keeps.
use Rattle.std.proofs.Common.{◌≡◌, ◌⊎◌, ℕ, zero, suc, ◌+◌, ◌-◌, ◌<◌, ◌≤◌, true, false, List, length, get_or, map, take, drop, Option, Some, None, ap, sym, ◌∙◌, refl, arith, inl, inr}
use Rattle.std.specs.Prelude.{◌&&◌, ◌==◌, nat_lt, option_map, option_and_then, if◌then◌else◌}
use Rattle.std.specs.List.{slice_get}
use Rattle.std.specs.Option.{option_flatten}
use Rattle.std.proofs.lemmas.Bool.{and_from, and_parts, cases_Bool, cases_lt, cond-false, cond-true, eq-eqb, eqb-true, ltb-true, lt-ltb, or_cases, or_left, or_right}
use Rattle.std.proofs.lemmas.List.{ext_get_or, get_or-drop, get_or-take, length-drop, length-map, length-take-le, take-take, take_all}
use Rattle.std.proofs.lemmas.Option.{get_or_from_slice_get, none-some, slice_get-get_or, slice_get-map}
use Rattle.phase_message.specs.declared.post.Post.{Post}
use Rattle.phase_message.specs.declared.stage.Slot.{Slot}
use Rattle.phase_message.specs.declared.stage.StageKind.{StageKind}
use Rattle.phase_message.specs.Slots.{senders_in, senders_of, slot_number, slots_before, slots_of, stage_count}
use Rattle.phase_message.specs.Stages.{is_slot, kind_of_stage}
use Rattle.phase_message.proofs.Counts.{slots_next}
use Rattle.phase_message.proofs.SlotLists.{length-senders_in, length-slots_of, slot_at-is, slot_at-number, slot_at-place, slot_number-within, slots_before-most, slots_before-rises}
use Rattle.stage_log.specs.Log.{all_some, before}
use Rattle.stage_log.specs.Table.{kept_in}
use Rattle.stage_log.proofs.Fronts.{before-front}
use Rattle.stage_log.proofs.Pasts.{all_some-is, all_some-map}
use Rattle.stage_log.proofs.Views.{slice_get-take}
use Rattle.round_spec.specs.Say.{Configuration, own_post, shape_in}
use Rattle.round_spec.specs.Verdict.{Goes, no_post, verdict_of}
use Rattle.round_spec.specs.Course.{Others, Stand, closing_of, course_of, has_spoken, is_open, own_post_at, post_of, post_settled, posts_before_stage, posts_of_kind, settled_log, stage_filled}
use Rattle.round_spec.specs.Reached.{IsReached, IsStopped, post_due}
use Rattle.round_spec.specs.Runs.{AllGo, IsOwnPost, own_slot}
use Rattle.round_spec.specs.Settled.{OwnPostsSettled, settled_run}
use Rattle.round_spec.proofs.Reached.{open-goes, stands_are_reached}
use Rattle.round_spec.proofs.Stopping.{course_stops}

-- ---- what is kept in a slot

pub settled-kept : (c : Configuration) (others : Others) (slot : Slot) → is_slot (shape_in c) slot.stage slot.sender ≡ true
    → kept_in (settled_log c others) slot ≡ post_settled c others (course_of c others) slot
unfolding settled_log
settled-kept c others slot speaks =
    let shape = shape_in c in
    let f = post_settled c others (course_of c others) in
    let number : ℕ = slot_number shape slot.stage slot.sender in
    cond-true (is_slot shape slot.stage slot.sender) (option_flatten
    (slice_get (map (post_settled c others (course_of c others)) (slots_of shape)) number)) None speaks
    ∙ ap (λ (o : Option (Option Post)). option_flatten o) (slice_get-map (post_settled c others (course_of c others)) (slots_of shape)
    number ∙ ap (option_map (post_settled c others (course_of c others))) (slot_at-number shape slot.stage slot.sender speaks))

-- the own post of a stage that the member has spoken at
spoken : (c : Configuration) (stand : Stand) (stage : ℕ) → has_spoken c stand stage ≡ true
    → own_post_at c stand stage ≡ Some (own_post c (posts_before_stage c stand stage) stage)
spoken c stand stage e = cond-true (has_spoken c stand stage) (Some (own_post c (posts_before_stage c stand stage) stage)) None e

spoken-passed : (c : Configuration) (stand : Stand) (stage : ℕ) → is_slot (shape_in c) stage c.number ≡ true → stage < stand.at
    → has_spoken c stand stage ≡ true
spoken-passed c stand stage speaks lt = and_from _ _ speaks (or_left (nat_lt stage stand.at) _ (lt-ltb stage stand.at lt))

spoken-now : (c : Configuration) (stand : Stand) (stage : ℕ) → is_slot (shape_in c) stage c.number ≡ true → is_open stand.verdict ≡ true
    → stage ≡ stand.at → has_spoken c stand stage ≡ true
spoken-now c stand stage speaks still same = and_from _ _ speaks
    (or_right (nat_lt stage stand.at) _ (and_from _ _ still (eq-eqb stage stand.at same)))

-- in a stage that was passed it is what stands in the past
settled-passed : (c : Configuration) (others : Others) (stand : Stand) (stage sender : ℕ) → IsReached c others stand
    → is_slot (shape_in c) stage sender ≡ true → stage < stand.at
    → post_settled c others stand (record { stage = stage; sender = sender }) ≡ slice_get stand.past (slot_number (shape_in c) stage sender)
unfolding post_settled
settled-passed c others stand stage sender is speaks lt = by_sender (cases_Bool (sender == c.number))
    ∙ sym (is.posts stage sender speaks lt)
  where
    slot : Slot
    slot = record { stage = stage; sender = sender }

    by_sender : (sender == c.number ≡ true) ⊎ (sender == c.number ≡ false)
        → (if sender == c.number then own_post_at c stand stage else others slot) ≡ post_due c others stand.past stage sender
    by_sender (inl own) =
        let number = eqb-true sender c.number own in
        cond-true (sender == c.number) (own_post_at c stand stage) (others slot) own
        ∙ spoken c stand stage (spoken-passed c stand stage (sym (ap (λ (s : ℕ). is_slot (shape_in c) stage s) number) ∙ speaks) lt)
        ∙ sym (cond-true (sender == c.number) (Some (own_post c (take (slots_before (shape_in c) stage) stand.past) stage)) (others slot)
        own)
    by_sender (inr other) =
        cond-false (sender == c.number) (own_post_at c stand stage) (others slot) other
        ∙ sym (cond-false (sender == c.number) (Some (own_post c (take (slots_before (shape_in c) stage) stand.past) stage)) (others slot)
        other)

-- in the stage that is being filled it is what would fill it
pub settled-now : (c : Configuration) (others : Others) (stand : Stand) (sender : ℕ) → IsReached c others stand
    → is_open stand.verdict ≡ true → is_slot (shape_in c) stand.at sender ≡ true
    → post_settled c others stand (record { stage = stand.at; sender = sender }) ≡ post_of c others stand sender
unfolding post_settled
settled-now c others stand sender is still speaks = by_sender (cases_Bool (sender == c.number))
  where
    slot : Slot
    slot = record { stage = stand.at; sender = sender }

    by_sender : (sender == c.number ≡ true) ⊎ (sender == c.number ≡ false)
        → (if sender == c.number then own_post_at c stand stand.at else others slot) ≡ post_of c others stand sender
    by_sender (inl own) =
        let number = eqb-true sender c.number own in
        cond-true (sender == c.number) (own_post_at c stand stand.at) (others slot) own
        ∙ spoken c stand stand.at (spoken-now c stand stand.at (sym (ap (λ (s : ℕ). is_slot (shape_in c) stand.at s) number) ∙ speaks) still
        refl)
        ∙ ap (λ (past : List Post). Some (own_post c past stand.at))
        (take_all (slots_before (shape_in c) stand.at) stand.past (omega (arith, is.whole)))
        ∙ sym (cond-true (sender == c.number) (Some (own_post c stand.past stand.at)) (others slot) own)
    by_sender (inr other) =
        cond-false (sender == c.number) (own_post_at c stand stand.at) (others slot) other
        ∙ sym (cond-false (sender == c.number) (Some (own_post c stand.past stand.at)) (others slot) other)

-- ---- what is there before a stage

absent : (slots : List Slot) (i : ℕ) → i < length slots → slice_get slots i ≡ None → ⊥
absent slots i lt e = none-some (get_or slots i any) (sym e ∙ slice_get-get_or slots i any lt)
  where
    any : Slot
    any = record { stage = 0; sender = 0 }

-- the place of a slot that was passed
place-settled : (c : Configuration) (others : Others) (stand : Stand) (i : ℕ) → IsReached c others stand
    → i < slots_before (shape_in c) stand.at
    → get_or (map (post_settled c others stand) (slots_of (shape_in c))) i None ≡ slice_get stand.past i
place-settled c others stand i is lt = by_slot (slice_get (slots_of (shape_in c)) i) refl
  where
    by_slot : (o : Option Slot) → slice_get (slots_of (shape_in c)) i ≡ o
        → get_or (map (post_settled c others stand) (slots_of (shape_in c))) i None ≡ slice_get stand.past i
    by_slot None e = absurd (absent (slots_of (shape_in c)) i (let most = slots_before-most (shape_in c) stand.at in omega
        (arith, length-slots_of (shape_in c))) e)
    by_slot (Some slot) e =
        let at = slot_at-is (shape_in c) i slot e in
        let number = at.1 in
        let within = slot_number-within (shape_in c) slot.stage slot.sender at.0 in
        let first = within.0 in
        let earlier : slot.stage < stand.at = elim (cases_lt slot.stage stand.at) [
          | inl before ↦ before
          | inr later ↦ (let rises = slots_before-rises (shape_in c) stand.at slot.stage later in absurd (omega (arith, number)))
        ] in
        get_or_from_slice_get (map (post_settled c others stand) (slots_of (shape_in c))) i (post_settled c others stand slot) None
        (slice_get-map (post_settled c others stand) (slots_of (shape_in c)) i ∙ ap (option_map (post_settled c others stand)) e)
        ∙ settled-passed c others stand slot.stage slot.sender is at.0 earlier ∙ ap (slice_get stand.past) number

pub before-settled : (c : Configuration) (others : Others) (stage : ℕ) → IsReached c others (course_of c others)
    → stage ≤ (course_of c others).at
    → before (settled_log c others) stage ≡ Some (take (slots_before (shape_in c) stage) (course_of c others).past)
unfolding settled_log
before-settled c others stage is le =
    let stand : Stand = course_of c others in
    let n : ℕ = slots_before (shape_in c) stage in
    let rises = slots_before-rises (shape_in c) stage stand.at le in
    let most = slots_before-most (shape_in c) stage in
    let whole = is.whole in
    let kept : List (Option Post) = map (post_settled c others stand) (slots_of (shape_in c)) in
    let long : n ≤ length kept = omega (
      arith,
      length-map (slots_of (shape_in c)) (post_settled c others stand),
      length-slots_of
          (shape_in c),
    ) in
    let here : length (take n kept) ≡ n = length-take-le n kept long in
    let front : length (take n stand.past) ≡ n = length-take-le n stand.past (omega arith) in
    let same : take n kept ≡ map (λ post. Some post) (take n stand.past) = ext_get_or None (take n kept)
    (map (λ post. Some post) (take n stand.past))
    (here ∙ sym (length-map (take n stand.past) (λ (post : Post). Some post) ∙ front)) (λ i lt.
    let few : i < n = omega (arith, here) in
    let there = slice_get-get_or stand.past i no_post (omega arith) in
    get_or-take n kept i None few ∙ place-settled c others stand i is (omega arith) ∙ there
    ∙ sym (get_or_from_slice_get (map (λ post. Some post) (take n stand.past)) i (Some (get_or stand.past i no_post)) None
    (slice_get-map (λ (post : Post). Some post) (take n stand.past) i
    ∙ ap (option_map (λ (post : Post). Some post)) (slice_get-take stand.past n i few ∙ there)))) in
    ap all_some same ∙ all_some-map (take n stand.past)

-- ---- an open round has not passed the stage where it waits

post-there : (kept : List (Option Post)) (n i : ℕ) (posts : List Post) → take n kept ≡ map (λ post. Some post) posts → i < n
    → n ≤ length kept → get_or kept i None ≡ Some (get_or posts i no_post)
post-there kept n i posts e lt long =
    let count : length posts ≡ n = sym (length-map posts (λ (post : Post). Some post)) ∙ sym (ap length e) ∙ length-take-le n kept long in
    sym (get_or-take n kept i None lt) ∙ ap (λ (os : List (Option Post)). get_or os i None) e
    ∙ get_or_from_slice_get (map (λ post. Some post) posts) i (Some (get_or posts i no_post)) None
    (slice_get-map (λ (post : Post). Some post) posts i ∙ ap (option_map (λ (post : Post). Some post))
    (slice_get-get_or posts i no_post (omega (arith, count))))

pub filled-if : (c : Configuration) (others : Others) (kind : StageKind) (posts : List Post) → IsReached c others (course_of c others)
    → is_open (course_of c others).verdict ≡ true
    → kind_of_stage (shape_in c) (course_of c others).at ≡ Some kind
    → before (settled_log c others) ((course_of c others).at + 1) ≡ Some posts
    → stage_filled c others (course_of c others) ≡ Some (drop (slots_before (shape_in c) (course_of c others).at) posts)
unfolding settled_log stage_filled
filled-if c others kind posts is still kind_is e =
    ap (option_and_then (posts_of_kind c others (course_of c others))) kind_is ∙ ap all_some same ∙ all_some-map (drop a posts)
  where
    stand : Stand
    stand = course_of c others

    a : ℕ
    a = slots_before (shape_in c) stand.at

    n : ℕ
    n = slots_before (shape_in c) (stand.at + 1)

    kept : List (Option Post)
    kept = map (post_settled c others stand) (slots_of (shape_in c))

    next : n ≡ a + senders_of (shape_in c) kind
    next = slots_next (shape_in c) stand.at kind kind_is

    long : n ≤ length kept
    long = (let most = slots_before-most (shape_in c) (stand.at + 1) in omega
        (arith, length-map (slots_of (shape_in c)) (post_settled c others stand), length-slots_of (shape_in c)))

    all : take n kept ≡ map (λ post. Some post) posts
    all = all_some-is (take n kept) posts e

    count : length posts ≡ n
    count = sym (length-map posts (λ (post : Post). Some post)) ∙ sym (ap length all) ∙ length-take-le n kept long

    senders : List ℕ
    senders = senders_in (shape_in c) kind

    many : length senders ≡ senders_of (shape_in c) kind
    many = length-senders_in (shape_in c) kind

    one : (i : ℕ) → i < length senders → post_of c others stand (get_or senders i 0) ≡ Some (get_or posts (a + i) no_post)
    one i lt =
        let at = slot_at-place (shape_in c) stand.at i (get_or senders i 0) kind kind_is (slice_get-get_or senders i 0 lt) in
        let slot : Slot = record { stage = stand.at; sender = get_or senders i 0 } in
        let speaks = (slot_at-is (shape_in c) (a + i) slot at).0 in
        sym (settled-now c others stand (get_or senders i 0) is still speaks)
        ∙ sym (get_or_from_slice_get kept (a + i) (post_settled c others stand slot) None
        (slice_get-map (post_settled c others stand) (slots_of (shape_in c)) (a + i)
        ∙ ap (option_map (post_settled c others stand)) at))
        ∙ post-there kept n (a + i) posts all (omega (arith, next, many)) long

    same : map (post_of c others stand) senders ≡ map (λ post. Some post) (drop a posts)
    same = ext_get_or None _ _
        (length-map senders (post_of c others stand) ∙ many ∙ sym
        (length-map (drop a posts) (λ (post : Post). Some post) ∙ length-drop a posts
        ∙ (let few : length posts - a ≡ senders_of (shape_in c) kind = omega (arith, count, next) in few)))
        (λ i lt.
        let few : i < length senders = omega (arith, length-map senders (post_of c others stand)) in
        let within : i < length (drop a posts) = omega (arith, length-drop a posts, count, next, many) in
        get_or_from_slice_get (map (post_of c others stand) senders) i (post_of c others stand (get_or senders i 0)) None
        (slice_get-map (post_of c others stand) senders i ∙ ap (option_map (post_of c others stand)) (slice_get-get_or senders i 0 few))
        ∙ one i few
        ∙ ap (λ (post : Post). Some post) (sym (get_or-drop a posts i no_post))
        ∙ sym (get_or_from_slice_get (map (λ post. Some post) (drop a posts)) i (Some (get_or (drop a posts) i no_post)) None
        (slice_get-map (λ (post : Post). Some post) (drop a posts) i
        ∙ ap (option_map (λ (post : Post). Some post)) (slice_get-get_or (drop a posts) i no_post within))))

-- ---- the own post of a stage

some-posts : (x y : List Post) → (let told : List Post → Option (List Post) = λ z. Some z in told x ≡ told y) → x ≡ y
some-posts x y e = cc

some-post : (x y : Post) → (let told : Post → Option Post = λ z. Some z in told x ≡ told y) → x ≡ y
some-post x y e = cc

-- an open round waits at a stage that is not complete
not-beyond : (c : Configuration) (others : Others) (stage : ℕ) (past : List Post) → IsReached c others (course_of c others)
    → IsStopped c others (course_of c others) → is_open (course_of c others).verdict ≡ true
    → before (settled_log c others) stage ≡ Some past → (course_of c others).at < stage → ⊥
unfolding settled_log
not-beyond c others stage past is stops still e later =
    let stand : Stand = course_of c others in
    let kind = stops.stage still in
    let front = before-front (settled_log c others) (stand.at + 1) stage past (omega arith) e in
    let filled = filled-if c others kind.0 (take (slots_before (shape_in c) (stand.at + 1)) past) is still kind.1 front in
    none-some _ (sym (stops.unfilled still) ∙ filled)

-- a round that has ended let no stage behind it begin
not-ended : (c : Configuration) (others : Others) (stage : ℕ) (past : List Post) → IsReached c others (course_of c others)
    → is_open (course_of c others).verdict ≡ false
    → before (settled_log c others) stage ≡ Some past → AllGo c past stage → (course_of c others).at ≤ stage → ⊥
unfolding settled_log
not-ended c others stage past is ended e goes le = by_at stand.at refl
  where
    stand : Stand
    stand = course_of c others

    n : ℕ
    n = slots_before (shape_in c) stand.at

    front : take n past ≡ stand.past
    front = some-posts _ _ (sym (before-front (settled_log c others) stand.at stage past le e)
        ∙ before-settled c others stand.at is (omega arith)) ∙ take_all n stand.past (omega (arith, is.whole))

    by_at : (at : ℕ) → stand.at ≡ at → ⊥
    by_at zero first = (let still = ap is_open (is.first first) in let both = sym ended ∙ still in cc)
    by_at (suc last) later =
        let next : last + 1 ≡ stand.at = omega (arith, later) in
        let same : take (slots_before (shape_in c) (last + 1)) past ≡ stand.past = ap (λ (s : ℕ). take (slots_before (shape_in c) s) past)
        next ∙ front in
        let goes_on = goes last (omega (arith, later)) in
        let verdict = sym (is.last last next) ∙ sym (ap (λ (posts : List Post). verdict_of (closing_of c posts last)) same) ∙ goes_on in
        (let still = ap is_open verdict in let both = sym ended ∙ still in cc)

-- the stages before one that a member has spoken at let the round go on
all-go : (c : Configuration) (others : Others) (stage : ℕ) → IsReached c others (course_of c others) → (stage < (course_of c others).at)
    ⊎ ((is_open (course_of c others).verdict ≡ true) × (stage ≡ (course_of c others).at))
    → AllGo c (take (slots_before (shape_in c) stage) (course_of c others).past) stage
all-go c others stage is when earlier lt =
    let stand : Stand = course_of c others in
    let rises = slots_before-rises (shape_in c) (earlier + 1) stage (omega arith) in
    ap (λ (posts : List Post). verdict_of (closing_of c posts earlier))
    (take-take (slots_before (shape_in c) (earlier + 1)) (slots_before (shape_in c) stage) stand.past rises)
    ∙ by_when when
  where
    by_when : (stage < (course_of c others).at) ⊎ ((is_open (course_of c others).verdict ≡ true) × (stage ≡ (course_of c others).at))
        → verdict_of (closing_of c (take (slots_before (shape_in c) (earlier + 1)) (course_of c others).past) earlier) ≡ Goes
    by_when (inl passed) = is.goes earlier (omega arith)
    by_when (inr now) = elim (cases_lt (earlier + 1) (course_of c others).at) [
      | inl before_it ↦ is.goes earlier before_it
      | inr last ↦
          let stage_is = now.1 in
          let next : earlier + 1 ≡ (course_of c others).at = omega arith in
          let whole : slots_before (shape_in c) (earlier + 1) ≡ length (course_of c others).past = ap
          (λ (s : ℕ). slots_before (shape_in c) s) next ∙ sym is.whole in
          ap (λ (posts : List Post). verdict_of (closing_of c posts earlier))
          (take_all (slots_before (shape_in c) (earlier + 1)) (course_of c others).past (omega (arith, whole)))
          ∙ is.last earlier next ∙ open-goes (course_of c others).verdict now.0
    ]

-- when a member has spoken
spoken-when : (c : Configuration) (stand : Stand) (stage : ℕ) → has_spoken c stand stage ≡ true → (stage < stand.at)
    ⊎ ((is_open stand.verdict ≡ true) × (stage ≡ stand.at))
spoken-when c stand stage e = elim (or_cases (nat_lt stage stand.at) (is_open stand.verdict && (stage == stand.at))
    (and_parts (is_slot (shape_in c) stage c.number) _ e).1) [
      | inl passed ↦ inl (ltb-true stage stand.at passed)
      | inr now ↦ (let parts = and_parts (is_open stand.verdict) (stage == stand.at) now in inr (parts.0, eqb-true stage stand.at parts.1))
    ]

own-kept : (c : Configuration) (others : Others) (stage : ℕ) → is_slot (shape_in c) stage c.number ≡ true
    → kept_in (settled_log c others) (own_slot (settled_run c others) stage) ≡ own_post_at c (course_of c others) stage
unfolding post_settled
own-kept c others stage speaks =
    settled-kept c others (own_slot (settled_run c others) stage) speaks
    ∙ cond-true (c.number == c.number) (own_post_at c (course_of c others) stage) _ (eq-eqb c.number c.number refl)

pub reached-end : (c : Configuration) (others : Others) → IsReached c others (course_of c others)
unfolding course_of
reached-end c others = stands_are_reached c others (stage_count (shape_in c))

pub own_posts_settled : OwnPostsSettled
own_posts_settled c others stage post small least names speaks = (there, from)
  where
    stand : Stand
    stand = course_of c others

    is : IsReached c others stand
    is = reached-end c others

    stops : IsStopped c others stand
    stops = course_stops c others small least names

    said : List Post
    said = take (slots_before (shape_in c) stage) stand.past

    there : kept_in (settled_log c others) (own_slot (settled_run c others) stage) ≡ Some post → IsOwnPost (settled_run c others) stage post
    there kept = elim (cases_Bool (has_spoken c stand stage)) [
      | inl speaks_there ↦
          let when = spoken-when c stand stage speaks_there in
          let within : stage ≤ stand.at = elim when [ inl passed ↦ omega arith | inr now ↦ (let at = now.1 in omega arith) ] in
          record {
            past = said;
            before = before-settled c others stage is within;
            goes = all-go c others stage is when;
            said = some-post post _ (sym kept ∙ own-kept c others stage speaks ∙ spoken c stand stage speaks_there);
          }
      | inr silent ↦ absurd (none-some post (sym (own-kept c others stage speaks ∙ cond-false (has_spoken c stand stage) _ None silent)
          ∙ kept))
    ]

    from : IsOwnPost (settled_run c others) stage post → kept_in (settled_log c others) (own_slot (settled_run c others) stage) ≡ Some post
    from own = elim (cases_Bool (is_open stand.verdict)) [
      | inl still ↦ elim (cases_lt stand.at stage) [
        | inl beyond ↦ absurd (not-beyond c others stage own.past is stops still own.before beyond)
        | inr within ↦ elim (cases_lt stage stand.at) [
          | inl passed ↦ kept_from within (spoken-passed c stand stage speaks passed)
          | inr now ↦ kept_from within (spoken-now c stand stage speaks still (omega arith))
        ]
      ]
      | inr ended ↦ elim (cases_lt stage stand.at) [
        | inl passed ↦ kept_from (omega arith) (spoken-passed c stand stage speaks passed)
        | inr beyond ↦ absurd (not-ended c others stage own.past is ended own.before own.goes beyond)
      ]
    ]
      where
        kept_from : stage ≤ stand.at → has_spoken c stand stage ≡ true
            → kept_in (settled_log c others) (own_slot (settled_run c others) stage) ≡ Some post
        kept_from within spoken_there =
            let past : said ≡ own.past = some-posts _ _ (sym (before-settled c others stage is within) ∙ own.before) in
            own-kept c others stage speaks ∙ spoken c stand stage spoken_there
            ∙ ap (λ (p : List Post). Some (own_post c p stage)) past ∙ ap (λ (p : Post). Some p) (sym own.said)
