-- What a plain member posts ends a shuffle at most once, and shows one of its two seeds.
use Rattle.std.proofs.Common.{◌≡◌, ◌⊎◌, ℕ, zero, suc, ◌+◌, ◌-◌, ◌<◌, ◌≤◌, Bool, true, false, List, ◌∷◌, Option, Some, None, Result, Ok, ap, sym, ◌∙◌, refl, subst, arith, inl, inr, cond}
use Rattle.std.specs.Prelude.{◌&&◌, ◌==◌, ◌^◌, nat_lt, count_by, filter_map, if◌then◌else◌}
use Rattle.std.specs.List.{cons_option, range_with_len, slice_get}
use Rattle.std.proofs.lemmas.Bool.{and_from, and_parts, cases_Bool, cases_lt, cond-false, cond-true, eqb-true, lt-ltb, ltb-true, or_cases, or_left}
use Rattle.std.proofs.lemmas.List.Sums.{sum_by-cons}
use Rattle.std.proofs.lemmas.List.{length-take-le}
use Rattle.std.proofs.lemmas.Option.{none-some}
use Rattle.phase_message.specs.declared.content.Body.TheVariants.{Dispute, Reveal}
use Rattle.phase_message.specs.declared.content.Content.{Content}
use Rattle.phase_message.specs.declared.header.Header.{Header}
use Rattle.phase_message.specs.declared.post.Post.{Post}
use Rattle.phase_message.specs.declared.stage.Slot.{Slot}
use Rattle.phase_message.specs.declared.stage.StageKind.TheVariants.{Final}
use Rattle.phase_message.specs.declared.offence.Offence.{Offence}
use Rattle.phase_message.specs.Offence.{content_read}
use Rattle.phase_message.specs.Slots.{slot_at, slots_before, stage_count}
use Rattle.phase_message.specs.Stages.{is_slot, kind_of_stage}
use Rattle.phase_message.proofs.SlotLists.{slot_at-is, slot_number-within, slots_before-rises}
use Rattle.phase_message.proofs.Whole.{content-is_read}
use Rattle.stage_log.specs.Log.{contents_of}
use Rattle.stage_log.specs.Table.{kept_in}
use Rattle.go_nogo.specs.Rows.{final_row, posts_at, written}
use Rattle.go_nogo.specs.Votes.{votes_agree}
use Rattle.shuffle_blame.specs.Replay.{outer_place}
use Rattle.round_spec.specs.Slots.{final_stage, inner_place}
use Rattle.round_spec.specs.Say.{Configuration, content_with, own_body_if, own_content, own_descriptor, own_header, own_key_seed, own_opening, own_post, shape_in}
use Rattle.round_spec.specs.Course.{Others, Stand, course_of, has_spoken, is_open, own_post_at, own_posts, post_settled, posts_before_stage, settled_log}
use Rattle.round_spec.specs.Reached.{IsReached, post_due}
use Rattle.round_spec.specs.Honesty.{OthersCheck}
use Rattle.round_spec.specs.Runs.{CanEnter}
use Rattle.round_spec.specs.OwnRows.{CanSay, IsPastAt, content_due}
use Rattle.round_spec.proofs.OwnLengths.{take-get}
use Rattle.round_spec.proofs.Settling.{reached-end, settled-kept}
use Rattle.round_spec.proofs.Honesty.{settled_posts_read}
use Rattle.round_spec.proofs.OwnGrammar.{own_row_of_grammar}
use Rattle.round_spec.proofs.Contained.{contains-filter_map}
use Rattle.round_spec.proofs.Stopping.{own-header}
use Rattle.member_spec.specs.Plain.{EndsOnce, ShowsOneSeed, ends_shuffle, is_end}

-- ---- at most one

-- the first of a list and the others are counted
count-cons : {A : Type 0} (p : A → Bool) (x : A) (xs : List A) → count_by p (x ∷ xs) ≡ cond (p x) 1 0 + count_by p xs
count-cons p x xs = sum_by-cons (λ y. cond (p y) 1 0) x xs

-- no later number is counted, and of all at most one
record CountsOne (p : Post → Bool) (f : ℕ → Option Post) (k a n : ℕ) : Type 0 where
  none : k < a → count_by p (filter_map f (range_with_len a n)) ≡ 0
  most : count_by p (filter_map f (range_with_len a n)) ≤ 1

counts-one : (p : Post → Bool) (f : ℕ → Option Post) (k a n : ℕ) → ((s : ℕ) (y : Post) → f s ≡ Some y → p y ≡ true → s ≡ k)
    → CountsOne p f k a n
counts-one p f k a zero only = record { none = λ _. refl; most = omega arith }
counts-one p f k a (suc n) only = by_first (f a) refl (counts-one p f k (a + 1) n only)
  where
    rest : List Post
    rest = filter_map f (range_with_len (a + 1) n)

    by_value : (y : Post) → f a ≡ Some y → CountsOne p f k (a + 1) n → (p y ≡ true) ⊎ (p y ≡ false) → CountsOne p f k a (suc n)
    by_value y e later (inl counted) =
        let here : a ≡ k = only a y e counted in
        let whole : count_by p (filter_map f (range_with_len a (suc n))) ≡ 1 + count_by p rest = ap
        (λ (o : Option Post). count_by p (cons_option o rest)) e
        ∙ count-cons p y rest ∙ ap (λ (b : Bool). cond b 1 0 + count_by p rest) counted in
        let nothing : count_by p rest ≡ 0 = later.none (omega (arith, here)) in
        record { none = λ lt. absurd (omega (arith, here)); most = omega (arith, whole, nothing) }
    by_value y e later (inr not_counted) =
        let whole : count_by p (filter_map f (range_with_len a (suc n))) ≡ 0 + count_by p rest = ap
        (λ (o : Option Post). count_by p (cons_option o rest)) e
        ∙ count-cons p y rest ∙ ap (λ (b : Bool). cond b 1 0 + count_by p rest) not_counted in
        let most = later.most in
        record { none = λ lt. (let nothing = later.none (omega arith) in omega (arith, whole, nothing)); most = omega (arith, whole) }

    by_first : (o : Option Post) → f a ≡ o → CountsOne p f k (a + 1) n → CountsOne p f k a (suc n)
    by_first None e later =
        let whole : count_by p (filter_map f (range_with_len a (suc n))) ≡ count_by p rest = ap
        (λ (o : Option Post). count_by p (cons_option o rest)) e in
        let most = later.most in
        record { none = λ lt. (let nothing = later.none (omega arith) in omega (arith, whole, nothing)); most = omega (arith, whole) }
    by_first (Some y) e later = by_value y e later (cases_Bool (p y))

-- an own post at a stage
pub record IsOwnAt (c : Configuration) (stand : Stand) (stage : ℕ) (post : Post) : Type 0 where
  pub said : has_spoken c stand stage ≡ true
  pub is : post ≡ own_post c (posts_before_stage c stand stage) stage

pub own-at : (c : Configuration) (stand : Stand) (stage : ℕ) (post : Post) → own_post_at c stand stage ≡ Some post
    → IsOwnAt c stand stage post
own-at c stand stage post e = elim (cases_Bool (has_spoken c stand stage)) [
  | inl said ↦ record {
    said = said;
    is = told_same post _ (sym e
        ∙ cond-true (has_spoken c stand stage) (Some (own_post c (posts_before_stage c stand stage) stage)) None said);
  }
  | inr silent ↦ absurd (none-some post (sym (cond-false (has_spoken c stand stage)
      (Some (own_post c (posts_before_stage c stand stage) stage)) None silent) ∙ e))
]
  where
    told_same : (x y : Post) → (let told : Post → Option Post = λ z. Some z in told x ≡ told y) → x ≡ y
    told_same x y e = cc

own-end : (c : Configuration) (past : List Post) (stage shuffle : ℕ) → c.round < 2 ^ 64 → is_end c shuffle (own_post c past stage) ≡ true
    → stage ≡ final_stage (shape_in c) shuffle
unfolding own_post
own-end c past stage shuffle small e =
    eqb-true stage (final_stage (shape_in c) shuffle) (sym (ap (ends_shuffle c shuffle) (own-header c past stage small)) ∙ e)

pub ends-at-most-once : (c : Configuration) (stand : Stand) (shuffle : ℕ) → c.round < 2 ^ 64
    → count_by (is_end c shuffle) (own_posts c stand) ≤ 1
unfolding own_posts
ends-at-most-once c stand shuffle small =
    (counts-one (is_end c shuffle) (own_post_at c stand) (final_stage (shape_in c) shuffle) 0 (stage_count (shape_in c)) (λ s y e counted.
    (let at = own-at c stand s y e in own-end c (posts_before_stage c stand s) s shuffle small
    (sym (ap (is_end c shuffle) at.is) ∙ counted)))).most

-- ---- one of the seeds

-- an end of a shuffle shows the inner seed, or the outer seed and opening
end-shows : (c : Configuration) (own : List ℕ) (past : List Post) (stage shuffle : ℕ)
    → ShowsOneSeed c shuffle (own_body_if c own past stage (Some (Final shuffle)))
unfolding final_row
end-shows c own past stage shuffle = by_votes (votes_agree (shape_in c) (contents_of past) stage)
  where
    by_votes : (b : Bool) → ShowsOneSeed c shuffle (if b
        then Reveal (written (posts_at (shape_in c) past (stage - 1))) (own_key_seed c (inner_place shuffle))
        else Dispute (written past) (own_key_seed c (outer_place shuffle)) (own_opening c shuffle 2))
    by_votes true = refl
    by_votes false = (refl, refl)

content-same : (a b : Content) (r : Result Content Offence) → r ≡ Ok a → r ≡ Ok b → a ≡ b
content-same a b r e e' = let both = sym e ∙ e' in cc

-- what is read of an own post is what the member had to say
own-is-read : (c : Configuration) (stage : ℕ) (past : List Post) → CanSay c stage past
    → content_read (shape_in c) (own_post c past stage).content ≡ Ok (content_due c past stage)
unfolding own_post own_content
own-is-read c stage past can = content-is_read (shape_in c) (content_due c past stage) (own_row_of_grammar c stage past can)

due-header : (c : Configuration) (past : List Post) (stage : ℕ) → (content_due c past stage).header ≡ own_header c past stage
unfolding content_with
due-header c past stage = refl

due-body : (c : Configuration) (past : List Post) (stage : ℕ)
    → (content_due c past stage).body ≡ own_body_if c (own_descriptor c (contents_of past)) past stage (kind_of_stage (shape_in c) stage)
unfolding content_with
due-body c past stage = refl

own-shows : (c : Configuration) (stage shuffle : ℕ) (past : List Post) (content : Content) → CanSay c stage past
    → content_read (shape_in c) (own_post c past stage).content ≡ Ok content
    → kind_of_stage (shape_in c) content.header.stage ≡ Some (Final shuffle) → ShowsOneSeed c shuffle content.body
own-shows c stage shuffle past content can reads kind =
    let same : content_due c past stage ≡ content = content-same (content_due c past stage) content
    (content_read (shape_in c) (own_post c past stage).content) (own-is-read c stage past can) reads in
    let at : stage ≡ content.header.stage = sym (ap (λ (h : Header). h.stage) (due-header c past stage))
    ∙ ap (λ (x : Content). x.header.stage) same in
    let kind_is : kind_of_stage (shape_in c) stage ≡ Some (Final shuffle) = ap (kind_of_stage (shape_in c)) at ∙ kind in
    subst (λ (x : Content). ShowsOneSeed c shuffle x.body) same
    (subst (ShowsOneSeed c shuffle) (sym (due-body c past stage
    ∙ ap (own_body_if c (own_descriptor c (contents_of past)) past stage) kind_is))
    (end-shows c (own_descriptor c (contents_of past)) past stage shuffle))

-- ---- the pasts of own posts

-- what stands in the past of a course is what its log keeps
kept-past : (c : Configuration) (others : Others) (number : ℕ) (slot : Slot) (post : Post) → slot_at (shape_in c) number ≡ Some slot
    → slot.stage < (course_of c others).at
    → slice_get (course_of c others).past number ≡ Some post → kept_in (settled_log c others) slot ≡ Some post
unfolding post_settled
kept-past c others number slot post at lt there =
    settled-kept c others slot speaks ∙ by_sender (cases_Bool (slot.sender == c.number))
  where
    stand : Stand
    stand = course_of c others

    speaks : is_slot (shape_in c) slot.stage slot.sender ≡ true
    speaks = (slot_at-is (shape_in c) number slot at).0

    due : post_due c others stand.past slot.stage slot.sender ≡ Some post
    due = sym ((reached-end c others).posts slot.stage slot.sender speaks lt)
        ∙ ap (slice_get stand.past) (slot_at-is (shape_in c) number slot at).1 ∙ there

    by_sender : ((slot.sender == c.number) ≡ true) ⊎ ((slot.sender == c.number) ≡ false)
        → (if slot.sender == c.number then own_post_at c (course_of c others) slot.stage else others slot) ≡ Some post
    by_sender (inl own) =
        let speaks_own : is_slot (shape_in c) slot.stage c.number ≡ true = sym
        (ap (λ (s : ℕ). is_slot (shape_in c) slot.stage s) (eqb-true slot.sender c.number own)) ∙ speaks in
        let said : has_spoken c stand slot.stage ≡ true = and_from _ _ speaks_own
        (or_left (nat_lt slot.stage stand.at) _ (lt-ltb slot.stage stand.at lt)) in
        cond-true (slot.sender == c.number) (own_post_at c stand slot.stage) (others slot) own
        ∙ cond-true (has_spoken c stand slot.stage) (Some (own_post c (posts_before_stage c stand slot.stage) slot.stage)) None said
        ∙ sym (cond-true (slot.sender == c.number) (Some (own_post c (posts_before_stage c stand slot.stage) slot.stage)) (others slot) own)
        ∙ due
    by_sender (inr other) =
        cond-false (slot.sender == c.number) (own_post_at c stand slot.stage) (others slot) other
        ∙ sym (cond-false (slot.sender == c.number) (Some (own_post c (posts_before_stage c stand slot.stage) slot.stage)) (others slot)
        other) ∙ due

-- so each front of it is a past of posts that read
past-reads : (c : Configuration) (others : Others) (stage : ℕ) → CanEnter c → OthersCheck c others → stage ≤ (course_of c others).at
    → IsPastAt c stage (posts_before_stage c (course_of c others) stage)
past-reads c others stage enters check le = record {
  whole = length-take-le (slots_before (shape_in c) stage) (course_of c others).past (omega (arith, rises, is.whole));
  reads = λ number slot post at there. (
      let front = take-get (course_of c others).past (slots_before (shape_in c) stage) number post there in
      let lt = front.0 in
      settled_posts_read c others enters check slot post (kept-past c others number slot post at (earlier number slot at lt) front.1));
}
  where
    is : IsReached c others (course_of c others)
    is = reached-end c others

    rises : slots_before (shape_in c) stage ≤ slots_before (shape_in c) (course_of c others).at
    rises = slots_before-rises (shape_in c) stage (course_of c others).at le

    earlier : (number : ℕ) (slot : Slot) → slot_at (shape_in c) number ≡ Some slot → number < slots_before (shape_in c) stage
        → slot.stage < (course_of c others).at
    earlier number slot at lt =
        let there = slot_at-is (shape_in c) number slot at in
        let first = (slot_number-within (shape_in c) slot.stage slot.sender there.0).0 in
        let number_is = there.1 in
        elim (cases_lt slot.stage stage) [
          | inl before_it ↦ omega arith
          | inr later ↦ absurd (let more = slots_before-rises (shape_in c) stage slot.stage later in omega (arith, number_is))
        ]

-- ---- all own posts

pub own-ends : (c : Configuration) (others : Others) (shuffle : ℕ) → CanEnter c → OthersCheck c others
    → EndsOnce c (own_posts c (course_of c others)) shuffle
unfolding own_posts
own-ends c others shuffle is check = record {
  single = ends-at-most-once c stand shuffle is.round;
  shows = λ post content listed reads kind. (
      let found = contains-filter_map (own_post_at c stand) (range_with_len 0 (stage_count (shape_in c))) post listed in
      let own = own-at c stand found.0 post found.2 in
      let can : CanSay c found.0 (posts_before_stage c stand found.0) = record {
        enter = is;
        speaks = (and_parts (is_slot (shape_in c) found.0 c.number) _ own.said).0;
        past_is = past-reads c others found.0 is
            check (within found.0 own.said);
      } in
      own-shows c found.0 shuffle (posts_before_stage c stand found.0) content can
      (ap (λ (p : Post). content_read (shape_in c) p.content) (sym own.is) ∙ reads) kind);
}
  where
    stand : Stand
    stand = course_of c others

    within : (s : ℕ) → has_spoken c stand s ≡ true → s ≤ stand.at
    within s said = elim (or_cases (nat_lt s stand.at) (is_open stand.verdict && (s == stand.at))
        (and_parts (is_slot (shape_in c) s c.number) _ said).1) [
          | inl passed ↦ (let lt = ltb-true s stand.at passed in omega arith)
          | inr now ↦ (let same = eqb-true s stand.at (and_parts (is_open stand.verdict) (s == stand.at) now).1 in omega arith)
        ]
