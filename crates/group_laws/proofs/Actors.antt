-- What a member of any fault keeps and has made, whatever bytes were delivered to it: its log reads in its slots, and all that
-- it posts is a content that it may say where it stands.
use Rattle.std.proofs.Common.{◌≡◌, ◌⊎◌, ℕ, zero, suc, ◌+◌, ◌*◌, ◌<◌, ◌≤◌, Bool, true, false, List, [], ◌∷◌, ◌++◌, Option, Some, None, length, take, drop, map, ap, sym, ◌∙◌, refl, subst, arith, inl, inr, length-append}
use Rattle.std.specs.Prelude.{◌-◌, ◌==◌, All, slice_index_or, Contains, Err, IfSome, Ok, fold, is_ok, is_some, nat_lt, option_map, replicate, slice_range, if◌then◌else◌}
use Rattle.std.specs.Fn.{iterate}
use Rattle.std.specs.List.{AllByRecursion, slice_get}
use Rattle.std.specs.Option.{option_flatten}
use Rattle.std.proofs.lemmas.Bool.{cases_Bool, cases_lt, cond-false, cond-true, false≢true}
use Rattle.std.proofs.lemmas.List.{length-drop, length-map, length-replicate, length-take-le, take-append-le, take_all}
use Rattle.std.proofs.lemmas.List.Elements.{Contains-append_cases}
use Rattle.std.proofs.lemmas.Option.{none-some, slice_get-map, slice_get_within}
use Rattle.wire_core.specs.Answers.{first_some}
use Rattle.wire_core.specs.Bytes.{IsBytes}
use Rattle.phase_message.specs.declared.content.Content.{Content}
use Rattle.phase_message.specs.declared.post.Post.{Post}
use Rattle.phase_message.specs.declared.stage.Slot.{Slot}
use Rattle.phase_message.specs.Offence.{content_read}
use Rattle.phase_message.specs.Shape.{Shape}
use Rattle.phase_message.specs.Grammar.{content_text}
use Rattle.phase_message.specs.Header.{header_of}
use Rattle.phase_message.specs.Slots.{slot_at, slot_count, slot_number, slots_before, slots_of, stage_count}
use Rattle.phase_message.specs.Stages.{is_slot}
use Rattle.phase_message.proofs.SlotLists.{length-slots_of, slot_at-is, slots_before-most, slots_before-rises}
use Rattle.phase_message.proofs.Whole.{content-header, content-is_spelled}
use Rattle.lms_tree.specs.Secret.{lms_signature, own_public}
use Rattle.lms_tree.proofs.OwnPaths.{own_signatures_are_valid}
use Rattle.signed_post.specs.Frame.{frame_of}
use Rattle.signed_post.proofs.Lengths.{valid-short}
use Rattle.stage_log.specs.Log.{all_some, contents_of}
use Rattle.stage_log.specs.Table.{IsKept, IsLog, Log, empty_log, filled, kept_in, posts_in}
use Rattle.stage_log.proofs.Entries.{filled-is_log}
use Rattle.stage_log.proofs.Pasts.{all_some-is}
use Rattle.round_spec.specs.Course.{Stand, closing_of, is_open, stand_behind}
use Rattle.round_spec.specs.Embedded.{slot_named}
use Rattle.round_spec.specs.OwnRows.{CanSay, IsPastAt}
use Rattle.round_spec.specs.Result.{Heard, fault_shown, first_posts, heard_of, post_given}
use Rattle.round_spec.specs.Runs.{AllGo, CanEnter, ReadsIn}
use Rattle.round_spec.specs.Say.{Configuration, content_with, number_said_before, own_description, own_descriptor, shape_in, signed_at}
use Rattle.round_spec.specs.Verdict.{Goes, Verdict, verdict_of}
use Rattle.round_spec.proofs.Beginnings.{shape-is}
use Rattle.round_spec.proofs.Contained.{contains-cases, contains-nothing}
use Rattle.round_spec.proofs.Given.{first_posts_delivered}
use Rattle.round_spec.proofs.GoLists.{there as slot-there}
use Rattle.round_spec.proofs.OwnBytes.{signature-bytes}
use Rattle.round_spec.proofs.OwnChecks.{leaf-left}
use Rattle.round_spec.proofs.OwnItems.{descriptor-long, is-member, own-descriptor-bytes}
use Rattle.round_spec.proofs.OwnLengths.{content-long, take-get}
use Rattle.round_spec.proofs.PastForms.{checks-read}
use Rattle.round_spec.proofs.Reached.{open-goes}
use Rattle.round_spec.proofs.SealedBytes.{all-places}
use Rattle.member_spec.specs.declared.conduct.Speech.{Speech}
use Rattle.member_spec.specs.declared.conduct.Speech.TheVariants.{Say, Wait, Silent}
use Rattle.member_spec.specs.declared.mood.Mood.{Mood}
use Rattle.member_spec.specs.declared.mood.Mood.TheVariants.{Unasked, PutOff, Spoken, Mute}
use Rattle.member_spec.specs.Actor.{Actor, actor_after, actor_at_start, actor_behind_answer, actor_behind_delivery, actor_behind_fault, actor_behind_heard, actor_behind_post, actor_behind_question, actor_behind_repeat, actor_behind_stage, actor_behind_step, actor_behind_step_with, actor_behind_steps, actor_with_heard, content_to_say, descriptor_made, first_actor, is_due, speech_about, stage_posts}
use Rattle.member_spec.specs.Replies.{Replies}
use Rattle.member_spec.proofs.Hearing.{fault-of, fault-outside, given-here, heard-other}
use Rattle.member_core.proofs.OwnPosts.{kept-cases}
use Rattle.round_script.specs.declared.fault.Fault.{Fault}
use Rattle.group_spec.specs.Faulty.{faulty_description, faulty_member, faulty_replies, faulty_speech}
use Rattle.group_spec.proofs.Made.{choose}
use Rattle.group_laws.proofs.Changes.{description-item}
use Rattle.group_laws.proofs.Rows.{IsOwn}
use Rattle.group_laws.proofs.Speeches.{IsGoodSpeech, IsGoodText, header-same, speech-good}

-- ---- lists

pub contains-place : {A : Type 0} (xs : List A) (x : A) → Contains xs x → (i : ℕ) × (slice_get xs i ≡ Some x)
contains-place [] x there = absurd (contains-nothing x there)
contains-place (y ∷ ys) x there = elim (contains-cases y ys x there) [
  | inl here ↦ (0, ap (λ (z : _). Some z) here)
  | inr later ↦ (let found = contains-place ys x later in (suc found.0, found.1))
]

get-append : {A : Type 0} (xs ys : List A) (i : ℕ) (x : A) → slice_get (xs ++ ys) i ≡ Some x
    → (slice_get xs i ≡ Some x) ⊎ ((j : ℕ) × (i ≡ length xs + j) × (slice_get ys j ≡ Some x))
get-append [] ys i x e = inr (i, omega arith, e)
get-append (y ∷ xs) ys zero x e = inl e
get-append (y ∷ xs) ys (suc i) x e = elim (get-append xs ys i x e) [
  | inl front ↦ inl front
  | inr back ↦ inr (back.0, (let at = back.1 in omega (arith, at)), back.2)
]

get-drop : {A : Type 0} (xs : List A) (a i : ℕ) → slice_get (drop a xs) i ≡ slice_get xs (a + i)
get-drop xs zero i = (let e : i ≡ 0 + i = omega arith in ap (slice_get xs) e)
get-drop [] (suc a) i = refl
get-drop (x ∷ xs) (suc a) i = let e : suc (a + i) ≡ suc a + i = omega arith in get-drop xs a i ∙ ap (slice_get (x ∷ xs)) e

get-nothing : {A : Type 0} (n i : ℕ) (x : A) → option_flatten (slice_get (replicate n None) i) ≡ Some x → ⊥
get-nothing zero i x e = none-some x e
get-nothing (suc n) zero x e = none-some x e
get-nothing (suc n) (suc i) x e = get-nothing n i x e

ok-read : (c : Configuration) (text : List ℕ) → is_ok (content_read (shape_in c) text) ≡ true
    → (x : Content) × (content_read (shape_in c) text ≡ Ok x)
ok-read c text is = by_read (content_read (shape_in c) text) refl
  where
    by_read : (r : _) → content_read (shape_in c) text ≡ r → (x : Content) × (content_read (shape_in c) text ≡ Ok x)
    by_read (Ok x) e = (x, e)
    by_read (Err offence) e = absurd (false≢true (sym (ap is_ok e) ∙ is))

-- ---- a log with one post more

-- the post is in a slot of its own, or was there
filled-holds : (c : Configuration) (log : Log) (slot : Slot) (post : Post) (P : Slot → Post → Type 0) → IsLog log
    → is_slot log.shape slot.stage slot.sender ≡ true → ((s : Slot) (p : Post) → kept_in log s ≡ Some p → P s p) → P slot post
    → (s : Slot) (p : Post) → kept_in (filled log slot post) s ≡ Some p → P s p
filled-holds c log slot post P form speaks old new s p e = elim (kept-cases log slot s post p form speaks e) [
  | inl was ↦ old s p was
  | inr now ↦ subst (λ (z : Slot). P z p) (sym now.0) (subst (λ (q : Post). P slot q) (sym now.1) new)
]

-- ---- a stage more

-- a past with the posts of the next stage
module _ (c : Configuration) (log : Log) (at : ℕ) (past posts : List Post) (form : IsLog log) (shape : log.shape ≡ shape_in c)
    (is : IsPastAt c at past) (there : all_some (posts_in log at) ≡ Some posts) where
  from : ℕ
  from = slots_before (shape_in c) at

  to : ℕ
  to = slots_before (shape_in c) (at + 1)

  -- they are those of a range of the log
  range-is : slice_range log.posts (slots_before (shape_in c) at) (slots_before (shape_in c) (at + 1)) ≡ map (λ p. Some p) posts
  range-is = all_some-is (slice_range log.posts (slots_before (shape_in c) at) (slots_before (shape_in c) (at + 1))) posts
      (sym (ap (λ (s : Shape). all_some (slice_range log.posts (slots_before s at) (slots_before s (at + 1)))) shape) ∙ there)

  rises : slots_before (shape_in c) at ≤ slots_before (shape_in c) (at + 1)
  rises = slots_before-rises (shape_in c) at (at + 1) (omega arith)

  within : slots_before (shape_in c) (at + 1) ≤ length log.posts
  within = (
      let most = slots_before-most log.shape (at + 1) in
      let places = form.places in
      let same : slots_before log.shape (at + 1) ≡ slots_before (shape_in c) (at + 1) = ap (λ (s : Shape). slots_before s (at + 1)) shape in
      omega (arith, most, places, same))

  posts-many : length posts ≡ slots_before (shape_in c) (at + 1) - slots_before (shape_in c) at
  posts-many =
      let n : ℕ = slots_before (shape_in c) (at + 1) - slots_before (shape_in c) at in
      let behind : List (Option Post) = drop (slots_before (shape_in c) at) log.posts in
      let dropped = length-drop (slots_before (shape_in c) at) log.posts in
      let enough = within in
      sym (length-map posts (λ (p : Post). Some p)) ∙ sym (ap (λ (l : List (Option Post)). length l) range-is)
      ∙ length-take-le n behind (omega (arith, dropped, enough))

  -- each of them is kept in its slot
  pub kept-there : (j : ℕ) (slot : Slot) (post : Post) → slot_at (shape_in c) (slots_before (shape_in c) at + j) ≡ Some slot
      → slice_get posts j ≡ Some post → kept_in log slot ≡ Some post
  kept-there j slot post found got =
      let a : ℕ = slots_before (shape_in c) at in
      let n : ℕ = slots_before (shape_in c) (at + 1) - slots_before (shape_in c) at in
      let some : Post → Option Post = λ p. Some p in
      let mapped : slice_get (map some posts) j ≡ Some (Some post) = slice_get-map some posts j ∙ ap (option_map some) got in
      let ranged : slice_get (take n (drop a log.posts)) j ≡ Some (Some post)
      = ap (λ (l : List (Option Post)). slice_get l j) range-is ∙ mapped in
      let entry : slice_get log.posts (a + j) ≡ Some (Some post)
      = sym (get-drop log.posts a j) ∙ (take-get (drop a log.posts) n j (Some post) ranged).1 in
      let its = slot_at-is (shape_in c) (a + j) slot found in
      ap (λ (s : Shape). kept_in (record { shape = s; posts = log.posts }) slot) shape
      ∙ cond-true (is_slot (shape_in c) slot.stage slot.sender)
      (option_flatten (slice_get log.posts (slot_number (shape_in c) slot.stage slot.sender))) None its.0
      ∙ ap (λ (k : ℕ). option_flatten (slice_get log.posts k)) its.1 ∙ ap option_flatten entry

  pub past-longer : length (past ++ posts) ≡ slots_before (shape_in c) (at + 1)
  past-longer =
      let whole = is.whole in
      let many = posts-many in
      let up = rises in
      let joined = length-append past posts in
      omega (arith, whole, many, up, joined)

  pub past-grown : ((slot : Slot) (post : Post) → kept_in log slot ≡ Some post → ReadsIn c slot post) → IsPastAt c (at + 1) (past ++ posts)
  past-grown reads = record {
    whole = past-longer;
    reads = λ number slot post found got. elim (get-append past posts number post got) [
      | inl front ↦ is.reads number slot post found front
      | inr back ↦
          let whole = is.whole in
          let place = back.1 in
          let number_is : number ≡ slots_before (shape_in c) at + back.0 = omega (arith, place, whole) in
          reads slot post (kept-there back.0 slot post (sym (ap (slot_at (shape_in c)) number_is) ∙ found) back.2)
    ];
  }

  -- and if the round goes on behind the stage, it went on behind all of them
  pub goes-on : AllGo c past at → is_open (verdict_of (closing_of c (past ++ posts) at)) ≡ true → AllGo c (past ++ posts) (at + 1)
  goes-on goes still earlier lt = elim (cases_lt earlier at) [
    | inl before ↦
        let whole = is.whole in
        let up = slots_before-rises (shape_in c) (earlier + 1) at (omega (arith, before)) in
        ap (λ (p : List Post). verdict_of (closing_of c p earlier))
        (take-append-le (slots_before (shape_in c) (earlier + 1)) past posts (omega (arith, whole, up))) ∙ goes earlier before
    | inr now ↦
        let same : earlier ≡ at = omega (arith, now, lt) in
        let all = past-longer in
        subst (λ (e : ℕ). verdict_of (closing_of c (take (slots_before (shape_in c) (e + 1)) (past ++ posts)) e) ≡ Goes) (sym same)
        (ap (λ (p : List Post). verdict_of (closing_of c p at)) (take_all (slots_before (shape_in c) (at + 1)) (past ++ posts) (omega (arith, all)))
        ∙ open-goes (verdict_of (closing_of c (past ++ posts) at)) still)
  ]

-- ---- a member

-- a post that a member made
pub record IsMade (c : Configuration) (Known : Post → Type 0) (post : Post) : Type 0 where
  pub stage : ℕ
  pub text : List ℕ
  pub good : IsGoodText c Known stage text
  pub signed : post ≡ signed_at c stage text

-- what is true of a member always: the log reads in its slots and holds known posts, and so does the past; the round went on at
-- each stage before; what is put off is what there is to say; and all that was made may be said
pub record IsSober (replies : Replies) (c : Configuration) (Known : Post → Type 0) (a : Actor) : Type 0 where
  pub form : IsLog a.log
  pub shape : a.log.shape ≡ shape_in c
  pub reads : (slot : Slot) (post : Post) → kept_in a.log slot ≡ Some post → ReadsIn c slot post
  pub known : (slot : Slot) (post : Post) → kept_in a.log slot ≡ Some post → Known post
  pub past : IsPastAt c a.stand.at a.stand.past
  pub past_known : (number : ℕ) (post : Post) → slice_get a.stand.past number ≡ Some post → Known post
  pub goes : is_open a.ending ≡ true → AllGo c a.stand.past a.stand.at
  pub put_off : (bytes : List ℕ) → a.mood ≡ PutOff bytes
      → (bytes ≡ content_to_say replies c a.stand) × (is_slot (shape_in c) a.stand.at c.number ≡ true)
  pub made : (post : Post) → Contains a.made post → IsMade c Known post

-- its own post reads in its slot, if it is of the grammar
made-reads : (c : Configuration) (Known : Post → Type 0) (stage : ℕ) (past : List Post) (text : List ℕ) → CanSay c stage past
    → IsGoodText c Known stage text → is_ok (content_read (shape_in c) text) ≡ true
    → ReadsIn c (record { stage = stage; sender = c.number }) (signed_at c stage text)
made-reads c Known stage past text can good is =
    let read = ok-read c text is in
    let x : Content = read.0 in
    let spelled = content-is_spelled (shape_in c) text x good.bytes read.1 in
    let q : ℕ = c.first + number_said_before c stage in
    let long = content-long (shape_in c) x spelled.1 in
    let same : length text ≡ length (content_text x) = ap (λ (t : List ℕ). length t) spelled.0 in
    let most = good.short x read.1 in
    let short = valid-short (own_public c.key) text (lms_signature c.key q text)
    (own_signatures_are_valid c.key q text (leaf-left c stage past can)) in
    record {
      content = x;
      reads = read.1;
      content_bytes = good.bytes;
      signature_bytes = signature-bytes c.key q text;
      named = ap slot_named (header-same x.header good.slot.0 (header_of text) (content-header (shape_in c) text x read.1) good.slot.1)
          ∙ good.slot.2;
      frame = record { least = omega (arith, long, same); most = omega (arith, most, short) };
      short = short;
    }

kept-of : (c : Configuration) (slot : Slot) (post : Post) → ReadsIn c slot post → IsKept post.content
kept-of c slot post is = (let least = is.frame.least in let most = is.frame.most in
    record { least = omega (arith, least); most = omega (arith, most) })

-- the descriptor that its conduct makes is as long as one of the group
own-made : (fault : Fault) (c : Configuration) (stage : ℕ) (past : List Post) → CanSay c stage past
    → IsOwn c (descriptor_made (faulty_replies (faulty_member fault c.number)) c past)
unfolding own_descriptor
own-made fault c stage past can = description-item fault c.number (36 + 2272 * (shape_in c).members) (own_description c (contents_of past))
    (record {
      long = descriptor-long c (contents_of past) can.enter (is-member c stage past can);
      bytes = own-descriptor-bytes c (contents_of past);
    })

due-slot : (c : Configuration) (stand : Stand) (mood : Mood) → is_due c stand mood ≡ true → is_slot (shape_in c) stand.at c.number ≡ true
due-slot c stand Unasked e = e
due-slot c stand (PutOff bytes) e = absurd (false≢true e)
due-slot c stand Spoken e = absurd (false≢true e)
due-slot c stand Mute e = absurd (false≢true e)

-- the posts of a stage are those of the log
stage-there : (c : Configuration) (a : Actor) (posts : List Post) (b : Bool) (o : Option (List Post))
    → (if b then o else None) ≡ Some posts → o ≡ Some posts
stage-there c a posts true o e = e
stage-there c a posts false o e = absurd (none-some posts e)

no-fault : (c : Configuration) (a : Actor) (bytes : List ℕ) (heard : Heard) → heard_of c bytes ≡ Some heard
    → fault_shown c (kept_in a.log) bytes ≡ None → is_ok heard.content ≡ true
no-fault c a bytes heard e none = elim (cases_Bool (is_ok heard.content)) [
  | inl ok ↦ ok
  | inr outside ↦ absurd (
      let shown = fault-outside c (kept_in a.log) bytes heard outside in
      none-some shown.0 (sym none ∙ fault-of c (kept_in a.log) bytes (Some heard) e ∙ shown.2 (kept_in a.log)))
]

all-one : (bytes : List ℕ) → IsBytes bytes → All IsBytes (bytes ∷ [])
all-one bytes is = all-places IsBytes (bytes ∷ []) (is, tt)

first-of-one : (o : Option Post) → first_some (o ∷ []) ≡ o
first-of-one None = refl
first-of-one (Some x) = refl

-- what is heard of one string is its first post
first-is : (c : Configuration) (bytes : List ℕ) (heard : Heard) → heard_of c bytes ≡ Some heard → is_ok heard.content ≡ true
    → first_posts c (bytes ∷ []) (slot_named heard.header) ≡ Some heard.post
unfolding first_posts
first-is c bytes heard e ok = first-of-one (post_given c (slot_named heard.header) bytes) ∙ given-here c bytes heard e ok

empty-nothing : (shape : Shape) (slot : Slot) (post : Post) → kept_in (empty_log shape) slot ≡ Some post → ⊥
empty-nothing shape slot post e = elim (cases_Bool (is_slot shape slot.stage slot.sender)) [
  | inl speaks ↦ get-nothing (slot_count shape) (slot_number shape slot.stage slot.sender) post
      (sym (cond-true (is_slot shape slot.stage slot.sender) (option_flatten (slice_get (empty_log shape).posts
      (slot_number shape slot.stage slot.sender))) None speaks) ∙ e)
  | inr silent ↦ none-some post (sym (cond-false (is_slot shape slot.stage slot.sender) (option_flatten (slice_get (empty_log shape).posts
      (slot_number shape slot.stage slot.sender))) None silent) ∙ e)
]

none-kept : (n k : ℕ) (d : Option Post) → k < n → IfSome (slice_index_or (replicate n None) k d) (λ (post : Post). IsKept post.content)
none-kept zero k d lt = absurd (omega (arith, lt))
none-kept (suc n) zero d lt = tt
none-kept (suc n) (suc k) d lt = none-kept n k d (omega (arith, lt))

empty-form : (c : Configuration) → CanEnter c → IsLog (empty_log (shape_in c))
empty-form c is =
    let nothing : Option Post = None in
    let many = length-replicate (slot_count (shape_in c)) nothing in
    record {
      shape = shape-is c is;
      places = many;
      contents = λ k d lt. none-kept (slot_count (shape_in c)) k d (omega (arith, lt, many));
    }

-- where a member of a fault enters a round, and known posts: those of given strings, and those that it may make
module _ (fault : Fault) (c : Configuration) (enters : CanEnter c) (Known : Post → Type 0) (Given : List ℕ → Type 0)
    (given-known : (bytes : List ℕ) (post : Post) → Given bytes → frame_of bytes ≡ Ok post → Known post)
    (made-known : (stage : ℕ) (text : List ℕ) → IsGoodText c Known stage text → Known (signed_at c stage text)) where
  post-sober : (a : Actor) (text : List ℕ) → CanSay c a.stand.at a.stand.past → IsGoodText c Known a.stand.at text
      → IsSober (faulty_replies (faulty_member fault c.number)) c Known a
      → IsSober (faulty_replies (faulty_member fault c.number)) c Known (actor_behind_post c a (signed_at c a.stand.at text))
  post-sober a text can good is =
      let post : Post = signed_at c a.stand.at text in
      let slot : Slot = record { stage = a.stand.at; sender = c.number } in
      choose (λ (x : Actor). IsSober (faulty_replies (faulty_member fault c.number)) c Known x)
      (is_ok (content_read (shape_in c) post.content)) _ _
      (λ ok. (
      let read = made-reads c Known a.stand.at a.stand.past text can good ok in
      let speaks : is_slot a.log.shape a.stand.at c.number ≡ true
      = ap (λ (s : Shape). is_slot s a.stand.at c.number) is.shape ∙ can.speaks in
      record {
        form = filled-is_log a.log slot post is.form (kept-of c slot post read);
        shape = is.shape;
        reads = filled-holds c a.log slot post (λ s p. ReadsIn c s p) is.form speaks is.reads read;
        known = filled-holds c a.log slot post (λ s p. Known p) is.form speaks is.known (made-known a.stand.at text good);
        past = is.past;
        past_known = is.past_known;
        goes = is.goes;
        put_off = λ bytes e. absurd cc;
        made = more-made a text good is;
      }))
      (λ _. record {
        form = is.form;
        shape = is.shape;
        reads = is.reads;
        known = is.known;
        past = is.past;
        past_known = is.past_known;
        goes = is.goes;
        put_off = λ bytes e. absurd cc;
        made = more-made a text good is;
      })
    where
      more-made : (a : Actor) (text : List ℕ) → IsGoodText c Known a.stand.at text
          → IsSober (faulty_replies (faulty_member fault c.number)) c Known a → (post : Post)
          → Contains (a.made ++ signed_at c a.stand.at text ∷ []) post → IsMade c Known post
      more-made a text good is post there = elim (Contains-append_cases a.made (signed_at c a.stand.at text ∷ []) post there) [
        | inl old ↦ is.made post old
        | inr new ↦ elim (contains-cases (signed_at c a.stand.at text) [] post new) [
          | inl here ↦ record { stage = a.stand.at; text = text; good = good; signed = sym here }
          | inr never ↦ absurd (contains-nothing post never)
        ]
      ]

  answer-sober : (a : Actor) (speech : Speech) → CanSay c a.stand.at a.stand.past
      → IsGoodSpeech c Known a.stand.at (content_to_say (faulty_replies (faulty_member fault c.number)) c a.stand) speech
      → IsSober (faulty_replies (faulty_member fault c.number)) c Known a
      → IsSober (faulty_replies (faulty_member fault c.number)) c Known (actor_behind_answer c a speech)
  answer-sober a (Say text) can good is = post-sober a text can good is
  answer-sober a (Wait bytes) can good is = record {
    form = is.form;
    shape = is.shape;
    reads = is.reads;
    known = is.known;
    past = is.past;
    past_known = is.past_known;
    goes = is.goes;
    put_off = λ other e. (put-off-same bytes other e ∙ good, can.speaks);
    made = is.made;
  }
    where
      put-off-same : (x y : List ℕ) → PutOff x ≡ PutOff y → y ≡ x
      put-off-same x y e = cc
  answer-sober a Silent can good is = record {
    form = is.form;
    shape = is.shape;
    reads = is.reads;
    known = is.known;
    past = is.past;
    past_known = is.past_known;
    goes = is.goes;
    put_off = λ bytes e. absurd cc;
    made = is.made;
  }

  -- the speech about what there is to say
  asked-good : (a : Actor) → CanSay c a.stand.at a.stand.past → AllGo c a.stand.past a.stand.at
      → IsSober (faulty_replies (faulty_member fault c.number)) c Known a
      → IsGoodSpeech c Known a.stand.at (content_to_say (faulty_replies (faulty_member fault c.number)) c a.stand)
      (speech_about (faulty_replies (faulty_member fault c.number)) c a
      (content_to_say (faulty_replies (faulty_member fault c.number)) c a.stand))
  unfolding content_to_say
  asked-good a can goes is =
      let own : List ℕ = descriptor_made (faulty_replies (faulty_member fault c.number)) c a.stand.past in
      let asked : List ℕ = content_text (content_with c own a.stand.past a.stand.at) in
      let known : (post : Post) → Contains a.stand.past post → Known post
      = λ post there. (let at = contains-place a.stand.past post there in is.past_known at.0 post at.1) in
      let good = speech-good c Known own a.stand.at a.stand.past a.log can goes (own-made fault c a.stand.at a.stand.past can) known is.shape
      is.reads in
      choose (λ (s : Speech). IsGoodSpeech c Known a.stand.at asked s) (a.stand.at == 0)
      (faulty_speech (faulty_member fault c.number) a.stand.at asked a.log)
      (faulty_speech (record (faulty_member fault c.number)
      { own = Some (faulty_description (faulty_member fault c.number) (own_description c (contents_of a.stand.past))) }) a.stand.at asked a.log)
      (λ _. good (faulty_member fault c.number))
      (λ _. good (record (faulty_member fault c.number)
      { own = Some (faulty_description (faulty_member fault c.number) (own_description c (contents_of a.stand.past))) }))

  question-sober : (a : Actor) → is_open a.ending ≡ true → is_slot (shape_in c) a.stand.at c.number ≡ true
      → IsSober (faulty_replies (faulty_member fault c.number)) c Known a
      → IsSober (faulty_replies (faulty_member fault c.number)) c Known (actor_behind_question (faulty_replies (faulty_member fault c.number))
      c a (content_to_say (faulty_replies (faulty_member fault c.number)) c a.stand))
  question-sober a still speaks is =
      let can : CanSay c a.stand.at a.stand.past = record { enter = enters; speaks = speaks; past_is = is.past } in
      answer-sober a _ can (asked-good a can (is.goes still) is) is

  stage-sober : (a : Actor) (posts : List Post) → is_open a.ending ≡ true
      → stage_posts c a ≡ Some posts → IsSober (faulty_replies (faulty_member fault c.number)) c Known a
      → IsSober (faulty_replies (faulty_member fault c.number)) c Known (actor_behind_stage c a (stand_behind c a.stand posts))
  unfolding stand_behind
  stage-sober a posts still e is =
      let there = stage-there c a posts (nat_lt a.stand.at (stage_count (shape_in c))) (all_some (posts_in a.log a.stand.at)) e in
      record {
        form = is.form;
        shape = is.shape;
        reads = is.reads;
        known = is.known;
        past = past-grown c a.log a.stand.at a.stand.past posts is.form is.shape is.past there is.reads;
        past_known = λ number post got. elim (get-append a.stand.past posts number post got) [
          | inl front ↦ is.past_known number post front
          | inr back ↦ more-known a posts is there back.0 post back.2
        ];
        goes = goes-on c a.log a.stand.at a.stand.past posts is.form is.shape is.past there (is.goes still);
        put_off = λ bytes e. absurd cc;
        made = is.made;
      }
    where
      more-known : (a : Actor) (posts : List Post) → IsSober (faulty_replies (faulty_member fault c.number)) c Known a
          → all_some (posts_in a.log a.stand.at) ≡ Some posts → (j : ℕ) (post : Post) → slice_get posts j ≡ Some post → Known post
      more-known a posts is there j post got =
          let longer = past-longer c a.log a.stand.at a.stand.past posts is.form is.shape is.past there in
          let within = slice_get_within posts j post got in
          let whole = is.past.whole in
          let joined = length-append a.stand.past posts in
          let most = slots_before-most (shape_in c) (a.stand.at + 1) in
          let count = length-slots_of (shape_in c) in
          let slot = slot-there (slots_of (shape_in c)) (slots_before (shape_in c) a.stand.at + j)
          (omega (arith, longer, within, whole, joined, most, count)) in
          is.known slot.0 post (kept-there c a.log a.stand.at a.stand.past posts is.form is.shape is.past there j slot.0 post slot.1 got)

  with-sober : (a : Actor) (o : Option (List Post)) → is_open a.ending ≡ true → stage_posts c a ≡ o
      → IsSober (faulty_replies (faulty_member fault c.number)) c Known a
      → IsSober (faulty_replies (faulty_member fault c.number)) c Known (actor_behind_step_with (faulty_replies (faulty_member fault c.number)) c a o)
  with-sober a (Some posts) still e is = stage-sober a posts still e is
  with-sober a None still e is =
      choose (λ (x : Actor). IsSober (faulty_replies (faulty_member fault c.number)) c Known x) (is_due c a.stand a.mood)
      (actor_behind_question (faulty_replies (faulty_member fault c.number)) c a
      (content_to_say (faulty_replies (faulty_member fault c.number)) c a.stand)) a
      (λ due. question-sober a still (due-slot c a.stand a.mood due) is) (λ _. is)

  step-sober : (a : Actor) → IsSober (faulty_replies (faulty_member fault c.number)) c Known a
      → IsSober (faulty_replies (faulty_member fault c.number)) c Known (actor_behind_step (faulty_replies (faulty_member fault c.number)) c a)
  unfolding actor_behind_step
  step-sober a is =
      choose (λ (x : Actor). IsSober (faulty_replies (faulty_member fault c.number)) c Known x) (is_open a.ending)
      (actor_behind_step_with (faulty_replies (faulty_member fault c.number)) c a (stage_posts c a)) a
      (λ still. with-sober a (stage_posts c a) still refl is) (λ _. is)

  steps-sober : (n : ℕ) (a : Actor) → IsSober (faulty_replies (faulty_member fault c.number)) c Known a
      → IsSober (faulty_replies (faulty_member fault c.number)) c Known
      (iterate (actor_behind_step (faulty_replies (faulty_member fault c.number)) c) n a)
  steps-sober zero a is = is
  steps-sober (suc n) a is = steps-sober n (actor_behind_step (faulty_replies (faulty_member fault c.number)) c a) (step-sober a is)

  repeat-sober : (a : Actor) (mood : Mood) → a.mood ≡ mood → is_open a.ending ≡ true
      → IsSober (faulty_replies (faulty_member fault c.number)) c Known a
      → IsSober (faulty_replies (faulty_member fault c.number)) c Known (actor_behind_repeat (faulty_replies (faulty_member fault c.number)) c a mood)
  repeat-sober a (PutOff bytes) e still is =
      let off = is.put_off bytes e in
      subst (λ (b : List ℕ). IsSober (faulty_replies (faulty_member fault c.number)) c Known
      (actor_behind_question (faulty_replies (faulty_member fault c.number)) c a b)) (sym off.0) (question-sober a still off.1 is)
  repeat-sober a Unasked e still is = is
  repeat-sober a Spoken e still is = is
  repeat-sober a Mute e still is = is

  with-heard : (a : Actor) (bytes : List ℕ) (heard : Heard) → IsBytes bytes → Given bytes → heard_of c bytes ≡ Some heard
      → is_ok heard.content ≡ true → IsSober (faulty_replies (faulty_member fault c.number)) c Known a
      → IsSober (faulty_replies (faulty_member fault c.number)) c Known (actor_with_heard a heard)
  with-heard a bytes heard are given e ok is =
      let slot : Slot = slot_named heard.header in
      let its = first_posts_delivered c (bytes ∷ []) slot heard.post (all-one bytes are) (first-is c bytes heard e ok) in
      let one : its.bytes ≡ bytes = elim (contains-cases bytes [] its.bytes its.listed) [
        | inl here ↦ sym here
        | inr never ↦ absurd (contains-nothing its.bytes never)
      ] in
      let read = checks-read c slot heard.post its.checks in
      let speaks : is_slot a.log.shape slot.stage slot.sender ≡ true
      = ap (λ (s : Shape). is_slot s slot.stage slot.sender) is.shape ∙ (heard-other c bytes heard are e).speaks in
      record {
        form = filled-is_log a.log slot heard.post is.form (kept-of c slot heard.post read);
        shape = is.shape;
        reads = filled-holds c a.log slot heard.post (λ s p. ReadsIn c s p) is.form speaks is.reads read;
        known = filled-holds c a.log slot heard.post (λ s p. Known p) is.form speaks is.known
            (given-known bytes heard.post given (ap frame_of (sym one) ∙ its.spelled));
        past = is.past;
        past_known = is.past_known;
        goes = is.goes;
        put_off = is.put_off;
        made = is.made;
      }

  heard-sober : (a : Actor) (bytes : List ℕ) (o : Option Heard) → IsBytes bytes → Given bytes → heard_of c bytes ≡ o → is_open a.ending ≡ true
      → fault_shown c (kept_in a.log) bytes ≡ None → IsSober (faulty_replies (faulty_member fault c.number)) c Known a
      → IsSober (faulty_replies (faulty_member fault c.number)) c Known (actor_behind_heard (faulty_replies (faulty_member fault c.number)) c a o)
  heard-sober a bytes None are given e still none is = is
  heard-sober a bytes (Some heard) are given e still none is =
      let kept : Actor = actor_with_heard a heard in
      let again : Actor = actor_behind_repeat (faulty_replies (faulty_member fault c.number)) c kept a.mood in
      choose (λ (x : Actor). IsSober (faulty_replies (faulty_member fault c.number)) c Known x)
      (is_some (kept_in a.log (slot_named heard.header))) a
      (actor_behind_steps (faulty_replies (faulty_member fault c.number)) c again) (λ _. is)
      (λ _. steps-sober (2 * stage_count (shape_in c)) again (repeat-sober kept a.mood refl still
      (with-heard a bytes heard are given e (no-fault c a bytes heard e none) is)))

  fault-sober : (a : Actor) (bytes : List ℕ) (o : Option Verdict) → IsBytes bytes → Given bytes → is_open a.ending ≡ true
      → fault_shown c (kept_in a.log) bytes ≡ o → IsSober (faulty_replies (faulty_member fault c.number)) c Known a
      → IsSober (faulty_replies (faulty_member fault c.number)) c Known
      (actor_behind_fault (faulty_replies (faulty_member fault c.number)) c a bytes o)
  fault-sober a bytes (Some verdict) are given still e is = record {
    form = is.form;
    shape = is.shape;
    reads = is.reads;
    known = is.known;
    past = is.past;
    past_known = is.past_known;
    goes = λ _. is.goes still;
    put_off = is.put_off;
    made = is.made;
  }
  fault-sober a bytes None are given still e is = heard-sober a bytes (heard_of c bytes) are given refl still e is

  delivery-sober : (a : Actor) (bytes : List ℕ) → IsBytes bytes → Given bytes
      → IsSober (faulty_replies (faulty_member fault c.number)) c Known a
      → IsSober (faulty_replies (faulty_member fault c.number)) c Known
      (actor_behind_delivery (faulty_replies (faulty_member fault c.number)) c a bytes)
  unfolding actor_behind_delivery
  delivery-sober a bytes are given is =
      choose (λ (x : Actor). IsSober (faulty_replies (faulty_member fault c.number)) c Known x) (is_open a.ending)
      (actor_behind_fault (faulty_replies (faulty_member fault c.number)) c a bytes (fault_shown c (kept_in a.log) bytes)) a
      (λ still. fault-sober a bytes (fault_shown c (kept_in a.log) bytes) are given still refl is) (λ _. is)

  deliveries-sober : (a : Actor) (delivered : List (List ℕ)) → AllByRecursion IsBytes delivered → AllByRecursion Given delivered
      → IsSober (faulty_replies (faulty_member fault c.number)) c Known a
      → IsSober (faulty_replies (faulty_member fault c.number)) c Known
      (fold (actor_behind_delivery (faulty_replies (faulty_member fault c.number)) c) a delivered)
  deliveries-sober a [] are given is = is
  deliveries-sober a (bytes ∷ delivered) are given is =
      deliveries-sober (actor_behind_delivery (faulty_replies (faulty_member fault c.number)) c a bytes) delivered are.1 given.1
      (delivery-sober a bytes are.0 given.0 is)

  start-sober : IsSober (faulty_replies (faulty_member fault c.number)) c Known (first_actor c)
  start-sober = record {
    form = empty-form c enters;
    shape = refl;
    reads = λ slot post e. absurd (empty-nothing (shape_in c) slot post e);
    known = λ slot post e. absurd (empty-nothing (shape_in c) slot post e);
    past = record { whole = refl; reads = λ number slot post found got. absurd (none-some post got) };
    past_known = λ number post got. absurd (none-some post got);
    goes = λ _ earlier lt. absurd (omega (arith, lt));
    put_off = λ bytes e. absurd cc;
    made = λ post there. absurd (contains-nothing post there);
  }

  -- behind all deliveries
  pub member-is-sober : (delivered : List (List ℕ)) → AllByRecursion IsBytes delivered → AllByRecursion Given delivered
      → IsSober (faulty_replies (faulty_member fault c.number)) c Known
      (actor_after (faulty_replies (faulty_member fault c.number)) c delivered)
  unfolding actor_after
  member-is-sober delivered are given =
      deliveries-sober (actor_at_start (faulty_replies (faulty_member fault c.number)) c) delivered are given
      (steps-sober (2 * stage_count (shape_in c)) (first_actor c) start-sober)
