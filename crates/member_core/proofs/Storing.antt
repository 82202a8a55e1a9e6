-- A post of another member that is kept: what is true of a member stays true.
use Rattle.std.proofs.Common.{◌≡◌, ℕ, ◌+◌, ◌*◌, ◌^◌, ◌<◌, ◌≤◌, Bool, true, false, List, [], length, Option, Some, None, ap, sym, ◌∙◌, refl, subst, arith, inl, inr}
use Rattle.std.specs.Prelude.{◌++◌, IfSome, IsSome, ◌==◌, unwrap_or, if◌then◌else◌}
use Rattle.std.specs.Option.{option_map, option_to_list}
use Rattle.std.proofs.lemmas.Bool.{cases_Bool, cond-false, cond-true, ltb-true}
use Rattle.phase_message.specs.declared.post.Post.{Post}
use Rattle.phase_message.specs.declared.post.TheConstants.{POST_LIMIT}
use Rattle.phase_message.specs.declared.stage.Slot.{Slot}
use Rattle.phase_message.specs.declared.stage.StageKind.{StageKind}
use Rattle.phase_message.specs.declared.stage.StageKind.TheVariants.{Keys, Submit, Shuffle, Go, Final, Pad, Check, Confirm}
use Rattle.phase_message.specs.Post.{post_spelling}
use Rattle.phase_message.specs.Shape.{Shape}
use Rattle.phase_message.specs.Slots.{stage_count}
use Rattle.phase_message.specs.Stages.{kind_of_stage}
use Rattle.signed_post.specs.declared.post.TheConstants.{LONGEST_SIGNATURE}
use Rattle.stage_log.specs.Log.{before, contents_of}
use Rattle.stage_log.specs.Seen.{HasSeen}
use Rattle.stage_log.specs.Table.{Log, filled, kept_in}
use Rattle.stage_log.proofs.Entries.{filled-is_log}
use Rattle.stage_log.proofs.KeptPosts.{kept-post}
use Rattle.stage_log.proofs.Fronts.{before-front, before-put, some_is}
use Rattle.stage_log.proofs.Pasts.{some_of}
use Rattle.shuffle_blame.specs.Asked.{past_of}
use Rattle.honest_say.specs.declared.group_keys.GroupKeys.{GroupKeys}
use Rattle.honest_say.specs.declared.opening.Slots.{Slots}
use Rattle.honest_say.specs.Opened.{AreSlotsSaid}
use Rattle.honest_say.specs.Own.{AreGroupKeys}
use Rattle.honest_say.specs.Pasts.{posts_before}
use Rattle.round_spec.specs.Say.{Configuration, own_submission}
use Rattle.round_spec.specs.Slots.{items_opened, submit_stage}
use Rattle.round_spec.specs.Verdict.{Convicts, Done as DoneVerdict, Goes, Verdict}
use Rattle.round_spec.specs.Course.{is_open}
use Rattle.round_spec.specs.Result.{Waiting, outcome_ended}
use Rattle.closing_verdict.specs.Carried.{CarriesOpened, CarriesSlots, stage_found, stage_opened}
use Rattle.member_spec.specs.declared.mood.Mood.{Mood}
use Rattle.member_spec.specs.declared.mood.Mood.TheVariants.{Unasked, PutOff, Spoken, Mute}
use Rattle.member_spec.specs.Actor.{Actor, descriptor_made}
use Rattle.member_spec.specs.Outcomes.{members_missing, outcome_of}
use Rattle.member_spec.specs.Replies.{Replies}
use Rattle.member_spec.proofs.Moves.{filter-in}
use Rattle.member_parts.specs.declared.ending.Ending.{Ending}
use Rattle.member_parts.specs.declared.ending.Ending.TheVariants.{Blamed, Done, Open, Stopped}
use Rattle.member_parts.specs.Endings.{IsOpen}
use Rattle.member_core.specs.declared.machine.Machine.{Machine}
use Rattle.member_core.specs.Found.{IsOthers, IsStorable}
use Rattle.member_core.specs.Membership.{Holdings, holdings_of, own_posts_kept, posts_made}
use Rattle.member_core.specs.Needs.{HoldsNeeded, stages_behind, was_asked}
use Rattle.member_core.specs.Shorts.{IsShortLog, most_in, own_limit}
use Rattle.member_core.specs.Sound.{CarriesKeys, IsFormed, IsMoodOf, IsReady, IsSound}
use Rattle.member_core.specs.Stands.{AnswersBy, GoesOn, IsOwnOf, KeepsOwn, ShowsOutcome, StandsFor}
use Rattle.member_core.proofs.OwnPosts.{kept-elsewhere}
use Rattle.member_core.proofs.Saying.{filled-stands, put-fills}

-- ---- one slot of another is filled

-- the slots of the member stay as they were
pub own-stays : (log : Log) (number : ℕ) (slot : Slot) (post : Post) (stage : ℕ) → IsOthers log number slot
    → kept_in (filled log slot post) (record { stage = stage; sender = number }) ≡ kept_in log (record { stage = stage; sender = number })
own-stays log number slot post stage is = kept-elsewhere log slot (record { stage = stage; sender = number }) post is.speaks
    (λ same. is.other (sym (ap (λ (s : Slot). s.sender) same)))

-- so its posts do
pub made-stays : (log : Log) (number : ℕ) (slot : Slot) (post : Post) → IsOthers log number slot
    → own_posts_kept (filled log slot post) number ≡ own_posts_kept log number
unfolding own_posts_kept
made-stays log number slot post is = filter-in (λ stage. kept_in (filled log slot post) (record { stage = stage; sender = number }))
    (λ stage. kept_in log (record { stage = stage; sender = number })) 0 (stage_count log.shape)
    (λ x le lt. own-stays log number slot post x is)

-- what was said before a stage stays
pub before-stays : (log : Log) (number : ℕ) (slot : Slot) (post : Post) (stage : ℕ) (posts : List Post) → IsOthers log number slot
    → before log stage ≡ Some posts → before (filled log slot post) stage ≡ Some posts
before-stays log number slot post stage posts is e =
    subst (λ (l : Log). before l stage ≡ Some posts) (put-fills log slot post is.empty) (before-put log slot post stage posts is.speaks e)

stays-before : (log : Log) (number : ℕ) (slot : Slot) (post : Post) (stage later : ℕ) → IsOthers log number slot → IsSome (before log later)
    → stage ≤ later → before (filled log slot post) stage ≡ before log stage
stays-before log number slot post stage later is complete le =
    let past = some_of (before log later) complete in
    let front = before-front log stage later past.0 le past.1 in
    before-stays log number slot post stage _ is front ∙ sym front

pub past-stays : (log : Log) (number : ℕ) (slot : Slot) (post : Post) (stage later : ℕ) → IsOthers log number slot
    → IsSome (before log later)
    → stage ≤ later → past_of (filled log slot post) stage ≡ past_of log stage
past-stays log number slot post stage later is complete le =
    ap (λ (o : Option (List Post)). contents_of (unwrap_or o [])) (stays-before log number slot post stage later is complete le)

pub posts-stay : (log : Log) (number : ℕ) (slot : Slot) (post : Post) (stage later : ℕ) → IsOthers log number slot
    → IsSome (before log later)
    → stage ≤ later → posts_before (filled log slot post) stage ≡ posts_before log stage
posts-stay log number slot post stage later is complete le =
    ap (λ (o : Option (List Post)). unwrap_or o []) (stays-before log number slot post stage later is complete le)

-- ---- how long posts are

-- a limit of an own content is no less than that of posts, and no more than at the end of shuffle B
record IsLimit (limit : ℕ) : Type 0 where
  pub least : POST_LIMIT ≤ limit
  pub most : limit ≤ 209 * POST_LIMIT

limit-is : (kind : Option StageKind) → IsLimit (own_limit kind)
limit-is None = record { least = omega arith; most = omega arith }
limit-is (Some Keys) = record { least = omega arith; most = omega arith }
limit-is (Some (Submit shuffle)) = record { least = omega arith; most = omega arith }
limit-is (Some (Shuffle shuffle k)) = record { least = omega arith; most = omega arith }
limit-is (Some (Go shuffle)) = record { least = omega arith; most = omega arith }
limit-is (Some (Final shuffle)) = elim (cases_Bool (shuffle == 1)) [
  | inl first ↦ (let told = cond-true (shuffle == 1) (33 * POST_LIMIT) (209 * POST_LIMIT) first in record
      { least = omega (arith, told); most = omega (arith, told) })
  | inr second ↦ (let told = cond-false (shuffle == 1) (33 * POST_LIMIT) (209 * POST_LIMIT) second in record
      { least = omega (arith, told); most = omega (arith, told) })
]
limit-is (Some Pad) = record { least = omega arith; most = omega arith }
limit-is (Some Check) = record { least = omega arith; most = omega arith }
limit-is (Some Confirm) = record { least = omega arith; most = omega arith }

pub own-least : (kind : Option StageKind) → POST_LIMIT ≤ own_limit kind
own-least kind = (limit-is kind).least

-- so the length of an own content can be written in four bytes
pub limit-small : (kind : Option StageKind) → own_limit kind < 2 ^ 32
limit-small kind = omega (arith, (limit-is kind).most)

-- a limit of a post is no less than that of posts, and can be written in four bytes
most-within : (shape : Shape) (number stage sender : ℕ)
    → (POST_LIMIT ≤ most_in shape number stage sender) × (most_in shape number stage sender < 2 ^ 32)
most-within shape number stage sender = elim (cases_Bool (sender == number)) [
  | inl own ↦
      let told = cond-true (sender == number) (own_limit (kind_of_stage shape stage) + (4 + LONGEST_SIGNATURE)) POST_LIMIT own in
      let least = own-least (kind_of_stage shape stage) in
      let most = (limit-is (kind_of_stage shape stage)).most in
      (omega (arith, told, least), omega (arith, told, most))
  | inr other ↦
      let told = cond-false (sender == number) (own_limit (kind_of_stage shape stage) + (4 + LONGEST_SIGNATURE)) POST_LIMIT other in
      (omega (arith, told), omega (arith, told))
]

-- the length of a kept post can be written in four bytes
pub kept-short : (number : ℕ) (log : Log) (slot : Slot) (post : Post) → IsShortLog number log → kept_in log slot ≡ Some post
    → length (post_spelling post) < 2 ^ 32
kept-short number log slot post short e =
    let most = short slot.stage slot.sender post e in
    let below = (most-within log.shape number slot.stage slot.sender).1 in
    omega (arith, most, below)

if-kept : (o : Option Post) (P : Post → Type 0) → ((post : Post) → o ≡ Some post → P post) → IfSome o P
if-kept None P each = tt
if-kept (Some post) P each = each post refl

-- so it can be of the post of a slot, if one is kept there
pub short-there : (number : ℕ) (log : Log) (slot : Slot) → IsShortLog number log
    → IfSome (kept_in log slot) (λ (post : Post). length (post_spelling post) < 2 ^ 32)
short-there number log slot short = if-kept (kept_in log slot) (λ (post : Post). length (post_spelling post) < 2 ^ 32)
    (λ post e. kept-short number log slot post short e)

short-stays : (log : Log) (number : ℕ) (slot : Slot) (post : Post) → length (post_spelling post) ≤ POST_LIMIT → IsShortLog number log
    → IsShortLog number (filled log slot post)
short-stays log number slot post small short stage sender kept e = elim
    (kept-post log slot (record { stage = stage; sender = sender }) post kept e) [
      | inl old ↦ short stage sender kept old
      | inr new ↦
          let least = (most-within log.shape number stage sender).0 in
          let same = ap (λ (p : Post). length (post_spelling p)) new in
          omega (arith, least, same, small)
    ]

-- ---- the code

-- the member with a post in a slot
abbrev pub with_post : Machine → Slot → Post → Machine
with_post m slot post = record m { log = filled m.log slot post }

-- the posts that it made
posts-made : (h : Holdings) (slot : Slot) (post : Post) → IsOthers h.log h.number slot
    → posts_made (record h { log = filled h.log slot post }) ≡ posts_made h
posts-made h slot post is = ap (λ (posts : List Post). posts ++ option_to_list h.stray) (made-stays h.log h.number slot post is)

pub formed-stays : (m : Machine) (slot : Slot) (post : Post) → IsStorable m slot post → IsFormed m → IsFormed (with_post m slot post)
formed-stays m slot post s f =
    let made = ap length (posts-made (holdings_of m) slot post s.others) in
    record {
      entered = f.entered;
      message = f.message;
      log = filled-is_log m.log slot post f.log s.kept;
      shape = f.shape;
      stand = filled-stands m.log slot post s.others.speaks s.others.empty s.stands f.stand;
      short = short-stays m.log m.seat.number slot post s.short f.short;
      leaves = (let was = f.leaves in omega (arith, made, was));
      handed = (let was = f.handed in omega (arith, made, was));
      stray = f.stray;
    }

pub keys-stay : (log : Log) (slot : Slot) (post : Post) (stage : ℕ) (o : Option GroupKeys)
    → (IsSome o → past_of (filled log slot post) 1 ≡ past_of log 1)
    → CarriesKeys log stage o → CarriesKeys (filled log slot post) stage o
keys-stay log slot post stage None same e = e
keys-stay log slot post stage (Some keys) same e = record {
  said = subst (λ (past : List (List ℕ)). AreGroupKeys log.shape past keys) (sym (same refl)) e.said;
  counts = e.counts;
}

pub opened-stay : (log : Log) (slot : Slot) (post : Post) (stage : ℕ) (o : Option (List (Option (List ℕ))))
    → (IsSome o → past_of (filled log slot post) (stage_opened log) ≡ past_of log (stage_opened log))
    → CarriesOpened log stage o → CarriesOpened (filled log slot post) stage o
opened-stay log slot post stage None same e = e
opened-stay log slot post stage (Some items) same e = record {
  are = e.are ∙ ap (λ (past : List (List ℕ)). items_opened log.shape past 1) (sym (same refl));
  count = e.count;
}

pub slots-stay : (log : Log) (slot : Slot) (post : Post) (stage : ℕ) (o : Option Slots)
    → (IsSome o → past_of (filled log slot post) (stage_found log) ≡ past_of log (stage_found log))
    → CarriesSlots log stage o → CarriesSlots (filled log slot post) stage o
slots-stay log slot post stage None same e = e
slots-stay log slot post stage (Some slots) same e = subst (λ (past : List (List ℕ)). AreSlotsSaid log.shape past slots) (sym (same refl)) e

pub some-mapped : {A B : Type 0} (f : A → B) (o : Option A) → IsSome (option_map f o) → IsSome o
some-mapped f (Some x) is = refl
some-mapped f None is = absurd cc

mood-stays : (m : Machine) (slot : Slot) (post : Post) (mood : Mood) → IsOthers m.log m.seat.number slot → IsMoodOf m mood
    → IsMoodOf (with_post m slot post) mood
mood-stays m slot post Unasked is e = (λ later le. own-stays m.log m.seat.number slot post later is ∙ e.0 later le, e.1)
mood-stays m slot post (PutOff bytes) is e = (
  λ later le. own-stays m.log m.seat.number slot post later is
      ∙ e.0 later le,
  e.1,
  e.2,
)
mood-stays m slot post Spoken is e = (
  λ later le. own-stays m.log m.seat.number slot post later is
      ∙ e.0 later le,
  e.1,
  subst IsSome (sym (own-stays m.log m.seat.number slot post m.stage is)) e.2,
)
mood-stays m slot post Mute is e = (λ later le. own-stays m.log m.seat.number slot post later is ∙ e.0 later le, e.1)

pub ready-stays : (m : Machine) (slot : Slot) (post : Post) → IsStorable m slot post → IsReady m → IsReady (with_post m slot post)
ready-stays m slot post s r =
    let past = some_of (before m.log m.stage) r.past in
    record {
      stage = r.stage;
      past = some_is (before (filled m.log slot post) m.stage) past.0
          (before-stays m.log m.seat.number slot post m.stage past.0 s.others past.1);
      seen = subst (λ (said : List (List ℕ)). HasSeen m.log.shape said m.stage m.seen)
          (sym (past-stays m.log m.seat.number slot post m.stage m.stage s.others r.past (omega arith))) r.seen;
      keys = keys-stay m.log slot post m.stage m.keys
          (λ there. past-stays m.log m.seat.number slot post 1 m.stage s.others r.past (r.keys_behind there)) r.keys;
      opened = opened-stay m.log slot post m.stage (option_map (λ items. items.items) m.opened)
          (λ there. past-stays m.log m.seat.number slot post (stage_opened m.log) m.stage s.others r.past
          (r.opened_behind (some-mapped (λ items. items.items) m.opened there))) r.opened;
      slots = slots-stay m.log slot post m.stage m.slots
          (λ there. past-stays m.log m.seat.number slot post (stage_found m.log) m.stage s.others r.past (r.slots_behind there)) r.slots;
      keys_behind = r.keys_behind;
      opened_behind = r.opened_behind;
      slots_behind = r.slots_behind;
      mood = mood-stays m slot post m.mood s.others r.mood;
    }

pub needed-stays : (h : Holdings) (slot : Slot) (post : Post) → HoldsNeeded h → HoldsNeeded (record h { log = filled h.log slot post })
needed-stays h slot post n = record { first = n.first; bulk = n.bulk; second = n.second }

pub sound-stays : (m : Machine) (slot : Slot) (post : Post) → IsStorable m slot post → IsSound m → IsSound (with_post m slot post)
sound-stays m slot post s is = record {
  formed = formed-stays m slot post s is.formed;
  ready = λ going. ready-stays m slot post s (is.ready going);
  needed = needed-stays (holdings_of m) slot post is.needed;
}

-- ---- the pure machine

-- a member that shows an open round stands for one that is open
pub open-shown : (c : Configuration) (a : Actor) → ShowsOutcome Open (outcome_of c a) → is_open a.ending ≡ true
open-shown c a shows = by_verdict a.ending shows
  where
    by_verdict : (v : Verdict) → ShowsOutcome Open (if is_open v then Waiting a.stand.at (members_missing c a) else outcome_ended c a.stand
        v) → is_open v ≡ true
    by_verdict Goes shows = refl
    by_verdict DoneVerdict shows = absurd shows
    by_verdict (Convicts t) shows = absurd shows

pub shown-open : (c : Configuration) (a : Actor) → is_open a.ending ≡ true → ShowsOutcome Open (outcome_of c a)
shown-open c a still = by_verdict a.ending still
  where
    by_verdict : (v : Verdict) → is_open v ≡ true → ShowsOutcome Open
        (if is_open v then Waiting a.stand.at (members_missing c a) else outcome_ended c a.stand v)
    by_verdict Goes still = tt
    by_verdict DoneVerdict still = absurd cc
    by_verdict (Convicts t) still = absurd cc

-- where the round is open, another log shows the same
shows-stays : (c : Configuration) (a : Actor) (log : Log) (ending : Ending) → IsOpen ending → ShowsOutcome ending (outcome_of c a)
    → ShowsOutcome ending (outcome_of c (record a { log = log }))
shows-stays c a log Open still shows = shown-open c (record a { log = log }) (open-shown c a shows)
shows-stays c a log (Done slots) still shows = absurd still
shows-stays c a log (Blamed conviction) still shows = absurd still
shows-stays c a log Stopped still shows = absurd still

behind-most : (stage : ℕ) (mood : Mood) → stages_behind stage mood ≤ stage + 1
behind-most stage Unasked = omega arith
behind-most stage (PutOff bytes) = omega arith
behind-most stage Spoken = omega arith
behind-most stage Mute = omega arith

-- a stage where it was asked is not behind where it stands
pub asked-within : (stage : ℕ) (mood : Mood) (other : ℕ) → was_asked stage mood other ≡ true → other ≤ stage
asked-within stage mood other e = (let lt = ltb-true other (stages_behind stage mood) e in let most = behind-most stage mood in omega
    (arith, lt, most))

pub answers-stay : (now start : Replies) (c : Configuration) (past other : List (List ℕ)) (b : Bool) → (b ≡ true → other ≡ past)
    → AnswersBy now start c past b
    → AnswersBy now start c other b
answers-stay now start c past other true same e = subst (λ (said : List (List ℕ)). AnswersBy now start c said true) (sym (same refl)) e
answers-stay now start c past other false same e = e

pub stands-stays : (now start : Replies) (c : Configuration) (a : Actor) (h : Holdings) (slot : Slot) (post : Post)
    → IsOthers h.log h.number slot
    → IsOpen h.ending → StandsFor now start c a h
    → StandsFor now start c (record a { log = filled a.log slot post }) (record h { log = filled h.log slot post })
stands-stays now start c a h slot post is still s = record {
  can_enter = s.can_enter;
  entered = record {
    roster = s.entered.roster;
    number = s.entered.number;
    round = s.entered.round;
    message = s.entered.message;
    key = s.entered.key;
    next = s.entered.next ∙ ap (λ (posts : List Post). c.first + length posts) (sym made);
    secrets = s.entered.secrets;
  };
  at = record {
    log = ap (λ (log : Log). filled log slot post) s.at.log;
    stage = s.at.stage;
    past = before-stays h.log h.number slot post h.stage a.stand.past is s.at.past;
    mood = s.at.mood;
    made = made ∙ s.at.made;
    ending = shows-stays c a (filled a.log slot post) h.ending still s.at.ending;
  };
  conduct = conduct_stays h.mood s.conduct;
  own = own_stay h.mood s.own;
}
  where
    after : Holdings
    after = record h { log = filled h.log slot post }

    complete : IsSome (before h.log h.stage)
    complete = some_is (before h.log h.stage) a.stand.past s.at.past

    made : posts_made after ≡ posts_made h
    made = posts-made h slot post is

    past_same : (other : ℕ) → was_asked h.stage h.mood other ≡ true → past_of (filled h.log slot post) other ≡ past_of h.log other
    past_same other asked = past-stays h.log h.number slot post other h.stage is complete (asked-within h.stage h.mood other asked)

    answers : AnswersBy now start c (past_of h.log 1) (was_asked h.stage h.mood 1)
        → AnswersBy now start c (past_of (filled h.log slot post) 1) (was_asked h.stage h.mood 1)
    answers e = answers-stay now start c (past_of h.log 1) (past_of (filled h.log slot post) 1) (was_asked h.stage h.mood 1) (past_same 1) e

    conduct_stays : (mood : Mood) → GoesOn now start c h mood → GoesOn now start c after mood
    conduct_stays Unasked e = answers e
    conduct_stays (PutOff bytes) e = answers e
    conduct_stays Spoken e = answers e
    conduct_stays Mute e = tt

    own_is : IsOwnOf start c h → IsOwnOf start c after
    own_is o = record {
      descriptor = λ asked. o.descriptor asked
          ∙ ap (descriptor_made start c) (sym (posts-stay h.log h.number slot post 1 h.stage is complete
          (asked-within h.stage h.mood 1 asked)));
      pad = o.pad;
      first = λ asked not_yet. o.first asked not_yet
          ∙ ap (λ (past : List (List ℕ)). (own_submission c h.own.descriptor past 1).inner_ciphertext) (sym (past_same 1 asked));
      second = λ asked. o.second asked
          ∙ ap (λ (past : List (List ℕ)). (own_submission c h.own.descriptor past 2).inner_ciphertext)
          (sym (past_same (submit_stage h.log.shape 2) asked));
    }

    own_stay : (mood : Mood) → KeepsOwn start c h mood → KeepsOwn start c after mood
    own_stay Unasked o = own_is o
    own_stay (PutOff bytes) o = own_is o
    own_stay Spoken o = own_is o
    own_stay Mute o = tt
