-- Where a log that a closing content embeds differs from what was kept: the first such slot is the one that convicts.
use Rattle.std.proofs.Common.{◌≡◌, ℕ, zero, suc, ◌+◌, ◌-◌, ◌<◌, ◌≤◌, ◌^◌, Bool, true, false, List, [], ◌∷◌, ◌++◌, length, get_or, map, take, drop, replicate, Option, Some, None, Result, Ok, refl, sym, ap, subst, ◌∙◌, arith, inl, inr}
use Rattle.std.specs.Prelude.{◌⊎◌, IsSome, bytes_eq, option_and_then, zip}
use Rattle.std.specs.List.{AllByRecursion, slice_get, slice_range}
use Rattle.std.specs.Option.{option_flatten}
use Rattle.std.proofs.lemmas.Bool.{both_ways, cases_Bool, cases_lt, cond-false, cond-true, false_from_ne_true}
use Rattle.std.proofs.lemmas.List.{length-take}
use Rattle.std.proofs.lemmas.Slice.Eq.{bytes_eq-Decides}
use Rattle.wire_core.specs.Answers.{◌>>=◌, fault_as, first_some}
use Rattle.wire_core.proofs.Readings.{bind_ok, fault_as_ok}
use Rattle.phase_message.specs.declared.content.Content.{Content}
use Rattle.phase_message.specs.declared.post.Post.{Post}
use Rattle.phase_message.specs.declared.stage.Slot.{Slot}
use Rattle.phase_message.specs.declared.offence.Offence.{Offence}
use Rattle.phase_message.specs.declared.content.Body.{Body}
use Rattle.phase_message.specs.declared.content.Body.TheVariants.{Keys, Submit, Shuffled, Abort, Go, Reveal, Dispute, Pads, Check, Confirm, Differ as DiffersBody}
use Rattle.phase_message.specs.Grammar.{ItemsAreShort, OfGrammar}
use Rattle.phase_message.proofs.Written.{fits-short}
use Rattle.phase_message.specs.Post.{post_spelling}
use Rattle.phase_message.specs.Shape.{Shape}
use Rattle.phase_message.specs.Slots.{slot_at, slot_count, slot_number, slots_before, slots_of}
use Rattle.phase_message.specs.Stages.{is_slot, kind_of_stage, vote_of}
use Rattle.phase_message.proofs.Closings.{closing-follows}
use Rattle.phase_message.proofs.SlotLists.{slot_at-is, slot_at-number, slot_number-later, slot_number-rises, slot_number-within, slots_before-rises}
use Rattle.group_roster.specs.Roster.{shape_of_roster}
use Rattle.signed_post.specs.Frame.{frame_of}
use Rattle.stage_log.specs.Table.{Log, kept_in}
use Rattle.go_nogo.specs.Closing.{IsClosing, is_assent, posts_embedded, slots_embedded}
use Rattle.go_nogo.specs.Differences.{Differ, HaveNoDifference, IsFirstDifference}
use Rattle.stage_log.proofs.KeptPosts.{kept-slot}
use Rattle.transcript_form.specs.declared.claim.Claim.TheVariants.{Equivocation}
use Rattle.round_spec.specs.Embedded.{BadPost, WhyNot, post_for_slot, posts_for}
use Rattle.round_spec.specs.Verdict.{ClosedStage, Verdict, closing_content, content_of_post, conviction, equivocation_in, pairs_read, post_in, second_content, sent_in}
use Rattle.round_spec.proofs.Embedding.{post-for-slot}
use Rattle.embedded_log.specs.Embedding.{KeepsEmbedded, first_embedded, places_of}
use Rattle.embedded_log.proofs.EmbeddedLogs.{NumberedFrom, Spans, closing_kind, numbered, spans}
use Rattle.closing_verdict.specs.declared.convicting.Conviction.{Conviction}
use Rattle.closing_verdict.specs.Closed.{TellsSecond}
use Rattle.closing_verdict.specs.Convicting.{TellsConviction}
use Rattle.closing_verdict.specs.Judgement.{Completed, IsComplete, stage_closed}
use Rattle.closing_verdict.proofs.ClosingPosts.{closed-kept}

abbrev nothing : Post
nothing = record { content = []; signature = [] }

abbrev some_post : Post → Option Post
some_post post = Some post

abbrev none_post : Option Post
none_post = None

post-is : (a b : Post) → some_post a ≡ some_post b → a ≡ b
post-is a b e = cc

never : (post : Post) → none_post ≡ some_post post → ⊥
never post e = absurd cc

-- ---- what stands at the places of an embedded log

abbrev pub at_place : List (Option Post) → ℕ → Option Post
at_place places n = option_flatten (slice_get places n)

place-before : (first : ℕ) (rest : List (Option Post)) (n : ℕ) → n < first → at_place (replicate first none_post ++ rest) n ≡ None
place-before zero rest n lt = absurd (omega (arith, lt))
place-before (suc first) rest zero lt = refl
place-before (suc first) rest (suc n) lt = place-before first rest n (omega (arith, lt))

place-behind : (first : ℕ) (rest : List (Option Post)) (n : ℕ) → at_place (replicate first none_post ++ rest) (first + n) ≡ at_place rest n
place-behind zero rest n = let e : 0 + n ≡ n = omega arith in ap (at_place rest) e
place-behind (suc first) rest n =
    let e : suc first + n ≡ suc (first + n) = omega arith in
    ap (at_place (replicate (suc first) none_post ++ rest)) e ∙ place-behind first rest n

kept-front : (posts : List Post) (rest : List (Option Post)) (n : ℕ) → n < length posts
    → at_place (map some_post posts ++ rest) n ≡ Some (get_or posts n nothing)
kept-front [] rest n lt = absurd (omega arith)
kept-front (post ∷ posts) rest zero lt = refl
kept-front (post ∷ posts) rest (suc n) lt = kept-front posts rest n (omega arith)

none-there : (m n : ℕ) → at_place (replicate m none_post) n ≡ None
none-there zero n = refl
none-there (suc m) zero = refl
none-there (suc m) (suc n) = none-there m n

kept-behind : (posts : List Post) (m n : ℕ) → length posts ≤ n → at_place (map some_post posts ++ replicate m none_post) n ≡ None
kept-behind [] m n le = none-there m n
kept-behind (post ∷ posts) m zero le = absurd (omega arith)
kept-behind (post ∷ posts) m (suc n) le = kept-behind posts m n (omega arith)

-- posts stand at the places from a number on,
abbrev pub StandFrom : List (Option Post) → ℕ → List Post → Type 0
StandFrom places first posts = (i : ℕ) → i < length posts → at_place places (first + i) ≡ Some (get_or posts i nothing)

-- and nothing at any other
abbrev pub StandNowhereElse : List (Option Post) → ℕ → List Post → Type 0
StandNowhereElse places first posts = (n : ℕ) (post : Post) → at_place places n ≡ Some post → (first ≤ n) × (n < first + length posts)

pub stand-from : (first count : ℕ) (posts : List Post) → StandFrom (places_of first count posts) first posts
stand-from first count posts i lt =
    place-behind first (map some_post posts ++ replicate (count - (first + length posts)) none_post) i
    ∙ kept-front posts (replicate (count - (first + length posts)) none_post) i lt

pub stand-only : (first count : ℕ) (posts : List Post) → StandNowhereElse (places_of first count posts) first posts
stand-only first count posts n post e =
    let rest : List (Option Post) = map some_post posts ++ replicate (count - (first + length posts)) none_post in
    elim (cases_lt n first) [
      | inl before ↦ absurd (never post (sym (place-before first rest n before) ∙ e))
      | inr behind ↦
          let m : ℕ = n - first in
          let back : first + m ≡ n = omega (arith, behind) in
          elim (cases_lt m (length posts)) [
            | inl within ↦ (behind, omega (arith, within, back))
            | inr past ↦ absurd (never post (sym (ap (at_place (replicate first none_post ++ rest)) (sym back) ∙ place-behind first rest m
                ∙ kept-behind posts (count - (first + length posts)) m past) ∙ e))
          ]
    ]

-- ---- one embedded post

-- what convicts the sender of a slot for which these bytes are embedded
abbrev pub other_told : ClosedStage → Slot → List ℕ → Verdict
other_told v slot bytes = conviction v.round slot.sender Equivocation (sent_in v slot.stage slot.sender ∷ bytes ∷ [])

-- the content that is embedded, and that which was kept
abbrev is_alike : ClosedStage → Slot → List ℕ → Bool
is_alike v slot bytes = bytes_eq (content_of_post (frame_of bytes)) (post_in v slot.stage slot.sender).content

alike : (v : ClosedStage) (log own : Log) (slot : Slot) (bytes : List ℕ) (post : Post) → frame_of bytes ≡ Ok post
    → kept_in log slot ≡ Some post
    → kept_in own slot ≡ Some (post_in v slot.stage slot.sender) → (Differ log own slot → ⊥) → second_content v (slot, bytes) ≡ None
alike v log own slot bytes post spelled kept own_kept same = elim (cases_Bool (is_alike v slot bytes)) [
  | inl yes_same ↦ cond-true (is_alike v slot bytes) None (Some (other_told v slot bytes)) yes_same
  | inr other ↦ absurd (same (record {
    post = post;
    other_post = post_in v slot.stage slot.sender;
    kept = kept;
    other_kept = own_kept;
    contents = λ e. both_ways (is_alike v slot bytes) other ((bytes_eq-Decides (content_of_post (frame_of bytes))
        (post_in v slot.stage slot.sender).content).1 (ap content_of_post spelled ∙ e));
  }))
]

unlike : (v : ClosedStage) (log own : Log) (slot : Slot) (bytes : List ℕ) (post : Post) → frame_of bytes ≡ Ok post
    → kept_in log slot ≡ Some post
    → kept_in own slot ≡ Some (post_in v slot.stage slot.sender) → Differ log own slot
    → second_content v (slot, bytes) ≡ Some (other_told v slot bytes)
unlike v log own slot bytes post spelled kept own_kept differ =
    let one : differ.post ≡ post = post-is differ.post post (sym differ.kept ∙ kept) in
    let two : differ.other_post ≡ post_in v slot.stage slot.sender = post-is differ.other_post (post_in v slot.stage slot.sender)
    (sym differ.other_kept ∙ own_kept) in
    let other : is_alike v slot bytes ≡ false = false_from_ne_true (is_alike v slot bytes) (λ e. differ.contents (
    ap (λ (p : Post). p.content) one ∙ sym (ap content_of_post spelled)
    ∙ (bytes_eq-Decides (content_of_post (frame_of bytes)) (post_in v slot.stage slot.sender).content).0 e
    ∙ sym (ap (λ (p : Post). p.content) two))) in
    cond-false (is_alike v slot bytes) None (Some (other_told v slot bytes)) other

-- ---- all of them, in the order of slots

-- a slot that comes before another, or is it, has no greater number
number-first : (shape : Shape) (a b : Slot) → is_slot shape a.stage a.sender ≡ true → is_slot shape b.stage b.sender ≡ true
    → (a.stage < b.stage) ⊎ ((a.stage ≡ b.stage) × (a.sender ≤ b.sender))
    → slot_number shape a.stage a.sender ≤ slot_number shape b.stage b.sender
number-first shape a b here there (inl later) = omega (arith, slot_number-later shape a.stage b.stage a.sender b.sender here there later)
number-first shape a b here there (inr same) =
    let at : is_slot shape a.stage b.sender ≡ true = subst (λ (s : ℕ). is_slot shape s b.sender ≡ true) (sym same.0) there in
    let stage : slot_number shape a.stage b.sender ≡ slot_number shape b.stage b.sender = ap (λ (s : ℕ). slot_number shape s b.sender)
    same.0 in
    elim (cases_lt a.sender b.sender) [
      | inl below ↦ omega (arith, slot_number-rises shape a.stage a.sender b.sender here at below, stage)
      | inr above ↦
          let sender : a.sender ≡ b.sender = omega (arith, same.1, above) in
          omega (arith, ap (λ (s : ℕ). slot_number shape a.stage s) sender, stage)
    ]

-- what was read of pairs: each is the post of its slot
pub record IsReadPair (c : Completed) (slot : Slot) (bytes : List ℕ) (pairs : List (Slot × List ℕ)) (place : ℕ) (posts : List Post) : Type 0
  where
    pub post : Post
    pub others : List Post
    pub are : posts ≡ post ∷ others
    pub spelled : frame_of bytes ≡ Ok post
    pub read : posts_for c.roster c.round (place + 1) pairs ≡ Ok others

read-pair : (c : Completed) (slot : Slot) (bytes : List ℕ) (pairs : List (Slot × List ℕ)) (place : ℕ) (posts : List Post)
    → posts_for c.roster c.round place ((slot, bytes) ∷ pairs) ≡ Ok posts → IsReadPair c slot bytes pairs place posts
unfolding posts_for
read-pair c slot bytes pairs place posts e =
    let bad : WhyNot → BadPost = λ why. record { place = place; why = why } in
    let first = bind_ok (fault_as bad (post_for_slot c.roster c.round slot bytes))
    (λ post. posts_for c.roster c.round (place + 1) pairs >>= λ posts. Ok (post ∷ posts)) posts e in
    let others = bind_ok (posts_for c.roster c.round (place + 1) pairs) (λ posts. Ok (first.0 ∷ posts)) posts first.2 in
    record {
      post = first.0;
      others = others.0;
      are = sym (told_same (first.0 ∷ others.0) posts others.2);
      spelled = (post-for-slot c.roster c.round slot bytes first.0
          (fault_as_ok bad (post_for_slot c.roster c.round slot bytes) first.0 first.1)).spelled;
      read = others.1;
    }
  where
    told_same : (xs ys : List Post) → (let told : List Post → Result (List Post) BadPost = λ z. Ok z in told xs ≡ told ys) → xs ≡ ys
    told_same xs ys e = cc

-- the slots from a number on to the end of the stage, with the posts that a log keeps in them
pub record IsRow (c : Completed) (log : Log) (first : ℕ) (slots : List Slot) (posts : List Post) : Type 0 where
  pub shape_is : log.shape ≡ c.log.shape
  pub numbers : NumberedFrom c.log.shape first slots
  pub within : first + length slots ≤ slots_before c.log.shape (c.stage + 1)
  pub stand : StandFrom log.posts first posts
  pub count : length slots ≡ length posts

-- the first slot of such a row, and what both logs keep there
record IsHead (c : Completed) (log : Log) (first : ℕ) (slot : Slot) (post : Post) : Type 0 where
  pub there : is_slot c.log.shape slot.stage slot.sender ≡ true
  pub number : slot_number c.log.shape slot.stage slot.sender ≡ first
  pub kept : kept_in log slot ≡ Some post
  pub own : kept_in c.log slot ≡ Some (post_in (stage_closed c) slot.stage slot.sender)

stage-within : (shape : Shape) (stage : ℕ) (slot : Slot) → is_slot shape slot.stage slot.sender ≡ true
    → slot_number shape slot.stage slot.sender < slots_before shape (stage + 1) → slot.stage ≤ stage
stage-within shape stage slot there lt = elim (cases_lt stage slot.stage) [
  | inl later ↦ absurd (omega (
    arith,
    lt,
    (slot_number-within shape slot.stage slot.sender there).0,
    slots_before-rises shape (stage + 1)
        slot.stage (omega (arith, later)),
  ))
  | inr within ↦ within
]

row-head : (c : Completed) → IsComplete c → (log : Log) (first : ℕ) (slot : Slot) (slots : List Slot) (post : Post) (posts : List Post)
    → IsRow c log first (slot ∷ slots) (post ∷ posts) → IsHead c log first slot post
row-head c is log first slot slots post posts row =
    let at = slot_at-is c.log.shape first slot row.numbers.0 in
    let in_log : is_slot log.shape slot.stage slot.sender ≡ true = subst (λ (s : Shape). is_slot s slot.stage slot.sender ≡ true)
    (sym row.shape_is) at.0 in
    let zero_more : first + 0 ≡ first = omega arith in
    record {
      there = at.0;
      number = at.1;
      kept = cond-true (is_slot log.shape slot.stage slot.sender) (at_place log.posts (slot_number log.shape slot.stage slot.sender)) None
          in_log
          ∙ ap (λ (s : Shape). at_place log.posts (slot_number s slot.stage slot.sender)) row.shape_is
          ∙ ap (at_place log.posts) (at.1 ∙ sym zero_more)
          ∙ row.stand 0 (omega arith);
      own = closed-kept c is slot at.0 (stage-within c.log.shape c.stage slot at.0 (omega (arith, at.1, row.within)));
    }

row-rest : (c : Completed) (log : Log) (first : ℕ) (slot : Slot) (slots : List Slot) (post : Post) (posts : List Post)
    → IsRow c log first (slot ∷ slots) (post ∷ posts) → IsRow c log (first + 1) slots posts
row-rest c log first slot slots post posts row = record {
  shape_is = row.shape_is;
  numbers = row.numbers.1;
  within = omega (arith, row.within);
  stand = λ i lt.
      let next : first + 1 + i ≡ first + suc i = omega arith in
      ap (at_place log.posts) next ∙ row.stand (suc i) (omega (arith, lt));
  count = omega (arith, row.count);
}

-- where the logs don't differ, nothing convicts
pub no-second : (c : Completed) → IsComplete c → (log : Log) → HaveNoDifference log c.log
    → (place first : ℕ) (slots : List Slot) (bytes : List (List ℕ)) (posts : List Post)
    → IsRow c log first slots posts → posts_for c.roster c.round place (zip slots bytes) ≡ Ok posts
    → first_some (map (second_content (stage_closed c)) (zip slots bytes)) ≡ None
no-second c is log same place first [] bytes posts row e = refl
no-second c is log same place first (slot ∷ slots) [] posts row e = refl
no-second c is log same place first (slot ∷ slots) (one ∷ bytes) posts row e =
    let pair = read-pair c slot one (zip slots bytes) place posts e in
    let here : IsRow c log first (slot ∷ slots) (pair.post ∷ pair.others) = subst (λ (p : List Post). IsRow c log first (slot ∷ slots) p)
    pair.are row in
    let head = row-head c is log first slot slots pair.post pair.others here in
    let none : second_content (stage_closed c) (slot, one) ≡ None = alike (stage_closed c) log c.log slot one pair.post pair.spelled
    head.kept head.own (same slot) in
    let rest = no-second c is log same (place + 1) (first + 1) slots bytes pair.others
    (row-rest c log first slot slots pair.post pair.others here) pair.read in
    ap (λ (o : Option Verdict). first_some (o ∷ map (second_content (stage_closed c)) (zip slots bytes))) none ∙ rest

-- else the first slot in which they differ convicts its sender
pub second-found : (c : Completed) → IsComplete c → (log : Log) (d : Slot) → IsFirstDifference log c.log d
    → is_slot c.log.shape d.stage d.sender ≡ true
    → (place first : ℕ) (slots : List Slot) (bytes : List (List ℕ)) (posts : List Post)
    → IsRow c log first slots posts → length bytes ≡ length slots → posts_for c.roster c.round place (zip slots bytes) ≡ Ok posts
    → first ≤ slot_number c.log.shape d.stage d.sender → slot_number c.log.shape d.stage d.sender < first + length slots
    → first_some (map (second_content (stage_closed c)) (zip slots bytes)) ≡ Some
    (other_told (stage_closed c) d (get_or bytes (slot_number c.log.shape d.stage d.sender - first) []))
second-found c is log d found there place first [] bytes posts row long e low high = absurd (omega (arith, low, high))
second-found c is log d found there place first (slot ∷ slots) [] posts row long e low high = absurd (omega (arith, long))
second-found c is log d found there place first (slot ∷ slots) (one ∷ bytes) posts row long e low high =
    let pair = read-pair c slot one (zip slots bytes) place posts e in
    let here : IsRow c log first (slot ∷ slots) (pair.post ∷ pair.others) = subst (λ (p : List Post). IsRow c log first (slot ∷ slots) p)
    pair.are row in
    let head = row-head c is log first slot slots pair.post pair.others here in
    let shape : Shape = c.log.shape in
    let number : ℕ = slot_number shape d.stage d.sender in
    let all : List (Option Verdict) = map (second_content (stage_closed c)) (zip slots bytes) in
    elim (cases_lt first number) [
      | inl behind ↦
          let apart : Differ log c.log slot → ⊥ = λ differ. (
          let least = number-first shape d slot there head.there (found.first slot differ) in
          let contrary : ⊥ = omega (arith, least, head.number, behind) in contrary) in
          let none : second_content (stage_closed c) (slot, one) ≡ None = alike (stage_closed c) log c.log slot one pair.post pair.spelled
          head.kept head.own apart in
          let rest = second-found c is log d found there (place + 1) (first + 1) slots bytes pair.others
          (row-rest c log first slot slots pair.post pair.others here)
          (omega (arith, long)) pair.read (omega (arith, behind)) (omega (arith, high)) in
          let step : number - first ≡ suc (number - (first + 1)) = omega (arith, behind) in
          ap (λ (o : Option Verdict). first_some (o ∷ all)) none ∙ rest
          ∙ ap (λ (k : ℕ). Some (other_told (stage_closed c) d (get_or (one ∷ bytes) k []))) (sym step)
      | inr not_behind ↦
          let at : number ≡ first = omega (arith, low, not_behind) in
          let same : slot ≡ d = slot-same (sym here.numbers.0 ∙ ap (slot_at shape) (sym at) ∙ slot_at-number shape d.stage d.sender there)
          in
          let step : number - first ≡ 0 = omega (arith, at) in
          let told : second_content (stage_closed c) (slot, one) ≡ Some (other_told (stage_closed c) slot one)
          = unlike (stage_closed c) log c.log slot one pair.post pair.spelled head.kept head.own
          (subst (λ (s : Slot). Differ log c.log s) (sym same) found.differ) in
          ap (λ (o : Option Verdict). first_some (o ∷ all)) told
          ∙ ap (λ (s : Slot). Some (other_told (stage_closed c) s one)) same
          ∙ ap (λ (k : ℕ). Some (other_told (stage_closed c) d (get_or (one ∷ bytes) k []))) (sym step)
    ]
  where
    slot-same : {a b : Slot} → (let some : Slot → Option Slot = λ z. Some z in some a ≡ some b) → a ≡ b
    slot-same {a} {b} e = cc

-- ---- what a closing content embeds

-- its slots stand before its stage
slots-within : (shape : Shape) (content : Content) → 1 ≤ content.header.stage
    → first_embedded shape content + length (slots_embedded shape content) ≤ slots_before shape content.header.stage
slots-within shape content least =
    let stage : ℕ = content.header.stage in
    let a : ℕ = slots_before shape (stage - 1) in
    let b : ℕ = slots_before shape (stage - 1 + 1) in
    let n : ℕ = slots_before shape stage in
    let all : List Slot = slots_of shape in
    let back : stage - 1 + 1 ≡ stage = omega (arith, least) in
    let same : b ≡ n = ap (slots_before shape) back in
    let rises : a ≤ b = slots_before-rises shape (stage - 1) (stage - 1 + 1) (omega arith) in
    elim (cases_Bool (is_assent content.body)) [
      | inl assents ↦
          let first : first_embedded shape content ≡ a = cond-true (is_assent content.body) a 0 assents in
          let slots = ap (λ (s : List Slot). length s) (cond-true (is_assent content.body) (slice_range all a b) (take n all) assents) in
          let few = length-take (b - a) (drop a all) in
          omega (arith, first, slots, few, rises, same)
      | inr objects ↦
          let first : first_embedded shape content ≡ 0 = cond-false (is_assent content.body) a 0 objects in
          let slots = ap (λ (s : List Slot). length s) (cond-false (is_assent content.body) (slice_range all a b) (take n all) objects) in
          let few = length-take n all in
          omega (arith, first, slots, few)
    ]

-- a closing content of the stage, and the log that it embeds
pub record IsEmbedded (c : Completed) (content : Content) (log : Log) : Type 0 where
  pub grammar : OfGrammar c.log.shape content
  pub stage_is : content.header.stage ≡ c.stage
  pub keeps : KeepsEmbedded c.roster c.round content log

is-closing : (c : Completed) → IsComplete c → (content : Content) → content.header.stage ≡ c.stage → IsClosing c.log.shape content
is-closing c is content stage = subst (λ (s : ℕ). IsSome (option_and_then vote_of (kind_of_stage c.log.shape s))) (sym stage) is.closing

pub closing-least : (c : Completed) → IsComplete c → 1 ≤ c.stage
closing-least c is =
    let kind = closing_kind (kind_of_stage c.log.shape c.stage) is.closing in
    (closing-follows c.log.shape c.stage kind.0 kind.1 kind.2 kind.3).0

pub spans-here : (c : Completed) → IsComplete c → (content : Content) → OfGrammar c.log.shape content → content.header.stage ≡ c.stage
    → Spans c.log.shape content
spans-here c is content grammar stage = spans c.log.shape content grammar (is-closing c is content stage)

-- the log keeps its posts from the first embedded slot on
pub row-is : (c : Completed) → IsComplete c → (content : Content) (log : Log) (e : IsEmbedded c content log)
    → IsRow c log (first_embedded c.log.shape content) (slots_embedded c.log.shape content) e.keeps.posts
row-is c is content log e =
    let shape : Shape = c.log.shape in
    let first : ℕ = first_embedded shape content in
    let span = spans-here c is content e.grammar e.stage_is in
    let own : shape ≡ shape_of_roster c.roster = is.shape in
    let least : 1 ≤ content.header.stage = omega (arith, closing-least c is, e.stage_is) in
    let places : log.posts ≡ places_of first (slot_count shape) e.keeps.posts
    = ap (λ (l : Log). l.posts) e.keeps.keeps ∙ ap (λ (s : Shape). places_of (first_embedded s content) (slot_count s) e.keeps.posts)
    (sym own) in
    record {
      shape_is = ap (λ (l : Log). l.shape) e.keeps.keeps ∙ sym own;
      numbers = subst (λ (s : List Slot). NumberedFrom shape first s) (sym span.slots_are) (numbered shape span.count first span.within);
      within = omega (
        arith,
        slots-within shape content least,
        slots_before-rises shape content.header.stage (c.stage + 1)
            (omega (arith, e.stage_is)),
      );
      stand = subst (λ (p : List (Option Post)). StandFrom p first e.keeps.posts) (sym places)
          (stand-from first (slot_count shape) e.keeps.posts);
      count = omega (arith, span.slots_long, span.posts_long, e.keeps.long);
    }

-- a slot in which it keeps a post is one of those
pub kept-within : (c : Completed) → IsComplete c → (content : Content) (log : Log) (e : IsEmbedded c content log) (slot : Slot)
    (post : Post) → kept_in log slot ≡ Some post
    → (is_slot c.log.shape slot.stage slot.sender ≡ true) × (first_embedded c.log.shape content ≤ slot_number c.log.shape slot.stage
    slot.sender)
    × (slot_number c.log.shape slot.stage slot.sender < first_embedded c.log.shape content + length (posts_embedded content.body))
kept-within c is content log e slot post kept =
    let shape : Shape = c.log.shape in
    let first : ℕ = first_embedded shape content in
    let own : shape ≡ shape_of_roster c.roster = is.shape in
    let shape_is : log.shape ≡ shape = ap (λ (l : Log). l.shape) e.keeps.keeps ∙ sym own in
    let places : log.posts ≡ places_of first (slot_count shape) e.keeps.posts
    = ap (λ (l : Log). l.posts) e.keeps.keeps ∙ ap (λ (s : Shape). places_of (first_embedded s content) (slot_count s) e.keeps.posts)
    (sym own) in
    let in_log : is_slot log.shape slot.stage slot.sender ≡ true = kept-slot log slot post kept in
    let there : is_slot shape slot.stage slot.sender ≡ true = subst (λ (s : Shape). is_slot s slot.stage slot.sender ≡ true) shape_is in_log
    in
    let at : at_place (places_of first (slot_count shape) e.keeps.posts) (slot_number shape slot.stage slot.sender) ≡ Some post
    = ap (λ (p : List (Option Post)). at_place p (slot_number shape slot.stage slot.sender)) (sym places)
    ∙ ap (λ (s : Shape). at_place log.posts (slot_number s slot.stage slot.sender)) (sym shape_is)
    ∙ sym (cond-true (is_slot log.shape slot.stage slot.sender) (at_place log.posts (slot_number log.shape slot.stage slot.sender)) None
    in_log) ∙ kept in
    let range = stand-only first (slot_count shape) e.keeps.posts (slot_number shape slot.stage slot.sender) post at in
    (there, range.0, omega (arith, range.1, e.keeps.long))

-- ---- what a member's closing content shows against the sender of a slot

-- what is looked at is what was read
pairs-here : (c : Completed) → IsComplete c → (content : Content) (member : ℕ) → closing_content (stage_closed c) member ≡ Ok content
    → equivocation_in (stage_closed c) member ≡ first_some (map (second_content (stage_closed c))
    (zip (slots_embedded c.log.shape content) (posts_embedded content.body)))
pairs-here c is content member reads =
    ap (λ (r : Result Content Offence). first_some (map (second_content (stage_closed c)) (pairs_read (stage_closed c) r))) reads
    ∙ ap (λ (s : Shape). first_some (map (second_content (stage_closed c)) (zip (slots_embedded s content) (posts_embedded content.body))))
    (sym is.shape)

found-here : (c : Completed) → IsComplete c → (content : Content) (log : Log) (e : IsEmbedded c content log)
    → posts_for c.roster c.round 0 (zip (slots_embedded c.log.shape content) (posts_embedded content.body)) ≡ Ok e.keeps.posts
found-here c is content log e =
    ap (λ (s : Shape). posts_for c.roster c.round 0 (zip (slots_embedded s content) (posts_embedded content.body))) is.shape ∙ e.keeps.found

pub nothing-told : (c : Completed) → IsComplete c → (content : Content) (log : Log) → IsEmbedded c content log → HaveNoDifference log c.log
    → (member : ℕ) → closing_content (stage_closed c) member ≡ Ok content → TellsSecond (equivocation_in (stage_closed c) member) None
nothing-told c is content log e same member reads =
    let none = pairs-here c is content member reads
    ∙ no-second c is log same 0 (first_embedded c.log.shape content) (slots_embedded c.log.shape content) (posts_embedded content.body)
    e.keeps.posts (row-is c is content log e) (found-here c is content log e) in
    subst (λ (o : Option Verdict). TellsSecond o None) (sym none) tt

pub second-told : (c : Completed) → IsComplete c → (content : Content) (log : Log) → IsEmbedded c content log → (d : Slot)
    → IsFirstDifference log c.log d
    → (kept : Post) (other : List ℕ) (conviction_told : Conviction) → kept_in c.log d ≡ Some kept
    → other ≡ get_or (posts_embedded content.body) (slot_number c.log.shape d.stage d.sender - first_embedded c.log.shape content) []
    → TellsConviction (conviction c.round d.sender Equivocation (post_spelling kept ∷ other ∷ [])) conviction_told
    → (member : ℕ) → closing_content (stage_closed c) member ≡ Ok content
    → TellsSecond (equivocation_in (stage_closed c) member) (Some conviction_told)
second-told c is content log e d first kept other told own bytes tells member reads =
    let span = spans-here c is content e.grammar e.stage_is in
    let range = kept-within c is content log e d first.differ.post first.differ.kept in
    let found = pairs-here c is content member reads
    ∙ second-found c is log d first range.0 0 (first_embedded c.log.shape content) (slots_embedded c.log.shape content)
    (posts_embedded content.body) e.keeps.posts (row-is c is content log e)
    (omega (arith, span.slots_long, span.posts_long)) (found-here c is content log e) range.1
    (omega (arith, range.2, span.slots_long, span.posts_long)) in
    let within : d.stage ≤ c.stage = stage-within c.log.shape c.stage d range.0
    (omega (arith, range.2, (row-is c is content log e).within, span.slots_long, span.posts_long)) in
    let sent : sent_in (stage_closed c) d.stage d.sender ≡ post_spelling kept = ap post_spelling
    (post-is _ kept (sym (closed-kept c is d range.0 within) ∙ own)) in
    subst (λ (o : Option Verdict). TellsSecond o (Some told)) (sym (found
    ∙ ap (λ (s : List ℕ). Some (conviction c.round d.sender Equivocation
    (s ∷ get_or (posts_embedded content.body) (slot_number c.log.shape d.stage d.sender - first_embedded c.log.shape content) [] ∷ [])))
    sent
    ∙ ap (λ (b : List ℕ). Some (conviction c.round d.sender Equivocation (post_spelling kept ∷ b ∷ []))) (sym bytes))) tells

-- the posts that are embedded are short
items-short : (body : Body) → ItemsAreShort body → AllByRecursion (λ item. length item < 2 ^ 32) (posts_embedded body)
items-short (Reveal votes seed) short = short
items-short (Dispute posts seed opening) short = short
items-short (Confirm votes) short = short
items-short (DiffersBody posts) short = short
items-short (Keys keys) short = tt
items-short (Submit ciphertext) short = tt
items-short (Shuffled list) short = tt
items-short Abort short = tt
items-short (Go vote) short = tt
items-short (Pads pads) short = tt
items-short (Check vote) short = tt

pub embedded-short : (shape : Shape) (content : Content) (place : ℕ) → OfGrammar shape content
    → length (get_or (posts_embedded content.body) place []) < 2 ^ 32
embedded-short shape content place grammar =
    each (posts_embedded content.body) place (items-short content.body (fits-short grammar.1.0 content.body grammar.1.2))
  where
    each : (items : List (List ℕ)) (place : ℕ) → AllByRecursion (λ item. length item < 2 ^ 32) items
        → length (get_or items place []) < 2 ^ 32
    each [] place short = omega arith
    each (item ∷ items) zero short = short.0
    each (item ∷ items) (suc place) short = each items place short.1
