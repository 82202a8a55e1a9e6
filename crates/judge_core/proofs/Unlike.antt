-- The least slot in which two logs that keep all before a stage differ.
use Rattle.std.proofs.Common.{◌≡◌, ℕ, zero, suc, ◌+◌, ◌<◌, ◌≤◌, Bool, true, false, List, [], ◌∷◌, ◌++◌, length, get_or, map, replicate, Option, Some, None, refl, sym, ap, subst, ◌∙◌, arith, inl, inr}
use Rattle.std.specs.Prelude.{◌⊎◌, ◌-◌, MatchOption, bytes_eq, option_map, slice_index_or}
use Rattle.std.specs.List.{slice_get}
use Rattle.std.specs.Option.{option_flatten}
use Rattle.std.proofs.lemmas.Bool.{both_ways, cases_Bool, cases_lt, cond-true, false_from_ne_true}
use Rattle.std.proofs.lemmas.List.{length-map}
use Rattle.std.proofs.lemmas.Option.{slice_get-get_or}
use Rattle.std.proofs.lemmas.Slice.Eq.{bytes_eq-Decides}
use Rattle.wire_core.specs.Answers.{fault_unless}
use Rattle.wire_core.proofs.AnswerLemmas.{fault_unless-false, fault_unless-true, first_below-none, first_below-some}
use Rattle.phase_message.specs.declared.post.Post.{Post}
use Rattle.phase_message.specs.declared.stage.Slot.{Slot}
use Rattle.phase_message.specs.Shape.{Shape}
use Rattle.phase_message.specs.Slots.{slot_count, slot_number, slots_before, slots_of}
use Rattle.phase_message.specs.Stages.{is_slot}
use Rattle.phase_message.proofs.SlotLists.{length-slots_of, slot_at-is, slot_number-later, slot_number-rises, slots_before-most}
use Rattle.stage_log.specs.Log.{contents_of}
use Rattle.stage_log.specs.Table.{Log, kept_in}
use Rattle.go_nogo.specs.Differences.{Differ, HaveNoDifference, IsFirstDifference}
use Rattle.stage_log.proofs.KeptPosts.{kept-slot}
use Rattle.embedded_log.specs.Embedding.{places_of}
use Rattle.judge_core.specs.Replay.{unlike_place}
use Rattle.judge_core.specs.Showing.{KeepsPast}

abbrev some_post : Post → Option Post
some_post post = Some post

abbrev none_post : Option Post
none_post = None

abbrev nothing : Post
nothing = record { content = []; signature = [] }

-- ---- what stands at a place of such a log

kept-front : (posts : List Post) (rest : List (Option Post)) (n : ℕ) → n < length posts
    → option_flatten (slice_get (map some_post posts ++ rest) n) ≡ Some (get_or posts n nothing)
kept-front [] rest n lt = absurd (omega arith)
kept-front (post ∷ posts) rest zero lt = refl
kept-front (post ∷ posts) rest (suc n) lt = kept-front posts rest n (omega arith)

none-there : (m n : ℕ) → option_flatten (slice_get (replicate m none_post) n) ≡ None
none-there zero n = refl
none-there (suc m) zero = refl
none-there (suc m) (suc n) = none-there m n

kept-behind : (posts : List Post) (m n : ℕ) → length posts ≤ n → option_flatten (slice_get (map some_post posts ++ replicate m none_post) n)
    ≡ None
kept-behind [] m n le = none-there m n
kept-behind (post ∷ posts) m zero le = absurd (omega arith)
kept-behind (post ∷ posts) m (suc n) le = kept-behind posts m n (omega arith)

content-at : (posts : List Post) (n : ℕ) → n < length posts → slice_index_or (contents_of posts) n [] ≡ (get_or posts n nothing).content
content-at [] n lt = absurd (omega arith)
content-at (post ∷ posts) zero lt = refl
content-at (post ∷ posts) (suc n) lt = content-at posts n (omega arith)

-- what is kept in a slot
kept-in : (shape : Shape) (stage : ℕ) (past : List (List ℕ)) (log : Log) (k : KeepsPast shape stage past log) (slot : Slot)
    → is_slot shape slot.stage slot.sender ≡ true
    → kept_in log slot ≡ option_flatten (slice_get (places_of 0 (slot_count shape) k.posts) (slot_number shape slot.stage slot.sender))
kept-in shape stage past log k slot there =
    ap (λ (l : Log). kept_in l slot) k.keeps
    ∙ cond-true (is_slot shape slot.stage slot.sender) (option_flatten
    (slice_get (places_of 0 (slot_count shape) k.posts) (slot_number shape slot.stage slot.sender))) None there

kept-at : (shape : Shape) (stage : ℕ) (past : List (List ℕ)) (log : Log) (k : KeepsPast shape stage past log) (slot : Slot)
    → is_slot shape slot.stage slot.sender ≡ true
    → slot_number shape slot.stage slot.sender < length k.posts
    → kept_in log slot ≡ Some (get_or k.posts (slot_number shape slot.stage slot.sender) nothing)
kept-at shape stage past log k slot there lt =
    kept-in shape stage past log k slot there ∙ kept-front k.posts (replicate (slot_count shape - (0 + length k.posts)) none_post)
    (slot_number shape slot.stage slot.sender) lt

past-at : (shape : Shape) (stage : ℕ) (past : List (List ℕ)) (log : Log) (k : KeepsPast shape stage past log) (n : ℕ) → n < length k.posts
    → slice_index_or past n [] ≡ (get_or k.posts n nothing).content
past-at shape stage past log k n lt = ap (λ (c : List (List ℕ)). slice_index_or c n []) (sym k.contents) ∙ content-at k.posts n lt

past-long : (shape : Shape) (stage : ℕ) (past : List (List ℕ)) (log : Log) → KeepsPast shape stage past log
    → length past ≡ slots_before shape stage
past-long shape stage past log k = omega (
  arith,
  ap (λ (c : List (List ℕ)). length c) k.contents,
  length-map k.posts
      (λ (post : Post). post.content),
  k.long,
)

-- ---- places and slots in which two of them differ

abbrev is_same : List (List ℕ) → List (List ℕ) → ℕ → Bool
is_same past others place = bytes_eq (slice_index_or past place []) (slice_index_or others place [])

-- a slot of this number in which they differ
record DifferAt (shape : Shape) (log other : Log) (place : ℕ) : Type 0 where
  pub slot : Slot
  pub there : is_slot shape slot.stage slot.sender ≡ true
  pub number : slot_number shape slot.stage slot.sender ≡ place
  pub differ : Differ log other slot

differ-at : (shape : Shape) (stage : ℕ) (past others : List (List ℕ)) (log other : Log) → KeepsPast shape stage past log
    → KeepsPast shape stage others other
    → (place : ℕ) → place < length past → is_same past others place ≡ false → DifferAt shape log other place
differ-at shape stage past others log other k k' place lt unlike =
    let nobody : Slot = record { stage = 0; sender = 0 } in
    let slot : Slot = get_or (slots_of shape) place nobody in
    let long = past-long shape stage past log k in
    let is = slot_at-is shape place slot (slice_get-get_or (slots_of shape) place nobody
    (omega (arith, lt, long, slots_before-most shape stage, length-slots_of shape))) in
    let within : slot_number shape slot.stage slot.sender < length k.posts = omega (arith, is.1, lt, long, k.long) in
    let within' : slot_number shape slot.stage slot.sender < length k'.posts = omega (arith, is.1, lt, long, k'.long) in
    let at : place < length k.posts = omega (arith, lt, long, k.long) in
    let at' : place < length k'.posts = omega (arith, lt, long, k'.long) in
    record {
      slot = slot;
      there = is.0;
      number = is.1;
      differ = record {
        post = get_or k.posts (slot_number shape slot.stage slot.sender) nothing;
        other_post = get_or k'.posts (slot_number shape slot.stage slot.sender) nothing;
        kept = kept-at shape stage past log k slot is.0 within;
        other_kept = kept-at shape stage others other k' slot is.0 within';
        contents = λ same. apart (slice_index_or past place []) (slice_index_or others place []) unlike
            (past-at shape stage past log k place at
            ∙ ap (λ (n : ℕ). (get_or k.posts n nothing).content) (sym is.1) ∙ same
            ∙ ap (λ (n : ℕ). (get_or k'.posts n nothing).content) is.1
            ∙ sym (past-at shape stage others other k' place at'));
      };
    }
  where
    apart : (a b : List ℕ) → bytes_eq a b ≡ false → a ≡ b → ⊥
    apart a b unlike same = both_ways (bytes_eq a b) unlike ((bytes_eq-Decides a b).1 same)

-- of a slot in which they differ the number
record NumberOf (shape : Shape) (past others : List (List ℕ)) (slot : Slot) : Type 0 where
  pub there : is_slot shape slot.stage slot.sender ≡ true
  pub within : slot_number shape slot.stage slot.sender < length past
  pub unlike : is_same past others (slot_number shape slot.stage slot.sender) ≡ false

post-is : (a b : Post) → some_post a ≡ some_post b → a ≡ b
post-is a b e = cc

kept-within : (shape : Shape) (stage : ℕ) (past : List (List ℕ)) (log : Log) (k : KeepsPast shape stage past log) (slot : Slot)
    (post : Post)
    → is_slot shape slot.stage slot.sender ≡ true
    → kept_in log slot ≡ Some post → (slot_number shape slot.stage slot.sender < length k.posts)
    × (post ≡ get_or k.posts (slot_number shape slot.stage slot.sender) nothing)
kept-within shape stage past log k slot post there kept =
    elim (cases_lt (slot_number shape slot.stage slot.sender) (length k.posts)) [
      | inl lt ↦ (
        lt,
        post-is post (get_or k.posts (slot_number shape slot.stage slot.sender) nothing)
            (sym kept ∙ kept-at shape stage past log k slot there lt),
      )
      | inr le ↦ absurd (never post
          (sym (kept-in shape stage past log k slot there ∙ kept-behind k.posts (slot_count shape - (0 + length k.posts))
          (slot_number shape slot.stage slot.sender) le) ∙ kept))
    ]
  where
    never : (post : Post) → none_post ≡ some_post post → ⊥
    never post e = absurd cc

number-of : (shape : Shape) (stage : ℕ) (past others : List (List ℕ)) (log other : Log) → KeepsPast shape stage past log
    → KeepsPast shape stage others other
    → (slot : Slot) → Differ log other slot → NumberOf shape past others slot
number-of shape stage past others log other k k' slot differ =
    let n : ℕ = slot_number shape slot.stage slot.sender in
    let there : is_slot shape slot.stage slot.sender ≡ true = subst (λ (s : Shape). is_slot s slot.stage slot.sender ≡ true)
    (ap (λ (l : Log). l.shape) k.keeps) (kept-slot log slot differ.post differ.kept) in
    let one = kept-within shape stage past log k slot differ.post there differ.kept in
    let two = kept-within shape stage others other k' slot differ.other_post there differ.other_kept in
    record {
      there = there;
      within = omega (arith, one.0, k.long, past-long shape stage past log k);
      unlike = false_from_ne_true _ (λ same. differ.contents (
          ap (λ (p : Post). p.content) one.1 ∙ sym (past-at shape stage past log k n one.0)
          ∙ (bytes_eq-Decides (slice_index_or past n []) (slice_index_or others n [])).0 same
          ∙ past-at shape stage others other k' n two.0 ∙ sym (ap (λ (p : Post). p.content) two.1)));
    }

-- ---- the least

-- a slot that comes before another, or is it, has no greater number
number-first : (shape : Shape) (a b : Slot) → is_slot shape a.stage a.sender ≡ true → is_slot shape b.stage b.sender ≡ true
    → (a.stage < b.stage) ⊎ ((a.stage ≡ b.stage) × (a.sender ≤ b.sender))
    → slot_number shape a.stage a.sender ≤ slot_number shape b.stage b.sender
number-first shape a b here there (inl later) = omega (arith, slot_number-later shape a.stage b.stage a.sender b.sender here there later)
number-first shape a b here there (inr same) =
    let at : is_slot shape a.stage b.sender ≡ true = subst (λ (s : ℕ). is_slot shape s b.sender ≡ true) (sym same.0) there in
    let stage : slot_number shape a.stage b.sender ≡ slot_number shape b.stage b.sender = ap (λ (s : ℕ). slot_number shape s b.sender)
    same.0 in
    elim (cases_lt a.sender b.sender) [
      | inl below ↦ omega (arith, slot_number-rises shape a.stage a.sender b.sender here at below, stage)
      | inr above ↦
          let sender : a.sender ≡ b.sender = omega (arith, same.1, above) in
          omega (arith, ap (λ (s : ℕ). slot_number shape a.stage s) sender, stage)
    ]

-- the number of the first slot in which they differ is the least place at which their contents do
pub unlike-is : (shape : Shape) (stage : ℕ) (past others : List (List ℕ)) (log other : Log) → KeepsPast shape stage past log
    → KeepsPast shape stage others other
    → (found : Option Slot) → MatchOption found (HaveNoDifference log other) (λ slot. IsFirstDifference log other slot)
    → option_map (λ (slot : Slot). slot_number shape slot.stage slot.sender) found ≡ unlike_place past others
unfolding unlike_place
unlike-is shape stage past others log other k k' None none =
    sym (first_below-none (λ place. fault_unless (is_same past others place) place) (length past) (λ place lt. each place lt))
  where
    each : (place : ℕ) → place < length past → fault_unless (is_same past others place) place ≡ None
    each place lt = elim (cases_Bool (is_same past others place)) [
      | inl same ↦ fault_unless-true (is_same past others place) place same
      | inr unlike ↦ absurd (let at = differ-at shape stage past others log other k k' place lt unlike in none at.slot at.differ)
    ]
unlike-is shape stage past others log other k k' (Some slot) first =
    let own = number-of shape stage past others log other k k' slot first.differ in
    sym (first_below-some (λ place. fault_unless (is_same past others place) place) (length past) (slot_number shape slot.stage slot.sender)
    (slot_number shape slot.stage slot.sender)
    own.within (λ place lt. earlier own place lt)
    (fault_unless-false (is_same past others (slot_number shape slot.stage slot.sender)) (slot_number shape slot.stage slot.sender)
    own.unlike))
  where
    earlier : NumberOf shape past others slot → (place : ℕ) → place < slot_number shape slot.stage slot.sender
        → fault_unless (is_same past others place) place ≡ None
    earlier own place lt = elim (cases_Bool (is_same past others place)) [
      | inl same ↦ fault_unless-true (is_same past others place) place same
      | inr unlike ↦ absurd (
          let at = differ-at shape stage past others log other k k' place (omega (arith, lt, own.within)) unlike in
          let least = number-first shape slot at.slot own.there at.there (first.first at.slot at.differ) in
          let never : ⊥ = omega (arith, least, lt, at.number) in never)
    ]
