-- What a file says once a slot is raised.
use Rattle.std.proofs.Common.{◌≡◌, ℕ, ◌+◌, ◌<◌, ◌≤◌, ◌^◌, ◌⊎◌, max, Bool, true, false, List, Result, Ok, Err, length, slice_index, refl, sym, ap, ◌∙◌, arith, inl, inr}
use Rattle.std.specs.Prelude.{◌||◌, if◌then◌else◌}
use Rattle.std.proofs.lemmas.Bool.{le-leb}
use Rattle.wire_core.proofs.Readings.{bind_ok}
use Rattle.lm_ots.specs.declared.types.OtsType.{OtsType}
use Rattle.lms_tree.specs.declared.secrets.MadeHeight.{MadeHeight}
use Rattle.lms_tree.specs.States.{made_leaves}
use Rattle.key_store.specs.declared.layout.Slot.{Slot}
use Rattle.key_store.specs.declared.layout.Standing.{Standing}
use Rattle.key_store.specs.declared.layout.KeyContent.{KeyContent}
use Rattle.key_store.specs.KeyFiles.{IsSlot, content_of, counted, greatest, has_valid, head_of, head_read, is_valid, key_read, part, raised, slot_at, stands, with_slots, word_at}
use Rattle.key_store.proofs.Parts.{IsApart}
use Rattle.key_store.proofs.Slots.{length-raised, raised-apart, same_byte, same_word, slot-beside, slot-raised}

-- the two slots of a file of which one is raised
abbrev pub AreRaised : (old_a old_b a b : Slot) (round next : ℕ) → Type 0
AreRaised old_a old_b a b round next =
    ((a ≡ record { gate = 1; round = round; next = next }) × (b ≡ old_b))
    ⊎ ((a ≡ old_a) × (b ≡ record { gate = 1; round = round; next = next }))

pub slots-raised : (file : List ℕ) (at round next : ℕ) → length file ≡ 128 → IsSlot at → round < 2 ^ 64 → next < 2 ^ 32
    → AreRaised (slot_at file 64) (slot_at file 96) (slot_at (raised file at round next) 64) (slot_at (raised file at round next) 96) round
    next
slots-raised file at round next whole (inl is) small_round small_next =
    let within : at + 13 ≤ length file = omega arith in
    inl (
      ap (slot_at (raised file at round next)) (sym is) ∙ slot-raised file at round next within small_round small_next,
      slot-beside file at round next 96 within (inr (omega arith)),
    )
slots-raised file at round next whole (inr is) small_round small_next =
    let within : at + 13 ≤ length file = omega arith in
    inr (
      slot-beside file at round next 64 within (inl (omega arith)),
      ap (slot_at (raised file at round next)) (sym is) ∙ slot-raised file at round next within small_round small_next,
    )

-- a slot with a next leaf of the tree is valid, and counts
pub counted-open : (leaves round next : ℕ) → next ≤ leaves → counted leaves record { gate = 1; round = round; next = next } ≡ record
    { round = round; next = next }
counted-open leaves round next within = rw (le-leb next leaves within) refl

pub valid-open : (leaves round next : ℕ) → next ≤ leaves → is_valid leaves record { gate = 1; round = round; next = next } ≡ true
valid-open leaves round next within = rw (le-leb next leaves within) refl

-- the greater of two is one of them
greatest-first : (round next : ℕ) (b : Standing) → b.round ≤ round → b.next ≤ next
    → greatest record { round = round; next = next } b ≡ record { round = round; next = next }
greatest-first round next b r n =
    let e : max round b.round ≡ round = omega arith in
    let f : max next b.next ≡ next = omega arith in
    rw (e, f) refl

greatest-second : (round next : ℕ) (a : Standing) → a.round ≤ round → a.next ≤ next
    → greatest a record { round = round; next = next } ≡ record { round = round; next = next }
greatest-second round next a r n =
    let e : max a.round round ≡ round = omega arith in
    let f : max a.next next ≡ next = omega arith in
    rw (e, f) refl

pub or_true : (b : Bool) → (b || true) ≡ true
or_true true = refl
or_true false = refl

-- what the slots stand for once one is raised
pub stands-raised : (leaves : ℕ) (old_a old_b a b : Slot) (round next : ℕ)
    → AreRaised old_a old_b a b round next → (greatest (counted leaves old_a) (counted leaves old_b)).round ≤ round
    → (greatest (counted leaves old_a) (counted leaves old_b)).next ≤ next → next ≤ leaves
    → ((is_valid leaves a || is_valid leaves b) ≡ true) × (greatest (counted leaves a) (counted leaves b) ≡ record
    { round = round; next = next })
stands-raised leaves old_a old_b a b round next (inl raised) r n within =
    let low : Standing = counted leaves old_b in
    let low_round : low.round ≤ round = below_second (counted leaves old_a).round low.round round r in
    let low_next : low.next ≤ next = below_second (counted leaves old_a).next low.next next n in (
      rw (raised.0, valid-open leaves round next within) refl,
      rw (raised.0, raised.1, counted-open leaves round next within) (greatest-first round next low low_round low_next),
    )
  where
    below_second : (a b c : ℕ) → max a b ≤ c → b ≤ c
    below_second a b c h = omega arith
stands-raised leaves old_a old_b a b round next (inr raised) r n within =
    let low : Standing = counted leaves old_a in
    let low_round : low.round ≤ round = below_first low.round (counted leaves old_b).round round r in
    let low_next : low.next ≤ next = below_first low.next (counted leaves old_b).next next n in (
      rw (raised.1, valid-open leaves round next within) (or_true (is_valid leaves a)),
      rw (raised.0, raised.1, counted-open leaves round next within) (greatest-second round next low low_round low_next),
    )
  where
    below_first : (a b c : ℕ) → max a b ≤ c → a ≤ c
    below_first a b c h = omega arith

-- a slot stands in the file, behind all other fields
pub slot_within : (at size : ℕ) → size ≡ 128 → IsSlot at → at + 13 ≤ size
slot_within at size whole (inl is) = omega arith
slot_within at size whole (inr is) = omega arith

pub before_slot : (at k n : ℕ) → IsSlot at → k + n ≤ 64 → IsApart k n at 13
before_slot at k n (inl is) before = inl (omega arith)
before_slot at k n (inr is) before = inl (omega arith)

-- the fields before I
pub head_same : (f g : List ℕ) → length f ≡ length g → word_at f 0 ≡ word_at g 0 → slice_index f 4 ≡ slice_index g 4
    → word_at f 5 ≡ word_at g 5 → word_at f 9 ≡ word_at g 9 → head_read f ≡ head_read g
unfolding head_read
head_same f g size first version lms ots =
    ap (λ (n : ℕ). head_of n (word_at f 0) (slice_index f 4) (word_at f 5) (word_at f 9)) size
    ∙ ap (λ (n : ℕ). head_of (length g) n (slice_index f 4) (word_at f 5) (word_at f 9)) first
    ∙ ap (λ (n : ℕ). head_of (length g) (word_at g 0) n (word_at f 5) (word_at f 9)) version
    ∙ ap (λ (n : ℕ). head_of (length g) (word_at g 0) (slice_index g 4) n (word_at f 9)) lms
    ∙ ap (λ (n : ℕ). head_of (length g) (word_at g 0) (slice_index g 4) (word_at g 5) n) ots

head-raised : (file : List ℕ) (at round next : ℕ) → length file ≡ 128 → IsSlot at → head_read (raised file at round next) ≡ head_read file
head-raised file at round next whole slot =
    let within : at + 13 ≤ length file = slot_within at (length file) whole slot in
    head_same (raised file at round next) file (length-raised file at round next within)
    (same_word _ file 0 (raised-apart file at round next 0 4 within (before_slot at 0 4 slot (omega arith))))
    (same_byte _ file 4 (raised-apart file at round next 4 1 within (before_slot at 4 1 slot (omega arith))))
    (same_word _ file 5 (raised-apart file at round next 5 4 within (before_slot at 5 4 slot (omega arith))))
    (same_word _ file 9 (raised-apart file at round next 9 4 within (before_slot at 9 4 slot (omega arith))))

-- what is known of a file that was read
pub record WasRead (file : List ℕ) (c : KeyContent) : Type 0 where
  pub types : MadeHeight × OtsType
  pub head : head_read file ≡ Ok types
  pub valid : has_valid (made_leaves types.0) file ≡ true
  pub content : content_of types file ≡ c

pub was_read : (file : List ℕ) (c : KeyContent) → key_read file ≡ Ok c → WasRead file c
unfolding key_read
was_read file c e =
    let head = bind_ok (head_read file) (with_slots file) c e in
    record {
      types = head.0;
      head = head.1;
      valid = valid (has_valid (made_leaves (head.0).0) file) (content_of head.0 file) c head.2;
      content = slots (has_valid (made_leaves (head.0).0) file) (content_of head.0 file) c head.2;
    }
  where
    valid : (valid : Bool) (content c : KeyContent) → ◌≡◌ {A = Result KeyContent ℕ} (if valid then Ok content else Err 64) (Ok c)
        → valid ≡ true
    valid true content c e = refl
    valid false content c e = absurd (cc)

    slots : (valid : Bool) (content c : KeyContent) → ◌≡◌ {A = Result KeyContent ℕ} (if valid then Ok content else Err 64) (Ok c)
        → content ≡ c
    slots true content c e = cc
    slots false content c e = absurd (cc)

-- what it says is of its types
pub content_raised : (types : MadeHeight × OtsType) (file now : List ℕ) (kept : Standing) → part now 13 16 ≡ part file 13 16
    → part now 29 32 ≡ part file 29 32 → stands (made_leaves types.0) now ≡ kept
    → content_of types now ≡ record (content_of types file) { kept = kept }
content_raised types file now kept i s k = rw (i, s, k) refl

pub read_raised : (now : List ℕ) (types : MadeHeight × OtsType) (c : KeyContent) → head_read now ≡ Ok types
    → has_valid (made_leaves types.0) now ≡ true → content_of types now ≡ c → key_read now ≡ Ok c
unfolding key_read
read_raised now types c head valid content = rw (head, valid, content) refl

below : {a b n : ℕ} → a ≡ b → b ≤ n → a ≤ n
below e h = omega arith

above : {a b n : ℕ} → a ≡ b → n ≤ a → n ≤ b
above e h = omega arith

-- a key file of which a slot is raised is a key file of the same parts, and stands for the new numbers
pub key_read-raised : (file : List ℕ) (at round next : ℕ) (c : KeyContent) → length file ≡ 128 → IsSlot at
    → round < 2 ^ 64 → next < 2 ^ 32 → key_read file ≡ Ok c → c.kept.round ≤ round → c.kept.next ≤ next → next ≤ made_leaves c.height
    → key_read (raised file at round next) ≡ Ok record c { kept = record { round = round; next = next } }
unfolding stands
key_read-raised file at round next c whole slot small_round small_next read later higher enough =
    let was = was_read file c read in
    let within : at + 13 ≤ length file = slot_within at (length file) whole slot in
    let leaves : ℕ = made_leaves (was.types).0 in
    let kept : stands leaves file ≡ c.kept = ap (λ (k : KeyContent). k.kept) was.content in
    let height : (was.types).0 ≡ c.height = ap (λ (k : KeyContent). k.height) was.content in
    let r : (stands leaves file).round ≤ round = below (ap (λ (k : Standing). k.round) kept) later in
    let n : (stands leaves file).next ≤ next = below (ap (λ (k : Standing). k.next) kept) higher in
    let e : next ≤ leaves = above (ap (λ (h : MadeHeight). made_leaves h) (sym height)) enough in
    let now = stands-raised leaves (slot_at file 64) (slot_at file 96) _ _ round next
    (slots-raised file at round next whole slot small_round small_next) r n e in
    read_raised (raised file at round next) was.types _ (head-raised file at round next whole slot ∙ was.head) now.0
    (content_raised was.types file (raised file at round next) _
    (raised-apart file at round next 13 16 within (before_slot at 13 16 slot (omega arith)))
    (raised-apart file at round next 29 32 within (before_slot at 29 32 slot (omega arith))) now.1
    ∙ ap (λ (k : KeyContent). record k { kept = record { round = round; next = next } }) was.content)

-- what a file that was read stands for
pub kept_read : (file : List ℕ) (c : KeyContent) → key_read file ≡ Ok c → stands (made_leaves c.height) file ≡ c.kept
kept_read file c read =
    let was = was_read file c read in
    let height : c.height ≡ (was.types).0 = sym (ap (λ (k : KeyContent). k.height) was.content) in
    ap (λ (h : MadeHeight). stands (made_leaves h) file) height ∙ ap (λ (k : KeyContent). k.kept) was.content
