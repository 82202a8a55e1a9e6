-- What stands in the slots of a past of posts that read there.
use Rattle.std.proofs.Common.{◌≡◌, ℕ, zero, suc, ◌+◌, ◌<◌, ◌≤◌, ◌^◌, true, List, [], ◌∷◌, ◌++◌, length, get_or, length-append, map, Option, Some, Ok, ap, sym, ◌∙◌, refl, subst, arith, rules}
use Rattle.std.specs.Prelude.{option_map}
use Rattle.std.specs.Int.{to_be_bytes, w32}
use Rattle.std.specs.List.{AllByRecursion, range_with_len, slice_get}
use Rattle.std.proofs.lemmas.Bool.{eq-eqb}
use Rattle.std.proofs.lemmas.List.FromFn.{length-map-range_with_len}
use Rattle.std.proofs.lemmas.Option.{get_or_from_slice_get, slice_get-map, slice_get_within}
use Rattle.wire_core.specs.Bytes.{IsBytes}
use Rattle.wire_core.proofs.ByteLists.{IsBytes-append, IsBytes-back, IsBytes-to_be_bytes}
use Rattle.phase_message.specs.declared.content.Body.{Body}
use Rattle.phase_message.specs.declared.content.Body.TheVariants.{Submit, Shuffled, Abort}
use Rattle.phase_message.specs.declared.content.Content.{Content}
use Rattle.phase_message.specs.declared.header.Header.{Header}
use Rattle.phase_message.specs.declared.post.Post.{Post}
use Rattle.phase_message.specs.declared.stage.Slot.{Slot}
use Rattle.phase_message.specs.declared.stage.StageKind.{StageKind}
use Rattle.phase_message.specs.declared.stage.StageKind.TheVariants.{Submit as AtSubmit, Shuffle as AtShuffle}
use Rattle.phase_message.specs.Body.{level}
use Rattle.phase_message.specs.Grammar.{IsBody, OfGrammar, body_text, content_text, header_text, kind_number}
use Rattle.phase_message.specs.Kinds.{IsBodyAt}
use Rattle.phase_message.specs.Offence.{content_read}
use Rattle.phase_message.specs.Post.{post_spelling}
use Rattle.phase_message.specs.Shape.{Shape}
use Rattle.phase_message.specs.Slots.{slot_at, slot_number, slots_before, slots_of}
use Rattle.phase_message.specs.Stages.{is_member, is_slot, kind_of_stage, speaks}
use Rattle.phase_message.proofs.BodyKinds.{bodies_are_of_kinds}
use Rattle.phase_message.proofs.SlotLists.{length-slots_of, slot_at-number, slot_number-within, slots_before-most, slots_before-rises}
use Rattle.phase_message.proofs.Whole.{content-is_spelled}
use Rattle.signed_post.specs.Admission.{Admitted}
use Rattle.signed_post.proofs.Admits.{admits_exactly}
use Rattle.signed_post.proofs.Lengths.{posts_are_short}
use Rattle.stage_log.specs.Log.{contents_of}
use Rattle.shuffle_blame.specs.Replay.{body_of, ciphertext_of, list_of}
use Rattle.round_spec.specs.Slots.{list_said, said_in, submissions_said, submit_stage}
use Rattle.round_spec.specs.Say.{Configuration, shape_in}
use Rattle.round_spec.specs.OwnRows.{IsPastAt}
use Rattle.round_spec.specs.Runs.{ChecksIn, ReadsIn}
use Rattle.round_spec.proofs.GoLists.{there}
use Rattle.round_spec.proofs.Rows.{checks-parts}
use Rattle.round_spec.proofs.SealedBytes.{bytes-flat}
use Rattle.round_spec.proofs.Turns.{IsShuffle, submit-kind, turn-kind}

-- ---- posts

-- a post that stands in a past, with its slot
pub record StandsThere (c : Configuration) (number : ℕ) (post : Post) : Type 0 where
  pub slot : Slot
  pub at : slot_at (shape_in c) number ≡ Some slot
  pub reads : ReadsIn c slot post

pub stands-there : (c : Configuration) (stage : ℕ) (past : List Post) (number : ℕ) (post : Post) → IsPastAt c stage past
    → slice_get past number ≡ Some post → StandsThere c number post
stands-there c stage past number post is at =
    let within = slice_get_within past number post at in
    let slot = there (slots_of (shape_in c)) number (omega (
      arith,
      within,
      is.whole,
      slots_before-most (shape_in c) stage,
      length-slots_of
          (shape_in c),
    )) in
    record { slot = slot.0; at = slot.1; reads = is.reads number slot.0 post slot.1 at }

-- a post that checks is admitted
pub checks-admitted : (c : Configuration) (slot : Slot) (post : Post) → ChecksIn c slot post → (header : Header)
    × Admitted c.roster c.round post header
checks-admitted c slot post is =
    let parts = checks-parts c.roster c.round post is.content is.checks in
    (parts.0, (admits_exactly c.roster c.round post parts.0 is.signature_bytes).0 parts.1)

pub spelled-long : (post : Post) → length (post_spelling post) ≡ 4 + length post.content + length post.signature
spelled-long post =
    let head = to_be_bytes w32 (length post.content) in
    omega (arith, length-append (head ++ post.content) post.signature, length-append head post.content)

-- a post that checks reads in its slot
pub checks-read : (c : Configuration) (slot : Slot) (post : Post) → ChecksIn c slot post → ReadsIn c slot post
checks-read c slot post is =
    let parts = checks-parts c.roster c.round post is.content is.checks in
    let admitted = checks-admitted c slot post is in
    record {
      content = is.content;
      reads = parts.2;
      content_bytes = is.content_bytes;
      signature_bytes = is.signature_bytes;
      named = is.named;
      frame = admitted.1.frame;
      short = omega (arith, posts_are_short c.roster c.round post admitted.0 admitted.1, spelled-long post);
    }

-- its spelling has its length in four bytes
pub spelled-short : (c : Configuration) (slot : Slot) (post : Post) → ReadsIn c slot post → length (post_spelling post) < 2 ^ 32
spelled-short c slot post is = (let most = is.frame.most in omega (arith, most, spelled-long post))

pub spelled-bytes : (c : Configuration) (slot : Slot) (post : Post) → ReadsIn c slot post → IsBytes (post_spelling post)
spelled-bytes c slot post is =
    let head : List ℕ = to_be_bytes w32 (length post.content) in
    IsBytes-append (head ++ post.content) post.signature (IsBytes-append head post.content (IsBytes-to_be_bytes w32 (length post.content))
    is.content_bytes) is.signature_bytes

-- its content is of the grammar, and names its slot
pub record IsSaidIn (c : Configuration) (slot : Slot) (post : Post) : Type 0 where
  pub content : Content
  pub reads : content_read (shape_in c) post.content ≡ Ok content
  pub spelled : post.content ≡ content_text content
  pub grammar : OfGrammar (shape_in c) content
  pub stage : content.header.stage ≡ slot.stage
  pub body_bytes : IsBytes (body_text content.body)

pub said-there : (c : Configuration) (slot : Slot) (post : Post) → ReadsIn c slot post → IsSaidIn c slot post
said-there c slot post is =
    let spelled = content-is_spelled (shape_in c) post.content is.content is.content_bytes is.reads in
    let text : IsBytes (content_text is.content) = subst IsBytes spelled.0 is.content_bytes in
    record {
      content = is.content;
      reads = is.reads;
      spelled = spelled.0;
      grammar = spelled.1;
      stage = ap (λ (s : Slot). s.stage) is.named;
      body_bytes = IsBytes-back (kind_number is.content.body ∷ []) (body_text is.content.body)
          (IsBytes-back (header_text is.content.header) ((kind_number is.content.body ∷ []) ++ body_text is.content.body) text);
    }

-- ---- bodies

-- what was said in a slot before the stage is of the grammar
pub record IsSaid (c : Configuration) (past : List Post) (stage member : ℕ) : Type 0 where
  pub body : Body
  pub said : said_in (shape_in c) (contents_of past) stage member ≡ body
  pub grammar : IsBody (shape_in c) stage body
  pub bytes : IsBytes (body_text body)

pub past-said : (c : Configuration) (later stage member : ℕ) (past : List Post) → IsPastAt c later past
    → is_slot (shape_in c) stage member ≡ true
    → stage < later → IsSaid c past stage member
unfolding said_in
past-said c later stage member past is speaks_there lt =
    let shape = shape_in c in
    let number : ℕ = slot_number shape stage member in
    let within = (slot_number-within shape stage member speaks_there).1 in
    let found = there past number (omega (arith, is.whole, within, slots_before-rises shape (stage + 1) later (omega arith))) in
    let said = said-there c (record { stage = stage; sender = member }) found.0
    (is.reads number (record { stage = stage; sender = member }) found.0 (slot_at-number shape stage member speaks_there) found.1) in
    let text : get_or (contents_of past) number [] ≡ found.0.content =
    get_or_from_slice_get (contents_of past) number found.0.content []
    (slice_get-map (λ (p : Post). p.content) past number ∙ ap (option_map (λ (p : Post). p.content)) found.1) in
    record {
      body = said.content.body;
      said = ap (λ (bytes : List ℕ). body_of (content_read shape bytes)) text ∙ ap body_of said.reads;
      grammar = subst (λ (s : ℕ). IsBody shape s said.content.body) said.stage said.grammar.1;
      bytes = said.body_bytes;
    }

-- the body of the kind of its stage
pub kind-body : (shape : Shape) (stage : ℕ) (kind : StageKind) (body : Body) → kind_of_stage shape stage ≡ Some kind
    → IsBody shape stage body
    → IsBodyAt shape (slots_before shape stage) kind body
kind-body shape stage kind body at is = (bodies_are_of_kinds shape stage kind body at).0 is

-- ---- lists

-- so many byte strings of one length
pub record AreEntries (many size : ℕ) (entries : List (List ℕ)) : Type 0 where
  pub long : AllByRecursion (λ entry. length entry ≡ size) entries
  pub count : length entries ≡ many
  pub bytes : AllByRecursion IsBytes entries

submitted-long : (shape : Shape) (before shuffle : ℕ) (body : Body) → IsBodyAt shape before (AtSubmit shuffle) body
    → length (ciphertext_of body) ≡ level shape.members shuffle 0
submitted-long shape before shuffle (Submit ciphertext) is = is
submitted-long shape before shuffle _ is = absurd is

submitted-bytes : (shape : Shape) (before shuffle : ℕ) (body : Body) → IsBodyAt shape before (AtSubmit shuffle) body
    → IsBytes (body_text body)
    → IsBytes (ciphertext_of body)
submitted-bytes shape before shuffle (Submit ciphertext) is bytes = bytes
submitted-bytes shape before shuffle _ is bytes = absurd is

list-entries : (shape : Shape) (before shuffle k : ℕ) (body : Body) (list : List (List ℕ))
    → IsBodyAt shape before (AtShuffle shuffle k) body
    → IsBytes (body_text body) → list_of body ≡ Some list
    → AreEntries shape.members (level shape.members shuffle k) list
list-entries shape before shuffle k (Shuffled entries) list is bytes e =
    subst (AreEntries shape.members (level shape.members shuffle k)) (some-list entries list e)
    (record { long = is.0; count = is.1; bytes = bytes-flat entries bytes })
  where
    some-list : (a b : List (List ℕ)) → (let told : List (List ℕ) → Option (List (List ℕ)) = λ x. Some x in told a ≡ told b) → a ≡ b
    some-list a b e = cc
list-entries shape before shuffle k Abort list is bytes e = absurd cc
list-entries shape before shuffle k _ list is bytes e = absurd is

-- who speaks there
is-member : (n member : ℕ) → 1 ≤ member → member ≤ n → is_member n member ≡ true
is-member n member first last = search rules

submit-speaks : (shape : Shape) (shuffle member : ℕ) → IsShuffle shuffle → 1 ≤ member → member ≤ shape.members
    → is_slot shape (submit_stage shape shuffle) member ≡ true
submit-speaks shape shuffle member is least most =
    ap (λ (o : Option StageKind). speaks shape o member) (submit-kind shape shuffle is) ∙ is-member shape.members member least most

turn-speaks : (shape : Shape) (shuffle k : ℕ) → IsShuffle shuffle → 1 ≤ k → k ≤ shape.members
    → is_slot shape (submit_stage shape shuffle + k) k ≡ true
turn-speaks shape shuffle k is least most = ap (λ (o : Option StageKind). speaks shape o k) (turn-kind shape shuffle k is least most)
    ∙ eq-eqb k k refl

all-range : {A : Type 0} (P : A → Type 0) (f : ℕ → A) (a n : ℕ) → ((k : ℕ) → a ≤ k → k < a + n → P (f k))
    → AllByRecursion P (map f (range_with_len a n))
all-range P f a zero each = tt
all-range P f a (suc n) each = (
  each a (omega arith) (omega arith),
  all-range P f (a + 1) n
      (λ k least most. each k (omega (arith, least)) (omega (arith, most))),
)

length-range : {A : Type 0} (f : ℕ → A) (a n : ℕ) → length (map f (range_with_len a n)) ≡ n
length-range f a n = length-map-range_with_len f a n

some-entries : (a b : List (List ℕ)) → (let told : List (List ℕ) → Option (List (List ℕ)) = λ x. Some x in told a ≡ told b) → a ≡ b
some-entries a b e = cc

-- what a member submitted
abbrev submission_in : Configuration → List Post → ℕ → ℕ → List ℕ
submission_in c past shuffle member = ciphertext_of (said_in (shape_in c) (contents_of past) (submit_stage (shape_in c) shuffle) member)

submission-is : (c : Configuration) (stage : ℕ) (past : List Post) (shuffle member : ℕ) → IsPastAt c stage past → IsShuffle shuffle
    → submit_stage (shape_in c) shuffle < stage → 1 ≤ member → member ≤ (shape_in c).members
    → (length (submission_in c past shuffle member) ≡ level (shape_in c).members shuffle 0) × IsBytes (submission_in c past shuffle member)
submission-is c stage past shuffle member is shuffle_is lt least most =
    let shape = shape_in c in
    let at : ℕ = submit_stage shape shuffle in
    let said = past-said c stage at member past is (submit-speaks shape shuffle member shuffle_is least most) lt in
    let form = kind-body shape at (AtSubmit shuffle) said.body (submit-kind shape shuffle shuffle_is) said.grammar in (
      ap (λ (b : Body). length (ciphertext_of b)) said.said ∙ submitted-long shape (slots_before shape at) shuffle said.body form,
      subst (λ (b : Body). IsBytes (ciphertext_of b)) (sym said.said)
          (submitted-bytes shape (slots_before shape at) shuffle said.body form said.bytes),
    )

-- the submissions before the first turn
submissions-are : (c : Configuration) (stage : ℕ) (past : List Post) (shuffle : ℕ) → IsPastAt c stage past → IsShuffle shuffle
    → submit_stage (shape_in c) shuffle < stage
    → AreEntries (shape_in c).members (level (shape_in c).members shuffle 0) (submissions_said (shape_in c) (contents_of past) shuffle)
submissions-are c stage past shuffle is shuffle_is lt = record {
  long = all-range (λ entry. length entry ≡ level (shape_in c).members shuffle 0) (submission_in c past shuffle) 1 (shape_in c).members
      (λ k least most. (submission-is c stage past shuffle k is shuffle_is lt least (omega (arith, most))).0);
  count = length-range (submission_in c past shuffle) 1 (shape_in c).members;
  bytes = all-range IsBytes (submission_in c past shuffle) 1 (shape_in c).members
      (λ k least most. (submission-is c stage past shuffle k is shuffle_is lt least (omega (arith, most))).1);
}

-- the list after some turns, where none of them said Abort
pub list-is : (c : Configuration) (stage : ℕ) (past : List Post) (shuffle turn : ℕ) (entries : List (List ℕ)) → IsPastAt c stage past
    → IsShuffle shuffle → turn ≤ (shape_in c).members
    → submit_stage (shape_in c) shuffle + turn < stage → list_said (shape_in c) (contents_of past) shuffle turn ≡ Some entries
    → AreEntries (shape_in c).members (level (shape_in c).members shuffle turn) entries
list-is c stage past shuffle zero entries is shuffle_is most lt e =
    subst (AreEntries (shape_in c).members (level (shape_in c).members shuffle 0)) (some-entries _ entries e)
    (submissions-are c stage past shuffle is shuffle_is (omega (arith, lt)))
list-is c stage past shuffle (suc turn) entries is shuffle_is most lt e =
    let shape = shape_in c in
    let at : ℕ = submit_stage shape shuffle + suc turn in
    let said = past-said c stage at (suc turn) past is (turn-speaks shape shuffle (suc turn) shuffle_is (omega arith) most) lt in
    list-entries shape (slots_before shape at) shuffle (suc turn) said.body entries
    (kind-body shape at (AtShuffle shuffle (suc turn)) said.body (turn-kind shape shuffle (suc turn) shuffle_is (omega arith) most)
    said.grammar) said.bytes
    (sym (ap list_of said.said) ∙ e)
