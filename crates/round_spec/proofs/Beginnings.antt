-- The first runs are honest.
use Rattle.std.proofs.Common.{◌≡◌, ◌⊎◌, ℕ, zero, suc, ◌+◌, ◌^◌, ◌<◌, ◌≤◌, true, false, List, [], ◌∷◌, ◌++◌, length, map, replicate, Option, Some, None, Result, Ok, ap, sym, ◌∙◌, refl, subst, arith, rules, inl, inr}
use Rattle.std.specs.Prelude.{IfSome, slice_index_or}
use Rattle.std.specs.List.{AllByRecursion, slice_get, range_with_len, flat_map}
use Rattle.std.specs.Int.{to_be_bytes, w64}
use Rattle.std.proofs.lemmas.Bool.{cases_Bool, cases_eq, cond-false}
use Rattle.std.proofs.lemmas.List.{get_or-replicate, get_or-set_other, get_or-set_same, length-replicate}
use Rattle.std.proofs.lemmas.Option.{none-some, option_and_then_some, slice_get_within}
use Rattle.wire_core.specs.Answers.{◌>>=◌, fault_as}
use Rattle.wire_core.specs.declared.tag.Tag.TheVariants.{View}
use Rattle.wire_core.specs.Bytes.{IsBytes}
use Rattle.wire_core.specs.Hash.{hash_of}
use Rattle.wire_core.proofs.ByteLists.{IsBytes-append, IsBytes-cons, IsBytes-nil, IsBytes-to_be_bytes, hash_bytes}
use Rattle.ring_encrypt.specs.Capsule.{key_of_seed}
use Rattle.ring_encrypt.specs.PublicKey.{IsPublicKey}
use Rattle.ring_encrypt.proofs.KeyLemmas.{key_is_public_key}
use Rattle.lms_tree.specs.Secret.{leaves, lms_signature, own_public}
use Rattle.phase_message.specs.declared.content.Body.TheVariants.{Keys}
use Rattle.phase_message.specs.declared.content.Content.{Content}
use Rattle.phase_message.specs.declared.header.Header.{Header}
use Rattle.phase_message.specs.declared.offence.Offence.{Offence}
use Rattle.phase_message.specs.declared.post.Post.{Post}
use Rattle.phase_message.specs.declared.post.TheConstants.{LEAST_CONTENT}
use Rattle.phase_message.specs.declared.stage.Slot.{Slot}
use Rattle.phase_message.specs.declared.stage.StageKind.TheVariants.{Keys as AtKeys}
use Rattle.phase_message.specs.Body.{body_form}
use Rattle.phase_message.specs.Grammar.{IsBody, OfGrammar, content_text, header_text}
use Rattle.phase_message.specs.Offence.{content_read}
use Rattle.phase_message.specs.Shape.{IsShape}
use Rattle.phase_message.specs.Slots.{slot_at, slot_count, slot_number}
use Rattle.phase_message.specs.Stages.{is_member, is_slot}
use Rattle.phase_message.proofs.Lengths.{fixed-length}
use Rattle.phase_message.proofs.SlotLists.{slot_at-number, slot_number-most}
use Rattle.phase_message.proofs.SlotBounds.{slot-bounds}
use Rattle.phase_message.proofs.Whole.{content-is_read}
use Rattle.group_roster.specs.Roster.{Roster, key_of, roster_id, shape_of_roster}
use Rattle.signed_post.specs.declared.post.PostRefusal.{PostRefusal}
use Rattle.signed_post.specs.declared.post.PostRefusal.TheVariants.{Body as BodyRefusal}
use Rattle.signed_post.specs.Own.{IsSendable}
use Rattle.signed_post.specs.Admission.{Admitted, admission_of, check_of}
use Rattle.signed_post.proofs.Admits.{admits_exactly}
use Rattle.signed_post.proofs.Lengths.{own_posts_are_admitted}
use Rattle.stage_log.specs.Table.{IsKept, IsLog, empty_log, kept_in}
use Rattle.stage_log.proofs.Entries.{filled-is_log, kept_in-at}
use Rattle.round_spec.specs.Say.{Configuration, content_with, keys_row, number_said_before, own_content, own_header, own_key_seed, own_post, shape_in}
use Rattle.round_spec.specs.Runs.{CanEnter, ChecksIn, HonestRun, IsConfiguration, IsOwnPost, own_slot}
use Rattle.round_spec.specs.Beginnings.{BeginningsAreHonest, ListsAreHonest, NothingIsForged, keys_post, keys_run, silent_run}
use Rattle.round_spec.proofs.Contained.{contains-nothing}
use Rattle.round_spec.proofs.OwnBytes.{key-bytes, signature-bytes}
use Rattle.round_spec.proofs.Stopping.{own-header}

-- ---- shapes and members

pub shape-is : (c : Configuration) → CanEnter c → IsShape (shape_in c).version (shape_in c).members
shape-is c is = record { first = is.roster.version; least = is.roster.least; most = is.roster.most }

-- a member's number is one of the roster
number-within : (roster : Roster) (number : ℕ) (key : _) → key_of roster number ≡ Some key → is_member (length roster.keys) number ≡ true
number-within roster zero key e = absurd (none-some key e)
number-within roster (suc k) key e = option_and_then_some _ (slice_get roster.keys k) key e (λ bytes there found. (
    let lt = slice_get_within roster.keys k bytes there in
    within lt))
  where
    within : k < length roster.keys → is_member (length roster.keys) (suc k) ≡ true
    within lt = search rules

own-speaks : (c : Configuration) → IsConfiguration c → is_slot (shape_in c) 0 c.number ≡ true
own-speaks c is = number-within c.roster c.number (own_public c.key) is.key

-- ---- empty logs

-- a place that holds nothing
nothing : Option Post
nothing = None

nothing-kept : (n k : ℕ) (d : Option Post) → k < n → IfSome (slice_index_or (replicate n nothing) k d)
    (λ (post : Post). IsKept post.content)
unfolding nothing
nothing-kept n k d lt = subst (λ (o : Option Post). IfSome o (λ (post : Post). IsKept post.content))
    (sym (get_or-replicate n k nothing d lt)) tt

empty-is_log : (c : Configuration) → IsConfiguration c → IsLog (empty_log (shape_in c))
unfolding nothing
empty-is_log c is = record {
  shape = shape-is c is.enter;
  places = length-replicate (slot_count (shape_in c)) nothing;
  contents = λ k d lt. nothing-kept (slot_count (shape_in c)) k d
      (let long = length-replicate (slot_count (shape_in c)) nothing in omega (arith, lt, long));
}

empty-kept : (c : Configuration) (slot : Slot) → IsConfiguration c → kept_in (empty_log (shape_in c)) slot ≡ None
empty-kept c slot is = elim (cases_Bool (is_slot (shape_in c) slot.stage slot.sender)) [
  | inl speaks ↦
      let most = slot_number-most (shape_in c) slot.stage slot.sender speaks in
      kept_in-at (empty_log (shape_in c)) slot (slot_number (shape_in c) slot.stage slot.sender) None (empty-is_log c is) speaks refl
      (sym (get_or-replicate (slot_count (shape_in c)) (slot_number (shape_in c) slot.stage slot.sender) None None most))
  | inr silent ↦ cond-false (is_slot (shape_in c) slot.stage slot.sender) _ None silent
]

silent-honest : (c : Configuration) → IsConfiguration c → HonestRun (silent_run c)
silent-honest c is = record {
  config = is;
  log = empty-is_log c is;
  shape = refl;
  posts = λ slot post kept. absurd (none-some post (sym (empty-kept c slot is) ∙ kept));
  own = λ stage post kept. absurd (none-some post (sym (empty-kept c (own_slot (silent_run c) stage) is) ∙ kept));
}

-- ---- the keys

own_keys : Configuration → List (List ℕ)
own_keys c = map (λ place. key_of_seed (own_key_seed c place)) (range_with_len 0 5)

keys_content : Configuration → Content
keys_content c = record { header = own_header c [] 0; body = Keys (own_keys c) }

keys-content : (c : Configuration) → own_content c [] 0 ≡ content_text (keys_content c)
unfolding own_content content_with keys_row keys_content own_keys
keys-content c = refl

all-map : (P : List ℕ → Type 0) (f : ℕ → List ℕ) (ns : List ℕ) → ((n : ℕ) → P (f n)) → AllByRecursion P (map f ns)
all-map P f [] each = tt
all-map P f (n ∷ ns) each = (each n, all-map P f ns each)

keys-body : (c : Configuration) → IsBody (shape_in c) 0 (Keys (own_keys c))
unfolding body_form own_keys
keys-body c = (
  _,
  refl,
  (
    all-map IsPublicKey (λ place. key_of_seed (own_key_seed c place)) (range_with_len 0 5)
        (λ place. key_is_public_key (own_key_seed c place)),
    refl,
  ),
)

keys-grammar : (c : Configuration) → IsConfiguration c → OfGrammar (shape_in c) (keys_content c)
unfolding keys_content
keys-grammar c is = (
  record {
    version_is = refl;
    group_long = (hash_bytes _ _).0;
    round_small = is.enter.round;
    slot_is = own-speaks c is;
    view_long = (hash_bytes _ _).0;
  },
  keys-body c,
)

keys-length : (c : Configuration) → IsConfiguration c → length (own_content c [] 0) ≡ 9196
unfolding keys_content
keys-length c is = ap length (keys-content c) ∙ fixed-length (shape_in c) (keys_content c) AtKeys (keys-grammar c is) refl (omega arith)

flat-bytes : (f : ℕ → List ℕ) (ns : List ℕ) → ((n : ℕ) → IsBytes (f n)) → IsBytes (flat_map (λ key. key) (map f ns))
flat-bytes f [] each = IsBytes-nil
flat-bytes f (n ∷ ns) each = IsBytes-append (f n) (flat_map (λ key. key) (map f ns)) (each n) (flat-bytes f ns each)

keys-bytes : (c : Configuration) → IsConfiguration c → IsBytes (own_content c [] 0)
unfolding keys_content own_keys
keys-bytes c is =
    let version : c.roster.version < 256 = omega (arith, is.enter.roster.version) in
    let most = is.enter.roster.most in
    let number : c.number < 256 = small_number (own-speaks c is) most in
    let view : List ℕ = hash_of View [] in
    let sender : List ℕ = (c.number ∷ []) ++ view in
    let stage : List ℕ = (0 ∷ []) ++ sender in
    let its_round : List ℕ = to_be_bytes w64 c.round ++ stage in
    let group : List ℕ = roster_id c.roster in
    let header : IsBytes ((c.roster.version ∷ []) ++ (group ++ its_round)) =
    IsBytes-append (c.roster.version ∷ []) (group ++ its_round) (IsBytes-cons c.roster.version [] version IsBytes-nil)
    (IsBytes-append group its_round (hash_bytes _ _).1 (IsBytes-append (to_be_bytes w64 c.round) stage (IsBytes-to_be_bytes w64 c.round)
    (IsBytes-append (0 ∷ []) sender (IsBytes-cons 0 [] (omega arith) IsBytes-nil)
    (IsBytes-append (c.number ∷ []) view (IsBytes-cons c.number [] number IsBytes-nil) (hash_bytes View []).1)))) in
    subst IsBytes (sym (keys-content c))
    (IsBytes-append (header_text (own_header c [] 0)) _ header
    (IsBytes-append (1 ∷ []) _ (IsBytes-cons 1 [] (omega arith) IsBytes-nil)
    (flat-bytes (λ place. key_of_seed (own_key_seed c place)) (range_with_len 0 5) (λ place. key-bytes (own_key_seed c place)))))
  where
    small_number : is_slot (shape_in c) 0 c.number ≡ true → length c.roster.keys ≤ 8 → c.number < 256
    small_number speaks most = (let within = (slot-bounds (shape_in c) 0 c.number speaks).2 in omega arith)

keys-sized : (c : Configuration) → IsConfiguration c → (LEAST_CONTENT ≤ length (keys_post c).content)
    × (length (keys_post c).content < 2 ^ 32)
unfolding own_post
keys-sized c is = (let long = keys-length c is in (omega (arith, long), omega (arith, long)))

-- ---- the post of the keys

pub checks-from : (roster : Roster) (round : ℕ) (post : Post) (header : Header) (content : Content)
    → admission_of roster round post ≡ Ok header
    → content_read (shape_of_roster roster) post.content ≡ Ok content → check_of roster round post ≡ Ok content
unfolding check_of
checks-from roster round post header content admitted reads =
    ap (λ (r : Result Header PostRefusal). r >>= λ header. fault_as (λ (offence : Offence). BodyRefusal offence.at offence.rule)
    (content_read (shape_of_roster roster) post.content)) admitted
    ∙ ap (fault_as (λ (offence : Offence). BodyRefusal offence.at offence.rule)) reads

keys-sendable : (c : Configuration) → IsConfiguration c → IsSendable c.roster c.round (own_content c [] 0) (own_header c [] 0)
keys-sendable c is = record {
  reads = own-header c [] 0 is.enter.round;
  version = is.enter.roster.version;
  group = refl;
  this_round = refl;
  member = own-speaks c is;
  slot = own-speaks c is;
  least = omega (arith, keys-length c is);
  most = omega (arith, keys-length c is);
}

signature_at : Configuration → List ℕ
signature_at c = lms_signature c.key (c.first + number_said_before c 0) (own_content c [] 0)

keys-post : (c : Configuration) → keys_post c ≡ record { content = own_content c [] 0; signature = signature_at c }
unfolding own_post signature_at
keys-post c = refl

pub keys-admitted : (c : Configuration) → IsConfiguration c → Admitted c.roster c.round (keys_post c) (own_header c [] 0)
unfolding own_post number_said_before
keys-admitted c is =
    let left = is.enter.leaves in
    own_posts_are_admitted c.roster c.round (own_content c [] 0) (own_header c [] 0) c.key (c.first + number_said_before c 0)
    (keys-sendable c is) is.key (first_left left)
  where
    first_left : c.first + 12 ≤ leaves c.key → c.first + 0 < leaves c.key
    first_left le = omega (arith, le)

pub keys-check : (c : Configuration) → IsConfiguration c → ChecksIn c (record { stage = 0; sender = c.number }) (keys_post c)
unfolding own_post keys_content
keys-check c is = record {
  content = keys_content c;
  checks = checks-from c.roster c.round (keys_post c) (own_header c [] 0) (keys_content c)
      ((admits_exactly c.roster c.round (keys_post c) (own_header c [] 0)
      (signature-bytes c.key (c.first + number_said_before c 0) (own_content c [] 0))).1 (keys-admitted c is))
      (ap (content_read (shape_in c)) (keys-content c) ∙ content-is_read (shape_in c) (keys_content c) (keys-grammar c is));
  content_bytes = keys-bytes c is;
  signature_bytes = signature-bytes c.key (c.first + number_said_before c 0) (own_content c [] 0);
  named = refl;
}

-- ---- the run of one that has said its keys

keys-kept : (c : Configuration) (slot : Slot) (post : Post) → IsConfiguration c → kept_in (keys_run c).log slot ≡ Some post
    → (slot ≡ record { stage = 0; sender = c.number }) × (post ≡ keys_post c)
unfolding nothing
keys-kept c slot post is kept = by_slot (cases_Bool (is_slot (shape_in c) slot.stage slot.sender))
  where
    own : Slot
    own = record { stage = 0; sender = c.number }

    number : ℕ
    number = slot_number (shape_in c) slot.stage slot.sender

    own_number : ℕ
    own_number = slot_number (shape_in c) 0 c.number

    content_kept : IsKept (keys_post c).content
    content_kept = record { least = (keys-sized c is).0; most = (keys-sized c is).1 }

    is_log : IsLog (keys_run c).log
    is_log = filled-is_log (empty_log (shape_in c)) own (keys_post c) (empty-is_log c is) content_kept

    some_same : (x y : Post) → (let told : Post → Option Post = λ z. Some z in told x ≡ told y) → x ≡ y
    some_same x y e = cc

    slot_same : (x y : Slot) → (let told : Slot → Option Slot = λ z. Some z in told x ≡ told y) → x ≡ y
    slot_same x y e = cc

    by_slot : (is_slot (shape_in c) slot.stage slot.sender ≡ true) ⊎ (is_slot (shape_in c) slot.stage slot.sender ≡ false) → (slot ≡ own)
        × (post ≡ keys_post c)
    by_slot (inr silent) = absurd (none-some post (sym (cond-false (is_slot (shape_in c) slot.stage slot.sender) _ None silent) ∙ kept))
    by_slot (inl speaks) =
        let most = slot_number-most (shape_in c) slot.stage slot.sender speaks in
        let own_most = slot_number-most (shape_in c) 0 c.number (own-speaks c is) in
        elim (cases_eq number own_number) [
          | inl same ↦ (
            slot_same slot own (sym (slot_at-number (shape_in c) slot.stage slot.sender speaks) ∙ ap (slot_at (shape_in c)) same
                ∙ slot_at-number (shape_in c) 0 c.number (own-speaks c is)),
            some_same post (keys_post c) (sym kept ∙ kept_in-at (keys_run c).log slot own_number (Some (keys_post c)) is_log speaks
                (sym same)
                (sym (get_or-set_same (replicate (slot_count (shape_in c)) nothing) own_number (Some (keys_post c)) (Some (keys_post c))
                (let long = length-replicate (slot_count (shape_in c)) nothing in omega (arith, own_most, long))))),
          )
          | inr other ↦ absurd (none-some post (sym (kept_in-at (keys_run c).log slot number None is_log speaks refl
              (sym (get_or-set_other (replicate (slot_count (shape_in c)) nothing) own_number number (Some (keys_post c)) None other
              ∙ get_or-replicate (slot_count (shape_in c)) number nothing None most))) ∙ kept))
        ]

pub keys-there : (c : Configuration) → IsConfiguration c → kept_in (keys_run c).log (own_slot (keys_run c) 0) ≡ Some (keys_post c)
unfolding nothing
keys-there c is =
    let own : Slot = record { stage = 0; sender = c.number } in
    let number : ℕ = slot_number (shape_in c) 0 c.number in
    let most = slot_number-most (shape_in c) 0 c.number (own-speaks c is) in
    let long = length-replicate (slot_count (shape_in c)) nothing in
    kept_in-at (keys_run c).log own number (Some (keys_post c))
    (filled-is_log (empty_log (shape_in c)) own (keys_post c) (empty-is_log c is)
    (record { least = (keys-sized c is).0; most = (keys-sized c is).1 }))
    (own-speaks c is) refl
    (sym (get_or-set_same (replicate (slot_count (shape_in c)) nothing) number (Some (keys_post c)) (Some (keys_post c))
    (omega (arith, most, long))))

keys-honest : (c : Configuration) → IsConfiguration c → HonestRun (keys_run c)
keys-honest c is = record {
  config = is;
  log = filled-is_log (empty_log (shape_in c)) (record { stage = 0; sender = c.number }) (keys_post c) (empty-is_log c is)
      (record { least = (keys-sized c is).0; most = (keys-sized c is).1 });
  shape = refl;
  posts = λ slot post kept. (
      let at = keys-kept c slot post is kept in
      subst (λ (s : Slot). ChecksIn c s post) (sym at.0) (subst (λ (p : Post). ChecksIn c (record { stage = 0; sender = c.number }) p)
      (sym at.1) (keys-check c is)));
  own = λ stage post kept. (
      let at = keys-kept c (own_slot (keys_run c) stage) post is kept in
      let first : stage ≡ 0 = ap (λ (s : Slot). s.stage) at.0 in
      subst (λ (s : ℕ). IsOwnPost (keys_run c) s post) (sym first)
      (record { past = []; before = refl; goes = λ earlier lt. absurd (omega (arith, lt)); said = at.1 }));
}

pub beginnings_are_honest : BeginningsAreHonest
beginnings_are_honest run beginning = by_kind beginning.is
  where
    by_kind : (run ≡ silent_run run.config) ⊎ (run ≡ keys_run run.config) → HonestRun run
    by_kind (inl is) = subst HonestRun (sym is) (silent-honest run.config beginning.config)
    by_kind (inr is) = subst HonestRun (sym is) (keys-honest run.config beginning.config)

pub lists_are_honest : ListsAreHonest
lists_are_honest roster runs each one_roster apart = record {
  honest = λ k d lt. beginnings_are_honest (slice_index_or runs k d) (each k d lt);
  one_roster = one_roster;
  apart = apart;
}

pub nothing_is_forged : NothingIsForged
nothing_is_forged roster runs bytes post header (inl given) spelled admitted numbered = absurd (contains-nothing bytes given)
nothing_is_forged roster runs bytes post header (inr (outer, given, embedded)) spelled admitted numbered = absurd
    (contains-nothing outer given)
