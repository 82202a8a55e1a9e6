-- What a member says over a past of posts that read in their slots is of the grammar.
use Rattle.std.proofs.Common.{◌≡◌, ℕ, zero, suc, ◌+◌, ◌-◌, ◌*◌, ◌<◌, ◌≤◌, ◌^◌, true, false, List, [], ◌∷◌, ◌++◌, length, map, drop, Option, Some, None, ap, sym, ◌∙◌, refl, subst, arith, inl, inr}
use Rattle.std.specs.Prelude.{◌⊎◌, Bool, ◌==◌, option_map, if◌then◌else◌}
use Rattle.std.specs.Int.{to_be_bytes, w64}
use Rattle.std.specs.List.{AllByRecursion, flat_map, range_with_len}
use Rattle.std.proofs.lemmas.Bool.{cases_Bool, cond-false, cond-true, eqb-true}
use Rattle.std.proofs.lemmas.List.{length-drop, length-map, length-take-le}
use Rattle.std.proofs.lemmas.List.Sorted.{All-permutation, length_permutation}
use Rattle.wire_core.specs.Bytes.{IsBytes, prefixed}
use Rattle.wire_core.proofs.ByteLists.{IsBytes-append, IsBytes-cons, IsBytes-nil, IsBytes-to_be_bytes, hash_bytes}
use Rattle.wire_core.specs.declared.tag.Tag.TheVariants.{View}
use Rattle.ring_encrypt.specs.Capsule.{key_of_seed}
use Rattle.ring_encrypt.proofs.KeyLemmas.{key_is_public_key}
use Rattle.ring_encrypt.specs.PublicKey.{IsPublicKey}
use Rattle.phase_message.specs.declared.content.Body.{Body}
use Rattle.phase_message.specs.declared.content.Body.TheVariants.{Keys as KeysBody, Submit as SubmitBody, Shuffled, Abort, Go as GoBody, Reveal, Dispute, Pads, Check as CheckBody, Confirm as ConfirmBody, Differ}
use Rattle.phase_message.specs.declared.post.Post.{Post}
use Rattle.phase_message.specs.declared.stage.StageKind.{StageKind}
use Rattle.phase_message.specs.declared.stage.StageKind.TheVariants.{Keys, Submit, Shuffle, Go, Final, Pad, Check, Confirm}
use Rattle.phase_message.specs.Body.{level}
use Rattle.phase_message.specs.Grammar.{OfGrammar, body_text, flag_text, header_text, kind_number}
use Rattle.phase_message.specs.Kinds.{IsBodyAt}
use Rattle.phase_message.specs.Post.{post_spelling}
use Rattle.phase_message.specs.Shape.{Shape}
use Rattle.phase_message.specs.Slots.{senders_of, slots_before}
use Rattle.phase_message.specs.Stages.{kind_of_stage, speaks, vote_of}
use Rattle.phase_message.proofs.Closings.{closing-follows}
use Rattle.phase_message.proofs.Counts.{slots_next}
use Rattle.phase_message.proofs.BodyKinds.{bodies_are_of_kinds}
use Rattle.phase_message.proofs.SlotBounds.{slot-bounds}
use Rattle.group_roster.specs.Roster.{roster_id}
use Rattle.stage_log.specs.Log.{contents_of, view_of}
use Rattle.layer_cipher.specs.Stripping.{stripped}
use Rattle.layer_cipher.proofs.StrippingLemmas.{strips_all, strips_exactly}
use Rattle.shuffle_core.specs.Shuffle.{has_equal, in_drawn_order, list_or_abort, turn_of}
use Rattle.shuffle_core.proofs.Drawn.{entries_are_permuted}
use Rattle.shuffle_core.proofs.Turns.{turn_says_bodies}
use Rattle.go_nogo.specs.Rows.{check_row, confirm_row, final_row, go_row, posts_at, written}
use Rattle.go_nogo.specs.Votes.{votes_agree}
use Rattle.shuffle_blame.specs.Replay.{outer_place}
use Rattle.round_spec.specs.Slots.{inner_place, items_opened, list_said}
use Rattle.round_spec.specs.Say.{Configuration, content_with, keys_row, own_body_at, own_body_if, own_content, own_descriptor, own_header, own_key_seed, own_opening, own_order_seed, own_secret, own_submission, pad_for, pads_row, shape_in, turn_over, turn_row}
use Rattle.round_spec.specs.OwnRows.{CanSay, IsPastAt, OwnRowOfGrammar, RowOfGrammar, content_due}
use Rattle.round_spec.proofs.OwnBytes.{key-bytes}
use Rattle.round_spec.proofs.OwnItems.{IsItem, descriptor-long, is-member, opened-count, own-descriptor-bytes, own-submission, sent-pad}
use Rattle.round_spec.proofs.PastForms.{AreEntries, list-is, spelled-bytes, spelled-short, stands-there}
use Rattle.round_spec.proofs.SealedBytes.{all-drop, all-from, all-items, all-map, all-map-from, all-places, all-take, bodies-bytes, bodies-long, flat-bytes, prefixed-bytes}
use Rattle.round_spec.proofs.Turns.{pad-late, submit-late, turn-at}

-- a body of the kind of its stage, of bytes
pub record IsRow (c : Configuration) (stage : ℕ) (kind : StageKind) (body : Body) : Type 0 where
  pub form : IsBodyAt (shape_in c) (slots_before (shape_in c) stage) kind body
  pub bytes : IsBytes (body_text body)

-- ---- keys, submissions and votes

keys-are : (c : Configuration) (stage : ℕ) → IsRow c stage Keys (keys_row c)
unfolding keys_row
keys-are c stage = record {
  form = (
    all-map IsPublicKey (λ place. key_of_seed (own_key_seed c place)) (range_with_len 0 5)
        (λ place. key_is_public_key (own_key_seed c place)),
    refl,
  );
  bytes = flat-bytes (map (λ place. key_of_seed (own_key_seed c place)) (range_with_len 0 5))
      (all-map IsBytes (λ place. key_of_seed (own_key_seed c place)) (range_with_len 0 5) (λ place. key-bytes (own_key_seed c place)));
}

flag-bytes : (vote : Bool) → IsBytes (flag_text vote)
flag-bytes true = IsBytes-cons 1 [] (omega arith) IsBytes-nil
flag-bytes false = IsBytes-cons 0 [] (omega arith) IsBytes-nil

go-is : (c : Configuration) (stage shuffle : ℕ) (past : List (List ℕ)) (inner : List ℕ)
    → IsRow c stage (Go shuffle) (go_row (shape_in c) past stage inner)
unfolding go_row
go-is c stage shuffle past inner = record { form = tt; bytes = flag-bytes _ }

check-is : (c : Configuration) (stage : ℕ) (past : List (List ℕ)) → IsRow c stage Check (check_row (shape_in c) past stage)
unfolding check_row
check-is c stage past = record { form = tt; bytes = flag-bytes _ }

submit-is : (c : Configuration) (own : List ℕ) (stage shuffle : ℕ) (past : List Post) → CanSay c stage past
    → IsItem (36 + 2272 * (shape_in c).members) own
    → kind_of_stage (shape_in c) stage ≡ Some (Submit shuffle)
    → IsRow c stage (Submit shuffle) (SubmitBody (own_submission c own (contents_of past) shuffle).ciphertext)
submit-is c own stage shuffle past can of_own kind =
    let is = own-submission c own stage past shuffle can of_own (submit-late (shape_in c) stage shuffle kind) in
    record { form = is.long; bytes = is.bytes }

-- ---- turns

-- entries in another order
order-entries : (count size : ℕ) (seed : List ℕ) (entries : List (List ℕ)) → count ≤ 8 → AreEntries count size entries
    → AreEntries count size (in_drawn_order seed entries)
order-entries count size seed entries few are =
    let moved = entries_are_permuted seed entries (omega (arith, few, are.count)) in
    let other : (P : List ℕ → Type 0) → AllByRecursion P entries → AllByRecursion P (in_drawn_order seed entries) =
    λ P all. all-items P (in_drawn_order seed entries) (All-permutation P entries (in_drawn_order seed entries) moved
    (all-places P entries all)) in
    record {
      long = other (λ entry. length entry ≡ size) are.long;
      count = length_permutation entries (in_drawn_order seed entries) moved ∙ are.count;
      bytes = other IsBytes are.bytes;
    }

-- their bodies
stripped-entries : (count size : ℕ) (seed : List ℕ) (entries bodies : List (List ℕ)) → AreEntries count (size + 2272) entries
    → stripped seed entries ≡ Some bodies → AreEntries count size bodies
stripped-entries count size seed entries bodies are e =
    let each = (strips_exactly seed entries bodies).0 e in
    record {
      long = bodies-long seed size entries bodies each are.long;
      count = strips_all seed entries bodies e ∙ are.count;
      bytes = bodies-bytes seed entries bodies each are.bytes;
    }

-- what a turn says
turn-cases : (seed order : List ℕ) (entries : List (List ℕ))
    → (turn_of seed order entries ≡ Abort) ⊎ ((list : List (List ℕ)) × (turn_of seed order entries ≡ Shuffled list))
unfolding turn_of
turn-cases seed order entries = elim (cases_Bool (has_equal entries)) [
  | inl twice ↦ inl (cond-true (has_equal entries) Abort (list_or_abort (option_map (in_drawn_order order) (stripped seed entries))) twice)
  | inr apart ↦ by_list (option_map (in_drawn_order order) (stripped seed entries))
      (cond-false (has_equal entries) Abort (list_or_abort (option_map (in_drawn_order order) (stripped seed entries))) apart)
]
  where
    by_list : (o : Option (List (List ℕ)))
        → (if has_equal entries then Abort else list_or_abort (option_map (in_drawn_order order) (stripped seed entries))) ≡ list_or_abort o
        → ((if has_equal entries then Abort else list_or_abort (option_map (in_drawn_order order) (stripped seed entries))) ≡ Abort)
        ⊎ ((list : List (List ℕ)) × ((if has_equal entries then Abort else list_or_abort
        (option_map (in_drawn_order order) (stripped seed entries))) ≡ Shuffled list))
    by_list None e = inl e
    by_list (Some list) e = inr (list, e)

-- a layer less with each turn
level-next : (n shuffle k : ℕ) → k < n → level n shuffle k ≡ level n shuffle (suc k) + 2272
level-next n shuffle k lt = by_item (if shuffle == 1 then 36 + 2272 * n else 34)
  where
    by_item : (item : ℕ) → item + 2272 * (2 * n - k) ≡ item + 2272 * (2 * n - suc k) + 2272
    by_item item = omega (arith, lt)

turn-row : (c : Configuration) (stage shuffle k : ℕ) (seed order : List ℕ) (entries : List (List ℕ)) → (shape_in c).members ≤ 8
    → k < (shape_in c).members
    → AreEntries (shape_in c).members (level (shape_in c).members shuffle k) entries
    → IsRow c stage (Shuffle shuffle (suc k)) (turn_of seed order entries)
turn-row c stage shuffle k seed order entries few lt are = elim (turn-cases seed order entries) [
  | inl abort ↦ subst (IsRow c stage (Shuffle shuffle (suc k))) (sym abort) (record { form = tt; bytes = IsBytes-nil })
  | inr list ↦
      let said = turn_says_bodies seed order entries list.0 list.1 in
      let size : ℕ = level (shape_in c).members shuffle (suc k) in
      let bodies = stripped-entries (shape_in c).members (level (shape_in c).members shuffle (suc k)) seed entries said.1.0
      (subst (λ (n : ℕ). AreEntries (shape_in c).members n entries) (level-next (shape_in c).members shuffle k lt) are) said.1.1 in
      let made = subst (AreEntries (shape_in c).members (level (shape_in c).members shuffle (suc k))) (sym said.1.2)
      (order-entries (shape_in c).members (level (shape_in c).members shuffle (suc k)) order said.1.0 few bodies) in
      subst (IsRow c stage (Shuffle shuffle (suc k))) (sym list.1)
      (record { form = (made.long, made.count); bytes = flat-bytes list.0 made.bytes })
]

over-is : (c : Configuration) (stage shuffle k : ℕ) (o : Option (List (List ℕ))) → (shape_in c).members ≤ 8 → k < (shape_in c).members
    → ((entries : List (List ℕ)) → o ≡ Some entries → AreEntries (shape_in c).members (level (shape_in c).members shuffle k) entries)
    → IsRow c stage (Shuffle shuffle (suc k)) (turn_over c shuffle o)
over-is c stage shuffle k None few lt each = record { form = tt; bytes = IsBytes-nil }
over-is c stage shuffle k (Some entries) few lt each = turn-row c stage shuffle k (own_key_seed c (outer_place shuffle))
    (own_order_seed c shuffle) entries few lt (each entries refl)

turn-is : (c : Configuration) (stage shuffle k : ℕ) (past : List Post) → CanSay c stage past
    → kind_of_stage (shape_in c) stage ≡ Some (Shuffle shuffle k)
    → IsRow c stage (Shuffle shuffle k) (turn_row c (contents_of past) shuffle)
unfolding turn_row
turn-is c stage shuffle k past can kind =
    let at = turn-at (shape_in c) stage shuffle k kind in
    let own : c.number ≡ k = eqb-true c.number k (sym (ap (λ (o : Option StageKind). speaks (shape_in c) o c.number) kind) ∙ can.speaks) in
    let least = at.least in
    let most = at.most in
    let stage_is = at.at in
    let back : suc (c.number - 1) ≡ k = omega (arith, own) in
    subst (λ (j : ℕ). IsRow c stage (Shuffle shuffle j) (turn_over c shuffle
    (list_said (shape_in c) (contents_of past) shuffle (c.number - 1)))) back
    (over-is c stage shuffle (c.number - 1) (list_said (shape_in c) (contents_of past) shuffle (c.number - 1))
    (is-member c stage past can).most (omega (arith, own))
    (λ entries e. list-is c stage past shuffle (c.number - 1) entries can.past_is at.is (omega (arith, own)) (omega (arith, own, stage_is))
    e))

-- ---- pads

pads-are : (c : Configuration) (own : List ℕ) (stage : ℕ) (past : List Post) → CanSay c stage past
    → kind_of_stage (shape_in c) stage ≡ Some Pad
    → IsRow c stage Pad (pads_row c own (contents_of past))
unfolding pads_row
pads-are c own stage past can kind =
    let opened : List (Option (List ℕ)) = items_opened (shape_in c) (contents_of past) 1 in
    let sent : List ℕ → Option (List ℕ) → List ℕ = pad_for c in
    record {
      form = (
        all-map (λ pad. length pad ≤ 65536) (pad_for c own) opened (λ entry. (sent-pad c own entry can.enter).short),
        length-map opened (pad_for c own) ∙ opened-count c stage past can.past_is (pad-late (shape_in c) stage kind),
      );
      bytes = prefixed-bytes (map (pad_for c own) opened) (all-map IsBytes (pad_for c own) opened
          (λ entry. (sent-pad c own entry can.enter).bytes));
    }

-- ---- closing contents

posts-short : (c : Configuration) (stage : ℕ) (past : List Post) → IsPastAt c stage past
    → AllByRecursion (λ post. length (post_spelling post) < 2 ^ 32) past
posts-short c stage past is = all-from (λ post. length (post_spelling post) < 2 ^ 32) past
    (λ k post at. (let there = stands-there c stage past k post is at in spelled-short c there.slot post there.reads))

posts-bytes : (c : Configuration) (stage : ℕ) (past : List Post) → IsPastAt c stage past
    → AllByRecursion (λ post. IsBytes (post_spelling post)) past
posts-bytes c stage past is = all-from (λ post. IsBytes (post_spelling post)) past
    (λ k post at. (let there = stands-there c stage past k post is at in spelled-bytes c there.slot post there.reads))

all-posts : (P : List ℕ → Type 0) (posts : List Post) → AllByRecursion (λ post. P (post_spelling post)) posts
    → AllByRecursion P (written posts)
all-posts P posts all = all-map-from P post_spelling posts all

stage-posts : (P : List ℕ → Type 0) (shape : Shape) (posts : List Post) (stage : ℕ) → AllByRecursion (λ post. P (post_spelling post)) posts
    → AllByRecursion P (written (posts_at shape posts stage))
stage-posts P shape posts stage all =
    all-posts P (posts_at shape posts stage) (all-take (λ post. P (post_spelling post))
    (slots_before shape (stage + 1) - slots_before shape stage) (drop (slots_before shape stage) posts)
    (all-drop (λ post. P (post_spelling post)) (slots_before shape stage) posts all))

-- as many votes as members stand before a closing stage
votes-count : (shape : Shape) (posts : List Post) (stage : ℕ) (kind vote : StageKind) → kind_of_stage shape stage ≡ Some kind
    → vote_of kind ≡ Some vote → senders_of shape vote ≡ shape.members
    → length posts ≡ slots_before shape stage → length (written (posts_at shape posts (stage - 1))) ≡ shape.members
votes-count shape posts stage kind vote at closes all whole =
    let follows = closing-follows shape stage kind vote at closes in
    let least = follows.0 in
    let a : ℕ = slots_before shape (stage - 1) in
    let b : ℕ = slots_before shape (stage - 1 + 1) in
    let next : b ≡ a + senders_of shape vote = slots_next shape (stage - 1) vote follows.1 in
    let back : stage - 1 + 1 ≡ stage = omega arith in
    let end : b ≡ slots_before shape stage = ap (λ (s : ℕ). slots_before shape s) back in
    length-map (posts_at shape posts (stage - 1)) post_spelling
    ∙ length-take-le (b - a) (drop a posts) (omega (arith, whole, end, next, length-drop a posts))
    ∙ omega (arith, next, all)

final-is : (c : Configuration) (stage shuffle : ℕ) (past : List Post) (inner outer opening : List ℕ) → IsPastAt c stage past
    → kind_of_stage (shape_in c) stage ≡ Some (Final shuffle)
    → IsItem 32 inner → IsItem 32 outer → IsItem 32 opening → IsRow c stage (Final shuffle)
    (final_row (shape_in c) past stage inner outer opening)
unfolding final_row
final-is c stage shuffle past inner outer opening is kind i o p =
    let short = posts-short c stage past is in
    let bytes = posts-bytes c stage past is in
    let votes : List (List ℕ) = written (posts_at (shape_in c) past (stage - 1)) in
    elim (cases_Bool (votes_agree (shape_in c) (contents_of past) stage)) [
      | inl agree ↦ subst (IsRow c stage (Final shuffle)) (sym (cond-true (votes_agree (shape_in c) (contents_of past) stage)
          (Reveal (written (posts_at (shape_in c) past (stage - 1))) inner) (Dispute (written past) outer opening) agree))
          (record {
            form = (
              (
                stage-posts (λ item. length item < 2 ^ 32) (shape_in c) past (stage - 1) short,
                votes-count (shape_in c) past stage
                    (Final shuffle) (Go shuffle) kind refl refl is.whole,
              ),
              i.long,
            );
            bytes = IsBytes-append (flat_map prefixed votes) inner
                (prefixed-bytes votes (stage-posts IsBytes (shape_in c) past (stage - 1) bytes)) i.bytes;
          })
      | inr differ ↦ subst (IsRow c stage (Final shuffle)) (sym
          (cond-false (votes_agree (shape_in c) (contents_of past) stage) (Reveal (written (posts_at (shape_in c) past (stage - 1))) inner)
          (Dispute (written past) outer opening) differ))
          (record {
            form = ((all-posts (λ item. length item < 2 ^ 32) past short, length-map past post_spelling ∙ is.whole), o.long, p.long);
            bytes = IsBytes-append (flat_map prefixed (written past)) (outer ++ opening)
                (prefixed-bytes (written past) (all-posts IsBytes past bytes)) (IsBytes-append outer opening o.bytes p.bytes);
          })
    ]

confirm-is : (c : Configuration) (stage : ℕ) (past : List Post) → IsPastAt c stage past → kind_of_stage (shape_in c) stage ≡ Some Confirm
    → IsRow c stage Confirm (confirm_row (shape_in c) past stage)
unfolding confirm_row
confirm-is c stage past is kind =
    let short = posts-short c stage past is in
    let bytes = posts-bytes c stage past is in
    let votes : List (List ℕ) = written (posts_at (shape_in c) past (stage - 1)) in
    elim (cases_Bool (votes_agree (shape_in c) (contents_of past) stage)) [
      | inl agree ↦ subst (IsRow c stage Confirm) (sym (cond-true (votes_agree (shape_in c) (contents_of past) stage)
          (ConfirmBody (written (posts_at (shape_in c) past (stage - 1)))) (Differ (written past)) agree))
          (record {
            form = (
              stage-posts (λ item. length item < 2 ^ 32) (shape_in c) past (stage - 1) short,
              votes-count (shape_in c) past stage
                  Confirm Check kind refl refl is.whole,
            );
            bytes = prefixed-bytes votes (stage-posts IsBytes (shape_in c) past (stage - 1) bytes);
          })
      | inr differ ↦ subst (IsRow c stage Confirm) (sym (cond-false (votes_agree (shape_in c) (contents_of past) stage)
          (ConfirmBody (written (posts_at (shape_in c) past (stage - 1)))) (Differ (written past)) differ))
          (record {
            form = (all-posts (λ item. length item < 2 ^ 32) past short, length-map past post_spelling ∙ is.whole);
            bytes = prefixed-bytes (written past) (all-posts IsBytes past bytes);
          })
    ]

-- ---- any row

secret-item : (c : Configuration) (label : ℕ) → IsItem 32 (own_secret c label)
secret-item c label = record { long = (hash_bytes _ _).0; bytes = (hash_bytes _ _).1 }

row-at : (c : Configuration) (own : List ℕ) (stage : ℕ) (past : List Post) (kind : StageKind) → CanSay c stage past
    → IsItem (36 + 2272 * (shape_in c).members) own
    → kind_of_stage (shape_in c) stage ≡ Some kind → IsRow c stage kind (own_body_at c own past stage kind)
row-at c own stage past Keys can is at = keys-are c stage
row-at c own stage past (Submit shuffle) can is at = submit-is c own stage shuffle past can is at
row-at c own stage past (Shuffle shuffle k) can is at = turn-is c stage shuffle k past can at
row-at c own stage past (Go shuffle) can is at = go-is c stage shuffle (contents_of past) _
row-at c own stage past (Final shuffle) can is at =
    final-is c stage shuffle past (own_key_seed c (inner_place shuffle)) (own_key_seed c (outer_place shuffle)) (own_opening c shuffle 2)
    can.past_is at
    (secret-item c (inner_place shuffle + 1)) (secret-item c (outer_place shuffle + 1)) (secret-item c (5 + 2 * shuffle + 2))
row-at c own stage past Pad can is at = pads-are c own stage past can at
row-at c own stage past Check can is at = check-is c stage (contents_of past)
row-at c own stage past Confirm can is at = confirm-is c stage past can.past_is at

-- the own body, of the kind of its stage, where the own descriptor has these bytes
pub record OwnBody (c : Configuration) (own : List ℕ) (stage : ℕ) (past : List Post) : Type 0 where
  pub kind : StageKind
  pub at : kind_of_stage (shape_in c) stage ≡ Some kind
  pub row : IsRow c stage kind (content_with c own past stage).body

body-with : (c : Configuration) (own : List ℕ) (stage : ℕ) (past : List Post) → CanSay c stage past
    → IsItem (36 + 2272 * (shape_in c).members) own
    → OwnBody c own stage past
unfolding content_with
body-with c own stage past can is = by_kind (kind_of_stage (shape_in c) stage) refl
  where
    by_kind : (o : Option StageKind) → kind_of_stage (shape_in c) stage ≡ o → OwnBody c own stage past
    by_kind None e = absurd (let silent = sym (ap (λ (o : Option StageKind). speaks (shape_in c) o c.number) e) ∙ can.speaks in cc)
    by_kind (Some kind) e = record {
      kind = kind;
      at = e;
      row = subst (IsRow c stage kind) (sym (ap (own_body_if c own past stage) e)) (row-at c own stage past kind can is e);
    }

-- the descriptor that a member makes is as long as one of the group
own-made : (c : Configuration) (stage : ℕ) (past : List Post) → CanSay c stage past
    → IsItem (36 + 2272 * (shape_in c).members) (own_descriptor c (contents_of past))
own-made c stage past can = record {
  long = descriptor-long c (contents_of past) can.enter (is-member c stage past can);
  bytes = own-descriptor-bytes c (contents_of past);
}

pub own-body : (c : Configuration) (stage : ℕ) (past : List Post) → CanSay c stage past
    → OwnBody c (own_descriptor c (contents_of past)) stage past
own-body c stage past can = body-with c (own_descriptor c (contents_of past)) stage past can (own-made c stage past can)

pub view-hash : (shape : Shape) (past : List (List ℕ)) (stage : ℕ) → (length (view_of shape past stage) ≡ 32)
    × IsBytes (view_of shape past stage)
view-hash shape past zero = hash_bytes View []
view-hash shape past (suc stage) = hash_bytes View _

of-grammar : (c : Configuration) (own : List ℕ) (stage : ℕ) (past : List Post) → CanSay c stage past
    → IsItem (36 + 2272 * (shape_in c).members) own
    → OfGrammar (shape_in c) (content_with c own past stage)
unfolding content_with
of-grammar c own stage past can is =
    let said = body-with c own stage past can is in (
      record {
        version_is = refl;
        group_long = (hash_bytes _ _).0;
        round_small = can.enter.round;
        slot_is = can.speaks;
        view_long = (view-hash (shape_in c) (contents_of past) stage).0;
      },
      (bodies_are_of_kinds (shape_in c) stage said.kind (content_with c own past stage).body said.at).1 said.row.form,
    )

pub row_of_grammar : RowOfGrammar
row_of_grammar c own stage past can long bytes = of-grammar c own stage past can (record { long = long; bytes = bytes })

pub own_row_of_grammar : OwnRowOfGrammar
own_row_of_grammar c stage past can = of-grammar c (own_descriptor c (contents_of past)) stage past can (own-made c stage past can)

-- ---- its bytes

header-bytes : (c : Configuration) (stage : ℕ) (past : List Post) → CanSay c stage past → IsBytes (header_text (own_header c past stage))
header-bytes c stage past can =
    let version : c.roster.version < 256 = omega (arith, can.enter.roster.version) in
    let member = is-member c stage past can in
    let last = member.last in
    let most = member.most in
    let bounds = (slot-bounds (shape_in c) stage c.number can.speaks).0 in
    let view : List ℕ = view_of (shape_in c) (contents_of past) stage in
    let sender : List ℕ = (c.number ∷ []) ++ view in
    let at : List ℕ = (stage ∷ []) ++ sender in
    let its_round : List ℕ = to_be_bytes w64 c.round ++ at in
    IsBytes-append (c.roster.version ∷ []) (roster_id c.roster ++ its_round) (IsBytes-cons c.roster.version [] version IsBytes-nil)
    (IsBytes-append (roster_id c.roster) its_round (hash_bytes _ _).1
    (IsBytes-append (to_be_bytes w64 c.round) at (IsBytes-to_be_bytes w64 c.round)
    (IsBytes-append (stage ∷ []) sender (IsBytes-cons stage [] (omega (arith, bounds, most)) IsBytes-nil)
    (IsBytes-append (c.number ∷ []) view (IsBytes-cons c.number [] (omega (arith, last, most)) IsBytes-nil)
    (view-hash (shape_in c) (contents_of past) stage).1))))

kind-small : (body : Body) → kind_number body < 256
kind-small (KeysBody keys) = omega arith
kind-small (SubmitBody ciphertext) = omega arith
kind-small (Shuffled list) = omega arith
kind-small Abort = omega arith
kind-small (GoBody vote) = omega arith
kind-small (Reveal votes seed) = omega arith
kind-small (Dispute posts seed opening) = omega arith
kind-small (Pads pads) = omega arith
kind-small (CheckBody vote) = omega arith
kind-small (ConfirmBody votes) = omega arith
kind-small (Differ posts) = omega arith

pub own-content-bytes : (c : Configuration) (stage : ℕ) (past : List Post) → CanSay c stage past → IsBytes (own_content c past stage)
unfolding own_content content_with
own-content-bytes c stage past can =
    let body : Body = (content_due c past stage).body in
    IsBytes-append (header_text (own_header c past stage)) ((kind_number body ∷ []) ++ body_text body) (header-bytes c stage past can)
    (IsBytes-append (kind_number body ∷ []) (body_text body) (IsBytes-cons (kind_number body) [] (kind-small body) IsBytes-nil)
    (own-body c stage past can).row.bytes)
