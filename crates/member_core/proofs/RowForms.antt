-- What a member says is of the grammar where it stands, whatever its conduct made of its descriptor.
use Rattle.std.proofs.Common.{◌≡◌, ℕ, zero, suc, ◌+◌, ◌-◌, ◌*◌, ◌<◌, ◌≤◌, List, [], length, map, Option, Some, None, ap, sym, ◌∙◌, refl, subst, arith, inl, inr}
use Rattle.std.specs.Prelude.{◌⊎◌, ◌==◌, IsSome, bytes_eq, option_and_then, option_map, unwrap_or, if◌then◌else◌}
use Rattle.std.specs.List.{AllByRecursion, range_with_len}
use Rattle.std.proofs.lemmas.Bool.{cases_Bool, cond-false, cond-true}
use Rattle.std.proofs.lemmas.List.{length-map}
use Rattle.std.proofs.lemmas.List.FromFn.{length-map-range_with_len}
use Rattle.std.proofs.lemmas.List.Sorted.{All-permutation, length_permutation}
use Rattle.std.proofs.lemmas.Option.{none-some}
use Rattle.ring_encrypt.specs.Capsule.{key_of_seed}
use Rattle.ring_encrypt.proofs.KeyLemmas.{key_is_public_key}
use Rattle.ring_encrypt.specs.PublicKey.{IsPublicKey}
use Rattle.pad_stream.specs.Stream.{pad_of}
use Rattle.phase_message.specs.declared.content.Body.{Body}
use Rattle.phase_message.specs.declared.content.Body.TheVariants.{Keys as KeysBody, Submit as SubmitBody, Shuffled, Abort, Pads}
use Rattle.phase_message.specs.declared.stage.StageKind.{StageKind}
use Rattle.phase_message.specs.declared.stage.StageKind.TheVariants.{Keys, Submit, Shuffle, Pad}
use Rattle.phase_message.specs.Body.{level}
use Rattle.phase_message.specs.Grammar.{IsBody}
use Rattle.phase_message.specs.Kinds.{IsBodyAt}
use Rattle.phase_message.specs.Shape.{Shape}
use Rattle.phase_message.specs.Slots.{slots_before}
use Rattle.phase_message.specs.Stages.{kind_of_stage}
use Rattle.phase_message.proofs.BodyKinds.{bodies_are_of_kinds}
use Rattle.stage_log.specs.Log.{before}
use Rattle.stage_log.specs.Table.{IsLog, Log}
use Rattle.layer_cipher.specs.Stripping.{stripped}
use Rattle.layer_cipher.proofs.StrippingLemmas.{strips_all, strips_exactly}
use Rattle.shuffle_core.specs.Shuffle.{has_equal, in_drawn_order, list_or_abort, turn_of}
use Rattle.shuffle_core.proofs.Drawn.{entries_are_permuted}
use Rattle.shuffle_core.proofs.LayerSeeds.{seeds_are_messages}
use Rattle.shuffle_core.proofs.Submitted.{submission_adds}
use Rattle.shuffle_core.proofs.Turns.{turn_says_bodies}
use Rattle.bulk_descriptor.specs.Descriptor.{Description, descriptor_read, hash_of_pad, own_pad, pad_found, pad_hash_for, pad_if_hashed, pad_row}
use Rattle.bulk_descriptor.proofs.MakingLemmas.{length-own_pad, length-pad_of}
use Rattle.bulk_descriptor.proofs.SpellingLemmas.{in_grammar, passes, read_passes}
use Rattle.go_nogo.specs.Stands.{StandAll}
use Rattle.shuffle_blame.specs.Asked.{past_of}
use Rattle.shuffle_blame.specs.Replay.{ciphertext_of, list_of, outer_place}
use Rattle.round_spec.specs.Slots.{bulk_place, inner_place, items_opened, keys_said, list_said, said_in, submissions_said, submit_stage}
use Rattle.round_spec.specs.Say.{Configuration, keys_row, own_item, own_key_seed, own_layer_seeds, own_opening, own_order_seed, own_pad_seeds, own_submission, pad_for, pads_row, shape_in, turn_over, turn_row}
use Rattle.round_spec.proofs.SealedBytes.{all-items, all-map, all-places, bodies-long}
use Rattle.conviction.proofs.Saids.{list-long, list-told, submission-long as submitted-long}
use Rattle.honest_say.proofs.Members.{keys-count}
use Rattle.honest_say.proofs.PastLemmas.{IsSaid, said-stands}
use Rattle.honest_say.proofs.StageLemmas.{submit-kind, submit-slot, turn-kind, turn-slot}

-- a body of the kind of its stage is of the grammar there
of-kind : (shape : Shape) (stage : ℕ) (kind : StageKind) (body : Body) → kind_of_stage shape stage ≡ Some kind
    → IsBodyAt shape (slots_before shape stage) kind body → IsBody shape stage body
of-kind shape stage kind body at is = (bodies_are_of_kinds shape stage kind body at).1 is

-- ---- keys

pub keys-fit : (c : Configuration) (shape : Shape) (stage : ℕ) → kind_of_stage shape stage ≡ Some Keys → IsBody shape stage (keys_row c)
unfolding keys_row
keys-fit c shape stage at = of-kind shape stage Keys (KeysBody (map (λ place. key_of_seed (own_key_seed c place)) (range_with_len 0 5))) at (
  all-map IsPublicKey (λ place. key_of_seed (own_key_seed c place)) (range_with_len 0 5)
      (λ place. key_is_public_key (own_key_seed c place)),
  refl,
)

-- ---- submissions

-- how long an item of a shuffle is
abbrev pub item_size : ℕ → ℕ → ℕ
item_size members shuffle = if shuffle == 1 then 36 + 2272 * members else 34

layers-count : (c : Configuration) (shuffle side : ℕ) → length (own_layer_seeds c shuffle side) ≡ (shape_in c).members
layers-count c shuffle side = (seeds_are_messages (own_opening c shuffle side) c.round shuffle side c.number (shape_in c).members).0

submission-long : (c : Configuration) (own : List ℕ) (past : List (List ℕ)) (shuffle : ℕ)
    → length (own_item c own past shuffle) ≡ item_size (shape_in c).members shuffle
    → length (own_submission c own past shuffle).ciphertext ≡ level (shape_in c).members shuffle 0
unfolding own_submission
submission-long c own past shuffle long =
    let n : ℕ = (shape_in c).members in
    let inner : List (List ℕ) = keys_said (shape_in c) past (inner_place shuffle) in
    let outer : List (List ℕ) = keys_said (shape_in c) past (outer_place shuffle) in
    let item : List ℕ = own_item c own past shuffle in
    let inner_count = keys-count (shape_in c) past (inner_place shuffle) in
    let outer_count = keys-count (shape_in c) past (outer_place shuffle) in
    let adds = submission_adds inner outer (own_layer_seeds c shuffle 1) (own_layer_seeds c shuffle 2) item
    (inner_count ∙ sym (layers-count c shuffle 1)) (outer_count ∙ sym (layers-count c shuffle 2)) in
    by_size n (item_size (shape_in c).members shuffle) (length item) (length inner) (length outer) _ long inner_count outer_count adds.1
  where
    by_size : (n size item inner outer whole : ℕ) → item ≡ size → inner ≡ n → outer ≡ n → whole ≡ item + 2272 * (inner + outer)
        → whole ≡ size + 2272 * (2 * n - 0)
    by_size n size item inner outer whole is first second e = omega (arith, is, first, second, e)

pub submission-fits : (c : Configuration) (own : List ℕ) (past : List (List ℕ)) (stage shuffle : ℕ)
    → kind_of_stage (shape_in c) stage ≡ Some (Submit shuffle)
    → length (own_item c own past shuffle) ≡ item_size (shape_in c).members shuffle
    → IsBody (shape_in c) stage (SubmitBody (own_submission c own past shuffle).ciphertext)
submission-fits c own past stage shuffle at long =
    of-kind (shape_in c) stage (Submit shuffle) (SubmitBody (own_submission c own past shuffle).ciphertext) at
    (submission-long c own past shuffle long)

-- ---- turns

-- so many byte strings of one length
record AreLong (many size : ℕ) (entries : List (List ℕ)) : Type 0 where
  pub long : AllByRecursion (λ entry. length entry ≡ size) entries
  pub count : length entries ≡ many

all-range : {A : Type 0} (P : A → Type 0) (f : ℕ → A) (a n : ℕ) → ((k : ℕ) → a ≤ k → k < a + n → P (f k))
    → AllByRecursion P (map f (range_with_len a n))
all-range P f a zero each = tt
all-range P f a (suc n) each = (
  each a (omega arith) (omega arith),
  all-range P f (a + 1) n
      (λ k least most. each k (omega (arith, least)) (omega (arith, most))),
)

-- a log behind a stage of submissions
pub record IsBehind (log : Log) (stage shuffle : ℕ) : Type 0 where
  pub form : IsLog log
  pub complete : IsSome (before log stage)
  pub stand : StandAll log
  pub first : 1 ≤ shuffle
  pub last : shuffle ≤ 2

submission-is : (log : Log) (stage shuffle member : ℕ) → IsBehind log stage shuffle → submit_stage log.shape shuffle < stage → 1 ≤ member
    → member ≤ log.shape.members
    → length (ciphertext_of (said_in log.shape (past_of log stage) (submit_stage log.shape shuffle) member)) ≡ level log.shape.members
    shuffle 0
submission-is log stage shuffle member is lt least most =
    let at : ℕ = submit_stage log.shape shuffle in
    let said : IsSaid log.shape (past_of log stage) at member
    = said-stands log stage (record { stage = at; sender = member }) is.form is.complete
    (submit-slot log.shape shuffle member is.first is.last least most) lt (is.stand at) in
    ap (λ (b : Body). length (ciphertext_of b)) said.said
    ∙ submitted-long log.shape at shuffle said.content.body (submit-kind log.shape shuffle is.first is.last) said.body

list-is : (log : Log) (stage shuffle turn : ℕ) (entries : List (List ℕ)) → IsBehind log stage shuffle → turn ≤ log.shape.members
    → submit_stage log.shape shuffle + turn < stage → list_said log.shape (past_of log stage) shuffle turn ≡ Some entries
    → AreLong log.shape.members (level log.shape.members shuffle turn) entries
list-is log stage shuffle zero entries is most lt e =
    let sent : ℕ → List ℕ = λ member. ciphertext_of (said_in log.shape (past_of log stage) (submit_stage log.shape shuffle) member) in
    let same : submissions_said log.shape (past_of log stage) shuffle ≡ entries = cc in
    subst (AreLong log.shape.members (level log.shape.members shuffle 0)) same (record {
      long = all-range (λ entry. length entry ≡ level log.shape.members shuffle 0) sent 1 log.shape.members
          (λ k least below. submission-is log stage shuffle k is (omega (arith, lt)) least (omega (arith, below)));
      count = length-map-range_with_len sent 1 log.shape.members;
    })
list-is log stage shuffle (suc turn) entries is most lt e =
    let at : ℕ = submit_stage log.shape shuffle + suc turn in
    let said : IsSaid log.shape (past_of log stage) at (suc turn)
    = said-stands log stage (record { stage = at; sender = suc turn }) is.form is.complete
    (turn-slot log.shape shuffle (suc turn) is.first is.last (omega arith) most) lt (is.stand at) in
    let told = list-told said.content.body entries (sym (ap list_of said.said) ∙ e) in
    let long = list-long log.shape at shuffle (suc turn) entries (turn-kind log.shape shuffle (suc turn) is.first is.last (omega arith) most)
    (subst (IsBody log.shape at) told said.body) in
    record { long = long.0; count = long.1 }

-- entries in another order
order-entries : (count size : ℕ) (seed : List ℕ) (entries : List (List ℕ)) → count ≤ 8 → AreLong count size entries
    → AreLong count size (in_drawn_order seed entries)
order-entries count size seed entries few are =
    let moved = entries_are_permuted seed entries (omega (arith, few, are.count)) in
    let P : List ℕ → Type 0 = λ entry. length entry ≡ size in
    record {
      long = all-items P (in_drawn_order seed entries) (All-permutation P entries (in_drawn_order seed entries) moved
          (all-places P entries are.long));
      count = length_permutation entries (in_drawn_order seed entries) moved ∙ are.count;
    }

-- their bodies
stripped-entries : (count size : ℕ) (seed : List ℕ) (entries bodies : List (List ℕ)) → AreLong count (size + 2272) entries
    → stripped seed entries ≡ Some bodies → AreLong count size bodies
stripped-entries count size seed entries bodies are e = record {
  long = bodies-long seed size entries bodies ((strips_exactly seed entries bodies).0 e) are.long;
  count = strips_all seed entries bodies e ∙ are.count;
}

-- what a turn says
turn-cases : (seed order : List ℕ) (entries : List (List ℕ)) → (turn_of seed order entries ≡ Abort)
    ⊎ ((list : List (List ℕ)) × (turn_of seed order entries ≡ Shuffled list))
unfolding turn_of
turn-cases seed order entries = elim (cases_Bool (has_equal entries)) [
  | inl twice ↦ inl (cond-true (has_equal entries) Abort (list_or_abort (option_map (in_drawn_order order) (stripped seed entries))) twice)
  | inr apart ↦ by_list (option_map (in_drawn_order order) (stripped seed entries))
      (cond-false (has_equal entries) Abort (list_or_abort (option_map (in_drawn_order order) (stripped seed entries))) apart)
]
  where
    by_list : (o : Option (List (List ℕ)))
        → (if has_equal entries then Abort else list_or_abort (option_map (in_drawn_order order) (stripped seed entries))) ≡ list_or_abort o
        → ((if has_equal entries then Abort else list_or_abort (option_map (in_drawn_order order) (stripped seed entries))) ≡ Abort)
        ⊎ ((list : List (List ℕ)) × ((if has_equal entries then Abort else list_or_abort
        (option_map (in_drawn_order order) (stripped seed entries))) ≡ Shuffled list))
    by_list None e = inl e
    by_list (Some list) e = inr (list, e)

-- a layer less with each turn
level-next : (n shuffle k : ℕ) → k < n → level n shuffle k ≡ level n shuffle (suc k) + 2272
level-next n shuffle k lt = by_item (if shuffle == 1 then 36 + 2272 * n else 34)
  where
    by_item : (item : ℕ) → item + 2272 * (2 * n - k) ≡ item + 2272 * (2 * n - suc k) + 2272
    by_item item = omega (arith, lt)

turn-is : (shape : Shape) (slots shuffle k : ℕ) (seed order : List ℕ) (entries : List (List ℕ)) → shape.members ≤ 8 → k < shape.members
    → AreLong shape.members (level shape.members shuffle k) entries
    → IsBodyAt shape slots (Shuffle shuffle (suc k)) (turn_of seed order entries)
turn-is shape slots shuffle k seed order entries few lt are = elim (turn-cases seed order entries) [
  | inl abort ↦ subst (IsBodyAt shape slots (Shuffle shuffle (suc k))) (sym abort) tt
  | inr list ↦
      let said = turn_says_bodies seed order entries list.0 list.1 in
      let size : ℕ = level shape.members shuffle (suc k) in
      let bodies = stripped-entries shape.members size seed entries said.1.0
      (subst (λ (n : ℕ). AreLong shape.members n entries) (level-next shape.members shuffle k lt) are) said.1.1 in
      let made : AreLong shape.members size list.0 = subst (AreLong shape.members size) (sym said.1.2)
      (order-entries shape.members size order said.1.0 few bodies) in
      subst (IsBodyAt shape slots (Shuffle shuffle (suc k))) (sym list.1) (made.long, made.count)
]

over-is : (c : Configuration) (shape : Shape) (slots shuffle k : ℕ) (o : Option (List (List ℕ))) → shape.members ≤ 8 → k < shape.members
    → ((entries : List (List ℕ)) → o ≡ Some entries → AreLong shape.members (level shape.members shuffle k) entries)
    → IsBodyAt shape slots (Shuffle shuffle (suc k)) (turn_over c shuffle o)
over-is c shape slots shuffle k None few lt each = tt
over-is c shape slots shuffle k (Some entries) few lt each = turn-is shape slots shuffle k (own_key_seed c (outer_place shuffle))
    (own_order_seed c shuffle) entries few lt (each entries refl)

pub turn-fits : (c : Configuration) (log : Log) (stage shuffle k : ℕ) → IsBehind log stage shuffle → log.shape ≡ shape_in c → c.number ≡ k
    → 1 ≤ k → k ≤ log.shape.members → log.shape.members ≤ 8
    → stage ≡ submit_stage log.shape shuffle + k → kind_of_stage log.shape stage ≡ Some (Shuffle shuffle k)
    → IsBody log.shape stage (turn_row c (past_of log stage) shuffle)
unfolding turn_row
turn-fits c log stage shuffle k is same number least most few at kind =
    let past : List (List ℕ) = past_of log stage in
    let back : suc (c.number - 1) ≡ k = omega (arith, number, least) in
    let said : list_said log.shape past shuffle (c.number - 1) ≡ list_said (shape_in c) past shuffle (c.number - 1) = ap
    (λ (s : Shape). list_said s past shuffle (c.number - 1)) same in
    of-kind log.shape stage (Shuffle shuffle k) (turn_over c shuffle (list_said (shape_in c) past shuffle (c.number - 1))) kind
    (subst (λ (j : ℕ). IsBodyAt log.shape (slots_before log.shape stage) (Shuffle shuffle j)
    (turn_over c shuffle (list_said (shape_in c) past shuffle (c.number - 1)))) back
    (over-is c log.shape (slots_before log.shape stage) shuffle (c.number - 1) (list_said (shape_in c) past shuffle (c.number - 1)) few
    (omega (arith, number, least, most))
    (λ entries e. list-is log stage shuffle (c.number - 1) entries is (omega (arith, number, most)) (omega (arith, at, number, least))
    (said ∙ e))))

-- ---- pads

pad-same : (a b : List ℕ) → (let told : List ℕ → Option (List ℕ) = λ x. Some x in told a ≡ told b) → a ≡ b
pad-same a b e = cc

found-pad : (d : Description) (member : ℕ) (seed pad : List ℕ) → d.length ≤ 65536 → pad_found d member seed ≡ Some pad → length pad ≤ 65536
unfolding pad_found
found-pad d member seed pad few e = by_seed _ e
  where
    by_seed : (o : Option (List ℕ)) → option_and_then (pad_if_hashed d member) o ≡ Some pad → length pad ≤ 65536
    by_seed None e = absurd (none-some pad e)
    by_seed (Some s) e = elim (cases_Bool (bytes_eq (hash_of_pad (pad_of s d.length)) (pad_hash_for d member))) [
      | inl is ↦
          let same = pad-same (pad_of s d.length) pad (sym (cond-true (bytes_eq (hash_of_pad (pad_of s d.length)) (pad_hash_for d member))
          (Some (pad_of s d.length)) None is) ∙ e) in
          omega (arith, few, length-pad_of s d.length, ap length same)
      | inr not_it ↦ absurd (none-some pad (sym (cond-false (bytes_eq (hash_of_pad (pad_of s d.length)) (pad_hash_for d member))
          (Some (pad_of s d.length)) None not_it) ∙ e))
    ]

read-short : (n : ℕ) (entry : List ℕ) (d : Description) → descriptor_read n entry ≡ Some d → d.length ≤ 65536
read-short n entry d e =
    let parts = read_passes n entry d e in
    subst (λ (x : Description). x.length ≤ 65536) parts.1 (in_grammar n entry (passes n entry parts.0)).form.short

other-pad : (n member : ℕ) (seed entry : List ℕ) (o : Option Description) → descriptor_read n entry ≡ o
    → length (unwrap_or (option_and_then (λ d. pad_found d member seed) o) []) ≤ 65536
other-pad n member seed entry None e = omega arith
other-pad n member seed entry (Some d) e = by_pad (pad_found d member seed) refl
  where
    by_pad : (o : Option (List ℕ)) → pad_found d member seed ≡ o → length (unwrap_or o []) ≤ 65536
    by_pad None is = omega arith
    by_pad (Some pad) is = found-pad d member seed pad (read-short n entry d e) is

row-pad : (n : ℕ) (own kept : List ℕ) (member : ℕ) (seed entry : List ℕ) → length kept ≤ 65536
    → length (pad_row n own kept member seed entry) ≤ 65536
unfolding pad_row
row-pad n own kept member seed entry is = elim (cases_Bool (bytes_eq entry own)) [
  | inl same ↦ subst (λ (pad : List ℕ). length pad ≤ 65536) (sym
      (cond-true (bytes_eq entry own) kept (unwrap_or (option_and_then (λ d. pad_found d member seed) (descriptor_read n entry)) []) same))
      is
  | inr other ↦ subst (λ (pad : List ℕ). length pad ≤ 65536) (sym
      (cond-false (bytes_eq entry own) kept (unwrap_or (option_and_then (λ d. pad_found d member seed) (descriptor_read n entry)) [])
      other)) (other-pad n member seed entry (descriptor_read n entry) refl)
]

sent-pad : (c : Configuration) (own : List ℕ) (entry : Option (List ℕ)) → length c.message ≤ 65536 → length (pad_for c own entry) ≤ 65536
sent-pad c own None short = omega arith
sent-pad c own (Some entry) short = row-pad (shape_in c).members own (own_pad (own_pad_seeds c) c.number c.message) c.number
    (own_key_seed c bulk_place) entry
    (omega (arith, short, length-own_pad (own_pad_seeds c) c.number c.message))

pub pads-fit : (c : Configuration) (own : List ℕ) (past : List (List ℕ)) (stage : ℕ) → kind_of_stage (shape_in c) stage ≡ Some Pad
    → length c.message ≤ 65536
    → length (items_opened (shape_in c) past 1) ≡ (shape_in c).members → IsBody (shape_in c) stage (pads_row c own past)
unfolding pads_row
pads-fit c own past stage at short count =
    let opened : List (Option (List ℕ)) = items_opened (shape_in c) past 1 in
    of-kind (shape_in c) stage Pad (Pads (map (pad_for c own) (items_opened (shape_in c) past 1))) at (
      all-map (λ pad. length pad ≤ 65536) (pad_for c own) opened (λ entry. sent-pad c own entry short),
      length-map opened (pad_for c own)
          ∙ count,
    )
