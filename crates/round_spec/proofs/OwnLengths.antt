-- What a member says is short enough for a post.
use Rattle.std.proofs.Common.{◌≡◌, ℕ, zero, suc, ◌+◌, ◌-◌, ◌*◌, ◌<◌, ◌≤◌, true, List, [], ◌∷◌, ◌++◌, length, length-append, drop, take, Option, Some, None, ap, sym, ◌∙◌, refl, subst, arith, inl, inr}
use Rattle.std.specs.Prelude.{◌⊎◌, ◌==◌, if◌then◌else◌, option_map}
use Rattle.std.specs.Int.{to_be_bytes, w32}
use Rattle.std.specs.List.{AllByRecursion, flat_map, slice_get}
use Rattle.std.proofs.lemmas.Bool.{cases_Bool, cases_eq, cases_lt, cond-false, cond-true}
use Rattle.std.proofs.lemmas.Grind.{flat_map-append}
use Rattle.std.proofs.lemmas.Nat.{mul-le}
use Rattle.std.proofs.lemmas.List.{drop-map, length-drop, length-map, length-take-le, take-map, take_all}
use Rattle.wire_core.specs.Bytes.{IsBytes, prefixed}
use Rattle.wire_core.proofs.ByteLists.{IsBytes-back, IsBytes-front, hash_bytes}
use Rattle.phase_message.specs.declared.content.Body.{Body}
use Rattle.phase_message.specs.declared.content.Body.TheVariants.{Reveal, Dispute, Confirm as ConfirmBody, Differ}
use Rattle.phase_message.specs.declared.content.Content.{Content}
use Rattle.phase_message.specs.declared.post.Post.{Post}
use Rattle.phase_message.specs.declared.stage.Slot.{Slot}
use Rattle.phase_message.specs.declared.stage.StageKind.{StageKind}
use Rattle.phase_message.specs.declared.stage.StageKind.TheVariants.{Keys, Submit, Shuffle, Go, Final, Pad, Check, Confirm}
use Rattle.phase_message.specs.Body.{level}
use Rattle.phase_message.specs.Grammar.{OfGrammar, body_text, content_text, header_text, kind_number}
use Rattle.phase_message.specs.Kinds.{IsBodyAt}
use Rattle.phase_message.specs.Post.{post_spelling}
use Rattle.phase_message.specs.Shape.{Shape}
use Rattle.phase_message.specs.Slots.{senders_of, slot_at, slots_before, stage_count}
use Rattle.phase_message.specs.Stages.{kind_of_stage}
use Rattle.phase_message.proofs.Counts.{slots_next, slots_past}
use Rattle.phase_message.proofs.Lengths.{fixed-length, pads-length, turn-length}
use Rattle.phase_message.proofs.SlotBounds.{slot-bounds}
use Rattle.phase_message.proofs.SlotLists.{slot_at-is, slot_number-within, slots_before-rises}
use Rattle.phase_message.proofs.Whole.{length-header_text}
use Rattle.go_nogo.specs.Closing.{is_assent, posts_embedded}
use Rattle.go_nogo.specs.Rows.{confirm_row, final_row, posts_at, written}
use Rattle.go_nogo.specs.Votes.{votes_agree}
use Rattle.go_nogo.proofs.VoteSlots.{get_drop}
use Rattle.stage_log.specs.Log.{contents_of}
use Rattle.round_spec.specs.OwnRows.{CanSay, IsPastAt, OwnContentIsShort, content_due}
use Rattle.round_spec.specs.Runs.{AllGo, ReadsIn}
use Rattle.round_spec.specs.Say.{Configuration, content_with, own_body_at, own_body_if, own_content, own_descriptor, own_key_seed, own_opening, shape_in}
use Rattle.round_spec.specs.Slots.{inner_place}
use Rattle.shuffle_blame.specs.Replay.{outer_place}
use Rattle.round_spec.proofs.GoLists.{there}
use Rattle.round_spec.proofs.AgreedClosings.{ClosingKind, agreed-there, confirm-closes, final-closes, votes-short}
use Rattle.round_spec.proofs.OwnGrammar.{OwnBody, own-body, own_row_of_grammar}
use Rattle.round_spec.proofs.OwnItems.{is-member}
use Rattle.round_spec.proofs.PastForms.{IsSaidIn, kind-body, said-there, spelled-long, stands-there}
use Rattle.round_spec.proofs.SealedBytes.{all-from}
use Rattle.std.proofs.lemmas.Option.{slice_get-map, slice_get_within}

-- ---- how long a content is

-- a header and a kind, and then the body
pub content-long : (shape : Shape) (x : Content) → OfGrammar shape x → length (content_text x) ≡ 76 + length (body_text x.body)
content-long shape x is = omega (
  arith,
  length-append (header_text x.header) (kind_number x.body ∷ body_text x.body),
  length-header_text
      shape x.header is.0,
)

-- the longest content of a kind of stage, where all closing contents embed votes
abbrev longest : Shape → StageKind → ℕ
longest shape Keys = 9196
longest shape (Submit shuffle) = 76 + level shape.members shuffle 0
longest shape (Shuffle shuffle k) = 76 + shape.members * level shape.members shuffle k
longest shape (Go shuffle) = 77
longest shape (Final shuffle) = 76 + (shape.members * 9409 + 32)
longest shape Pad = 76 + shape.members * 65540
longest shape Check = 77
longest shape Confirm = 76 + shape.members * 9409

-- a closing stage
abbrev pub IsClosingKind : StageKind → Type 0
IsClosingKind (Final shuffle) = Unit {0}
IsClosingKind Confirm = Unit {0}
IsClosingKind kind = ⊥

-- votes with their lengths
votes-long : (votes : List (List ℕ)) → AllByRecursion (λ v. length v ≤ 9405) votes → length (flat_map prefixed votes) ≤ length votes * 9409
votes-long [] all = omega arith
votes-long (v ∷ vs) all =
    let few : length v ≤ 9405 = all.0 in
    omega (arith, length-append (prefixed v) (flat_map prefixed vs), length-append (to_be_bytes w32 (length v)) v, votes-long vs all.1)

bytes-prefixed : (xs : List (List ℕ)) → IsBytes (flat_map prefixed xs) → AllByRecursion IsBytes xs
bytes-prefixed [] all = tt
bytes-prefixed (x ∷ xs) all = (
  IsBytes-back (to_be_bytes w32 (length x)) x (IsBytes-front (prefixed x) (flat_map prefixed xs) all),
  bytes-prefixed xs (IsBytes-back (prefixed x) (flat_map prefixed xs) all),
)

-- what a body of an assent embeds: votes of all members, each of bytes
record Assents (n : ℕ) (body : Body) : Type 0 where
  pub count : length (posts_embedded body) ≡ n
  pub bytes : AllByRecursion IsBytes (posts_embedded body)

final-assents : (shape : Shape) (before shuffle : ℕ) (body : Body) → IsBodyAt shape before (Final shuffle) body → IsBytes (body_text body)
    → is_assent body ≡ true → Assents shape.members body
final-assents shape before shuffle (Reveal votes seed) is bytes assents = record
    { count = is.0.1; bytes = bytes-prefixed votes (IsBytes-front (flat_map prefixed votes) seed bytes) }
final-assents shape before shuffle (Dispute posts seed opening) is bytes assents = absurd cc
final-assents shape before shuffle _ is bytes assents = absurd is

final-length : (shape : Shape) (before shuffle : ℕ) (body : Body) → IsBodyAt shape before (Final shuffle) body → is_assent body ≡ true
    → AllByRecursion (λ v. length v ≤ 9405) (posts_embedded body)
    → length (body_text body) ≤ shape.members * 9409 + 32
final-length shape before shuffle (Reveal votes seed) is assents short =
    let count = ap (λ (n : ℕ). n * 9409) is.0.1 in
    omega (arith, length-append (flat_map prefixed votes) seed, is.1, count, votes-long votes short)
final-length shape before shuffle (Dispute posts seed opening) is assents short = absurd cc
final-length shape before shuffle _ is assents short = absurd is

confirm-assents : (shape : Shape) (before : ℕ) (body : Body) → IsBodyAt shape before Confirm body → IsBytes (body_text body)
    → is_assent body ≡ true
    → Assents shape.members body
confirm-assents shape before (ConfirmBody votes) is bytes assents = record { count = is.1; bytes = bytes-prefixed votes bytes }
confirm-assents shape before (Differ posts) is bytes assents = absurd cc
confirm-assents shape before _ is bytes assents = absurd is

confirm-length : (shape : Shape) (before : ℕ) (body : Body) → IsBodyAt shape before Confirm body → is_assent body ≡ true
    → AllByRecursion (λ v. length v ≤ 9405) (posts_embedded body)
    → length (body_text body) ≤ shape.members * 9409
confirm-length shape before (ConfirmBody votes) is assents short =
    let count = ap (λ (n : ℕ). n * 9409) is.1 in
    omega (arith, count, votes-long votes short)
confirm-length shape before (Differ posts) is assents short = absurd cc
confirm-length shape before _ is assents short = absurd is

-- ---- contents that embed nothing

-- a content of a stage that closes nothing is no longer than the longest of its kind
pub open-length : (shape : Shape) (x : Content) (kind : StageKind) → 1 ≤ shape.members → OfGrammar shape x
    → kind_of_stage shape x.header.stage ≡ Some kind → (IsClosingKind kind → ⊥)
    → length (content_text x) ≤ longest shape kind
open-length shape x Keys some is at open_kind = omega (arith, fixed-length shape x Keys is at (omega arith))
open-length shape x (Submit shuffle) some is at open_kind =
    let long : 0 < level shape.members shuffle 0 = layers (if shuffle == 1 then 36 + 2272 * shape.members else 34) in
    omega (arith, fixed-length shape x (Submit shuffle) is at long)
  where
    layers : (item : ℕ) → 0 < item + 2272 * (2 * shape.members - 0)
    layers item = omega (arith, some)
open-length shape x (Shuffle shuffle k) some is at open_kind = elim (turn-length shape x shuffle k is at) [
  | inl abort ↦ omega (arith, abort.1)
  | inr list ↦ omega (arith, list)
]
open-length shape x (Go shuffle) some is at open_kind = omega (arith, fixed-length shape x (Go shuffle) is at (omega arith))
open-length shape x Pad some is at open_kind = pads-length shape x is at
open-length shape x Check some is at open_kind = omega (arith, fixed-length shape x Check is at (omega arith))
open-length shape x (Final shuffle) some is at open_kind = absurd (open_kind tt)
open-length shape x Confirm some is at open_kind = absurd (open_kind tt)

-- ---- posts of a past behind which the round goes on

-- a past over which a member speaks, in a round that nothing ended
record GoesOn (c : Configuration) (later : ℕ) (past : List Post) : Type 0 where
  pub is : IsPastAt c later past
  pub some : 1 ≤ (shape_in c).members
  pub goes : AllGo c past later

-- a closing content of such a past
record ShortClosing (c : Configuration) (content : Content) : Type 0 where
  pub assents : is_assent content.body ≡ true
  pub short : AllByRecursion (λ v. length v ≤ 9405) (posts_embedded content.body)

short-closing : (c : Configuration) (later number : ℕ) (past : List Post) (slot : Slot) (post : Post) → GoesOn c later past
    → slot_at (shape_in c) number ≡ Some slot → slice_get past number ≡ Some post
    → slot.stage < later → ClosingKind (shape_in c) slot.stage → (said : IsSaidIn c slot post)
    → ClosingKind (shape_in c) said.content.header.stage
    → (is_assent said.content.body ≡ true → Assents (shape_in c).members said.content.body) → ShortClosing c said.content
short-closing c later number past slot post on at stands lt k said own assents =
    let there = slot_at-is (shape_in c) number slot at in
    let bounds = slot-bounds (shape_in c) slot.stage slot.sender there.0 in
    let agreed = agreed-there c later slot.stage slot.sender past post said.content on.is on.some on.goes lt k bounds.1 bounds.2
    (ap (slice_get past) there.1 ∙ stands) said.reads in
    let votes = assents agreed.assents in
    record {
      assents = agreed.assents;
      short = votes-short c.roster c.round said.content agreed.posts own agreed.assents (let count = votes.count in omega (arith, count))
          votes.bytes agreed.embeds;
    }

post-length : (c : Configuration) (later number : ℕ) (past : List Post) (slot : Slot) (post : Post) (kind : StageKind) → GoesOn c later past
    → slot_at (shape_in c) number ≡ Some slot → slice_get past number ≡ Some post
    → ReadsIn c slot post → slot.stage < later → kind_of_stage (shape_in c) slot.stage ≡ Some kind
    → length post.content ≤ longest (shape_in c) kind
post-length c later number past slot post kind on at stands reads lt kind_is =
    let said = said-there c slot post reads in
    subst (λ (bytes : List ℕ). length bytes ≤ longest (shape_in c) kind) (sym said.spelled) (by_kind said kind kind_is)
  where
    here : (said : IsSaidIn c slot post) (k : StageKind) → kind_of_stage (shape_in c) slot.stage ≡ Some k
        → kind_of_stage (shape_in c) said.content.header.stage ≡ Some k
    here said k e = ap (kind_of_stage (shape_in c)) said.stage ∙ e

    form : (said : IsSaidIn c slot post) (k : StageKind) → kind_of_stage (shape_in c) slot.stage ≡ Some k
        → IsBodyAt (shape_in c) (slots_before (shape_in c) said.content.header.stage) k said.content.body
    form said k e = kind-body (shape_in c) said.content.header.stage k said.content.body (ap (kind_of_stage (shape_in c)) said.stage ∙ e)
        said.grammar.1

    closing : (said : IsSaidIn c slot post) (k : StageKind) → kind_of_stage (shape_in c) slot.stage ≡ Some k → (IsClosingKind k → ⊥)
        → length (content_text said.content) ≤ longest (shape_in c) k
    closing said k e open_kind = open-length (shape_in c) said.content k on.some said.grammar
        (ap (kind_of_stage (shape_in c)) said.stage ∙ e) open_kind

    by_kind : (said : IsSaidIn c slot post) (k : StageKind) → kind_of_stage (shape_in c) slot.stage ≡ Some k
        → length (content_text said.content) ≤ longest (shape_in c) k
    by_kind said (Final shuffle) e =
        let is = form said (Final shuffle) e in
        let before : ℕ = slots_before (shape_in c) said.content.header.stage in
        let short = short-closing c later number past slot post on at stands lt (final-closes (shape_in c) slot.stage shuffle e) said
        (final-closes (shape_in c) said.content.header.stage shuffle (here said (Final shuffle) e))
        (final-assents (shape_in c) before shuffle said.content.body is said.body_bytes) in
        omega (
          arith,
          content-long (shape_in c) said.content said.grammar,
          final-length (shape_in c) before shuffle said.content.body is
              short.assents short.short,
        )
    by_kind said Confirm e =
        let is = form said Confirm e in
        let before : ℕ = slots_before (shape_in c) said.content.header.stage in
        let short = short-closing c later number past slot post on at stands lt (confirm-closes (shape_in c) slot.stage e) said
        (confirm-closes (shape_in c) said.content.header.stage (here said Confirm e))
        (confirm-assents (shape_in c) before said.content.body is said.body_bytes) in
        omega (
          arith,
          content-long (shape_in c) said.content said.grammar,
          confirm-length (shape_in c) before said.content.body is
              short.assents short.short,
        )
    by_kind said Keys e = closing said Keys e (λ never. never)
    by_kind said (Submit shuffle) e = closing said (Submit shuffle) e (λ never. never)
    by_kind said (Shuffle shuffle k) e = closing said (Shuffle shuffle k) e (λ never. never)
    by_kind said (Go shuffle) e = closing said (Go shuffle) e (λ never. never)
    by_kind said Pad e = closing said Pad e (λ never. never)
    by_kind said Check e = closing said Check e (λ never. never)

-- ---- all posts before a stage, as they are embedded

-- the greatest sum over the stages before a stage: each post with its signature, and with its length before it
abbrev stage_sum : Shape → Option StageKind → ℕ
stage_sum shape None = 0
stage_sum shape (Some kind) = senders_of shape kind * (9332 + longest shape kind)

abbrev sum_before : Shape → ℕ → ℕ
sum_before shape zero = 0
sum_before shape (suc stage) = sum_before shape stage + stage_sum shape (kind_of_stage shape stage)

sum-rises : (shape : Shape) (stage more : ℕ) → sum_before shape stage ≤ sum_before shape (stage + more)
sum-rises shape stage zero = (let same : stage ≡ stage + 0 = omega arith in let e = ap (sum_before shape) same in omega (arith, e))
sum-rises shape stage (suc more) =
    let same : stage + suc more ≡ suc (stage + more) = omega arith in
    let e : sum_before shape (stage + suc more) ≡ sum_before shape (stage + more) + stage_sum shape (kind_of_stage shape (stage + more)) =
    ap (sum_before shape) same in
    omega (arith, e, sum-rises shape stage more)

-- items that have at most so many bytes with their lengths
items-long : (w : ℕ) (items : List (List ℕ)) → AllByRecursion (λ item. length item + 4 ≤ w) items
    → length (flat_map prefixed items) ≤ length items * w
items-long w [] all = omega arith
items-long w (item ∷ items) all =
    let head = to_be_bytes w32 (length item) in
    let few : length item + 4 ≤ w = all.0 in
    grind (
      arith,
      length-append (prefixed item) (flat_map prefixed items),
      length-append (to_be_bytes w32 (length item)) item,
      items-long w
          items all.1,
    )

-- the slot of a place among those of a stage is of that stage
stage-of : (shape : Shape) (slot : Slot) (stage number : ℕ) → slot_at shape number ≡ Some slot → slots_before shape stage ≤ number
    → number < slots_before shape (stage + 1) → slot.stage ≡ stage
stage-of shape slot stage number at first last =
    let there = slot_at-is shape number slot at in
    let within = slot_number-within shape slot.stage slot.sender there.0 in
    let number_is = there.1 in
    elim (cases_lt slot.stage stage) [
      | inl earlier ↦ absurd (omega (arith, within.1, number_is, first, slots_before-rises shape (slot.stage + 1) stage (omega arith)))
      | inr le ↦ elim (cases_lt stage slot.stage) [
        | inl later ↦ absurd (omega (arith, within.0, number_is, last, slots_before-rises shape (stage + 1) slot.stage (omega arith)))
        | inr ge ↦ omega arith
      ]
    ]

pub take-get : {A : Type 0} (xs : List A) (n k : ℕ) (x : A) → slice_get (take n xs) k ≡ Some x → (k < n) × (slice_get xs k ≡ Some x)
take-get xs zero k x e = absurd cc
take-get [] (suc n) k x e = absurd cc
take-get (y ∷ ys) (suc n) zero x e = (omega arith, e)
take-get (y ∷ ys) (suc n) (suc k) x e = let more = take-get ys n k x e in (omega (arith, more.0), more.1)

-- items that stand for the posts of a past: as many, and each has at most 9,328 bytes beside the content of its post
pub record StandFor (past : List Post) (items : List (List ℕ)) : Type 0 where
  pub many : length items ≡ length past
  pub short : (k : ℕ) (post : Post) (item : List ℕ) → slice_get past k ≡ Some post → slice_get items k ≡ Some item
      → length item ≤ 9328 + length post.content

-- those of one stage
part-long : (c : Configuration) (later stage : ℕ) (past : List Post) (items : List (List ℕ)) (kind : StageKind) → GoesOn c later past
    → StandFor past items → stage < later
    → kind_of_stage (shape_in c) stage ≡ Some kind
    → length (flat_map prefixed (take (senders_of (shape_in c) kind) (drop (slots_before (shape_in c) stage) items))) ≤ senders_of
    (shape_in c) kind * (9332 + longest (shape_in c) kind)
part-long c later stage past items kind on stand lt e =
    let a : ℕ = slots_before (shape_in c) stage in
    let m : ℕ = senders_of (shape_in c) kind in
    let next = slots_next (shape_in c) stage kind e in
    let rises = slots_before-rises (shape_in c) (stage + 1) later (omega arith) in
    let many = stand.many in
    let part : List (List ℕ) = take (senders_of (shape_in c) kind) (drop (slots_before (shape_in c) stage) items) in
    let count : length part ≡ m = length-take-le m (drop a items)
    (let whole = on.is.whole in omega (arith, next, rises, whole, many, length-drop a items)) in
    let each : AllByRecursion (λ item. length item + 4 ≤ 9332 + longest (shape_in c) kind) part =
    all-from (λ item. length item + 4 ≤ 9332 + longest (shape_in c) kind) part (λ i item at. (
    let found = take-get (drop a items) m i item at in
    let item_there : slice_get items (a + i) ≡ Some item = sym (get_drop items a i) ∙ found.1 in
    let within = slice_get_within items (a + i) item item_there in
    let post = there past (a + i) (omega (arith, within, many)) in
    let stands = stands-there c later past (a + i) post.0 on.is post.1 in
    let small = found.0 in
    let its_stage : stands.slot.stage ≡ stage = stage-of (shape_in c) stands.slot stage (a + i) stands.at (omega arith)
    (omega (arith, small, next)) in
    let long = post-length c later (a + i) past stands.slot post.0 kind on stands.at post.1 stands.reads (omega (arith, its_stage, lt))
    (ap (kind_of_stage (shape_in c)) its_stage ∙ e) in
    omega (arith, long, stand.short (a + i) post.0 item post.1 item_there))) in
    let whole = items-long (9332 + longest (shape_in c) kind) part each in
    omega (arith, whole, ap (λ (n : ℕ). n * (9332 + longest (shape_in c) kind)) count)

take-nil : {A : Type 0} (n : ℕ) → (let none : List A = [] in take n none ≡ none)
take-nil {A} zero = refl
take-nil {A} (suc n) = refl

take-more : {A : Type 0} (xs : List A) (a n : ℕ) → take (a + n) xs ≡ take a xs ++ take n (drop a xs)
take-more {A} [] zero n = take-nil (0 + n) ∙ sym (take-nil n)
take-more {A} [] (suc a) n = take-nil (suc a + n) ∙ sym (take-nil n)
take-more (x ∷ xs) zero n = (let e : 0 + n ≡ n = omega arith in ap (λ (k : ℕ). take k (x ∷ xs)) e)
take-more {A} (x ∷ xs) (suc a) n =
    let e : suc a + n ≡ suc (a + n) = omega arith in
    ap (λ (k : ℕ). take k (x ∷ xs)) e ∙ ap (λ (ys : List A). x ∷ ys) (take-more xs a n)

-- those of all posts before a stage
before-long : (c : Configuration) (later stage : ℕ) (past : List Post) (items : List (List ℕ)) → GoesOn c later past → StandFor past items
    → stage ≤ later
    → length (flat_map prefixed (take (slots_before (shape_in c) stage) items)) ≤ sum_before (shape_in c) stage
before-long c later zero past items on stand le = omega arith
before-long c later (suc stage) past items on stand le = by_kind (kind_of_stage (shape_in c) stage) refl
    (before-long c later stage past items on stand (omega (arith, le)))
  where
    by_kind : (o : Option StageKind) → kind_of_stage (shape_in c) stage ≡ o
        → length (flat_map prefixed (take (slots_before (shape_in c) stage) items)) ≤ sum_before (shape_in c) stage
        → length (flat_map prefixed (take (slots_before (shape_in c) (suc stage)) items)) ≤ sum_before (shape_in c) stage + stage_sum
        (shape_in c) (kind_of_stage (shape_in c) stage)
    by_kind None e less =
        let next : suc stage ≡ stage + 1 = omega arith in
        let same : slots_before (shape_in c) (suc stage) ≡ slots_before (shape_in c) stage = ap (slots_before (shape_in c)) next
        ∙ slots_past (shape_in c) stage e in
        let whole = ap (λ (n : ℕ). length (flat_map prefixed (take n items))) same in
        omega (arith, whole, less, ap (stage_sum (shape_in c)) e)
    by_kind (Some kind) e less =
        let next : suc stage ≡ stage + 1 = omega arith in
        let a : ℕ = slots_before (shape_in c) stage in
        let m : ℕ = senders_of (shape_in c) kind in
        let same : slots_before (shape_in c) (suc stage) ≡ a + m = ap (slots_before (shape_in c)) next
        ∙ slots_next (shape_in c) stage kind e in
        let split : take (slots_before (shape_in c) (suc stage)) items ≡ take a items
        ++ take m (drop a items) = ap (λ (n : ℕ). take n items) same ∙ take-more items a m in
        let whole : length (flat_map prefixed (take (slots_before (shape_in c) (suc stage)) items)) ≡ length
        (flat_map prefixed (take a items) ++ flat_map prefixed (take m (drop a items))) =
        ap (λ (parts : List (List ℕ)). length (flat_map prefixed parts)) split
        ∙ ap length (flat_map-append prefixed (take a items) (take m (drop a items))) in
        omega (
          arith,
          whole,
          length-append (flat_map prefixed (take a items)) (flat_map prefixed (take m (drop a items))),
          less,
          part-long c
              later stage past items kind on stand (omega (arith, le)) e,
          ap (stage_sum (shape_in c)) e,
        )

-- ---- what that comes to

sums : (n : ℕ) → 2 ≤ n → n ≤ 8 → sum_before (record { version = 1; members = n }) (2 * n + 9) ≤ 11539784
sums n least most =
    elim (cases_eq n 2) [
      | inl at ↦ at_members n 2 672194 at refl (omega arith)
      | inr not2 ↦ elim (cases_eq n 3) [
        | inl at ↦ at_members n 3 1425159 at refl (omega arith)
        | inr not3 ↦ elim (cases_eq n 4) [
          | inl at ↦ at_members n 4 2528740 at refl (omega arith)
          | inr not4 ↦ elim (cases_eq n 5) [
            | inl at ↦ at_members n 5 4037465 at refl (omega arith)
            | inr not5 ↦ elim (cases_eq n 6) [
              | inl at ↦ at_members n 6 6005862 at refl (omega arith)
              | inr not6 ↦ elim (cases_eq n 7) [
                | inl at ↦ at_members n 7 8488459 at refl (omega arith)
                | inr not7 ↦ at_members n 8 11539784 (omega arith) refl (omega arith)
              ]
            ]
          ]
        ]
      ]
    ]
  where
    at_members : (n m sum : ℕ) → n ≡ m → sum_before (record { version = 1; members = m }) (2 * m + 9) ≡ sum → sum ≤ 11539784
        → sum_before (record { version = 1; members = n }) (2 * n + 9) ≤ 11539784
    at_members n m sum same is small =
        let e = ap (λ (k : ℕ). sum_before (record { version = 1; members = k }) (2 * k + 9)) same in
        omega (arith, e, is, small)

-- so much is embedded at most
sum-most : (shape : Shape) (stage : ℕ) → shape.version ≡ 1 → 2 ≤ shape.members → shape.members ≤ 8 → stage < stage_count shape
    → sum_before shape stage ≤ 11539784
sum-most shape stage version least most lt =
    let rest : ℕ = 2 * shape.members + 9 - stage in
    let whole : stage + rest ≡ 2 * shape.members + 9 = omega (arith, lt) in
    let shape_is : shape ≡ record { version = 1; members = shape.members } = ap (λ (v : ℕ). record { version = v; members = shape.members })
    version in
    let rises = sum-rises shape stage rest in
    let same : sum_before shape (stage + rest) ≡ sum_before (record { version = 1; members = shape.members }) (2 * shape.members + 9) =
    ap (sum_before shape) whole ∙ ap (λ (s : Shape). sum_before s (2 * shape.members + 9)) shape_is in
    omega (arith, rises, same, sums shape.members least most)

-- ---- the own content

level-most : (n shuffle k : ℕ) → n ≤ 8 → level n shuffle k ≤ 54564
level-most n shuffle k few = elim (cases_Bool (shuffle == 1)) [
  | inl a ↦ (let item = cond-true (shuffle == 1) (36 + 2272 * n) 34 a in layers (if shuffle == 1 then 36 + 2272 * n else 34)
      (omega (arith, item, few)))
  | inr b ↦ (let item = cond-false (shuffle == 1) (36 + 2272 * n) 34 b in layers (if shuffle == 1 then 36 + 2272 * n else 34)
      (omega (arith, item, few)))
]
  where
    layers : (item : ℕ) → item ≤ 18212 → item + 2272 * (2 * n - k) ≤ 54564
    layers item small = omega (arith, small, few)

pub open-most : (shape : Shape) (kind : StageKind) → shape.members ≤ 8 → (IsClosingKind kind → ⊥) → longest shape kind ≤ 11539924
open-most shape Keys few open_kind = omega arith
open-most shape (Submit shuffle) few open_kind = omega (arith, level-most shape.members shuffle 0 few)
open-most shape (Shuffle shuffle k) few open_kind = omega (
  arith,
  mul-le shape.members (level shape.members shuffle k) 8 54564 few
      (level-most shape.members shuffle k few),
)
open-most shape (Go shuffle) few open_kind = omega arith
open-most shape Pad few open_kind = omega (arith, few)
open-most shape Check few open_kind = omega arith
open-most shape (Final shuffle) few open_kind = absurd (open_kind tt)
open-most shape Confirm few open_kind = absurd (open_kind tt)

pub take-less : (n : ℕ) (items : List (List ℕ)) → length (flat_map prefixed (take n items)) ≤ length (flat_map prefixed items)
take-less zero items = omega arith
take-less (suc n) [] = omega arith
take-less (suc n) (item ∷ items) = omega (
  arith,
  length-append (prefixed item) (flat_map prefixed (take n items)),
  length-append
      (prefixed item) (flat_map prefixed items),
  take-less n items,
)

drop-less : (n : ℕ) (items : List (List ℕ)) → length (flat_map prefixed (drop n items)) ≤ length (flat_map prefixed items)
drop-less zero items = omega arith
drop-less (suc n) [] = omega arith
drop-less (suc n) (item ∷ items) = omega (arith, length-append (prefixed item) (flat_map prefixed items), drop-less n items)

part-less : (shape : Shape) (posts : List Post) (stage : ℕ)
    → length (flat_map prefixed (written (posts_at shape posts stage))) ≤ length (flat_map prefixed (written posts))
part-less shape posts stage =
    let a : ℕ = slots_before shape stage in
    let b : ℕ = slots_before shape (stage + 1) in
    let same : written (posts_at shape posts stage) ≡ take (b - a) (drop a (written posts)) = sym
    (ap (take (b - a)) (drop-map post_spelling a posts) ∙ take-map post_spelling (b - a) (drop a posts)) in
    omega (
      arith,
      ap (λ (items : List (List ℕ)). length (flat_map prefixed items)) same,
      take-less (b - a) (drop a (written posts)),
      drop-less a (written posts),
    )

-- what a body that embeds posts has besides
extra-final : (shape : Shape) (past : List Post) (stage : ℕ) (inner outer opening : List ℕ) → length inner ≡ 32 → length outer ≡ 32
    → length opening ≡ 32
    → length (body_text (final_row shape past stage inner outer opening)) ≤ length (flat_map prefixed (written past)) + 64
unfolding final_row
extra-final shape past stage inner outer opening i o p = elim (cases_Bool (votes_agree shape (contents_of past) stage)) [
  | inl agree ↦
      let row = cond-true (votes_agree shape (contents_of past) stage) (Reveal (written (posts_at shape past (stage - 1))) inner)
      (Dispute (written past) outer opening) agree in
      omega (
        arith,
        ap (λ (b : Body). length (body_text b)) row,
        length-append
            (flat_map prefixed (written (posts_at shape past (stage - 1)))) inner,
        i,
        part-less shape past (stage - 1),
      )
  | inr differ ↦
      let row = cond-false (votes_agree shape (contents_of past) stage) (Reveal (written (posts_at shape past (stage - 1))) inner)
      (Dispute (written past) outer opening) differ in
      omega (
        arith,
        ap (λ (b : Body). length (body_text b)) row,
        length-append (flat_map prefixed (written past)) (outer ++ opening),
        length-append outer opening,
        o,
        p,
      )
]

extra-confirm : (shape : Shape) (past : List Post) (stage : ℕ)
    → length (body_text (confirm_row shape past stage)) ≤ length (flat_map prefixed (written past)) + 64
unfolding confirm_row
extra-confirm shape past stage = elim (cases_Bool (votes_agree shape (contents_of past) stage)) [
  | inl agree ↦
      let row = cond-true (votes_agree shape (contents_of past) stage) (ConfirmBody (written (posts_at shape past (stage - 1))))
      (Differ (written past)) agree in
      omega (arith, ap (λ (b : Body). length (body_text b)) row, part-less shape past (stage - 1))
  | inr differ ↦
      let row = cond-false (votes_agree shape (contents_of past) stage) (ConfirmBody (written (posts_at shape past (stage - 1))))
      (Differ (written past)) differ in
      omega (arith, ap (λ (b : Body). length (body_text b)) row)
]

-- the own body at a stage of a kind
closing-extra : (c : Configuration) (stage : ℕ) (past : List Post) (kind : StageKind) → IsClosingKind kind
    → length (body_text (own_body_at c (own_descriptor c (contents_of past)) past stage kind)) ≤ length (flat_map prefixed (written past)) +
    64
closing-extra c stage past (Final shuffle) is =
    extra-final (shape_in c) past stage (own_key_seed c (inner_place shuffle)) (own_key_seed c (outer_place shuffle))
    (own_opening c shuffle 2) (hash_bytes _ _).0 (hash_bytes _ _).0 (hash_bytes _ _).0
closing-extra c stage past Confirm is = extra-confirm (shape_in c) past stage
closing-extra c stage past _ is = absurd is

closing-or-open : (kind : StageKind) → IsClosingKind kind ⊎ (IsClosingKind kind → ⊥)
closing-or-open (Final shuffle) = inl tt
closing-or-open Confirm = inl tt
closing-or-open Keys = inr (λ is. is)
closing-or-open (Submit shuffle) = inr (λ is. is)
closing-or-open (Shuffle shuffle k) = inr (λ is. is)
closing-or-open (Go shuffle) = inr (λ is. is)
closing-or-open Pad = inr (λ is. is)
closing-or-open Check = inr (λ is. is)

-- a past as a whole is what stands before its stage
pub items-whole : (c : Configuration) (stage : ℕ) (past : List Post) (items : List (List ℕ)) → CanSay c stage past → AllGo c past stage
    → StandFor past items
    → length (flat_map prefixed items) ≤ 11539784
items-whole c stage past items can goes stand =
    let member = is-member c stage past can in
    let on : GoesOn c stage past = record { is = can.past_is; some = (let least = member.least in omega arith); goes = goes } in
    let many = stand.many in
    let all : take (slots_before (shape_in c) stage) items ≡ items = take_all (slots_before (shape_in c) stage) items
    (let whole = can.past_is.whole in omega (arith, whole, many)) in
    let long = before-long c stage stage past items on stand (omega arith) in
    let most = sum-most (shape_in c) stage can.enter.roster.version member.least member.most
    (slot-bounds (shape_in c) stage c.number can.speaks).0 in
    omega (arith, long, most, ap (λ (parts : List (List ℕ)). length (flat_map prefixed parts)) all)

item-same : (a b : List ℕ) → (let told : List ℕ → Option (List ℕ) = λ z. Some z in told a ≡ told b) → a ≡ b
item-same a b e = cc

-- the posts of a past as they are sent
written-stand : (c : Configuration) (stage : ℕ) (past : List Post) → IsPastAt c stage past → StandFor past (written past)
written-stand c stage past is = record {
  many = length-map past post_spelling;
  short = λ k post item at item_at. (
      let stands = stands-there c stage past k post is at in
      let same : item ≡ post_spelling post = item-same item (post_spelling post)
      (sym item_at ∙ slice_get-map post_spelling past k ∙ ap (option_map post_spelling) at) in
      let short = stands.reads.short in
      omega (arith, ap length same, short, spelled-long post));
}

pub whole-past : (c : Configuration) (stage : ℕ) (past : List Post) → CanSay c stage past → AllGo c past stage
    → length (flat_map prefixed (written past)) ≤ 11539784
whole-past c stage past can goes = items-whole c stage past (written past) can goes (written-stand c stage past can.past_is)

pub own_content_is_short : OwnContentIsShort
unfolding own_content content_with
own_content_is_short c stage past can goes = by_kind (own-body c stage past can)
  where
    by_kind : OwnBody c (own_descriptor c (contents_of past)) stage past → length (content_text (content_due c past stage)) ≤ 11539924
    by_kind own = elim (closing-or-open own.kind) [
      | inl closes ↦
          let body : (content_due c past stage).body ≡ own_body_at c (own_descriptor c (contents_of past)) past stage own.kind = ap
          (own_body_if c (own_descriptor c (contents_of past)) past stage) own.at in
          omega (
            arith,
            content-long (shape_in c) (content_due c past stage) (own_row_of_grammar c stage past can),
            ap
                (λ (b : Body). length (body_text b)) body,
            closing-extra c stage past own.kind closes,
            whole-past c stage past can goes,
          )
      | inr open_kind ↦
          let member = is-member c stage past can in
          omega (
            arith,
            open-length (shape_in c) (content_due c past stage) own.kind (let least = member.least in omega arith)
                (own_row_of_grammar c stage past can) own.at open_kind,
            open-most (shape_in c) own.kind member.most open_kind,
          )
    ]
