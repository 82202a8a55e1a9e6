-- The vote of an honest member is yes where nothing else is at fault.
use Rattle.std.proofs.Common.{◌≡◌, ℕ, zero, suc, ◌+◌, ◌-◌, ◌<◌, ◌≤◌, Bool, true, false, ◌||◌, List, [], ◌∷◌, length, map, take, drop, Option, Some, None, Result, Ok, Err, ap, sym, ◌∙◌, refl, arith, inl, inr}
use Rattle.std.specs.Prelude.{Contains, bytes_eq, option_map}
use Rattle.std.specs.List.{list_any, slice_get, range_with_len}
use Rattle.std.proofs.lemmas.List.{length-map, length-take, take_all}
use Rattle.std.proofs.lemmas.Option.{get_or_from_slice_get, slice_get-map}
use Rattle.std.proofs.lemmas.Slice.Eq.{bytes_eq-Decides}
use Rattle.phase_message.specs.declared.content.Content.{Content}
use Rattle.phase_message.specs.declared.offence.Offence.{Offence}
use Rattle.phase_message.specs.declared.stage.StageKind.TheVariants.{Shuffle as AtShuffle}
use Rattle.phase_message.specs.Offence.{content_read}
use Rattle.phase_message.specs.Shape.{Shape}
use Rattle.phase_message.specs.Slots.{slot_number, slots_before}
use Rattle.phase_message.proofs.Counts.{slots_next}
use Rattle.stage_log.specs.Log.{all_some, first_wrong, wrong_at}
use Rattle.stage_log.proofs.Fronts.{first_wrong-take}
use Rattle.stage_log.proofs.Pasts.{all_some-is}
use Rattle.stage_log.proofs.Views.{slice_get-take}
use Rattle.wire_core.proofs.AnswerLemmas.{first_below-each, first_below-none}
use Rattle.phase_message.proofs.SlotLists.{slots_before-rises}
use Rattle.go_nogo.specs.Rows.{list_in, list_read, lists_before, stands_in, stands_last, turns_before}
use Rattle.go_nogo.proofs.VoteSlots.{get_drop}
use Rattle.shuffle_blame.specs.Replay.{body_of, list_of}
use Rattle.round_spec.proofs.Contained.{contains-cases, contains-nothing}
use Rattle.phase_message.specs.declared.post.Post.{Post}
use Rattle.phase_message.specs.declared.stage.StageKind.{StageKind}
use Rattle.phase_message.specs.Slots.{place_in}
use Rattle.stage_log.specs.Log.{contents_of}
use Rattle.shuffle_blame.specs.Replay.{Inquiry, bodies_before, is_order_of, is_turn, list_after, submit_stage}
use Rattle.shuffle_blame.proofs.Slots.{end-least}
use Rattle.round_spec.specs.Say.{shape_in}
use Rattle.round_spec.specs.Runs.{HonestRun, Run}
use Rattle.conviction.proofs.Closings.{is-past}
use Rattle.conviction.proofs.Pasts.{there}
use Rattle.conviction.proofs.Saids.{list-told}
use Rattle.conviction.proofs.OwnRows.{in-range, own-speaks}
use Rattle.conviction.proofs.Shuffles.{IsEnded, body-in, lists-same, turn-kind}
use Rattle.conviction.proofs.Submissions.{IsSubmitted, own-opens}
use Rattle.wire_core.specs.Answers.{fault_unless}
use Rattle.wire_core.proofs.AnswerLemmas.{fault_unless-holds}
use Rattle.layer_cipher.specs.Layer.{opened_through}
use Rattle.layer_cipher.proofs.ThroughLemmas.{strips_through_keeps}
use Rattle.phase_message.proofs.SlotBounds.{slot-bounds}
use Rattle.shuffle_core.proofs.Turns.{permutation_keeps}
use Rattle.shuffle_blame.specs.declared.fault.Cause.TheVariants.{Shuffle}
use Rattle.shuffle_blame.specs.Laws.{HasStripped}
use Rattle.shuffle_blame.specs.Replay.{fault, outer_seeds, seed_fault, submission, submission_fault, submissions, turn_fault}
use Rattle.shuffle_blame.proofs.Faults.{first_member-each}
use Rattle.round_spec.specs.Say.{own_descriptor, own_layer_seeds, own_submission}
use Rattle.round_spec.proofs.Contained.{contains-map-from}

-- ---- lists in which nothing is missing

pub all-there : {A : Type 0} (xs : List (Option A)) → ((i : ℕ) → i < length xs → (x : A) × (slice_get xs i ≡ Some (Some x)))
    → (ys : List A) × (all_some xs ≡ Some ys)
all-there [] each = ([], refl)
all-there {A} (Some x ∷ xs) each =
    let more = all-there xs (λ i lt. each (suc i) (omega (arith, lt))) in
    (x ∷ more.0, ap (option_map (λ (ys : List A). x ∷ ys)) more.1)
all-there {A} (None ∷ xs) each = absurd (let first = (each 0 (omega arith)).1 in cc)

pub all-at : {A : Type 0} (xs : List (Option A)) (ys : List A) (i : ℕ) (x : A) → all_some xs ≡ Some ys → slice_get xs i ≡ Some (Some x)
    → slice_get ys i ≡ Some x
all-at {A} xs ys i x all at =
    told (slice_get ys i) (sym (ap (λ (zs : List (Option A)). slice_get zs i) (all_some-is xs ys all) ∙ slice_get-map (λ x. Some x) ys i)
    ∙ at)
  where
    told : (o : Option A) → option_map (λ x. Some x) o ≡ Some (Some x) → o ≡ Some x
    told (Some y) e = cc
    told None e = absurd cc

-- ---- what is right

-- where no slot before a stage is wrong, none before an earlier stage is
pub none-wrong : (shape : Shape) (past : List (List ℕ)) (stage later : ℕ) → stage ≤ later → first_wrong shape past later ≡ None
    → first_wrong shape (take (slots_before shape stage) past) stage ≡ None
none-wrong shape past stage later le none =
    first_wrong-take shape past stage stage (omega arith)
    ∙ first_below-none (wrong_at shape past) (slots_before shape stage)
    (λ k lt. first_below-each (wrong_at shape past) (slots_before shape later) none k
    (omega (arith, lt, slots_before-rises shape stage later le)))

-- ---- the last list

or_true : (b : Bool) → (b || true) ≡ true
or_true true = refl
or_true false = refl

pub any-of : (entry : List ℕ) (list : List (List ℕ)) → Contains list entry → list_any (bytes_eq entry) list ≡ true
any-of entry [] there = absurd (contains-nothing entry there)
any-of entry (x ∷ xs) there = elim (contains-cases x xs entry there) [
  | inl here ↦ ap (λ (b : Bool). b || list_any (bytes_eq entry) xs) ((bytes_eq-Decides entry x).1 (sym here))
  | inr later ↦ ap (λ (b : Bool). bytes_eq entry x || b) (any-of entry xs later) ∙ or_true (bytes_eq entry x)
]

-- what is read of a turn that says a list
pub list-is_read : (r : Result Content Offence) (list : List (List ℕ)) → list_of (body_of r) ≡ Some list → list_read r ≡ Some list
list-is_read (Ok content) list e = ap list_in (list-told content.body list e)
list-is_read (Err offence) list e = absurd cc

-- ---- the turns before a vote

order-said : (o said : Option (List (List ℕ))) → is_order_of o said ≡ true → (list : List (List ℕ)) × (said ≡ Some list)
order-said (Some bodies) (Some list) e = (list, refl)
order-said (Some bodies) None e = absurd cc
order-said None (Some list) e = absurd cc
order-said None None e = absurd cc

-- one slot for each turn
turn-slots : (run : Run) (q : Inquiry) (shuffle i : ℕ) → IsEnded run q shuffle → i ≤ q.shape.members
    → slots_before (shape_in run.config) (submit_stage q + suc i) ≡ slots_before (shape_in run.config) (submit_stage q + 1) + i
turn-slots run q shuffle zero e le = omega arith
turn-slots run q shuffle (suc i) e le =
    let shape = shape_in run.config in
    let stage : ℕ = submit_stage q + suc i in
    let next : submit_stage q + suc (suc i) ≡ stage + 1 = omega arith in
    let one : slots_before shape (stage + 1) ≡ slots_before shape stage + 1 =
    slots_next shape stage (AtShuffle shuffle (suc i)) (turn-kind run q shuffle (suc i) e (omega arith) le) in
    ap (slots_before shape) next ∙ one ∙ ap (λ (k : ℕ). k + 1) (turn-slots run q shuffle i e (omega (arith, le))) ∙ omega arith

-- the vote stands behind the last turn
vote-stage : (run : Run) (q : Inquiry) (shuffle : ℕ) → IsEnded run q shuffle → submit_stage q + suc q.shape.members ≡ q.stage - 1
vote-stage run q shuffle e = (let late = end-least q.shape q.stage shuffle e.kind in omega arith)

-- what is read of a turn before the vote
pub record IsTurnRead (run : Run) (q : Inquiry) (posts : List Post) (stage i : ℕ) : Type 0 where
  pub list : List (List ℕ)
  pub read : slice_get (map (λ turn. list_read (content_read (shape_in run.config) turn))
      (turns_before (shape_in run.config) (take (slots_before (shape_in run.config) stage) (contents_of posts)) stage)) i ≡ Some (Some list)
  pub said : list_after q (suc i) ≡ Some list

pub turn-read : (run : Run) (q : Inquiry) (shuffle i : ℕ) (e : IsEnded run q shuffle) → HonestRun run → i < q.shape.members
    → is_turn q (suc i) ≡ true
    → IsTurnRead run q e.is.posts (q.stage - 1) i
turn-read run q shuffle i e honest lt right =
    let shape = shape_in run.config in
    let past : List (List ℕ) = contents_of e.is.posts in
    let members : q.shape.members ≡ shape.members = ap (λ (s : Shape). s.members) e.is.shape in
    let stage : ℕ = submit_stage q + suc i in
    let vote : ℕ = q.stage - 1 in
    let number : ℕ = slot_number shape stage (suc i) in
    let a : ℕ = slots_before shape vote - shape.members in
    let b : ℕ = slots_before shape vote in
    let kind = turn-kind run q shuffle (suc i) e (omega arith) (omega (arith, lt)) in
    let here : number ≡ slots_before shape stage + 0 = ap (λ (o : Option StageKind). slots_before shape stage + place_in o (suc i)) kind in
    let at = turn-slots run q shuffle i e (omega (arith, lt)) in
    let end : b ≡ slots_before shape (submit_stage q + 1) + q.shape.members =
    ap (slots_before shape) (sym (vote-stage run q shuffle e)) ∙ turn-slots run q shuffle q.shape.members e (omega arith) in
    let place : a + i ≡ number = omega (arith, here, at, end, members) in
    let long : length past ≡ slots_before shape q.stage =
    length-map e.is.posts (λ (p : Post). p.content) ∙ (is-past run q.stage e.is.posts honest e.is.kept).long in
    let rises = slots_before-rises shape vote q.stage (omega arith) in
    let text = there past number (omega (arith, place, end, lt, members, long, rises)) in
    let list = order-said (bodies_before q (suc i)) (list_after q (suc i)) right in
    let body : list_of (body_of (content_read shape text.0)) ≡ Some list.0 =
    ap (λ (bytes : List ℕ). list_of (body_of (content_read shape bytes))) (sym (get_or_from_slice_get past number text.0 [] text.1))
    ∙ ap list_of (sym (body-in run q e.is stage (suc i))) ∙ list.1 in
    record {
      list = list.0;
      read = slice_get-map (λ turn. list_read (content_read shape turn)) (turns_before shape (take b past) vote) i
          ∙ ap (option_map (λ turn. list_read (content_read shape turn)))
          (slice_get-take (drop a (take b past)) (b - a) i (omega (arith, end, lt, members)) ∙ get_drop (take b past) a i
          ∙ slice_get-take past b
          (a + i) (omega (arith, end, lt, members)) ∙ ap (slice_get past) place ∙ text.1)
          ∙ ap (λ (l : Option (List (List ℕ))). Some l) (list-is_read (content_read shape text.0) list.0 body);
      said = list.1;
    }

-- ---- the own ciphertext in the last list

-- a shuffle in which nothing is at fault
pub record IsFaultless (run : Run) (q : Inquiry) (shuffle : ℕ) : Type 0 where
  pub ended : IsEnded run q shuffle
  pub seeds : seed_fault q shuffle ≡ None
  pub submissions : submission_fault q shuffle ≡ None
  pub turns : turn_fault q ≡ None

each-turn : (q : Inquiry) (turn : ℕ) → turn_fault q ≡ None → 1 ≤ turn → turn ≤ q.shape.members → is_turn q turn ≡ true
each-turn q turn none least most =
    fault_unless-holds (is_turn q turn) (fault Shuffle turn)
    (first_member-each q (λ turn. fault_unless (is_turn q turn) (fault Shuffle turn)) turn none (record { least = least; most = most }))

-- what the member submitted, without its outer layers
abbrev pub inner_said : (run : Run) → List (List ℕ) → ℕ → List ℕ
inner_said run past shuffle = (own_submission run.config (own_descriptor run.config past) past shuffle).inner_ciphertext

-- it stands in the last list
pub inner-there : (run : Run) (q : Inquiry) (shuffle : ℕ) (own : IsFaultless run q shuffle) → HonestRun run
    → (last : HasStripped q q.shape.members)
    → (submitted : IsSubmitted run q own.ended.is.posts shuffle) → Contains last.list (inner_said run submitted.said shuffle)
inner-there run q shuffle own honest last submitted =
    let c = run.config in
    let is = own.ended.is in
    let seeds : List (List ℕ) = outer_seeds q in
    let shows = is.shows shuffle own.ended.kind in
    let many = shows.many in
    let long : length seeds ≡ q.shape.members = length-map q.shown (λ shown. shown.outer_seed) ∙ many in
    let opens = own-opens run q shuffle is own.ended.kind submitted in
    let all : take q.shape.members seeds ≡ seeds = take_all q.shape.members seeds (omega (arith, long)) in
    let member = slot-bounds (shape_in c) 0 c.number (own-speaks c honest.config) in
    let least = member.1 in
    let most = member.2 in
    let listed : Contains (submissions q) (submission q c.number) =
    contains-map-from (submission q) (range_with_len 1 q.shape.members) c.number
    (in-range 1 q.shape.members c.number least (omega (arith, most, ap (λ (s : Shape). s.members) is.shape))) in
    let kept =
    strips_through_keeps (take q.shape.members seeds) (submissions q) last.bodies (submission q c.number)
    (inner_said run submitted.said shuffle) last.stripped listed
    (own_layer_seeds c shuffle 2, ap (λ (s : List (List ℕ)). opened_through s (submission q c.number)) all ∙ opens) in
    ((permutation_keeps last.bodies last.list last.order).1 (inner_said run submitted.said shuffle)).0 kept

pub stands-there : (run : Run) (q : Inquiry) (shuffle : ℕ) (own : IsFaultless run q shuffle) (entry : List ℕ) → HonestRun run
    → (last : HasStripped q q.shape.members) → Contains last.list entry
    → stands_last (shape_in run.config) entry (lists_before (shape_in run.config)
    (take (slots_before (shape_in run.config) (q.stage - 1)) (contents_of own.ended.is.posts)) (q.stage - 1)) ≡ true
stands-there run q shuffle own entry honest last listed =
    ap (stands_last shape entry) lists.1
    ∙ ap (stands_in entry) (all-at turns lists.0 (shape.members - 1) final.list lists.1 final.read)
    ∙ ap (list_any (bytes_eq entry)) same
    ∙ any-of entry last.list listed
  where
    shape : Shape
    shape = shape_in run.config

    past : List (List ℕ)
    past = take (slots_before shape (q.stage - 1)) (contents_of own.ended.is.posts)

    turns : List (Option (List (List ℕ)))
    turns = map (λ turn. list_read (content_read shape turn)) (turns_before shape past (q.stage - 1))

    same_members : q.shape.members ≡ shape.members
    same_members = ap (λ (s : Shape). s.members) own.ended.is.shape

    some_member : 1 ≤ q.shape.members
    some_member =
        (let bounds = slot-bounds shape 0 run.config.number (own-speaks run.config honest.config) in let least = bounds.1 in let most =
        bounds.2 in omega (arith, same_members))

    count : length turns ≤ q.shape.members
    count =
        let a : ℕ = slots_before shape (q.stage - 1) - shape.members in
        let b : ℕ = slots_before shape (q.stage - 1) in
        omega (
          arith,
          same_members,
          length-map (turns_before shape past (q.stage - 1)) (λ turn. list_read (content_read shape turn)),
          length-take (b - a) (drop a past),
        )

    read : (i : ℕ) → i < q.shape.members → IsTurnRead run q own.ended.is.posts (q.stage - 1) i
    read i lt = turn-read run q shuffle i own.ended honest lt (each-turn q (suc i) own.turns (omega arith) (omega (arith, lt)))

    lists : (ys : List (List (List ℕ))) × (all_some turns ≡ Some ys)
    lists = all-there turns (λ i lt. (let few = count in let one = read i (omega (arith, lt, few)) in (one.list, one.read)))

    final : IsTurnRead run q own.ended.is.posts (q.stage - 1) (shape.members - 1)
    final = read (shape.members - 1) (let some = some_member in omega (arith, same_members))

    same : final.list ≡ last.list
    same =
        let some = some_member in
        let back : suc (shape.members - 1) ≡ q.shape.members = omega (arith, same_members) in
        lists-same final.list last.list (sym final.said ∙ ap (list_after q) back ∙ last.said)
