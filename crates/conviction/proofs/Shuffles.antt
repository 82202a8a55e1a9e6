-- The turn of an honest member says what stood in the list before it, with a layer off and in another order.
use Rattle.std.proofs.Common.{◌≡◌, ℕ, zero, suc, ◌+◌, ◌-◌, ◌*◌, ◌^◌, ◌<◌, ◌≤◌, true, List, [], ◌∷◌, length, map, take, Option, Some, None, ap, sym, ◌∙◌, refl, subst, arith, rules, inl, inr, IsPermutation}
use Rattle.std.specs.Prelude.{◌==◌, AllPairs, Contains, option_and_then, option_map, slice_index_or, unwrap_or, if◌then◌else◌}
use Rattle.std.specs.List.{AllByRecursion, AllZip, range_with_len}
use Rattle.std.proofs.lemmas.Bool.{cond-false, cond-true, eq-eqb}
use Rattle.std.proofs.lemmas.List.{get_or-take, take-map}
use Rattle.std.proofs.lemmas.List.FromFn.{length-map-range_with_len}
use Rattle.wire_core.specs.Answers.{fault_unless}
use Rattle.wire_core.proofs.AnswerLemmas.{fault_unless-holds, first_below-found}
use Rattle.ring_encrypt.specs.Capsule.{key_of_seed}
use Rattle.layer_cipher.specs.Layer.{layer_of}
use Rattle.layer_cipher.specs.Stripping.{HasBody, OpensTo, stripped, stripped_through}
use Rattle.layer_cipher.proofs.LayerLemmas.{layer_adds}
use Rattle.layer_cipher.proofs.StrippingLemmas.{strips_all, strips_exactly, strips_in_any_order}
use Rattle.layer_cipher.proofs.ThroughLemmas.{strips_through_exactly, strips_through_more}
use Rattle.wire_core.proofs.ListLemmas.{map-range}
use Rattle.phase_message.specs.declared.content.Body.{Body}
use Rattle.phase_message.specs.declared.content.Body.TheVariants.{Shuffled}
use Rattle.phase_message.specs.declared.content.Content.{Content}
use Rattle.phase_message.specs.declared.post.Post.{Post}
use Rattle.phase_message.specs.declared.stage.StageKind.{StageKind}
use Rattle.phase_message.specs.declared.stage.StageKind.TheVariants.{Submit as AtSubmit, Shuffle as AtShuffle, Final}
use Rattle.phase_message.specs.Body.{level}
use Rattle.phase_message.specs.Grammar.{IsBody}
use Rattle.phase_message.specs.Offence.{content_read}
use Rattle.phase_message.specs.Shape.{Shape}
use Rattle.phase_message.specs.Slots.{slot_number, slots_before}
use Rattle.phase_message.specs.Stages.{is_member, is_slot, kind_of_stage, speaks}
use Rattle.phase_message.proofs.SlotLists.{slot_number-within, slots_before-rises}
use Rattle.stage_log.specs.Log.{contents_of}
use Rattle.shuffle_core.specs.Shuffle.{turn_of}
use Rattle.shuffle_core.proofs.Turns.{permutation_keeps, turn_permutes}
use Rattle.shuffle_blame.specs.declared.fault.Cause.TheVariants.{Shuffle}
use Rattle.shuffle_blame.specs.declared.fault.Fault.{Fault}
use Rattle.shuffle_blame.specs.Laws.{HasShownStrings, HasStripped, own_layer_seeds}
use Rattle.shuffle_blame.specs.Replay.{Inquiry, body_in, body_of, ciphertext_of, fault, inside, is_order_of, is_turn, list_after, list_of, outer_place, outer_seed, outer_seeds, submission, submission_fault, submissions, submit_stage}
use Rattle.shuffle_blame.proofs.Endings.{ends_at, submit_there, turn_there}
use Rattle.shuffle_blame.proofs.Layers.{no_submission_fault, seeds-next, stripped_are_distinct}
use Rattle.shuffle_blame.proofs.Permutations.{permutations_are_found}
use Rattle.shuffle_blame.proofs.Slots.{end-least}
use Rattle.shuffle_blame.proofs.Turns.{lists_are_stripped}
use Rattle.round_spec.specs.Say.{Configuration, own_body_if, own_descriptor, own_key_seed, own_order_seed, shape_in, turn_over, turn_row}
use Rattle.round_spec.specs.Slots.{list_said, said_in, submit_stage as submit_stage_of}
use Rattle.round_spec.specs.Runs.{HonestRun, Run}
use Rattle.round_spec.proofs.Contained.{contains-cases, contains-here, contains-later, contains-nothing}
use Rattle.conviction.specs.Blame.{IsOwnInquiry, ShowsOwn, ShuffleNotOwn}
use Rattle.conviction.proofs.Bodies.{body_due, row-is}
use Rattle.conviction.proofs.Closings.{is-past}
use Rattle.conviction.proofs.OwnRows.{OwnSaid, own-body, own-said}
use Rattle.conviction.proofs.Replays.{not_both, unless-found}
use Rattle.conviction.proofs.Saids.{list-body, list-long, list-told, past-said, submission-long}

-- ---- lists

all-of : (P : List ℕ → Type 0) (xs : List (List ℕ)) → ((x : List ℕ) → Contains xs x → P x) → AllByRecursion P xs
all-of P [] each = tt
all-of P (x ∷ xs) each = (each x (contains-here x xs), all-of P xs (λ y there. each y (contains-later x xs y there)))

all-in : (P : List ℕ → Type 0) (xs : List (List ℕ)) (y : List ℕ) → AllByRecursion P xs → Contains xs y → P y
all-in P [] y all there = absurd (contains-nothing y there)
all-in P (x ∷ xs) y all there = elim (contains-cases x xs y there) [
  | inl here ↦ subst P here all.0
  | inr later ↦ all-in P xs y all.1 later
]

-- entries in another order have their lengths
order-long : (n : ℕ) (xs ys : List (List ℕ)) → IsPermutation xs ys → AllByRecursion (λ x. length x ≡ n) xs
    → AllByRecursion (λ x. length x ≡ n) ys
order-long n xs ys order long = all-of (λ x. length x ≡ n) ys (λ y there. all-in (λ x. length x ≡ n) xs y long
    (((permutation_keeps xs ys order).1 y).1 there))

-- a layer off takes 2,272 bytes away
bodies-long : (seed : List ℕ) (n : ℕ) (xs ys : List (List ℕ)) → AllZip (HasBody seed) xs ys → AllByRecursion (λ x. length x ≡ n + 2272) xs
    → AllByRecursion (λ y. length y ≡ n) ys
bodies-long seed n [] [] zip long = tt
bodies-long seed n [] (y ∷ ys) zip long = absurd zip
bodies-long seed n (x ∷ xs) [] zip long = absurd zip
bodies-long seed n (x ∷ xs) (y ∷ ys) zip long =
    let m : List ℕ = zip.0.0 in
    let adds : length (layer_of (key_of_seed seed) m y) ≡ length y + 2272 = layer_adds (key_of_seed seed) m y in
    let is : length x ≡ length (layer_of (key_of_seed seed) m y) = ap length zip.0.1.is in
    let one = long.0 in
    (omega (arith, adds, is, one), bodies-long seed n xs ys zip.1 long.1)

all-range : (P : List ℕ → Type 0) (f : ℕ → List ℕ) (a n : ℕ) → ((m : ℕ) → a ≤ m → m < a + n → P (f m))
    → AllByRecursion P (map f (range_with_len a n))
all-range P f a zero each = tt
all-range P f a (suc n) each = (each a (omega arith) (omega arith), all-range P f (a + 1) n (λ m le lt. each m (omega arith) (omega arith)))

zip-range : (R : List ℕ → List ℕ → Type 0) (f g : ℕ → List ℕ) (a n : ℕ) → ((m : ℕ) → a ≤ m → m < a + n → R (f m) (g m))
    → AllZip R (map f (range_with_len a n)) (map g (range_with_len a n))
zip-range R f g a zero each = tt
zip-range R f g a (suc n) each = (
  each a (omega arith) (omega arith),
  zip-range R f g (a + 1) n
      (λ m le lt. each m (omega arith) (omega arith)),
)

-- ---- what was said, in the words of both

-- what a replay looks at in a slot is what stands in the past
pub body-in : (run : Run) (q : Inquiry) (is : IsOwnInquiry run q) (stage member : ℕ)
    → body_in q stage member ≡ body_of (content_read (shape_in run.config)
    (slice_index_or (contents_of is.posts) (slot_number (shape_in run.config) stage member) []))
body-in run q is stage member =
    ap (λ (s : Shape). body_of (content_read s (slice_index_or q.past (slot_number s stage member) []))) is.shape
    ∙ ap (λ (past : List (List ℕ)). body_of (content_read (shape_in run.config)
    (slice_index_or past (slot_number (shape_in run.config) stage member) []))) is.past

said-same : (run : Run) (q : Inquiry) (is : IsOwnInquiry run q) (later stage member : ℕ) → is_slot (shape_in run.config) stage member ≡ true
    → stage < later
    → said_in (shape_in run.config) (take (slots_before (shape_in run.config) later) (contents_of is.posts)) stage member ≡ body_in q stage
    member
unfolding said_in
said-same run q is later stage member speaks lt =
    let shape = shape_in run.config in
    let number : ℕ = slot_number shape stage member in
    let within = (slot_number-within shape stage member speaks).1 in
    ap (λ (bytes : List ℕ). body_of (content_read shape bytes))
    (get_or-take (slots_before shape later) (contents_of is.posts) number []
    (omega (arith, within, slots_before-rises shape (stage + 1) later (omega arith))))
    ∙ sym (body-in run q is stage member)

-- the stage of the submissions
submit-same : (shape : Shape) (stage shuffle : ℕ) → kind_of_stage shape stage ≡ Some (Final shuffle)
    → submit_stage_of shape shuffle ≡ stage - (shape.members + 2)
submit-same shape stage shuffle kind = elim (ends_at shape stage shuffle kind) [
  | inl a ↦ (let at = a.1 in cond-true (shuffle == 1) 1 (shape.members + 7) (eq-eqb shuffle 1 a.0) ∙ omega (arith, at))
  | inr b ↦ (let at = b.1 in cond-false (shuffle == 1) 1 (shape.members + 7) (ap (λ (s : ℕ). s == 1) b.0) ∙ omega (arith, at))
]

is-there : (n member : ℕ) → 1 ≤ member → member ≤ n → is_member n member ≡ true
is-there n member first last = search rules

-- ---- the slots of a shuffle

-- a shuffle that has ended, in the shape of the run
pub record IsEnded (run : Run) (q : Inquiry) (shuffle : ℕ) : Type 0 where
  pub is : IsOwnInquiry run q
  pub kind : kind_of_stage q.shape q.stage ≡ Some (Final shuffle)

submit-kind : (run : Run) (q : Inquiry) (shuffle : ℕ) → IsEnded run q shuffle
    → kind_of_stage (shape_in run.config) (submit_stage q) ≡ Some (AtSubmit shuffle)
submit-kind run q shuffle e = ap (λ (s : Shape). kind_of_stage s (submit_stage q)) (sym e.is.shape)
    ∙ submit_there q.shape q.stage shuffle e.kind

pub turn-kind : (run : Run) (q : Inquiry) (shuffle turn : ℕ) → IsEnded run q shuffle → 1 ≤ turn → turn ≤ q.shape.members
    → kind_of_stage (shape_in run.config) (submit_stage q + turn) ≡ Some (AtShuffle shuffle turn)
turn-kind run q shuffle turn e least most =
    ap (λ (s : Shape). kind_of_stage s (submit_stage q + turn)) (sym e.is.shape) ∙ turn_there q.shape q.stage shuffle turn e.kind least most

submit-speaks : (run : Run) (q : Inquiry) (shuffle member : ℕ) → IsEnded run q shuffle → 1 ≤ member → member ≤ q.shape.members
    → is_slot (shape_in run.config) (submit_stage q) member ≡ true
submit-speaks run q shuffle member e least most =
    ap (λ (o : Option StageKind). speaks (shape_in run.config) o member) (submit-kind run q shuffle e)
    ∙ is-there (shape_in run.config).members member least (omega (arith, most, ap (λ (s : Shape). s.members) e.is.shape))

turn-speaks : (run : Run) (q : Inquiry) (shuffle turn : ℕ) → IsEnded run q shuffle → 1 ≤ turn → turn ≤ q.shape.members
    → is_slot (shape_in run.config) (submit_stage q + turn) turn ≡ true
turn-speaks run q shuffle turn e least most =
    ap (λ (o : Option StageKind). speaks (shape_in run.config) o turn) (turn-kind run q shuffle turn e least most) ∙ eq-eqb turn turn refl

-- the list after some turns, in the words of both
list-same : (run : Run) (q : Inquiry) (shuffle place : ℕ) (e : IsEnded run q shuffle) → place < q.shape.members
    → list_said (shape_in run.config) (take (slots_before (shape_in run.config) (submit_stage q + suc place)) (contents_of e.is.posts))
    shuffle place ≡ list_after q place
list-same run q shuffle zero e lt =
    let shape = shape_in run.config in
    let past : List (List ℕ) = take (slots_before shape (submit_stage q + 1)) (contents_of e.is.posts) in
    let members : q.shape.members ≡ shape.members = ap (λ (s : Shape). s.members) e.is.shape in
    let stage : submit_stage_of shape shuffle ≡ submit_stage q =
    ap (λ (s : Shape). submit_stage_of s shuffle) (sym e.is.shape) ∙ submit-same q.shape q.stage shuffle e.kind in
    ap (λ (entries : List (List ℕ)). Some entries)
    (ap (λ (s : ℕ). map (λ member. ciphertext_of (said_in shape past s member)) (range_with_len 1 shape.members)) stage
    ∙ map-range (λ member. ciphertext_of (said_in shape past (submit_stage q) member)) (submission q) 1 shape.members
    (λ m least most. ap ciphertext_of
    (said-same run q e.is (submit_stage q + 1) (submit_stage q) m (submit-speaks run q shuffle m e least (omega (arith, most, members)))
    (omega arith)))
    ∙ ap (λ (n : ℕ). map (submission q) (range_with_len 1 n)) (sym members))
list-same run q shuffle (suc turn) e lt =
    let shape = shape_in run.config in
    let later : ℕ = submit_stage q + suc (suc turn) in
    let past : List (List ℕ) = take (slots_before shape later) (contents_of e.is.posts) in
    let stage : submit_stage_of shape shuffle ≡ submit_stage q =
    ap (λ (s : Shape). submit_stage_of s shuffle) (sym e.is.shape) ∙ submit-same q.shape q.stage shuffle e.kind in
    ap (λ (s : ℕ). list_of (said_in shape past (s + suc turn) (suc turn))) stage
    ∙ ap list_of (said-same run q e.is later (submit_stage q + suc turn) (suc turn)
    (turn-speaks run q shuffle (suc turn) e (omega arith) (omega (arith, lt))) (omega arith))

-- ---- the lengths of entries

-- before the end of a shuffle
turn-early : (run : Run) (q : Inquiry) (shuffle turn : ℕ) → IsEnded run q shuffle → turn ≤ q.shape.members → submit_stage q + turn < q.stage
turn-early run q shuffle turn e most = (let late = end-least q.shape q.stage shuffle e.kind in omega arith)

pub lists-same : (a b : List (List ℕ)) → (let told : List (List ℕ) → Option (List (List ℕ)) = λ x. Some x in told a ≡ told b) → a ≡ b
lists-same a b e = cc

entries-long : (run : Run) (q : Inquiry) (shuffle place : ℕ) (list : List (List ℕ)) (e : IsEnded run q shuffle) → HonestRun run
    → place < q.shape.members
    → list_after q place ≡ Some list
    → AllByRecursion (λ entry. length entry ≡ level (shape_in run.config).members shuffle place) list
    × (length list ≡ (shape_in run.config).members)
entries-long run q shuffle zero list e honest lt said =
    let shape = shape_in run.config in
    let members : q.shape.members ≡ shape.members = ap (λ (s : Shape). s.members) e.is.shape in
    let same : submissions q ≡ list = lists-same (submissions q) list said in
    let past = is-past run q.stage e.is.posts honest e.is.kept in
    subst (λ (xs : List (List ℕ)). AllByRecursion (λ entry. length entry ≡ level shape.members shuffle 0) xs × (length xs ≡ shape.members))
    same (
      all-range (λ entry. length entry ≡ level shape.members shuffle 0) (submission q) 1 q.shape.members
          (λ m least most. (
          let there =
          past-said run q.stage (submit_stage q) m e.is.posts past (submit-speaks run q shuffle m e least (omega (arith, most)))
          (let early = turn-early run q shuffle 0 e (omega arith) in omega arith) in
          ap (λ (b : Body). length (ciphertext_of b)) (body-in run q e.is (submit_stage q) m ∙ there.said)
          ∙ submission-long shape (submit_stage q) shuffle there.body (submit-kind run q shuffle e) there.grammar)),
      length-map-range_with_len (submission q) 1 q.shape.members ∙ members,
    )
entries-long run q shuffle (suc turn) list e honest lt said =
    let shape = shape_in run.config in
    let past = is-past run q.stage e.is.posts honest e.is.kept in
    let stage : ℕ = submit_stage q + suc turn in
    let there =
    past-said run q.stage stage (suc turn) e.is.posts past (turn-speaks run q shuffle (suc turn) e (omega arith) (omega (arith, lt)))
    (turn-early run q shuffle (suc turn) e (omega (arith, lt))) in
    let body : there.body ≡ Shuffled list = list-told there.body list
    (ap list_of (sym there.said ∙ sym (body-in run q e.is stage (suc turn))) ∙ said) in
    list-long shape stage shuffle (suc turn) list (turn-kind run q shuffle (suc turn) e (omega arith) (omega (arith, lt)))
    (subst (IsBody shape stage) body there.grammar)

levels : (x n place : ℕ) → place < n → x + 2272 * (2 * n - suc place) + 2272 ≡ x + 2272 * (2 * n - place)
levels x n place lt = omega arith

-- ---- the own turn

-- each submission is stripped as far as a turn
all-stripped : (q : Inquiry) (shuffle layers : ℕ) → submission_fault q shuffle ≡ None → layers ≤ q.shape.members
    → q.shape.members ≤ length q.shown
    → (bodies : List (List ℕ)) × (stripped_through (take layers (outer_seeds q)) (submissions q) ≡ Some bodies)
all-stripped q shuffle layers none most long =
    let seeds : List (List ℕ) = take layers (outer_seeds q) in (
      map body (range_with_len 1 q.shape.members),
      (strips_through_exactly seeds (submissions q) (map body (range_with_len 1 q.shape.members))).1
          (zip-range (OpensTo seeds) (submission q) body 1 q.shape.members (λ m least few. opens m least (omega (arith, few)))),
    )
  where
    body : ℕ → List ℕ
    body m = unwrap_or (inside q (submission q m) layers) []

    opens : (m : ℕ) → 1 ≤ m → m ≤ q.shape.members → OpensTo (take layers (outer_seeds q)) (submission q m) (body m)
    opens m least few =
        let found = no_submission_fault q shuffle m layers none (record { least = least; most = few }) most long in
        let same : body m ≡ found.0 = ap (λ (o : Option (List (List ℕ) × List ℕ)). unwrap_or
        (option_map (λ (f : List (List ℕ) × List ℕ). f.1) o) []) found.1 in
        let ms : List (List ℕ) = own_layer_seeds q shuffle m layers in (
          ms,
          found.1 ∙ ap (λ (b : List ℕ). (let told : List (List ℕ) × List ℕ
              → Option (List (List ℕ) × List ℕ) = λ x. Some x in told (ms, b))) (sym same),
        )

-- the row of a turn over a list that was said
turn-row : (c : Configuration) (past : List (List ℕ)) (shuffle : ℕ) (entries : List (List ℕ))
    → list_said (shape_in c) past shuffle (c.number - 1) ≡ Some entries
    → turn_row c past shuffle ≡ turn_of (own_key_seed c (outer_place shuffle)) (own_order_seed c shuffle) entries
unfolding turn_row
turn-row c past shuffle entries e = ap (turn_over c shuffle) e

pub own-turn : (run : Run) (q : Inquiry) (shuffle place : ℕ) (strings : List (List ℕ)) (e : IsEnded run q shuffle) → HonestRun run
    → submission_fault q shuffle ≡ None → HasShownStrings q shuffle strings
    → place < q.shape.members → suc place ≡ run.config.number → HasStripped q place → is_turn q (suc place) ≡ true
own-turn run q shuffle place strings e honest none shown lt number so_far =
    let back : suc place - 1 ≡ place = omega arith in
    ap (λ (k : ℕ). is_order_of (option_and_then (stripped (outer_seed q (suc place))) (list_after q k)) (list_after q (suc place))) back
    ∙ ap (λ (o : Option (List (List ℕ))). is_order_of (option_and_then (stripped (outer_seed q (suc place))) o) (list_after q (suc place)))
    so_far.said
    ∙ ap (λ (o : Option (List (List ℕ))). is_order_of o (list_after q (suc place))) rest.1
    ∙ ap (is_order_of (Some rest.0)) list
    ∙ (permutations_are_found turn.0 rest.0).1 turn.2
  where
    c : Configuration
    c = run.config

    shape : Shape
    shape = shape_in run.config

    shows : ShowsOwn run q shuffle
    shows = e.is.shows shuffle e.kind

    long : q.shape.members ≤ length q.shown
    long = (let many = shows.many in omega arith)

    same_members : q.shape.members ≡ shape.members
    same_members = ap (λ (s : Shape). s.members) e.is.shape

    seed : List ℕ
    seed = outer_seed q (suc place)

    -- what is left of the list before, with one layer more off
    rest : (bodies : List (List ℕ)) × (stripped seed so_far.list ≡ Some bodies)
    rest =
        let next : suc place ≡ place + 1 = omega arith in
        let all = all-stripped q shuffle (place + 1) none (omega (arith, lt)) long in
        let more = strips_through_more (take place (outer_seeds q)) (outer_seed q (place + 1)) (submissions q) so_far.bodies so_far.stripped
        in
        let far : place < length q.shown = (let some = long in omega arith) in
        let bodies : stripped (outer_seed q (place + 1)) so_far.bodies ≡ Some all.0 =
        sym more ∙ ap (λ (s : List (List ℕ)). stripped_through s (submissions q)) (sym (seeds-next q place far)) ∙ all.1 in
        let off : stripped seed so_far.bodies ≡ Some all.0 = ap (λ (k : ℕ). stripped (outer_seed q k) so_far.bodies) next ∙ bodies in
        let moved = strips_in_any_order seed so_far.bodies so_far.list all.0 so_far.order off in
        (moved.0, moved.1)

    entries : AllByRecursion (λ entry. length entry ≡ level shape.members shuffle place) so_far.list × (length so_far.list ≡ shape.members)
    entries = entries-long run q shuffle place so_far.list e honest lt so_far.said

    distinct : AllPairs (λ body later. body ≡ later → ⊥) so_far.list
    distinct =
        (permutation_keeps so_far.bodies so_far.list so_far.order).2
        (stripped_are_distinct q shuffle place strings so_far.bodies shown none lt long so_far.stripped)

    few : length so_far.list < 2 ^ 32
    few = (let most = honest.config.enter.roster.most in let count = entries.1 in omega arith)

    -- what the member says
    turn : (said : List (List ℕ)) × (turn_of seed (own_order_seed c shuffle) so_far.list ≡ Shuffled said) × IsPermutation rest.0 said
    turn = turn_permutes seed (own_order_seed c shuffle) so_far.list rest.0 few distinct rest.1

    stage : ℕ
    stage = submit_stage q + suc place

    own : OwnSaid run e.is.posts stage
    own = own-said run q.stage stage e.is.posts honest e.is.kept
        (ap (is_slot shape stage) (sym number) ∙ turn-speaks run q shuffle (suc place) e (omega arith) (omega (arith, lt)))
        (turn-early run q shuffle (suc place) e (omega (arith, lt)))

    kind : kind_of_stage shape own.row.stage ≡ Some (AtShuffle shuffle (suc place))
    kind = ap (kind_of_stage shape) own.at ∙ turn-kind run q shuffle (suc place) e (omega arith) (omega (arith, lt))

    input : list_said shape (contents_of own.row.past) shuffle (c.number - 1) ≡ Some so_far.list
    input =
        let n : ℕ = slots_before shape stage in
        let before : c.number - 1 ≡ place = omega (arith, number) in
        let front : contents_of own.row.past ≡ take n (contents_of e.is.posts) =
        ap contents_of own.front ∙ sym (take-map (λ (p : Post). p.content) n e.is.posts) in
        ap (list_said shape (contents_of own.row.past) shuffle) before
        ∙ ap (λ (past : List (List ℕ)). list_said shape past shuffle place) front
        ∙ list-same run q shuffle place e lt
        ∙ so_far.said

    due : body_due run own.text own.row ≡ Shuffled turn.0
    due =
        let shown_seed : own_key_seed c (outer_place shuffle) ≡ seed = sym (ap (outer_seed q) number ∙ shows.seed) in
        ap (own_body_if c (own_descriptor c (contents_of own.row.past)) own.row.past own.row.stage) kind
        ∙ turn-row c (contents_of own.row.past) shuffle so_far.list input
        ∙ ap (λ (s : List ℕ). turn_of s (own_order_seed c shuffle) so_far.list) shown_seed
        ∙ turn.1

    body : own.row.read.body ≡ Shuffled turn.0
    body =
        let n : ℕ = level shape.members shuffle (suc place) in
        let one_more : level shape.members shuffle place ≡ n + 2272 =
        sym (levels (if shuffle == 1 then 36 + 2272 * shape.members else 34) shape.members place (omega (arith, lt, same_members))) in
        let before = subst (λ (k : ℕ). AllByRecursion (λ entry. length entry ≡ k) so_far.list) one_more entries.0 in
        let after = bodies-long seed n so_far.list rest.0 ((strips_exactly seed so_far.list rest.0).0 rest.1) before in
        let count : length turn.0 ≡ shape.members = (permutation_keeps rest.0 turn.0 turn.2).0 ∙ strips_all seed so_far.list rest.0 rest.1
        ∙ entries.1 in
        let grammar = list-body shape own.row.stage shuffle (suc place) turn.0 kind (order-long n rest.0 turn.0 turn.2 after) count in
        ap (λ (x : Content). x.body) (row-is run own.text own.row (subst (IsBody shape own.row.stage) (sym due) grammar)) ∙ due

    list : list_after q (suc place) ≡ Some turn.0
    list = ap (λ (m : ℕ). list_of (body_in q stage m)) number ∙ ap list_of
        (body-in run q e.is stage c.number ∙ own-body run e.is.posts stage own ∙ body)

pub shuffle_not_own : ShuffleNotOwn
shuffle_not_own run q shuffle found strings honest is kind none shown e own =
    let at = first_below-found (λ place. fault_unless (is_turn q (place + 1)) (fault Shuffle (place + 1))) q.shape.members found e in
    let parts = unless-found (is_turn q (at.0 + 1)) (fault Shuffle (at.0 + 1)) found at.2 in
    let next : suc at.0 ≡ at.0 + 1 = omega arith in
    let number : suc at.0 ≡ run.config.number = next ∙ ap (λ (f : Fault). f.member) parts.1 ∙ own in
    let lt = at.1 in
    let many = (is.shows shuffle kind).many in
    let so_far = lists_are_stripped q at.0 (omega (arith, lt, many)) (λ turn least most. (
    let back : turn - 1 + 1 ≡ turn = omega arith in
    ap (is_turn q) (sym back) ∙ fault_unless-holds (is_turn q (turn - 1 + 1)) (fault Shuffle (turn - 1 + 1))
    (at.3 (turn - 1) (omega arith)))) in
    not_both (is_turn q (at.0 + 1))
    (ap (is_turn q) (sym next) ∙ own-turn run q shuffle at.0 strings (record { is = is; kind = kind }) honest none shown lt number so_far)
    parts.0
