-- Evidence is bytes: all that it lists is, and so is the accusation that it shows.
use Rattle.std.proofs.Common.{arith, refl, zero, suc, Contains, List, None, Option, Some, ap, eq-eqb, inl, inr, length, replicate, rules, subst, sym, true, ◌≡◌, ◌≢◌, ◌∙◌, ◌∷◌, ◌<◌, ◌≤◌, ◌+◌, [], ℕ, ◌++◌}
use Rattle.std.specs.Int.{to_be_bytes, w32, w64}
use Rattle.phase_message.specs.declared.content.Body.TheVariants.{Shuffled}
use Rattle.phase_message.specs.declared.stage.StageKind.TheVariants.{Shuffle as AtShuffle, Final as AtFinal}
use Rattle.shuffle_blame.proofs.Endings.{EndsAt, ends_at}
use Rattle.round_spec.specs.Slots.{submit_stage, entries_opened, items_opened, list_said, seeds_revealed}
use Rattle.transcript_form.specs.declared.claim.Claim.TheVariants.{Equivocation, Malformed, WrongSeed, BadLog, Replay, Pad}
use Rattle.std.specs.List.{AllByRecursion, flat_map}
use Rattle.phase_message.specs.declared.content.Body.{Body}
use Rattle.transcript_form.specs.declared.claim.Claim.{Claim}
use Rattle.wire_core.specs.Bytes.{IsBytes}
use Rattle.wire_core.proofs.ByteLists.{IsBytes-append, IsBytes-cons, IsBytes-nil, IsBytes-to_be_bytes}
use Rattle.accountability.specs.Evidence.{IsKeptEnd}
use Rattle.transcript_form.specs.Transcript.{IsTranscript, detail_spelling, head_spelling, transcript_magic, transcript_spelling}
use Rattle.phase_message.specs.declared.post.Post.{Post}
use Rattle.round_spec.specs.Runs.{Run}
use Rattle.phase_message.specs.Shape.{Shape}
use Rattle.phase_message.specs.declared.stage.StageKind.{StageKind}
use Rattle.transcript_form.specs.declared.transcript.Transcript.{Transcript}
use Rattle.conviction.proofs.Listed.{all-contained}
use Rattle.accountability.proofs.Endings.{and-then-parts}
use Rattle.round_spec.proofs.SealedBytes.{bodies-bytes, bytes-flat}
use Rattle.accountability.proofs.Kept.{body-bytes, end-past, kept-in, said-in}
use Rattle.phase_message.specs.Grammar.{body_text, prefixed}
use Rattle.transcript_form.specs.Claim.{claim_number}
use Rattle.round_spec.proofs.Contained.{contains-cases, contains-here, contains-later, contains-map, contains-nothing}
use Rattle.stage_log.specs.Log.{contents_of}
use Rattle.phase_message.specs.Stages.{is_member, is_slot, kind_of_stage, speaks}
use Rattle.conviction.proofs.Saids.{list-told}
use Rattle.shuffle_blame.specs.Replay.{list_of}
use Rattle.std.proofs.lemmas.Option.{none-some}
use Rattle.shuffle_core.specs.Shuffle.{opened_item}
use Rattle.layer_cipher.specs.Layer.{opened_through, peeled}
use Rattle.std.specs.Prelude.{option_map}
use Rattle.stage_log.proofs.Pasts.{option_map-some}
use Rattle.conviction.proofs.OwnRows.{own-speaks}
use Rattle.layer_cipher.proofs.LayerLemmas.{peels_exactly}
use Rattle.round_spec.specs.Say.{shape_in}
use Rattle.phase_message.proofs.SlotBounds.{slot-bounds}
use Rattle.phase_message.specs.Slots.{stage_count}
use Rattle.phase_message.proofs.Table.{turn_b}

-- ---- what opens is bytes

peeled-bytes : (seed entry m body : List ℕ) → peeled seed entry ≡ Some (m, body) → IsBytes entry → IsBytes body
peeled-bytes seed entry m body e bytes =
    (bodies-bytes seed (entry ∷ []) (body ∷ []) ((m, (peels_exactly seed entry m body).0 e), tt) (bytes, tt)).0

opened-bytes : (seeds : List (List ℕ)) (entry item : List ℕ) (ms : List (List ℕ)) → opened_through seeds entry ≡ Some (ms, item)
    → IsBytes entry → IsBytes item
unfolding opened_through
opened-bytes [] entry item ms e bytes = subst IsBytes (ap (λ (p : List (List ℕ) × List ℕ). p.1) (pair-same ([], entry) (ms, item) e)) bytes
  where
    pair-same : (a b : List (List ℕ) × List ℕ) → (let told : List (List ℕ) × List ℕ
        → Option (List (List ℕ) × List ℕ) = λ z. Some z in told a ≡ told b) → a ≡ b
    pair-same a b e = cc
opened-bytes (seed ∷ seeds) entry item ms e bytes =
    let first = and-then-parts (λ (p : List ℕ × List ℕ). option_map (λ (q : List (List ℕ) × List ℕ). (p.0 ∷ q.0, q.1))
    (opened_through seeds p.1)) (peeled seed entry) (ms, item) e in
    let rest = option_map-some (λ (q : List (List ℕ) × List ℕ). (first.0.0 ∷ q.0, q.1)) (opened_through seeds first.0.1) (ms, item) first.2
    in
    let inner = opened-bytes seeds first.0.1 rest.0.1 rest.0.0 rest.1 (peeled-bytes seed entry first.0.0 first.0.1 first.1 bytes) in
    subst IsBytes (ap (λ (p : List (List ℕ) × List ℕ). p.1) rest.2) inner

item-bytes : (seeds : List (List ℕ)) (entry item : List ℕ) → opened_item seeds entry ≡ Some item → IsBytes entry → IsBytes item
unfolding opened_item
item-bytes seeds entry item e bytes =
    let found = option_map-some (λ (found : List (List ℕ) × List ℕ). found.1) (opened_through seeds entry) item e in
    subst IsBytes found.2 (opened-bytes seeds entry found.0.1 found.0.0 found.1 bytes)

nothing-opened : (n : ℕ) (item : List ℕ) → (let none : List (Option (List ℕ)) = replicate n None in Contains none (Some item)) → ⊥
nothing-opened zero item listed = contains-nothing (Some item) listed
nothing-opened (suc n) item listed = elim (contains-cases None (replicate n None) (Some item) listed) [
  | inl here ↦ none-some item here
  | inr later ↦ nothing-opened n item later
]

-- an item of an opened list of byte strings
listed-item : (n : ℕ) (shape : Shape) (seeds : List (List ℕ)) (o : Option (List (List ℕ))) (item : List ℕ)
    → ((list : List (List ℕ)) → o ≡ Some list → AllByRecursion IsBytes list) → Contains (entries_opened shape seeds o) (Some item)
    → IsBytes item
listed-item n shape seeds None item bytes listed = absurd (nothing-opened shape.members item listed)
listed-item n shape seeds (Some list) item bytes listed =
    let found = contains-map (opened_item seeds) list (Some item) listed in
    item-bytes seeds found.0 item found.2 (all-contained IsBytes list found.0 (bytes list refl) found.1)

-- the last list of shuffle B is bytes
last-bytes : (run : Run) (stage shuffle : ℕ) (posts : List Post) (list : List (List ℕ)) → IsKeptEnd run stage posts
    → kind_of_stage (shape_in run.config) stage ≡ Some (AtFinal shuffle)
    → shuffle ≢ 1 → list_said (shape_in run.config) (contents_of posts) 2 (shape_in run.config).members ≡ Some list
    → AllByRecursion IsBytes list
last-bytes run stage shuffle posts list end kind second e = by_members (shape_in run.config).members refl e
  where
    shape : Shape
    shape = shape_in run.config

    within : (0 < stage_count shape) × (1 ≤ run.config.number) × (run.config.number ≤ shape.members)
    within = slot-bounds shape 0 run.config.number (own-speaks run.config end.honest.config)

    ends : EndsAt shape stage shuffle
    ends = ends_at shape stage shuffle kind

    stage_is : stage ≡ shape.members + shape.members + 9
    stage_is = elim ends [
      | inl a ↦ absurd (second a.0)
      | inr b ↦ b.1
    ]

    by_members : (n : ℕ) → shape.members ≡ n → list_said shape (contents_of posts) 2 n ≡ Some list → AllByRecursion IsBytes list
    by_members zero none at = absurd (let least = within.1 in let most = within.2 in omega (arith, none, least, most))
    by_members (suc turn) many at =
        let turn_stage : submit_stage shape 2 + suc turn ≡ shape.members + 7 + suc turn = refl in
        let turn_kind : kind_of_stage shape (submit_stage shape 2 + suc turn) ≡ Some (AtShuffle 2 (suc turn)) = turn_b shape
        (submit_stage shape 2 + suc turn) (suc turn) turn_stage (omega arith) (omega (arith, many)) in
        let speaks_there : is_slot shape (submit_stage shape 2 + suc turn) (suc turn) ≡ true =
        ap (λ (o : Option StageKind). speaks shape o (suc turn)) turn_kind ∙ eq-eqb (suc turn) (suc turn) refl in
        let k = kept-in run (stage + 1) (submit_stage shape 2 + suc turn) (suc turn) posts (end-past run stage posts end) speaks_there
        (omega (arith, stage_is, many, turn_stage)) in
        let body_is : k.checks.content.body ≡ Shuffled list =
        list-told k.checks.content.body list (ap list_of (sym (said-in run posts (submit_stage shape 2 + suc turn) (suc turn) k)) ∙ at) in
        bytes-flat list (subst (λ (body : Body). IsBytes (body_text body)) body_is
        (body-bytes run posts (submit_stage shape 2 + suc turn) (suc turn) k))

pub opened-is_bytes : (run : Run) (stage shuffle : ℕ) (posts : List Post) (item : List ℕ) → IsKeptEnd run stage posts
    → kind_of_stage (shape_in run.config) stage ≡ Some (AtFinal shuffle)
    → shuffle ≢ 1 → Contains (items_opened (shape_in run.config) (contents_of posts) 2) (Some item) → IsBytes item
unfolding items_opened
opened-is_bytes run stage shuffle posts item end kind second listed =
    listed-item 0 (shape_in run.config) (seeds_revealed (shape_in run.config) (contents_of posts) 2)
    (list_said (shape_in run.config) (contents_of posts) 2 (shape_in run.config).members) item
    (λ list e. last-bytes run stage shuffle posts list end kind second e) listed

-- ---- transcripts

-- what a transcript lists is bytes, and so is the accusation that it shows
pub record AreItsBytes (t : Transcript) : Type 0 where
  pub posts : (bytes : List ℕ) → Contains t.posts bytes → IsBytes bytes
  pub detail : IsBytes (detail_spelling t.detail)

prefixed-all : (posts : List (List ℕ)) → ((bytes : List ℕ) → Contains posts bytes → IsBytes bytes) → IsBytes (flat_map prefixed posts)
prefixed-all [] each = IsBytes-nil
prefixed-all (x ∷ xs) each =
    IsBytes-append (prefixed x) (flat_map prefixed xs) (IsBytes-append (to_be_bytes w32 (length x)) x (IsBytes-to_be_bytes w32 (length x))
    (each x (contains-here x xs)))
    (prefixed-all xs (λ bytes listed. each bytes (contains-later x xs bytes listed)))

claim-small : (claim : Claim) → claim_number claim < 256
claim-small Equivocation = omega arith
claim-small Malformed = omega arith
claim-small WrongSeed = omega arith
claim-small BadLog = omega arith
claim-small Replay = omega arith
claim-small Pad = omega arith

member-most : (n s : ℕ) → is_member n s ≡ true → s ≤ n
member-most n s e = search rules

magic-bytes : IsBytes transcript_magic
magic-bytes =
    IsBytes-cons 68 (83 ∷ 84 ∷ 82 ∷ 1 ∷ []) (omega arith)
    (IsBytes-cons 83 (84 ∷ 82 ∷ 1 ∷ []) (omega arith)
    (IsBytes-cons 84 (82 ∷ 1 ∷ []) (omega arith) (IsBytes-cons 82 (1 ∷ []) (omega arith) (IsBytes-cons 1 [] (omega arith) IsBytes-nil))))

pub spelling-bytes : (shape : Shape) (t : Transcript) → shape.members ≤ 8 → IsTranscript shape t → AreItsBytes t
    → IsBytes (transcript_spelling t)
spelling-bytes shape t few form are =
    let accused = member-most shape.members t.accused form.accused in
    IsBytes-append transcript_magic (head_spelling t ++ flat_map prefixed t.posts) magic-bytes
    (IsBytes-append (head_spelling t) (flat_map prefixed t.posts)
    (IsBytes-cons (claim_number t.claim) (t.accused ∷ to_be_bytes w64 t.round
    ++ (detail_spelling t.detail ++ to_be_bytes w32 (length t.posts))) (claim-small t.claim)
    (IsBytes-cons t.accused (to_be_bytes w64 t.round ++ (detail_spelling t.detail ++ to_be_bytes w32 (length t.posts)))
    (omega (arith, accused, few))
    (IsBytes-append (to_be_bytes w64 t.round) (detail_spelling t.detail ++ to_be_bytes w32 (length t.posts))
    (IsBytes-to_be_bytes w64 t.round)
    (IsBytes-append (detail_spelling t.detail) (to_be_bytes w32 (length t.posts)) are.detail (IsBytes-to_be_bytes w32 (length t.posts))))))
    (prefixed-all t.posts are.posts))
