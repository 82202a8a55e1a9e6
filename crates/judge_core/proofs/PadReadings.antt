-- What the posts of a listed log say, slot by slot.
use Rattle.std.proofs.Common.{◌≡◌, ℕ, zero, suc, ◌+◌, ◌-◌, ◌<◌, ◌≤◌, ◌^◌, Bool, true, false, List, [], ◌∷◌, ◌++◌, length, All, get_or, map, take, drop, Option, Some, None, Result, Ok, refl, sym, ap, subst, ◌∙◌, arith, inl, inr, add-one}
use Rattle.std.specs.Prelude.{IfSome, ◌&&◌, ◌⊎◌}
use Rattle.std.specs.List.{list_all, range_with_len, slice_range}
use Rattle.std.proofs.lemmas.Bool.{cases_lt}
use Rattle.std.proofs.lemmas.List.{drop-map, get_or-map, length-drop, length-map, length-take-le, map_push, take-map, take_more}
use Rattle.std.proofs.lemmas.List.Elements.{All-drop, All-take}
use Rattle.std.proofs.lemmas.List.FromFn.{map-range_with_len_more}
use Rattle.wire_core.specs.declared.cursor.Short.{Short}
use Rattle.wire_core.specs.declared.tag.Tag.TheVariants.{View}
use Rattle.wire_core.specs.Hash.{hash_of}
use Rattle.phase_message.specs.declared.content.Body.{Body}
use Rattle.phase_message.specs.declared.content.Content.{Content}
use Rattle.phase_message.specs.declared.header.Header.{Header}
use Rattle.phase_message.specs.Grammar.{IsBody, OfGrammar}
use Rattle.phase_message.specs.Offence.{content_read}
use Rattle.phase_message.specs.Shape.{Shape, IsShape}
use Rattle.phase_message.specs.Slots.{slot_number, slots_before}
use Rattle.phase_message.specs.Stages.{is_slot}
use Rattle.phase_message.proofs.Whole.{content-header}
use Rattle.stage_log.specs.declared.running.RunningView.{RunningView}
use Rattle.stage_log.specs.Log.{view_of}
use Rattle.stage_log.specs.Running.{Carries}
use Rattle.shuffle_blame.specs.Replay.{body_of, list_of}
use Rattle.round_spec.specs.Slots.{final_stage, list_said, pad_stage, said_in, seed_in, submit_stage}
use Rattle.judge_core.specs.declared.hearing.Said.{Said as GivenSaid}
use Rattle.judge_core.specs.Pad.{are_revealed, is_reveal}
use Rattle.judge_core.specs.PadLog.{AreEntries, IsListedLog, TellsSeeds, contents_said}
use Rattle.judge_core.proofs.PadSlots.{last-entries, same-slot, stage-some, stage-within}

abbrev content_in : GivenSaid → List ℕ
content_in one = one.content.now

abbrev pub header_ok : Header → Result Header Short
header_ok header = Ok header

pub header_is : (a b : Header) → header_ok a ≡ header_ok b → a ≡ b
header_is a b e = cc

-- ---- a slot

pub length-said : (log : List GivenSaid) → length (contents_said log) ≡ length log
length-said log = length-map log content_in

-- what was read of a post that stands in a slot's number was said there
pub slot-said : (shape : Shape) (log : List GivenSaid) (stage sender : ℕ) (d : GivenSaid) (content : Content)
    → slot_number shape stage sender < length log
    → content_read shape (get_or log (slot_number shape stage sender) d).content.now ≡ Ok content
    → content.body ≡ said_in shape (contents_said log) stage sender
unfolding said_in
slot-said shape log stage sender d content lt read =
    let there : get_or (contents_said log) (slot_number shape stage sender) [] ≡ (get_or log (slot_number shape stage sender) d).content.now
    =
    get_or-map content_in log (slot_number shape stage sender) d [] lt in
    sym (ap (λ (bytes : List ℕ). body_of (content_read shape bytes)) there ∙ ap body_of read)

-- and is a body of the slot's stage
pub slot-body : (shape : Shape) (log : List GivenSaid) (stage sender : ℕ) (d : GivenSaid) (content : Content) → IsListedLog shape log
    → slot_number shape stage sender < length log → is_slot shape stage sender ≡ true
    → content_read shape (get_or log (slot_number shape stage sender) d).content.now ≡ Ok content → OfGrammar shape content
    → IsBody shape stage content.body
slot-body shape log stage sender d content is lt there read grammar =
    let stands = is.stand (slot_number shape stage sender) d lt in
    let one : GivenSaid = get_or log (slot_number shape stage sender) d in
    let header = header_is content.header one.header (sym (content-header shape one.content.now content read) ∙ stands.readable.header) in
    let number : slot_number shape content.header.stage content.header.sender ≡ slot_number shape stage sender =
    ap (λ (h : Header). slot_number shape h.stage h.sender) header ∙ stands.there in
    let same = same-slot shape content.header.stage content.header.sender stage sender grammar.0.slot_is there number in
    subst (λ (t : ℕ). IsBody shape t content.body) same.0 grammar.1

-- ---- views

pub said-range : (log : List GivenSaid) (a b : ℕ) → contents_said (slice_range log a b) ≡ slice_range (contents_said log) a b
said-range log a b = sym (ap (take (b - a)) (drop-map content_in a log) ∙ take-map content_in (b - a) (drop a log))

pub short-range : (shape : Shape) (log : List GivenSaid) (a b : ℕ) → IsListedLog shape log
    → All (λ (one : GivenSaid). length one.content.now < 2 ^ 32) (slice_range log a b)
short-range shape log a b is =
    let P : GivenSaid → Type 0 = λ one. length one.content.now < 2 ^ 32 in
    All-take P (b - a) (drop a log) (All-drop P a log (λ k d lt. (is.stand k d lt).readable.short))

-- the view of a stage more
pub next-view : (shape : Shape) (log : List GivenSaid) (stage : ℕ)
    → hash_of View (view_of shape (contents_said log) stage ∷ contents_said
    (slice_range log (slots_before shape stage) (slots_before shape (stage + 1)))) ≡ view_of shape (contents_said log) (stage + 1)
next-view shape log stage =
    ap (λ (said : List (List ℕ)). hash_of View (view_of shape (contents_said log) stage ∷ said))
    (said-range log (slots_before shape stage) (slots_before shape (stage + 1)))
    ∙ sym (ap (view_of shape (contents_said log)) (add-one stage))

-- one post more of a stage
pub said-next : (posts : List GivenSaid) (i : ℕ) (d : GivenSaid) → i < length posts
    → contents_said (take (i + 1) posts) ≡ contents_said (take i posts) ++ (get_or posts i d).content.now ∷ []
said-next posts i d lt = ap contents_said (take_more posts i d lt) ∙ map_push content_in (take i posts) (get_or posts i d)

-- ---- values by member

-- one value more
pub member-next : {A : Type 0} (f : ℕ → A) (sender : ℕ) (list : List A) (x : A) → 1 ≤ sender → list ≡ map f (range_with_len 1 (sender - 1))
    → x ≡ f sender
    → list ++ x ∷ [] ≡ map f (range_with_len 1 (sender + 1 - 1))
member-next {A} f sender list x least so_far is =
    let place : sender + 1 - 1 ≡ (sender - 1) + 1 = omega arith in
    ap (λ (front : List A). front ++ x ∷ []) so_far
    ∙ ap (λ (last : A). map f (range_with_len 1 (sender - 1)) ++ last ∷ []) is
    ∙ sym (map-range_with_len_more f 1 (sender - 1) sender (omega arith))
    ∙ ap (λ (k : ℕ). map f (range_with_len 1 k)) (sym place)

-- whether all pass a test
all-pass : {A : Type 0} (p : A → Bool) (f : ℕ → A) (a n : ℕ) → ((k : ℕ) → a ≤ k → k < a + n → p (f k) ≡ true)
    → list_all p (map f (range_with_len a n)) ≡ true
all-pass {A} p f a zero each = refl
all-pass {A} p f a (suc n) each = rw (each a (omega arith) (omega arith))
    (all-pass p f (a + 1) n (λ k least lt. each k (omega arith) (omega arith)))

some-fails : {A : Type 0} (p : A → Bool) (x : A) (xs : List A) → (p x ≡ false) ⊎ (list_all p xs ≡ false) → list_all p (x ∷ xs) ≡ false
some-fails {A} p x xs fails = by_test (p x) (list_all p xs) fails
  where
    by_test : (b all : Bool) → (b ≡ false) ⊎ (all ≡ false) → (b && all) ≡ false
    by_test false all fails = refl
    by_test true false fails = refl
    by_test true true (inl e) = absurd cc
    by_test true true (inr e) = absurd cc

one-fails : {A : Type 0} (p : A → Bool) (f : ℕ → A) (a n k : ℕ) → a ≤ k → k < a + n → p (f k) ≡ false
    → list_all p (map f (range_with_len a n)) ≡ false
one-fails {A} p f a zero k least lt e = absurd (omega arith)
one-fails {A} p f a (suc n) k least lt e = some-fails p (f a) (map f (range_with_len (a + 1) n)) (elim (cases_lt a k) [
  | inl later ↦ inr (one-fails p f (a + 1) n k (omega arith) (omega arith) e)
  | inr here ↦ inl (let same : a ≡ k = omega arith in ap (λ (m : ℕ). p (f m)) same ∙ e)
])

-- whether all members revealed
pub all-revealed : (shape : Shape) (past : List (List ℕ))
    → ((k : ℕ) → 1 ≤ k → k < 1 + shape.members → is_reveal (said_in shape past (final_stage shape 1) k) ≡ true)
    → are_revealed shape past ≡ true
all-revealed shape past each = all-pass is_reveal (said_in shape past (final_stage shape 1)) 1 shape.members each

pub one-hides : (shape : Shape) (past : List (List ℕ)) (k : ℕ) → 1 ≤ k → k ≤ shape.members
    → is_reveal (said_in shape past (final_stage shape 1) k) ≡ false → are_revealed shape past ≡ false
one-hides shape past k least most e = one-fails is_reveal (said_in shape past (final_stage shape 1)) 1 shape.members k least (omega arith) e

-- ---- the last list

pub list-said : (shape : Shape) (past : List (List ℕ)) (turn : ℕ) → 1 ≤ turn
    → list_of (said_in shape past (submit_stage shape 1 + turn) turn) ≡ list_said shape past 1 turn
list-said shape past zero least = absurd (omega arith)
list-said shape past (suc turn) least = refl

-- what a turn's body gives is that list
pub last-list : (shape : Shape) (past : List (List ℕ)) (body : Body) (found : Option (List (List ℕ))) → 1 ≤ shape.members
    → body ≡ said_in shape past (shape.members + 1) shape.members → found ≡ list_of body
    → found ≡ list_said shape past 1 shape.members
last-list shape past body found least is e =
    let at : shape.members + 1 ≡ 1 + shape.members = omega arith in
    e ∙ ap list_of (is ∙ ap (λ (t : ℕ). said_in shape past t shape.members) at) ∙ list-said shape past shape.members least

pub list-entries : (shape : Shape) (body : Body) (found : Option (List (List ℕ))) → IsShape shape.version shape.members
    → IsBody shape (shape.members + 1) body → found ≡ list_of body → IfSome found (AreEntries shape)
list-entries shape body None is said e = tt
list-entries shape body (Some list) is said e = last-entries shape (shape.members + 1) body list is refl said (sym e)

-- ---- the seeds

-- the members before a sender revealed their seeds, which are these
pub record RevealedSoFar (shape : Shape) (past : List (List ℕ)) (sender : ℕ) (list : List (List ℕ)) : Type 0 where
  pub each : (k : ℕ) → 1 ≤ k → k < sender → is_reveal (said_in shape past (final_stage shape 1) k) ≡ true
  pub seeds : list ≡ map (λ member. seed_in (said_in shape past (final_stage shape 1) member)) (range_with_len 1 (sender - 1))

final-is : (shape : Shape) → shape.members + 3 ≡ final_stage shape 1
final-is shape = omega arith

said-final : (shape : Shape) (past : List (List ℕ)) (sender : ℕ) (body : Body) → body ≡ said_in shape past (shape.members + 3) sender
    → body ≡ said_in shape past (final_stage shape 1) sender
said-final shape past sender body is = is ∙ ap (λ (t : ℕ). said_in shape past t sender) (final-is shape)

pub revealed-none : (shape : Shape) (past : List (List ℕ)) (seeds : List (List ℕ)) → seeds ≡ [] → RevealedSoFar shape past 1 seeds
revealed-none shape past seeds e = record { each = λ k least lt. absurd (omega arith); seeds = e }

pub revealed-not : (shape : Shape) (past : List (List ℕ)) (sender : ℕ) (body : Body) → 1 ≤ sender → sender ≤ shape.members
    → body ≡ said_in shape past (shape.members + 3) sender → is_reveal body ≡ false → are_revealed shape past ≡ false
revealed-not shape past sender body least most is other = one-hides shape past sender least most
    (ap is_reveal (sym (said-final shape past sender body is)) ∙ other)

pub revealed-next : (shape : Shape) (past : List (List ℕ)) (sender : ℕ) (seeds more : List (List ℕ)) (body : Body) (seed : List ℕ)
    → 1 ≤ sender
    → RevealedSoFar shape past sender seeds → body ≡ said_in shape past (shape.members + 3) sender
    → (is_reveal body ≡ true) × (seed ≡ seed_in body) → more ≡ seeds ++ seed ∷ [] → RevealedSoFar shape past (sender + 1) more
revealed-next shape past sender seeds more body seed least so is tells pushed =
    let said = said-final shape past sender body is in
    record {
      each = λ k low lt. elim (cases_lt k sender) [
        | inl before ↦ so.each k low before
        | inr now ↦ (let same : sender ≡ k = omega arith in ap (λ (m : ℕ). is_reveal (said_in shape past (final_stage shape 1) m))
            (sym same) ∙ ap
            is_reveal (sym said) ∙ tells.0)
      ];
      seeds = pushed ∙ member-next (λ member. seed_in (said_in shape past (final_stage shape 1) member)) sender seeds seed least so.seeds
          (tells.1 ∙ ap seed_in said);
    }

pub revealed-all : (shape : Shape) (past : List (List ℕ)) (sender : ℕ) (seeds list : List (List ℕ)) → sender ≡ shape.members + 1
    → RevealedSoFar shape past sender seeds → list ≡ seeds → TellsSeeds shape past (Some list)
revealed-all shape past sender seeds list end so is =
    let count : sender - 1 ≡ shape.members = omega arith in (
      all-revealed shape past (λ k least lt. so.each k least (omega arith)),
      is ∙ so.seeds ∙ ap
          (λ (n : ℕ). map (λ member. seed_in (said_in shape past (final_stage shape 1) member)) (range_with_len 1 n)) count,
    )

-- ---- the posts of a stage

pub range-some : (shape : Shape) (log : List GivenSaid) (stage : ℕ) → IsShape shape.version shape.members → IsListedLog shape log
    → stage < pad_stage shape
    → 0 < length (slice_range log (slots_before shape stage) (slots_before shape (stage + 1)))
range-some shape log stage is listed lt =
    let a : ℕ = slots_before shape stage in
    let b : ℕ = slots_before shape (stage + 1) in
    omega (
      arith,
      length-take-le (b - a) (drop a log) (omega (arith, length-drop a log, listed.whole, stage-within shape stage lt)),
      stage-some shape stage is lt,
    )

pub seen-next : (shape : Shape) (log : List GivenSaid) (stage : ℕ) (posts : List GivenSaid) (running : RunningView)
    → posts ≡ slice_range log (slots_before shape stage) (slots_before shape (stage + 1))
    → Carries running (hash_of View (view_of shape (contents_said log) stage ∷ contents_said posts)) [] → Carries running
    (view_of shape (contents_said log) (stage + 1)) []
seen-next shape log stage posts running is carries =
    subst (λ (view : List ℕ). Carries running view [])
    (ap (λ (p : List GivenSaid). hash_of View (view_of shape (contents_said log) stage ∷ contents_said p)) is ∙ next-view shape log stage)
    carries
