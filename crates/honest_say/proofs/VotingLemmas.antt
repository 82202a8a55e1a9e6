-- The turns before a vote on a shuffle, one by one and as a list.
use Rattle.std.proofs.Common.{◌≡◌, ℕ, zero, suc, ◌+◌, ◌-◌, ◌<◌, ◌≤◌, List, [], ◌∷◌, length, map, drop, Bool, true, false, Option, Some, None, get_or, inl, inr, refl, ap, sym, ◌∙◌, subst, arith}
use Rattle.std.specs.Prelude.{Result, Ok, Err, IsSome, is_none, ◌==◌}
use Rattle.std.specs.List.{slice_get}
use Rattle.std.specs.Option.{option_map}
use Rattle.std.proofs.lemmas.List.{get_or-append-add, length-drop, length-map, length-take}
use Rattle.std.proofs.lemmas.Option.{slice_get-map}
use Rattle.phase_message.specs.declared.content.Body.{Body}
use Rattle.phase_message.specs.declared.content.Body.TheVariants.{Keys, Submit, Shuffled, Abort, Go, Reveal, Dispute, Pads, Check, Confirm, Differ}
use Rattle.phase_message.specs.declared.content.Content.{Content}
use Rattle.phase_message.specs.declared.offence.Offence.{Offence}
use Rattle.phase_message.specs.declared.stage.StageKind.{StageKind}
use Rattle.phase_message.specs.declared.post.Post.{Post}
use Rattle.phase_message.specs.declared.stage.Slot.{Slot}
use Rattle.phase_message.specs.declared.stage.StageKind.TheVariants.{Keys as AtKeys, Submit as AtSubmit, Shuffle, Go as AtGo, Final as AtFinal, Pad as AtPad, Check as AtCheck, Confirm as AtConfirm}
use Rattle.phase_message.specs.Grammar.{IsBody, OfGrammar, body_text, content_text, header_text, kind_number}
use Rattle.phase_message.specs.Offence.{content_read}
use Rattle.phase_message.specs.Shape.{Shape}
use Rattle.phase_message.specs.Slots.{place_in, slot_number, slots_before}
use Rattle.phase_message.specs.Stages.{kind_of_stage}
use Rattle.phase_message.proofs.Counts.{slots_next}
use Rattle.phase_message.proofs.Whole.{content-is_read, length-header_text}
use Rattle.stage_log.specs.Log.{all_some, before}
use Rattle.stage_log.specs.Table.{IsLog, Log, kept_in}
use Rattle.stage_log.proofs.Pasts.{all_some-is}
use Rattle.stage_log.proofs.Views.{slice_get-take}
use Rattle.go_nogo.specs.Rows.{list_in, list_read, lists_before, stands_in, stands_last, turns_before}
use Rattle.go_nogo.specs.Stands.{StandAll, StandsIn}
use Rattle.go_nogo.proofs.VoteSlots.{get_drop}
use Rattle.shuffle_blame.specs.Asked.{past_of}
use Rattle.shuffle_blame.specs.Replay.{body_of, list_of}
use Rattle.shuffle_blame.specs.Rules.{body_kept, body_of_post}
use Rattle.round_spec.specs.Slots.{final_stage, list_said, said_in, submit_stage}
use Rattle.honest_say.specs.Pasts.{posts_before}
use Rattle.honest_say.specs.Rows.{IsTurn}
use Rattle.honest_say.proofs.BodyForms.{IsTurnBody, turn-form}
use Rattle.honest_say.proofs.OwnRows.{list-said}
use Rattle.honest_say.proofs.PastLemmas.{complete-posts, kept-said, past-length}
use Rattle.honest_say.proofs.StageLemmas.{turn-kind, turn-slot}

-- ---- a list in which some value is missing or none

there-or : {A : Type 0} (xs : List A) (i : ℕ) (d : A) → i < length xs → slice_get xs i ≡ Some (get_or xs i d)
there-or [] i d lt = absurd (omega arith)
there-or (x ∷ xs) zero d lt = refl
there-or (x ∷ xs) (suc i) d lt = there-or xs i d (omega arith)

pub all-there : {A : Type 0} (xs : List (Option A)) → ((i : ℕ) → i < length xs → (x : A) × (slice_get xs i ≡ Some (Some x)))
    → is_none (all_some xs) ≡ false
all-there {A} [] each = refl
all-there {A} (None ∷ xs) each = let first = each 0 (omega arith) in absurd (let e = first.1 in cc)
all-there {A} (Some x ∷ xs) each = still (all_some xs) (all-there xs (λ i lt. each (suc i) (omega arith)))
  where
    still : (o : Option (List A)) → is_none o ≡ false → is_none (option_map (λ (ys : List A). x ∷ ys) o) ≡ false
    still None e = absurd cc
    still (Some ys) e = refl

pub one-missing : {A : Type 0} (xs : List (Option A)) (i : ℕ) → slice_get xs i ≡ Some None → is_none (all_some xs) ≡ true
one-missing {A} [] i e = absurd cc
one-missing {A} (None ∷ xs) i e = refl
one-missing {A} (Some x ∷ xs) zero e = absurd cc
one-missing {A} (Some x ∷ xs) (suc i) e = still (all_some xs) (one-missing xs i e)
  where
    still : (o : Option (List A)) → is_none o ≡ true → is_none (option_map (λ (ys : List A). x ∷ ys) o) ≡ true
    still None e = refl
    still (Some ys) e = absurd cc

-- ---- the list of a turn

same_list : (body : Body) → list_in body ≡ list_of body
same_list (Shuffled list) = refl
same_list (Keys keys) = refl
same_list (Submit ciphertext) = refl
same_list Abort = refl
same_list (Go flag) = refl
same_list (Reveal votes seed) = refl
same_list (Dispute posts seed opening) = refl
same_list (Pads pads) = refl
same_list (Check flag) = refl
same_list (Confirm votes) = refl
same_list (Differ posts) = refl

read_list : (r : Result Content Offence) → list_read r ≡ list_of (body_of r)
read_list (Ok content) = same_list content.body
read_list (Err offence) = refl

-- ---- numbers of the turns' slots

turns-count : (shape : Shape) (shuffle j : ℕ) → 1 ≤ shuffle → shuffle ≤ 2 → j ≤ shape.members
    → slots_before shape (submit_stage shape shuffle + 1 + j) ≡ slots_before shape (submit_stage shape shuffle + 1) + j
turns-count shape shuffle zero first last le =
    let same : submit_stage shape shuffle + 1 + 0 ≡ submit_stage shape shuffle + 1 = omega arith in
    let here = ap (slots_before shape) same in
    omega (arith, here)
turns-count shape shuffle (suc j) first last le =
    let s : ℕ = submit_stage shape shuffle in
    let next = slots_next shape (s + suc j) (Shuffle shuffle (suc j)) (turn-kind shape shuffle (suc j) first last (omega arith) le) in
    let before : slots_before shape (s + suc j) ≡ slots_before shape (s + 1 + j) = ap (slots_before shape)
    (let e : s + suc j ≡ s + 1 + j = omega arith in e) in
    let behind : slots_before shape (s + 1 + suc j) ≡ slots_before shape (s + suc j + 1) = ap (slots_before shape)
    (let e : s + 1 + suc j ≡ s + suc j + 1 = omega arith in e) in
    let so_far = turns-count shape shuffle j first last (omega arith) in
    omega (arith, next, before, behind, so_far)

turn-number : (shape : Shape) (shuffle turn : ℕ) → 1 ≤ shuffle → shuffle ≤ 2 → 1 ≤ turn → turn ≤ shape.members
    → slot_number shape (submit_stage shape shuffle + turn) turn ≡ slots_before shape (submit_stage shape shuffle + 1) + (turn - 1)
turn-number shape shuffle turn first last least most =
    let s : ℕ = submit_stage shape shuffle in
    let count = turns-count shape shuffle (turn - 1) first last (omega arith) in
    let at : slots_before shape (s + turn) ≡ slots_before shape (s + 1 + (turn - 1)) = ap (slots_before shape)
    (let e : s + turn ≡ s + 1 + (turn - 1) = omega arith in e) in
    let place : place_in (kind_of_stage shape (s + turn)) turn ≡ 0 = ap (λ (o : Option StageKind). place_in o turn)
    (turn-kind shape shuffle turn first last least most) in
    omega (arith, count, at, place)

go-count : (shape : Shape) (shuffle : ℕ) → 1 ≤ shuffle → shuffle ≤ 2
    → slots_before shape (final_stage shape shuffle - 1) ≡ slots_before shape (submit_stage shape shuffle + 1) + shape.members
go-count shape shuffle first last =
    let s : ℕ = submit_stage shape shuffle in
    let count = turns-count shape shuffle shape.members first last (omega arith) in
    let at : slots_before shape (final_stage shape shuffle - 1) ≡ slots_before shape (s + 1 + shape.members) = ap (slots_before shape)
    (let e : final_stage shape shuffle - 1 ≡ s + 1 + shape.members = omega arith in e) in
    at ∙ count

-- the lists that are read of them
abbrev pub turns_read : Shape → List (List ℕ) → ℕ → List (Option (List (List ℕ)))
turns_read shape past shuffle = map (λ turn. list_read (content_read shape turn)) (turns_before shape past (final_stage shape shuffle - 1))

pub turns-length : (shape : Shape) (past : List (List ℕ)) (shuffle : ℕ) → 1 ≤ shuffle → shuffle ≤ 2
    → slots_before shape (final_stage shape shuffle - 1) ≤ length past
    → length (turns_read shape past shuffle) ≡ shape.members
turns-length shape past shuffle first last long =
    let b : ℕ = slots_before shape (final_stage shape shuffle - 1) in
    let a : ℕ = b - shape.members in
    let count = go-count shape shuffle first last in
    let mapped = length-map (turns_before shape past (final_stage shape shuffle - 1)) (λ turn. list_read (content_read shape turn)) in
    let dropped = length-drop a past in
    let taken = length-take (b - a) (drop a past) in
    omega (arith, count, mapped, dropped, taken)

pub turn-read : (shape : Shape) (past : List (List ℕ)) (shuffle turn : ℕ) → 1 ≤ shuffle → shuffle ≤ 2
    → slots_before shape (final_stage shape shuffle - 1) ≤ length past → 1 ≤ turn → turn ≤ shape.members
    → slice_get (turns_read shape past shuffle) (turn - 1) ≡ Some (list_of (said_in shape past (submit_stage shape shuffle + turn) turn))
unfolding said_in
turn-read shape past shuffle turn first last long least most =
    let b : ℕ = slots_before shape (final_stage shape shuffle - 1) in
    let a : ℕ = b - shape.members in
    let f : List ℕ → Option (List (List ℕ)) = λ bytes. list_read (content_read shape bytes) in
    let count = go-count shape shuffle first last in
    let number : a + (turn - 1) ≡ slot_number shape (submit_stage shape shuffle + turn) turn = omega
    (arith, count, turn-number shape shuffle turn first last least most) in
    let within : turn - 1 < b - a = omega (arith, count) in
    slice_get-map f (turns_before shape past (final_stage shape shuffle - 1)) (turn - 1)
    ∙ ap (option_map f) (slice_get-take (drop a past) (b - a) (turn - 1) within ∙ get_drop past a (turn - 1)
    ∙ there-or past (a + (turn - 1)) [] (omega (arith, count)))
    ∙ ap (λ (k : ℕ). Some (f (get_or past k []))) number
    ∙ ap (λ (o : Option (List (List ℕ))). Some o) (read_list (content_read shape
    (get_or past (slot_number shape (submit_stage shape shuffle + turn) turn) [])))

-- ---- the last list

pub last-stands : (shape : Shape) (inner : List ℕ) (xs : List (Option (List (List ℕ)))) (last : Option (List (List ℕ)))
    → is_none (all_some xs) ≡ false
    → slice_get xs (shape.members - 1) ≡ Some last → stands_last shape inner (all_some xs) ≡ stands_in inner last
last-stands shape inner xs last full e = by_all (all_some xs) refl full
  where
    flat : (o : Option (List (List ℕ))) → option_map (λ (l : List (List ℕ)). Some l) o ≡ Some last
        → stands_in inner o ≡ stands_in inner last
    flat None e = absurd cc
    flat (Some l) e = let same : Some l ≡ last = cc in ap (stands_in inner) same

    by_all : (o : Option (List (List (List ℕ)))) → all_some xs ≡ o → is_none o ≡ false → stands_last shape inner o ≡ stands_in inner last
    by_all None all full = absurd cc
    by_all (Some lists) all full =
        flat (slice_get lists (shape.members - 1))
        (sym (slice_get-map (λ (l : List (List ℕ)). Some l) lists (shape.members - 1))
        ∙ ap (λ (t : List (Option (List (List ℕ)))). slice_get t (shape.members - 1)) (sym (all_some-is xs lists all)) ∙ e)

-- ---- a turn by the byte of its kind

pub kind-byte : (shape : Shape) (c : Content) → OfGrammar shape c → get_or (content_text c) 75 0 ≡ kind_number c.body
kind-byte shape c grammar =
    let long = length-header_text shape c.header grammar.0 in
    let at : 75 ≡ length (header_text c.header) + 0 = omega (arith, long) in
    ap (λ (k : ℕ). get_or (content_text c) k 0) at ∙ get_or-append-add (header_text c.header) (kind_number c.body ∷ body_text c.body) 0 0

abort_byte : (shape : Shape) (body : Body) → IsTurnBody shape body → (kind_number body == 4) ≡ is_none (list_of body)
abort_byte shape body (inl e) = ap (λ (b : Body). kind_number b == 4) e ∙ sym (ap (λ (b : Body). is_none (list_of b)) e)
abort_byte shape body (inr said) = ap (λ (b : Body). kind_number b == 4) said.1 ∙ sym (ap (λ (b : Body). is_none (list_of b)) said.1)

record TurnOf (o : Option StageKind) : Type 0 where
  shuffle : ℕ
  k : ℕ
  is : o ≡ Some (Shuffle shuffle k)

turn-at : (o : Option StageKind) → IsTurn o → TurnOf o
turn-at (Some (Shuffle shuffle k)) is = record { shuffle = shuffle; k = k; is = refl }
turn-at None is = absurd is
turn-at (Some AtKeys) is = absurd is
turn-at (Some (AtSubmit shuffle)) is = absurd is
turn-at (Some (AtGo shuffle)) is = absurd is
turn-at (Some (AtFinal shuffle)) is = absurd is
turn-at (Some AtPad) is = absurd is
turn-at (Some AtCheck) is = absurd is
turn-at (Some AtConfirm) is = absurd is

-- whether the content that a log keeps of a turn is Abort
pub abort-kept : (log : Log) (slot : Slot) (post : Post) → kept_in log slot ≡ Some post → StandAll log
    → IsTurn (kind_of_stage log.shape slot.stage)
    → (get_or post.content 75 0 == 4) ≡ is_none (list_of (body_kept log slot))
abort-kept log slot post kept stand is =
    let stands : StandsIn log.shape slot post.content = stand slot.stage slot.sender post kept in
    let turn = turn-at (kind_of_stage log.shape slot.stage) is in
    let read = ap (content_read log.shape) stands.spelled ∙ content-is_read log.shape stands.said stands.grammar in
    let body = subst (λ (t : ℕ). IsBody log.shape t stands.said.body) stands.stage_is stands.grammar.1 in
    let form = turn-form log.shape slot.stage turn.shuffle turn.k stands.said.body turn.is body in
    ap (λ (bytes : List ℕ). get_or bytes 75 0 == 4) stands.spelled
    ∙ ap (λ (k : ℕ). k == 4) (kind-byte log.shape stands.said stands.grammar)
    ∙ abort_byte log.shape stands.said.body form
    ∙ ap (λ (b : Body). is_none (list_of b)) (sym (ap (body_of_post log.shape) kept ∙ ap body_of read))

-- ---- the turns of a log

-- the slot of a turn
abbrev pub turn_slot : Shape → ℕ → ℕ → Slot
turn_slot shape shuffle turn = record { stage = submit_stage shape shuffle + turn; sender = turn }

-- whether what a log keeps of a turn is Abort
abbrev pub is_aborted : Log → ℕ → ℕ → Bool
is_aborted log shuffle turn = is_none (list_of (body_kept log (turn_slot log.shape shuffle turn)))

-- what was said before the votes of a shuffle
abbrev pub voted_on : Log → ℕ → List (List ℕ)
voted_on log shuffle = past_of log (final_stage log.shape shuffle - 1)

-- all stages before the votes of a shuffle are there
pub record IsVotedOn (log : Log) (shuffle : ℕ) : Type 0 where
  pub is : IsLog log
  pub first : 1 ≤ shuffle
  pub last : shuffle ≤ 2
  pub complete : IsSome (before log (final_stage log.shape shuffle - 1))

past-long : (log : Log) (stage : ℕ) → IsLog log → IsSome (before log stage) → slots_before log.shape stage ≤ length (past_of log stage)
past-long log stage is complete =
    let mapped = length-map (posts_before log stage) (λ (post : Post). post.content) in
    let long = past-length log stage (posts_before log stage) is (complete-posts log stage complete) in
    omega (arith, mapped, long)

turn-kept : (log : Log) (shuffle turn : ℕ) → IsVotedOn log shuffle → 1 ≤ turn → turn ≤ log.shape.members
    → slice_get (turns_read log.shape (voted_on log shuffle) shuffle) (turn - 1) ≡ Some
    (list_of (body_kept log (turn_slot log.shape shuffle turn)))
turn-kept log shuffle turn voted least most =
    let stage : ℕ = final_stage log.shape shuffle - 1 in
    let earlier : submit_stage log.shape shuffle + turn < stage = omega (arith, least, most) in
    turn-read log.shape (past_of log stage) shuffle turn voted.first voted.last (past-long log stage voted.is voted.complete) least most
    ∙ ap (λ (body : Body). Some (list_of body))
    (sym (kept-said log stage (turn_slot log.shape shuffle turn) voted.complete
    (turn-slot log.shape shuffle turn voted.first voted.last least most) earlier))

none-is : {A : Type 0} (o : Option A) → is_none o ≡ true → o ≡ None
none-is None e = refl
none-is (Some x) e = absurd cc

some-is : {A : Type 0} (o : Option A) → is_none o ≡ false → (x : A) × (o ≡ Some x)
some-is None e = absurd cc
some-is (Some x) e = (x, refl)

-- where a turn is Abort, there are not all lists
pub missing-turn : (log : Log) (shuffle turn : ℕ) → IsVotedOn log shuffle → 1 ≤ turn → turn ≤ log.shape.members
    → is_aborted log shuffle turn ≡ true
    → is_none (lists_before log.shape (voted_on log shuffle) (final_stage log.shape shuffle - 1)) ≡ true
missing-turn log shuffle turn voted least most aborted =
    let none = none-is (list_of (body_kept log (turn_slot log.shape shuffle turn))) aborted in
    one-missing (turns_read log.shape (voted_on log shuffle) shuffle) (turn - 1)
    (turn-kept log shuffle turn voted least most ∙ ap (λ (o : Option (List (List ℕ))). Some o) none)

-- where none is, there are
pub no-missing-turn : (log : Log) (shuffle : ℕ) → IsVotedOn log shuffle
    → ((turn : ℕ) → 1 ≤ turn → turn ≤ log.shape.members → is_aborted log shuffle turn ≡ false)
    → is_none (lists_before log.shape (voted_on log shuffle) (final_stage log.shape shuffle - 1)) ≡ false
no-missing-turn log shuffle voted each =
    let stage : ℕ = final_stage log.shape shuffle - 1 in
    let count = turns-length log.shape (past_of log stage) shuffle voted.first voted.last (past-long log stage voted.is voted.complete) in
    all-there (turns_read log.shape (past_of log stage) shuffle) (λ i lt.
    let most : i + 1 ≤ log.shape.members = omega (arith, count, lt) in
    let there = some-is (list_of (body_kept log (turn_slot log.shape shuffle (i + 1)))) (each (i + 1) (omega arith) most) in
    let at : i + 1 - 1 ≡ i = omega arith in (
      there.0,
      ap (slice_get (turns_read log.shape (past_of log stage) shuffle)) (sym at)
          ∙ turn-kept log shuffle (i + 1) voted (omega arith) most ∙ ap (λ (o : Option (List (List ℕ))). Some o) there.1,
    ))

-- and the last of them is that of the last turn
pub last-list : (log : Log) (shuffle : ℕ) (inner : List ℕ) → IsVotedOn log shuffle
    → is_none (lists_before log.shape (voted_on log shuffle) (final_stage log.shape shuffle - 1)) ≡ false
    → stands_last log.shape inner (lists_before log.shape (voted_on log shuffle) (final_stage log.shape shuffle - 1))
    ≡ stands_in inner (list_said log.shape (voted_on log shuffle) shuffle log.shape.members)
last-list log shuffle inner voted full =
    let n : ℕ = log.shape.members in
    let stage : ℕ = final_stage log.shape shuffle - 1 in
    let least : 1 ≤ n = omega (arith, voted.is.shape.least) in
    let read = turn-read log.shape (past_of log stage) shuffle n voted.first voted.last (past-long log stage voted.is voted.complete) least
    (omega arith) in
    last-stands log.shape inner (turns_read log.shape (past_of log stage) shuffle)
    (list_of (said_in log.shape (past_of log stage) (submit_stage log.shape shuffle + n) n)) full read
    ∙ ap (stands_in inner) (list-said log.shape (past_of log stage) shuffle n least)

-- where there are not all lists, nothing stands in the last
pub none-stands : (shape : Shape) (inner : List ℕ) (lists : Option (List (List (List ℕ)))) → is_none lists ≡ true
    → false ≡ stands_last shape inner lists
none-stands shape inner None e = refl
none-stands shape inner (Some lists) e = absurd cc
