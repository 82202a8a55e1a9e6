-- What loops over members and layers keep true.
use Rattle.std.proofs.Common.{◌≡◌, ℕ, ◌+◌, ◌-◌, ◌<◌, ◌≤◌, List, [], ◌∷◌, ◌++◌, length, map, get_or, Bool, true, false, Option, Some, None, inl, inr, sym, ap, ◌∙◌, subst, arith}
use Rattle.std.specs.List.{range_with_len}
use Rattle.std.proofs.lemmas.Bool.{cases_lt}
use Rattle.std.proofs.lemmas.List.{get_or-map, length-map}
use Rattle.std.proofs.lemmas.List.FromFn.{get_or-map-range_with_len, map-range_with_len_more}
use Rattle.wire_core.specs.Answers.{fault_unless}
use Rattle.wire_core.proofs.AnswerLemmas.{fault_unless-false, fault_unless-true, first_below-none, first_below-some}
use Rattle.stage_log.specs.Table.{Log}
use Rattle.shuffle_blame.specs.declared.ended.Ended.{Ended}
use Rattle.shuffle_blame.specs.declared.fault.Fault.{Fault}
use Rattle.shuffle_blame.specs.declared.fault.Shown.{Shown}
use Rattle.shuffle_blame.specs.declared.parts.Part.{Part}
use Rattle.shuffle_blame.specs.Rules.{inquiry_at, shown_by}
use Rattle.shuffle_blame.specs.Replay.{Inquiry, first_member, outer_opening, outer_seed, outer_seeds, submission, submissions}
use Rattle.shuffle_blame.specs.Laws.{IsMember}

-- ---- members

pub first_member-none : (q : Inquiry) (fault_at : ℕ → Option Fault)
    → ((member : ℕ) → 1 ≤ member → member ≤ q.shape.members → fault_at member ≡ None) → first_member q fault_at ≡ None
first_member-none q fault_at each = first_below-none (λ place. fault_at (place + 1)) q.shape.members
    (λ k lt. each (k + 1) (omega arith) (omega arith))

pub first_member-some : (q : Inquiry) (fault_at : ℕ → Option Fault) (member : ℕ) (x : Fault) → IsMember q member
    → ((earlier : ℕ) → 1 ≤ earlier → earlier < member → fault_at earlier ≡ None) → fault_at member ≡ Some x
    → first_member q fault_at ≡ Some x
first_member-some q fault_at member x is before here =
    let least = is.least in
    let most = is.most in
    let same : member ≡ (member - 1) + 1 = omega arith in
    first_below-some (λ place. fault_at (place + 1)) q.shape.members (member - 1) x (omega arith)
    (λ j lt. before (j + 1) (omega arith) (omega arith))
    (subst (λ (k : ℕ). fault_at k ≡ Some x) same here)

-- a test of each member in turn
pub all_pass : (q : Inquiry) (test : ℕ → Bool) (at : ℕ → Fault)
    → ((member : ℕ) → 1 ≤ member → member ≤ q.shape.members → test member ≡ true)
    → first_member q (λ member. fault_unless (test member) (at member)) ≡ None
all_pass q test at each =
    first_member-none q (λ member. fault_unless (test member) (at member))
    (λ member least most. fault_unless-true (test member) (at member) (each member least most))

pub one_fails : (q : Inquiry) (test : ℕ → Bool) (at : ℕ → Fault) (member : ℕ) → IsMember q member
    → ((earlier : ℕ) → 1 ≤ earlier → earlier < member → test earlier ≡ true) → test member ≡ false
    → first_member q (λ member. fault_unless (test member) (at member)) ≡ Some (at member)
one_fails q test at member is before fails =
    first_member-some q (λ member. fault_unless (test member) (at member)) member (at member) is
    (λ earlier least lt. fault_unless-true (test earlier) (at earlier) (before earlier least lt))
    (fault_unless-false (test member) (at member) fails)

-- ---- what members show and said

-- the outer opening of a member, and its outer seed, stand at its place
pub part-opening : (log : Log) (ended : Ended) (parts : List Part) (member place : ℕ) (part : Part) → place ≡ member - 1
    → place < length parts → part ≡ get_or parts place part
    → outer_opening (inquiry_at log ended parts) member ≡ part.shown.outer_opening
part-opening log ended parts member place part at lt here =
    ap (λ (k : ℕ). get_or (map (λ (s : Shown). s.outer_opening) (shown_by parts)) k []) (sym at)
    ∙ get_or-map (λ (s : Shown). s.outer_opening) (shown_by parts) place part.shown []
    (omega (arith, length-map parts (λ (part : Part). part.shown)))
    ∙ ap (λ (s : Shown). s.outer_opening) (get_or-map (λ (part : Part). part.shown) parts place part part.shown lt)
    ∙ ap (λ (part : Part). part.shown.outer_opening) (sym here)

pub part-seed : (log : Log) (ended : Ended) (parts : List Part) (member place : ℕ) (part : Part) → place ≡ member - 1 → place < length parts
    → part ≡ get_or parts place part
    → part.key ≡ outer_seed (inquiry_at log ended parts) member
part-seed log ended parts member place part at lt here =
    part.same
    ∙ ap (λ (part : Part). part.shown.outer_seed) here
    ∙ ap (λ (s : Shown). s.outer_seed) (sym (get_or-map (λ (part : Part). part.shown) parts place part part.shown lt))
    ∙ sym (get_or-map (λ (s : Shown). s.outer_seed) (shown_by parts) place part.shown []
    (omega (arith, length-map parts (λ (part : Part). part.shown))))
    ∙ ap (λ (k : ℕ). get_or (outer_seeds (inquiry_at log ended parts)) k []) at

pub submissions-next : (q : Inquiry) (sender : ℕ) (list : List (List ℕ)) (bytes : List ℕ) → 1 ≤ sender
    → list ≡ map (submission q) (range_with_len 1 (sender - 1)) → bytes ≡ submission q sender
    → list ++ bytes ∷ [] ≡ map (submission q) (range_with_len 1 (sender + 1 - 1))
submissions-next q sender list bytes least so_far is =
    let place : sender + 1 - 1 ≡ (sender - 1) + 1 = omega arith in
    ap (λ (front : List (List ℕ)). front ++ bytes ∷ []) so_far
    ∙ ap (λ (last : List ℕ). map (submission q) (range_with_len 1 (sender - 1)) ++ last ∷ []) is
    ∙ sym (map-range_with_len_more (submission q) 1 (sender - 1) sender (omega arith))
    ∙ ap (λ (k : ℕ). map (submission q) (range_with_len 1 k)) (sym place)

pub submission-at : (q : Inquiry) (member : ℕ) (d : List ℕ) → 1 ≤ member → member ≤ q.shape.members
    → get_or (submissions q) (member - 1) d ≡ submission q member
submission-at q member d least most = get_or-map-range_with_len (submission q) 1 q.shape.members (member - 1) member d (omega arith)
    (omega arith)

-- what holds below a number and at it
pub up_to : (P : ℕ → Type 0) (n : ℕ) → ((k : ℕ) → 1 ≤ k → k < n → P k) → P n → (k : ℕ) → 1 ≤ k → k < n + 1 → P k
up_to P n below here k least lt = elim (cases_lt k n) [
  | inl before ↦ below k least before
  | inr now ↦ subst P
      (let same : n ≡ k = omega arith in same) here
]
