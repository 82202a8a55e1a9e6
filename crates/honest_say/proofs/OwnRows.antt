-- A member's own rows, by the values that a call is given.
use Rattle.std.proofs.Common.{◌≡◌, ℕ, zero, suc, ◌+◌, ◌-◌, ◌≤◌, List, [], ◌∷◌, map, Option, Some, None, refl, ap, sym, ◌∙◌, arith}
use Rattle.phase_message.specs.declared.content.Body.TheVariants.{Abort, Keys}
use Rattle.phase_message.specs.Shape.{Shape}
use Rattle.phase_message.specs.Stages.{shape_of}
use Rattle.shuffle_core.specs.Shuffle.{turn_of}
use Rattle.bulk_descriptor.specs.Descriptor.{own_pad, pad_row}
use Rattle.shuffle_blame.specs.Replay.{list_of, outer_place}
use Rattle.round_spec.specs.Slots.{list_said, said_in, submit_stage}
use Rattle.round_spec.specs.Say.{Configuration, own_key_seed, own_pad_seeds, pad_for, shape_in, turn_over, turn_row}
use Rattle.honest_say.specs.declared.seat.Seat.{Seat}
use Rattle.honest_say.specs.declared.secrets.BulkSecrets.{BulkSecrets}
use Rattle.honest_say.specs.declared.secrets.ShuffleSecrets.{ShuffleSecrets}
use Rattle.honest_say.specs.Own.{AreBulkSecrets, AreShuffleSecrets}
use Rattle.honest_say.specs.Rows.{pad_sent_for}
use Rattle.honest_say.specs.Seats.{IsSeatOf}

-- ---- lists

-- the list after a turn is the one that it says
pub list-said : (shape : Shape) (past : List (List ℕ)) (shuffle turn : ℕ) → 1 ≤ turn
    → list_of (said_in shape past (submit_stage shape shuffle + turn) turn) ≡ list_said shape past shuffle turn
list-said shape past shuffle zero least = absurd (omega arith)
list-said shape past shuffle (suc turn) least = refl

-- ---- keys

pub five-keys : (a b c d e v w x y z : List ℕ) → a ≡ v → b ≡ w → c ≡ x → d ≡ y → e ≡ z
    → Keys (a ∷ b ∷ c ∷ d ∷ e ∷ []) ≡ Keys (v ∷ w ∷ x ∷ y ∷ z ∷ [])
five-keys a b c d e v w x y z is_a is_b is_c is_d is_e = cc

-- ---- turns

members-of : (c : Configuration) (seat : Seat) → IsSeatOf c seat → seat.shape.members ≡ (shape_in c).members
members-of c seat is = ap (λ (s : Shape). s.members) is.shape

list-of : (c : Configuration) (seat : Seat) (past : List (List ℕ)) (shuffle : ℕ) → IsSeatOf c seat
    → list_said (shape_of seat.shape) past shuffle (seat.number - 1) ≡ list_said (shape_in c) past shuffle (c.number - 1)
list-of c seat past shuffle is =
    ap (λ (s : Shape). list_said s past shuffle (seat.number - 1)) is.shape
    ∙ ap (λ (n : ℕ). list_said (shape_in c) past shuffle (n - 1)) is.number

pub turn-aborts : (c : Configuration) (seat : Seat) (past : List (List ℕ)) (shuffle : ℕ) → IsSeatOf c seat
    → list_said (shape_of seat.shape) past shuffle (seat.number - 1) ≡ None → Abort ≡ turn_row c past shuffle
unfolding turn_row
turn-aborts c seat past shuffle is none = ap (turn_over c shuffle) (sym none ∙ list-of c seat past shuffle is)

pub turn-says : (c : Configuration) (seat : Seat) (secrets : ShuffleSecrets) (past entries : List (List ℕ)) (shuffle : ℕ) → IsSeatOf c seat
    → AreShuffleSecrets c shuffle secrets
    → list_said (shape_of seat.shape) past shuffle (seat.number - 1) ≡ Some entries
    → turn_of secrets.outer secrets.order_seed entries ≡ turn_row c past shuffle
unfolding turn_row
turn-says c seat secrets past entries shuffle is own some =
    ap (λ (seed : List ℕ). turn_of seed secrets.order_seed entries) own.outer
    ∙ ap (λ (seed : List ℕ). turn_of (own_key_seed c (outer_place shuffle)) seed entries) own.order
    ∙ ap (turn_over c shuffle) (sym some ∙ list-of c seat past shuffle is)

-- ---- pads

pub pad-own : (c : Configuration) (seat : Seat) (secrets : BulkSecrets) (own kept : List ℕ) (entry : Option (List ℕ)) → IsSeatOf c seat
    → AreBulkSecrets c secrets
    → kept ≡ own_pad (own_pad_seeds c) c.number c.message → pad_sent_for seat.shape.members own kept seat.number secrets.key entry ≡ pad_for
    c own entry
pad-own c seat secrets own kept None is bulk pad = refl
pad-own c seat secrets own kept (Some entry) is bulk pad =
    ap (λ (n : ℕ). pad_row n own kept seat.number secrets.key entry) (members-of c seat is)
    ∙ ap (λ (k : List ℕ). pad_row (shape_in c).members own k seat.number secrets.key entry) pad
    ∙ ap (λ (n : ℕ). pad_row (shape_in c).members own (own_pad (own_pad_seeds c) c.number c.message) n secrets.key entry) is.number
    ∙ ap (λ (seed : List ℕ). pad_row (shape_in c).members own (own_pad (own_pad_seeds c) c.number c.message) c.number seed entry) bulk.key

map-same : {A B : Type 0} (f g : A → B) (xs : List A) → ((x : A) → f x ≡ g x) → map f xs ≡ map g xs
map-same {A} {B} f g [] each = refl
map-same {A} {B} f g (x ∷ xs) each = ap (λ (y : B). y ∷ map f xs) (each x) ∙ ap (λ (ys : List B). g x ∷ ys) (map-same f g xs each)

pub pads-own : (c : Configuration) (seat : Seat) (secrets : BulkSecrets) (own kept : List ℕ) (opened : List (Option (List ℕ)))
    → IsSeatOf c seat → AreBulkSecrets c secrets
    → kept ≡ own_pad (own_pad_seeds c) c.number c.message
    → map (pad_sent_for seat.shape.members own kept seat.number secrets.key) opened ≡ map (pad_for c own) opened
pads-own c seat secrets own kept opened is bulk pad =
    map-same (pad_sent_for seat.shape.members own kept seat.number secrets.key) (pad_for c own) opened
    (λ entry. pad-own c seat secrets own kept entry is bulk pad)
