-- Lists with a value for each member, as they are made.
use Rattle.std.proofs.Common.{◌≡◌, ℕ, ◌+◌, ◌-◌, ◌≤◌, List, [], ◌∷◌, ◌++◌, length, map, ap, sym, ◌∙◌, arith}
use Rattle.std.specs.List.{range_with_len}
use Rattle.std.specs.Prelude.{slice_index_or}
use Rattle.std.proofs.lemmas.List.FromFn.{length-map-range_with_len, map-range_with_len_more}
use Rattle.std.proofs.lemmas.Simd.{map-map}
use Rattle.phase_message.specs.Shape.{Shape}
use Rattle.shuffle_blame.specs.Replay.{ciphertext_of}
use Rattle.round_spec.specs.Slots.{key_said, keys_in, keys_said, pads_in, said_in}

-- what a member submitted at a stage, and its keys, and its pads
abbrev pub submission_by : Shape → List (List ℕ) → ℕ → ℕ → List ℕ
submission_by shape past stage member = ciphertext_of (said_in shape past stage member)

abbrev pub keys_by : Shape → List (List ℕ) → ℕ → List (List ℕ)
keys_by shape past member = keys_in (said_in shape past 0 member)

abbrev pub pads_by : Shape → List (List ℕ) → ℕ → ℕ → List (List ℕ)
pads_by shape past stage member = pads_in (said_in shape past stage member)

pub member-next : {A : Type 0} (f : ℕ → A) (sender : ℕ) (list : List A) (x : A) → 1 ≤ sender → list ≡ map f (range_with_len 1 (sender - 1))
    → x ≡ f sender
    → list ++ x ∷ [] ≡ map f (range_with_len 1 (sender + 1 - 1))
member-next {A} f sender list x least so_far is =
    let place : sender + 1 - 1 ≡ (sender - 1) + 1 = omega arith in
    ap (λ (front : List A). front ++ x ∷ []) so_far
    ∙ ap (λ (last : A). map f (range_with_len 1 (sender - 1)) ++ last ∷ []) is
    ∙ sym (map-range_with_len_more f 1 (sender - 1) sender (omega arith))
    ∙ ap (λ (k : ℕ). map f (range_with_len 1 k)) (sym place)

-- a column of the rows of keys
pub column-of : (shape : Shape) (past : List (List ℕ)) (rows : List (List (List ℕ))) (place : ℕ)
    → rows ≡ map (keys_by shape past) (range_with_len 1 shape.members)
    → map (λ (row : List (List ℕ)). slice_index_or row place []) rows ≡ keys_said shape past place
column-of shape past rows place e =
    ap (λ (r : List (List (List ℕ))). map (λ (row : List (List ℕ)). slice_index_or row place []) r) e
    ∙ map-map (λ (row : List (List ℕ)). slice_index_or row place []) (keys_by shape past) (range_with_len 1 shape.members)

pub keys-count : (shape : Shape) (past : List (List ℕ)) (place : ℕ) → length (keys_said shape past place) ≡ shape.members
keys-count shape past place = length-map-range_with_len (key_said shape past place) 1 shape.members

-- as a call has it
pub column-said : (shape : Shape) (past : List (List ℕ)) (given rows : List (List (List ℕ))) (place : ℕ) (keys : List (List ℕ))
    → keys ≡ map (λ (row : List (List ℕ)). slice_index_or row place []) given → given ≡ rows
    → rows ≡ map (keys_by shape past) (range_with_len 1 shape.members)
    → keys ≡ keys_said shape past place
column-said shape past given rows place keys is same are =
    is ∙ ap (λ (r : List (List (List ℕ))). map (λ (row : List (List ℕ)). slice_index_or row place []) r) same
    ∙ column-of shape past rows place are

pub column-count : (shape : Shape) (past : List (List ℕ)) (place : ℕ) (keys : List (List ℕ)) → keys ≡ keys_said shape past place
    → length keys ≡ shape.members
column-count shape past place keys is = ap (λ (t : List (List ℕ)). length t) is ∙ keys-count shape past place
