-- One layer more, and one turn more.
use Rattle.std.proofs.Common.{◌≡◌, ℕ, zero, suc, ◌+◌, ◌-◌, ◌<◌, ◌≤◌, List, [], ◌∷◌, ◌++◌, length, take, Bool, true, false, Option, Some, None, refl, sym, ap, ◌∙◌, arith}
use Rattle.std.specs.Prelude.{if◌then◌else◌}
use Rattle.std.specs.Option.{option_and_then, option_map}
use Rattle.std.specs.Str.{bytes_eq}
use Rattle.std.proofs.lemmas.Slice.Eq.{bytes_eq-Decides}
use Rattle.ring_encrypt.specs.Capsule.{key_of_seed}
use Rattle.layer_cipher.specs.Layer.{Opens, opened_through, peeled}
use Rattle.layer_cipher.specs.Stripping.{stripped}
use Rattle.layer_cipher.proofs.LayerLemmas.{layer_adds}
use Rattle.stage_log.proofs.Pasts.{option_map-some}
use Rattle.shuffle_blame.specs.Rules.{body_under, list_in_order}
use Rattle.shuffle_blame.specs.Replay.{Inquiry, body_in, has_layer, inside, is_order_of, is_passed, is_turn, list_after, list_of, outer_seed, outer_seeds, own_layer_seed, submission, submit_stage}
use Rattle.shuffle_blame.proofs.Layers.{opened-nil, opened-push, seeds-next}

-- ---- layers

under-some : (m : List ℕ) (o : Option (List ℕ × List ℕ)) (body : List ℕ) → Some body ≡ body_under m o → o ≡ Some (m, body)
under-some m None body e = absurd cc
under-some m (Some found) body e = by_test (bytes_eq found.0 m) refl e
  where
    by_test : (b : Bool) → bytes_eq found.0 m ≡ b → Some body ≡ (if b then Some found.1 else None) → Some found ≡ Some (m, body)
    by_test true is e =
        let carried : found.0 ≡ m = (bytes_eq-Decides found.0 m).0 is in
        let inner : found.1 ≡ body = cc in
        ap (λ (x : List ℕ). Some (x, found.1)) carried ∙ ap (λ (x : List ℕ). Some (m, x)) inner
    by_test false is e = absurd cc

under-none : (m : List ℕ) (o : Option (List ℕ × List ℕ)) → None ≡ body_under m o
    → is_passed (λ x. bytes_eq x m) (option_map (λ (found : List ℕ × List ℕ). found.0) o) ≡ false
under-none m None e = refl
under-none m (Some found) e = by_test (bytes_eq found.0 m) refl e
  where
    by_test : (b : Bool) → bytes_eq found.0 m ≡ b → None ≡ (if b then Some found.1 else None) → bytes_eq found.0 m ≡ false
    by_test true is e = absurd cc
    by_test false is e = is

-- what a layer carries, by what is left above it
carried : (q : Inquiry) (shuffle member layer : ℕ) (bytes : List ℕ) → inside q (submission q member) (layer - 1) ≡ Some bytes
    → has_layer q shuffle member layer
    ≡ is_passed (λ m. bytes_eq m (own_layer_seed q shuffle member layer))
    (option_map (λ (found : List ℕ × List ℕ). found.0) (peeled (outer_seed q layer) bytes))
carried q shuffle member layer bytes is =
    ap (λ (o : Option (List ℕ)). is_passed (λ m. bytes_eq m (own_layer_seed q shuffle member layer))
    (option_map (λ (found : List ℕ × List ℕ). found.0) (option_and_then (peeled (outer_seed q layer)) o))) is

pub nothing-off : (q : Inquiry) (member : ℕ) → inside q (submission q member) 0 ≡ Some (submission q member)
nothing-off q member = ap (option_map (λ (found : List (List ℕ) × List ℕ). found.1)) (opened-nil (submission q member))

pub layer-next : (q : Inquiry) (shuffle member layer : ℕ) (bytes body : List ℕ) → 1 ≤ layer → layer ≤ length q.shown
    → inside q (submission q member) (layer - 1) ≡ Some bytes
    → Some body ≡ body_under (own_layer_seed q shuffle member layer) (peeled (outer_seed q layer) bytes)
    → (inside q (submission q member) layer ≡ Some body) × (has_layer q shuffle member layer ≡ true)
layer-next q shuffle member layer bytes body least most is e =
    let own : List ℕ = own_layer_seed q shuffle member layer in
    let seed : List ℕ = outer_seed q layer in
    let front : List (List ℕ) = take (layer - 1) (outer_seeds q) in
    let found : peeled seed bytes ≡ Some (own, body) = under-some own (peeled seed bytes) body e in
    let so_far = option_map-some (λ (found : List (List ℕ) × List ℕ). found.1) (opened_through front (submission q member)) bytes is in
    let through : opened_through front (submission q member) ≡ Some (so_far.0.0, bytes) = so_far.1
    ∙ ap (λ (b : List ℕ). Some (so_far.0.0, b)) so_far.2 in
    let more = opened-push front seed (submission q member) bytes own body so_far.0.0 through found in
    let place : layer - 1 + 1 ≡ layer = omega arith in
    let seeds : take layer (outer_seeds q) ≡ front ++ seed ∷ []
    = ap (λ (k : ℕ). take k (outer_seeds q)) (sym place) ∙ seeds-next q (layer - 1) (omega arith)
    ∙ ap (λ (k : ℕ). front ++ outer_seed q k ∷ []) place in (
      ap (option_map (λ (found : List (List ℕ) × List ℕ). found.1))
          (ap (λ (s : List (List ℕ)). opened_through s (submission q member)) seeds ∙ more),
      carried q shuffle member layer bytes is
          ∙ ap (λ (o : Option (List ℕ × List ℕ)). is_passed (λ m. bytes_eq m own) (option_map (λ (found : List ℕ × List ℕ). found.0) o))
          found
          ∙ (bytes_eq-Decides own own).1 refl,
    )

pub layer-stops : (q : Inquiry) (shuffle member layer : ℕ) (bytes : List ℕ) → inside q (submission q member) (layer - 1) ≡ Some bytes
    → None ≡ body_under (own_layer_seed q shuffle member layer) (peeled (outer_seed q layer) bytes)
    → has_layer q shuffle member layer ≡ false
layer-stops q shuffle member layer bytes is e =
    carried q shuffle member layer bytes is ∙ under-none (own_layer_seed q shuffle member layer) (peeled (outer_seed q layer) bytes) e

-- a body is shorter than its layer
pub body-short : (seed layer m body : List ℕ) (n : ℕ) → Opens seed layer m body → length layer < n → length body < n
body-short seed layer m body n opens lt = omega (
  arith,
  ap (λ (bytes : List ℕ). length bytes) opens.is,
  layer_adds (key_of_seed seed) m
      body,
)

-- ---- turns

order-some : (bodies said : Option (List (List ℕ))) (list : List (List ℕ)) → Some list ≡ list_in_order bodies said
    → (is_order_of bodies said ≡ true) × (said ≡ Some list)
order-some bodies said list e = by_test (is_order_of bodies said) refl e
  where
    by_test : (b : Bool) → is_order_of bodies said ≡ b → Some list ≡ (if b then said else None) → (is_order_of bodies said ≡ true)
        × (said ≡ Some list)
    by_test true is e = (is, sym e)
    by_test false is e = absurd cc

order-none : (bodies said : Option (List (List ℕ))) → None ≡ list_in_order bodies said → is_order_of bodies said ≡ false
order-none bodies None e = nothing bodies
  where
    nothing : (o : Option (List (List ℕ))) → is_order_of o None ≡ false
    nothing None = refl
    nothing (Some list) = refl
order-none bodies (Some list) e = by_test (is_order_of bodies (Some list)) refl e
  where
    by_test : (b : Bool) → is_order_of bodies (Some list) ≡ b → None ≡ (if b then Some list else None)
        → is_order_of bodies (Some list) ≡ false
    by_test true is e = absurd cc
    by_test false is e = is

list-after : (q : Inquiry) (turn : ℕ) → 1 ≤ turn → list_after q turn ≡ list_of (body_in q (submit_stage q + turn) turn)
list-after q zero least = absurd (omega arith)
list-after q (suc turn) least = refl

-- a turn, by the list before it
turn-is : (q : Inquiry) (turn : ℕ) (input : List (List ℕ)) → 1 ≤ turn → list_after q (turn - 1) ≡ Some input
    → is_turn q turn ≡ is_order_of (stripped (outer_seed q turn) input) (list_of (body_in q (submit_stage q + turn) turn))
turn-is q turn input least is =
    ap (λ (o : Option (List (List ℕ))). is_order_of (option_and_then (stripped (outer_seed q turn)) o) (list_after q turn)) is
    ∙ ap (is_order_of (stripped (outer_seed q turn) input)) (list-after q turn least)

pub turn-next : (q : Inquiry) (turn : ℕ) (input output : List (List ℕ)) → 1 ≤ turn → list_after q (turn - 1) ≡ Some input
    → Some output ≡ list_in_order (stripped (outer_seed q turn) input) (list_of (body_in q (submit_stage q + turn) turn))
    → (is_turn q turn ≡ true) × (list_after q turn ≡ Some output)
turn-next q turn input output least is e =
    let found = order-some (stripped (outer_seed q turn) input) (list_of (body_in q (submit_stage q + turn) turn)) output e in
    (turn-is q turn input least is ∙ found.0, list-after q turn least ∙ found.1)

pub turn-stops : (q : Inquiry) (turn : ℕ) (input : List (List ℕ)) → 1 ≤ turn → list_after q (turn - 1) ≡ Some input
    → None ≡ list_in_order (stripped (outer_seed q turn) input) (list_of (body_in q (submit_stage q + turn) turn)) → is_turn q turn ≡ false
turn-stops q turn input least is e =
    turn-is q turn input least is ∙ order-none (stripped (outer_seed q turn) input) (list_of (body_in q (submit_stage q + turn) turn)) e
